use Rattle.std.proofs.Common.{◌∙◌, ap}
use Rattle.std.specs.Prelude.{slice_get}
use Rattle.zq_store.specs.Bus.{BusState}
use Rattle.zq_store.specs.Held.{put}
use Rattle.zq_store.specs.Stores.{change_at, refusal_at}
use Rattle.zq_store.proofs.Keeping.{changed_goes, put_keeps}
use Rattle.zq_store.proofs.bus.Bus.put.Goals as goal

pub invariant_of-self : goal.invariant_of-self
invariant_of-self c =
    let i = c.self.inside in
    let store = c.args.store.0 in
    let key = c.args.key.now in
    let value = c.args.value.now in
    let b : BusState = record { gateway = i.gateway.state; asker = i.asker; next_face = i.next_face; next_request = i.next_request; next_reply = i.next_reply; stores = i.stores; spent = i.spent } in
    changed_goes c.put.result b c.put.new.self (change_at store (put key value) i.stores) (refusal_at key (slice_get i.stores store)) c.put.ensures.new c.put.ensures.kept c.put.ensures.refused (λ free. put_keeps store key value b free c.self.invariant) c.self.invariant

pub returns-clause-served : goal.returns-clause-served
returns-clause-served c =
    let i = c.self.inside in
    let store = c.args.store.0 in
    let key = c.args.key.now in
    let value = c.args.value.now in
    let b : BusState = record { gateway = i.gateway.state; asker = i.asker; next_face = i.next_face; next_request = i.next_request; next_reply = i.next_reply; stores = i.stores; spent = i.spent } in
    λ e. (changed_goes c.put.result b c.put.new.self (change_at store (put key value) i.stores) (refusal_at key (slice_get i.stores store)) c.put.ensures.new c.put.ensures.kept c.put.ensures.refused (λ free. put_keeps store key value b free c.self.invariant) c.self.invariant).served (ap (λ (x : BusState). x.spent) c.self.view_is ∙ e)
