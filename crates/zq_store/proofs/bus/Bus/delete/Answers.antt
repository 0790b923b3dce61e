use Rattle.std.proofs.Common.{◌∙◌, ap}
use Rattle.std.specs.Prelude.{slice_get}
use Rattle.zq_store.specs.Bus.{BusState}
use Rattle.zq_store.specs.Held.{delete}
use Rattle.zq_store.specs.Stores.{change_at, refusal_at}
use Rattle.zq_store.proofs.Keeping.{changed_goes, delete_keeps}
use Rattle.zq_store.proofs.bus.Bus.delete.Goals as goal

pub invariant_of-self : goal.invariant_of-self
invariant_of-self c =
    let i = c.self.inside in
    let store = c.args.store.0 in
    let key = c.args.key.now in
    let b : BusState = record { gateway = i.gateway.state; asker = i.asker; next_face = i.next_face; next_request = i.next_request; next_reply = i.next_reply; stores = i.stores; spent = i.spent } in
    changed_goes c.delete.result b c.delete.new.self (change_at store (delete key) i.stores) (refusal_at key (slice_get i.stores store)) c.delete.ensures.new c.delete.ensures.kept c.delete.ensures.refused (λ free. delete_keeps store key b c.self.invariant) c.self.invariant

pub returns-clause-served : goal.returns-clause-served
returns-clause-served c =
    let i = c.self.inside in
    let store = c.args.store.0 in
    let key = c.args.key.now in
    let b : BusState = record { gateway = i.gateway.state; asker = i.asker; next_face = i.next_face; next_request = i.next_request; next_reply = i.next_reply; stores = i.stores; spent = i.spent } in
    λ e. (changed_goes c.delete.result b c.delete.new.self (change_at store (delete key) i.stores) (refusal_at key (slice_get i.stores store)) c.delete.ensures.new c.delete.ensures.kept c.delete.ensures.refused (λ free. delete_keeps store key b c.self.invariant) c.self.invariant).served (ap (λ (x : BusState). x.spent) c.self.view_is ∙ e)
