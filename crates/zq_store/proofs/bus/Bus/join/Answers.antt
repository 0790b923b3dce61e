use Rattle.std.proofs.Common.{◌≡◌, ◌∙◌, ◌+◌, ◌++◌, ◌∷◌, [], None, true, ap, subst, sym}
use Rattle.zq_key.specs.Key.{is_key}
use Rattle.zq_store.specs.Bus.{BusState, IsBus, IsServed, add_refusal, added}
use Rattle.zq_store.proofs.Keeping.{added_keeps}
use Rattle.zq_store.proofs.Served.{added_served, joined, unspent}
use Rattle.zq_store.proofs.bus.Bus.join.Goals as goal

pub invariant_of-self-2 : goal.invariant_of-self-2
invariant_of-self-2 c =
    let i = c.self.inside in
    let key = c.args.key.now in
    let b : BusState = record { gateway = i.gateway.state; asker = i.asker; next_face = i.next_face; next_request = i.next_request; next_reply = i.next_reply; stores = i.stores; spent = i.spent } in
    let free : add_refusal b ≡ None = ap add_refusal c.self.view_is ∙ c.requires.free in
    let keyed : is_key key ≡ true = ap is_key (sym c.as_str-text.ensures.text) ∙ c.as_str-text.ensures.key in
    let stores = c.in_ok-push.ensures.ok ∙ ap (λ s. i.stores ++ s ∷ []) c.in_ok-storage.ensures.storage in
    subst IsBus (sym (joined key c.args.complete b c.join.new.gateway.state c.push.new.self c.in_ok-storage.ensures.after stores free)) (added_keeps key c.args.complete b c.self.invariant free keyed)

pub returns-clause-new : goal.returns-clause-new
returns-clause-new c =
    let i = c.self.inside in
    let key = c.args.key.now in
    let b : BusState = record { gateway = i.gateway.state; asker = i.asker; next_face = i.next_face; next_request = i.next_request; next_reply = i.next_reply; stores = i.stores; spent = i.spent } in
    let free : add_refusal b ≡ None = ap add_refusal c.self.view_is ∙ c.requires.free in
    let stores = c.in_ok-push.ensures.ok ∙ ap (λ s. i.stores ++ s ∷ []) c.in_ok-storage.ensures.storage in
    joined key c.args.complete b c.join.new.gateway.state c.push.new.self c.in_ok-storage.ensures.after stores free ∙ ap (added key c.args.complete) c.self.view_is

pub returns-clause-served : goal.returns-clause-served
returns-clause-served c =
    let key = c.args.key.now in
    let bus : IsBus c.args.self.now = subst IsBus c.self.view_is c.self.invariant in
    let keyed : is_key key ≡ true = ap is_key (sym c.as_str-text.ensures.text) ∙ c.as_str-text.ensures.key in
    subst IsServed (sym (returns-clause-new c)) (added_served key c.args.complete c.args.self.now bus.next (bus.served (unspent c.args.self.now c.requires.free)) c.requires.free keyed)
