use Rattle.std.proofs.Common.{◌∙◌, append_assoc, ap, sym, subst, ◌++◌, map, ℕ, List}
use Rattle.std.specs.Prelude.{string_bytes}
use Rattle.std.specs.List.{flat_map}
use Rattle.zq_told.specs.Telling.{KeyDue}
use Rattle.zq_dispatcher.specs.Asked.{looked_due}
use Rattle.zq_dispatcher.specs.Dues.{AreKeys}
use Rattle.zq_dispatcher.proofs.asked.looked_dues.Goals as goal

pub loop-key-preserved : goal.loop-key-preserved
loop-key-preserved c =
    let looks : List ℕ → List KeyDue = looked_due c.args.id c.args.entry.now c.args.face.0 c.args.interests.now c.args.opened c.args.hats.now in
    let was : List KeyDue = c.loop-key.dues in
    let rest = flat_map looks (map string_bytes c.next.new.self) in
    record {
      rest =
          ap (λ (ds : List KeyDue). ds ++ rest) (c.in_ok-put_looked.ensures ∙ ap (λ k. was ++ looks k) c.as_str-text.ensures.value)
          ∙ append_assoc was (looks (string_bytes c.in-Some.key.now)) rest
          ∙ sym (ap (λ ks. was ++ flat_map looks (map string_bytes ks)) c.in-Some.ensures.steps)
          ∙ c.loop-key.invariant.rest;
      left = (subst (λ ks. AreKeys (map string_bytes ks)) c.in-Some.ensures.steps c.loop-key.invariant.left).1;
    }
