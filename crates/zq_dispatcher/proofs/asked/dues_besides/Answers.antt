use Rattle.std.proofs.Common.{◌≡◌, ◌∙◌, append_assoc, ap, sym, subst, true, None, ◌++◌, ◌∷◌, [], cond, filter, map, ℕ, Bool, List}
use Rattle.std.specs.Prelude.{string_bytes}
use Rattle.zq_interests.specs.Interests.{without_interest}
use Rattle.zq_told.specs.Rooms.{ears_of}
use Rattle.zq_told.specs.Telling.{KeyDue}
use Rattle.zq_dispatcher.specs.declared.asking.Asking.{Asking}
use Rattle.zq_dispatcher.specs.Asking.{asking_in}
use Rattle.zq_dispatcher.specs.Dues.{AreKeys, due_as, row_as, was_told}
use Rattle.zq_dispatcher.proofs.asked.dues_besides.Goals as goal

abbrev Row : Type 0
Row = List ℕ → KeyDue

-- of keys with one more before them, which passes
put_first : (f : Row) (test : List ℕ → Bool) (k : List ℕ) (ks : List (List ℕ)) → test k ≡ true → f k ∷ map f (filter test ks) ≡ map f (filter test (k ∷ ks))
put_first f test k ks on = sym (ap (λ b. map f (cond b (k ∷ filter test ks) (filter test ks))) on)

pub loop-key-preserved-in-Continue-1 : goal.loop-key-preserved-in-Continue-1
loop-key-preserved-in-Continue-1 c =
    let face = c.args.face.0 in
    let row : Row = row_as (asking_in (without_interest face c.args.id c.args.interests.now) face) face c.args.opened c.args.hats.now in
    let told : List ℕ → Bool = was_told face (ears_of c.args.ears.now) in
    let was : List KeyDue = c.loop-key.dues in
    let text = c.as_str-text.ensures.value in
    let key = string_bytes c.in-Some.key.now in
    let left = map string_bytes c.next.new.self in
    let rest = map row (filter told left) in
    let on : told key ≡ true = ap told (sym text) ∙ sym c.was_told.ensures ∙ c.if-was_told.true in
    record {
      rest =
          ap (λ (ds : List KeyDue). ds ++ rest)
          (c.in_ok-put_due.ensures
          ∙ ap (λ ts. was ++ (c.as_str-text.result.now, due_as c.asks_besides-asks.result None (map string_bytes ts) face c.args.opened c.args.hats.now c.as_str-text.result.now) ∷ []) c.new-touched.ensures.empty
          ∙ ap (λ (a : Asking). was ++ (c.as_str-text.result.now, due_as a None [] face c.args.opened c.args.hats.now c.as_str-text.result.now) ∷ []) c.asks_besides-asks.ensures
          ∙ ap (λ k. was ++ row k ∷ []) text)
          ∙ append_assoc was (row key ∷ []) rest
          ∙ ap (λ l. was ++ l) (put_first row told key left on)
          ∙ sym (ap (λ ks. was ++ map row (filter told (map string_bytes ks))) c.in-Some.ensures.steps)
          ∙ c.loop-key.invariant.rest;
      left = (subst (λ ks. AreKeys (map string_bytes ks)) c.in-Some.ensures.steps c.loop-key.invariant.left).1;
    }
