-- For the bodies: the entries of requests that did not leave are let go one after another.
use Rattle.std.proofs.Common.{◌≡◌, ◌∙◌, refl, sym, ap, Bool, true, false, cond, not, List, [], ◌∷◌}
use Rattle.std.specs.Prelude.{◌&&◌, ◌||◌}
use Rattle.std.specs.List.{filter}
use Rattle.std.proofs.lemmas.Bool.{false≢true}
use Rattle.zq_query.proofs.Balance.{letting_none_over}
use Rattle.zq_query.specs.Records.{Pending, Record, any_over, is_entry, is_left, is_none_left, is_over, letting_go, letting_go_all, without}
use Rattle.zq_machine.specs.Writing.{Place, is_unsent}
use Rattle.zq_machine.proofs.Sending.{none_let_go}

module _ (p q : Pending → Bool) where
  abbrev either : Pending → Bool
  either e = p e || q e

  left_twice : (es : List Pending) → filter (λ e. not (q e)) (filter (λ e. not (p e)) es) ≡ filter (λ e. not (either e)) es
  left_twice [] = refl
  left_twice (e ∷ es) = by (p e) (left_twice es)
    where
      by : (b : Bool) → filter (λ x. not (q x)) (filter (λ x. not (p x)) es) ≡ filter (λ x. not (either x)) es
          → filter (λ x. not (q x)) (cond (not b) (e ∷ filter (λ x. not (p x)) es) (filter (λ x. not (p x)) es)) ≡ cond (not (b || q e)) (e ∷ filter (λ x. not (either x)) es) (filter (λ x. not (either x)) es)
      by true more = more
      by false more = ap (λ l. cond (not (q e)) (e ∷ l) l) more

  twice : (r : Record) → without q (without p r) ≡ without either r
  twice r = ap (λ es. record r { pending = es }) (left_twice r.pending)

  still_over : (es : List Pending) (b : Bool) → (is_none_left es && b) ≡ true → (is_none_left (filter (λ e. not (q e)) es) && b) ≡ true
  still_over [] b over = over
  still_over (e ∷ es) b over = absurd (false≢true over)

  -- entries that pass one of two tests are let go by one test and then by the other
  both_let_go : (rs : List Record) → letting_go q (letting_go p rs) ≡ letting_go either rs
  both_let_go [] = refl
  both_let_go (r ∷ rs) =
      by (is_over (without p r)) refl (both_let_go rs)
      ∙ ap (λ (x : Record). cond (is_left x) (x ∷ letting_go either rs) (letting_go either rs)) (twice r)
    where
      r1 : Record
      r1 = without p r

      by : (b : Bool) → is_over r1 ≡ b → letting_go q (letting_go p rs) ≡ letting_go either rs
          → letting_go q (cond (not b) (r1 ∷ letting_go p rs) (letting_go p rs)) ≡ cond (is_left (without q r1)) (without q r1 ∷ letting_go either rs) (letting_go either rs)
      by true over more = more ∙ sym (ap (λ c. cond (not c) (without q r1 ∷ letting_go either rs) (letting_go either rs)) (still_over r1.pending (is_none_left r1.in_flight) over))
      by false over more = ap (λ l. cond (is_left (without q r1)) (without q r1 ∷ l) l) more

-- so all that did not leave are let go
pub one_by_one : (places : List Place) (rs : List Record) → any_over rs ≡ false → letting_go (is_unsent places) rs ≡ letting_go_all rs places
one_by_one [] rs standing = none_let_go [] rs standing tt
one_by_one (x ∷ places) rs standing =
    sym (both_let_go (is_entry x.0 x.1) (is_unsent places) rs)
    ∙ one_by_one places (letting_go (is_entry x.0 x.1) rs) (letting_none_over (is_entry x.0 x.1) rs)
