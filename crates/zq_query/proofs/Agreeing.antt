-- Letting go by two tests that agree on what the map of places has.
use Rattle.std.proofs.Common.{◌≡◌, ℕ, Bool, true, false, cond, List, [], ◌∷◌, ap, ◌∙◌, refl, sym}
use Rattle.std.specs.Prelude.{map, not, ◌||◌, ◌==◌}
use Rattle.std.specs.List.{filter, AllByRecursion}
use Rattle.zq_query.specs.declared.queries.Open.{Open}
use Rattle.zq_query.specs.declared.queries.Owed.{Owed}
use Rattle.zq_query.specs.Records.{Record, Pending, without, is_left, letting_go, letting_go_all}
use Rattle.zq_query.specs.Polling.{is_among}
use Rattle.zq_query.specs.Tables.{Dues, Place, is_of, entry_of, record_of, records_of, IsTied}
use Rattle.zq_query.proofs.Entries.{map_both, map_each}
use Rattle.zq_query.proofs.Fusion.{all_fused, all_left}

pub all_in : (l : List Pending) → filter (λ e. not false) l ≡ l
all_in [] = refl
all_in (e ∷ l) = ap (λ z. e ∷ z) (all_in l)

module _ (p q : Pending → Bool) where
  left_by : (n : ℕ) (e : Place × Owed) (es : List (Place × Owed)) (b : Bool) → (e.1.number == n) ≡ b → ((e.1.number == n) ≡ true → p (entry_of e) ≡ q (entry_of e))
      → filter (λ x. not (p x)) (map entry_of (filter (is_of n) es)) ≡ filter (λ x. not (q x)) (map entry_of (filter (is_of n) es))
      → filter (λ x. not (p x)) (map entry_of (cond b (e ∷ filter (is_of n) es) (filter (is_of n) es))) ≡ filter (λ x. not (q x)) (map entry_of (cond b (e ∷ filter (is_of n) es) (filter (is_of n) es)))
  left_by n e es true t agree ih = λ j. cond (not (agree t j)) (entry_of e ∷ ih j) (ih j)
  left_by n e es false t agree ih = ih

  left_agree : (n : ℕ) (es : List (Place × Owed)) → AllByRecursion (λ e. (e.1.number == n) ≡ true → p (entry_of e) ≡ q (entry_of e)) es → filter (λ x. not (p x)) (map entry_of (filter (is_of n) es)) ≡ filter (λ x. not (q x)) (map entry_of (filter (is_of n) es))
  left_agree n [] all = refl
  left_agree n (e ∷ es) all = left_by n e es (e.1.number == n) refl all.0 (left_agree n es all.1)

  -- on the entries of one request
  pub without_agree : (pending : List (Place × Owed)) (replies : List (ℕ × ℕ)) (h : ℕ × Open) → AllByRecursion (λ e. (e.1.number == h.0) ≡ true → p (entry_of e) ≡ q (entry_of e)) pending → without p (record_of pending replies h) ≡ without q (record_of pending replies h)
  without_agree pending replies h all = ap (λ l. record (record_of pending replies h) { pending = l }) (left_agree h.0 pending all)

  weaker : (n : ℕ) (es : List (Place × Owed)) → AllByRecursion (λ e. p (entry_of e) ≡ q (entry_of e)) es → AllByRecursion (λ e. (e.1.number == n) ≡ true → p (entry_of e) ≡ q (entry_of e)) es
  weaker n [] all = tt
  weaker n (e ∷ es) all = (λ _. all.0, weaker n es all.1)

  -- on all entries
  pub letting_agree : (heads : List (ℕ × Open)) (pending : List (Place × Owed)) (replies : List (ℕ × ℕ)) → AllByRecursion (λ e. p (entry_of e) ≡ q (entry_of e)) pending → letting_go p (records_of heads pending replies) ≡ letting_go q (records_of heads pending replies)
  letting_agree heads pending replies all = ap (filter is_left)
      (map_both (without p) (record_of pending replies) heads
      ∙ map_each (λ h. without p (record_of pending replies h)) (λ h. without q (record_of pending replies h)) (λ h. without_agree pending replies h (weaker h.0 pending all)) heads
      ∙ sym (map_both (without q) (record_of pending replies) heads))

keeps_record : (r : Record) → without (λ _. false) r ≡ r
keeps_record r = ap (λ l. record r { pending = l }) (all_in r.pending)

pub keeps_all : (rs : List Record) → map (without (λ _. false)) rs ≡ rs
keeps_all [] = refl
keeps_all (r ∷ rs) = λ j. keeps_record r j ∷ keeps_all rs j

-- the entries at some places are let go, where these are those that pass
pub letting_all : (heads : List (ℕ × Open)) (pending : List (Place × Owed)) (dues : Dues) (replies : List (ℕ × ℕ)) (p : Pending → Bool) (places : List (ℕ × ℕ)) → IsTied heads pending dues replies
    → AllByRecursion (λ e. is_among places (entry_of e) ≡ p (entry_of e)) pending → letting_go_all (records_of heads pending replies) places ≡ letting_go p (records_of heads pending replies)
letting_all heads pending dues replies p places tied all =
    ap (λ rs. letting_go_all rs places) (sym (ap (filter is_left) (keeps_all (records_of heads pending replies)) ∙ all_left heads pending dues replies tied))
    ∙ all_fused (λ _. false) places (records_of heads pending replies)
    ∙ letting_agree (λ e. false || is_among places e) p heads pending replies all
