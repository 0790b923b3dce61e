-- Letting go an entry that is not pending changes nothing.
use Rattle.std.proofs.Common.{◌≡◌, ℕ, false, List, [], ◌∷◌, ap, ◌∙◌, refl}
use Rattle.std.specs.Prelude.{map, not}
use Rattle.std.specs.List.{filter, list_any}
use Rattle.std.proofs.lemmas.Bool.{or_parts}
use Rattle.zq_query.specs.Records.{Record, Pending, is_entry, has_entry, is_pending, without, is_left, letting_go}

module _ (f i : ℕ) where
  stays : (l : List Pending) → list_any (is_entry f i) l ≡ false → filter (λ e. not (is_entry f i e)) l ≡ l
  stays [] h = refl
  stays (e ∷ l) h = let n = or_parts (is_entry f i e) (list_any (is_entry f i) l) h in rw (n.0) (ap (λ z. e ∷ z) (stays l n.1))

  unchanged_record : (r : Record) → has_entry f i r ≡ false → without (is_entry f i) r ≡ r
  unchanged_record r h = ap (λ l. record r { pending = l }) (stays r.pending h)

  unchanged_records : (rs : List Record) → is_pending f i rs ≡ false → map (without (is_entry f i)) rs ≡ rs
  unchanged_records [] h = refl
  unchanged_records (r ∷ rs) h = let m = or_parts (has_entry f i r) (is_pending f i rs) h in λ j. unchanged_record r m.0 j ∷ unchanged_records rs m.1 j

  -- nothing is let go where nothing is pending
  pub unchanged : (rs : List Record) → is_pending f i rs ≡ false → filter is_left rs ≡ rs → letting_go (is_entry f i) rs ≡ rs
  unchanged rs h left = ap (filter is_left) (unchanged_records rs h) ∙ left
