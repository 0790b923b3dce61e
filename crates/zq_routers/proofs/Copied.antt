-- Copies of the keys of routers.
use Rattle.std.proofs.Common.{◌≡◌, ◌∙◌, sym, ap, ℕ, refl, Bool, true, false, cond, List, [], ◌∷◌, Some}
use Rattle.std.specs.Prelude.{String, string_bytes}
use Rattle.std.specs.Option.{is_some, option_map_or}
use Rattle.std.specs.List.{AllByRecursion, AllZip}
use Rattle.std.specs.Map.{lookup}
use Rattle.std.specs.BTreeMap.{is_at}
use Rattle.std.specs.BTreeSet.{BTreeSet, contains_text}
use Rattle.std.specs.Ordering.{nat_cmp}
use Rattle.std.specs.declared.alloc.Global.{Global}
use Rattle.zq_key.specs.Key.{is_key}
use Rattle.zq_key.proofs.Lookups.{each_entry}
use Rattle.zq_index.specs.Texts.{has_text}
use Rattle.zq_index.proofs.Orders.{text_total, text_exact}
use Rattle.zq_index.proofs.Texts.{texts_same}
use Rattle.zq_strategy.specs.Entries.{Entries, RouterKeys, AreAlike, IsTied, has_key}
use Rattle.zq_routers.proofs.Gathering.{contains_is}

-- each router has the same strings, one by one
abbrev pub SameStrings : ℕ × BTreeSet (String Global) → ℕ × BTreeSet (String Global) → Type 0
SameStrings e f = (f.0 ≡ e.0) × AllZip (λ s t. string_bytes t ≡ string_bytes s) e.1.keys f.1.keys

same_by : (z : ℕ) (k : List ℕ) (e f : ℕ × BTreeSet (String Global)) (es fs : RouterKeys) (b : Bool) → contains_text f.1 k ≡ contains_text e.1 k → has_key z k fs ≡ has_key z k es
    → option_map_or (λ keys. contains_text keys k) (cond b (Some f.1) (lookup (is_at (nat_cmp z)) fs)) false ≡ option_map_or (λ keys. contains_text keys k) (cond b (Some e.1) (lookup (is_at (nat_cmp z)) es)) false
same_by z k e f es fs true same ih = same
same_by z k e f es fs false same ih = ih

pub copied_alike : (es fs : RouterKeys) → AllZip SameStrings es fs → AreAlike es fs
copied_alike [] [] same z k = refl
copied_alike [] (f ∷ fs) same z k = absurd same
copied_alike (e ∷ es) [] same z k = absurd same
copied_alike (e ∷ es) (f ∷ fs) same z k =
    ap (λ n. option_map_or (λ keys. contains_text keys k) (cond (is_at (nat_cmp z) n) (Some f.1) (lookup (is_at (nat_cmp z)) fs)) false) same.0.0
    ∙ same_by z k e f es fs (is_at (nat_cmp z) e.0) (sym (contains_is f.1 k) ∙ ap (has_text k) (texts_same e.1.keys f.1.keys same.0.1) ∙ contains_is e.1 k) (copied_alike es fs same.1 z k)

-- each entry's text is a key
pub all_keys : (all : Entries) (routers : RouterKeys) → IsTied all routers → AllByRecursion (λ e. is_key e.0 ≡ true) all
all_keys all routers tied = each_entry text_total text_exact (λ e. is_key e.0 ≡ true) all tied.ordered.texts (λ key es is. tied.keys key (ap is_some is))
