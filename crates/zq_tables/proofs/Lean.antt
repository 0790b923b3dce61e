-- No node is there for nothing: what a hold and its end do to idle entries.
use Rattle.std.proofs.Common.{◌≡◌, ℕ, ◌<◌, Bool, true, false, cond, eqb, List, [], ◌∷◌, length, get_or, None, refl, sym, ap, subst, ◌∙◌, arith}
use Rattle.std.specs.List.{Contains}
use Rattle.std.proofs.lemmas.List.{get_or-map, length-map}
use Rattle.std.proofs.lemmas.Bool.Decides.{nat_tests}
use Rattle.zq_names.specs.Texts.{IsBelow}
use Rattle.zq_names.specs.Names.{NameEntry, IsIdle, texts, text_at, entry_of, change_at, with_hold, without_hold}
use Rattle.zq_names.specs.Idle.{NoneIdle, IdleAt}
use Rattle.zq_names.proofs.Idling.{kept_field}

-- a table of the root alone
pub root_lean : (ns : List NameEntry) → texts ns ≡ [] ∷ [] → NoneIdle ns
root_lean ns root k lt idle =
    let one : length ns ≡ 1 = sym (length-map ns (λ (e : NameEntry). e.text)) ∙ ap length root in
    omega (arith, one, lt, idle.past_root)

module _ (ns : List NameEntry) (i : ℕ) (f : NameEntry → NameEntry) (keeps_text : (e : NameEntry) → (f e).text ≡ e.text) (keeps_id : (e : NameEntry) → (f e).id ≡ e.id) where
  same_texts : texts (change_at ns i f) ≡ texts ns
  same_texts = kept_field (λ e. e.text) f ns i keeps_text

  pub length_now : length (change_at ns i f) ≡ length ns
  length_now = length-map ns (λ (e : NameEntry). cond (eqb e.id i) (f e) e)

  entry_now : (k : ℕ) → k < length ns → get_or (change_at ns i f) k (entry_of 0 None) ≡ cond (eqb (get_or ns k (entry_of 0 None)).id i) (f (get_or ns k (entry_of 0 None))) (get_or ns k (entry_of 0 None))
  entry_now k lt = get_or-map (λ (e : NameEntry). cond (eqb e.id i) (f e) e) ns k (entry_of 0 None) (entry_of 0 None) lt

  -- an entry of another number is idle if it was
  pub idle_before : (k : ℕ) → k < length ns → eqb (get_or ns k (entry_of 0 None)).id i ≡ false → IsIdle (change_at ns i f) k → IsIdle ns k
  idle_before k lt other idle =
      let e = get_or ns k (entry_of 0 None) in
      let same : get_or (change_at ns i f) k (entry_of 0 None) ≡ e = entry_now k lt ∙ ap (λ b. cond b (f e) e) other in
      let text : text_at (change_at ns i f) k ≡ text_at ns k = ap (λ ts. get_or ts k []) same_texts in
      record {
        past_root = idle.past_root;
        unheld = ap (λ (x : NameEntry). x.holds) (sym same) ∙ idle.unheld;
        lonely = λ has.
            let C : List (List ℕ) → Type 0 = λ (ts : List (List ℕ)). Contains ts has.0 in
            let B : List ℕ → Type 0 = λ (t : List ℕ). IsBelow t has.0 in
            idle.lonely (has.0, subst C (sym same_texts) has.1, subst B (sym text) has.2);
      }

  pub id_now : (k : ℕ) → k < length ns → (get_or (change_at ns i f) k (entry_of 0 None)).id ≡ (get_or ns k (entry_of 0 None)).id
  id_now k lt =
      ap (λ (x : NameEntry). x.id) (entry_now k lt) ∙ by (eqb (get_or ns k (entry_of 0 None)).id i)
    where
      by : (b : Bool) → (cond b (f (get_or ns k (entry_of 0 None))) (get_or ns k (entry_of 0 None))).id ≡ (get_or ns k (entry_of 0 None)).id
      by true = keeps_id (get_or ns k (entry_of 0 None))
      by false = refl

  pub holds_now : (k : ℕ) → k < length ns → eqb (get_or ns k (entry_of 0 None)).id i ≡ true → (get_or (change_at ns i f) k (entry_of 0 None)).holds ≡ (f (get_or ns k (entry_of 0 None))).holds
  holds_now k lt here =
      let e = get_or ns k (entry_of 0 None) in
      ap (λ (x : NameEntry). x.holds) (entry_now k lt ∙ ap (λ b. cond b (f e) e) here)

-- what is held isn't idle
pub lean_held : (names names' : List NameEntry) (r : ℕ) → names' ≡ change_at names r with_hold → IdleAt names r → NoneIdle names'
lean_held names names' r is only =
    let N : List NameEntry → Type 0 = NoneIdle in
    subst N (sym is) (λ k lt idle.
    let in_k : k < length names = omega (arith, lt, length_now names r with_hold (λ e. refl) (λ e. refl)) in
    by k in_k idle (eqb (get_or names k (entry_of 0 None)).id r) refl)
  where
    by : (k : ℕ) → k < length names → IsIdle (change_at names r with_hold) k → (b : Bool) → eqb (get_or names k (entry_of 0 None)).id r ≡ b → ⊥
    by k lt idle true here = omega (arith, idle.unheld, holds_now names r with_hold (λ e. refl) (λ e. refl) k lt here)
    by k lt idle false other =
        let same = only k lt (idle_before names r with_hold (λ e. refl) (λ e. refl) k lt other idle) in
        let here : eqb (get_or names k (entry_of 0 None)).id r ≡ true = grind (arith, nat_tests) in
        grind (arith, nat_tests)

-- where a hold ends, that node alone may be idle
pub lean_unheld : (names names' : List NameEntry) (n : ℕ) → names' ≡ change_at names n without_hold → NoneIdle names → IdleAt names' n
lean_unheld names names' n is none =
    let I : List NameEntry → Type 0 = λ (ns : List NameEntry). IdleAt ns n in
    subst I (sym is) (λ k lt idle.
    let in_k : k < length names = omega (arith, lt, length_now names n without_hold (λ e. refl) (λ e. refl)) in
    id_now names n without_hold (λ e. refl) (λ e. refl) k in_k ∙ by k in_k idle (eqb (get_or names k (entry_of 0 None)).id n) refl)
  where
    by : (k : ℕ) → k < length names → IsIdle (change_at names n without_hold) k → (b : Bool) → eqb (get_or names k (entry_of 0 None)).id n ≡ b → (get_or names k (entry_of 0 None)).id ≡ n
    by k lt idle true here = grind (arith, nat_tests)
    by k lt idle false other = absurd (none k lt (idle_before names n without_hold (λ e. refl) (λ e. refl) k lt other idle))
