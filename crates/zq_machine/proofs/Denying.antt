-- What lists of denied keys bar is not asked for, and all else is.
use Rattle.std.proofs.Common.{◌≡◌, ◌∙◌, refl, ap, ℕ, suc, Bool, true, false, cond, List, [], ◌∷◌, arith}
use Rattle.std.specs.Prelude.{◌&&◌, ◌||◌, Contains}
use Rattle.std.proofs.lemmas.List.Folds.{list_any_at}
use Rattle.std.proofs.Math.Bool.{and-false}
use Rattle.zq_key.specs.Key.{includes, is_key}
use Rattle.zq_namespace.specs.Denied.{is_denied}
use Rattle.zq_tables.specs.declared.resolved.Resolved.{Resolved}
use Rattle.zq_tables.specs.declared.resolved.Resolved.TheVariants as said_word
use Rattle.zq_machine.specs.Behind.{Bars}
use Rattle.zq_machine.specs.Selecting.{says_key}
use Rattle.zq_machine.specs.TextCalls.{allowed}

-- no key of the list includes a text that it does not bar
pub none_denied : (denied : List (List ℕ)) (text : List ℕ) → (Bars denied text → ⊥) → is_denied denied text ≡ false
none_denied [] text free = refl
none_denied (k ∷ ks) text free = by (includes k text) refl (none_denied ks text (λ b. free (b.0, (suc b.1.0, omega (arith, b.1.1), b.1.2), b.2)))
  where
    by : (b : Bool) → includes k text ≡ b → is_denied ks text ≡ false → (b || is_denied ks text) ≡ false
    by true e none = absurd (free (k, (0, omega arith, refl), e))
    by false e none = none

-- and one does that it bars
any_denied : (denied : List (List ℕ)) (text k : List ℕ) → Contains denied k → includes k text ≡ true → is_denied denied text ≡ true
any_denied denied text k (i, l, e) on = list_any_at (λ x. includes x text) denied i k l (ap (λ x. includes x text) e ∙ on)

pub asks_free : (denied : List (List ℕ)) (sd : Resolved) → ((text : List ℕ) → sd ≡ said_word.Full text → Bars denied text → ⊥) → allowed denied sd ≡ sd
asks_free denied said_word.Unscoped free = refl
asks_free denied said_word.Empty free = refl
asks_free denied (said_word.Full text) free =
    ap (λ b. cond (is_key text && b) said_word.Empty (said_word.Full text)) (none_denied denied text (free text refl))
    ∙ ap (λ b. cond b said_word.Empty (said_word.Full text)) (and-false (is_key text))

pub barred_asks : (denied : List (List ℕ)) (text : List ℕ) → Bars denied text → says_key (allowed denied (said_word.Full text)) ≡ false
barred_asks denied text bars = by (is_key text) refl (is_denied denied text) (any_denied denied text bars.0 bars.1 bars.2)
  where
    by : (b : Bool) → is_key text ≡ b → (d : Bool) → d ≡ true → says_key (cond (b && d) said_word.Empty (said_word.Full text)) ≡ false
    by true e true on = refl
    by true e false on = absurd (let gap : false ≡ true = on in cc)
    by false e d on = e
