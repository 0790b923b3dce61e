-- What is escaped has no markup, and what is shown is printed.
use Rattle.std.proofs.Common.{◌≡◌, ℕ, ◌<◌, List, [], ◌∷◌, ◌++◌, arith, Bool, true, false, refl, zero, suc}
use Rattle.std.proofs.lemmas.Bool.Decides.{nat_tests}
use Rattle.std.proofs.lemmas.List.Folds.{list_all-append}
use Rattle.std.specs.List.{list_all}
use Rattle.std.specs.Prelude.{◌||◌, All, codes, length, nat_le, take}
use Rattle.std.proofs.lemmas.Bool.{cond_both}
use Rattle.std.proofs.lemmas.List.Elements.{All-head, All-tail}
use Rattle.percent_encoding.specs.AsciiSet.{should_percent_encode}
use Rattle.percent_encoding.specs.declared.ascii_set.TheConstants.{CONTROLS}
use Rattle.percent_encoding.proofs.AsciiSetLemmas.{ascii_from_kept}
use Rattle.percent_encoding.proofs.PercentLemmas.{IsEscapeByte, All-percent_encode}
use Rattle.zq_show.specs.declared.escape.TheConstants.{LABEL}
use Rattle.zq_show.specs.Escape.{cut_words, entity, escaped, is_plain, is_printed, shown, shown_in_page, shown_short}

-- the numbers below one, the greatest first
abbrev below : ℕ → List ℕ
below zero = []
below (suc n) = n ∷ below n

-- a test holds of what is escaped, where it holds of each entity
escaped_by : (p : ℕ → Bool) → ((b : ℕ) → list_all p (entity b) ≡ true) → (bytes : List ℕ) → list_all p (escaped bytes) ≡ true
escaped_by p each [] = refl
escaped_by p each (b ∷ bytes) = rw (list_all-append p (entity b) (escaped bytes), each b, escaped_by p each bytes) refl

entity_is_plain : (b : ℕ) → list_all is_plain (entity b) ≡ true
entity_is_plain b = grind (arith, nat_tests)

pub shown_is_plain : (bytes : List ℕ) → list_all is_plain (shown_in_page bytes) ≡ true
shown_is_plain bytes = escaped_by is_plain entity_is_plain (shown bytes)

-- a byte is printed
IsPrinted : ℕ → Type 0
IsPrinted b = is_printed b ≡ true

-- the byte is a control byte, or it is printed
tried : ℕ → Bool
tried b = should_percent_encode CONTROLS b || is_printed b

each_tried : list_all tried (below 128) ≡ true
unfolding tried should_percent_encode
each_tried = refl

tried_at : (n b : ℕ) → b < n → list_all tried (below n) ≡ true → tried b ≡ true
tried_at zero b small h = absurd (omega arith)
tried_at (suc n) b small h = grind (arith, nat_tests, tried_at n b)

kept_is_printed : (b : ℕ) → should_percent_encode CONTROLS b ≡ false → IsPrinted b
unfolding IsPrinted tried
kept_is_printed b kept = rw kept at (tried_at 128 b (ascii_from_kept CONTROLS b kept) each_tried)

escape_is_printed : (b : ℕ) → IsEscapeByte b → IsPrinted b
unfolding IsPrinted
escape_is_printed b h = grind (arith, nat_tests)

entity_is_printed : (b : ℕ) → IsPrinted b → list_all is_printed (entity b) ≡ true
unfolding IsPrinted
entity_is_printed b h = grind (arith, nat_tests)

printed_by : (bytes : List ℕ) → All IsPrinted bytes → list_all is_printed (escaped bytes) ≡ true
printed_by [] h = refl
printed_by (b ∷ bytes) h =
    rw (list_all-append is_printed (entity b) (escaped bytes), entity_is_printed b (All-head IsPrinted b bytes h), printed_by bytes (All-tail IsPrinted b bytes h)) refl

pub shown_is_printed : (bytes : List ℕ) → list_all is_printed (shown_in_page bytes) ≡ true
shown_is_printed bytes = printed_by (shown bytes) (All-percent_encode IsPrinted CONTROLS bytes kept_is_printed escape_is_printed)

-- what stands in a picture is plain
pub short_is_plain : (most : ℕ) (bytes : List ℕ) → list_all is_plain (shown_short most bytes) ≡ true
short_is_plain most bytes = cut_is_plain (shown bytes)
  where
    cut_is_plain : (text : List ℕ) → list_all is_plain (cut_words most text) ≡ true
    cut_is_plain text =
        cond_both (nat_le (length text) most) (escaped text) (escaped (take most text) ++ codes "&#8230;") (λ w. list_all is_plain w ≡ true)
        (λ _. escaped_by is_plain entity_is_plain text)
        (λ _. rw (list_all-append is_plain (escaped (take most text)) (codes "&#8230;"), escaped_by is_plain entity_is_plain (take most text)) refl)

pub label_is_plain : (bytes : List ℕ) → list_all is_plain (shown_short LABEL bytes) ≡ true
label_is_plain bytes = short_is_plain LABEL bytes

all_printed : (bytes : List ℕ) → All IsPrinted bytes → list_all is_printed bytes ≡ true
unfolding IsPrinted
all_printed [] h = refl
all_printed (b ∷ bytes) h = rw (All-head IsPrinted b bytes h, all_printed bytes (All-tail IsPrinted b bytes h)) refl

-- what stands in a text is printed
pub line_is_printed : (bytes : List ℕ) → list_all is_printed (shown bytes) ≡ true
line_is_printed bytes = all_printed (shown bytes) (All-percent_encode IsPrinted CONTROLS bytes kept_is_printed escape_is_printed)
