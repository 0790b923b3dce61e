-- One chunk covers another as their bytes do.
use Rattle.std.proofs.Common.{◌≡◌, ℕ, true, false, List, [], ◌∷◌, ◌++◌, Option, Some, None, refl, sym, ◌∙◌}
use Rattle.std.proofs.lemmas.Bool.{false≢true}
use lib.Utf8.{encode}
use Rattle.zq_key.specs.Match.{covers_by}
use Rattle.zq_key.specs.Key.{parts_cover}
use Rattle.zq_key.proofs.Spelling.{somes, spell}
use Rattle.zq_key.proofs.Spell.{Reads, word, no_lead, nothing_reads, spelled_run, spelled_characters, read_run, read_characters, both}

covers : Reads parts_cover
unfolding covers_by
covers = record { run_ended = λ a. refl; run = λ a y b. refl; left_over = λ x a. refl; lacking = λ x b. refl; bytes = λ x y a b. refl }

covers-spelled : (a b : List (Option ℕ)) → parts_cover a b ≡ true → parts_cover (spell a) (spell b) ≡ true
unfolding covers_by
covers-spelled [] [] h = refl
covers-spelled [] (y ∷ b) h = absurd (false≢true h)
covers-spelled (None ∷ a) [] h = covers-spelled a [] h
covers-spelled (Some c ∷ a) [] h = absurd (false≢true h)
covers-spelled (None ∷ a) (y ∷ b) h = spelled_run parts_cover covers a y b (covers-spelled a (y ∷ b)) (covers-spelled (None ∷ a) b) h
covers-spelled (Some c ∷ a) (None ∷ b) h = absurd (false≢true h)
covers-spelled (Some c ∷ a) (Some d ∷ b) h = spelled_characters parts_cover covers c d a b (covers-spelled a b) h

no_run : (c : ℕ) (a b : List (Option ℕ)) → parts_cover (somes (encode c) ++ a) (None ∷ b) ≡ false
unfolding covers_by
no_run c a b = rw ((word c).is) refl

covers-read : (a b : List (Option ℕ)) → parts_cover (spell a) (spell b) ≡ true → parts_cover a b ≡ true
unfolding covers_by
covers-read [] [] h = refl
covers-read [] (None ∷ b) h = absurd (false≢true h)
covers-read [] (Some d ∷ b) h = absurd (false≢true (sym (nothing_reads parts_cover covers d (spell b)) ∙ h))
covers-read (None ∷ a) [] h = covers-read a [] h
covers-read (Some c ∷ a) [] h = absurd (false≢true (sym (no_lead parts_cover covers c (spell a)) ∙ h))
covers-read (None ∷ a) (y ∷ b) h = read_run parts_cover covers a y b (covers-read a (y ∷ b)) (covers-read (None ∷ a) b) h
covers-read (Some c ∷ a) (None ∷ b) h = absurd (false≢true (sym (no_run c (spell a) (spell b)) ∙ h))
covers-read (Some c ∷ a) (Some d ∷ b) h = read_characters parts_cover covers c d a b (covers-read a b) h

pub parts_cover-spell : (a b : List (Option ℕ)) → parts_cover (spell a) (spell b) ≡ parts_cover a b
parts_cover-spell a b = both (parts_cover (spell a) (spell b)) (parts_cover a b) (covers-read a b) (covers-spelled a b)
