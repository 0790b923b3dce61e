-- Characters meet as their bytes do.
use Rattle.std.proofs.Common.{◌≡◌, ℕ, true, List, [], ◌∷◌, Option, Some, None, refl, sym, ◌∙◌}
use Rattle.std.proofs.lemmas.Bool.{false≢true}
use Rattle.zq_key.specs.Match.{meets_by}
use Rattle.zq_key.specs.Key.{parts_meet}
use Rattle.zq_key.proofs.Spelling.{spell}
use Rattle.zq_key.proofs.Parts.{parts_meet-swap}
use Rattle.zq_key.proofs.Spell.{Reads, no_lead, nothing_reads, spelled_run, spelled_characters, read_run, read_characters, both}

meets : Reads parts_meet
unfolding meets_by
meets = record { run_ended = λ a. refl; run = λ a y b. refl; left_over = λ x a. refl; lacking = λ x b. refl; bytes = λ x y a b. refl }

turn : (a b : List (Option ℕ)) → parts_meet a b ≡ true → parts_meet b a ≡ true
turn a b h = parts_meet-swap b a ∙ h

meets-spelled : (a b : List (Option ℕ)) → parts_meet a b ≡ true → parts_meet (spell a) (spell b) ≡ true
unfolding meets_by
meets-spelled [] [] h = refl
meets-spelled [] (None ∷ b) h = meets-spelled [] b h
meets-spelled [] (Some d ∷ b) h = absurd (false≢true h)
meets-spelled (None ∷ a) [] h = meets-spelled a [] h
meets-spelled (Some c ∷ a) [] h = absurd (false≢true h)
meets-spelled (None ∷ a) (y ∷ b) h = spelled_run parts_meet meets a y b (meets-spelled a (y ∷ b)) (meets-spelled (None ∷ a) b) h
meets-spelled (Some c ∷ a) (None ∷ b) h =
    turn (None ∷ spell b) (spell (Some c ∷ a))
    (spelled_run parts_meet meets b (Some c) a
    (λ t. turn (spell (Some c ∷ a)) (spell b) (meets-spelled (Some c ∷ a) b (turn b (Some c ∷ a) t)))
    (λ t. turn (spell a) (None ∷ spell b) (meets-spelled a (None ∷ b) (turn (None ∷ b) a t)))
    (turn (Some c ∷ a) (None ∷ b) h))
meets-spelled (Some c ∷ a) (Some d ∷ b) h = spelled_characters parts_meet meets c d a b (meets-spelled a b) h

meets-read : (a b : List (Option ℕ)) → parts_meet (spell a) (spell b) ≡ true → parts_meet a b ≡ true
unfolding meets_by
meets-read [] [] h = refl
meets-read [] (None ∷ b) h = meets-read [] b h
meets-read [] (Some d ∷ b) h = absurd (false≢true (sym (nothing_reads parts_meet meets d (spell b)) ∙ h))
meets-read (None ∷ a) [] h = meets-read a [] h
meets-read (Some c ∷ a) [] h = absurd (false≢true (sym (no_lead parts_meet meets c (spell a)) ∙ h))
meets-read (None ∷ a) (y ∷ b) h = read_run parts_meet meets a y b (meets-read a (y ∷ b)) (meets-read (None ∷ a) b) h
meets-read (Some c ∷ a) (None ∷ b) h =
    turn (None ∷ b) (Some c ∷ a)
    (read_run parts_meet meets b (Some c) a
    (λ t. turn (Some c ∷ a) b (meets-read (Some c ∷ a) b (turn (spell b) (spell (Some c ∷ a)) t)))
    (λ t. turn a (None ∷ b) (meets-read a (None ∷ b) (turn (None ∷ spell b) (spell a) t)))
    (turn (spell (Some c ∷ a)) (None ∷ spell b) h))
meets-read (Some c ∷ a) (Some d ∷ b) h = read_characters parts_meet meets c d a b (meets-read a b) h

pub parts_meet-spell : (a b : List (Option ℕ)) → parts_meet (spell a) (spell b) ≡ parts_meet a b
parts_meet-spell a b = both (parts_meet (spell a) (spell b)) (parts_meet a b) (meets-read a b) (meets-spelled a b)
