-- A written list reads back.
use Rattle.std.proofs.Common.{◌≡◌, ℕ, ◌<◌, List, [], ◌∷◌, ◌++◌, Option, Some, None, refl, ap, ◌∙◌, sym, arith, length, Bool, true, false, length-append}
use Rattle.std.proofs.lemmas.List.{append-nil}
use Rattle.std.specs.Prelude.{◌==◌, codes}
use Rattle.std.specs.Str.{bytes_eq}
use Rattle.std.specs.List.{AllByRecursion}
use Rattle.zq_io.specs.Words.{pieces, read_each, rest_word, list_of, list_word, option_of, option_word, lacks}
use Rattle.zq_io.proofs.Back.{lacks_append, cut_back, Reads, same_bytes}
use Rattle.zq_io.proofs.Split.{pieces_cut, pieces_whole, cut_whole}

-- the piece stands for this
pub record Piece {X : Type 0} (byte : ℕ) (read : List ℕ → Option X) (write : X → List ℕ) (x : X) : Type 0 where
  pub apart : lacks byte (write x) ≡ true
  pub whole : lacks 32 (write x) ≡ true
  pub some : 0 < length (write x)
  pub value : read (write x) ≡ Some x

each_one : {X : Type 0} (byte : ℕ) (read : List ℕ → Option X) (write : X → List ℕ) (x : X) → Piece byte read write x → read_each read (pieces byte (write x)) ≡ Some (x ∷ [])
each_one byte read write x p = rw (pieces_whole byte (write x) (cut_whole byte (write x) p.apart), p.value) refl

-- a written list, by its first item
abbrev pub joined : {X : Type 0} → ℕ → (X → List ℕ) → X → List X → List ℕ
joined byte write x xs = write x ++ rest_word (byte ∷ []) write xs

-- the pieces of a written list
pub each_back : {X : Type 0} (byte : ℕ) (read : List ℕ → Option X) (write : X → List ℕ) (x : X) (xs : List X) → AllByRecursion (Piece byte read write) (x ∷ xs) → read_each read (pieces byte (joined byte write x xs)) ≡ Some (x ∷ xs)
each_back byte read write x [] a = rw (append-nil (write x)) (each_one byte read write x a.0)
each_back byte read write x (y ∷ ys) a =
    rw (pieces_cut byte _ _ _ (cut_back byte (write x) (joined byte write y ys) a.0.apart), a.0.value, each_back byte read write y ys a.1) refl

joined_some : {X : Type 0} (byte : ℕ) (read : List ℕ → Option X) (write : X → List ℕ) (x : X) (xs : List X) → AllByRecursion (Piece byte read write) (x ∷ xs) → 0 < length (joined byte write x xs)
joined_some byte read write x xs a = omega (arith, a.0.some, length-append {A = ℕ})

rest_lacks : {X : Type 0} (other byte : ℕ) (write : X → List ℕ) (xs : List X) → (byte == other) ≡ false → AllByRecursion (λ x. lacks other (write x) ≡ true) xs → lacks other (rest_word (byte ∷ []) write xs) ≡ true
rest_lacks other byte write [] e a = refl
rest_lacks other byte write (x ∷ xs) e a =
    let rest : lacks other (write x ++ rest_word (byte ∷ []) write xs) ≡ true = lacks_append other (write x) _ a.0 (rest_lacks other byte write xs e a.1) in
    rw (e, rest) refl

some_none : {X : Type 0} {x : X} → Some x ≡ None → ⊥
some_none e = absurd (cc)

-- what can be read isn't a word that can't
not_by : {X : Type 0} (read : List ℕ → Option X) (w name : List ℕ) (x : X) (t : Bool) → read name ≡ None → read w ≡ Some x → bytes_eq w name ≡ t → t ≡ false
not_by read w name x true none e f = absurd (some_none (sym e ∙ ap read (same_bytes _ _ f) ∙ none))
not_by read w name x false none e f = refl

pub not_name : {X : Type 0} (read : List ℕ → Option X) (w name : List ℕ) (x : X) → read name ≡ None → read w ≡ Some x → bytes_eq w name ≡ false
not_name read w name x none e = let t = bytes_eq w name in not_by read w name x t none e refl

-- a list that isn't empty isn't written as a dash
dash_by : {X : Type 0} (byte : ℕ) (read : List ℕ → Option X) (w : List ℕ) (xs : List X) (t : Bool) → read_each read (pieces byte (codes "-")) ≡ None → read_each read (pieces byte w) ≡ Some xs → bytes_eq w (codes "-") ≡ t → list_of byte read w ≡ Some xs
dash_by byte read w xs true none e f =
    let same : w ≡ codes "-" = same_bytes _ _ f in
    absurd (some_none (sym e ∙ ap (λ v. read_each read (pieces byte v)) same ∙ none))
dash_by byte read w xs false none e f = rw f e

pub list_back : {X : Type 0} (byte : ℕ) (read : List ℕ → Option X) (write : X → List ℕ) (xs : List X) → read_each read (pieces byte (codes "-")) ≡ None → AllByRecursion (Piece byte read write) xs → list_of byte read (list_word byte write xs) ≡ Some xs
list_back byte read write [] none a = refl
list_back byte read write (x ∷ xs) none a =
    let w = joined byte write x xs in
    dash_by byte read w (x ∷ xs) (bytes_eq w (codes "-")) none (each_back byte read write x xs a) refl

pub list_some : {X : Type 0} (byte : ℕ) (read : List ℕ → Option X) (write : X → List ℕ) (xs : List X) → AllByRecursion (Piece byte read write) xs → 0 < length (list_word byte write xs)
list_some byte read write [] a = omega arith
list_some byte read write (x ∷ xs) a = joined_some byte read write x xs a

pub list_lacks : {X : Type 0} (other byte : ℕ) (write : X → List ℕ) (xs : List X) → (45 == other) ≡ false → (byte == other) ≡ false → AllByRecursion (λ x. lacks other (write x) ≡ true) xs → lacks other (list_word byte write xs) ≡ true
list_lacks other byte write [] d e a = rw d refl
list_lacks other byte write (x ∷ xs) d e a = lacks_append other (write x) _ a.0 (rest_lacks other byte write xs e a.1)

wholes : {X : Type 0} (byte : ℕ) (read : List ℕ → Option X) (write : X → List ℕ) (xs : List X) → AllByRecursion (Piece byte read write) xs → AllByRecursion (λ x. lacks 32 (write x) ≡ true) xs
wholes byte read write [] a = tt
wholes byte read write (x ∷ xs) a = (a.0.whole, wholes byte read write xs a.1)

pub list_reads : {X : Type 0} (byte : ℕ) (read : List ℕ → Option X) (write : X → List ℕ) (xs : List X) → (byte == 32) ≡ false → read_each read (pieces byte (codes "-")) ≡ None → AllByRecursion (Piece byte read write) xs → Reads (list_of byte read) (list_word byte write xs) xs
list_reads byte read write xs e none a = record {
  whole = list_lacks 32 byte write xs refl e (wholes byte read write xs a);
  some = list_some byte read write xs a;
  value = list_back byte read write xs none a;
}

-- a dash or a word
option_by : {X : Type 0} (read : List ℕ → Option X) (w : List ℕ) (x : X) (t : Bool) → read (codes "-") ≡ None → read w ≡ Some x → bytes_eq w (codes "-") ≡ t → option_of read w ≡ Some (Some x)
option_by read w x true none e f = absurd (some_none (sym e ∙ ap read (same_bytes _ _ f) ∙ none))
option_by read w x false none e f = rw (f, e) refl

-- what an option's word stands for
abbrev pub OptionReads : {X : Type 0} → (List ℕ → Option X) → (X → List ℕ) → Option X → Type 0
OptionReads read write None = Unit {0}
OptionReads read write (Some x) = Reads read (write x) x

pub option_reads : {X : Type 0} (read : List ℕ → Option X) (write : X → List ℕ) (o : Option X) → read (codes "-") ≡ None → OptionReads read write o → Reads (option_of read) (option_word write o) o
option_reads read write None none r = record { whole = refl; some = omega arith; value = refl }
option_reads read write (Some x) none r = record { whole = r.whole; some = r.some; value = option_by read (write x) x (bytes_eq (write x) (codes "-")) none r.value refl }
