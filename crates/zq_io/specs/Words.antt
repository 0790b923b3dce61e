-- Words: what one word of a line stands for, and how a word is written.
use Rattle.std.specs.Prelude.{◌≡◌, ◌<◌, not, ℕ, ◌+◌, ◌*◌, ◌-◌, Bool, true, ◌&&◌, ◌==◌, nat_le, nat_lt, List, [], ◌∷◌, ◌++◌, Option, Some, None, Result, Ok, Err, ⊤, if◌then◌else◌, drop, take, length, codes}
use Rattle.std.specs.List.{flat_map, slice_split, position_or_len}
use Rattle.std.specs.Str.{bytes_eq, is_utf8}
use Rattle.zq_io.specs.declared.words.TheConstants.{ESCAPED}
use Rattle.percent_encoding.specs.Percent.{percent_encode, percent_decode}
use Rattle.zq_io.specs.declared.stop.Stop.{Stop}
use Rattle.zq_io.specs.declared.stop.Stop.TheVariants as stop

infixl 10 ◌>>=◌
-- go on with what was read, if anything
abbrev pub ◌>>=◌ : {A B : Type 0} → Option A → (A → Option B) → Option B
None >>= f = None
(Some x) >>= f = f x

-- a reader stopped where nothing stands; where it lacked memory, anything may
abbrev pub Refuses : {X : Type 0} → Stop → Option X → Type 0
Refuses stop.Bad o = o ≡ None
Refuses stop.OutOfMemory o = ⊤

-- what was read is what stands there
abbrev pub Reads : {X : Type 0} → Result X Stop → Option X → Type 0
Reads (Ok x) o = o ≡ Some x
Reads (Err e) o = Refuses e o

-- the pieces between the bytes
abbrev pub pieces : ℕ → List ℕ → List (List ℕ)
pieces byte bytes = slice_split (λ b. b == byte) bytes

-- the byte is this one
abbrev pub is_byte : ℕ → ℕ → Bool
is_byte byte b = b == byte

-- how many bytes stand before the first such byte
abbrev pub len_to : ℕ → List ℕ → ℕ
len_to byte bytes = position_or_len (is_byte byte) bytes

-- the front, and the back without its first byte
abbrev pub after_cut : List ℕ → List ℕ → Option (List ℕ × List ℕ)
after_cut front [] = None
after_cut front (b ∷ back) = Some (front, back)

-- what stands before and after the first such byte
abbrev pub cut : ℕ → List ℕ → Option (List ℕ × List ℕ)
cut byte bytes = after_cut (take (len_to byte bytes) bytes) (drop (len_to byte bytes) bytes)

-- a digit
abbrev pub is_digit : ℕ → Bool
is_digit c = nat_le 48 c && nat_le c 57

-- the number goes on by these digits, while it is at most the limit
abbrev pub number_from : ℕ → ℕ → List ℕ → Option ℕ
number_from most n [] = Some n
number_from most n (c ∷ cs) =
    if is_digit c && nat_le (10 * n + (c - 48)) most
    then number_from most (10 * n + (c - 48)) cs
    else None

-- decimal digits without a leading zero
abbrev pub number : ℕ → List ℕ → Option ℕ
number most [] = None
number most (c ∷ []) = number_from most 0 (c ∷ [])
number most (c ∷ d ∷ cs) = if c == 48 then None else number_from most 0 (c ∷ d ∷ cs)

-- the bytes that a PAYLOAD word stands for
abbrev pub payload_of : List ℕ → List ℕ
payload_of word = if bytes_eq word (codes "-") then [] else percent_decode word

-- the word of bytes
abbrev pub payload_word : List ℕ → List ℕ
payload_word bytes =
    if length bytes == 0 then codes "-"
    else (if bytes_eq bytes (codes "-") then codes "%2D" else percent_encode ESCAPED bytes)

-- a payload word always stands for bytes
abbrev pub bytes_of : List ℕ → Option (List ℕ)
bytes_of word = Some (payload_of word)

-- a TEXT is a payload that is UTF-8
abbrev pub text_of : List ℕ → Option (List ℕ)
text_of word = if is_utf8 (payload_of word) then Some (payload_of word) else None

-- a space, a word that isn't empty, and what follows the word
abbrev pub word_at : List ℕ → Option (List ℕ × List ℕ)
word_at [] = None
word_at (b ∷ bytes) =
    if b == 32 && nat_lt 0 (len_to 32 bytes)
    then Some (take (len_to 32 bytes) bytes, drop (len_to 32 bytes) bytes)
    else None

-- no such byte stands in the word
abbrev pub lacks : ℕ → List ℕ → Bool
lacks byte [] = true
lacks byte (b ∷ bs) = not (b == byte) && lacks byte bs

-- one word of a line: some bytes, none of them a space or a newline
pub record IsWord (word : List ℕ) : Type 0 where
  pub some : 0 < length word
  pub space : lacks 32 word ≡ true
  pub newline : lacks 10 word ≡ true

-- a space and a word
abbrev pub field : List ℕ → List ℕ
field word = 32 ∷ word

-- a space, a word that stands for something, and what follows the word
unfoldable pub read_at : {X : Type 0} → (List ℕ → Option X) → List ℕ → Option (X × List ℕ)
read_at read bytes = do
  word ← word_at bytes
  x ← read word.0
  Some (x, word.1)

-- each word stands for something
abbrev pub read_each : {X : Type 0} → (List ℕ → Option X) → List (List ℕ) → Option (List X)
read_each read [] = Some []
read_each read (w ∷ ws) = read w >>= (λ x. read_each read ws >>= (λ xs. Some (x ∷ xs)))

-- a list joined by a byte, or a dash for the empty one
abbrev pub list_of : {X : Type 0} → ℕ → (List ℕ → Option X) → List ℕ → Option (List X)
list_of byte read word = if bytes_eq word (codes "-") then Some [] else read_each read (pieces byte word)

-- what follows the first item of a list
abbrev pub rest_word : {X : Type 0} → List ℕ → (X → List ℕ) → List X → List ℕ
rest_word separator write xs = flat_map (λ x. separator ++ write x) xs

-- a list with separators, or a dash for the empty one
abbrev pub list_words : {X : Type 0} → List ℕ → (X → List ℕ) → List X → List ℕ
list_words separator write [] = codes "-"
list_words separator write (x ∷ xs) = write x ++ rest_word separator write xs

-- a list joined by a byte, or a dash for the empty one
abbrev pub list_word : {X : Type 0} → ℕ → (X → List ℕ) → List X → List ℕ
list_word byte write xs = list_words (byte ∷ []) write xs

-- a dash for none
abbrev pub option_of : {X : Type 0} → (List ℕ → Option X) → List ℕ → Option (Option X)
option_of read word = if bytes_eq word (codes "-") then Some None else read word >>= (λ x. Some (Some x))

-- a dash for none
abbrev pub option_word : {X : Type 0} → (X → List ℕ) → Option X → List ℕ
option_word write None = codes "-"
option_word write (Some x) = write x

-- nothing follows
abbrev pub at_end : {X : Type 0} → List ℕ → X → Option X
at_end [] x = Some x
at_end (b ∷ bytes) x = None

-- what was read before, and what is read on
abbrev pub put_all : {X : Type 0} → List X → Option (List X) → Option (List X)
put_all xs None = None
put_all xs (Some ys) = Some (xs ++ ys)
