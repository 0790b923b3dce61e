-- A written word reads back.
use Rattle.std.proofs.Common.{◌≡◌, ℕ, ◌+◌, ◌*◌, ◌-◌, ◌/◌, ◌%◌, ◌^◌, ◌≤◌, ◌<◌, List, [], ◌∷◌, ◌++◌, Option, Some, None, refl, ap, ◌∙◌, sym, arith, length, take, drop, get_or, Bool, true, false, cond, length-append, suc, zero, ne_eqb}
use Rattle.std.proofs.lemmas.Bool.Decides.{nat_tests}
use Rattle.std.proofs.lemmas.Grind.{common_steps}
use Rattle.std.proofs.lemmas.Fmt.{decimal_by_steps_wide, decimal_digit}
use Rattle.std.specs.Prelude.{◌&&◌, ◌==◌, nat_le, codes, All}
use Rattle.std.specs.List.{list_all}
use Rattle.std.specs.Fmt.{decimal}
use Rattle.std.specs.Str.{bytes_eq}
use Rattle.std.proofs.lemmas.List.Elements.{All-head, All-tail}
use Rattle.percent_encoding.specs.AsciiSet.{contains, should_percent_encode}
use Rattle.percent_encoding.specs.Percent.{percent_encode, percent_decode}
use Rattle.percent_encoding.proofs.PercentLemmas.{IsByte, IsEscapeByte, All-percent_encode, round_trip, percent_encode_nonempty}
use Rattle.zq_io.specs.Fits.{IsText}
use Rattle.zq_io.specs.declared.words.TheConstants.{ESCAPED}
use Rattle.zq_io.specs.Words.{◌>>=◌, len_to, cut, is_digit, number_from, number, word_at, read_at, payload_of, payload_word, text_of, lacks, IsWord}

pub lacks_append : (byte : ℕ) (u w : List ℕ) → lacks byte u ≡ true → lacks byte w ≡ true → lacks byte (u ++ w) ≡ true
lacks_append byte [] w e f = f
lacks_append byte (b ∷ u) w e f = grind (arith, nat_tests, lacks_append byte u w)

pub len_stop : (byte : ℕ) (w rest : List ℕ) → lacks byte w ≡ true → len_to byte (w ++ byte ∷ rest) ≡ length w
len_stop byte [] rest e = grind (arith, nat_tests)
len_stop byte (b ∷ w) rest e = grind (arith, nat_tests, len_stop byte w rest)

pub len_end : (byte : ℕ) (w : List ℕ) → lacks byte w ≡ true → len_to byte w ≡ length w
len_end byte [] e = refl
len_end byte (b ∷ w) e = grind (arith, nat_tests, len_end byte w)

pub take_front : (w rest : List ℕ) → take (length w) (w ++ rest) ≡ w
take_front w rest = grind (arith, common_steps)

pub drop_front : (w rest : List ℕ) → drop (length w) (w ++ rest) ≡ rest
drop_front w rest = grind (arith, common_steps)

pub cut_back : (byte : ℕ) (w rest : List ℕ) → lacks byte w ≡ true → cut byte (w ++ byte ∷ rest) ≡ Some (w, rest)
cut_back byte w rest e = rw (len_stop byte w rest e, take_front w (byte ∷ rest), drop_front w (byte ∷ rest)) refl

-- the line ends there, or the word does
abbrev pub Ends : List ℕ → Type 0
Ends [] = Unit {0}
Ends (b ∷ bs) = b ≡ 32

len_word : (w rest : List ℕ) → lacks 32 w ≡ true → Ends rest → len_to 32 (w ++ rest) ≡ length w
len_word w [] e f = grind (arith, common_steps, len_end 32 w)
len_word w (b ∷ rest) e f = rw f (len_stop 32 w rest e)

-- the word stands for this
pub record Reads {X : Type 0} (read : List ℕ → Option X) (w : List ℕ) (x : X) : Type 0 where
  pub whole : lacks 32 w ≡ true
  pub some : 0 < length w
  pub value : read w ≡ Some x

word_back : (w rest : List ℕ) → lacks 32 w ≡ true → 0 < length w → Ends rest → word_at (32 ∷ w ++ rest) ≡ Some (w, rest)
word_back w rest e some f = rw (len_word w rest e f, take_front w rest, drop_front w rest) (grind (arith, nat_tests))

pub read_back : {X : Type 0} {read : List ℕ → Option X} {w : List ℕ} {x : X} → Reads read w x → (rest : List ℕ) → Ends rest → read_at read (32 ∷ w ++ rest) ≡ Some (x, rest)
unfolding read_at
read_back {w = w} r rest f = rw (word_back w rest r.whole r.some f, r.value) refl

-- one field, and then the others
pub then : {X Y : Type 0} {read : List ℕ → Option X} {w : List ℕ} {x : X} {rest : List ℕ} {y : Y} (f : X × List ℕ → Option Y) → Reads read w x → Ends rest → f (x, rest) ≡ Some y → (read_at read (32 ∷ w ++ rest) >>= f) ≡ Some y
then {rest = rest} f r e k = rw (read_back r rest e) k

is_on : (m d most : ℕ) → d < 10 → 10 * m + d ≤ most → (is_digit (48 + d) && nat_le (10 * m + (48 + d - 48)) most) ≡ true
is_on m d most small fits = grind (arith, nat_tests)

cond_some : (b : Bool) (x z : ℕ) → b ≡ true → x ≡ z → cond b (Some x) None ≡ Some z
cond_some true x z e f = ap Some f
cond_some false x z e f = cc

cond_on : (b : Bool) (x y : Option ℕ) (n z : ℕ) → (x ≡ Some n → y ≡ Some z) → cond b x None ≡ Some n → cond b y None ≡ Some z
cond_on true x y n z k e = k e
cond_on false x y n z k e = cc

some_same : (m n : ℕ) → Some m ≡ Some n → m ≡ n
some_same m n e = cc

number_more : (most n d : ℕ) (ds : List ℕ) → d < 10 → 10 * n + d ≤ most → (m : ℕ) → number_from most m ds ≡ Some n → number_from most m (ds ++ (48 + d) ∷ []) ≡ Some (10 * n + d)
number_more most n d [] small fits m e =
    let same : m ≡ n = some_same m n e in
    cond_some _ _ _ (is_on m d most small (omega arith)) (omega arith)
number_more most n d (c ∷ ds) small fits m e =
    cond_on _ _ _ _ _ (λ k. number_more most n d ds small fits (10 * m + (c - 48)) k) e

-- digits that stand for a number
record Digits (most n : ℕ) (ds : List ℕ) : Type 0 where
  value : n ≤ most → number_from most 0 ds ≡ Some n
  first : 0 < n → 48 < get_or ds 0 0
  some : 0 < length ds
  digits : list_all is_digit ds ≡ true

digit_is : (d : ℕ) → d < 10 → is_digit (48 + d) ≡ true
digit_is d small = grind (arith, nat_tests)

all_more : (ds : List ℕ) (d : ℕ) → d < 10 → list_all is_digit ds ≡ true → list_all is_digit (ds ++ (48 + d) ∷ []) ≡ true
all_more [] d small e = grind (arith, digit_is d small)
all_more (c ∷ ds) d small e = grind (arith, all_more ds d small)

first_more : (ds xs : List ℕ) → 0 < length ds → get_or (ds ++ xs) 0 0 ≡ get_or ds 0 0
first_more [] xs e = absurd (omega arith)
first_more (d ∷ ds) xs e = refl

digits_of : (most n : ℕ) → n < 10 ^ 64 → Digits most n (decimal n)
digits_of most n small =
    decimal_by_steps_wide (Digits most)
    (λ (n : ℕ) (h : n < 10). record {
      value = λ fits. cond_some _ _ _ (is_on 0 n most h (omega arith)) (omega arith);
      first = λ h. omega arith;
      some = omega arith;
      digits = grind (arith, digit_is n h);
    })
    (λ (n : ℕ) (ds : List ℕ) (h : 10 ≤ n) (p : Digits most (n / 10) ds).
    let d : n % 10 < 10 = omega arith in
    let e : 10 * (n / 10) + n % 10 ≡ n = omega arith in
    record {
      value = λ fits. number_more most (n / 10) (n % 10) ds d (omega arith) 0 (p.value (omega arith)) ∙ ap Some e;
      first = λ k. rw (first_more ds ((48 + n % 10) ∷ []) p.some) (p.first (omega arith));
      some = omega (arith, length-append {A = ℕ});
      digits = all_more ds (n % 10) d p.digits;
    })
    n small

cond_else : (b : Bool) (y z : Option ℕ) → b ≡ false → y ≡ z → cond b None y ≡ z
cond_else true y z e f = cc
cond_else false y z e f = f

positive : (n k : ℕ) → (n ≡ 0 → suc (suc k) ≡ 1) → 0 < n
positive zero k z = absurd (omega (arith, z refl))
positive (suc n) k z = omega arith

number_whole : (most n : ℕ) (ds : List ℕ) → n ≤ most → (n ≡ 0 → length ds ≡ 1) → Digits most n ds → number most ds ≡ Some n
number_whole most n [] fits z p = absurd (omega (arith, p.some))
number_whole most n (c ∷ []) fits z p = p.value fits
number_whole most n (c ∷ d ∷ ds) fits z p =
    let more : 0 < n = positive n (length ds) z in
    let high : 48 < c = p.first more in
    cond_else (c == 48) _ _ (grind (arith, nat_tests)) (p.value fits)

lacks_digits : (byte : ℕ) (ds : List ℕ) → is_digit byte ≡ false → list_all is_digit ds ≡ true → lacks byte ds ≡ true
lacks_digits byte [] e f = refl
lacks_digits byte (d ∷ ds) e f = grind (arith, nat_tests, lacks_digits byte ds)

zero_length : (n : ℕ) → n ≡ 0 → length (decimal n) ≡ 1
zero_length n e = rw (e, decimal_digit 0 (omega arith)) refl

pub number_value : (most n : ℕ) → n ≤ most → most < 10 ^ 64 → number most (decimal n) ≡ Some n
number_value most n fits limit = number_whole most n (decimal n) fits (zero_length n) (digits_of most n (omega arith))

pub decimal_lacks : (byte n : ℕ) → n < 10 ^ 64 → is_digit byte ≡ false → lacks byte (decimal n) ≡ true
decimal_lacks byte n small e = lacks_digits byte (decimal n) e (digits_of n n small).digits

pub decimal_some : (n : ℕ) → n < 10 ^ 64 → 0 < length (decimal n)
decimal_some n small = (digits_of n n small).some

pub number_reads : (most n : ℕ) → n ≤ most → most < 10 ^ 64 → Reads (number most) (decimal n) n
number_reads most n fits limit = record {
  whole = decimal_lacks 32 n (omega arith) refl;
  some = decimal_some n (omega arith);
  value = number_value most n fits limit;
}

-- PAYLOAD and TEXT
lacks_from_all : (byte : ℕ) (bs : List ℕ) → All (λ b. (b == byte) ≡ false) bs → lacks byte bs ≡ true
lacks_from_all byte [] a = refl
lacks_from_all byte (b ∷ bs) a =
    let one : (b == byte) ≡ false = All-head (λ b. (b == byte) ≡ false) b bs a in
    let rest : lacks byte bs ≡ true = lacks_from_all byte bs (All-tail (λ b. (b == byte) ≡ false) b bs a) in
    rw (one, rest) refl

pub space_escaped : should_percent_encode ESCAPED 32 ≡ true
unfolding should_percent_encode
space_escaped = refl

newline_escaped : should_percent_encode ESCAPED 10 ≡ true
unfolding should_percent_encode
newline_escaped = refl

clash : false ≡ true → ⊥
clash e = absurd (cc)

kept_differs : (byte b : ℕ) → should_percent_encode ESCAPED byte ≡ true → should_percent_encode ESCAPED b ≡ false → (b == byte) ≡ false
kept_differs byte b e f = ne_eqb b byte (λ h. clash (sym f ∙ ap (should_percent_encode ESCAPED) h ∙ e))

escape_differs : (byte b : ℕ) → byte < 37 → IsEscapeByte b → (b == byte) ≡ false
escape_differs byte b small h = ne_eqb b byte (λ e. absurd (grind arith))

encoded_lacks : (byte : ℕ) (bs : List ℕ) → byte < 37 → should_percent_encode ESCAPED byte ≡ true → lacks byte (percent_encode ESCAPED bs) ≡ true
encoded_lacks byte bs small e =
    lacks_from_all byte _ (All-percent_encode (λ b. (b == byte) ≡ false) ESCAPED bs (λ b. kept_differs byte b e) (λ b. escape_differs byte b small))

percent_set : contains ESCAPED 37 ≡ true
percent_set = refl

encoded_back : (bs : List ℕ) → All IsByte bs → percent_decode (percent_encode ESCAPED bs) ≡ bs
encoded_back bs small = round_trip ESCAPED bs percent_set small

dash_decoded : percent_decode (codes "-") ≡ codes "-"
unfolding percent_decode
dash_decoded = refl

dash_escape : percent_decode (codes "%2D") ≡ codes "-"
unfolding percent_decode
dash_escape = refl

-- what is no dash isn't written as one
pub same_bytes : (xs ys : List ℕ) → bytes_eq xs ys ≡ true → xs ≡ ys
same_bytes [] [] e = refl
same_bytes [] (y ∷ ys) e = cc
same_bytes (x ∷ xs) [] e = cc
same_bytes (x ∷ xs) (y ∷ ys) e = grind (arith, nat_tests, same_bytes xs ys)

not_dash_by : (bs : List ℕ) (t : Bool) → All IsByte bs → bytes_eq bs (codes "-") ≡ false → bytes_eq (percent_encode ESCAPED bs) (codes "-") ≡ t → t ≡ false
not_dash_by bs true small e f =
    let same : percent_encode ESCAPED bs ≡ codes "-" = same_bytes _ _ f in
    let whole : bs ≡ codes "-" = sym (encoded_back bs small) ∙ ap percent_decode same ∙ dash_decoded in
    sym (ap (λ b. bytes_eq b (codes "-")) whole) ∙ e
not_dash_by bs false small e f = refl

not_dash : (bs : List ℕ) → All IsByte bs → bytes_eq bs (codes "-") ≡ false → bytes_eq (percent_encode ESCAPED bs) (codes "-") ≡ false
not_dash bs small e = let t = bytes_eq (percent_encode ESCAPED bs) (codes "-") in not_dash_by bs t small e refl

nil_of : (bs : List ℕ) → (length bs == 0) ≡ true → bs ≡ []
nil_of [] e = refl
nil_of (b ∷ bs) e = absurd (grind (arith, nat_tests))

payload_by : (bs : List ℕ) (z d : Bool) → All IsByte bs → (length bs == 0) ≡ z → bytes_eq bs (codes "-") ≡ d → payload_of (cond z (codes "-") (cond d (codes "%2D") (percent_encode ESCAPED bs))) ≡ bs
payload_by bs true d small e f = sym (nil_of bs e)
payload_by bs false true small e f = dash_escape ∙ sym (same_bytes _ _ f)
payload_by bs false false small e f = rw (not_dash bs small f) (encoded_back bs small)

pub payload_back : (bs : List ℕ) → All IsByte bs → payload_of (payload_word bs) ≡ bs
payload_back bs small = payload_by bs (length bs == 0) (bytes_eq bs (codes "-")) small refl refl

lacks_by : (byte : ℕ) (bs : List ℕ) (z d : Bool) → byte < 37 → should_percent_encode ESCAPED byte ≡ true → lacks byte (cond z (codes "-") (cond d (codes "%2D") (percent_encode ESCAPED bs))) ≡ true
lacks_by byte bs true d small e = grind (arith, nat_tests)
lacks_by byte bs false true small e = grind (arith, nat_tests)
lacks_by byte bs false false small e = encoded_lacks byte bs small e

-- a word of bytes has no space and no newline
pub payload_lacks : (byte : ℕ) (bs : List ℕ) → byte < 37 → should_percent_encode ESCAPED byte ≡ true → lacks byte (payload_word bs) ≡ true
payload_lacks byte bs small e = lacks_by byte bs _ _ small e

some_by : (bs : List ℕ) (z d : Bool) → (length bs == 0) ≡ z → 0 < length (cond z (codes "-") (cond d (codes "%2D") (percent_encode ESCAPED bs)))
some_by bs true d e = omega arith
some_by bs false true e = omega arith
some_by bs false false e = percent_encode_nonempty ESCAPED bs (grind (arith, nat_tests))

pub payload_some : (bs : List ℕ) → 0 < length (payload_word bs)
payload_some bs = some_by bs _ _ refl

pub text_back : (bs : List ℕ) → IsText bs → text_of (payload_word bs) ≡ Some bs
text_back bs t = rw (payload_back bs t.small, t.utf8) refl

pub text_reads : (bs : List ℕ) → IsText bs → Reads text_of (payload_word bs) bs
text_reads bs t = record {
  whole = payload_lacks 32 bs (omega arith) space_escaped;
  some = payload_some bs;
  value = text_back bs t;
}

-- the word of bytes is one word, and stands for the bytes
pub payload_is_word : (bs : List ℕ) → IsWord (payload_word bs)
payload_is_word bs = record {
  some = payload_some bs;
  space = payload_lacks 32 bs (omega arith) space_escaped;
  newline = payload_lacks 10 bs (omega arith) newline_escaped;
}
