-- What a word says fits.
use Rattle.std.proofs.Common.{◌≡◌, ℕ, ◌+◌, ◌-◌, ◌*◌, ◌≤◌, ◌<◌, List, [], ◌∷◌, Option, Some, None, refl, subst, arith, length, Bool, true, false, cond}
use Rattle.std.proofs.lemmas.Bool.{and_parts}
use Rattle.std.proofs.lemmas.Bool.Decides.{nat_tests}
use Rattle.std.proofs.lemmas.List.Elements.{All-head, All-tail, All-nil, All-cons, All-take, All-drop}
use Rattle.std.proofs.lemmas.Grind.{common_steps}
use Rattle.std.specs.Str.{bytes_eq, is_utf8}
use Rattle.std.specs.List.{AllByRecursion, onto_first}
use Rattle.percent_encoding.specs.Percent.{percent_decode}
use Rattle.percent_encoding.proofs.PercentLemmas.{All-percent_decode, length-percent_decode}
use Rattle.std.specs.Prelude.{◌==◌, ◌&&◌, nat_le, nat_lt, codes}
use Rattle.zq_message.specs.declared.message.Region.TheVariants as region
use Rattle.zq_io.specs.Words.{◌>>=◌, len_to, after_cut, cut, pieces, read_each, list_of, option_of, is_digit, number_from, number, word_at, read_at, at_end, text_of, payload_of, bytes_of}
use Rattle.zq_io.specs.Values.{most_16, most_32, most_128, face_of, zid_of, mode_of, wire_of, mapping_of, behind, south_of, region_of, zids_of, all_of, direction_of}
use Rattle.zq_io.specs.Fits.{IsBytes, IsText, FitsFace, FitsZid, FitsWire, FitsOption, FitsRegion}
use Rattle.zq_lines.specs.Tables.{entry_of, tree_of, FitsEntry, FitsTree}
use Rattle.zq_lines.specs.Fits.{IsNamespace}

-- what is given fits
pub record Given {A : Type 0} (P : A → Type 0) (o : Option A) : Type 0 where
  pub at : (x : A) → o ≡ Some x → P x

some_same : {A : Type 0} {a b : A} → Some a ≡ Some b → a ≡ b
some_same e = cc

pub no_one : {A : Type 0} {P : A → Type 0} → Given P None
no_one = record { at = λ x e. absurd (cc) }

pub one : {A : Type 0} {P : A → Type 0} {a : A} → P a → Given P (Some a)
one {P = P} {a = a} p = record { at = λ x e. subst P (some_same e) p }

pub bind : {A B : Type 0} {P : A → Type 0} {Q : B → Type 0} {o : Option A} {f : A → Option B} → Given P o → ((a : A) → P a → Given Q (f a)) → Given Q (o >>= f)
bind {o = None} p k = no_one
bind {o = Some a} p k = k a (p.at a refl)

pub either : {A : Type 0} {P : A → Type 0} (b : Bool) (x y : Option A) → (b ≡ true → Given P x) → Given P y → Given P (cond b x y)
either true x y p q = p refl
either false x y p q = q

at_most : (most n : ℕ) → nat_le n most ≡ true → n ≤ most
at_most most n e = grind (arith, nat_tests)

from_given : (most n : ℕ) (cs : List ℕ) → n ≤ most → Given (λ m. m ≤ most) (number_from most n cs)
from_given most n [] f = one f
from_given most n (c ∷ cs) f =
    either (is_digit c && nat_le (10 * n + (c - 48)) most) _ _ (λ e. from_given most (10 * n + (c - 48)) cs (at_most most _ (and_parts _ _ e).1)) no_one

pub number_given : (most : ℕ) (w : List ℕ) → IsBytes w → Given (λ m. m ≤ most) (number most w)
number_given most [] a = no_one
number_given most (c ∷ []) a = from_given most 0 (c ∷ []) (omega arith)
number_given most (c ∷ d ∷ cs) a = either (c == 48) _ _ (λ e. no_one) (from_given most 0 (c ∷ d ∷ cs) (omega arith))

pub face_given : (w : List ℕ) → IsBytes w → Given FitsFace (face_of w)
face_given w a = bind (number_given most_32 w a) (λ n p. one p)

-- bytes, some of them
pub record SomeBytes (w : List ℕ) : Type 0 where
  pub bytes : IsBytes w
  pub some : 0 < length w

-- two runs of bytes
pub record BothBytes (t : List ℕ × List ℕ) : Type 0 where
  pub word : IsBytes t.0
  pub rest : IsBytes t.1

-- a word that isn't empty, and what follows it
record WordBytes (t : List ℕ × List ℕ) : Type 0 where
  word : SomeBytes t.0
  rest : IsBytes t.1

pub record FieldFits {X : Type 0} (P : X → Type 0) (t : X × List ℕ) : Type 0 where
  pub value : P t.0
  pub rest : IsBytes t.1

len_within : (byte : ℕ) (bytes : List ℕ) → len_to byte bytes ≤ length bytes
len_within byte [] = omega arith
len_within byte (b ∷ bytes) = grind (arith, nat_tests, len_within byte bytes)

positive : (n : ℕ) → nat_lt 0 n ≡ true → 0 < n
positive n e = grind (arith, nat_tests)

word_given : (bytes : List ℕ) → IsBytes bytes → Given WordBytes (word_at bytes)
word_given [] a = no_one
word_given (b ∷ bytes) a =
    let rest : IsBytes bytes = All-tail (λ b. b < 256) b bytes a in
    let within : len_to 32 bytes ≤ length bytes = len_within 32 bytes in
    either (b == 32 && nat_lt 0 (len_to 32 bytes)) _ _
    (λ e.
    let more : 0 < len_to 32 bytes = positive _ (and_parts _ _ e).1 in
    one (record {
      word = record { bytes = All-take (λ b. b < 256) (len_to 32 bytes) bytes rest; some = grind (arith, common_steps) };
      rest = All-drop (λ b. b < 256) (len_to 32 bytes) bytes rest;
    }))
    no_one

-- a field that fits, and the bytes that follow
pub some_given : {X : Type 0} {P : X → Type 0} {read : List ℕ → Option X} → ((w : List ℕ) → SomeBytes w → Given P (read w)) → (bytes : List ℕ) → IsBytes bytes → Given (FieldFits P) (read_at read bytes)
unfolding read_at
some_given k bytes a = bind (word_given bytes a) (λ w p. bind (k w.0 p.word) (λ x q. one (record { value = q; rest = p.rest })))

pub field_given : {X : Type 0} {P : X → Type 0} {read : List ℕ → Option X} → ((w : List ℕ) → IsBytes w → Given P (read w)) → (bytes : List ℕ) → IsBytes bytes → Given (FieldFits P) (read_at read bytes)
field_given k bytes a = some_given (λ w p. k w p.bytes) bytes a

pub any_given : {X : Type 0} (o : Option X) → Given (λ x. Unit {0}) o
any_given o = record { at = λ x e. tt }

-- a field of which nothing is owed
pub free_given : {X : Type 0} (read : List ℕ → Option X) (bytes : List ℕ) → IsBytes bytes → Given (FieldFits (λ (x : X). Unit {0})) (read_at read bytes)
free_given read bytes a = field_given (λ w h. any_given (read w)) bytes a

pub end_given : {X : Type 0} {P : X → Type 0} (bytes : List ℕ) (x : X) → P x → Given P (at_end bytes x)
end_given [] x p = one p
end_given (b ∷ bytes) x p = no_one

payload_by : (w : List ℕ) (b : Bool) → IsBytes w → IsBytes (cond b [] (percent_decode w))
payload_by w true a = All-nil (λ b. b < 256)
payload_by w false a = All-percent_decode w a

payload_fits : (w : List ℕ) → IsBytes w → IsBytes (payload_of w)
payload_fits w a = payload_by w (bytes_eq w (codes "-")) a

pub bytes_given : (w : List ℕ) → IsBytes w → Given IsBytes (bytes_of w)
bytes_given w a = one {P = IsBytes} (payload_fits w a)

pub text_given : (w : List ℕ) → IsBytes w → Given IsText (text_of w)
text_given w a = either (is_utf8 (payload_of w)) _ _ (λ e. one (record { small = payload_fits w a; utf8 = e })) no_one

after_given : (front back : List ℕ) → IsBytes front → IsBytes back → Given BothBytes (after_cut front back)
after_given front [] a b = no_one
after_given front (c ∷ back) a b = one (record { word = a; rest = All-tail (λ b. b < 256) c back b })

pub cut_given : (byte : ℕ) (bytes : List ℕ) → IsBytes bytes → Given BothBytes (cut byte bytes)
cut_given byte bytes a = after_given _ _ (All-take (λ b. b < 256) (len_to byte bytes) bytes a) (All-drop (λ b. b < 256) (len_to byte bytes) bytes a)

pub behind_given : (name : List ℕ) (parts : List ℕ × List ℕ) → BothBytes parts → Given IsBytes (behind name parts)
behind_given name parts p = either (bytes_eq parts.0 name) _ _ (λ e. one {P = IsBytes} p.rest) no_one

pub zid_given : (w : List ℕ) → IsBytes w → Given FitsZid (zid_of w)
zid_given w a = bind (number_given most_128 w a) (λ n p. one {P = FitsZid} p)

south_given : (w : List ℕ) → IsBytes w → Given FitsRegion (south_of w)
unfolding south_of
south_given w a =
    bind (cut_given 58 w a) (λ parts p. bind (behind_given (codes "south") parts p) (λ rest q. bind (cut_given 58 rest q) (λ fields r.
    bind (number_given most_32 fields.0 r.word) (λ id s. bind (any_given (mode_of fields.1)) (λ m u. one {P = FitsRegion} {a = region.South id m} s)))))

pub region_given : (w : List ℕ) → IsBytes w → Given FitsRegion (region_of w)
region_given w a = either (bytes_eq w (codes "north")) _ _ (λ e. one {P = FitsRegion} {a = region.North} tt) (either (bytes_eq w (codes "local")) _ _ (λ e. one {P = FitsRegion} {a = region.Local} tt) (south_given w a))

pub wire_given : (w : List ℕ) → IsBytes w → Given FitsWire (wire_of w)
unfolding wire_of
wire_given w a =
    bind (cut_given 58 w a) (λ parts p. bind (number_given most_16 parts.0 p.word) (λ scope q. bind (cut_given 58 parts.1 p.rest) (λ fields r.
    bind (any_given (mapping_of fields.0)) (λ mapping u. bind (text_given fields.1 r.rest) (λ suffix v. one (record { scope = q; suffix = v }))))))

option_some : {X : Type 0} {P : X → Type 0} (read : List ℕ → Option X) (w : List ℕ) → Given P (read w) → Given (FitsOption P) (option_of read w)
option_some {P = P} read w g = either (bytes_eq w (codes "-")) _ _ (λ e. one {P = FitsOption P} tt) (bind g (λ x p. one {P = FitsOption P} p))

pub option_given : {X : Type 0} {P : X → Type 0} {read : List ℕ → Option X} → ((w : List ℕ) → IsBytes w → Given P (read w)) → (w : List ℕ) → IsBytes w → Given (FitsOption P) (option_of read w)
option_given {read = read} k w a = option_some read w (k w a)

-- a namespace is not empty, since its word isn't
decoded_some : (w : List ℕ) → 0 < length w → 0 < length (percent_decode w)
decoded_some w more = omega (arith, (length-percent_decode w).1)

pub name_given : (w : List ℕ) → SomeBytes w → Given (FitsOption IsNamespace) (option_of text_of w)
name_given w s = name_by (bytes_eq w (codes "-")) w s refl
  where
    name_by : (t : Bool) (w : List ℕ) → SomeBytes w → bytes_eq w (codes "-") ≡ t → Given (FitsOption IsNamespace) (option_of text_of w)
    name_by true w s e = rw e (one {P = FitsOption IsNamespace} tt)
    name_by false w s e =
        option_some text_of w (rw e (either (is_utf8 (percent_decode w)) _ _
        (λ u. one {P = IsNamespace} (record { text = record { small = All-percent_decode w s.bytes; utf8 = u }; some = decoded_some w s.some }))
        no_one))

-- lists
first_bytes : (b : ℕ) (ws : List (List ℕ)) → b < 256 → AllByRecursion IsBytes ws → AllByRecursion IsBytes (onto_first b ws)
first_bytes b [] f a = (All-cons (λ b. b < 256) b [] f (All-nil (λ b. b < 256)), tt)
first_bytes b (w ∷ ws) f a = (All-cons (λ b. b < 256) b w f a.0, a.1)

either_bytes : (t : Bool) (x y : List (List ℕ)) → AllByRecursion IsBytes x → AllByRecursion IsBytes y → AllByRecursion IsBytes (cond t x y)
either_bytes true x y p q = p
either_bytes false x y p q = q

pub pieces_bytes : (byte : ℕ) (w : List ℕ) → IsBytes w → AllByRecursion IsBytes (pieces byte w)
pieces_bytes byte [] a = (All-nil (λ b. b < 256), tt)
pieces_bytes byte (b ∷ bs) a =
    let more = pieces_bytes byte bs (All-tail (λ b. b < 256) b bs a) in
    either_bytes (b == byte) _ _ (All-nil (λ b. b < 256), more) (first_bytes b _ (All-head (λ b. b < 256) b bs a) more)

pub each_given : {X : Type 0} {P : X → Type 0} {read : List ℕ → Option X} → ((w : List ℕ) → IsBytes w → Given P (read w)) → (ws : List (List ℕ)) → AllByRecursion IsBytes ws → Given (AllByRecursion P) (read_each read ws)
each_given {P = P} k [] a = one {P = AllByRecursion P} {a = []} tt
each_given {P = P} k (w ∷ ws) a = bind (k w a.0) (λ x p. bind (each_given k ws a.1) (λ xs q. one {P = AllByRecursion P} {a = x ∷ xs} (p, q)))

pub list_given : {X : Type 0} {P : X → Type 0} {read : List ℕ → Option X} (byte : ℕ) → ((w : List ℕ) → IsBytes w → Given P (read w)) → (w : List ℕ) → IsBytes w → Given (AllByRecursion P) (list_of byte read w)
list_given {P = P} byte k w a = either (bytes_eq w (codes "-")) _ _ (λ e. one {P = AllByRecursion P} {a = []} tt) (each_given k (pieces byte w) (pieces_bytes byte w a))

pub zids_given : (w : List ℕ) → IsBytes w → Given (AllByRecursion FitsZid) (zids_of w)
zids_given w a = list_given 44 zid_given w a

pub entry_given : (w : List ℕ) → IsBytes w → Given FitsEntry (entry_of w)
unfolding entry_of
entry_given w a = bind (cut_given 61 w a) (λ parts p. bind (zid_given parts.0 p.word) (λ node q. bind (zids_given parts.1 p.rest) (λ gateways r. one (record { node = q; gateways = r }))))

pub all_given : (w : List ℕ) → IsBytes w → Given (FitsOption (AllByRecursion FitsZid)) (all_of w)
all_given w a = either (bytes_eq w (codes "none")) _ _ (λ e. one {P = FitsOption (AllByRecursion FitsZid)} tt) (bind (zids_given w a) (λ zids p. one {P = FitsOption (AllByRecursion FitsZid)} p))

direction_given : (w : List ℕ) → IsBytes w → Given (FitsOption (λ n. n ≤ most_32)) (direction_of w)
direction_given w a = either (bytes_eq w (codes "x")) _ _ (λ e. one {P = FitsOption (λ n. n ≤ most_32)} tt) (bind (number_given most_32 w a) (λ n p. one {P = FitsOption (λ n. n ≤ most_32)} p))

pub tree_given : (w : List ℕ) → IsBytes w → Given FitsTree (tree_of w)
unfolding tree_of
tree_given w a =
    bind (cut_given 47 w a) (λ parts p. bind (list_given 44 (number_given most_32) parts.0 p.word) (λ children q.
    bind (list_given 44 direction_given parts.1 p.rest) (λ directions r. one (record { children = q; directions = r }))))
