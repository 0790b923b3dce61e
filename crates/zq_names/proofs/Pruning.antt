-- A run of texts that begin with bytes with which no match begins.
use Rattle.std.proofs.Common.{◌≡◌, ◌≢◌, ℕ, ◌+◌, ◌<◌, ◌≤◌, Bool, true, false, cond, ◌&&◌, List, [], ◌∷◌, ◌++◌, length, take, drop, filter, get_or, sym, ap, ◌∙◌, refl, arith, inl, inr, Option}
use Rattle.std.specs.declared.cmp.Ordering.TheVariants.{Less}
use Rattle.std.specs.List.{All}
use Rattle.std.specs.List.Sorted.{IsStrictlySortedBy}
use Rattle.std.proofs.lemmas.Bool.{cases_lt, cases_eq}
use Rattle.std.proofs.lemmas.List.{get_or_default, take_more, drop_more, append_assoc, drop_at, length-take-le, length-drop, get_or-drop, get_or-take, get_or-map, take-take, take-append-drop, map-append}
use Rattle.std.proofs.lemmas.List.Elements.{All-head, All-tail, filter-append}
use Rattle.std.proofs.lemmas.Map.Keys.{Less-from_sorted}
use Rattle.zq_names.specs.Texts.{text_cmp}
use Rattle.zq_names.specs.Names.{NameEntry, SplitsAt, IsTable, rows, texts, text_at, ids}
use Rattle.zq_names.specs.declared.node.Node.{Node}
use Rattle.zq_key.specs.Key.{is_key, is_chunk, intersects}
use Rattle.zq_names.specs.Matching.{is_match, meets_key}
use Rattle.zq_key.specs.Apart.{is_apart, IsApartAt}
use Rattle.zq_key.proofs.Apart.{is_apart-longer, apart_misses}
use Rattle.zq_key.proofs.Runs.{Begins, squeezed_run, run_is_less, not_below_itself}
use Rattle.zq_names.proofs.Rows.{length-texts, length-texts-rows}
use Rattle.zq_names.proofs.TextOrder.{Less-trans}

pub one_entry : {X : Type 0} (ns : List X) (i : ℕ) (d : X) → i < length ns → drop i (take (i + 1) ns) ≡ get_or ns i d ∷ []
one_entry ns i d lt = rw (take_more ns i d lt) (drop_at (take i ns) (get_or ns i d ∷ []) i (length-take-le i ns (omega arith)))

pub filter_one : {X : Type 0} (p : X → Bool) (x : X) (b : Bool) → p x ≡ b → filter p (x ∷ []) ≡ cond b (x ∷ []) []
filter_one p x b e = rw e

pub filter_none : {X : Type 0} (p : X → Bool) (xs : List X) → All (λ x. p x ≡ false) xs → filter p xs ≡ []
filter_none p [] all = refl
filter_none p (x ∷ xs) all = rw (All-head (λ x. p x ≡ false) x xs all) (filter_none p xs (All-tail (λ x. p x ≡ false) x xs all))

not_less_back : (x y : List ℕ) → text_cmp x y ≡ Less → text_cmp y x ≢ Less
not_less_back x y less back = not_below_itself x (Less-trans x y x less back)

-- the run from a text that begins so up to the byte after begins so
pub run_begins : (ns : List NameEntry) (p : List ℕ) (b i j q : ℕ) → IsStrictlySortedBy text_cmp (texts ns) → SplitsAt ns (p ++ (b + 1) ∷ []) j → Begins p b (text_at ns i) → i ≤ q → q < j → Begins p b (text_at ns q)
run_begins ns p b i j q rising split (r, is) le lt =
    let n = length-texts ns in
    let above : text_cmp (text_at ns q) (p ++ b ∷ r) ≢ Less = elim (cases_eq q i) [
      | inl same ↦ λ less. not_below_itself (p ++ b ∷ r) (rw (ap (λ k. text_at ns k) same ∙ is) at less)
      | inr differ ↦ rw (← is) (not_less_back (text_at ns i) (text_at ns q) (Less-from_sorted text_cmp (texts ns) i q [] rising (omega arith) (omega (arith, split.in_range, n))))
    ] in
    squeezed_run p (text_at ns q) r b above (split.before q lt)

pub run_goes_on : (ns : List NameEntry) (p : List ℕ) (b i j : ℕ) → SplitsAt ns (p ++ (b + 1) ∷ []) j → i < length ns → Begins p b (text_at ns i) → i < j
run_goes_on ns p b i j split lt (r, is) = elim (cases_lt i j) [
  | inl yes_lt ↦ yes_lt
  | inr past ↦ absurd (split.from i past lt (rw is (run_is_less p r b)))
]

-- a context, and a text that passes
abbrev passes : (List ℕ → Bool) → NameEntry → Bool
passes hits e = e.context && hits e.text

-- nothing of a run passes where nothing that begins so does
dead_run : (hits : List ℕ → Bool) (ns : List NameEntry) (p : List ℕ) (b i j : ℕ) → IsStrictlySortedBy text_cmp (texts ns) → SplitsAt ns (p ++ (b + 1) ∷ []) j → Begins p b (text_at ns i)
    → ((rest : List ℕ) → hits (p ++ b ∷ rest) ≡ false) → filter (passes hits) (drop i (take j ns)) ≡ []
dead_run hits ns p b i j rising split begins dead = filter_none (passes hits) (drop i (take j ns)) (λ k d lt.
    let count = length-take-le j ns split.in_range in
    let shorter = length-drop i (take j ns) in
    let here : get_or (drop i (take j ns)) k d ≡ get_or ns (i + k) d = get_or-drop i (take j ns) k d ∙ get_or-take j ns (i + k) d (omega (arith, count, shorter)) in
    let e = get_or ns (i + k) d in
    let text : text_at ns (i + k) ≡ e.text = get_or-map (λ (e : NameEntry). e.text) ns (i + k) d [] (omega (arith, count, shorter, split.in_range)) in
    let run = run_begins ns p b i j (i + k) rising split begins (omega arith) (omega (arith, count, shorter)) in
    let missed : hits e.text ≡ false = ap hits (sym text ∙ run.1) ∙ dead run.0 in
    rw (here, missed) (never_both e.context))
  where
    never_both : (c : Bool) → (c && false) ≡ false
    never_both true = refl
    never_both false = refl

pub no_meeting : (key t : List ℕ) → intersects t key ≡ false → meets_key key t ≡ false
no_meeting key t miss = by (is_key t) (intersects t key) miss
  where
    by : (a b : Bool) → b ≡ false → (a && b) ≡ false
    by true b e = e
    by false b e = refl

-- both facts of a jump, from what the code knows
pub jump : (key : List ℕ) (ns : List NameEntry) (t p : List ℕ) (i j k : ℕ) → IsStrictlySortedBy text_cmp (texts ns) → SplitsAt ns (p ++ (get_or t k 0 + 1) ∷ []) j → i < length ns
    → t ≡ text_at ns i → p ≡ take k t → IsApartAt t key k
    → (i < j) × (filter (is_match key) (drop i (take j ns)) ≡ [])
jump key ns t p i j k rising split lt there cut apart =
    let b = get_or t k 0 in
    let whole : t ≡ p ++ b ∷ drop (k + 1) t = sym (take-append-drop k t) ∙ rw (← cut, drop_more t k 0 apart.in_range) in
    let begins : Begins p b (text_at ns i) = (drop (k + 1) t, sym there ∙ whole) in
    let front : take (k + 1) t ≡ p ++ b ∷ [] = take_more t k 0 apart.in_range ∙ rw (← cut) in
    let dead : (rest : List ℕ) → meets_key key (p ++ b ∷ rest) ≡ false = λ rest.
    let longer : is_apart (p ++ b ∷ rest) key ≡ true = ap (λ (x : List ℕ). is_apart x key) (sym (append_assoc p (b ∷ []) rest)) ∙ is_apart-longer (p ++ b ∷ []) rest key (ap (λ (x : List ℕ). is_apart x key) (sym front) ∙ apart.apart) in
    no_meeting key (p ++ b ∷ rest) (apart_misses (p ++ b ∷ rest) key longer) in
    (run_goes_on ns p b i j split lt begins, dead_run (meets_key key) ns p b i j rising split begins dead)

-- one entry looked at
pub one_look : (key : List ℕ) (ns : List NameEntry) (i : ℕ) (d : NameEntry) (b : Bool) → i < length ns → is_match key (get_or ns i d) ≡ b
    → filter (is_match key) (drop i (take (i + 1) ns)) ≡ cond b (get_or ns i d ∷ []) []
one_look key ns i d b lt e = rw (one_entry ns i d lt) (filter_one (is_match key) (get_or ns i d) b e)

-- a loop's step: the part looked at is longer
pub looked_more : (p : NameEntry → Bool) (ns : List NameEntry) (i j : ℕ) → i ≤ j → ids (filter p (take i ns)) ++ ids (filter p (drop i (take j ns))) ≡ ids (filter p (take j ns))
looked_more p ns i j le =
    let whole : take i ns ++ drop i (take j ns) ≡ take j ns = ap (λ (l : List NameEntry). l ++ drop i (take j ns)) (sym (take-take i j ns le)) ∙ take-append-drop i (take j ns) in
    sym (map-append (λ (e : NameEntry). e.id) (filter p (take i ns)) (filter p (drop i (take j ns))))
    ∙ ap ids (sym (filter-append p (take i ns) (drop i (take j ns))))
    ∙ ap (λ (l : List NameEntry). ids (filter p l)) whole

pub key_there : (nodes : List (Option Node)) (order : List ℕ) (i : ℕ) → IsTable nodes order → i < length order → 0 < length (text_at (rows nodes order) i) → is_key (text_at (rows nodes order) i) ≡ true
key_there nodes order i table lt some =
    let ts = texts (rows nodes order) in
    let t = text_at (rows nodes order) i in
    let within : i < length ts = omega (arith, length-texts-rows nodes order) in
    table.names.keys t (i, within, get_or_default ts i t [] within) some

-- the empty text is no key
pub empty_no_key : is_key [] ≡ false
unfolding is_key is_chunk
empty_no_key = refl
