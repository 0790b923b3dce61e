-- Bytes serve as well as characters, whichever the relation.
use Rattle.std.proofs.Common.{◌≡◌, ℕ, ◌<◌, ◌≤◌, ◌+◌, ◌/◌, ◌%◌, ◌==◌, Bool, true, false, ◌&&◌, ◌||◌, List, [], ◌∷◌, ◌++◌, Option, Some, None, ◌⊎◌, inl, inr, refl, sym, ◌∙◌, arith, append-nil}
use Rattle.std.specs.List.{list_all}
use Rattle.std.proofs.lemmas.Bool.{false≢true, or_cases, and_parts, or_left, or_right, cases_lt, lt-ltb, le-ltb, eqb-true, eq-eqb, false_from_ne_true}
use Rattle.std.proofs.lemmas.Bool.Decides.{Decides-eqb}
use Rattle.std.proofs.lemmas.Str.{encode_same}
use lib.Utf8.{encode}
use Rattle.zq_key.proofs.Spelling.{is_next, somes, spell}

-- the bytes of one character
pub record Word (c : ℕ) : Type 0 where
  pub lead : ℕ
  pub rest : List ℕ
  pub is : encode c ≡ (lead ∷ rest)
  pub lead_first : is_next lead ≡ false
  pub rest_next : list_all is_next rest ≡ true
  pub low : c < 128 → (lead ≡ c) × (rest ≡ [])
  pub high : 128 ≤ c → 192 ≤ lead

next_is : (x : ℕ) → is_next (128 + x % 64) ≡ true
next_is x = rw (le-ltb (128 + x % 64) 128 (omega arith), lt-ltb (128 + x % 64) 192 (omega arith)) refl

lead_is : (x : ℕ) → 192 ≤ x → is_next x ≡ false
lead_is x h = rw (le-ltb x 128 (omega arith), le-ltb x 192 h) refl

pub word : (c : ℕ) → Word c
unfolding encode
word c = by_size (cases_lt c 128) (cases_lt c 2048) (cases_lt c 65536)
  where
    by_size : ((c < 128) ⊎ (128 ≤ c)) → ((c < 2048) ⊎ (2048 ≤ c)) → ((c < 65536) ⊎ (65536 ≤ c)) → Word c
    by_size (inl h) k l = record { lead = c; rest = []; is = rw (lt-ltb c 128 h) refl; lead_first = rw (lt-ltb c 128 h) refl; rest_next = refl; low = λ _. (refl, refl); high = λ m. absurd (omega arith) }
    by_size (inr h) (inl k) l = record { lead = 192 + c / 64; rest = (128 + c % 64) ∷ []; is = rw (le-ltb c 128 h, lt-ltb c 2048 k) refl; lead_first = lead_is (192 + c / 64) (omega arith); rest_next = rw (next_is c) refl; low = λ m. absurd (omega arith); high = λ _. omega arith }
    by_size (inr h) (inr k) (inl l) = record { lead = 224 + c / 4096; rest = (128 + (c / 64) % 64) ∷ (128 + c % 64) ∷ []; is = rw (le-ltb c 128 h, le-ltb c 2048 k, lt-ltb c 65536 l) refl; lead_first = lead_is (224 + c / 4096) (omega arith); rest_next = rw (next_is c, next_is (c / 64)) refl; low = λ m. absurd (omega arith); high = λ _. omega arith }
    by_size (inr h) (inr k) (inr l) = record { lead = 240 + c / 262144; rest = (128 + (c / 4096) % 64) ∷ (128 + (c / 64) % 64) ∷ (128 + c % 64) ∷ []; is = rw (le-ltb c 128 h, le-ltb c 2048 k, le-ltb c 65536 l) refl; lead_first = lead_is (240 + c / 262144) (omega arith); rest_next = rw (next_is c, next_is (c / 64), next_is (c / 4096)) refl; low = λ m. absurd (omega arith); high = λ _. omega arith }

-- a character does not begin inside another
pub lead_apart : (c x : ℕ) (w : Word c) → is_next x ≡ true → (w.lead == x) ≡ false
lead_apart c x w h = false_from_ne_true (w.lead == x) (λ e. false≢true (sym w.lead_first ∙ (rw (eqb-true w.lead x e) h)))

both_cons : (x y : ℕ) (u v : List ℕ) → x ≡ y → u ≡ v → (x ∷ u) ≡ (y ∷ v)
both_cons x y u v e h = cc

-- how a relation of parts goes on, at runs and at bytes
pub record Reads (r : List (Option ℕ) → List (Option ℕ) → Bool) : Type 0 where
  pub run_ended : (a : List (Option ℕ)) → r (None ∷ a) [] ≡ r a []
  pub run : (a : List (Option ℕ)) (y : Option ℕ) (b : List (Option ℕ)) → r (None ∷ a) (y ∷ b) ≡ (r a (y ∷ b) || r (None ∷ a) b)
  pub left_over : (x : ℕ) (a : List (Option ℕ)) → r (Some x ∷ a) [] ≡ false
  pub lacking : (x : ℕ) (b : List (Option ℕ)) → r [] (Some x ∷ b) ≡ false
  pub bytes : (x y : ℕ) (a b : List (Option ℕ)) → r (Some x ∷ a) (Some y ∷ b) ≡ ((x == y) && r a b)

module _ (r : List (Option ℕ) → List (Option ℕ) → Bool) (reads : Reads r) where
  no_run : (p b : List (Option ℕ)) → r p b ≡ true → r (None ∷ p) b ≡ true
  no_run p [] h = reads.run_ended p ∙ h
  no_run p (y ∷ b) h = reads.run p y b ∙ or_left (r p (y ∷ b)) (r (None ∷ p) b) h

  lead : (c : ℕ) (a : List (Option ℕ)) (x : ℕ) (b : List (Option ℕ)) → is_next x ≡ true → r (somes (encode c) ++ a) (Some x ∷ b) ≡ false
  lead c a x b h = let w = word c in rw w.is (reads.bytes w.lead x (somes w.rest ++ a) b ∙ (rw (lead_apart c x w h) refl))

  -- `$*` may take what is left of a character
  rest : (a : List (Option ℕ)) (k : List ℕ) (b : List (Option ℕ)) → list_all is_next k ≡ true → r (None ∷ spell a) (somes k ++ b) ≡ true → r (None ∷ spell a) b ≡ true
  rest a [] b hk h = h
  rest [] (x ∷ k) b hk h = elim (or_cases (r [] (Some x ∷ (somes k ++ b))) (r (None ∷ []) (somes k ++ b)) (sym (reads.run [] (Some x) (somes k ++ b)) ∙ h)) [
    | inl t ↦ absurd (false≢true (sym (reads.lacking x (somes k ++ b)) ∙ t))
    | inr t ↦ rest [] k b ((and_parts (is_next x) (list_all is_next k) hk).1) t
  ]
  rest (None ∷ a) (x ∷ k) b hk h = elim (or_cases (r (None ∷ spell a) (Some x ∷ (somes k ++ b))) (r (None ∷ None ∷ spell a) (somes k ++ b)) (sym (reads.run (None ∷ spell a) (Some x) (somes k ++ b)) ∙ h)) [
    | inl t ↦ no_run (None ∷ spell a) b (rest a (x ∷ k) b hk t)
    | inr t ↦ rest (None ∷ a) k b ((and_parts (is_next x) (list_all is_next k) hk).1) t
  ]
  rest (Some c ∷ a) (x ∷ k) b hk h = elim (or_cases (r (spell (Some c ∷ a)) (Some x ∷ (somes k ++ b))) (r (None ∷ spell (Some c ∷ a)) (somes k ++ b)) (sym (reads.run (spell (Some c ∷ a)) (Some x) (somes k ++ b)) ∙ h)) [
    | inl t ↦ absurd (false≢true (sym (lead c (spell a) x (somes k ++ b) ((and_parts (is_next x) (list_all is_next k) hk).0)) ∙ t))
    | inr t ↦ rest (Some c ∷ a) k b ((and_parts (is_next x) (list_all is_next k) hk).1) t
  ]

  -- equal characters from equal bytes
  lockstep : (u v : List ℕ) (a b : List (Option ℕ)) → r (somes u ++ a) (somes v ++ b) ≡ true → (p : List ℕ) × (q : List ℕ) × ((u ++ p) ≡ (v ++ q)) × (p ≡ q → r a b ≡ true)
  lockstep [] [] a b h = ([], [], refl, λ _. h)
  lockstep [] (y ∷ v) a b h = (y ∷ v, [], sym (append-nil (y ∷ v)), λ e. absurd (cc e))
  lockstep (x ∷ u) [] a b h = ([], x ∷ u, append-nil (x ∷ u), λ e. absurd (cc e))
  lockstep (x ∷ u) (y ∷ v) a b h =
      let p = and_parts (x == y) (r (somes u ++ a) (somes v ++ b)) (sym (reads.bytes x y (somes u ++ a) (somes v ++ b)) ∙ h) in
      let k = lockstep u v a b p.1 in
      (k.0, k.1, both_cons x y (u ++ k.0) (v ++ k.1) (eqb-true x y p.0) k.2, k.3)

  same : (u : List ℕ) (a b : List (Option ℕ)) → r a b ≡ true → r (somes u ++ a) (somes u ++ b) ≡ true
  same [] a b h = h
  same (x ∷ u) a b h = reads.bytes x x (somes u ++ a) (somes u ++ b) ∙ (rw ((Decides-eqb x x).1 refl, same u a b h) refl)

  absorb : (p a b : List (Option ℕ)) → r (None ∷ a) b ≡ true → r (None ∷ a) (p ++ b) ≡ true
  absorb [] a b h = h
  absorb (x ∷ p) a b h = reads.run a x (p ++ b) ∙ or_right (r a (x ∷ (p ++ b))) (r (None ∷ a) (p ++ b)) (absorb p a b h)

  pub no_lead : (c : ℕ) (a : List (Option ℕ)) → r (somes (encode c) ++ a) [] ≡ false
  no_lead c a = let w = word c in rw w.is (reads.left_over w.lead (somes w.rest ++ a))

  pub nothing_reads : (d : ℕ) (b : List (Option ℕ)) → r [] (somes (encode d) ++ b) ≡ false
  nothing_reads d b = let w = word d in rw w.is (reads.lacking w.lead (somes w.rest ++ b))

  -- ---- a pair of heads is spelled
  pub spelled_run : (a : List (Option ℕ)) (y : Option ℕ) (b : List (Option ℕ)) → (r a (y ∷ b) ≡ true → r (spell a) (spell (y ∷ b)) ≡ true) → (r (None ∷ a) b ≡ true → r (None ∷ spell a) (spell b) ≡ true) → r (None ∷ a) (y ∷ b) ≡ true → r (None ∷ spell a) (spell (y ∷ b)) ≡ true
  spelled_run a None b i j h = elim (or_cases (r a (None ∷ b)) (r (None ∷ a) b) (sym (reads.run a None b) ∙ h)) [
    | inl t ↦ no_run (spell a) (None ∷ spell b) (i t)
    | inr t ↦ absorb (None ∷ []) (spell a) (spell b) (j t)
  ]
  spelled_run a (Some d) b i j h = elim (or_cases (r a (Some d ∷ b)) (r (None ∷ a) b) (sym (reads.run a (Some d) b) ∙ h)) [
    | inl t ↦ no_run (spell a) (spell (Some d ∷ b)) (i t)
    | inr t ↦ absorb (somes (encode d)) (spell a) (spell b) (j t)
  ]

  pub spelled_characters : (c d : ℕ) (a b : List (Option ℕ)) → (r a b ≡ true → r (spell a) (spell b) ≡ true) → r (Some c ∷ a) (Some d ∷ b) ≡ true → r (spell (Some c ∷ a)) (spell (Some d ∷ b)) ≡ true
  spelled_characters c d a b i h =
      let p = and_parts (c == d) (r a b) (sym (reads.bytes c d a b) ∙ h) in
      rw (← (eqb-true c d p.0)) (same (encode c) (spell a) (spell b) (i p.1))

  -- ---- a pair of heads is read back
  runs : (a : List (Option ℕ)) (y : Option ℕ) (b : List (Option ℕ)) → r (None ∷ spell a) (spell (y ∷ b)) ≡ true → (r (spell a) (spell (y ∷ b)) ≡ true) ⊎ (r (None ∷ spell a) (spell b) ≡ true)
  runs a None b h = or_cases (r (spell a) (None ∷ spell b)) (r (None ∷ spell a) (spell b)) (sym (reads.run (spell a) None (spell b)) ∙ h)
  runs a (Some d) b h =
      let w = word d in
      let k = rw w.is at h in
      choose w (or_cases (r (spell a) (Some w.lead ∷ (somes w.rest ++ spell b))) (r (None ∷ spell a) (somes w.rest ++ spell b)) (sym (reads.run (spell a) (Some w.lead) (somes w.rest ++ spell b)) ∙ k))
    where
      choose : (w : Word d) → ((r (spell a) (Some w.lead ∷ (somes w.rest ++ spell b)) ≡ true) ⊎ (r (None ∷ spell a) (somes w.rest ++ spell b) ≡ true)) → (r (spell a) (spell (Some d ∷ b)) ≡ true) ⊎ (r (None ∷ spell a) (spell b) ≡ true)
      choose w (inl t) = inl (rw w.is t)
      choose w (inr t) = inr (rest a w.rest (spell b) w.rest_next t)

  pub read_run : (a : List (Option ℕ)) (y : Option ℕ) (b : List (Option ℕ)) → (r (spell a) (spell (y ∷ b)) ≡ true → r a (y ∷ b) ≡ true) → (r (None ∷ spell a) (spell b) ≡ true → r (None ∷ a) b ≡ true) → r (None ∷ spell a) (spell (y ∷ b)) ≡ true → r (None ∷ a) (y ∷ b) ≡ true
  read_run a y b i j h = elim (runs a y b h) [
    | inl t ↦ reads.run a y b ∙ or_left (r a (y ∷ b)) (r (None ∷ a) b) (i t)
    | inr t ↦ reads.run a y b ∙ or_right (r a (y ∷ b)) (r (None ∷ a) b) (j t)
  ]

  pub read_characters : (c d : ℕ) (a b : List (Option ℕ)) → (r (spell a) (spell b) ≡ true → r a b ≡ true) → r (spell (Some c ∷ a)) (spell (Some d ∷ b)) ≡ true → r (Some c ∷ a) (Some d ∷ b) ≡ true
  read_characters c d a b i h =
      let k = lockstep (encode c) (encode d) (spell a) (spell b) h in
      let e = encode_same c d k.0 k.1 k.2 in
      reads.bytes c d a b ∙ (rw (eq-eqb c d e.0, i (k.3 e.1)) refl)

pub both : (b c : Bool) → (b ≡ true → c ≡ true) → (c ≡ true → b ≡ true) → b ≡ c
both true c f g = sym (f refl)
both false true f g = g refl
both false false f g = refl
