-- How a text and a key go on side by side: what is dead after a byte is dead with it.
use Rattle.std.proofs.Common.{◌≡◌, ◌≢◌, ℕ, ◌+◌, ◌<◌, ◌≤◌, Bool, true, false, ◌==◌, cond, eqb, ◌-◌, List, [], ◌∷◌, ◌++◌, length, take, drop, get_or, sym, subst, ap, ◌∙◌, refl, arith, ◌⊎◌, inl, inr, Some, None}
use Rattle.std.specs.Prelude.{nat_le, not, ◌&&◌}
use Rattle.std.specs.declared.cmp.Ordering.{Ordering}
use Rattle.std.specs.declared.cmp.Ordering.TheVariants.{Less, Equal, Greater}
use Rattle.std.specs.Ordering.{nat_cmp, ordering_then}
use Rattle.std.proofs.lemmas.Cmp.{ranked}
use Rattle.std.specs.List.{onto_first, position, join_with_byte, starts_with}
use Rattle.std.proofs.Math.Nat.{eq-or-lt_of_le}
use Rattle.std.proofs.lemmas.Bool.{true≢false, or_parts, false_from_ne_true}
use Rattle.std.proofs.lemmas.Bool.Decides.{nat_tests}
use Rattle.std.proofs.lemmas.Slice.Eq.{bytes_eq-Decides}
use Rattle.std.proofs.lemmas.List.{drop_more, drop-drop, drop_all, length-drop, take_all, take_more, append_assoc}
use Rattle.std.proofs.lemmas.List.Splits.{join_with_byte-slice_split}
use Rattle.zq_key.specs.Key.{chunks, is_stars, intersects}
use Rattle.zq_key.specs.Apart.{is_wild, Misses}
use Rattle.zq_key.proofs.Apart.{HasFirst, has_first, misses_meet, misses, Misses-onto, not_stars, apart_step, apart_end}
use Rattle.zq_key.proofs.Chunks.{cut-none, cut-some}
use Rattle.zq_index.specs.declared.forks.Mode.{Mode}
use Rattle.zq_index.specs.declared.forks.Mode.TheVariants.{Chunk, Star, Free}
use Rattle.zq_index.specs.Texts.{text_cmp, mixed_after}
use Rattle.zq_index.specs.Skipping.{is_run, run_of}
use Rattle.zq_index.specs.Forks.{later, chunks_from, EndsAbove, IsHeld, Leads, Parts, GoesOn, PassesOver}

-- ---- one byte, over lists
slash_on : (gs : List (List ℕ)) → GoesOn Chunk ([] ∷ gs) 47 Chunk gs
slash_on gs rest m = inr (refl, refl, misses_meet (chunks rest) gs m)

-- a byte that both have
same_on : (x : ℕ) (u : List ℕ) → is_wild x ≡ false → GoesOn Chunk (chunks (x ∷ u)) x Chunk (chunks u)
same_on x u w rest m = by (x == 47) (has_first u)
  where
    by : (b : Bool) → HasFirst u → Misses (cond b ([] ∷ chunks rest) (onto_first x (chunks rest))) (cond b ([] ∷ chunks u) (onto_first x (chunks u)))
    by true first = inr (refl, refl, misses_meet (chunks rest) (chunks u) m)
    by false (g, gs, is) =
        subst (λ c. Misses (onto_first x (chunks rest)) (onto_first x c)) (sym is) (Misses-onto x (chunks rest) g gs w (subst (Misses (chunks rest)) is m))

-- the key's chunk is passed over
star_on : (g : List ℕ) (gs : List (List ℕ)) → is_stars g ≡ false → GoesOn Chunk (g ∷ gs) 42 Star gs
star_on g gs shut rest (more, is, m) =
    subst (λ (r : List ℕ). Misses (chunks (42 ∷ r)) (g ∷ gs)) (sym is) (inr (refl, shut, misses_meet (chunks more) gs m))

pass_slash : (g : List ℕ) (gs : List (List ℕ)) → is_stars g ≡ false → GoesOn Chunk (g ∷ gs) 47 Chunk gs
pass_slash g gs shut rest m = inr (refl, shut, misses_meet (chunks rest) gs m)

free_on : (x : ℕ) (g : List ℕ) (gs : List (List ℕ)) → is_stars g ≡ false → (x == 42) ≡ false → (x == 47) ≡ false → GoesOn Chunk (g ∷ gs) x Free gs
free_on x g gs shut no_star no_slash rest m = by (has_first rest)
  where
    by : HasFirst rest → Misses (cond (x == 47) ([] ∷ chunks rest) (onto_first x (chunks rest))) (g ∷ gs)
    by (h, hs, is) =
        let left : Misses hs gs = subst (λ c. Misses (later c) gs) is m in
        rw (no_slash, is) (inr (not_stars x h no_star, shut, misses_meet hs gs left))

free_more : (x : ℕ) (gs : List (List ℕ)) → (x == 47) ≡ false → GoesOn Free gs x Free gs
free_more x gs no_slash rest m = by (has_first rest)
  where
    by : HasFirst rest → Misses (later (cond (x == 47) ([] ∷ chunks rest) (onto_first x (chunks rest)))) gs
    by (h, hs, is) = rw (no_slash, is) (subst (λ c. Misses (later c) gs) is m)

free_end : (gs : List (List ℕ)) → GoesOn Free gs 47 Chunk gs
free_end gs rest m = m

star_end : (gs : List (List ℕ)) → GoesOn Star gs 47 Chunk gs
star_end gs rest m = (rest, refl, m)

-- ---- where they part
parts_at : (y : ℕ) (u : List ℕ) → is_wild y ≡ false → Parts Chunk (chunks (y ∷ u)) y
parts_at y u w d more tame other =
    let differ : (d == y) ≡ false = grind (arith, nat_tests) in
    apart_step d y more u false (d == 47) (y == 47) differ refl refl tame w refl (misses more u) (has_first more) (has_first u)

parts_end : Parts Chunk ([] ∷ []) 47
parts_end d more tame other =
    let no_slash : (d == 47) ≡ false = grind (arith, nat_tests) in
    rw no_slash (apart_end d more false no_slash (rw tame refl) (has_first more))

parts_over : Parts Chunk [] 42
parts_over d more tame other = by (d == 47) (has_first more)
  where
    by : (b : Bool) → HasFirst more → Misses (cond b ([] ∷ chunks more) (onto_first d (chunks more))) []
    by true first = refl
    by false (h, hs, is) = rw is (not_stars d h (or_parts (d == 42) (d == 36) tame).0)

-- ---- at a place of the key
pub within_from : (q : List ℕ) (j : ℕ) → j ≤ length q → chunks_from q j ≡ chunks (drop j q)
within_from q j le = let yes : nat_le j (length q) ≡ true = grind (arith, nat_tests) in rw yes refl

past_from : (q : List ℕ) (j : ℕ) → length q < j → chunks_from q j ≡ []
past_from q j lt = let no : nat_le j (length q) ≡ false = grind (arith, nat_tests) in rw no refl

-- the text after the key's last chunk, by a `/`
pub end_on : (q : List ℕ) (x : ℕ) → x ≡ 47 → GoesOn Chunk (chunks_from q (length q)) x Chunk (chunks_from q (length q + 1))
end_on q x is rest m =
    let here : chunks_from q (length q) ≡ [] ∷ [] = within_from q (length q) (omega arith) ∙ ap chunks (drop_all (length q) q (omega arith)) in
    let past : chunks_from q (length q + 1) ≡ [] = past_from q (length q + 1) (omega arith) in
    let missed = slash_on [] rest (subst (Misses (chunks rest)) past m) in
    subst (λ (b : ℕ). Misses (chunks (b ∷ rest)) (chunks_from q (length q))) (sym is) (subst (Misses ([] ∷ chunks rest)) (sym here) missed)

-- a byte that both have
pub byte_on : (q : List ℕ) (j x : ℕ) → j < length q → x ≡ get_or q j 0 → is_wild x ≡ false → GoesOn Chunk (chunks_from q j) x Chunk (chunks_from q (j + 1))
byte_on q j x lt is w rest m =
    let here : chunks_from q j ≡ chunks (x ∷ drop (j + 1) q) = within_from q j (omega arith) ∙ ap chunks (drop_more q j 0 lt ∙ ap (λ b. b ∷ drop (j + 1) q) (sym is)) in
    let after : chunks_from q (j + 1) ≡ chunks (drop (j + 1) q) = within_from q (j + 1) (omega arith) in
    subst (Misses (chunks (x ∷ rest))) (sym here) (same_on x (drop (j + 1) q) w rest (subst (Misses (chunks rest)) after m))

-- ---- a chunk of the key is passed over
pub left_whole : (q : List ℕ) (j : ℕ) → take (length q - j) (drop j q) ≡ drop j q
left_whole q j = take_all (length q - j) (drop j q) (omega (arith, length-drop j q))

joined_first : (g : List ℕ) (gs : List (List ℕ)) → g ≡ 42 ∷ 42 ∷ [] → starts_with eqb (join_with_byte 47 (g ∷ gs)) (42 ∷ 42 ∷ []) ≡ true
joined_first g [] is = rw is refl
joined_first g (c ∷ gs) is = rw is refl

not_stars_first : (u g : List ℕ) (gs : List (List ℕ)) → starts_with eqb u (42 ∷ 42 ∷ []) ≡ false → chunks u ≡ g ∷ gs → is_stars g ≡ false
not_stars_first u g gs none is = false_from_ne_true (is_stars g) (λ k.
    let same : g ≡ 42 ∷ 42 ∷ [] = (bytes_eq-Decides g (42 ∷ 42 ∷ [])).0 k in
    let whole : u ≡ join_with_byte 47 (g ∷ gs) = sym (join_with_byte-slice_split 47 u) ∙ ap (join_with_byte 47) is in
    true≢false (sym (joined_first g gs same) ∙ ap (λ t. starts_with eqb t (42 ∷ 42 ∷ [])) (sym whole) ∙ none))

pub passed_to : (q : List ℕ) (j end : ℕ) → j ≤ length q → starts_with eqb (drop j q) (42 ∷ 42 ∷ []) ≡ false → Some end ≡ position (λ c. c == 47) (drop j q) → PassesOver q j (j + end + 1)
passed_to q j end le none is =
    let u = drop j q in
    let cut = cut-some u end is in
    let left : length u ≡ length q - j = length-drop j q in
    let rest : chunks (drop (end + 1) u) ≡ chunks_from q (j + end + 1) =
    ap chunks (drop-drop (end + 1) j q ∙ ap (λ n. drop n q) (omega arith)) ∙ sym (within_from q (j + end + 1) (omega (arith, cut.0, left))) in
    (take end u, within_from q j le ∙ cut.1 ∙ ap (λ c. take end u ∷ c) rest, not_stars_first u (take end u) (chunks (drop (end + 1) u)) none cut.1)

pub passed_out : (q : List ℕ) (j : ℕ) → j ≤ length q → starts_with eqb (drop j q) (42 ∷ 42 ∷ []) ≡ false → None ≡ position (λ c. c == 47) (drop j q) → PassesOver q j (length q + 1)
passed_out q j le none is =
    let u = drop j q in
    let cut = cut-none u is in
    (u, within_from q j le ∙ cut ∙ ap (λ c. u ∷ c) (sym (past_from q (length q + 1) (omega arith))), not_stars_first u u [] none cut)

module _ (q : List ℕ) (j next : ℕ) (p : PassesOver q j next) where
  from_first : (mode : Mode) (x : ℕ) → GoesOn Chunk (p.0 ∷ chunks_from q next) x mode (chunks_from q next) → GoesOn Chunk (chunks_from q j) x mode (chunks_from q next)
  from_first mode x goes rest m = subst (Misses (chunks (x ∷ rest))) (sym p.1) (goes rest m)

  pub star_over : (x : ℕ) → x ≡ 42 → GoesOn Chunk (chunks_from q j) x Star (chunks_from q next)
  star_over x is = from_first Star x (subst (λ (b : ℕ). GoesOn Chunk (p.0 ∷ chunks_from q next) b Star (chunks_from q next)) (sym is) (star_on p.0 (chunks_from q next) p.2))

  pub slash_over : (x : ℕ) → x ≡ 47 → GoesOn Chunk (chunks_from q j) x Chunk (chunks_from q next)
  slash_over x is = from_first Chunk x (subst (λ (b : ℕ). GoesOn Chunk (p.0 ∷ chunks_from q next) b Chunk (chunks_from q next)) (sym is) (pass_slash p.0 (chunks_from q next) p.2))

  pub chunk_over : (x : ℕ) → x ≢ 42 → x ≢ 47 → GoesOn Chunk (chunks_from q j) x Free (chunks_from q next)
  chunk_over x no_star no_slash =
      let a : (x == 42) ≡ false = grind (arith, nat_tests) in
      let b : (x == 47) ≡ false = grind (arith, nat_tests) in
      from_first Free x (free_on x p.0 (chunks_from q next) p.2 a b)

-- ---- by modes
pub star_done : (gs : List (List ℕ)) (x : ℕ) → x ≡ 47 → GoesOn Star gs x Chunk gs
star_done gs x is = subst (λ (b : ℕ). GoesOn Star gs b Chunk gs) (sym is) (star_end gs)

pub free_done : (gs : List (List ℕ)) (x : ℕ) → x ≡ 47 → GoesOn Free gs x Chunk gs
free_done gs x is = subst (λ (b : ℕ). GoesOn Free gs b Chunk gs) (sym is) (free_end gs)

pub free_still : (gs : List (List ℕ)) (x : ℕ) → x ≢ 47 → GoesOn Free gs x Free gs
free_still gs x no_slash = let b : (x == 47) ≡ false = grind (arith, nat_tests) in free_more x gs b

pub wanted_byte : (q : List ℕ) (j : ℕ) → j < length q → is_wild (get_or q j 0) ≡ false → Parts Chunk (chunks_from q j) (get_or q j 0)
wanted_byte q j lt w d more tame other =
    let here : chunks_from q j ≡ chunks (get_or q j 0 ∷ drop (j + 1) q) = within_from q j (omega arith) ∙ ap chunks (drop_more q j 0 lt) in
    subst (Misses (chunks (d ∷ more))) (sym here) (parts_at (get_or q j 0) (drop (j + 1) q) w d more tame other)

pub wanted_end : (q : List ℕ) → Parts Chunk (chunks_from q (length q)) 47
wanted_end q d more tame other =
    let here : chunks_from q (length q) ≡ [] ∷ [] = within_from q (length q) (omega arith) ∙ ap chunks (drop_all (length q) q (omega arith)) in
    subst (Misses (chunks (d ∷ more))) (sym here) (parts_end d more tame other)

pub wanted_past : (q : List ℕ) (j : ℕ) → length q < j → Parts Chunk (chunks_from q j) 42
wanted_past q j lt d more tame other = subst (Misses (chunks (d ∷ more))) (sym (past_from q j lt)) (parts_over d more tame other)

-- ---- along a text
pub leads_first : (text q : List ℕ) → Leads text q 0 Chunk 0
unfolding intersects
leads_first text q rest m = misses_meet (chunks rest) (chunks q) (subst (Misses (chunks rest)) (within_from q 0 (omega arith)) m)

pub leads_on : (text q : List ℕ) (at j byte place : ℕ) (mode left : Mode) → at < length text → byte ≡ get_or text at 0 → Leads text q at mode j → GoesOn mode (chunks_from q j) byte left (chunks_from q place) → Leads text q (at + 1) left place
leads_on text q at j byte place mode left lt is leads goes rest dead =
    let whole : take (at + 1) text ++ rest ≡ take at text ++ byte ∷ rest =
    ap (λ t. t ++ rest) (take_more text at 0 lt) ∙ append_assoc (take at text) (get_or text at 0 ∷ []) rest ∙ ap (λ b. take at text ++ b ∷ rest) (sym is) in
    ap (λ t. intersects t q) whole ∙ leads (byte ∷ rest) (goes rest dead)

-- ---- greater bytes
pub byte_ends : (q : List ℕ) (j x : ℕ) → j < length q → get_or q j 0 ≡ x → 42 < x → EndsAbove Chunk (chunks_from q j) x
byte_ends q j x lt is over d more above =
    let tame : (n : ℕ) → 42 < n → is_wild n ≡ false = λ n more. wild_below n more in
    wanted_byte q j lt (ap is_wild is ∙ tame x over) d more (tame d (omega arith)) (λ same. below_itself (omega (arith, same, is, above)))
  where
    wild_below : (n : ℕ) → 42 < n → is_wild n ≡ false
    wild_below n lt = let a : (n == 42) ≡ false = grind (arith, nat_tests) in let b : (n == 36) ≡ false = grind (arith, nat_tests) in rw (a, b) refl

    below_itself : x < x → ⊥
    below_itself lt = omega arith

-- one more place
pub held_on : (text q : List ℕ) (held at j byte : ℕ) (mode : Mode) → byte ≡ get_or text at 0 → Leads text q at mode j → EndsAbove mode (chunks_from q j) byte → IsHeld text q held at → IsHeld text q held (at + 1)
held_on text q held at j byte mode is leads ends holds p d more from to above = by (eq-or-lt_of_le (omega arith))
  where
    by : (p ≡ at) ⊎ (p < at) → intersects (take p text ++ d ∷ more) q ≡ false
    by (inl same) =
        let over : byte < d = omega (arith, is, subst (λ n. get_or text n 0 < d) same above) in
        ap (λ n. intersects (take n text ++ d ∷ more) q) same ∙ leads (d ∷ more) (ends d more over)
    by (inr below) = holds p d more from below above

-- ---- a run of bytes that are neither wild nor end a chunk
pub run_facts : (y : ℕ) → is_run y ≡ true → ((y == 47) ≡ false) × (is_wild y ≡ false)
run_facts y h = by (y == 47) (is_wild y) h
  where
    by : (b c : Bool) → (not b && not c) ≡ true → (b ≡ false) × (c ≡ false)
    by false false h = (refl, refl)
    by false true h = absurd (true≢false (sym h))
    by true c h = absurd (true≢false (sym h))

pub run_more : (b : List ℕ) (c : ℕ) (rest : List ℕ) → is_run c ≡ true → (b ++ c ∷ []) ++ run_of rest ≡ b ++ run_of (c ∷ rest)
run_more b c rest is = append_assoc b (c ∷ []) (run_of rest) ∙ ap (λ r. b ++ r) (sym (ap (λ x. cond x (c ∷ run_of rest) []) is))

-- a text that ends within the run
short_misses : (u : List ℕ) → text_cmp [] (run_of u) ≡ Less → Misses (chunks []) (chunks u)
short_misses [] less = cc
short_misses (z ∷ u) less = by (is_run z) refl less (has_first u)
  where
    by : (b : Bool) → is_run z ≡ b → text_cmp [] (cond b (z ∷ run_of u) []) ≡ Less → HasFirst u → Misses (chunks []) (cond (z == 47) ([] ∷ chunks u) (onto_first z (chunks u)))
    by false is less first = cc
    by true is less (g, gs, first) = let facts = run_facts z is in rw (facts.0, first) (inl (rw facts.1 refl))

-- a text that is not mixed and less than a run that goes on to the key's end misses it
pub run_misses : (u : List ℕ) (d : ℕ) (more : List ℕ) (tame : Bool) → is_wild d ≡ false → mixed_after tame (d ∷ more) ≡ false → text_cmp (d ∷ more) (run_of u) ≡ Less → Misses (chunks (d ∷ more)) (chunks u)
run_misses [] d more tame w unmixed less = cc
run_misses (y ∷ u) d more tame w unmixed less = by_run (λ e r. run_misses u e r true) (is_run y) refl less
  where
    Deeper : Type 0
    Deeper = (e : ℕ) (r : List ℕ) → is_wild e ≡ false → mixed_after true (e ∷ r) ≡ false → text_cmp (e ∷ r) (run_of u) ≡ Less → Misses (chunks (e ∷ r)) (chunks u)

    later : mixed_after (not (is_wild d) && not (d == 47)) more ≡ false
    later = (or_parts (tame && is_wild d) (mixed_after (not (is_wild d) && not (d == 47)) more) unmixed).1

    same : Deeper → (r : List ℕ) → r ≡ more → d ≡ y → (y == 47) ≡ false → is_wild y ≡ false → text_cmp r (run_of u) ≡ Less → Misses (chunks (y ∷ r)) (chunks (y ∷ u))
    same deeper [] is eq slash tame_y under = same_on y u tame_y [] (short_misses u under)
    same deeper (e ∷ r) is eq slash tame_y under =
        let state : (not (is_wild d) && not (d == 47)) ≡ true = rw (w, eq, slash) refl in
        let after : mixed_after true (e ∷ r) ≡ false = subst (λ b. mixed_after b (e ∷ r) ≡ false) state (ap (mixed_after (not (is_wild d) && not (d == 47))) is ∙ later) in
        same_on y u tame_y (e ∷ r) (deeper e r (or_parts (is_wild e) (mixed_after (not (is_wild e) && not (e == 47)) r) after).0 after under)

    by_order : Deeper → (o : Ordering) → o ≡ nat_cmp d y → ((y == 47) ≡ false) × (is_wild y ≡ false) → ordering_then o (text_cmp more (run_of u)) ≡ Less → Misses (chunks (d ∷ more)) (chunks (y ∷ u))
    by_order deeper Less is facts less = parts_at y u facts.1 d more w (λ e. below (ranked d y Less is) e)
      where
        below : d < y → d ≡ y → ⊥
        below lt e = omega (arith, lt, e)
    by_order deeper Equal is facts less =
        let eq : d ≡ y = ranked d y Equal is in
        subst (λ b. Misses (chunks (b ∷ more)) (chunks (y ∷ u))) (sym eq) (same deeper more refl eq facts.0 facts.1 less)
    by_order deeper Greater is facts less = cc

    by_run : Deeper → (b : Bool) → is_run y ≡ b → text_cmp (d ∷ more) (cond b (y ∷ run_of u) []) ≡ Less → Misses (chunks (d ∷ more)) (chunks (y ∷ u))
    by_run deeper false is less = cc
    by_run deeper true is less = by_order deeper (nat_cmp d y) refl (run_facts y is) less
