-- The ranks beside the informations: they are kept as these come and go, and the first is the merge.
use Rattle.std.proofs.Common.{◌≡◌, ℕ, ◌<◌, Bool, true, false, cond, List, [], ◌∷◌, ap, ◌∙◌, refl, Some, None, Option, sym, subst, true≢false, eqb-true, arith, fold, length, min}
use Rattle.std.specs.Prelude.{not, ◌&&◌, ◌||◌, ◌==◌, find, filter}
use Rattle.std.specs.declared.cmp.Ordering.{Ordering}
use Rattle.std.specs.declared.cmp.Ordering.TheVariants.{Less, Equal, Greater}
use Rattle.std.specs.Ordering.{nat_cmp, bool_cmp, ordering_then, is_eq, is_gt, MatchOrdering}
use Rattle.std.specs.Cmp.{IsTotalOrder, nat_cmp_total, bool_cmp_total, then_total, on_total, nat_eq_equiv}
use Rattle.std.specs.List.{AllByRecursion, AllZip, list_any}
use Rattle.std.specs.List.Sorted.{IsStrictlySortedBy}
use Rattle.std.specs.Map.{keys_of}
use Rattle.std.specs.BTreeMap.{is_at}
use Rattle.std.proofs.lemmas.Cmp.{ranked}
use Rattle.std.proofs.lemmas.List.Kept.{IsStrictlySortedBy-filter}
use Rattle.std.proofs.lemmas.Map.Entries.{lookup-filter-keys}
use Rattle.std.proofs.lemmas.Map.Keys.{sorted_head}
use Rattle.std.proofs.lemmas.Map.Views.{any-filter_same}
use Rattle.std.proofs.lemmas.Map.Lookups.{CmpEqualImpliesEq, exact_unsigned, exact_pairs}
use Rattle.zq_message.specs.declared.message.QueryableInfoType.{QueryableInfoType}
use Rattle.zq_key.proofs.Lookups.{same_key, at_itself, apart, differ, either_way, each_entry}
use Rattle.zq_key.proofs.Naturals.{filter-map}
use Rattle.zq_index.specs.Infos.{merge, joined, same_bool, same_info}
use Rattle.zq_index.specs.Holders.{TellsApart, HeldBy, RankBy, rank_cmp, rank_of, has_rank, is_rank, at_place_by, with_held, IsRanked}
use Rattle.zq_index.proofs.Laws.{merge_swap, merge_regroup}

-- ---- the order of the ranks
abbrev worth_cmp : Bool × ℕ → Bool × ℕ → Ordering
worth_cmp x y = ordering_then (bool_cmp x.0 y.0) (nat_cmp x.1 y.1)

exact_bool : CmpEqualImpliesEq bool_cmp
exact_bool true true e = refl
exact_bool true false e = cc
exact_bool false true e = cc
exact_bool false false e = refl

-- ---- informations that are the same
same_bits : (a b : Bool) → same_bool a b ≡ true → a ≡ b
same_bits true true e = refl
same_bits true false e = absurd (true≢false (sym e))
same_bits false true e = absurd (true≢false (sym e))
same_bits false false e = refl

bits_same : (a b : Bool) → not a ≡ not b → same_bool a b ≡ true
bits_same true true e = refl
bits_same true false e = absurd (true≢false (sym e))
bits_same false true e = absurd (true≢false e)
bits_same false false e = refl

both : (a b : Bool) → (a && b) ≡ true → (a ≡ true) × (b ≡ true)
both true b e = (refl, e)
both false b e = absurd (true≢false (sym e))

one_info : (a b : QueryableInfoType) → same_info a b ≡ true → a ≡ b
one_info a b e =
    let parts = both (same_bool a.complete b.complete) (a.distance == b.distance) e in
    let bits = same_bits a.complete b.complete parts.0 in
    let numbers = eqb-true a.distance b.distance parts.1 in
    λ j. record { complete = bits j; distance = numbers j }

-- ---- what is put in and taken out
put_in : (x h : Bool) → h ≡ false → cond x true h ≡ x
put_in true h e = refl
put_in false h e = e

put_again : (x h : Bool) → h ≡ x → cond x true h ≡ x
put_again true h e = refl
put_again false h e = e

put_over : (x y h : Bool) → h ≡ x → (x ≡ true → y ≡ false) → cond x false (cond y true h) ≡ y
put_over true y h e other = sym (other refl)
put_over false true h e other = refl
put_over false false h e other = e

put_back : (y h : Bool) → (y ≡ true → h ≡ false) → cond y false (cond y true h) ≡ h
put_back true h e = sym (e refl)
put_back false h e = refl

taken_out : (x h : Bool) → h ≡ x → cond x false h ≡ false
taken_out true h e = refl
taken_out false h e = e

-- the list of ranks has in addition the information's at the place
abbrev Gains : {P : Type 0} → (P → P → Ordering) → P → QueryableInfoType → List (RankBy P) → List (RankBy P) → Type 0
Gains {P} R p i ks ls = (k : RankBy P) → has_rank R k ls ≡ cond (is_at (rank_cmp R (rank_of p i)) k) true (has_rank R k ks)

-- the list of ranks no longer has the information's at the place
abbrev Loses : {P : Type 0} → (P → P → Ordering) → P → QueryableInfoType → List (RankBy P) → List (RankBy P) → Type 0
Loses {P} R p i ks ls = (k : RankBy P) → has_rank R k ls ≡ cond (is_at (rank_cmp R (rank_of p i)) k) false (has_rank R k ks)

-- at the place now stands this, and all else stays
abbrev Stands : {P : Type 0} → (P → P → Ordering) → P → Option QueryableInfoType → HeldBy P → HeldBy P → Type 0
Stands {P} R p o es fs = (q : P) → at_place_by R q fs ≡ cond (is_at (R p) q) o (at_place_by R q es)

-- ---- the first is the merge
abbrev mk : Bool → ℕ → QueryableInfoType
mk c d = record { complete = c; distance = d }

least_by : (x y : ℕ) (o : Ordering) → MatchOrdering o (x < y) (x ≡ y) (y < x) → is_gt o ≡ false → min x y ≡ x
least_by x y Less m e = omega (arith, m)
least_by x y Equal m e = omega (arith, m)
least_by x y Greater m e = absurd (true≢false e)

least : (x y : ℕ) → is_gt (nat_cmp x y) ≡ false → min x y ≡ x
least x y e = least_by x y (nat_cmp x y) (ranked x y (nat_cmp x y) refl) e

-- an information takes in one whose rank is not below its own
absorb : (a : Bool) (x : ℕ) (b : Bool) (y : ℕ) → is_gt (worth_cmp (not a, x) (not b, y)) ≡ false → merge (mk a x) (mk b y) ≡ mk a x
absorb true x true y e = ap (mk true) (least x y e)
absorb true x false y e = refl
absorb false x true y e = absurd (true≢false e)
absorb false x false y e = ap (mk false) (least x y e)

gt_first : (o s : Ordering) → is_gt (ordering_then o s) ≡ false → is_gt o ≡ false
gt_first Less s e = refl
gt_first Equal s e = refl
gt_first Greater s e = e

not_not : (b : Bool) → not (not b) ≡ b
not_not true = refl
not_not false = refl

-- ---- the first of a list
abbrev first_of : {X : Type 0} → List X → Option X
first_of [] = None
first_of (x ∷ xs) = Some x

found_by : {X : Type 0} (test : X → Bool) (x : X) (xs : List X) (b : Bool) → find test xs ≡ first_of (filter test xs) → cond b (Some x) (find test xs) ≡ first_of (cond b (x ∷ filter test xs) (filter test xs))
found_by test x xs true ih = refl
found_by test x xs false ih = ih

found_first : {X : Type 0} (test : X → Bool) (xs : List X) → find test xs ≡ first_of (filter test xs)
found_first test [] = refl
found_first test (x ∷ xs) = found_by test x xs (test x) (found_first test xs)

some_first : {X : Type 0} (xs : List X) → 0 < length xs → first_of xs ≡ None → ⊥
some_first [] l e = omega (arith, l)
some_first (x ∷ xs) l e = absurd (let gap : Some x ≡ None = e in cc)

not_greater : (r : Ordering) → is_eq r ≡ true → is_gt r ≡ false
not_greater Less e = refl
not_greater Equal e = refl
not_greater Greater e = absurd (true≢false (sym e))

module _ {K : Type 0} {R : K → K → Ordering} (o : IsTotalOrder R) (exact : TellsApart R) where
  all_above : (k q : K) (ks : List K) → AllByRecursion (λ x. R k x ≡ Less) ks → list_any (is_at (R q)) ks ≡ true → R k q ≡ Less
  all_above k q [] all has = absurd (true≢false (sym has))
  all_above k q (x ∷ xs) all has = by (is_at (R q) x) refl has (all_above k q xs all.1)
    where
      by : (b : Bool) → is_at (R q) x ≡ b → (b || list_any (is_at (R q)) xs) ≡ true → (list_any (is_at (R q)) xs ≡ true → R k q ≡ Less) → R k q ≡ Less
      by true is has later = ap (R k) (same_key o exact q x is) ∙ all.0
      by false is has later = later has

  -- the first of a list in order is above none of it
  head_least : (k : K) (ks : List K) → IsStrictlySortedBy R (k ∷ ks) → (q : K) → list_any (is_at (R q)) (k ∷ ks) ≡ true → is_gt (R k q) ≡ false
  head_least k ks sorted q has = by (is_at (R q) k) refl has
    where
      by : (b : Bool) → is_at (R q) k ≡ b → (b || list_any (is_at (R q)) ks) ≡ true → is_gt (R k q) ≡ false
      by true is has = not_greater (R k q) (either_way o exact k q ∙ is)
      by false is has = ap is_gt (all_above k q ks (sorted_head R k ks sorted) has)

module _ {P : Type 0} {R : P → P → Ordering} (o : IsTotalOrder R) (exact : TellsApart R) where
  rank_total : IsTotalOrder (rank_cmp R)
  rank_total = then_total (on_total (λ k. k.0) (then_total (on_total (λ w. w.0) bool_cmp_total) (on_total (λ w. w.1) nat_cmp_total))) (on_total (λ k. k.1) o)

  rank_exact : CmpEqualImpliesEq (rank_cmp R)
  rank_exact = exact_pairs worth_cmp R (exact_pairs bool_cmp nat_cmp exact_bool exact_unsigned) exact

  alike : (k : RankBy P) (p : P) (i : QueryableInfoType) → p ≡ k.1 → is_at (rank_cmp R (rank_of p i)) k ≡ is_at (rank_cmp R k) (rank_of k.1 i)
  alike k p i same = either_way rank_total rank_exact (rank_of p i) k ∙ ap (λ q. is_at (rank_cmp R k) (rank_of q i)) same

  away : (k : RankBy P) (p : P) (i : QueryableInfoType) → is_at (R p) k.1 ≡ false → is_at (rank_cmp R (rank_of p i)) k ≡ false
  away k p i e = apart rank_total rank_exact (rank_of p i) k (λ same. differ o exact p k.1 e (ap (λ (x : RankBy P). x.1) same))

  one_rank : (p : P) (a b : QueryableInfoType) → rank_of p a ≡ rank_of p b → same_info a b ≡ true
  one_rank p a b e =
      ap (λ c. c && (a.distance == b.distance)) (bits_same a.complete b.complete (ap (λ (k : RankBy P). k.0.0) e))
      ∙ ap (λ n. a.distance == n) (sym (ap (λ (k : RankBy P). k.0.1) e))
      ∙ nat_eq_equiv.refl a.distance

  module _ (es : HeldBy P) (ks : List (RankBy P)) (r : IsRanked R es ks) (p : P) where
    here : (k : RankBy P) (o : Option QueryableInfoType) → at_place_by R p es ≡ o → p ≡ k.1 → has_rank R k ks ≡ is_rank R k o
    here k o is same = r.ranks k ∙ ap (λ q. is_rank R k (at_place_by R q es)) (sym same) ∙ ap (is_rank R k) is

    module _ (i : QueryableInfoType) (ls : List (RankBy P)) (gains : Gains R p i ks ls) where
      module _ (fs : HeldBy P) (sorted : IsStrictlySortedBy R (keys_of fs)) (stands : Stands R p (Some i) es fs) where
        new_by : (k : RankBy P) (b : Bool) → is_at (R p) k.1 ≡ b → at_place_by R p es ≡ None → cond (is_at (rank_cmp R (rank_of p i)) k) true (has_rank R k ks) ≡ is_rank R k (cond b (Some i) (at_place_by R k.1 es))
        new_by k true e none =
            let same = same_key o exact p k.1 e in
            put_in (is_at (rank_cmp R (rank_of p i)) k) (has_rank R k ks) (here k None none same) ∙ alike k p i same
        new_by k false e none = ap (λ b. cond b true (has_rank R k ks)) (away k p i e) ∙ r.ranks k

        pub new_ranked : at_place_by R p es ≡ None → IsRanked R fs ls
        new_ranked none = record { places = sorted; ranks = λ k. gains k ∙ new_by k _ refl none ∙ ap (is_rank R k) (sym (stands k.1)) }

        again_by : (k : RankBy P) (b : Bool) → is_at (R p) k.1 ≡ b → at_place_by R p es ≡ Some i → cond (is_at (rank_cmp R (rank_of p i)) k) true (has_rank R k ks) ≡ is_rank R k (cond b (Some i) (at_place_by R k.1 es))
        again_by k true e is =
            let same = same_key o exact p k.1 e in
            put_again (is_at (rank_cmp R (rank_of p i)) k) (has_rank R k ks) (here k (Some i) is same ∙ sym (alike k p i same)) ∙ alike k p i same
        again_by k false e is = ap (λ b. cond b true (has_rank R k ks)) (away k p i e) ∙ r.ranks k

        pub again_ranked : (j : QueryableInfoType) → at_place_by R p es ≡ Some j → same_info j i ≡ true → IsRanked R fs ls
        again_ranked j is e =
            let it : at_place_by R p es ≡ Some i = is ∙ ap (λ x. Some x) (one_info j i e) in
            record { places = sorted; ranks = λ k. gains k ∙ again_by k _ refl it ∙ ap (is_rank R k) (sym (stands k.1)) }

        module _ (j : QueryableInfoType) (ms : List (RankBy P)) (loses : Loses R p j ls ms) where
          over_by : (k : RankBy P) (b : Bool) → is_at (R p) k.1 ≡ b → at_place_by R p es ≡ Some j → same_info j i ≡ false
              → cond (is_at (rank_cmp R (rank_of p j)) k) false (cond (is_at (rank_cmp R (rank_of p i)) k) true (has_rank R k ks)) ≡ is_rank R k (cond b (Some i) (at_place_by R k.1 es))
          over_by k true e is other =
              let same = same_key o exact p k.1 e in
              put_over (is_at (rank_cmp R (rank_of p j)) k) (is_at (rank_cmp R (rank_of p i)) k) (has_rank R k ks) (here k (Some j) is same ∙ sym (alike k p j same))
              (λ t. apart rank_total rank_exact (rank_of p i) k (λ s. true≢false (sym (one_rank p j i (same_key rank_total rank_exact (rank_of p j) k t ∙ sym s)) ∙ other)))
              ∙ alike k p i same
          over_by k false e is other =
              (λ t. cond (away k p j e t) false (cond (away k p i e t) true (has_rank R k ks))) ∙ r.ranks k

          pub over_ranked : at_place_by R p es ≡ Some j → same_info j i ≡ false → IsRanked R fs ms
          over_ranked is other = record {
            places = sorted;
            ranks = λ k. loses k ∙ ap (cond (is_at (rank_cmp R (rank_of p j)) k) false) (gains k) ∙ over_by k _ refl is other ∙ ap (is_rank R k) (sym (stands k.1));
          }

      pub back_ranked : (fs : HeldBy P) (ms : List (RankBy P)) → at_place_by R p es ≡ None → Loses R p i ls ms → fs ≡ es → IsRanked R fs ms
      back_ranked fs ms none loses same =
          let back : (k : RankBy P) → has_rank R k ms ≡ has_rank R k ks = λ k.
          loses k
          ∙ ap (cond (is_at (rank_cmp R (rank_of p i)) k) false) (gains k)
          ∙ put_back (is_at (rank_cmp R (rank_of p i)) k) (has_rank R k ks) (λ t. here k None none (ap (λ (x : RankBy P). x.1) (same_key rank_total rank_exact (rank_of p i) k t))) in
          subst (λ l. IsRanked R l ms) (sym same) (record { places = r.places; ranks = λ k. back k ∙ r.ranks k })

    module _ (i : QueryableInfoType) (ms : List (RankBy P)) (loses : Loses R p i ks ms) (fs : HeldBy P) (sorted : IsStrictlySortedBy R (keys_of fs)) (stands : Stands R p None es fs) where
      out_by : (k : RankBy P) (b : Bool) → is_at (R p) k.1 ≡ b → at_place_by R p es ≡ Some i → cond (is_at (rank_cmp R (rank_of p i)) k) false (has_rank R k ks) ≡ is_rank R k (cond b None (at_place_by R k.1 es))
      out_by k true e is =
          let same = same_key o exact p k.1 e in
          taken_out (is_at (rank_cmp R (rank_of p i)) k) (has_rank R k ks) (here k (Some i) is same ∙ sym (alike k p i same))
      out_by k false e is = ap (λ b. cond b false (has_rank R k ks)) (away k p i e) ∙ r.ranks k

      pub out_ranked : at_place_by R p es ≡ Some i → IsRanked R fs ms
      out_ranked is = record { places = sorted; ranks = λ k. loses k ∙ out_by k _ refl is ∙ ap (is_rank R k) (sym (stands k.1)) }

  -- ---- the first is the merge
  module _ (i : QueryableInfoType) where
    stays : (es : HeldBy P) → AllByRecursion (λ e. merge i e.1 ≡ i) es → fold with_held (Some i) es ≡ Some i
    stays [] all = refl
    stays (e ∷ es) all = ap (λ j. fold with_held (Some j) es) all.0 ∙ stays es all.1

    met_now : (m : Option QueryableInfoType) → joined (Some i) m ≡ Some i → joined m (Some i) ≡ Some i
    met_now None low = refl
    met_now (Some k) low = ap (λ x. Some x) (merge_swap k i) ∙ low

    met_more : (m : Option QueryableInfoType) (j : QueryableInfoType) → joined (Some i) m ≡ Some i → merge i j ≡ i → joined (Some i) (joined m (Some j)) ≡ Some i
    met_more None j low at = ap (λ x. Some x) at
    met_more (Some k) j low at = ap (λ x. Some x) (sym (merge_regroup i k j)) ∙ ap (λ o. joined o (Some j)) low ∙ ap (λ x. Some x) at

    met_by : (p : P) (m : Option QueryableInfoType) (e : P × QueryableInfoType) (es : HeldBy P) (b : Bool) → cond b (Some e.1) (at_place_by R p es) ≡ Some i → merge i e.1 ≡ i → AllByRecursion (λ e. merge i e.1 ≡ i) es → joined (Some i) m ≡ Some i
        → ((n : Option QueryableInfoType) → at_place_by R p es ≡ Some i → joined (Some i) n ≡ Some i → fold with_held n es ≡ Some i) → fold with_held (joined m (Some e.1)) es ≡ Some i
    met_by p m e es true is at all low more = ap (λ o. fold with_held (joined m o) es) is ∙ ap (λ o. fold with_held o es) (met_now m low) ∙ stays es all
    met_by p m e es false is at all low more = more (joined m (Some e.1)) is (met_more m e.1 low at)

    met : (p : P) (m : Option QueryableInfoType) (es : HeldBy P) → at_place_by R p es ≡ Some i → AllByRecursion (λ e. merge i e.1 ≡ i) es → joined (Some i) m ≡ Some i → fold with_held m es ≡ Some i
    met p m [] is all low = absurd (let gap : None ≡ Some i = is in cc)
    met p m (e ∷ es) is all low = met_by p m e es (is_at (R p) e.0) is all.0 all.1 low (λ n it up. met p n es it all.1 up)

  module _ (es : HeldBy P) (ks : List (RankBy P)) (r : IsRanked R es ks) (f : RankBy P) (member : has_rank R f ks ≡ true) (first : (q : RankBy P) → has_rank R q ks ≡ true → is_gt (rank_cmp R f q) ≡ false) where
    first_by : (o : Option QueryableInfoType) → at_place_by R f.1 es ≡ o → is_rank R f o ≡ true → Some (mk (not f.0.0) f.0.1) ≡ fold with_held None es
    first_by None is e = absurd (true≢false (sym e))
    first_by (Some i) is e =
        let same : f ≡ rank_of f.1 i = same_key rank_total rank_exact f (rank_of f.1 i) e in
        let value : mk (not f.0.0) f.0.1 ≡ i = ap (λ (k : RankBy P). mk (not k.0.0) k.0.1) same ∙ ap (λ c. mk c i.distance) (not_not i.complete) in
        let low : (q : P) (j : QueryableInfoType) → at_place_by R q es ≡ Some j → is_gt (worth_cmp (not i.complete, i.distance) (not j.complete, j.distance)) ≡ false = λ q j at.
        let has : has_rank R (rank_of q j) ks ≡ true = r.ranks (rank_of q j) ∙ ap (is_rank R (rank_of q j)) at ∙ at_itself rank_total rank_exact (rank_of q j) in
        sym (ap (λ (k : RankBy P). is_gt (worth_cmp k.0 (rank_of q j).0)) same) ∙ gt_first (worth_cmp f.0 (rank_of q j).0) (R f.1 q) (first (rank_of q j) has) in
        let all = each_entry o exact (λ e. merge i e.1 ≡ i) es r.places (λ q j at. absorb i.complete i.distance j.complete j.distance (low q j at)) in
        ap (λ x. Some x) value ∙ sym (met i f.1 None es is all refl)

    pub first_merged : Some (record { complete = not f.0.0; distance = f.0.1 }) ≡ fold with_held None es
    first_merged = first_by (at_place_by R f.1 es) refl (sym (r.ranks f) ∙ member)

  bare_by : (es : HeldBy P) → ((k : RankBy P) → false ≡ is_rank R k (at_place_by R k.1 es)) → None ≡ fold with_held None es
  bare_by [] none = refl
  bare_by (e ∷ es) none =
      let k = rank_of e.0 e.1 in
      let there : at_place_by R e.0 (e ∷ es) ≡ Some e.1 = ap (λ b. cond b (Some e.1) (at_place_by R e.0 es)) (at_itself o exact e.0) in
      absurd (true≢false (sym (none k ∙ ap (is_rank R k) there ∙ at_itself rank_total rank_exact k)))

  no_ranks : (ks : List (RankBy P)) → (0 < length ks → ⊥) → ks ≡ []
  no_ranks [] h = refl
  no_ranks (k ∷ ks) h = absurd (h (omega arith))

  pub none_merged : (es : HeldBy P) (ks : List (RankBy P)) → IsRanked R es ks → (0 < length ks → ⊥) → None ≡ fold with_held None es
  none_merged es ks r h = bare_by es (λ k. sym (ap (has_rank R k) (no_ranks ks h)) ∙ r.ranks k)

  -- ---- the first whose place passes is the merge of those that pass
  module _ (es : HeldBy P) (ks : List (RankBy P)) (r : IsRanked R es ks) (passes : P → Bool) where
    abbrev kept : HeldBy P
    kept = filter (λ h. passes h.0) es

    abbrev rest : List (RankBy P)
    rest = filter (λ k. passes k.1) ks

    kept_by : (k : RankBy P) (b : Bool) → (b && has_rank R k ks) ≡ is_rank R k (cond b (at_place_by R k.1 es) None)
    kept_by k true = r.ranks k
    kept_by k false = refl

    passed_ranked : IsRanked R kept rest
    passed_ranked = record {
      places = subst (IsStrictlySortedBy R) (filter-map (λ h. h.0) passes (λ h. passes h.0) (λ h. refl) es) (IsStrictlySortedBy-filter R passes (keys_of es) r.places);
      ranks = λ k.
          any-filter_same (is_at (rank_cmp R k)) (λ l. passes l.1) (passes k.1) (λ l at. ap (λ (x : RankBy P). passes x.1) (sym (same_key rank_total rank_exact k l at))) ks
          ∙ kept_by k (passes k.1)
          ∙ ap (is_rank R k) (sym (lookup-filter-keys (is_at (R k.1)) passes (passes k.1) (λ q at. ap passes (sym (same_key o exact k.1 q at))) es));
    }

    module _ (sorted : IsStrictlySortedBy (rank_cmp R) ks) where
      pub passed_merged : (f : RankBy P) → find (λ k. passes k.1) ks ≡ Some f → Some (record { complete = not f.0.0; distance = f.0.1 }) ≡ fold with_held None kept
      passed_merged f found = first_by' rest refl
        where
          first_by' : (ls : List (RankBy P)) → rest ≡ ls → Some (record { complete = not f.0.0; distance = f.0.1 }) ≡ fold with_held None kept
          first_by' [] is = absurd (let gap : None ≡ Some f = sym (ap first_of is) ∙ sym (found_first (λ k. passes k.1) ks) ∙ found in cc)
          first_by' (l ∷ ls) is =
              let same : l ≡ f = let both : Some l ≡ Some f = sym (ap first_of is) ∙ sym (found_first (λ k. passes k.1) ks) ∙ found in cc in
              let in_order : IsStrictlySortedBy (rank_cmp R) (f ∷ ls) = subst (λ x. IsStrictlySortedBy (rank_cmp R) (x ∷ ls)) same (subst (IsStrictlySortedBy (rank_cmp R)) is (IsStrictlySortedBy-filter (rank_cmp R) (λ k. passes k.1) ks sorted)) in
              let lists : rest ≡ f ∷ ls = is ∙ ap (λ x. x ∷ ls) same in
              first_merged kept rest passed_ranked f
              (ap (has_rank R f) lists ∙ ap (λ b. b || has_rank R f ls) (at_itself rank_total rank_exact f))
              (λ q has. head_least rank_total rank_exact f ls in_order q (sym (ap (has_rank R q) lists) ∙ has))

    pub passed_none : find (λ k. passes k.1) ks ≡ None → None ≡ fold with_held None kept
    passed_none found = none_merged kept rest passed_ranked (λ l. some_first rest l (sym (found_first (λ k. passes k.1) ks) ∙ found))

-- ---- copies
module _ {P : Type 0} (C : P → P → Type 0) (copied : (p q : P) → C p q → q ≡ p) where
  pub copied_ranks : (ks ls : List (RankBy P)) → AllZip (λ k l. ((l.0.0 ≡ k.0.0) × (l.0.1 ≡ k.0.1)) × C k.1 l.1) ks ls → ls ≡ ks
  copied_ranks [] [] same = refl
  copied_ranks [] (l ∷ ls) same = absurd same
  copied_ranks (k ∷ ks) [] same = absurd same
  copied_ranks (k ∷ ks) (l ∷ ls) same = λ i. ((same.0.0.0 i, same.0.0.1 i), copied k.1 l.1 same.0.1 i) ∷ copied_ranks ks ls same.1 i
