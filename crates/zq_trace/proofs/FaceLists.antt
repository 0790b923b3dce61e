-- The open faces of a region by a run's trace, with what they declared, are those that its hat has.
use Rattle.std.proofs.Common.{◌≡◌, ◌∙◌, refl, sym, ap, subst, ℕ, ◌+◌, ◌≤◌, Bool, true, false, cond, List, [], ◌∷◌, fold, map, Option, Some, None, arith, eqb-true}
use Rattle.std.specs.Prelude.{◌==◌, ◌||◌, if◌then◌else◌}
use Rattle.std.specs.List.{AllByRecursion, cons_option, filter_map, list_any}
use Rattle.std.specs.List.Sorted.{IsStrictlySortedBy}
use Rattle.std.specs.Map.{keys_of, lookup}
use Rattle.std.specs.BTreeMap.{is_at}
use Rattle.std.specs.Option.{option_and_then, option_map}
use Rattle.std.specs.Ordering.{nat_cmp}
use Rattle.std.specs.declared.cmp.Ordering.TheVariants.{Less}
use Rattle.std.proofs.lemmas.Bool.{or_parts}
use Rattle.std.proofs.lemmas.Cmp.{nat_cmp_total}
use Rattle.std.proofs.lemmas.List.Folds.{list_any-append}
use Rattle.std.proofs.lemmas.Map.Lookups.{exact_unsigned}
use Rattle.zq_key.proofs.Lookups.{same_entries}
use Rattle.zq_message.specs.declared.message.Region.{Region}
use Rattle.zq_message.specs.Region.{region_index}
use Rattle.zq_strategy.specs.State.{FaceState, HatState}
use Rattle.zq_machine.specs.declared.call.Call.{Call}
use Rattle.zq_machine.specs.declared.call.Call.TheVariants as call
use Rattle.zq_machine.specs.declared.call.Outcome.{Outcome}
use Rattle.zq_machine.specs.declared.call.Outcome.TheVariants as outcome
use Rattle.zq_machine.specs.Agreeing.{stands_in}
use Rattle.zq_machine.specs.Asked.{AreCounted, opened_in}
use Rattle.zq_machine.specs.Configs.{Settings}
use Rattle.zq_machine.specs.Deciding.{is_accepted}
use Rattle.zq_machine.specs.Standing.{Standing, routes_in, standing_at}
use Rattle.zq_machine.specs.State.{State, hat_at}
use Rattle.zq_machine.proofs.Changing.{one_number}
use Rattle.zq_machine.proofs.Lists.{all_weaker}
use Rattle.zq_trace.specs.Faces.{Face, Trace, called, face_at, faces, handed_to, new_face, opened_by}
use Rattle.zq_trace.specs.Selected.{faces_in, in_region, seen}
use Rattle.zq_machine.proofs.Determined.{hat_stands, kept_in}
use Rattle.zq_trace.proofs.Finals.{at_number, less_so}
use Rattle.zq_trace.proofs.Kept.{faces_are}
use Rattle.zq_trace.proofs.Offered.{lean, lean_faces}
use Rattle.zq_trace.proofs.Regions.{one_region}
use Rattle.zq_trace.proofs.Runs.{IsRun, reached, run_promise, steps_is, steps_of}
use Rattle.zq_trace.proofs.Saying.{in_order}
use Rattle.zq_trace.proofs.Standing.{Alike, IsSame, faces_alike}

-- ---- a face that was not opened is not there
either_none : (b : Bool) → cond {A = Option Face} b None None ≡ None
either_none true = refl
either_none false = refl

not_called : (q : ℕ) (c : Call) (a : Outcome) → list_any (is_at (nat_cmp q)) (opened_by a) ≡ false → called q c a None ≡ None
not_called q (call.Open o) (outcome.Opened n) h = ap (λ b. cond b (Some (new_face o)) None) (sym (at_number q n.0) ∙ (or_parts (is_at (nat_cmp q) n.0) false h).0)
not_called q (call.Open o) (outcome.Asked n) h = refl
not_called q (call.Open o) (outcome.Replied n) h = refl
not_called q (call.Open o) outcome.Done h = refl
not_called q (call.Open o) (outcome.Refused r) h = refl
not_called q (call.Close f) a h = either_none (f.0 == q)
not_called q (call.DeclareKeyExpr f id w) a h = either_none (f.0 == q)
not_called q (call.UndeclareKeyExpr f id) a h = either_none (f.0 == q)
not_called q (call.DeclareQueryable f id w i n) a h = either_none (f.0 == q)
not_called q (call.UndeclareQueryable f id w n) a h = either_none (f.0 == q)
not_called q (call.Interest f id k g w) a h = either_none (f.0 == q)
not_called q (call.InterestFinal f id) a h = either_none (f.0 == q)
not_called q (call.FinalizeInterest f m set) a h = either_none (f.0 == q)
not_called q (call.SetNodeIds f ids) a h = either_none (f.0 == q)
not_called q c a h = refl

pub not_opened : (past : Trace) (q : ℕ) → list_any (is_at (nat_cmp q)) (faces past) ≡ false → face_at past q ≡ None
not_opened [] q h = refl
not_opened (x ∷ past) q h =
    let parts = or_parts (list_any (is_at (nat_cmp q)) (faces past)) (list_any (is_at (nat_cmp q)) (opened_by x.1.outcome)) (sym (list_any-append (is_at (nat_cmp q)) (faces past) (opened_by x.1.outcome)) ∙ h) in
    by (is_accepted x.1.outcome) (not_opened past q parts.0) parts.1
  where
    by : (b : Bool) → face_at past q ≡ None → list_any (is_at (nat_cmp q)) (opened_by x.1.outcome) ≡ false
        → cond b (option_map (λ f. fold (handed_to q) f x.1.handed) (called q x.0 x.1.outcome (face_at past q))) (face_at past q) ≡ None
    by true was none = ap (option_map (λ f. fold (handed_to q) f x.1.handed)) (ap (called q x.0 x.1.outcome) was ∙ not_called q x.0 x.1.outcome none)
    by false was none = was

is_opened : (past : Trace) (q : ℕ) (f : Face) → face_at past q ≡ Some f → list_any (is_at (nat_cmp q)) (faces past) ≡ true
is_opened past q f e = by (list_any (is_at (nat_cmp q)) (faces past)) refl
  where
    by : (b : Bool) → list_any (is_at (nat_cmp q)) (faces past) ≡ b → list_any (is_at (nat_cmp q)) (faces past) ≡ true
    by true h = h
    by false h = absurd (let gap : None ≡ Some f = sym (not_opened past q h) ∙ e in cc)

-- ---- lists by number
module _ {V : Type 0} (v : ℕ → Option V) where
  abbrev listed : List ℕ → List (ℕ × V)
  listed ns = filter_map (λ n. option_map (λ x. (n, x)) (v n)) ns

  listed_all : (P : ℕ → Type 0) (ns : List ℕ) → AllByRecursion P ns → AllByRecursion P (keys_of (listed ns))
  listed_all P [] all = tt
  listed_all P (n ∷ ns) all = by (v n) (listed_all P ns all.1)
    where
      by : (o : Option V) → AllByRecursion P (keys_of (listed ns)) → AllByRecursion P (keys_of (cons_option (option_map (λ x. (n, x)) o) (listed ns)))
      by None rest = rest
      by (Some x) rest = (all.0, rest)

  listed_sorted : (ns : List ℕ) → IsStrictlySortedBy nat_cmp ns → IsStrictlySortedBy nat_cmp (keys_of (listed ns))
  unfolding IsStrictlySortedBy
  listed_sorted [] sorted = tt
  listed_sorted (n ∷ ns) sorted = by (v n) (listed_sorted ns sorted.1) (listed_all (λ m. nat_cmp n m ≡ Less) ns sorted.0)
    where
      by : (o : Option V) → IsStrictlySortedBy nat_cmp (keys_of (listed ns)) → AllByRecursion (λ m. nat_cmp n m ≡ Less) (keys_of (listed ns)) → IsStrictlySortedBy nat_cmp (keys_of (cons_option (option_map (λ x. (n, x)) o) (listed ns)))
      by None rest all = rest
      by (Some x) rest all = (all, rest)

  listed_at : (q : ℕ) (ns : List ℕ) → lookup (is_at (nat_cmp q)) (listed ns) ≡ cond (list_any (is_at (nat_cmp q)) ns) (v q) None
  listed_at q [] = refl
  listed_at q (n ∷ ns) = by (is_at (nat_cmp q) n) (v n) refl refl (listed_at q ns)
    where
      rest_none : (b : Bool) → v q ≡ None → cond b (v q) None ≡ None
      rest_none true e = e
      rest_none false e = refl

      by : (b : Bool) (o : Option V) → is_at (nat_cmp q) n ≡ b → v n ≡ o → lookup (is_at (nat_cmp q)) (listed ns) ≡ cond (list_any (is_at (nat_cmp q)) ns) (v q) None
          → lookup (is_at (nat_cmp q)) (cons_option (option_map (λ x. (n, x)) o) (listed ns)) ≡ cond (b || list_any (is_at (nat_cmp q)) ns) (v q) None
      by true None e g ih = ih ∙ rest_none (list_any (is_at (nat_cmp q)) ns) (ap v (one_number q n e) ∙ g) ∙ sym (ap v (one_number q n e) ∙ g)
      by false None e g ih = ih
      by true (Some x) e g ih = ap (λ b. cond b (Some x) (lookup (is_at (nat_cmp q)) (listed ns))) e ∙ sym (ap v (one_number q n e) ∙ g)
      by false (Some x) e g ih = ap (λ b. cond b (Some x) (lookup (is_at (nat_cmp q)) (listed ns))) e ∙ ih

pub mapped_at : {X V : Type 0} (q : ℕ) (g : X → V) (es : List (ℕ × X)) → lookup (is_at (nat_cmp q)) (map (λ e. (e.0, g e.1)) es) ≡ option_map g (lookup (is_at (nat_cmp q)) es)
mapped_at q g [] = refl
mapped_at q g (e ∷ es) = by (is_at (nat_cmp q) e.0) (mapped_at q g es)
  where
    by : (b : Bool) → lookup (is_at (nat_cmp q)) (map (λ x. (x.0, g x.1)) es) ≡ option_map g (lookup (is_at (nat_cmp q)) es) → cond b (Some (g e.1)) (lookup (is_at (nat_cmp q)) (map (λ x. (x.0, g x.1)) es)) ≡ option_map g (cond b (Some e.1) (lookup (is_at (nat_cmp q)) es))
    by true ih = refl
    by false ih = ih

pub mapped_keys : {X V : Type 0} (g : X → V) (es : List (ℕ × X)) → keys_of (map (λ e. (e.0, g e.1)) es) ≡ keys_of es
mapped_keys g [] = refl
mapped_keys g (e ∷ es) = ap (λ l. e.0 ∷ l) (mapped_keys g es)

counted_rise : (n : ℕ) (ms : List ℕ) → AreCounted n ms → AllByRecursion (λ m. n ≤ m) ms
counted_rise n [] are = tt
counted_rise n (m ∷ ms) are = let at' : m ≡ n = are.0 in (omega (arith, at'), all_weaker (λ k. n + 1 ≤ k) (λ k. n ≤ k) (λ k l. omega (arith, l)) ms (counted_rise (n + 1) ms are.1))

pub counted_sorted : (n : ℕ) (ms : List ℕ) → AreCounted n ms → IsStrictlySortedBy nat_cmp ms
unfolding IsStrictlySortedBy
counted_sorted n [] are = tt
counted_sorted n (m ∷ ms) are =
    let at' : m ≡ n = are.0 in
    (all_weaker (λ k. n + 1 ≤ k) (λ k. nat_cmp m k ≡ Less) (λ k l. less_so m k (omega (arith, at', l))) ms (counted_rise (n + 1) ms are.1), counted_sorted (n + 1) ms are.1)

-- ---- a region
module _ (config : Settings) (past : Trace) (run : IsRun config past) (r : Region) (h : HatState) (h_at : hat_at r (reached config past).core.hats ≡ Some h) (b : Bool) (routes : routes_in config r ≡ b) where
  abbrev s : State
  s = reached config past

  abbrev here : Face → Option FaceState
  here f = if region_index f.region == region_index r then Some (lean b (seen f)) else None

  abbrev seen_at : ℕ → Option FaceState
  seen_at n = option_and_then here (face_at past n)

  -- the faces of the trace, as the region has them
  abbrev pub ours : List (ℕ × Face) → List (ℕ × FaceState)
  ours fs = map (λ (f : ℕ × Face). (f.0, seen f.1)) fs

  ours_listed : (ns : List ℕ) → lean_faces b (ours (filter_map (λ n. option_and_then (in_region r n) (face_at past n)) ns)) ≡ listed seen_at ns
  ours_listed [] = refl
  ours_listed (n ∷ ns) = by (face_at past n) (ours_listed ns)
    where
      by : (o : Option Face) → lean_faces b (ours (filter_map (λ m. option_and_then (in_region r m) (face_at past m)) ns)) ≡ listed seen_at ns
          → lean_faces b (ours (cons_option (option_and_then (in_region r n) o) (filter_map (λ m. option_and_then (in_region r m) (face_at past m)) ns))) ≡ cons_option (option_map (λ x. (n, x)) (option_and_then here o)) (listed seen_at ns)
      by None ih = ih
      by (Some f) ih = of (region_index f.region == region_index r)
        where
          of : (c : Bool) → lean_faces b (ours (cons_option (if c then Some (n, f) else None) (filter_map (λ m. option_and_then (in_region r m) (face_at past m)) ns))) ≡ cons_option (option_map (λ x. (n, x)) (if c then Some (lean b (seen f)) else None)) (listed seen_at ns)
          of true = ap (λ l. (n, lean b (seen f)) ∷ l) ih
          of false = ih

  faces_sorted : IsStrictlySortedBy nat_cmp (faces past)
  faces_sorted = subst (IsStrictlySortedBy nat_cmp) (faces_are past) (counted_sorted config.start.faces (opened_in (steps_of past)) (subst (λ l. AreCounted config.start.faces (opened_in l)) (steps_is config past run) (run_promise config past).faces))

  -- the face as the machine has it
  kept_same : (c : Bool) (st : Standing) (f : Face) → IsSame config st f → routes_in config st.opened.region ≡ c → lean c (seen f) ≡ lean c st.kept
  kept_same true st f same routes' = same.kept
  kept_same false st f same routes' = λ j. record (same.kept j) { declared = same.queryables routes' j }

  one_at : (q : ℕ) (st : Option Standing) (f : Option Face) → face_at past q ≡ f → Alike config st f → option_map (lean b) (kept_in r st) ≡ cond (list_any (is_at (nat_cmp q)) (faces past)) (option_and_then here f) None
  one_at q None None e alike = by (list_any (is_at (nat_cmp q)) (faces past))
    where
      by : (c : Bool) → None ≡ cond {A = Option FaceState} c None None
      by true = refl
      by false = refl
  one_at q None (Some f) e alike = absurd alike
  one_at q (Some st) None e alike = absurd alike
  one_at q (Some st) (Some f) e alike =
      by (region_index st.opened.region == region_index r) refl
      ∙ ap (λ g. if region_index g == region_index r then Some (lean b (seen f)) else None) (sym alike.region)
      ∙ sym (ap (λ c. cond c (here f) None) (is_opened past q f e))
    where
      by : (c : Bool) → (region_index st.opened.region == region_index r) ≡ c → option_map (lean b) (cond (stands_in r st.opened) (Some st.kept) None) ≡ (if region_index st.opened.region == region_index r then Some (lean b (seen f)) else None)
      by true is =
          ap (λ c. option_map (lean b) (cond c (Some st.kept) None)) is
          ∙ ap Some (sym (kept_same b st f alike (ap (routes_in config) (one_region st.opened.region r (eqb-true (region_index st.opened.region) (region_index r) is)) ∙ routes)))
          ∙ sym (ap (λ c. cond c (Some (lean b (seen f))) None) is)
      by false is = ap (λ c. option_map (lean b) (cond c (Some st.kept) None)) is ∙ sym (ap (λ c. cond c (Some (lean b (seen f))) None) is)

  pub faces_same : lean_faces b h.faces ≡ lean_faces b (ours (faces_in past r))
  faces_same =
      same_entries nat_cmp_total exact_unsigned (lean_faces b h.faces) (listed seen_at (faces past))
      (subst (IsStrictlySortedBy nat_cmp) (sym (mapped_keys (lean b) h.faces)) ((in_order config past).tied.hats_sorted r h h_at))
      (listed_sorted seen_at (faces past) faces_sorted)
      (λ q. mapped_at q (lean b) h.faces
      ∙ ap (option_map (lean b)) (hat_stands config s (in_order config past) r h h_at q)
      ∙ one_at q (standing_at q s) (face_at past q) refl (faces_alike config q past run)
      ∙ sym (listed_at seen_at q (faces past)))
      ∙ sym (ours_listed (faces past))
