-- What a face asks to hear, by a run's trace.
use Rattle.std.proofs.Common.{◌≡◌, ◌∙◌, refl, sym, ap, subst, ℕ, Bool, true, false, cond, List, [], ◌∷◌, ◌++◌, fold, length, Option, Some, None, ◌+◌, ◌≤◌, arith, eqb-true, ne_eqb}
use Rattle.std.specs.Prelude.{◌==◌, ◌||◌}
use Rattle.std.specs.List.{list_any}
use Rattle.zq_machine.specs.Asked.{AreCounted, opened_in}
use Rattle.zq_trace.proofs.FaceLists.{not_opened}
use Rattle.zq_trace.proofs.Finals.{at_number}
use Rattle.zq_trace.proofs.Kept.{accepted_answer, faces_are}
use Rattle.std.specs.BTreeMap.{insert_entry, is_at}
use Rattle.std.specs.Map.{remove_entry}
use Rattle.std.specs.Option.{option_map, option_map_or}
use Rattle.std.specs.Ordering.{nat_cmp}
use Rattle.zq_message.specs.declared.message.DeclareBody.{DeclareBody}
use Rattle.zq_message.specs.declared.message.DeclareBody.TheVariants as body
use Rattle.zq_message.specs.declared.message.Message.{Message}
use Rattle.zq_message.specs.declared.message.Message.TheVariants as message
use Rattle.zq_message.specs.declared.message.WireExpr.{WireExpr}
use Rattle.zq_interests.specs.Interests.{Asked, interests_of}
use Rattle.zq_strategy.specs.declared.types.FinalMark.{FinalMark}
use Rattle.zq_strategy.specs.declared.types.FinalMark.TheVariants as mark
use Rattle.zq_machine.specs.declared.call.Call.{Call}
use Rattle.zq_machine.specs.declared.call.Call.TheVariants as call
use Rattle.zq_machine.specs.declared.call.Outcome.{Outcome}
use Rattle.zq_machine.specs.declared.call.Outcome.TheVariants as outcome
use Rattle.zq_machine.specs.declared.call.Step.{Step}
use Rattle.zq_machine.specs.Handing.{Handed}
use Rattle.zq_machine.specs.Configs.{Settings}
use Rattle.zq_machine.specs.Deciding.{is_accepted}
use Rattle.zq_machine.specs.Machine.{after, state_after, step, steps_from}
use Rattle.zq_machine.specs.Selecting.{full_text}
use Rattle.zq_machine.specs.State.{State, opening_state}
use Rattle.zq_machine.specs.Standing.{Standing, asked_at, asking_after, asking_by, asking_in, standing_after, standing_at, standing_in}
use Rattle.zq_trace.specs.Faces.{Face, Trace, asked, called, face_at, faces, handed_to, heard, new_face, says, told, with_mark, with_theirs}
use Rattle.zq_trace.specs.Refusals.{next_face}
use Rattle.zq_trace.proofs.Runs.{IsRun, calls_of, reached, run_promise, state_of, steps_is}
use Rattle.zq_trace.proofs.Standing.{Alike, faces_alike, says_same}

one_more : (config : Settings) (q : ℕ) (cs : List Call) (c : Call) (s : State) (st : Option Standing) (was : Asked)
    → asking_in config q (cs ++ c ∷ []) (steps_from s (cs ++ c ∷ [])) st was ≡ asking_after q c (step (state_after s cs) c) (standing_in config q cs (steps_from s cs) st) (asking_in config q cs (steps_from s cs) st was)
one_more config q [] c s st was = refl
one_more config q (d ∷ cs) c s st was = one_more config q cs c (after s d) (standing_after config q d (step s d) st) (asking_after q d (step s d) st was)

asks_next : (config : Settings) (past : Trace) (q : ℕ) (c : Call) → interests_of q (after (reached config past) c).core.interests ≡ asking_after q c (step (reached config past) c) (standing_at q (reached config past)) (interests_of q (reached config past).core.interests)
asks_next config past q c =
    ap (λ (s : State). interests_of q s.core.interests) (sym (state_of config ((c, step (reached config past) c) ∷ past)))
    ∙ (run_promise config ((c, step (reached config past) c) ∷ past)).asked q
    ∙ one_more config q (calls_of past) c (opening_state config) None []
    ∙ (λ j. asking_after q c (step (state_of config past j) c) (sym ((run_promise config past).stands q) j) (sym ((run_promise config past).asked q) j))
    ∙ ap (λ (s : State). asking_after q c (step (reached config past) c) (standing_at q s) (interests_of q s.core.interests)) (state_of config past)

abbrev pub Asks : Option Face → Asked → Type 0
Asks None a = a ≡ []
Asks (Some f) a = f.interests ≡ a

module _ (config : Settings) (q : ℕ) where
  -- what a face hears changes nothing of it
  one_heard : (h : Handed) (f : Face) → (handed_to q f h).interests ≡ f.interests
  one_heard h f = by (h.to.0 == q) h.message
    where
      told_same : (d : DeclareBody) → (told d f).interests ≡ f.interests
      told_same (body.DeclareKeyExpr id w) = refl
      told_same (body.UndeclareKeyExpr id) = refl
      told_same (body.DeclareQueryable id w i) = refl
      told_same (body.UndeclareQueryable id w) = refl
      told_same body.DeclareFinal = refl

      by : (b : Bool) (m : Message) → (cond b (heard m f) f).interests ≡ f.interests
      by false m = refl
      by true (message.Declare d) = told_same d.body
      by true (message.Request r) = refl
      by true (message.Response r) = refl
      by true (message.ResponseFinal r) = refl
      by true (message.Interest i) = refl
      by true (message.InterestFinal i) = refl

  all_heard : (hs : List Handed) (f : Face) → (fold (handed_to q) f hs).interests ≡ f.interests
  all_heard [] f = refl
  all_heard (h ∷ hs) f = all_heard hs (handed_to q f h) ∙ one_heard h f

  heard_same : (hs : List Handed) (f : Option Face) (a : Asked) → Asks f a → Asks (option_map (λ x. fold (handed_to q) x hs) f) a
  heard_same hs None a is = is
  heard_same hs (Some f) a is = all_heard hs f ∙ is

  -- a change of other things
  changed_same : (b : Bool) (g : Face → Face) → ((f : Face) → (g f).interests ≡ f.interests) → (f : Option Face) (a : Asked) → Asks f a → Asks (cond b (option_map g f) f) a
  changed_same false g keeps f a is = is
  changed_same true g keeps None a is = is
  changed_same true g keeps (Some f) a is = keeps f ∙ is

  closed_same : (b : Bool) (f : Option Face) (a : Asked) → Asks f a → Asks (cond b None f) (cond b [] a)
  closed_same true f a is = refl
  closed_same false f a is = is

  opened_same : (b : Bool) (x : Face) (f : Option Face) (a : Asked) → x.interests ≡ [] → (b ≡ true → a ≡ []) → Asks f a → Asks (cond b (Some x) f) a
  opened_same true x f a none empty is = none ∙ sym (empty refl)
  opened_same false x f a none empty is = is

  interest_same : (id : ℕ) (keys aggregate : Bool) (w : Option WireExpr) (st : Option Standing) (f : Option Face) (a : Asked) → Alike config st f → Asks f a → (b : Bool)
      → Asks (cond b (option_map (λ (y : Face). record y { interests = insert_entry nat_cmp y.interests id (asked w keys aggregate y) }) f) f) (cond b (option_map_or (λ (s : Standing). insert_entry nat_cmp a id (asked_at (record { keys = keys; aggregate = aggregate }) w s)) st a) a)
  interest_same id keys aggregate w st f a alike is false = is
  interest_same id keys aggregate w None None a alike is true = is
  interest_same id keys aggregate w None (Some f) a alike is true = absurd alike
  interest_same id keys aggregate w (Some s) None a alike is true = absurd alike
  interest_same id keys aggregate w (Some s) (Some f) a alike is true = λ j. insert_entry nat_cmp (is j) id (same w j)
    where
      same : (w : Option WireExpr) → asked w keys aggregate f ≡ asked_at (record { keys = keys; aggregate = aggregate }) w s
      same None = refl
      same (Some x) = ap (λ y. record { key = Some (full_text y); keys = keys; aggregate = aggregate }) (says_same config q x s f alike)

  end_same : (id : ℕ) (f : Option Face) (a : Asked) → Asks f a → (b : Bool) → Asks (cond b (option_map (λ (y : Face). record y { interests = remove_entry (is_at (nat_cmp id)) y.interests }) f) f) (cond b (remove_entry (is_at (nat_cmp id)) a) a)
  end_same id f a is false = is
  end_same id None a is true = ap (remove_entry (is_at (nat_cmp id))) is
  end_same id (Some f) a is true = ap (remove_entry (is_at (nat_cmp id))) is

  abbrev Fresh : Call → Outcome → Asked → Type 0
  Fresh (call.Open x) (outcome.Opened n) a = (n.0 == q) ≡ true → a ≡ []
  Fresh c answer a = Unit {0}

  mark_same : (m : FinalMark) (set : Bool) (y : Face) → (with_mark m set y).interests ≡ y.interests
  mark_same mark.Initial set y = refl
  mark_same (mark.Key key) true y = refl
  mark_same (mark.Key key) false y = refl

  called_asks : (c : Call) (answer : Outcome) (st : Option Standing) (f : Option Face) (a : Asked) → Alike config st f → Fresh c answer a → Asks f a → Asks (called q c answer f) (asking_by q c st a)
  called_asks (call.Open x) (outcome.Opened n) st f a alike fresh is = opened_same (n.0 == q) (new_face x) f a refl fresh is
  called_asks (call.Open x) (outcome.Asked n) st f a alike fresh is = is
  called_asks (call.Open x) (outcome.Replied n) st f a alike fresh is = is
  called_asks (call.Open x) outcome.Done st f a alike fresh is = is
  called_asks (call.Open x) (outcome.Refused n) st f a alike fresh is = is
  called_asks (call.Close n) answer st f a alike fresh is = closed_same (n.0 == q) f a is
  called_asks (call.DeclareKeyExpr n id w) answer st f a alike fresh is = changed_same (n.0 == q) (λ y. with_theirs y (insert_entry nat_cmp y.numbers.theirs id (full_text (says w y)))) (λ y. refl) f a is
  called_asks (call.UndeclareKeyExpr n id) answer st f a alike fresh is = changed_same (n.0 == q) (λ y. with_theirs y (remove_entry (is_at (nat_cmp id)) y.numbers.theirs)) (λ y. refl) f a is
  called_asks (call.DeclareQueryable n id w info node) answer st f a alike fresh is = changed_same (n.0 == q) (λ y. record y { queryables = insert_entry nat_cmp y.queryables id (record { key = full_text (says w y); info = info }) }) (λ y. refl) f a is
  called_asks (call.UndeclareQueryable n id w node) answer st f a alike fresh is = changed_same (n.0 == q) (λ y. record y { queryables = remove_entry (is_at (nat_cmp id)) y.queryables }) (λ y. refl) f a is
  called_asks (call.FinalizeInterest n m set) answer st f a alike fresh is = changed_same (n.0 == q) (with_mark m set) (mark_same m set) f a is
  called_asks (call.SetNodeIds n ids) answer st f a alike fresh is = changed_same (n.0 == q) (λ y. record y { nodes = ids }) (λ y. refl) f a is
  called_asks (call.Interest n id keys aggregate w) answer st f a alike fresh is = interest_same id keys aggregate w st f a alike is (n.0 == q)
  called_asks (call.InterestFinal n id) answer st f a alike fresh is = end_same id f a is (n.0 == q)
  called_asks c answer st f a alike fresh is = is

  step_asks : (c : Call) (t : Step) (past : Trace) (st : Option Standing) (a : Asked) → Alike config st (face_at past q) → (is_accepted t.outcome ≡ true → Fresh c t.outcome a) → Asks (face_at past q) a → Asks (face_at ((c, t) ∷ past) q) (asking_after q c t st a)
  step_asks c t past st a alike fresh is = by (is_accepted t.outcome) refl
    where
      by : (b : Bool) → is_accepted t.outcome ≡ b → Asks (cond b (option_map (λ f. fold (handed_to q) f t.handed) (called q c t.outcome (face_at past q))) (face_at past q)) (cond b (asking_by q c st a) a)
      by true h = heard_same t.handed (called q c t.outcome (face_at past q)) (asking_by q c st a) (called_asks c t.outcome st (face_at past q) a alike (fresh h) is)
      by false h = is

  -- ---- a face that is opened was not there
  below : (n : ℕ) (ms : List ℕ) (k : ℕ) → AreCounted n ms → n + length ms ≤ k → list_any (is_at (nat_cmp k)) ms ≡ false
  below n [] k are low = refl
  below n (m ∷ ms) k are low =
      let first : m ≡ n = are.0 in
      (λ j. (at_number k m ∙ ne_eqb m k (λ e. absurd (let e' : m ≡ k = e in omega (arith, e', first, low)))) j || below (n + 1) ms k are.1 (omega (arith, low)) j)

  numbered : (past : Trace) → IsRun config past → AreCounted config.start.faces (faces past)
  numbered past run = subst (AreCounted config.start.faces) (faces_are past) (subst (λ l. AreCounted config.start.faces (opened_in l)) (steps_is config past run) (run_promise config past).faces)

  fresh_now : (past : Trace) → IsRun config past → (c : Call) (a : Asked) → Asks (face_at past q) a → is_accepted (step (reached config past) c).outcome ≡ true → Fresh c (step (reached config past) c).outcome a
  fresh_now past run (call.Open x) a is h = subst (λ t. Fresh (call.Open x) t a) (sym (accepted_answer config past run (call.Open x) h)) new
    where
      new : (next_face config past == q) ≡ true → a ≡ []
      new e = subst (λ f. Asks f a) (not_opened past q (subst (λ k. list_any (is_at (nat_cmp k)) (faces past) ≡ false) (eqb-true (next_face config past) q e) (below config.start.faces (faces past) (next_face config past) (numbered past run) (omega arith)))) is
  fresh_now past run c a is h = tt

  pub asks_alike : (past : Trace) → IsRun config past → Asks (face_at past q) (interests_of q (reached config past).core.interests)
  asks_alike [] run = refl
  asks_alike (x ∷ past) run =
      subst (λ (t : Step). Asks (face_at ((x.0, t) ∷ past) q) (interests_of q (after (reached config past) x.0).core.interests)) (sym run.0)
      (subst (Asks (face_at ((x.0, step (reached config past) x.0) ∷ past) q)) (sym (asks_next config past q x.0))
      (step_asks x.0 (step (reached config past) x.0) past (standing_at q (reached config past)) (interests_of q (reached config past).core.interests) (faces_alike config q past run.1)
      (fresh_now past run.1 x.0 (interests_of q (reached config past).core.interests) (asks_alike past run.1)) (asks_alike past run.1)))
