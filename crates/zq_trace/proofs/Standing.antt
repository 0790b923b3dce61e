-- What stands of a face by a run's trace is what the machine has of it.
use Rattle.std.proofs.Common.{◌≡◌, ◌∙◌, refl, sym, ap, subst, ℕ, Bool, true, false, cond, List, [], ◌∷◌, ◌++◌, fold, Option, Some, None}
use Rattle.std.specs.Prelude.{◌==◌, if◌then◌else◌}
use Rattle.std.specs.Option.{option_map}
use Rattle.std.proofs.lemmas.Bool.{false≢true}
use Rattle.zq_message.specs.declared.message.DeclareBody.{DeclareBody}
use Rattle.zq_message.specs.declared.message.DeclareBody.TheVariants as body
use Rattle.zq_message.specs.declared.message.Message.{Message}
use Rattle.zq_message.specs.declared.message.Message.TheVariants as message
use Rattle.zq_message.specs.declared.message.WireExpr.{WireExpr}
use Rattle.zq_strategy.specs.declared.types.FinalMark.{FinalMark}
use Rattle.zq_strategy.specs.declared.types.FinalMark.TheVariants as mark
use Rattle.zq_machine.specs.declared.call.Call.{Call}
use Rattle.zq_machine.specs.declared.call.Call.TheVariants as call
use Rattle.zq_machine.specs.declared.call.Outcome.{Outcome}
use Rattle.zq_machine.specs.declared.call.Outcome.TheVariants as outcome
use Rattle.zq_machine.specs.declared.call.Step.{Step}
use Rattle.zq_machine.specs.Handing.{Handed}
use Rattle.zq_machine.specs.Configs.{Settings}
use Rattle.zq_machine.specs.Deciding.{is_accepted}
use Rattle.zq_machine.specs.Gates.{entered_by}
use Rattle.std.specs.BTreeMap.{insert_entry, is_at}
use Rattle.std.specs.Map.{remove_entry}
use Rattle.std.specs.Ordering.{nat_cmp}
use Rattle.zq_strategy.specs.Kept.{declare, withdraw}
use Rattle.zq_strategy.specs.Marks.{marked}
use Rattle.zq_strategy.specs.State.{FaceState}
use Rattle.zq_machine.specs.Hearing.{with_ours}
use Rattle.zq_machine.specs.Selecting.{full_text}
use Rattle.zq_machine.specs.Machine.{after, state_after, step, steps_from}
use Rattle.zq_machine.specs.State.{State, opening_state}
use Rattle.zq_machine.specs.Standing.{Standing, accepted_at, declaring_at, heard_all, heard_at, heard_body as standing_heard_body, heard_message as standing_heard, newly_opened, routes_in, standing_after, standing_at, standing_in, text_said, with_kept}
use Rattle.zq_tables.specs.Naming.{said_of}
use Rattle.zq_trace.specs.Faces.{Face, Trace, asked, called, changed, face_at, handed_to, heard, new_face, says, told, with_mark, with_theirs}
use Rattle.zq_trace.specs.Selected.{seen}
use Rattle.zq_trace.proofs.Offered.{lean}
use Rattle.zq_trace.proofs.Runs.{IsRun, calls_of, reached, run_promise, state_of}

-- ---- what stands, call by call
one_more : (config : Settings) (q : ℕ) (cs : List Call) (c : Call) (s : State) (was : Option Standing)
    → standing_in config q (cs ++ c ∷ []) (steps_from s (cs ++ c ∷ [])) was ≡ standing_after config q c (step (state_after s cs) c) (standing_in config q cs (steps_from s cs) was)
one_more config q [] c s was = refl
one_more config q (d ∷ cs) c s was = one_more config q cs c (after s d) (standing_after config q d (step s d) was)

pub stands_next : (config : Settings) (past : Trace) (q : ℕ) (c : Call) → standing_at q (after (reached config past) c) ≡ standing_after config q c (step (reached config past) c) (standing_at q (reached config past))
stands_next config past q c =
    ap (standing_at q) (sym (state_of config ((c, step (reached config past) c) ∷ past)))
    ∙ (run_promise config ((c, step (reached config past) c) ∷ past)).stands q
    ∙ one_more config q (calls_of past) c (opening_state config) None
    ∙ (λ j. standing_after config q c (step (state_of config past j) c) (sym ((run_promise config past).stands q) j))
    ∙ ap (λ s. standing_after config q c (step (reached config past) c) (standing_at q s)) (state_of config past)

-- ---- the same of a face
pub record IsSame (config : Settings) (s : Standing) (f : Face) : Type 0 where
  pub region : f.region ≡ s.opened.region
  pub zid : f.zid ≡ s.opened.zid
  pub space : f.space ≡ s.space
  pub denied : f.denied ≡ s.denied
  pub numbers : f.numbers ≡ s.numbers
  pub nodes : f.nodes ≡ s.kept.nodes
  pub queryables : routes_in config s.opened.region ≡ false → f.queryables ≡ s.kept.declared
  pub kept : lean true (seen f) ≡ lean true s.kept

abbrev pub Alike : Settings → Option Standing → Option Face → Type 0
Alike config None None = Unit {0}
Alike config None (Some f) = ⊥
Alike config (Some s) None = ⊥
Alike config (Some s) (Some f) = IsSame config s f

module _ (config : Settings) (q : ℕ) where
  mapped : (g : Standing → Standing) (h : Face → Face) → ((s : Standing) (f : Face) → IsSame config s f → IsSame config (g s) (h f)) → (s : Option Standing) (f : Option Face) → Alike config s f → Alike config (option_map g s) (option_map h f)
  mapped g h keeps None None same = tt
  mapped g h keeps None (Some f) same = same
  mapped g h keeps (Some s) None same = same
  mapped g h keeps (Some s) (Some f) same = keeps s f same

  -- only the one side changes
  mapped_one : (h : Face → Face) → ((s : Standing) (f : Face) → IsSame config s f → IsSame config s (h f)) → (s : Option Standing) (f : Option Face) → Alike config s f → Alike config s (option_map h f)
  mapped_one h keeps None None same = tt
  mapped_one h keeps None (Some f) same = same
  mapped_one h keeps (Some s) None same = same
  mapped_one h keeps (Some s) (Some f) same = keeps s f same

  chosen_alike : (b : Bool) (s z : Option Standing) (f g : Option Face) → Alike config s f → Alike config z g → Alike config (cond b s z) (cond b f g)
  chosen_alike true s z f g one two = one
  chosen_alike false s z f g one two = two

  -- what is said is the same
  pub says_same : (w : WireExpr) (s : Standing) (f : Face) → IsSame config s f → says w f ≡ said_of s.numbers (entered_by s.space w)
  says_same w s f same = λ j. said_of (same.numbers j) (entered_by (same.space j) w)

  -- ---- what a face hears
  body_heard : (d : DeclareBody) (s : Standing) (f : Face) → IsSame config s f → IsSame config (standing_heard_body d s) (told d f)
  body_heard (body.DeclareKeyExpr id w) s f same = record { region = same.region; zid = same.zid; space = same.space; denied = same.denied; numbers = ap (with_ours id w.suffix) same.numbers; nodes = same.nodes; queryables = same.queryables; kept = same.kept }
  body_heard (body.UndeclareKeyExpr id) s f same = same
  body_heard (body.DeclareQueryable id w info) s f same = same
  body_heard (body.UndeclareQueryable id w) s f same = same
  body_heard body.DeclareFinal s f same = same

  message_heard : (m : Message) (s : Standing) (f : Face) → IsSame config s f → IsSame config (standing_heard m s) (heard m f)
  message_heard (message.Declare d) s f same = body_heard d.body s f same
  message_heard (message.Request r) s f same = same
  message_heard (message.Response r) s f same = same
  message_heard (message.ResponseFinal r) s f same = same
  message_heard (message.Interest i) s f same = same
  message_heard (message.InterestFinal i) s f same = same

  one_heard : (h : Handed) (s : Standing) (f : Face) → IsSame config s f → IsSame config (heard_at q s h) (handed_to q f h)
  one_heard h s f same = by (h.to.0 == q)
    where
      by : (b : Bool) → IsSame config (cond b (standing_heard h.message s) s) (cond b (heard h.message f) f)
      by true = message_heard h.message s f same
      by false = same

  all_heard : (hs : List Handed) (s : Standing) (f : Face) → IsSame config s f → IsSame config (heard_all q hs s) (fold (handed_to q) f hs)
  all_heard [] s f same = same
  all_heard (h ∷ hs) s f same = all_heard hs (heard_at q s h) (handed_to q f h) (one_heard h s f same)

  -- ---- what a face changes
  declared_same : (b : Bool) (s : Standing) (k : FaceState) (f g : Face) → routes_in config s.opened.region ≡ b → (routes_in config s.opened.region ≡ true → IsSame config s g) → (routes_in config s.opened.region ≡ false → IsSame config (with_kept s k) g)
      → IsSame config (cond b s (with_kept s k)) g
  declared_same true s k f g e yes' no' = yes' e
  declared_same false s k f g e yes' no' = no' e

  -- for any call of the face that both sides know
  by_face : (face : ℕ) (g : Standing → Standing) (h : Face → Face) (s : Option Standing) (f : Option Face) → ((x : Standing) (y : Face) → IsSame config x y → IsSame config (g x) (h y)) → Alike config s f
      → Alike config (if face == q then option_map g s else s) (changed q f (face, h))
  by_face face g h s f keeps same = chosen_alike (face == q) (option_map g s) s (option_map h f) f (mapped g h keeps s f same) same

  -- and for one of the trace's alone
  by_trace : (face : ℕ) (h : Face → Face) (s : Option Standing) (f : Option Face) → ((x : Standing) (y : Face) → IsSame config x y → IsSame config x (h y)) → Alike config s f → Alike config s (changed q f (face, h))
  by_trace face h s f keeps same = by (face == q)
    where
      by : (b : Bool) → Alike config s (cond b (option_map h f) f)
      by true = mapped_one h keeps s f same
      by false = same

  marked_same : (m : FinalMark) (set : Bool) (s : Standing) (f : Face) → IsSame config s f → IsSame config (with_kept s (marked m set s.kept)) (with_mark m set f)
  marked_same mark.Initial set s f same = record { region = same.region; zid = same.zid; space = same.space; denied = same.denied; numbers = same.numbers; nodes = same.nodes; queryables = same.queryables; kept = ap (marked mark.Initial set) same.kept }
  marked_same (mark.Key key) true s f same = record { region = same.region; zid = same.zid; space = same.space; denied = same.denied; numbers = same.numbers; nodes = same.nodes; queryables = same.queryables; kept = ap (marked (mark.Key key) true) same.kept }
  marked_same (mark.Key key) false s f same = record { region = same.region; zid = same.zid; space = same.space; denied = same.denied; numbers = same.numbers; nodes = same.nodes; queryables = same.queryables; kept = ap (marked (mark.Key key) false) same.kept }

  call_same : (c : Call) (answer : Outcome) (s : Option Standing) (f : Option Face) → Alike config s f → Alike config (accepted_at config q c answer s) (called q c answer f)
  call_same (call.Open o) (outcome.Opened n) s f same = chosen_alike (n.0 == q) (Some (newly_opened config.start.told q o)) s (Some (new_face o)) f (record { region = refl; zid = refl; space = refl; denied = refl; numbers = refl; nodes = refl; queryables = λ h. refl; kept = refl }) same
  call_same (call.Open o) (outcome.Asked n) s f same = same
  call_same (call.Open o) (outcome.Replied n) s f same = same
  call_same (call.Open o) outcome.Done s f same = same
  call_same (call.Open o) (outcome.Refused r) s f same = same
  call_same (call.Close n) answer s f same = chosen_alike (n.0 == q) None s None f tt same
  call_same (call.DeclareKeyExpr n id w) answer s f same =
      by_face n.0 (declaring_at config (call.DeclareKeyExpr n id w)) (λ y. with_theirs y (insert_entry nat_cmp y.numbers.theirs id (full_text (says w y)))) s f
      (λ x y is. record {
        region = is.region;
        zid = is.zid;
        space = is.space;
        denied = is.denied;
        numbers = λ j. record (is.numbers j) { theirs = insert_entry nat_cmp (is.numbers j).theirs id (full_text (says_same w x y is j)) };
        nodes = is.nodes;
        queryables = is.queryables;
        kept = is.kept;
      }) same
  call_same (call.UndeclareKeyExpr n id) answer s f same =
      by_face n.0 (declaring_at config (call.UndeclareKeyExpr n id)) (λ y. with_theirs y (remove_entry (is_at (nat_cmp id)) y.numbers.theirs)) s f
      (λ x y is. record {
        region = is.region;
        zid = is.zid;
        space = is.space;
        denied = is.denied;
        numbers = λ j. record (is.numbers j) { theirs = remove_entry (is_at (nat_cmp id)) (is.numbers j).theirs };
        nodes = is.nodes;
        queryables = is.queryables;
        kept = is.kept;
      }) same
  call_same (call.DeclareQueryable n id w info node) answer s f same =
      by_face n.0 (declaring_at config (call.DeclareQueryable n id w info node)) (λ y. record y { queryables = insert_entry nat_cmp y.queryables id (record { key = full_text (says w y); info = info }) }) s f
      (λ x y is.
      let g : Face = record y { queryables = insert_entry nat_cmp y.queryables id (record { key = full_text (says w y); info = info }) } in
      declared_same (routes_in config x.opened.region) x (declare id (text_said x w) info x.kept) y g refl
      (λ yes'. record { region = is.region; zid = is.zid; space = is.space; denied = is.denied; numbers = is.numbers; nodes = is.nodes; queryables = λ not'. absurd (false≢true (sym not' ∙ yes')); kept = is.kept })
      (λ not'. record { region = is.region; zid = is.zid; space = is.space; denied = is.denied; numbers = is.numbers; nodes = is.nodes; queryables = λ h. λ j. insert_entry nat_cmp (is.queryables h j) id (record { key = full_text (says_same w x y is j); info = info }); kept = is.kept })) same
  call_same (call.UndeclareQueryable n id w node) answer s f same =
      by_face n.0 (declaring_at config (call.UndeclareQueryable n id w node)) (λ y. record y { queryables = remove_entry (is_at (nat_cmp id)) y.queryables }) s f
      (λ x y is.
      let g : Face = record y { queryables = remove_entry (is_at (nat_cmp id)) y.queryables } in
      declared_same (routes_in config x.opened.region) x (withdraw id x.kept) y g refl
      (λ yes'. record { region = is.region; zid = is.zid; space = is.space; denied = is.denied; numbers = is.numbers; nodes = is.nodes; queryables = λ not'. absurd (false≢true (sym not' ∙ yes')); kept = is.kept })
      (λ not'. record { region = is.region; zid = is.zid; space = is.space; denied = is.denied; numbers = is.numbers; nodes = is.nodes; queryables = λ h. ap (remove_entry (is_at (nat_cmp id))) (is.queryables h); kept = is.kept })) same
  call_same (call.FinalizeInterest n m set) answer s f same = by_face n.0 (declaring_at config (call.FinalizeInterest n m set)) (with_mark m set) s f (λ x y is. marked_same m set x y is) same
  call_same (call.SetNodeIds n ids) answer s f same =
      by_face n.0 (declaring_at config (call.SetNodeIds n ids)) (λ y. record y { nodes = ids }) s f
      (λ x y is. record { region = is.region; zid = is.zid; space = is.space; denied = is.denied; numbers = is.numbers; nodes = refl; queryables = is.queryables; kept = λ j. record (is.kept j) { nodes = ids } }) same
  call_same (call.Interest n id keys aggregate w) answer s f same =
      by_trace n.0 (λ y. record y { interests = insert_entry nat_cmp y.interests id (asked w keys aggregate y) }) s f
      (λ x y is. record { region = is.region; zid = is.zid; space = is.space; denied = is.denied; numbers = is.numbers; nodes = is.nodes; queryables = is.queryables; kept = is.kept }) same
  call_same (call.InterestFinal n id) answer s f same =
      by_trace n.0 (λ y. record y { interests = remove_entry (is_at (nat_cmp id)) y.interests }) s f
      (λ x y is. record { region = is.region; zid = is.zid; space = is.space; denied = is.denied; numbers = is.numbers; nodes = is.nodes; queryables = is.queryables; kept = is.kept }) same
  call_same c answer s f same = same

  step_same : (c : Call) (t : Step) (past : Trace) (s : Option Standing) → Alike config s (face_at past q) → Alike config (standing_after config q c t s) (face_at ((c, t) ∷ past) q)
  step_same c t past s same = by (is_accepted t.outcome)
    where
      by : (b : Bool) → Alike config (cond b (option_map (heard_all q t.handed) (accepted_at config q c t.outcome s)) s) (cond b (option_map (λ f. fold (handed_to q) f t.handed) (called q c t.outcome (face_at past q))) (face_at past q))
      by true = mapped (heard_all q t.handed) (λ f. fold (handed_to q) f t.handed) (all_heard t.handed) (accepted_at config q c t.outcome s) (called q c t.outcome (face_at past q)) (call_same c t.outcome s (face_at past q) same)
      by false = same

  pub faces_alike : (past : Trace) → IsRun config past → Alike config (standing_at q (reached config past)) (face_at past q)
  faces_alike [] run = tt
  faces_alike (x ∷ past) run =
      subst (λ (t : Step). Alike config (standing_at q (after (reached config past) x.0)) (face_at ((x.0, t) ∷ past) q)) (sym run.0)
      (subst (λ o. Alike config o (face_at ((x.0, step (reached config past) x.0) ∷ past) q)) (sym (stands_next config past q x.0))
      (step_same x.0 (step (reached config past) x.0) past (standing_at q (reached config past)) (faces_alike past run.1)))
