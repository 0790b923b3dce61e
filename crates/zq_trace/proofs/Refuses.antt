-- What refuses calls of a query's life, by a run's trace, is what refuses them in the machine.
use Rattle.std.proofs.Common.{◌≡◌, ◌∙◌, refl, sym, ap, ℕ, ◌+◌, ◌^◌, Bool, true, false, cond, not, List, [], ◌∷◌, ◌++◌, map, length, Option, Some, None, arith, eq-eqb}
use Rattle.std.specs.Prelude.{◌==◌, ◌&&◌, ◌||◌, nat_lt, is_none}
use Rattle.std.specs.List.{list_any}
use Rattle.std.specs.Option.{is_some, option_and_then, option_map_or}
use Rattle.std.proofs.lemmas.Bool.{and_from, and_parts}
use Rattle.zq_message.specs.declared.message.FaceId.{FaceId}
use Rattle.zq_message.specs.declared.message.Request.{Request}
use Rattle.zq_message.specs.declared.message.Response.{Response}
use Rattle.zq_message.specs.declared.message.WireExpr.{WireExpr}
use Rattle.zq_query.specs.declared.records.Final.{Final}
use Rattle.zq_query.specs.Asking.{is_full as lacks_at}
use Rattle.zq_query.specs.Records.{Record, has_reply, is_closed as counts_closed, is_in_flight, is_reply, owner as machine_owner}
use Rattle.zq_strategy.specs.declared.types.FinalMark.{FinalMark}
use Rattle.zq_strategy.specs.declared.network.NodeIds.{NodeIds}
use Rattle.zq_strategy.specs.declared.offer.QueryTargetQabl.{QueryTargetQabl}
use Rattle.zq_tables.specs.declared.resolved.Resolved.TheVariants as said_word
use Rattle.zq_tables.specs.Naming.{face_naming, remaps, said_of, text_at}
use Rattle.zq_machine.specs.declared.call.Call.TheVariants as call
use Rattle.zq_machine.specs.declared.call.Refusal.TheVariants as refusal
use Rattle.zq_machine.specs.declared.face.OpenFace.{OpenFace}
use Rattle.zq_machine.specs.Configs.{Settings}
use Rattle.zq_machine.specs.Asked.{AreCounted, replies_of}
use Rattle.zq_machine.specs.Deciding.{Cause, causes as machine_causes, first_of, refusal_of as machine_refusal, unknown_face}
use Rattle.zq_machine.specs.Gates.{gate_at, reply_by, space_of}
use Rattle.zq_machine.specs.Machine.{after, step}
use Rattle.zq_machine.specs.Selecting.{full_text, is_unscoped, says_key, says_key_or_nothing, select as machine_select, target_of}
use Rattle.zq_machine.specs.State.{State, at}
use Rattle.zq_machine.specs.TextCalls.{asked_said, read, said, said_by_reply}
use Rattle.zq_trace.specs.Faces.{Face, Trace, face_at, is_closed, says}
use Rattle.zq_trace.specs.Awaited.{free_id, in_flight, next_reply, owner}
use Rattle.zq_trace.specs.Selected.{select}
use Rattle.zq_trace.specs.Expected.{if_open, reply_says}
use Rattle.zq_trace.specs.Refusals.{Lacks, causes, of_face, refusal_of, said_at, unknown}
use Rattle.zq_trace.proofs.Asked.{closed_alike, counted_now}
use Rattle.zq_machine.proofs.Counting.{call_replies}
use Rattle.zq_trace.proofs.Ids.{ids_alike, taken_alike}
use Rattle.zq_trace.proofs.Open.{Found, any_from, found, same_bool}
use Rattle.zq_trace.proofs.Owners.{owner_alike}
use Rattle.zq_trace.proofs.Pending.{flights_alike, is_flight}
use Rattle.zq_trace.proofs.Replies.{late_count}
use Rattle.zq_trace.proofs.Runs.{IsRun, reached}
use Rattle.zq_trace.proofs.Saying.{closed_face, numbers_here, open_face, said_here}

-- ---- numbers of replies
in_all : (m k : ℕ) (new : List ℕ) → ((rest : List ℕ) → AreCounted k rest → AreCounted m (new ++ rest)) → k ≡ m + length new
in_all m k [] counted = let at' : k ≡ m = (counted (k ∷ []) (refl, tt)).0 in omega (arith, at')
in_all m k (n ∷ new) counted = let more : k ≡ m + 1 + length new = in_all (m + 1) k new (λ rest are. (counted rest are).1) in omega (arith, more)

pub replies_now : (config : Settings) (past : Trace) → IsRun config past → (reached config past).core.queries.replies ≡ next_reply config past
replies_now config [] run = refl
replies_now config (x ∷ past) run =
    let more : (after (reached config past) x.0).core.queries.replies ≡ (reached config past).core.queries.replies + length (replies_of (step (reached config past) x.0)) =
    in_all (reached config past).core.queries.replies (after (reached config past) x.0).core.queries.replies (replies_of (step (reached config past) x.0)) (call_replies (reached config past) x.0) in
    more ∙ (λ j. replies_now config past run.1 j + length (replies_of (sym run.0 j)))

pub head_true : (x : Cause) (cs : List Cause) → x.0 ≡ true → first_of (x ∷ cs) ≡ Some x.1
head_true x cs e = ap (λ b. cond b (Some x.1) (first_of cs)) e

-- all causes but the first
abbrev pub behind : List Cause → List Cause
behind [] = []
behind (x ∷ cs) = cs

module _ (config : Settings) (past : Trace) (run : IsRun config past) (lacks : Lacks) where
  abbrev s : State
  s = reached config past

  -- a face that is not open refuses in both, and one that is in neither
  pub by_face : (face : FaceId) (xs ys : List Cause) → ((p : OpenFace) → at face.0 s.core.faces ≡ Some p → first_of xs ≡ first_of ys) → first_of (unknown past face ∷ xs) ≡ first_of (unknown_face face s.core ∷ ys)
  by_face face xs ys rest = by (at face.0 s.core.faces) refl
    where
      by : (p : Option OpenFace) → at face.0 s.core.faces ≡ p → first_of (unknown past face ∷ xs) ≡ first_of (unknown_face face s.core ∷ ys)
      by None gone =
          head_true (unknown past face) xs (ap is_none (closed_face config past run face.0 gone))
          ∙ sym (head_true (unknown_face face s.core) ys (ap (λ p. not (is_some p)) gone))
      by (Some p) seen =
          let f = open_face config past run face.0 p seen in
          ap (λ b. cond b (Some refusal.UnknownFace) (first_of xs)) (ap is_none f.1)
          ∙ rest p seen
          ∙ sym (ap (λ b. cond b (Some refusal.UnknownFace) (first_of ys)) (ap (λ q. not (is_some q)) seen))

  -- ---- of an open face
  module _ (face : FaceId) (p : OpenFace) (seen : at face.0 s.core.faces ≡ Some p) where
    abbrev pub f : Face
    f = (open_face config past run face.0 p seen).0

    pub here : face_at past face.0 ≡ Some f
    here = (open_face config past run face.0 p seen).1

    pub said_same : (w : WireExpr) → said_at past face w ≡ said face w s
    said_same w = ap (λ x. option_map_or (says w) x said_word.Unscoped) here ∙ said_here config past run face.0 p seen w

    reply_same : (r : Response) → reply_says past face r ≡ said_by_reply face r s
    reply_same r =
        ap (λ x. option_map_or (λ (g : Face). said_of g.numbers (reply_by g.space r)) x said_word.Unscoped) here
        ∙ (λ j. said_of ((open_face config past run face.0 p seen).2.numbers j) (reply_by ((open_face config past run face.0 p seen).2.space j) r))
        ∙ ap (λ n. said_of n (reply_by (space_of (gate_at face.0 s.gates)) r)) (numbers_here config past run face.0 p seen)

    theirs_same : f.numbers.theirs ≡ (face_naming face.0 s.names).theirs
    theirs_same = ap (λ n. n.theirs) ((open_face config past run face.0 p seen).2.numbers ∙ numbers_here config past run face.0 p seen)

    remaps_same : (id : ℕ) (w : WireExpr) → of_face past face (λ g. remaps id (full_text (says w g)) (text_at id g.numbers.theirs)) ≡ remaps id (full_text (said face w s)) (text_at id (face_naming face.0 s.names).theirs)
    remaps_same id w =
        ap (λ x. option_map_or (λ (g : Face). remaps id (full_text (says w g)) (text_at id g.numbers.theirs)) x false) here
        ∙ (λ j. remaps id (full_text (said_here config past run face.0 p seen w j)) (text_at id (theirs_same j)))

    unnamed_same : (id : ℕ) → of_face past face (λ g. is_none (text_at id g.numbers.theirs)) ≡ is_none (text_at id (face_naming face.0 s.names).theirs)
    unnamed_same id = ap (λ x. option_map_or (λ (g : Face). is_none (text_at id g.numbers.theirs)) x false) here ∙ ap (λ n. is_none (text_at id n)) theirs_same

  -- ---- replies in flight
  flying_same : (reply : ℕ) → list_any (λ (x : ℕ × ℕ). x.1 == reply) (in_flight past) ≡ is_in_flight reply s.core.queries.records
  flying_same reply = same_bool (list_any (λ (x : ℕ × ℕ). x.1 == reply) (in_flight past)) (is_in_flight reply s.core.queries.records) there back
    where
      there : list_any (λ (x : ℕ × ℕ). x.1 == reply) (in_flight past) ≡ true → is_in_flight reply s.core.queries.records ≡ true
      there h =
          let x : Found (λ (y : ℕ × ℕ). y.1 == reply) (in_flight past) = found (λ (y : ℕ × ℕ). y.1 == reply) (in_flight past) h in
          let flies' : list_any (is_flight x.0.0 reply) (in_flight past) ≡ true = any_from (is_flight x.0.0 reply) (in_flight past) x.0 x.2 (and_from (x.0.0 == x.0.0) (is_reply reply x.0.1) (eq-eqb x.0.0 x.0.0 refl) x.1) in
          let r : Found (λ (q : Record). (q.number == x.0.0) && has_reply reply q) s.core.queries.records = found (λ (q : Record). (q.number == x.0.0) && has_reply reply q) s.core.queries.records (flights_alike config past run x.0.0 reply ∙ flies') in
          any_from (has_reply reply) s.core.queries.records r.0 r.2 (and_parts (r.0.number == x.0.0) (has_reply reply r.0) r.1).1

      back : is_in_flight reply s.core.queries.records ≡ true → list_any (λ (x : ℕ × ℕ). x.1 == reply) (in_flight past) ≡ true
      back h =
          let r : Found (has_reply reply) s.core.queries.records = found (has_reply reply) s.core.queries.records h in
          let flies' = any_from (λ (q : Record). (q.number == r.0.number) && has_reply reply q) s.core.queries.records r.0 r.2 (and_from (r.0.number == r.0.number) (has_reply reply r.0) (eq-eqb r.0.number r.0.number refl) r.1) in
          let x : Found (is_flight r.0.number reply) (in_flight past) = found (is_flight r.0.number reply) (in_flight past) (sym (flights_alike config past run r.0.number reply) ∙ flies') in
          any_from (λ (y : ℕ × ℕ). y.1 == reply) (in_flight past) x.0 x.2 (and_parts (x.0.0 == r.0.number) (is_reply reply x.0.1) x.1).1

  -- ---- an open asker
  open_same : (o' : Option Final) → is_some (option_and_then (if_open past) o') ≡ option_map_or (λ (g : Final). not (counts_closed s.core.queries.closed g.asker.0)) o' false
  open_same None = refl
  open_same (Some g) = by (is_closed' g) ∙ sym (ap not (closed_alike config past run g.asker.0))
    where
      is_closed' : Final → Bool
      is_closed' x = is_closed past x.asker.0

      by : (b : Bool) → is_some (cond b None (Some g)) ≡ not b
      by true = refl
      by false = refl

  needs_same : (face : FaceId) (rid : ℕ) → is_some (option_and_then (if_open past) (owner config past face.0 rid)) ≡ option_map_or (λ (g : Final). not (counts_closed s.core.queries.closed g.asker.0)) (machine_owner face.0 rid s.core.queries.records) false
  needs_same face rid = open_same (owner config past face.0 rid) ∙ ap (λ x. option_map_or (λ (g : Final). not (counts_closed s.core.queries.closed g.asker.0)) x false) (sym (owner_alike config past run face.0 rid))

  -- ---- ids
  none_not : {X : Type 0} (x : Option X) → is_none x ≡ not (is_some x)
  none_not None = refl
  none_not (Some y) = refl

  full_same : (os : List QueryTargetQabl) → list_any (λ (x : QueryTargetQabl). is_none (free_id config past x.face.0)) os ≡ list_any (lacks_at s.core.queries) (map target_of os)
  full_same [] = refl
  full_same (x ∷ os) = λ j. (none_not (free_id config past x.face.0) ∙ ap (λ y. not (is_some y)) (sym (ids_alike config past run x.face.0))) j || full_same os j

  pub close_refuses : (face : FaceId) → refusal_of lacks config past (call.Close face) ≡ machine_refusal s.core (read s (call.Close face))
  close_refuses face = by_face face [] [] (λ p seen. refl)

  pub final_refuses : (face : FaceId) (rid : ℕ) → refusal_of lacks config past (call.ResponseFinal face rid) ≡ machine_refusal s.core (read s (call.ResponseFinal face rid))
  final_refuses face rid = by_face face (behind (causes lacks config past (call.ResponseFinal face rid))) (behind (machine_causes s.core (read s (call.ResponseFinal face rid)))) (λ p seen. ap (λ b. cond (not b) (Some refusal.QueryNotFound) None) (sym (taken_alike config past run face.0 rid)))

  pub sent_refuses : (reply : ℕ) → refusal_of lacks config past (call.Sent reply) ≡ machine_refusal s.core (read s (call.Sent reply))
  sent_refuses reply = ap (λ b. cond (not b) (Some refusal.NotInFlight) None) (flying_same reply)

  pub reply_refuses : (face : FaceId) (r : Response) → refusal_of lacks config past (call.Response face r) ≡ machine_refusal s.core (read s (call.Response face r))
  reply_refuses face r =
      by_face face (behind (causes lacks config past (call.Response face r))) (behind (machine_causes s.core (read s (call.Response face r))))
      (λ p seen j.
      first_of
      ((is_unscoped (reply_same face p seen r j), refusal.UnknownScope) ∷ (not (sym (taken_alike config past run face.0 r.rid) j), refusal.QueryNotFound)
      ∷ (not (says_key_or_nothing (reply_same face p seen r j)), refusal.InvalidKeyExpr) ∷ (needs_same face r.rid j && (sym (replies_now config past run) j + 1 == 2 ^ 64), refusal.NoFreeId) ∷ []))

  pub ask_refuses : (face : FaceId) (r : Request) (now : ℕ) → select config past face r ≡ machine_select s.core face (asked_said face r s) r → refusal_of lacks config past (call.Request face r now) ≡ machine_refusal s.core (read s (call.Request face r now))
  ask_refuses face r now picks =
      by_face face (behind (causes lacks config past (call.Request face r now))) (behind (machine_causes s.core (read s (call.Request face r now))))
      (λ p seen. ap (λ b. cond b (Some refusal.NoFreeId) None) ((λ j. (counted_now config past run j + 1 == 2 ^ 64) || full_same (select config past face r) j) ∙ ap (λ os. (s.core.queries.requests + 1 == 2 ^ 64) || list_any (lacks_at s.core.queries) (map target_of os)) picks))

  pub key_refuses : (face : FaceId) (id : ℕ) (w : WireExpr) → refusal_of lacks config past (call.DeclareKeyExpr face id w) ≡ machine_refusal s.core (read s (call.DeclareKeyExpr face id w))
  key_refuses face id w =
      by_face face (behind (causes lacks config past (call.DeclareKeyExpr face id w))) (behind (machine_causes s.core (read s (call.DeclareKeyExpr face id w))))
      (λ p seen j. first_of ((is_unscoped (said_same face p seen w j), refusal.UnknownScope) ∷ (not (says_key (said_same face p seen w j)), refusal.InvalidKeyExpr) ∷ (remaps_same face p seen id w j, refusal.Remapped) ∷ []))

  pub unkey_refuses : (face : FaceId) (id : ℕ) → refusal_of lacks config past (call.UndeclareKeyExpr face id) ≡ machine_refusal s.core (read s (call.UndeclareKeyExpr face id))
  unkey_refuses face id = by_face face (behind (causes lacks config past (call.UndeclareKeyExpr face id))) (behind (machine_causes s.core (read s (call.UndeclareKeyExpr face id)))) (λ p seen. ap (λ b. cond b (Some refusal.UnknownId) None) (unnamed_same face p seen id))

  pub poll_refuses : (now : ℕ) → refusal_of lacks config past (call.Poll now) ≡ machine_refusal s.core (read s (call.Poll now))
  poll_refuses now =
      ap (λ b. cond (not b) (Some refusal.NoFreeId) None)
      (λ j. nat_lt (sym (replies_now config past run) j + late_count config past run now j) (2 ^ 64))

  pub mark_refuses : (face : FaceId) (m : FinalMark) (set : Bool) → refusal_of lacks config past (call.FinalizeInterest face m set) ≡ machine_refusal s.core (read s (call.FinalizeInterest face m set))
  mark_refuses face m set = by_face face (behind (causes lacks config past (call.FinalizeInterest face m set))) (behind (machine_causes s.core (read s (call.FinalizeInterest face m set)))) (λ p seen. refl)

  pub nodes_refuses : (face : FaceId) (ids : NodeIds) → refusal_of lacks config past (call.SetNodeIds face ids) ≡ machine_refusal s.core (read s (call.SetNodeIds face ids))
  nodes_refuses face ids = by_face face [] [] (λ p seen. refl)
