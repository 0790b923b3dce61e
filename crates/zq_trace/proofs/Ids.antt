-- The id that a face is given next, by a run's trace, is the machine's.
use Rattle.std.proofs.Common.{◌≡◌, ◌∙◌, refl, sym, ap, ℕ, zero, suc, ◌+◌, ◌%◌, ◌^◌, Bool, true, false, cond, List, [], ◌∷◌, fold, Some, eq-eqb}
use Rattle.std.specs.Prelude.{◌==◌, if◌then◌else◌, unwrap_or}
use Rattle.std.specs.List.{list_any}
use Rattle.std.proofs.lemmas.Bool.{and_from, and_parts}
use Rattle.std.proofs.lemmas.List.Sums.{fold-append}
use Rattle.zq_message.specs.declared.message.FaceId.{FaceId}
use Rattle.zq_message.specs.declared.message.Message.{Message}
use Rattle.zq_message.specs.declared.message.Message.TheVariants as message
use Rattle.zq_query.specs.Records.{Record, first_free, has_entry, is_entry, is_pending, last_given, next_id}
use Rattle.zq_machine.specs.Handing.{Handed}
use Rattle.zq_machine.specs.Configs.{Settings}
use Rattle.zq_machine.specs.State.{State}
use Rattle.zq_machine.specs.Asked.{asked_id, last_after, last_asked, last_with}
use Rattle.zq_machine.specs.Waiting.{is_same, owes, waits as has_entry_of}
use Rattle.zq_trace.specs.Faces.{Trace}
use Rattle.zq_trace.specs.Awaited.{Owed, free_after, free_id, given, is_taken, last_id, pending}
use Rattle.zq_trace.proofs.Open.{Found, any_from, found, same_bool, same_itself}
use Rattle.zq_trace.proofs.Pending.{entries_alike, is_owed, same_is}
use Rattle.zq_trace.proofs.Runs.{IsRun, reached, run_promise, state_of, steps_is, steps_of}

module _ (config : Settings) (past : Trace) (run : IsRun config past) (face id : ℕ) where
  abbrev records : List Record
  records = (reached config past).core.queries.records

  pending_taken : is_pending face id records ≡ true → is_taken (pending config past) face id ≡ true
  pending_taken h =
      let r : Found (has_entry face id) records = found (has_entry face id) records h in
      let p : Found (is_entry face id) r.0.pending = found (is_entry face id) r.0.pending r.1 in
      let owed : owes r.0.number p.0 records ≡ true = any_from (has_entry_of r.0.number p.0) records r.0 r.2 (and_from (r.0.number == r.0.number) (list_any (is_same p.0) r.0.pending) (eq-eqb r.0.number r.0.number refl) (any_from (is_same p.0) r.0.pending p.0 p.2 (same_itself p.0))) in
      let x : Found (is_owed r.0.number p.0) (pending config past) = found (is_owed r.0.number p.0) (pending config past) (sym (entries_alike config past run r.0.number p.0) ∙ owed) in
      any_from (λ (e : Owed). is_entry face id e.1) (pending config past) x.0 x.2 (ap (is_entry face id) (same_is p.0 x.0.1 (and_parts (x.0.0 == r.0.number) (is_same p.0 x.0.1) x.1).1) ∙ p.1)

  taken_pending : is_taken (pending config past) face id ≡ true → is_pending face id records ≡ true
  taken_pending h =
      let x : Found (λ (e : Owed). is_entry face id e.1) (pending config past) = found (λ (e : Owed). is_entry face id e.1) (pending config past) h in
      let owed : list_any (is_owed x.0.0 x.0.1) (pending config past) ≡ true = any_from (is_owed x.0.0 x.0.1) (pending config past) x.0 x.2 (and_from (x.0.0 == x.0.0) (is_same x.0.1 x.0.1) (eq-eqb x.0.0 x.0.0 refl) (same_itself x.0.1)) in
      let r : Found (has_entry_of x.0.0 x.0.1) records = found (has_entry_of x.0.0 x.0.1) records (entries_alike config past run x.0.0 x.0.1 ∙ owed) in
      let p : Found (is_same x.0.1) r.0.pending = found (is_same x.0.1) r.0.pending (and_parts (r.0.number == x.0.0) (list_any (is_same x.0.1) r.0.pending) r.1).1 in
      any_from (has_entry face id) records r.0 r.2 (any_from (is_entry face id) r.0.pending p.0 p.2 (ap (is_entry face id) (same_is x.0.1 p.0 p.1) ∙ x.1))

  pub taken_alike : is_pending face id records ≡ is_taken (pending config past) face id
  taken_alike = same_bool (is_pending face id records) (is_taken (pending config past) face id) pending_taken taken_pending

-- ---- the id last given
same_both : (b : Bool) (n : ℕ) → cond b n n ≡ n
same_both true n = refl
same_both false n = refl

one_given : (face : ℕ) (to : FaceId) (id : ℕ) (m : Message) → (if to.0 == face then unwrap_or (asked_id m) id else id) ≡ given face to id m
one_given face to id (message.Request r) = refl
one_given face to id (message.Response r) = same_both (to.0 == face) id
one_given face to id (message.ResponseFinal r) = same_both (to.0 == face) id
one_given face to id (message.Interest r) = same_both (to.0 == face) id
one_given face to id (message.InterestFinal r) = same_both (to.0 == face) id
one_given face to id (message.Declare r) = same_both (to.0 == face) id

all_given : (face : ℕ) (hs : List Handed) (id : ℕ) → fold (last_with face) id hs ≡ fold (λ k (h : Handed). given face h.to k h.message) id hs
all_given face [] id = refl
all_given face (h ∷ hs) id = ap (λ k. fold (last_with face) k hs) (one_given face h.to id h.message) ∙ all_given face hs (given face h.to id h.message)

last_steps : (config : Settings) (past : Trace) (face : ℕ) → last_asked face config.start.request_ids (steps_of past) ≡ last_id config past face
last_steps config [] face = refl
last_steps config (x ∷ past) face =
    fold-append (last_after face) config.start.request_ids (steps_of past) (x.1 ∷ [])
    ∙ ap (λ k. last_after face k x.1) (last_steps config past face)
    ∙ all_given face x.1.handed (last_id config past face)

pub last_alike : (config : Settings) (past : Trace) → IsRun config past → (face : ℕ) → last_given (reached config past).core.queries face ≡ last_id config past face
last_alike config past run face =
    ap (λ (s : State). last_given s.core.queries face) (sym (state_of config past))
    ∙ (run_promise config past).last_ids face
    ∙ ap (last_asked face config.start.request_ids) (steps_is config past run)
    ∙ last_steps config past face

free_alike : (config : Settings) (past : Trace) → IsRun config past → (face last n : ℕ) → first_free face (reached config past).core.queries.records last n ≡ free_after (pending config past) face last n
unfolding first_free free_after
free_alike config past run face last zero = refl
free_alike config past run face last (suc n) =
    λ j. cond (taken_alike config past run face ((last + 1) % 2 ^ 32) j) (free_alike config past run face ((last + 1) % 2 ^ 32) n j) (Some ((last + 1) % 2 ^ 32))

-- the id that a face is given next
pub ids_alike : (config : Settings) (past : Trace) → IsRun config past → (face : ℕ) → next_id (reached config past).core.queries face ≡ free_id config past face
ids_alike config past run face =
    ap (λ k. first_free face (reached config past).core.queries.records k (2 ^ 32)) (last_alike config past run face)
    ∙ free_alike config past run face (last_id config past face) (2 ^ 32)
