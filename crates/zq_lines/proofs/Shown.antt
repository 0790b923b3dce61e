-- The lines of the steps of a run show all of what is handed.
use Rattle.std.proofs.Common.{◌≡◌, ◌==◌, ℕ, Bool, true, false, cond, List, [], ◌∷◌, ◌++◌, map, refl, sym, subst, Option, Some, None}
use Rattle.std.specs.List.{AllByRecursion, filter}
use Rattle.std.specs.Option.{is_some, option_map, option_map_or}
use Rattle.std.proofs.lemmas.Bool.{false≢true}
use Rattle.zq_message.specs.declared.message.Declare.{Declare}
use Rattle.zq_message.specs.declared.message.DeclareBody.{DeclareBody}
use Rattle.zq_message.specs.declared.message.DeclareBody.TheVariants as body
use Rattle.zq_message.specs.declared.message.FaceId.{FaceId}
use Rattle.zq_message.specs.declared.message.Message.{Message}
use Rattle.zq_message.specs.declared.message.Message.TheVariants as message
use Rattle.zq_message.specs.declared.message.QueryableInfoType.{QueryableInfoType}
use Rattle.zq_message.specs.declared.message.WireExpr.{WireExpr}
use Rattle.zq_namespace.specs.Denied.{denies, space_leaves}
use Rattle.zq_namespace.specs.Entry.{is_bare_error}
use Rattle.zq_namespace.specs.Exit.{head_at, option_out, wire_out}
use Rattle.zq_namespace.specs.Leaves.{ExitState, body_leaves, declare_with, has_id, interest_with, leaves, request_with, response_with}
use Rattle.zq_strategy.specs.declared.network.Telling.{Telling as TreeTelling}
use Rattle.zq_strategy.specs.Tellings.{in_order}
use Rattle.zq_query.specs.declared.records.Final.{Final}
use Rattle.zq_tables.specs.Naming.{NamingState}
use Rattle.zq_told.specs.declared.types.Reason.TheVariants.{Answer}
use Rattle.zq_told.specs.ToldSets.{ToldSet, ToldSets, at_face}
use Rattle.zq_told.specs.Telling.{KeyDue, tell_faces, tell_keys, with_account}
use Rattle.zq_told.specs.Laws.{told_in}
use Rattle.zq_told.specs.Leaving.{news_of}
use Rattle.zq_told.proofs.Leaving.{answers_all}
use Rattle.zq_machine.specs.declared.call.Call.{Call}
use Rattle.zq_machine.specs.Gates.{Gate, Gates, gate_at, leaves_by, let_out, through, with_given}
use Rattle.zq_machine.specs.Handing.{Handed}
use Rattle.zq_machine.specs.State.{State}
use Rattle.zq_machine.specs.TextCalls.{TextCall, hearing, read}
use Rattle.zq_machine.specs.Deciding.{accepted, granted, interests_for, kept, renamed, told_of}
use Rattle.zq_machine.specs.Machine.{step}
use Rattle.zq_machine.specs.Messages.{Telling, TextMessage, answered_by, answering, from_hat, key_ended, told_or_ended, text_final, text_reply, text_request}
use Rattle.zq_machine.specs.Neighbours.{answer_told, asked_dues, near_told, with_dues}
use Rattle.zq_machine.specs.Selecting.{asked_by}
use Rattle.zq_machine.specs.Trees.{all_own_told, touched, tree_told}
use Rattle.zq_machine.specs.Writing.{finish, sent_final, write}
use Rattle.zq_machine.proofs.DueHeard.{all_ordered}
use Rattle.zq_machine.proofs.GoingOut.{all_ended}
use Rattle.zq_machine.proofs.Granted.{by_granted, told_by}
use Rattle.zq_machine.proofs.Lists.{all_append}
use Rattle.zq_machine.proofs.Telling.{IsTold, told_each}
use Rattle.zq_lines.specs.StepsFit.{ShowsDeclare, ShowsHanded, ShowsMessage, ShowsStep}
use Rattle.zq_io.specs.Fits.{FitsOption}

-- the lines of requests, replies and finals show all of them
written_shows : (names : NamingState) (ms : List TextMessage) → AllByRecursion ShowsHanded (write names ms)
written_shows names [] = tt
written_shows names (text_request r ∷ ms) = ((tt, tt), written_shows names ms)
written_shows names (text_reply r ∷ ms) = ((tt, tt), written_shows names ms)
written_shows names (text_final f ∷ ms) = ((tt, tt), written_shows names ms)

-- and so do those of declarations: only what tells of a key and the last word answer interests, and an end is shown with its key and without
abbrev IsShown : Telling → Type 0
IsShown t = IsTold ShowsHanded (λ to text id. ((refl, refl), (refl, refl))) t

tree_shows : (t : TreeTelling) → IsShown (from_hat t)
tree_shows t = by t.info
  where
    ended : (b : Bool) → IsShown (record (from_hat t) { body = key_ended t.id (cond b (Some t.key) None) })
    ended true w = (refl, refl)
    ended false w = (refl, refl)

    by : (o : Option QueryableInfoType) → IsShown (record (from_hat t) { body = told_or_ended t.id t.key o })
    by None w = ended (t.id == 0) w
    by (Some i) w = (tt, tt)

trees_show : (ts : List TreeTelling) → AllByRecursion IsShown (map from_hat ts)
trees_show [] = tt
trees_show (t ∷ ts) = (tree_shows t, trees_show ts)

-- ---- in answer to an interest
-- it tells of a key, and ends none
abbrev Tells : TreeTelling → Type 0
Tells t = is_some t.info ≡ true

due_tells : (ks : List KeyDue) → AllByRecursion (λ (k : KeyDue). is_some k.1 ≡ true) (filter (λ (k : KeyDue). is_some k.1) ks)
due_tells [] = tt
due_tells ((key, None) ∷ ks) = due_tells ks
due_tells ((key, Some i) ∷ ks) = (refl, due_tells ks)

of_news : (ts : List TreeTelling) → AllByRecursion (λ (k : KeyDue). is_some k.1 ≡ true) (map news_of ts) → AllByRecursion Tells ts
of_news [] all = tt
of_news (t ∷ ts) all = (all.0, of_news ts all.1)

asker_tells : (n : ℕ) (keys : List KeyDue) (o : Option ToldSet) → AllByRecursion Tells (option_map_or (λ (e : ToldSet). with_account n (tell_keys Answer n e keys []) (record { plan = []; tellings = [] })) o (record { plan = []; tellings = [] })).tellings
asker_tells n keys None = tt
asker_tells n keys (Some e) = of_news (told_in Answer n e keys) (subst (AllByRecursion (λ (k : KeyDue). is_some k.1 ≡ true)) (sym (answers_all n e keys)) (due_tells keys))

answer_tells : (ears : ToldSets) (n : ℕ) (keys : List KeyDue) → AllByRecursion Tells (tell_faces Answer ears (with_dues n keys)).tellings
answer_tells ears n [] = tt
answer_tells ears n (k ∷ ks) = asker_tells n (k ∷ ks) (at_face n ears)

answer_shows : (id : ℕ) (t : TreeTelling) → Tells t → IsShown (answering id (from_hat t))
answer_shows id t tells = by t.info tells
  where
    by : (o : Option QueryableInfoType) → is_some o ≡ true → IsShown (answering id (record (from_hat t) { body = told_or_ended t.id t.key o }))
    by None h = absurd (false≢true h)
    by (Some i) h = λ w. (tt, tt)

answers_show : (face : FaceId) (id : ℕ) (ts : List TreeTelling) → AllByRecursion Tells ts → AllByRecursion IsShown (answered_by face id (map from_hat ts))
answers_show face id [] all = (λ w. (refl, refl), tt)
answers_show face id (t ∷ ts) all = (answer_shows id t all.0, answers_show face id ts all.1)

-- ---- all that a call tells
marked_shows : (s : State) (t : TextCall) → AllByRecursion IsShown (told_of s.core t)
marked_shows s (hearing face id keys sd) =
    let more = interests_for s.core (hearing face id keys sd) in
    let near = answer_told (accepted s.core (hearing face id keys sd)) more s.core.ears face.0 (asked_by keys sd) in
    answers_show face id (in_order near)
    (all_ordered Tells [] near tt (answer_tells s.core.ears face.0 (asked_dues (accepted s.core (hearing face id keys sd)) more face.0 (asked_by keys sd))))
marked_shows s t =
    trees_show (in_order ((tree_told s.core (accepted s.core t) t ++ all_own_told s.core.hats (accepted s.core t).hats (touched s.core t)) ++ near_told s.core (accepted s.core t) (interests_for s.core t) t (kept s.core t)))

told_shows : (s : State) (t : TextCall) → AllByRecursion ShowsHanded (told_by s t).handed
told_shows s t = told_each ShowsHanded (λ to text id. ((refl, refl), (refl, refl))) (accepted s.core t) (told_of s.core t) (renamed s t) (marked_shows s t)

-- ---- what leaves of a message is of its kind: its line shows all of it, if the line of the message does
abbrev IsLeft : Option Message → Type 0
IsLeft left = FitsOption ShowsMessage left

unless : (b : Bool) (m : Message) → ShowsMessage m → IsLeft (cond b None (Some m))
unless true m shows = tt
unless false m shows = shows

body_left : (d : Declare) (s : ExitState) (b : DeclareBody) → ShowsDeclare d.interest d.node b → IsLeft (option_map (declare_with d) (body_leaves s b))
body_left d s (body.DeclareKeyExpr id w) shows = by (wire_out s.ns s.heads w)
  where
    by : (o : Option WireExpr) → IsLeft (option_map (declare_with d) (option_map (λ v. body.DeclareKeyExpr id v) o))
    by None = tt
    by (Some v) = shows
body_left d s (body.UndeclareKeyExpr id) shows = by (is_some (head_at id s.heads))
  where
    by : (b : Bool) → IsLeft (option_map (declare_with d) (cond b None (Some (body.UndeclareKeyExpr id))))
    by true = tt
    by false = shows
body_left d s (body.DeclareQueryable id w info) shows = by (wire_out s.ns s.heads w)
  where
    by : (o : Option WireExpr) → IsLeft (option_map (declare_with d) (option_map (λ v. body.DeclareQueryable id v info) o))
    by None = tt
    by (Some v) = tt
body_left d s (body.UndeclareQueryable id None) shows = by (has_id id s.queryables)
  where
    by : (b : Bool) → IsLeft (option_map (declare_with d) (cond b None (Some (body.UndeclareQueryable id None))))
    by true = tt
    by false = shows
body_left d s (body.UndeclareQueryable id (Some w)) shows = by (wire_out s.ns s.heads w)
  where
    by : (o : Option WireExpr) → IsLeft (option_map (declare_with d) (option_map (λ v. body.UndeclareQueryable id (Some v)) o))
    by None = tt
    by (Some v) = shows
body_left d s body.DeclareFinal shows = shows

space_left : (s : ExitState) (m : Message) → ShowsMessage m → IsLeft (leaves s m)
space_left s (message.Interest i) shows = by (option_out s.ns s.heads i.wire)
  where
    by : (o : Option (Option WireExpr)) → IsLeft (option_map (interest_with i) o)
    by None = tt
    by (Some w) = tt
space_left s (message.InterestFinal id) shows = unless (has_id id s.interests) (message.InterestFinal id) shows
space_left s (message.Declare d) shows = body_left d s d.body shows
space_left s (message.Request r) shows = by (wire_out s.ns s.heads r.wire)
  where
    by : (o : Option WireExpr) → IsLeft (option_map (request_with r) o)
    by None = tt
    by (Some w) = tt
space_left s (message.Response r) shows = either (is_bare_error r)
  where
    by : (o : Option WireExpr) → IsLeft (option_map (response_with r) o)
    by None = tt
    by (Some w) = tt

    either : (b : Bool) → IsLeft (cond b (Some (message.Response r)) (option_map (response_with r) (wire_out s.ns s.heads r.wire)))
    either true = tt
    either false = by (wire_out s.ns s.heads r.wire)
space_left s (message.ResponseFinal f) shows = tt

gate_left : (o : Option Gate) (text : List ℕ) (m : Message) → ShowsMessage m → IsLeft (leaves_by o text m)
gate_left None text m shows = shows
gate_left (Some g) text m shows = either (denies g.exit.exit text m)
  where
    by : (o : Option ExitState) → IsLeft (space_leaves o m)
    by None = shows
    by (Some s) = space_left s m shows

    either : (b : Bool) → IsLeft (cond b None (space_leaves g.exit.space m))
    either true = tt
    either false = by g.exit.space

out_shows : (text : List ℕ) (hs : List Handed) (gates : Gates) → AllByRecursion ShowsHanded hs → AllByRecursion ShowsHanded (let_out text hs gates).handed
out_shows text [] gates all = tt
out_shows text (h ∷ hs) gates all =
    ((all.0.0, gate_left (gate_at h.to.0 gates) text h.message all.0.0), out_shows text hs (with_given (through text gates h) gates) all.1)

finals_show : (fs : List Final) → AllByRecursion (λ f. ShowsHanded (sent_final f)) fs
finals_show [] = tt
finals_show (f ∷ fs) = ((tt, tt), finals_show fs)

pub step_shows : (s : State) (c : Call) → ShowsStep (step s c)
step_shows s c =
    by_granted (λ z w. ShowsStep z) s (read s c)
    (λ text z w all. out_shows text z.handed w.gates all)
    (λ p places z w all. all_ended ShowsHanded z.handed (finish w.core (p ∷ places)).finals all (finals_show (finish w.core (p ∷ places)).finals))
    (λ h. all_append ShowsHanded (write s.names (granted s.core (read s c)).messages) (told_by s (read s c)).handed (written_shows s.names (granted s.core (read s c)).messages) (told_shows s (read s c)))
    (λ r. tt)
