-- What a face reads of an accepted call, and what fits at it afterwards, in a run whose faces are all in one namespace or in none.
use Rattle.std.proofs.Common.{◌≡◌, ◌∙◌, refl, sym, ap, subst, ℕ, Bool, true, false, cond, List, [], ◌∷◌, ◌++◌, map, fold, Option, Some, None, append_assoc}
use Rattle.std.specs.Prelude.{◌==◌, is_some}
use Rattle.std.specs.List.{AllByRecursion}
use Rattle.std.proofs.lemmas.List.Sums.{fold-append}
use Rattle.zq_message.specs.declared.message.Message.{Message}
use Rattle.zq_query.specs.declared.records.Final.{Final}
use Rattle.zq_query.specs.Closing.{closing_finals}
use Rattle.zq_tables.specs.Naming.{FaceNaming, NamingState, face_keys, naming_at}
use Rattle.zq_namespace.specs.Denied.{space_leaves as out_of}
use Rattle.zq_machine.specs.Deciding.{accepted, answered, decide, granted, messages_of, refusal_of, regated, renamed, told_of}
use Rattle.zq_machine.specs.Gates.{Gates, Out, gate_at, leave_all, leaves_by, let_out, space_of, through}
use Rattle.zq_machine.specs.Handing.{Handed}
use Rattle.zq_machine.specs.Headline.{asks}
use Rattle.zq_machine.specs.Hearing.{CanBeTold}
use Rattle.zq_machine.specs.Machine.{answer, asked_text, finishing, follow, going_out, settle}
use Rattle.zq_machine.specs.Messages.{Telling, TextMessage, TextReply, TextRequest, text_final, text_reply, text_request}
use Rattle.zq_machine.specs.Moved.{move_message, move_suffix, move_telling}
use Rattle.zq_machine.specs.State.{Core, State}
use Rattle.zq_machine.specs.TextCalls.{TextCall, opening, closing, naming, unnaming, declaring, withdrawing, asking, replying, ending, reporting, passing, listing, finalizing, announcing, retracting, networking, tabling, hearing, unhearing}
use Rattle.zq_machine.specs.Writing.{Told, final_message, finish, reply_message, request_message, sent_final, sent_reply, sent_request, tell, unsent, unsent_at, write}
use Rattle.zq_machine.proofs.Gates.{space_left}
use Rattle.zq_machine.proofs.GoingOut.{any_out, none_unsent}
use Rattle.zq_machine.proofs.Telling.{none_any, told_all}
use Rattle.zq_machine.proofs.Tells.{followed}
use Rattle.zq_machine.proofs.Writing.{finals_written}
use Rattle.zq_moved.specs.Received.{knows_handed, reads_all, reads_handed}
use Rattle.zq_moved.proofs.Lower.{nothing_given}
use Rattle.zq_moved.proofs.Passing.{FaceFits, Hears, exit_of, leaves_is}
use Rattle.zq_moved.proofs.Telling.{Ready, shift_by, tells_key, told_hears, told_to}
use Rattle.zq_moved.proofs.Saying.{CanBeSaid, all_denied, denied_at, request_says, said_hears, said_to}

-- ---- lists of messages, one behind the other
module _ (q : ℕ) where
  pub reads_append : (k : FaceNaming) (xs ys : List Handed) → reads_all q k (xs ++ ys) ≡ reads_all q k xs ++ reads_all q (fold (knows_handed q) k xs) ys
  reads_append k [] ys = refl
  reads_append k (x ∷ xs) ys = ap (λ l. reads_handed q k x ++ l) (reads_append (knows_handed q k x) xs ys) ∙ sym (append_assoc (reads_handed q k x) (reads_all q (knows_handed q k x) xs) (reads_all q (fold (knows_handed q) (knows_handed q k x) xs) ys))

  -- finals, as a face reads them
  abbrev pub finals_to : List Final → List Message
  finals_to [] = []
  finals_to (f ∷ fs) = cond (f.asker.0 == q) (final_message f ∷ []) [] ++ finals_to fs

  same_by : {X : Type 0} (b : Bool) (x : X) → cond b x x ≡ x
  same_by true x = refl
  same_by false x = refl

  pub finals_read : (k : FaceNaming) (fs : List Final) → reads_all q k (map sent_final fs) ≡ finals_to fs
  finals_read k [] = refl
  finals_read k (f ∷ fs) = λ j. cond (f.asker.0 == q) (final_message f ∷ []) [] ++ (ap (λ x. reads_all q x (map sent_final fs)) (same_by (f.asker.0 == q) k) ∙ finals_read k fs) j

  pub finals_know : (k : FaceNaming) (fs : List Final) → fold (knows_handed q) k (map sent_final fs) ≡ k
  finals_know k [] = refl
  finals_know k (f ∷ fs) = ap (λ x. fold (knows_handed q) x (map sent_final fs)) (same_by (f.asker.0 == q) k) ∙ finals_know k fs

-- ---- messages are written by the numbers from after the call
pub written_after : (s : State) (t : TextCall) → write s.names (messages_of s.core t) ≡ write (renamed s t) (messages_of s.core t)
written_after s (closing face) = finals_written s.names (closing_finals face.0 s.core.queries) ∙ sym (finals_written (renamed s (closing face)) (closing_finals face.0 s.core.queries))
written_after s (opening o) = refl
written_after s (naming face id sd x) = refl
written_after s (unnaming face id x) = refl
written_after s (declaring face id sd i n) = refl
written_after s (withdrawing face id) = refl
written_after s (asking face sd r now) = refl
written_after s (replying face sd r) = refl
written_after s (ending face rid) = refl
written_after s (reporting reply) = refl
written_after s (passing now) = refl
written_after s (listing r table) = refl
written_after s (finalizing face m set) = refl
written_after s (announcing face sd i node) = refl
written_after s (retracting face sd node) = refl
written_after s (networking r net) = refl
written_after s (tabling face ids) = refl
written_after s (hearing face id m sd) = refl
written_after s (unhearing face id) = refl

-- ---- an accepted call
module _ (s : State) (t : TextCall) (fits : refusal_of s.core t ≡ None) where
  pub decided : decide s.core t ≡ granted s.core t
  decided = ap (λ o. answered o (granted s.core t)) fits

  abbrev pub told_then : Told
  told_then = tell (accepted s.core t) (told_of s.core t) (renamed s t)

  abbrev pub all_handed : List Handed
  all_handed = write (renamed s t) (messages_of s.core t) ++ told_then.handed

  abbrev pub goes_out : Out
  goes_out = leave_all (asked_text t) all_handed (regated s t)

  pub going_is : going_out s t ≡ goes_out
  going_is =
      (λ j. leave_all (asked_text t) (write s.names (decided j).messages ++ (tell (followed s t fits j).core (decided j).told (followed s t fits j).names).handed) (followed s t fits j).gates)
      ∙ ap (λ l. leave_all (asked_text t) (l ++ told_then.handed) (regated s t)) (written_after s t)

  pub names_are : (settle s t).names ≡ told_then.names
  names_are = λ j. (tell (followed s t fits j).core (decided j).told (followed s t fits j).names).names

  pub core_is : (follow s t).core ≡ accepted s.core t
  core_is = ap (λ (z : State). z.core) (followed s t fits)

-- ---- requests that do not leave
module _ (o : Option (List ℕ)) (text : List ℕ) (names : NamingState) (gates : Gates) (known : ℕ → FaceNaming) (ready : (q : ℕ) → Ready o (naming_at q names) (gate_at q gates) (known q)) (denied : ℕ → Bool) where
  request_unsent : (r : TextRequest) → CanBeSaid names gates text denied (text_request r)
      → unsent_at r.to (request_message (face_keys r.to.0 names) (record r { text = move_suffix (shift_by o) r.text })) (leaves_by (gate_at r.to.0 gates) text (request_message (face_keys r.to.0 names) (record r { text = move_suffix (shift_by o) r.text })))
      ≡ denied_at denied (text_request r)
  request_unsent r can =
      ap (unsent_at r.to m) (leaves_is (gate_at r.to.0 gates) text m)
      ∙ ap (λ b. unsent_at r.to m (cond b None (out_of (exit_of (gate_at r.to.0 gates)) m))) can.2
      ∙ by (denied r.to.0)
    where
      m : Message
      m = request_message (face_keys r.to.0 names) (record r { text = move_suffix (shift_by o) r.text })

      by : (b : Bool) → unsent_at r.to m (cond b None (out_of (exit_of (gate_at r.to.0 gates)) m)) ≡ cond b ((r.to.0, r.id) ∷ []) []
      by true = refl
      by false = ap (unsent_at r.to m) (request_says r.to.0 o text names gates (known r.to.0) (ready r.to.0) r can.0 can.1).leaves

  reply_unsent : (r : TextReply) (left : Option Message) → unsent_at r.to (reply_message r) left ≡ []
  reply_unsent r None = refl
  reply_unsent r (Some m) = refl

  final_unsent : (f : Final) (left : Option Message) → unsent_at f.asker (final_message f) left ≡ []
  final_unsent f None = refl
  final_unsent f (Some m) = refl

  pub said_unsent : (ms : List TextMessage) (hs : List Handed) → AllByRecursion (CanBeSaid names gates text denied) ms → unsent (let_out text hs gates).handed ≡ []
      → unsent (let_out text (write names (map (move_message (shift_by o)) ms) ++ hs) gates).handed ≡ all_denied denied ms
  said_unsent [] hs can none = none
  said_unsent (text_request r ∷ ms) hs can none =
      let u = record r { text = move_suffix (shift_by o) r.text } in
      let out = through text gates (sent_request (face_keys r.to.0 names) u) in
      let more = write names (map (move_message (shift_by o)) ms) ++ hs in
      (λ j. request_unsent r can.0 j ++ (ap (λ g. unsent (let_out text more g).handed) (nothing_given out gates refl) ∙ said_unsent ms hs can.1 none) j)
  said_unsent (text_reply r ∷ ms) hs can none =
      let u = record r { text = move_suffix (shift_by o) r.text } in
      let out = through text gates (sent_reply u) in
      let more = write names (map (move_message (shift_by o)) ms) ++ hs in
      (λ j. reply_unsent u out.leaves j ++ (ap (λ g. unsent (let_out text more g).handed) (nothing_given out gates refl) ∙ said_unsent ms hs can.1 none) j)
  said_unsent (text_final f ∷ ms) hs can none =
      let out = through text gates (sent_final f) in
      let more = write names (map (move_message (shift_by o)) ms) ++ hs in
      (λ j. final_unsent f out.leaves j ++ (ap (λ g. unsent (let_out text more g).handed) (nothing_given out gates refl) ∙ said_unsent ms hs can.1 none) j)

  pub told_unsent : (c : Core) (ts : List Telling) → unsent (let_out text (tell c ts names).handed gates).handed ≡ []
  told_unsent c ts = none_unsent (let_out text (tell c ts names).handed gates).handed
      (any_out text asks (λ h left. refl) (tell c ts names).handed gates ∙ none_any asks (tell c ts names).handed (told_all (λ h. asks h ≡ false) (λ to d. refl) c ts names))

-- ---- a call, as one face reads it
-- the texts of messages and of what is told are those of the decision, as they are in the run; and they can be said and told
pub record IsSaid (o : Option (List ℕ)) (s : State) (t : TextCall) (denied : ℕ → Bool) (ms : List TextMessage) (ts : List Telling) : Type 0 where
  pub messages : messages_of s.core t ≡ map (move_message (shift_by o)) ms
  pub told : told_of s.core t ≡ map (move_telling (shift_by o)) ts
  pub can_say : AllByRecursion (CanBeSaid (renamed s t) (regated s t) (asked_text t) denied) ms
  pub can_tell : AllByRecursion (CanBeTold (renamed s t)) (map (move_telling (shift_by o)) ts)
  pub keys : AllByRecursion (λ (x : Telling). tells_key x.body) ts

module _ (o : Option (List ℕ)) (s : State) (t : TextCall) (fits : refusal_of s.core t ≡ None) (denied : ℕ → Bool) (ms : List TextMessage) (ts : List Telling) (is : IsSaid o s t denied ms ts)
    (known : ℕ → FaceNaming) (ready : (q : ℕ) → Ready o (naming_at q (renamed s t)) (gate_at q (regated s t)) (known q)) where
  abbrev to_say : List Handed
  to_say = write (renamed s t) (map (move_message (shift_by o)) ms) ++ (tell (accepted s.core t) (map (move_telling (shift_by o)) ts) (renamed s t)).handed

  pub going_said : going_out s t ≡ leave_all (asked_text t) to_say (regated s t)
  going_said = going_is s t fits ∙ (λ j. leave_all (asked_text t) (write (renamed s t) (is.messages j) ++ (tell (accepted s.core t) (is.told j) (renamed s t)).handed) (regated s t))

  -- the entries of requests that are denied are let go
  pub all_unsent : unsent (going_out s t).handed ≡ all_denied denied ms
  all_unsent =
      ap (λ (x : Out). unsent x.handed) going_said
      ∙ said_unsent o (asked_text t) (renamed s t) (regated s t) known ready denied ms (tell (accepted s.core t) (map (move_telling (shift_by o)) ts) (renamed s t)).handed is.can_say
      (told_unsent o (asked_text t) (renamed s t) (regated s t) known ready denied (accepted s.core t) (map (move_telling (shift_by o)) ts))

  pub finishes : finishing s t ≡ finish (accepted s.core t) (all_denied denied ms)
  finishes = λ j. finish (core_is s t fits j) (all_unsent j)

  abbrev pub finals : List Final
  finals = (finish (accepted s.core t) (all_denied denied ms)).finals

  module _ (q : ℕ) where
    all_hears : Hears q (asked_text t) to_say (regated s t) (known q) (naming_at q (tell (accepted s.core t) (map (move_telling (shift_by o)) ts) (renamed s t)).names) (said_to q denied ms (told_to q ts))
    all_hears =
        said_hears q o (asked_text t) (renamed s t) (regated s t) (known q) (ready q) denied ms _ _ (told_to q ts) is.can_say
        (told_hears q o (asked_text t) (accepted s.core t) ts (renamed s t) (regated s t) (known q) is.can_tell is.keys (ready q))

    -- what the face reads of the call
    pub call_reads : reads_all q (known q) (answer s t).handed ≡ said_to q denied ms (told_to q ts) ++ finals_to q finals
    call_reads =
        (λ j. reads_all q (known q) ((going_said j).handed ++ map sent_final (finishes j).finals))
        ∙ reads_append q (known q) (let_out (asked_text t) to_say (regated s t)).handed (map sent_final finals)
        ∙ (λ j. all_hears.reads j ++ finals_read q (fold (knows_handed q) (known q) (let_out (asked_text t) to_say (regated s t)).handed) finals j)

    knows_is : fold (knows_handed q) (known q) (answer s t).handed ≡ fold (knows_handed q) (known q) (let_out (asked_text t) to_say (regated s t)).handed
    knows_is =
        (λ j. fold (knows_handed q) (known q) ((going_said j).handed ++ map sent_final (finishes j).finals))
        ∙ fold-append (knows_handed q) (known q) (let_out (asked_text t) to_say (regated s t)).handed (map sent_final finals)
        ∙ finals_know q (fold (knows_handed q) (known q) (let_out (asked_text t) to_say (regated s t)).handed) finals

    -- its own numbers are as they were
    pub call_own : (fold (knows_handed q) (known q) (answer s t).handed).theirs ≡ (known q).theirs
    call_own = ap (λ (k : FaceNaming). k.theirs) knows_is ∙ all_hears.own

    -- and what stands for keys at it fits
    pub call_ready : (first : is_some (naming_at q (tell (accepted s.core t) (map (move_telling (shift_by o)) ts) (renamed s t)).names) ≡ is_some (naming_at q (renamed s t))) → Ready o (naming_at q (settle s t).names) (gate_at q (settle s t).gates) (fold (knows_handed q) (known q) (answer s t).handed)
    call_ready first =
        let names : (settle s t).names ≡ (tell (accepted s.core t) (map (move_telling (shift_by o)) ts) (renamed s t)).names = names_are s t fits ∙ ap (λ l. (tell (accepted s.core t) l (renamed s t)).names) is.told in
        let gate : gate_at q (settle s t).gates ≡ gate_at q (let_out (asked_text t) to_say (regated s t)).gates = ap (λ (x : Out). gate_at q x.gates) going_said ∙ all_hears.ended (let_out (asked_text t) to_say (regated s t)).gates in
        let space : space_of (gate_at q (settle s t).gates) ≡ space_of (gate_at q (regated s t)) = ap (λ (x : Out). space_of (gate_at q x.gates)) going_said ∙ space_left q (asked_text t) to_say (regated s t) in
        record {
          fits = subst (λ n. FaceFits (naming_at q n) (gate_at q (settle s t).gates) (fold (knows_handed q) (known q) (answer s t).handed)) (sym names)
              (subst (λ g. FaceFits (naming_at q (tell (accepted s.core t) (map (move_telling (shift_by o)) ts) (renamed s t)).names) g (fold (knows_handed q) (known q) (answer s t).handed)) (sym gate)
              (subst (λ k. FaceFits (naming_at q (tell (accepted s.core t) (map (move_telling (shift_by o)) ts) (renamed s t)).names) (gate_at q (let_out (asked_text t) to_say (regated s t)).gates) k) (sym knows_is) all_hears.fits));
          space = λ there. space ∙ (ready q).space (sym first ∙ ap (λ n. is_some (naming_at q n)) (sym names) ∙ there);
        }
