-- The id that was last given at a face is that of the last request that was handed to it.
use Rattle.std.proofs.Common.{append-nil, ◌≡◌, ◌∙◌, refl, sym, ap, ℕ, Bool, true, false, cond, List, [], ◌∷◌, ◌++◌, fold, map, Option, Some, None, unwrap_or}
use Rattle.std.specs.Prelude.{◌==◌}
use Rattle.std.specs.List.{list_any}
use Rattle.std.specs.Map.{lookup}
use Rattle.std.specs.BTreeMap.{insert_entry, is_at}
use Rattle.std.specs.Option.{is_some}
use Rattle.std.specs.Ordering.{nat_cmp}
use Rattle.std.proofs.lemmas.Bool.{or_parts}
use Rattle.std.proofs.lemmas.Cmp.{nat_cmp_total}
use Rattle.std.proofs.lemmas.Map.Lookups.{exact_unsigned}
use Rattle.zq_message.specs.declared.message.FaceId.{FaceId}
use Rattle.zq_message.specs.declared.message.Message.{Message}
use Rattle.zq_message.specs.declared.message.Message.TheVariants as message
use Rattle.zq_message.specs.declared.message.Request.{Request}
use Rattle.zq_strategy.specs.declared.offer.QueryTargetQabl.{QueryTargetQabl}
use Rattle.zq_query.specs.declared.records.ReplyTo.{ReplyTo}
use Rattle.zq_query.specs.Asking.{given_place, giving}
use Rattle.zq_query.specs.Polling.{timeouts}
use Rattle.zq_query.specs.Records.{QueryState, after_put, last_given, next_reply}
use Rattle.zq_query.proofs.TimingOut.{rest_stays}
use Rattle.zq_tables.specs.Naming.{NamingState}
use Rattle.zq_machine.specs.declared.call.Call.{Call}
use Rattle.zq_machine.specs.declared.call.Call.TheVariants as call
use Rattle.zq_machine.specs.Handing.{Handed}
use Rattle.zq_machine.specs.Asked.{asked_id, last_after, last_asked, last_with}
use Rattle.zq_machine.specs.Deciding.{accepted, after_replied, granted, handed_request, handed_requests}
use Rattle.zq_machine.specs.Headline.{asks, is_request}
use Rattle.zq_machine.specs.Machine.{after, answer, settle, state_after, steps_from}
use Rattle.zq_machine.specs.Selecting.{full_text, select, target_of}
use Rattle.zq_machine.specs.State.{Core, State}
use Rattle.zq_machine.specs.TextCalls.{TextCall, asked_said, asking, replying, passing, read}
use Rattle.zq_machine.specs.Writing.{finish, sent_final, write}
use Rattle.zq_machine.proofs.Granted.{KeptEnding, KeptOut, any_beside, by_granted, told_by}
use Rattle.zq_machine.proofs.GoingOut.{fold_ended, fold_out}
use Rattle.zq_machine.proofs.Changing.{number_test}
use Rattle.zq_machine.proofs.Reading.{declare_read, withdraw_read}
use Rattle.zq_machine.proofs.Asks.{granted_asks, is_asking}
use Rattle.zq_key.proofs.Lookups.{found_after_insertion}

-- ---- only requests give ids
no_id : (m : Message) → is_request m ≡ false → asked_id m ≡ None
no_id (message.Request r) h = absurd (let gap : true ≡ false = h in cc)
no_id m h = refl

module _ (face : ℕ) where
  same_with : (id : ℕ) (h : Handed) → asks h ≡ false → last_with face id h ≡ id
  same_with id h none = ap (λ o. cond (h.to.0 == face) (unwrap_or o id) id) (no_id h.message none) ∙ by (h.to.0 == face)
    where
      by : (b : Bool) → cond b id id ≡ id
      by true = refl
      by false = refl

  none_last : (hs : List Handed) (id : ℕ) → list_any asks hs ≡ false → fold (last_with face) id hs ≡ id
  none_last [] id none = refl
  none_last (h ∷ hs) id none =
      let m = or_parts (asks h) (list_any asks hs) none in
      ap (λ i. fold (last_with face) i hs) (same_with id h m.0) ∙ none_last hs id m.1

  -- ---- an accepted request gives each target its id
  module _ (names : NamingState) (q : QueryState) (text : List ℕ) (r : Request) (default : ℕ) where
    abbrev last_in : List (ℕ × ℕ) → ℕ
    last_in l = unwrap_or (lookup (is_at (nat_cmp face)) l) default

    one_given : (l : List (ℕ × ℕ)) (o : QueryTargetQabl) → last_in (insert_entry nat_cmp l o.face.0 (given_place q o.face).1) ≡ cond (o.face.0 == face) (given_place q o.face).1 (last_in l)
    one_given l o =
        ap (λ x. unwrap_or x default) (found_after_insertion nat_cmp_total exact_unsigned o.face.0 face (given_place q o.face).1 l)
        ∙ ap (λ b. unwrap_or (cond b (Some (given_place q o.face).1) (lookup (is_at (nat_cmp face)) l)) default) (number_test o.face.0 face)
        ∙ by (o.face.0 == face)
      where
        by : (b : Bool) → unwrap_or (cond b (Some (given_place q o.face).1) (lookup (is_at (nat_cmp face)) l)) default ≡ cond b (given_place q o.face).1 (last_in l)
        by true = refl
        by false = refl

    each_given : (os : List QueryTargetQabl) (l : List (ℕ × ℕ)) → last_in (giving l (map (given_place q) (map target_of os))) ≡ fold (last_with face) (last_in l) (write names (map (handed_request q text r) os))
    each_given [] l = refl
    each_given (o ∷ os) l =
        each_given os (insert_entry nat_cmp l o.face.0 (given_place q o.face).1)
        ∙ ap (λ i. fold (last_with face) i (write names (map (handed_request q text r) os))) (one_given l o)

  asked_last : (names : NamingState) (q : QueryState) (asker : FaceId) (text : List ℕ) (r : Request) (os : List QueryTargetQabl)
      → last_in names q text r q.request_ids (giving q.last_ids (map (given_place q) (map target_of os))) ≡ fold (last_with face) (last_given q face) (write names (handed_requests q asker text r os))
  asked_last names q asker text r [] = sym (none_last (write names (handed_requests q asker text r [])) (last_given q face) refl)
  asked_last names q asker text r (o ∷ os) = each_given names q text r q.request_ids (o ∷ os) q.last_ids

  -- ---- no other call gives one
  put_last : (q : QueryState) (o : Option ReplyTo) → last_given (after_replied o q) face ≡ last_given q face
  put_last q None = refl
  put_last q (Some to) = by (is_some to.reply)
    where
      by : (b : Bool) → last_given (cond b (after_put to.number q) q) face ≡ last_given q face
      by true = refl
      by false = refl

  same_last : (c : Core) (t : TextCall) → is_asking t ≡ false → last_given (accepted c t).queries face ≡ last_given c.queries face
  unfolding is_asking
  same_last c (asking asker s r now) h = absurd (let gap : true ≡ false = h in cc)
  same_last c (replying from s r) h = put_last c.queries (next_reply from.0 r.rid c.queries)
  same_last c (passing now) h = ap (λ (z : QueryState). last_given z face) (rest_stays (timeouts now c.queries) c.queries)
  same_last c t h = refl

  abbrev KeepsLast : State → TextCall → Type 0
  KeepsLast s t = last_given (settle s t).core.queries face ≡ last_after face (last_given s.core.queries face) (answer s t)

  -- gates and finals give none
  out_last : (id : ℕ) → KeptOut (λ z w. last_given w.core.queries face ≡ last_after face id z)
  out_last id text z w it = it ∙ sym (fold_out text (last_with face) (λ x h left. refl) z.handed w.gates id)

  ended_last : (id : ℕ) → KeptEnding (λ z w. last_given w.core.queries face ≡ last_after face id z)
  ended_last id p places z w it = it ∙ sym (fold_ended (last_with face) (λ x f. same_with x (sent_final f) refl) z.handed (finish w.core (p ∷ places)).finals id)

  quiet : (s : State) (t : TextCall) → is_asking t ≡ false → KeepsLast s t
  quiet s t h =
      by_granted (λ z w. last_given w.core.queries face ≡ last_after face (last_given s.core.queries face) z) s t (out_last (last_given s.core.queries face)) (ended_last (last_given s.core.queries face))
      (λ passed.
      same_last s.core t h
      ∙ sym (none_last (write s.names (granted s.core t).messages ++ (told_by s t).handed) (last_given s.core.queries face)
      (any_beside s t (write s.names (granted s.core t).messages) asks (λ to d. refl) ∙ granted_asks s.names s.core t h)))
      (λ r. refl)

  call_last : (s : State) (c : Call) → KeepsLast s (read s c)
  unfolding is_asking
  call_last s (call.Request asker r now) =
      let t = read s (call.Request asker r now) in
      let sd = asked_said asker r s in
      by_granted (λ z w. last_given w.core.queries face ≡ last_after face (last_given s.core.queries face) z) s t (out_last (last_given s.core.queries face)) (ended_last (last_given s.core.queries face))
      (λ passed.
      asked_last s.names s.core.queries asker (full_text sd) r (select s.core asker sd r)
      ∙ ap (fold (last_with face) (last_given s.core.queries face)) (sym (append-nil (write s.names (handed_requests s.core.queries asker (full_text sd) r (select s.core asker sd r))))))
      (λ x. refl)
  call_last s (call.DeclareQueryable f id wire info node) = quiet s (read s (call.DeclareQueryable f id wire info node)) (declare_read (λ t. is_asking t ≡ false) s f id wire info node refl refl)
  call_last s (call.UndeclareQueryable f id wire node) = quiet s (read s (call.UndeclareQueryable f id wire node)) (withdraw_read (λ t. is_asking t ≡ false) s f id wire node refl refl)
  call_last s c = quiet s (read s c) refl

  pub run_last : (cs : List Call) (s : State) → last_given (state_after s cs).core.queries face ≡ last_asked face (last_given s.core.queries face) (steps_from s cs)
  run_last [] s = refl
  run_last (c ∷ cs) s = run_last cs (after s c) ∙ ap (λ id. last_asked face id (steps_from (after s c) cs)) (call_last s c)
