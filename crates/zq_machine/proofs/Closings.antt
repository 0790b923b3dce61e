-- A face counts as closed from the call that closes it.
use Rattle.std.proofs.Common.{◌≡◌, ◌∙◌, refl, sym, ap, ℕ, Bool, true, false, cond, Option, Some, None}
use Rattle.std.specs.Prelude.{◌||◌}
use Rattle.std.specs.Option.{is_some}
use Rattle.std.proofs.lemmas.Bool.{false≢true}
use Rattle.std.proofs.lemmas.Cmp.{nat_cmp_total}
use Rattle.std.proofs.lemmas.Map.Lookups.{exact_unsigned}
use Rattle.zq_query.specs.declared.records.ReplyTo.{ReplyTo}
use Rattle.zq_query.specs.Records.{QueryState, is_closed, next_reply}
use Rattle.zq_machine.specs.declared.call.Call.{Call}
use Rattle.zq_machine.specs.declared.call.Call.TheVariants as call
use Rattle.zq_machine.specs.Asked.{closes}
use Rattle.zq_machine.specs.Deciding.{accepted, after_replied, decide, is_accepted}
use Rattle.zq_machine.specs.Machine.{accepted_state, after, settle, step}
use Rattle.zq_machine.specs.State.{Core, State}
use Rattle.zq_machine.specs.TextCalls.{TextCall, opening, closing, naming, unnaming, declaring, withdrawing, asking, replying, ending, reporting, passing, listing, finalizing, announcing, retracting, networking, tabling, hearing, unhearing, read, said_if}
use Rattle.zq_machine.proofs.Changing.{number_test}
use Rattle.zq_machine.proofs.Finals.{put_closed, timing_closed}
use Rattle.zq_machine.proofs.Granted.{by_granted}
use Rattle.zq_machine.proofs.Reading.{declare_read, withdraw_read}
use Rattle.zq_machine.proofs.Writing.{settles_view}
use Rattle.zq_key.proofs.Sorted.{has_put}

is_closing : TextCall → Bool
is_closing (closing face) = true
is_closing (opening o) = false
is_closing (naming face id s x) = false
is_closing (unnaming face id x) = false
is_closing (declaring face id s i n) = false
is_closing (withdrawing face id) = false
is_closing (asking face s r now) = false
is_closing (replying face s r) = false
is_closing (ending face rid) = false
is_closing (reporting reply) = false
is_closing (passing now) = false
is_closing (listing r t) = false
is_closing (finalizing face m set) = false
is_closing (announcing face sd i node) = false
is_closing (retracting face sd node) = false
is_closing (networking r net) = false
is_closing (tabling face ids) = false
is_closing (hearing face id keys sd) = false
is_closing (unhearing face id) = false

replied_closed : (q : QueryState) (o : Option ReplyTo) → (after_replied o q).closed ≡ q.closed
replied_closed q None = refl
replied_closed q (Some to) = put_closed to.number q (is_some to.reply)

same_closed : (c : Core) (t : TextCall) → is_closing t ≡ false → (accepted c t).queries.closed ≡ c.queries.closed
unfolding is_closing
same_closed c (closing face) h = absurd (false≢true (sym h))
same_closed c (opening o) h = refl
same_closed c (naming face id s x) h = refl
same_closed c (unnaming face id x) h = refl
same_closed c (declaring face id s i n) h = refl
same_closed c (withdrawing face id) h = refl
same_closed c (asking face s r now) h = refl
same_closed c (replying face s r) h = replied_closed c.queries (next_reply face.0 r.rid c.queries)
same_closed c (ending face rid) h = refl
same_closed c (reporting reply) h = refl
same_closed c (passing now) h = timing_closed now c.queries
same_closed c (listing r t) h = refl
same_closed c (finalizing face m set) h = refl
same_closed c (announcing face sd i node) h = refl
same_closed c (retracting face sd node) h = refl
same_closed c (networking r net) h = refl
same_closed c (tabling face ids) h = refl
same_closed c (hearing face id keys sd) h = refl
same_closed c (unhearing face id) h = refl

module _ (s : State) (face : ℕ) where
  quiet : (t : TextCall) → is_closing t ≡ false → is_closed (settle s t).core.queries.closed face ≡ is_closed s.core.queries.closed face
  quiet t h = settles_view (λ (z : Core). is_closed z.queries.closed face) (λ places c. refl) s t ∙ by (is_accepted (decide s.core t).outcome)
    where
      by : (b : Bool) → is_closed (cond b (accepted_state s t) s).core.queries.closed face ≡ is_closed s.core.queries.closed face
      by true = ap (λ l. is_closed l face) (same_closed s.core t h)
      by false = refl

  pub call_closed : (c : Call) → is_closed (after s c).core.queries.closed face ≡ (closes face c (step s c) || is_closed s.core.queries.closed face)
  unfolding is_closing
  call_closed (call.Close f) =
      by_granted (λ t z. is_closed z.core.queries.closed face ≡ (closes face (call.Close f) t || is_closed s.core.queries.closed face)) s (closing f) (λ text z w it. it) (λ p places z w it. it)
      (λ h. has_put nat_cmp_total exact_unsigned face f.0 s.core.queries.closed ∙ ap (λ b. b || is_closed s.core.queries.closed face) (number_test face f.0))
      (λ r. refl)
  call_closed (call.Request f r now) = quiet (read s (call.Request f r now)) refl
  call_closed (call.Open o) = quiet (opening o) refl
  call_closed (call.DeclareKeyExpr f id wire) = quiet (read s (call.DeclareKeyExpr f id wire)) refl
  call_closed (call.UndeclareKeyExpr f id) = quiet (read s (call.UndeclareKeyExpr f id)) refl
  call_closed (call.DeclareQueryable f id wire info node) = quiet (read s (call.DeclareQueryable f id wire info node)) (declare_read (λ t. is_closing t ≡ false) s f id wire info node refl refl)
  call_closed (call.UndeclareQueryable f id wire node) = quiet (read s (call.UndeclareQueryable f id wire node)) (withdraw_read (λ t. is_closing t ≡ false) s f id wire node refl refl)
  call_closed (call.Response f r) = quiet (read s (call.Response f r)) refl
  call_closed (call.ResponseFinal f rid) = quiet (ending f rid) refl
  call_closed (call.Sent reply) = quiet (reporting reply) refl
  call_closed (call.Poll now) = quiet (passing now) refl
  call_closed (call.SetGateways r t) = quiet (listing r t) refl
  call_closed (call.Interest f id keys aggregate wire) = quiet (hearing f id (record { keys = keys; aggregate = aggregate }) (said_if f wire s)) refl
  call_closed (call.InterestFinal f id) = quiet (unhearing f id) refl
  call_closed (call.FinalizeInterest f mark set) = quiet (finalizing f mark set) refl
  call_closed (call.SetNetwork r net) = quiet (networking r net) refl
  call_closed (call.SetNodeIds f ids) = quiet (tabling f ids) refl
