-- Only a request hands requests.
use Rattle.std.proofs.Common.{◌≡◌, ◌∙◌, refl, ap, ℕ, Bool, true, false, List, [], ◌∷◌, ◌++◌, map, Option, Some, None, true≢false}
use Rattle.std.specs.List.{cons_option, list_any}
use Rattle.std.specs.Prelude.{◌||◌}
use Rattle.std.specs.Option.{option_map}
use Rattle.std.proofs.lemmas.List.{map-append}
use Rattle.zq_message.specs.declared.message.Response.{Response}
use Rattle.zq_query.specs.declared.records.Final.{Final}
use Rattle.zq_query.specs.declared.records.ReplyTo.{ReplyTo}
use Rattle.zq_query.specs.declared.records.Timeout.{Timeout}
use Rattle.zq_query.specs.Closing.{closing_finals, finals_after, finals_landed}
use Rattle.zq_query.specs.Records.{is_entry, next_reply}
use Rattle.zq_query.specs.Polling.{timeouts}
use Rattle.zq_tables.specs.Naming.{NamingState}
use Rattle.zq_machine.specs.Handing.{Handed}
use Rattle.zq_machine.specs.declared.face.OpenFace.{OpenFace}
use Rattle.zq_machine.specs.State.{Core}
use Rattle.zq_machine.specs.Selecting.{full_text}
use Rattle.zq_machine.specs.TextCalls.{TextCall, opening, closing, naming, unnaming, declaring, withdrawing, asking, replying, ending, reporting, passing, listing, finalizing, announcing, retracting, networking, tabling, hearing, unhearing}
use Rattle.zq_machine.specs.Deciding.{passing_finals, granted, handed_reply, timed_out, handed_replies, handed_timeouts, replied}
use Rattle.zq_machine.specs.Messages.{text_final}
use Rattle.zq_machine.specs.Writing.{write, written}
use Rattle.zq_machine.specs.Headline.{asks}

pub no_finals_ask : (names : NamingState) (fs : List Final) → list_any asks (write names (map text_final fs)) ≡ false
no_finals_ask names [] = refl
no_finals_ask names (f ∷ fs) = no_finals_ask names fs

pub any_both : (p : Handed → Bool) (xs ys : List Handed) → list_any p xs ≡ false → list_any p ys ≡ false → list_any p (xs ++ ys) ≡ false
any_both p [] ys e h = h
any_both p (x ∷ xs) ys e h = by (p x) (list_any p xs) e (any_both p xs ys)
  where
    by : (a b : Bool) → (a || b) ≡ false → (b ≡ false → list_any p ys ≡ false → list_any p (xs ++ ys) ≡ false) → (a || list_any p (xs ++ ys)) ≡ false
    by true b g more = absurd (true≢false g)
    by false b g more = more g h

no_timeouts_ask : (names : NamingState) (faces : List (ℕ × OpenFace)) (ts : List Timeout) → list_any asks (write names (handed_timeouts faces ts)) ≡ false
no_timeouts_ask names faces [] = refl
no_timeouts_ask names faces (t ∷ ts) = by t.reply (no_timeouts_ask names faces ts)
  where
    by : (o : Option ℕ) → list_any asks (write names (handed_timeouts faces ts)) ≡ false → list_any asks (write names (cons_option (option_map (timed_out faces t) o) [] ++ handed_timeouts faces ts)) ≡ false
    by None none = none
    by (Some k) none = none

no_replies_ask : (names : NamingState) (text : List ℕ) (r : Response) (to : ReplyTo) → list_any asks (write names (handed_replies text r to)) ≡ false
no_replies_ask names text r to = by to.reply
  where
    by : (o : Option ℕ) → list_any asks (write names (cons_option (option_map (handed_reply text r to) o) [])) ≡ false
    by None = refl
    by (Some k) = refl

no_replied_asks : (names : NamingState) (text : List ℕ) (r : Response) (o : Option ReplyTo) → list_any asks (write names (replied text r o)) ≡ false
no_replied_asks names text r None = refl
no_replied_asks names text r (Some to) = no_replies_ask names text r to

unfoldable pub is_asking : TextCall → Bool
is_asking (asking face s r now) = true
is_asking (opening o) = false
is_asking (closing face) = false
is_asking (naming face id s x) = false
is_asking (unnaming face id x) = false
is_asking (declaring face id s i n) = false
is_asking (withdrawing face id) = false
is_asking (replying face s r) = false
is_asking (ending face rid) = false
is_asking (reporting reply) = false
is_asking (passing now) = false
is_asking (listing r t) = false
is_asking (finalizing face m set) = false
is_asking (announcing face sd i node) = false
is_asking (retracting face sd node) = false
is_asking (networking r net) = false
is_asking (tabling face ids) = false
is_asking (hearing face id keys sd) = false
is_asking (unhearing face id) = false

pub granted_asks : (names : NamingState) (c : Core) (t : TextCall) → is_asking t ≡ false → list_any asks (write names (granted c t).messages) ≡ false
unfolding is_asking
granted_asks names c (asking face s r now) h = absurd (true≢false h)
granted_asks names c (opening o) h = refl
granted_asks names c (closing face) h = no_finals_ask names (closing_finals face.0 c.queries)
granted_asks names c (naming face id s x) h = refl
granted_asks names c (unnaming face id x) h = refl
granted_asks names c (declaring face id s i n) h = refl
granted_asks names c (withdrawing face id) h = refl
granted_asks names c (replying face s r) h = no_replied_asks names (full_text s) r (next_reply face.0 r.rid c.queries)
granted_asks names c (ending face rid) h = no_finals_ask names (finals_after (is_entry face.0 rid) c.queries.closed c.queries.records)
granted_asks names c (reporting reply) h = no_finals_ask names (finals_landed reply c.queries.closed c.queries.records)
granted_asks names c (passing now) h =
    ap (list_any asks) (map-append (written names) (handed_timeouts c.faces (timeouts now c.queries)) (map text_final (passing_finals now c.queries)))
    ∙ any_both asks (write names (handed_timeouts c.faces (timeouts now c.queries))) (write names (map text_final (passing_finals now c.queries))) (no_timeouts_ask names c.faces (timeouts now c.queries)) (no_finals_ask names (passing_finals now c.queries))
granted_asks names c (listing r t) h = refl
granted_asks names c (finalizing face m set) h = refl
granted_asks names c (announcing face sd i node) h = refl
granted_asks names c (retracting face sd node) h = refl
granted_asks names c (networking r net) h = refl
granted_asks names c (tabling face ids) h = refl
granted_asks names c (hearing face id keys sd) h = refl
granted_asks names c (unhearing face id) h = refl
