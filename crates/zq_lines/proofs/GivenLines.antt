-- What a line says fits.
use Rattle.std.proofs.Common.{ℕ, ◌≤◌, ◌<◌, List, [], ◌∷◌, Option, Some, arith, Bool, true, false, cond}
use Rattle.std.proofs.lemmas.List.Elements.{All-tail, All-drop}
use Rattle.std.specs.Str.{bytes_eq}
use Rattle.std.specs.List.{AllByRecursion}
use Rattle.std.specs.Prelude.{◌==◌, codes, map, filter}
use Rattle.zq_message.specs.declared.message.QueryTarget.{QueryTarget}
use Rattle.zq_message.specs.declared.message.QueryableInfoType.{QueryableInfoType}
use Rattle.zq_strategy.specs.declared.types.FinalMark.TheVariants as mark
use Rattle.zq_io.specs.Words.{len_to, pieces}
use Rattle.zq_io.specs.Values.{most_8, most_16, most_32, most_64, mode_of, bound_of, target_of, flag_of}
use Rattle.zq_io.specs.Fits.{IsBytes, IsText, FitsZid, FitsOption}
use Rattle.zq_lines.specs.declared.lines.Deny.{Deny}
use Rattle.zq_lines.specs.Lines.{deny_side, deny_of, denies_of, at_side, deny_text, opening_of, close_of, key_of, unkey_of, info_at, queryable_of, unqueryable_of, aggregate_of, interest_of, uninterest_of, mark_by, mark_at, finalize_of, manner_at, ask_of, body_by, body_at, by_of, responder_of, reply_of, final_of, sent_of, poll_of, gateways_of, network_of, nodes_of, call_by, other_by, call_of}
use Rattle.zq_lines.specs.Fits.{FitsMark, FitsBody, FitsCall}
use Rattle.zq_lines.proofs.Given.{Given, no_one, one, bind, either, FieldFits, field_given, some_given, free_given, any_given, end_given, number_given, face_given, zid_given, bytes_given, text_given, cut_given, behind_given, wire_given, option_given, region_given, name_given, pieces_bytes, each_given, list_given, zids_given, entry_given, all_given, tree_given}

close_given : (bytes : List ℕ) → IsBytes bytes → Given FitsCall (close_of bytes)
unfolding close_of
close_given bytes a = bind (field_given face_given bytes a) (λ face p. end_given face.1 _ p.value)

key_given : (bytes : List ℕ) → IsBytes bytes → Given FitsCall (key_of bytes)
unfolding key_of
key_given bytes a =
    bind (field_given face_given bytes a) (λ face p. bind (field_given (number_given most_16) face.1 p.rest) (λ id q.
    bind (field_given wire_given id.1 q.rest) (λ wire r. end_given wire.1 _ (record { face = p.value; id = q.value }, r.value))))

unkey_given : (bytes : List ℕ) → IsBytes bytes → Given FitsCall (unkey_of bytes)
unfolding unkey_of
unkey_given bytes a =
    bind (field_given face_given bytes a) (λ face p. bind (field_given (number_given most_16) face.1 p.rest) (λ id q. end_given id.1 _ (record { face = p.value; id = q.value })))

info_given : (bytes : List ℕ) → IsBytes bytes → Given (FieldFits (λ (info : QueryableInfoType). info.distance ≤ most_16)) (info_at bytes)
unfolding info_at
info_given bytes a =
    bind (free_given (flag_of (codes "c") (codes "p")) bytes a) (λ complete p. bind (field_given (number_given most_16) complete.1 p.rest) (λ distance q.
    one (record { value = q.value; rest = q.rest })))

queryable_given : (bytes : List ℕ) → IsBytes bytes → Given FitsCall (queryable_of bytes)
unfolding queryable_of
queryable_given bytes a =
    bind (field_given face_given bytes a) (λ face p. bind (field_given (number_given most_32) face.1 p.rest) (λ id q. bind (field_given wire_given id.1 q.rest) (λ wire r.
    bind (info_given wire.1 r.rest) (λ info s. bind (field_given (number_given most_16) info.1 s.rest) (λ node u.
    end_given node.1 _ (record { face = p.value; id = q.value }, r.value, s.value, u.value))))))

unqueryable_given : (bytes : List ℕ) → IsBytes bytes → Given FitsCall (unqueryable_of bytes)
unfolding unqueryable_of
unqueryable_given bytes a =
    bind (field_given face_given bytes a) (λ face p. bind (field_given (number_given most_32) face.1 p.rest) (λ id q. bind (field_given (option_given wire_given) id.1 q.rest) (λ wire r.
    bind (field_given (number_given most_16) wire.1 r.rest) (λ node u. end_given node.1 _ (record { face = p.value; id = q.value }, r.value, u.value)))))

interest_given : (bytes : List ℕ) → IsBytes bytes → Given FitsCall (interest_of bytes)
unfolding interest_of
interest_given bytes a =
    bind (field_given face_given bytes a) (λ face p. bind (field_given (number_given most_32) face.1 p.rest) (λ id q. bind (field_given (option_given wire_given) id.1 q.rest) (λ wire r.
    bind (free_given (flag_of (codes "k") (codes "n")) wire.1 r.rest) (λ keys u. bind (any_given (aggregate_of keys.1)) (λ aggregate v.
    one (record { face = p.value; id = q.value }, r.value))))))

uninterest_given : (bytes : List ℕ) → IsBytes bytes → Given FitsCall (uninterest_of bytes)
unfolding uninterest_of
uninterest_given bytes a =
    bind (field_given face_given bytes a) (λ face p. bind (field_given (number_given most_32) face.1 p.rest) (λ id q. end_given id.1 _ (record { face = p.value; id = q.value })))

mark_by_given : (kind : Bool) (bytes : List ℕ) → IsBytes bytes → Given (FieldFits FitsMark) (mark_by kind bytes)
unfolding mark_by
mark_by_given true bytes a = bind (field_given text_given bytes a) (λ text p. one {a = (mark.Key text.0, text.1)} (record { value = p.value; rest = p.rest }))
mark_by_given false bytes a = one {a = (mark.Initial, bytes)} (record { value = tt; rest = a })

mark_given : (bytes : List ℕ) → IsBytes bytes → Given (FieldFits FitsMark) (mark_at bytes)
unfolding mark_at
mark_given bytes a = bind (free_given (flag_of (codes "key") (codes "initial")) bytes a) (λ kind p. mark_by_given kind.0 kind.1 p.rest)

finalize_given : (bytes : List ℕ) → IsBytes bytes → Given FitsCall (finalize_of bytes)
unfolding finalize_of
finalize_given bytes a =
    bind (field_given face_given bytes a) (λ face p. bind (mark_given face.1 p.rest) (λ what q. bind (free_given (flag_of (codes "1") (codes "0")) what.1 q.rest) (λ set r.
    end_given set.1 _ (p.value, q.value))))

-- what stands between the expression and the payload
record FitsManner (t : QueryTarget × Option ℕ × ℕ × ℕ × List ℕ) : Type 0 where
  timeout : FitsOption (λ n. n ≤ most_64) t.1
  node : t.2 ≤ most_16
  qos : t.3 ≤ most_8
  rest : IsBytes t.4

manner_given : (bytes : List ℕ) → IsBytes bytes → Given FitsManner (manner_at bytes)
unfolding manner_at
manner_given bytes a =
    bind (free_given target_of bytes a) (λ target p. bind (field_given (option_given (number_given most_64)) target.1 p.rest) (λ timeout q.
    bind (field_given (number_given most_16) timeout.1 q.rest) (λ node r. bind (field_given (number_given most_8) node.1 r.rest) (λ qos s.
    one (record { timeout = q.value; node = r.value; qos = s.value; rest = s.rest })))))

ask_given : (bytes : List ℕ) → IsBytes bytes → Given FitsCall (ask_of bytes)
unfolding ask_of
ask_given bytes a =
    bind (field_given face_given bytes a) (λ face p. bind (field_given (number_given most_32) face.1 p.rest) (λ id q. bind (field_given wire_given id.1 q.rest) (λ wire r.
    bind (manner_given wire.1 r.rest) (λ manner s. bind (field_given bytes_given manner.4 s.rest) (λ payload u. bind (field_given (number_given most_64) payload.1 u.rest) (λ now v.
    end_given now.1 _ (p.value, record { id = q.value; wire = r.value; timeout = s.timeout; node = s.node; qos = s.qos; payload = u.value }, v.value)))))))

body_fits : (ok : Bool) (payload : List ℕ) → IsBytes payload → FitsBody (body_by ok payload)
body_fits true payload a = a
body_fits false payload a = a

body_given : (bytes : List ℕ) → IsBytes bytes → Given (FieldFits FitsBody) (body_at bytes)
unfolding body_at
body_given bytes a =
    bind (free_given (flag_of (codes "ok") (codes "err")) bytes a) (λ kind p. bind (field_given bytes_given kind.1 p.rest) (λ payload q.
    one (record { value = body_fits kind.0 payload.0 q.value; rest = q.rest })))

by_given : (w : List ℕ) → IsBytes w → Given FitsZid (by_of w)
unfolding by_of
by_given w a = bind (cut_given 58 w a) (λ parts p. bind (behind_given (codes "by") parts p) (λ rest q. zid_given rest q))

responder_given : (bytes : List ℕ) → IsBytes bytes → Given (FitsOption FitsZid) (responder_of bytes)
unfolding responder_of
responder_given [] a = one {P = FitsOption FitsZid} tt
responder_given (b ∷ bytes) a = bind (field_given by_given (b ∷ bytes) a) (λ zid p. end_given {P = FitsOption FitsZid} zid.1 (Some zid.0) p.value)

reply_given : (bytes : List ℕ) → IsBytes bytes → Given FitsCall (reply_of bytes)
unfolding reply_of
reply_given bytes a =
    bind (field_given face_given bytes a) (λ face p. bind (field_given (number_given most_32) face.1 p.rest) (λ id q. bind (field_given wire_given id.1 q.rest) (λ wire r.
    bind (body_given wire.1 r.rest) (λ payload s. bind (responder_given payload.1 s.rest) (λ responder u.
    one (p.value, record { rid = q.value; wire = r.value; qos = omega arith; payload = s.value; responder = u }))))))

final_given : (bytes : List ℕ) → IsBytes bytes → Given FitsCall (final_of bytes)
unfolding final_of
final_given bytes a =
    bind (field_given face_given bytes a) (λ face p. bind (field_given (number_given most_32) face.1 p.rest) (λ id q. end_given id.1 _ (record { face = p.value; id = q.value })))

sent_given : (bytes : List ℕ) → IsBytes bytes → Given FitsCall (sent_of bytes)
unfolding sent_of
sent_given bytes a = bind (field_given (number_given most_64) bytes a) (λ reply p. end_given reply.1 _ p.value)

poll_given : (bytes : List ℕ) → IsBytes bytes → Given FitsCall (poll_of bytes)
unfolding poll_of
poll_given bytes a = bind (field_given (number_given most_64) bytes a) (λ now p. end_given now.1 _ p.value)

gateways_given : (bytes : List ℕ) → IsBytes bytes → Given FitsCall (gateways_of bytes)
unfolding gateways_of
gateways_given bytes a =
    bind (field_given region_given bytes a) (λ region p. bind (field_given (list_given 59 entry_given) region.1 p.rest) (λ entries q.
    bind (field_given all_given entries.1 q.rest) (λ others r. end_given others.1 _ (p.value, record { of = q.value; all = r.value }))))

network_given : (bytes : List ℕ) → IsBytes bytes → Given FitsCall (network_of bytes)
unfolding network_of
network_given bytes a =
    bind (field_given region_given bytes a) (λ region p. bind (field_given zids_given region.1 p.rest) (λ nodes q. bind (field_given (list_given 59 tree_given) nodes.1 q.rest) (λ trees r.
    bind (field_given (list_given 44 (number_given most_16)) trees.1 r.rest) (λ distances s.
    end_given distances.1 _ (p.value, record { nodes = q.value; trees = r.value; distances = s.value })))))

nodes_given : (bytes : List ℕ) → IsBytes bytes → Given FitsCall (nodes_of bytes)
unfolding nodes_of
nodes_given bytes a = bind (field_given face_given bytes a) (λ face p. bind (field_given zids_given face.1 p.rest) (λ ids q. end_given ids.1 _ (p.value, q.value)))

-- the items of the two lists
abbrev FitsDeny : Deny → Type 0
FitsDeny d = IsText d.text

deny_given : (w : List ℕ) → IsBytes w → Given FitsDeny (deny_of w)
unfolding deny_of
deny_given w a = bind (cut_given 58 w a) (λ parts p. bind (any_given (deny_side parts.0)) (λ entry u. bind (text_given parts.1 p.rest) (λ text v. one {P = FitsDeny} v)))

denies_given : (bytes : List ℕ) → IsBytes bytes → Given (AllByRecursion FitsDeny) (denies_of bytes)
denies_given [] a = one {P = AllByRecursion FitsDeny} {a = []} tt
denies_given (b ∷ bytes) a = either (b == 32) _ _ (λ e. each_given deny_given (pieces 32 bytes) (pieces_bytes 32 bytes (All-tail (λ b. b < 256) b bytes a))) no_one

side_by : (t : Bool) (d : Deny) (ds : List Deny) → FitsDeny d → AllByRecursion IsText (map deny_text ds) → AllByRecursion IsText (map deny_text (cond t (d ∷ ds) ds))
side_by true d ds f a = (f, a)
side_by false d ds f a = a

side_fits : (p : Deny → Bool) (ds : List Deny) → AllByRecursion FitsDeny ds → AllByRecursion IsText (map deny_text (filter p ds))
side_fits p [] a = tt
side_fits p (d ∷ ds) a = side_by (p d) d (filter p ds) a.0 (side_fits p ds a.1)

opening_given : (bytes : List ℕ) → IsBytes bytes → Given FitsCall (opening_of bytes)
unfolding opening_of
opening_given bytes a =
    bind (field_given region_given bytes a) (λ region p. bind (field_given zid_given region.1 p.rest) (λ zid q. bind (free_given mode_of zid.1 q.rest) (λ strategy r.
    bind (free_given bound_of strategy.1 r.rest) (λ remote s. bind (some_given name_given remote.1 s.rest) (λ namespace u. bind (denies_given namespace.1 u.rest) (λ denies v.
    one (record { region = p.value; zid = q.value; namespace = u.value; entry_deny = side_fits (at_side true) denies v; exit_deny = side_fits (at_side false) denies v })))))))

-- the call of a line
other_given : (head bytes : List ℕ) → IsBytes bytes → Given FitsCall (other_by head bytes)
unfolding other_by
other_given head bytes a =
    either (bytes_eq head (codes "open")) _ _ (λ e. opening_given bytes a)
    (either (bytes_eq head (codes "close")) _ _ (λ e. close_given bytes a)
    (either (bytes_eq head (codes "interest")) _ _ (λ e. interest_given bytes a)
    (either (bytes_eq head (codes "uninterest")) _ _ (λ e. uninterest_given bytes a)
    (either (bytes_eq head (codes "finalize")) _ _ (λ e. finalize_given bytes a)
    (either (bytes_eq head (codes "gateways")) _ _ (λ e. gateways_given bytes a)
    (either (bytes_eq head (codes "network")) _ _ (λ e. network_given bytes a)
    (either (bytes_eq head (codes "nodes")) _ _ (λ e. nodes_given bytes a)
    no_one)))))))

named_given : (head bytes : List ℕ) → IsBytes bytes → Given FitsCall (call_by head bytes)
unfolding call_by
named_given head bytes a =
    either (bytes_eq head (codes "ask")) _ _ (λ e. ask_given bytes a)
    (either (bytes_eq head (codes "reply")) _ _ (λ e. reply_given bytes a)
    (either (bytes_eq head (codes "final")) _ _ (λ e. final_given bytes a)
    (either (bytes_eq head (codes "sent")) _ _ (λ e. sent_given bytes a)
    (either (bytes_eq head (codes "poll")) _ _ (λ e. poll_given bytes a)
    (either (bytes_eq head (codes "queryable")) _ _ (λ e. queryable_given bytes a)
    (either (bytes_eq head (codes "unqueryable")) _ _ (λ e. unqueryable_given bytes a)
    (either (bytes_eq head (codes "key")) _ _ (λ e. key_given bytes a)
    (either (bytes_eq head (codes "unkey")) _ _ (λ e. unkey_given bytes a)
    (other_given head bytes a)))))))))

pub call_given : (line : List ℕ) → IsBytes line → Given FitsCall (call_of line)
call_given line a = named_given _ _ (All-drop (λ b. b < 256) (len_to 32 line) line a)
