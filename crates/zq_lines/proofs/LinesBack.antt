-- A written call reads back.
use Rattle.std.proofs.Common.{◌≡◌, ℕ, ◌≤◌, ◌<◌, ◌^◌, List, [], ◌∷◌, ◌++◌, Option, Some, None, refl, ap, ◌∙◌, sym, arith, length, Bool, true, false, append_assoc}
use Rattle.std.proofs.lemmas.List.{append-nil}
use Rattle.std.specs.Prelude.{codes, map, filter}
use Rattle.std.specs.Str.{bytes_eq}
use Rattle.std.specs.Fmt.{decimal}
use Rattle.std.specs.List.{AllByRecursion, flat_map}
use Rattle.zq_message.specs.declared.message.FaceId.{FaceId}
use Rattle.zq_message.specs.declared.message.Zid.{Zid}
use Rattle.zq_message.specs.declared.message.WireExpr.{WireExpr}
use Rattle.zq_message.specs.declared.message.QueryableInfoType.{QueryableInfoType}
use Rattle.zq_message.specs.declared.message.Region.{Region}
use Rattle.zq_route.specs.declared.gateways.Gateways.{Gateways}
use Rattle.zq_strategy.specs.declared.network.Network.{Network}
use Rattle.zq_strategy.specs.declared.network.NodeIds.{NodeIds}
use Rattle.zq_message.specs.declared.message.Request.{Request}
use Rattle.zq_message.specs.declared.message.Response.{Response}
use Rattle.zq_message.specs.declared.message.ReplyBody.{ReplyBody}
use Rattle.zq_message.specs.declared.message.ReplyBody.TheVariants as body
use Rattle.zq_strategy.specs.declared.types.FinalMark.{FinalMark}
use Rattle.zq_strategy.specs.declared.types.FinalMark.TheVariants as mark
use Rattle.zq_machine.specs.declared.call.Opening.{Opening}
use Rattle.zq_lines.specs.declared.lines.Deny.{Deny}
use Rattle.zq_machine.specs.declared.call.Call.{Call}
use Rattle.zq_machine.specs.declared.call.Call.TheVariants as call
use Rattle.zq_io.specs.Words.{◌>>=◌, field, lacks, bytes_of, number, read_at, text_of, payload_of, payload_word, list_word, option_of, option_word}
use Rattle.zq_io.specs.Values.{most_8, most_16, most_32, most_64, flag_of, flag_word, face_word, zid_word, wire_of, wire_word, target_word, region_word, mode_word, bound_word, zids_word, all_word}
use Rattle.zq_lines.specs.Tables.{entry_word, tree_word}
use Rattle.zq_lines.specs.Lines.{deny_of, denies_of, at_side, deny_text, opening_of, close_of, key_of, unkey_of, info_at, queryable_of, unqueryable_of, aggregate_of, interest_of, uninterest_of, mark_by, mark_at, finalize_of, manner_at, ask_of, body_at, by_of, responder_of, reply_of, final_of, sent_of, poll_of, gateways_of, network_of, nodes_of, call_by, other_by, by_first, call_of}
use Rattle.zq_lines.specs.CallLines.{aggregate_words, deny_item, denies_words, info_words, mark_words, body_words, by_words, call_words}
use Rattle.zq_io.specs.Fits.{IsText, IsBytes, FitsFace, FitsZid, FitsWire, FitsOption, FitsRegion}
use Rattle.zq_lines.specs.Fits.{IsNamespace, FitsOpening, FitsIds, FitsRequest, FitsResponse, FitsBody, FitsMark, FitsGateways, FitsNetwork, FitsCall}
use Rattle.zq_io.proofs.Back.{lacks_append, len_stop, take_front, drop_front, Ends, Reads, then, read_back, number_reads, text_reads, text_back, same_bytes, payload_back, payload_lacks, payload_some, space_escaped}
use Rattle.zq_io.proofs.Lists.{Piece, each_back, OptionReads, option_reads}
use Rattle.zq_io.proofs.ValuesBack.{face_reads, mode_reads, bound_reads, zid_reads, wire_reads, target_reads, region_reads, zids_reads, numbers_reads, all_reads}
use Rattle.zq_lines.proofs.TablesBack.{entries_reads, trees_reads}

pub then_last : {X Y : Type 0} {read : List ℕ → Option X} {w : List ℕ} {x : X} {y : Y} (f : X × List ℕ → Option Y) → Reads read w x → f (x, []) ≡ Some y → (read_at read (32 ∷ w) >>= f) ≡ Some y
then_last {read = read} {w = w} f r k =
    let e : read_at read (32 ∷ w) ≡ read_at read (32 ∷ w ++ []) = ap (λ v. read_at read (32 ∷ v)) (sym (append-nil w)) in
    rw (e, read_back r [] tt) k

pub flag_reads : (first other : List ℕ) (b : Bool) → Reads (flag_of first other) first true → Reads (flag_of first other) other false → Reads (flag_of first other) (flag_word first other b) b
flag_reads first other true r s = r
flag_reads first other false r s = s

-- the first word of a line
pub first_back : {X : Type 0} (read : List ℕ → List ℕ → Option X) (name rest : List ℕ) → lacks 32 name ≡ true → by_first read (name ++ 32 ∷ rest) ≡ read name (32 ∷ rest)
first_back read name rest e = rw (len_stop 32 name rest e, take_front name (32 ∷ rest), drop_front name (32 ∷ rest)) refl

final_back : (face : FaceId) (rid : ℕ) → FitsIds face rid most_32 → final_of (field (face_word face) ++ field (decimal rid)) ≡ Some (call.ResponseFinal face rid)
unfolding final_of
final_back face rid f = then _ (face_reads face f.face) refl (then_last _ (number_reads most_32 rid f.id (omega arith)) refl)

close_back : (face : FaceId) → FitsFace face → close_of (field (face_word face)) ≡ Some (call.Close face)
unfolding close_of
close_back face f = then_last _ (face_reads face f) refl

key_back : (face : FaceId) (id : ℕ) (wire : WireExpr) → FitsIds face id most_16 → FitsWire wire → key_of (field (face_word face) ++ (field (decimal id) ++ (field (wire_word wire)))) ≡ Some (call.DeclareKeyExpr face id wire)
unfolding key_of
key_back face id wire f g = then _ (face_reads face f.face) refl (then _ (number_reads most_16 id f.id (omega arith)) refl (then_last _ (wire_reads wire g) refl))

unkey_back : (face : FaceId) (id : ℕ) → FitsIds face id most_16 → unkey_of (field (face_word face) ++ field (decimal id)) ≡ Some (call.UndeclareKeyExpr face id)
unfolding unkey_of
unkey_back face id f = then _ (face_reads face f.face) refl (then_last _ (number_reads most_16 id f.id (omega arith)) refl)

uninterest_back : (face : FaceId) (id : ℕ) → FitsIds face id most_32 → uninterest_of (field (face_word face) ++ field (decimal id)) ≡ Some (call.InterestFinal face id)
unfolding uninterest_of
uninterest_back face id f = then _ (face_reads face f.face) refl (then_last _ (number_reads most_32 id f.id (omega arith)) refl)

sent_back : (n : ℕ) → n ≤ most_64 → sent_of (field (decimal n)) ≡ Some (call.Sent n)
unfolding sent_of
sent_back n f = then_last _ (number_reads most_64 n f (omega arith)) refl

poll_back : (n : ℕ) → n ≤ most_64 → poll_of (field (decimal n)) ≡ Some (call.Poll n)
unfolding poll_of
poll_back n f = then_last _ (number_reads most_64 n f (omega arith)) refl

pub c_reads : (b : Bool) → Reads (flag_of (codes "c") (codes "p")) (flag_word (codes "c") (codes "p") b) b
c_reads b = flag_reads (codes "c") (codes "p") b (record { whole = refl; some = omega arith; value = refl }) (record { whole = refl; some = omega arith; value = refl })

pub k_reads : (b : Bool) → Reads (flag_of (codes "k") (codes "n")) (flag_word (codes "k") (codes "n") b) b
k_reads b = flag_reads (codes "k") (codes "n") b (record { whole = refl; some = omega arith; value = refl }) (record { whole = refl; some = omega arith; value = refl })

set_reads : (b : Bool) → Reads (flag_of (codes "1") (codes "0")) (flag_word (codes "1") (codes "0") b) b
set_reads b = flag_reads (codes "1") (codes "0") b (record { whole = refl; some = omega arith; value = refl }) (record { whole = refl; some = omega arith; value = refl })

-- a reader of several fields, and then the others
pub on : {X Y : Type 0} {o : Option X} {x : X} {y : Y} (f : X → Option Y) → o ≡ Some x → f x ≡ Some y → (o >>= f) ≡ Some y
on f e k = rw e k

pub info_back : (info : QueryableInfoType) (rest : List ℕ) → info.distance ≤ most_16 → Ends rest → info_at (info_words info ++ rest) ≡ Some (info, rest)
unfolding info_at
info_back info rest f e = ap info_at (append_assoc (field (flag_word (codes "c") (codes "p") info.complete)) (field (decimal info.distance)) rest) ∙ then _ (c_reads info.complete) refl (then _ (number_reads most_16 info.distance f (omega arith)) e refl)

queryable_back : (face : FaceId) (id : ℕ) (wire : WireExpr) (info : QueryableInfoType) (node : ℕ) → FitsIds face id most_32 → FitsWire wire → info.distance ≤ most_16 → node ≤ most_16
    → queryable_of (field (face_word face) ++ (field (decimal id) ++ (field (wire_word wire) ++ ((info_words info) ++ (field (decimal node)))))) ≡ Some (call.DeclareQueryable face id wire info node)
unfolding queryable_of
queryable_back face id wire info node f g d n = then _ (face_reads face f.face) refl (then _ (number_reads most_32 id f.id (omega arith)) refl (then _ (wire_reads wire g) refl
    (on _ (info_back info (field (decimal node)) d refl) (then_last _ (number_reads most_16 node n (omega arith)) refl))))

wires : (o : Option WireExpr) → FitsOption FitsWire o → OptionReads wire_of wire_word o
wires None f = tt
wires (Some w) f = wire_reads w f

pub option_wire : (o : Option WireExpr) → FitsOption FitsWire o → Reads (option_of wire_of) (option_word wire_word o) o
unfolding wire_of
option_wire o f = option_reads wire_of wire_word o refl (wires o f)

unqueryable_back : (face : FaceId) (id : ℕ) (wire : Option WireExpr) (node : ℕ) → FitsIds face id most_32 → FitsOption FitsWire wire → node ≤ most_16
    → unqueryable_of (field (face_word face) ++ (field (decimal id) ++ (field (option_word wire_word wire) ++ (field (decimal node))))) ≡ Some (call.UndeclareQueryable face id wire node)
unfolding unqueryable_of
unqueryable_back face id wire node f g n = then _ (face_reads face f.face) refl (then _ (number_reads most_32 id f.id (omega arith)) refl (then _ (option_wire wire g) refl (then_last _ (number_reads most_16 node n (omega arith)) refl)))

pub aggregate_back : (aggregate : Bool) → aggregate_of (aggregate_words aggregate) ≡ Some aggregate
unfolding aggregate_of
aggregate_back false = refl
aggregate_back true = refl

pub aggregate_ends : (aggregate : Bool) → Ends (aggregate_words aggregate)
aggregate_ends false = tt
aggregate_ends true = refl

interest_back : (face : FaceId) (id : ℕ) (keys aggregate : Bool) (wire : Option WireExpr) → FitsIds face id most_32 → FitsOption FitsWire wire
    → interest_of (field (face_word face) ++ (field (decimal id) ++ (field (option_word wire_word wire) ++ (field (flag_word (codes "k") (codes "n") keys) ++ aggregate_words aggregate)))) ≡ Some (call.Interest face id keys aggregate wire)
unfolding interest_of
interest_back face id keys aggregate wire f g =
    then _ (face_reads face f.face) refl (then _ (number_reads most_32 id f.id (omega arith)) refl (then _ (option_wire wire g) refl
    (then _ (k_reads keys) (aggregate_ends aggregate) (on _ (aggregate_back aggregate) refl))))

-- words that are joined from the left, joined from the right
pub nest3 : (n a b c : List ℕ) → ((n ++ a) ++ b) ++ c ≡ n ++ (a ++ (b ++ c))
nest3 n a b c = append_assoc (n ++ a) b c ∙ append_assoc n a (b ++ c)

pub nest4 : (n a b c d : List ℕ) → (((n ++ a) ++ b) ++ c) ++ d ≡ n ++ (a ++ (b ++ (c ++ (d))))
nest4 n a b c d = nest3 (n ++ a) b c d ∙ append_assoc n a (b ++ (c ++ (d)))

pub nest5 : (n a b c d e : List ℕ) → ((((n ++ a) ++ b) ++ c) ++ d) ++ e ≡ n ++ (a ++ (b ++ (c ++ (d ++ (e)))))
nest5 n a b c d e = nest4 (n ++ a) b c d e ∙ append_assoc n a (b ++ (c ++ (d ++ (e))))

pub nest6 : (n a b c d e f : List ℕ) → (((((n ++ a) ++ b) ++ c) ++ d) ++ e) ++ f ≡ n ++ (a ++ (b ++ (c ++ (d ++ (e ++ (f))))))
nest6 n a b c d e f = nest5 (n ++ a) b c d e f ∙ append_assoc n a (b ++ (c ++ (d ++ (e ++ (f)))))

pub nest7 : (n a b c d e f g : List ℕ) → ((((((n ++ a) ++ b) ++ c) ++ d) ++ e) ++ f) ++ g ≡ n ++ (a ++ (b ++ (c ++ (d ++ (e ++ (f ++ (g)))))))
nest7 n a b c d e f g = nest6 (n ++ a) b c d e f g ∙ append_assoc n a (b ++ (c ++ (d ++ (e ++ (f ++ (g))))))

nest8 : (n a b c d e f g h : List ℕ) → (((((((n ++ a) ++ b) ++ c) ++ d) ++ e) ++ f) ++ g) ++ h ≡ n ++ (a ++ (b ++ (c ++ (d ++ (e ++ (f ++ (g ++ (h))))))))
nest8 n a b c d e f g h = nest7 (n ++ a) b c d e f g h ∙ append_assoc n a (b ++ (c ++ (d ++ (e ++ (f ++ (g ++ (h)))))))

nest9 : (n a b c d e f g h i : List ℕ) → ((((((((n ++ a) ++ b) ++ c) ++ d) ++ e) ++ f) ++ g) ++ h) ++ i ≡ n ++ (a ++ (b ++ (c ++ (d ++ (e ++ (f ++ (g ++ (h ++ (i)))))))))
nest9 n a b c d e f g h i = nest8 (n ++ a) b c d e f g h i ∙ append_assoc n a (b ++ (c ++ (d ++ (e ++ (f ++ (g ++ (h ++ (i))))))))

pub bytes_reads : (bytes : List ℕ) → IsBytes bytes → Reads bytes_of (payload_word bytes) bytes
bytes_reads bytes f = record { whole = payload_lacks 32 bytes (omega arith) space_escaped; some = payload_some bytes; value = ap Some (payload_back bytes f) }

numbers : (most : ℕ) (o : Option ℕ) → most < 10 ^ 64 → FitsOption (λ n. n ≤ most) o → OptionReads (number most) decimal o
numbers most None l f = tt
numbers most (Some n) l f = number_reads most n f l

pub option_number : (most : ℕ) (o : Option ℕ) → most < 10 ^ 64 → FitsOption (λ n. n ≤ most) o → Reads (option_of (number most)) (option_word decimal o) o
option_number most o l f = option_reads (number most) decimal o refl (numbers most o l f)

pub manner_back : (r : Request) (rest : List ℕ) → FitsRequest r → Ends rest → manner_at (field (target_word r.target) ++ (field (option_word decimal r.timeout) ++ (field (decimal r.node) ++ (field (decimal r.qos) ++ rest)))) ≡ Some (r.target, r.timeout, r.node, r.qos, rest)
unfolding manner_at
manner_back r rest f e =
    then _ (target_reads r.target) refl (then _ (option_number most_64 r.timeout (omega arith) f.timeout) refl
    (then _ (number_reads most_16 r.node f.node (omega arith)) refl (then _ (number_reads most_8 r.qos f.qos (omega arith)) e refl)))

ask_back : (face : FaceId) (r : Request) (now : ℕ) → FitsFace face → FitsRequest r → now ≤ most_64
    → ask_of (field (face_word face) ++ (field (decimal r.id) ++ (field (wire_word r.wire) ++ (field (target_word r.target) ++ (field (option_word decimal r.timeout) ++ (field (decimal r.node) ++ (field (decimal r.qos) ++ (field (payload_word r.payload) ++ field (decimal now))))))))) ≡ Some (call.Request face r now)
unfolding ask_of
ask_back face r now f g n =
    then _ (face_reads face f) refl (then _ (number_reads most_32 r.id g.id (omega arith)) refl (then _ (wire_reads r.wire g.wire) refl
    (on _ (manner_back r _ g refl) (then _ (bytes_reads r.payload g.payload) refl (then_last _ (number_reads most_64 now n (omega arith)) refl)))))

key_mark : Reads (flag_of (codes "key") (codes "initial")) (codes "key") true
key_mark = record { whole = refl; some = omega arith; value = refl }

initial_mark : Reads (flag_of (codes "key") (codes "initial")) (codes "initial") false
initial_mark = record { whole = refl; some = omega arith; value = refl }

mark_back : (m : FinalMark) (rest : List ℕ) → FitsMark m → Ends rest → mark_at (mark_words m ++ rest) ≡ Some (m, rest)
unfolding mark_at mark_by
mark_back mark.Initial rest f e = then _ initial_mark e refl
mark_back (mark.Key text) rest f e = ap mark_at (append_assoc (field (codes "key")) (field (payload_word text)) rest) ∙ then _ key_mark refl (then _ (text_reads text f) e refl)

mark_ends : (m : FinalMark) (rest : List ℕ) → Ends (mark_words m ++ rest)
mark_ends mark.Initial rest = refl
mark_ends (mark.Key text) rest = refl

finalize_back : (face : FaceId) (m : FinalMark) (set : Bool) → FitsFace face → FitsMark m → finalize_of (field (face_word face) ++ (mark_words m ++ field (flag_word (codes "1") (codes "0") set))) ≡ Some (call.FinalizeInterest face m set)
unfolding finalize_of
finalize_back face m set f g = then _ (face_reads face f) (mark_ends m _) (on _ (mark_back m _ g refl) (then_last _ (set_reads set) refl))

ok_body : Reads (flag_of (codes "ok") (codes "err")) (codes "ok") true
ok_body = record { whole = refl; some = omega arith; value = refl }

err_body : Reads (flag_of (codes "ok") (codes "err")) (codes "err") false
err_body = record { whole = refl; some = omega arith; value = refl }

pub body_back : (b : ReplyBody) (rest : List ℕ) → FitsBody b → Ends rest → body_at (body_words b ++ rest) ≡ Some (b, rest)
unfolding body_at
body_back (body.Reply payload) rest f e = ap body_at (append_assoc (field (codes "ok")) (field (payload_word payload)) rest) ∙ then _ ok_body refl (then _ (bytes_reads payload f) e refl)
body_back (body.Err payload) rest f e = ap body_at (append_assoc (field (codes "err")) (field (payload_word payload)) rest) ∙ then _ err_body refl (then _ (bytes_reads payload f) e refl)

pub body_ends : (b : ReplyBody) (rest : List ℕ) → Ends (body_words b ++ rest)
body_ends (body.Reply payload) rest = refl
body_ends (body.Err payload) rest = refl

by_reads : (zid : Zid) → FitsZid zid → Reads by_of (codes "by:" ++ zid_word zid) zid
unfolding by_of
by_reads zid f =
    let r = zid_reads zid f in
    record { whole = lacks_append 32 (codes "by:") (zid_word zid) refl r.whole; some = omega arith; value = rw r.value refl }

responder_back : (o : Option Zid) → FitsOption FitsZid o → responder_of (by_words o) ≡ Some o
unfolding responder_of
responder_back None f = refl
responder_back (Some zid) f = then_last _ (by_reads zid f) refl

by_ends : (o : Option Zid) → Ends (by_words o)
by_ends None = tt
by_ends (Some zid) = refl

zero_qos : (face : FaceId) (r : Response) → r.qos ≡ 0 → Some (call.Response face (record { rid = r.rid; wire = r.wire; qos = 0; payload = r.payload; responder = r.responder })) ≡ Some (call.Response face r)
zero_qos face r e = ap (λ (q : ℕ). Some (call.Response face (record { rid = r.rid; wire = r.wire; qos = q; payload = r.payload; responder = r.responder }))) (sym e)

reply_back : (face : FaceId) (r : Response) → FitsFace face → FitsResponse 0 r
    → reply_of (field (face_word face) ++ (field (decimal r.rid) ++ (field (wire_word r.wire) ++ (body_words r.payload ++ by_words r.responder)))) ≡ Some (call.Response face r)
unfolding reply_of
reply_back face r f g =
    then _ (face_reads face f) refl (then _ (number_reads most_32 r.rid g.rid (omega arith)) refl (then _ (wire_reads r.wire g.wire) (body_ends r.payload _)
    (on _ (body_back r.payload _ g.payload (by_ends r.responder)) (on _ (responder_back r.responder g.responder) (zero_qos face r (omega (arith, g.qos)))))))

gateways_back : (r : Region) (t : Gateways) → FitsRegion r → FitsGateways t → gateways_of (field (region_word r) ++ (field (list_word 59 entry_word t.of) ++ field (all_word t.all))) ≡ Some (call.SetGateways r t)
unfolding gateways_of
gateways_back r t f g = then _ (region_reads r f) refl (then _ (entries_reads t.of g.of) refl (then_last _ (all_reads t.all g.all) refl))

network_back : (r : Region) (t : Network) → FitsRegion r → FitsNetwork t → network_of (field (region_word r) ++ (field (zids_word t.nodes) ++ (field (list_word 59 tree_word t.trees) ++ field (list_word 44 decimal t.distances)))) ≡ Some (call.SetNetwork r t)
unfolding network_of
network_back r t f g = then _ (region_reads r f) refl (then _ (zids_reads t.nodes g.nodes) refl (then _ (trees_reads t.trees g.trees) refl (then_last _ (numbers_reads most_16 t.distances (omega arith) g.distances) refl)))

nodes_back : (face : FaceId) (t : NodeIds) → FitsFace face → AllByRecursion FitsZid t.ids → nodes_of (field (face_word face) ++ field (zids_word t.ids)) ≡ Some (call.SetNodeIds face t)
unfolding nodes_of
nodes_back face t f g = then _ (face_reads face f) refl (then_last _ (zids_reads t.ids g) refl)

-- the entries of the two lists, as they are read
exits : List (List ℕ) → List Deny
exits [] = []
exits (t ∷ ts) = record { entry = false; text = t } ∷ exits ts

entries : List (List ℕ) → List (List ℕ) → List Deny
entries [] ex = exits ex
entries (t ∷ ts) ex = record { entry = true; text = t } ∷ entries ts ex

deny_word : Deny → List ℕ
deny_word d = flag_word (codes "in") (codes "out") d.entry ++ 58 ∷ payload_word d.text

deny_field : Deny → List ℕ
deny_field d = 32 ∷ deny_word d

words_exits : (ts : List (List ℕ)) → flat_map (deny_item (codes "out:")) ts ≡ flat_map deny_field (exits ts)
unfolding exits deny_field deny_word
words_exits [] = refl
words_exits (t ∷ ts) = ap (λ x. deny_item (codes "out:") t ++ x) (words_exits ts)

words_entries : (ts ex : List (List ℕ)) → denies_words ts ex ≡ flat_map deny_field (entries ts ex)
unfolding entries deny_field deny_word
words_entries [] ex = words_exits ex
words_entries (t ∷ ts) ex = append_assoc (deny_item (codes "in:") t) (flat_map (deny_item (codes "in:")) ts) (flat_map (deny_item (codes "out:")) ex) ∙ ap (λ x. deny_item (codes "in:") t ++ x) (words_entries ts ex)

deny_lacks : (name t : List ℕ) → lacks 32 name ≡ true → lacks 32 (name ++ payload_word t) ≡ true
deny_lacks name t e = lacks_append 32 name (payload_word t) e (payload_lacks 32 t (omega arith) space_escaped)

deny_by : (b : Bool) (t : List ℕ) → IsText t → Piece 32 deny_of deny_word (record { entry = b; text = t })
unfolding deny_of deny_word
deny_by true t f = record { apart = deny_lacks (codes "in:") t refl; whole = deny_lacks (codes "in:") t refl; some = omega arith; value = rw (text_back t f) refl }
deny_by false t f = record { apart = deny_lacks (codes "out:") t refl; whole = deny_lacks (codes "out:") t refl; some = omega arith; value = rw (text_back t f) refl }

deny_piece : (d : Deny) → IsText d.text → Piece 32 deny_of deny_word d
unfolding deny_of deny_word
deny_piece d f = deny_by d.entry d.text f

exit_pieces : (ts : List (List ℕ)) → AllByRecursion IsText ts → AllByRecursion (Piece 32 deny_of deny_word) (exits ts)
unfolding exits
exit_pieces [] a = tt
exit_pieces (t ∷ ts) a = (deny_piece _ a.0, exit_pieces ts a.1)

entry_pieces : (ts ex : List (List ℕ)) → AllByRecursion IsText ts → AllByRecursion IsText ex → AllByRecursion (Piece 32 deny_of deny_word) (entries ts ex)
unfolding entries
entry_pieces [] ex a b = exit_pieces ex b
entry_pieces (t ∷ ts) ex a b = (deny_piece _ a.0, entry_pieces ts ex a.1 b)

denies_read : (ds : List Deny) → AllByRecursion (Piece 32 deny_of deny_word) ds → denies_of (flat_map deny_field ds) ≡ Some ds
unfolding deny_field
denies_read [] a = refl
denies_read (d ∷ ds) a = each_back 32 deny_of deny_word d ds a

denies_back : (ts ex : List (List ℕ)) → AllByRecursion IsText ts → AllByRecursion IsText ex → denies_of (denies_words ts ex) ≡ Some (entries ts ex)
denies_back ts ex a b = ap denies_of (words_entries ts ex) ∙ denies_read (entries ts ex) (entry_pieces ts ex a b)

none_at_entry : (ts : List (List ℕ)) → map deny_text (filter (at_side true) (exits ts)) ≡ []
unfolding exits
none_at_entry [] = refl
none_at_entry (t ∷ ts) = none_at_entry ts

all_at_exit : (ts : List (List ℕ)) → map deny_text (filter (at_side false) (exits ts)) ≡ ts
unfolding exits
all_at_exit [] = refl
all_at_exit (t ∷ ts) = ap (λ x. t ∷ x) (all_at_exit ts)

entry_part : (ts ex : List (List ℕ)) → map deny_text (filter (at_side true) (entries ts ex)) ≡ ts
unfolding entries
entry_part [] ex = none_at_entry ex
entry_part (t ∷ ts) ex = ap (λ x. t ∷ x) (entry_part ts ex)

exit_part : (ts ex : List (List ℕ)) → map deny_text (filter (at_side false) (entries ts ex)) ≡ ex
unfolding entries
exit_part [] ex = all_at_exit ex
exit_part (t ∷ ts) ex = exit_part ts ex

denies_ends : (ts ex : List (List ℕ)) → Ends (denies_words ts ex)
denies_ends [] [] = tt
denies_ends [] (t ∷ ex) = refl
denies_ends (t ∷ ts) ex = refl

-- a namespace isn't written as a dash
name_by : (t : List ℕ) (b : Bool) → IsNamespace t → bytes_eq (payload_word t) (codes "-") ≡ b → b ≡ false
name_by t true f e =
    let nil : t ≡ [] = sym (payload_back t f.text.small) ∙ ap payload_of (same_bytes (payload_word t) (codes "-") e) in
    absurd (omega (arith, f.some, ap length nil))
name_by t false f e = refl

name_differs : (t : List ℕ) → IsNamespace t → bytes_eq (payload_word t) (codes "-") ≡ false
name_differs t f = let b = bytes_eq (payload_word t) (codes "-") in name_by t b f refl

pub option_plain : {X : Type 0} (read : List ℕ → Option X) (w : List ℕ) (x : X) → bytes_eq w (codes "-") ≡ false → read w ≡ Some x → option_of read w ≡ Some (Some x)
option_plain read w x e f = rw (e, f) refl

name_reads : (o : Option (List ℕ)) → FitsOption IsNamespace o → Reads (option_of text_of) (option_word payload_word o) o
name_reads None f = record { whole = refl; some = omega arith; value = refl }
name_reads (Some t) f =
    let r = text_reads t f.text in
    record { whole = r.whole; some = r.some; value = option_plain text_of (payload_word t) t (name_differs t f) r.value }

same_opening : (o : Opening) (ts ex : List (List ℕ)) → ts ≡ o.entry_deny → ex ≡ o.exit_deny
    → Some (call.Open (record { region = o.region; zid = o.zid; mode = o.mode; remote_bound = o.remote_bound; namespace = o.namespace; entry_deny = ts; exit_deny = ex })) ≡ Some (call.Open o)
same_opening o ts ex e f =
    ap (λ (x : List (List ℕ)). Some (call.Open (record { region = o.region; zid = o.zid; mode = o.mode; remote_bound = o.remote_bound; namespace = o.namespace; entry_deny = x; exit_deny = ex }))) e
    ∙ ap (λ (x : List (List ℕ)). Some (call.Open (record { region = o.region; zid = o.zid; mode = o.mode; remote_bound = o.remote_bound; namespace = o.namespace; entry_deny = o.entry_deny; exit_deny = x }))) f

opening_back : (o : Opening) → FitsOpening o → opening_of (field (region_word o.region) ++ (field (zid_word o.zid) ++ (field (mode_word o.mode) ++ (field (bound_word o.remote_bound) ++ (field (option_word payload_word o.namespace) ++ denies_words o.entry_deny o.exit_deny))))) ≡ Some (call.Open o)
unfolding opening_of
opening_back o f =
    then _ (region_reads o.region f.region) refl (then _ (zid_reads o.zid f.zid) refl (then _ (mode_reads o.mode) refl (then _ (bound_reads o.remote_bound) refl
    (then _ (name_reads o.namespace f.namespace) (denies_ends o.entry_deny o.exit_deny)
    (on _ (denies_back o.entry_deny o.exit_deny f.entry_deny f.exit_deny) (same_opening o _ _ (entry_part o.entry_deny o.exit_deny) (exit_part o.entry_deny o.exit_deny)))))))

-- a written call reads back
pub call_back : (c : Call) → FitsCall c → call_of (call_words c) ≡ Some c
unfolding call_by other_by
call_back (call.Open o) f =
    ap (λ x. call_of (codes "open" ++ x)) (nest5 (field (region_word o.region)) (field (zid_word o.zid)) (field (mode_word o.mode)) (field (bound_word o.remote_bound)) (field (option_word payload_word o.namespace)) (denies_words o.entry_deny o.exit_deny))
    ∙ first_back call_by (codes "open") _ refl ∙ opening_back o f
call_back (call.Close face) f = first_back call_by (codes "close") _ refl ∙ close_back face f
call_back (call.DeclareKeyExpr face id wire) f = ap call_of (nest3 (codes "key") (field (face_word face)) (field (decimal id)) (field (wire_word wire))) ∙ first_back call_by (codes "key") _ refl ∙ key_back face id wire f.0 f.1
call_back (call.UndeclareKeyExpr face id) f = ap call_of (append_assoc (codes "unkey") (field (face_word face)) (field (decimal id))) ∙ first_back call_by (codes "unkey") _ refl ∙ unkey_back face id f
call_back (call.DeclareQueryable face id wire info node) f = ap call_of (nest5 (codes "queryable") (field (face_word face)) (field (decimal id)) (field (wire_word wire)) (info_words info) (field (decimal node))) ∙ first_back call_by (codes "queryable") _ refl ∙ queryable_back face id wire info node f.0 f.1 f.2 f.3
call_back (call.UndeclareQueryable face id wire node) f = ap call_of (nest4 (codes "unqueryable") (field (face_word face)) (field (decimal id)) (field (option_word wire_word wire)) (field (decimal node))) ∙ first_back call_by (codes "unqueryable") _ refl ∙ unqueryable_back face id wire node f.0 f.1 f.2
call_back (call.Interest face id keys aggregate wire) f =
    ap call_of (nest5 (codes "interest") (field (face_word face)) (field (decimal id)) (field (option_word wire_word wire)) (field (flag_word (codes "k") (codes "n") keys)) (aggregate_words aggregate)) ∙ first_back call_by (codes "interest") _ refl
    ∙ interest_back face id keys aggregate wire f.0 f.1
call_back (call.InterestFinal face id) f = ap call_of (append_assoc (codes "uninterest") (field (face_word face)) (field (decimal id))) ∙ first_back call_by (codes "uninterest") _ refl ∙ uninterest_back face id f
call_back (call.FinalizeInterest face what set) f = ap call_of (nest3 (codes "finalize") (field (face_word face)) (mark_words what) (field (flag_word (codes "1") (codes "0") set))) ∙ first_back call_by (codes "finalize") _ refl ∙ finalize_back face what set f.0 f.1
call_back (call.Request face r now) f = ap call_of (nest9 (codes "ask") (field (face_word face)) (field (decimal r.id)) (field (wire_word r.wire)) (field (target_word r.target)) (field (option_word decimal r.timeout)) (field (decimal r.node)) (field (decimal r.qos)) (field (payload_word r.payload)) (field (decimal now))) ∙ first_back call_by (codes "ask") _ refl ∙ ask_back face r now f.0 f.1 f.2
call_back (call.Response face r) f = ap call_of (nest5 (codes "reply") (field (face_word face)) (field (decimal r.rid)) (field (wire_word r.wire)) (body_words r.payload) (by_words r.responder)) ∙ first_back call_by (codes "reply") _ refl ∙ reply_back face r f.0 f.1
call_back (call.ResponseFinal face rid) f = ap call_of (append_assoc (codes "final") (field (face_word face)) (field (decimal rid))) ∙ first_back call_by (codes "final") _ refl ∙ final_back face rid f
call_back (call.Sent n) f = first_back call_by (codes "sent") _ refl ∙ sent_back n f
call_back (call.Poll n) f = first_back call_by (codes "poll") _ refl ∙ poll_back n f
call_back (call.SetGateways r t) f = ap call_of (nest3 (codes "gateways") (field (region_word r)) (field (list_word 59 entry_word t.of)) (field (all_word t.all))) ∙ first_back call_by (codes "gateways") _ refl ∙ gateways_back r t f.0 f.1
call_back (call.SetNetwork r t) f = ap call_of (nest4 (codes "network") (field (region_word r)) (field (zids_word t.nodes)) (field (list_word 59 tree_word t.trees)) (field (list_word 44 decimal t.distances))) ∙ first_back call_by (codes "network") _ refl ∙ network_back r t f.0 f.1
call_back (call.SetNodeIds face t) f = ap call_of (append_assoc (codes "nodes") (field (face_word face)) (field (zids_word t.ids))) ∙ first_back call_by (codes "nodes") _ refl ∙ nodes_back face t f.0 f.1
