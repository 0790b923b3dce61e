-- No newline stands in the line of a call.
use Rattle.std.proofs.Common.{◌≡◌, ℕ, zero, suc, ◌+◌, ◌%◌, ◌/◌, List, [], ◌∷◌, ◌++◌, Option, Some, None, refl, arith, Bool, true, false, cond}
use Rattle.std.proofs.lemmas.Bool.Decides.{nat_tests}
use Rattle.std.specs.Prelude.{◌==◌, nat_lt, codes}
use Rattle.std.specs.Fmt.{digit_glyph, digits_onto, digits, decimal}
use Rattle.std.specs.List.{AllByRecursion, flat_map}
use Rattle.zq_message.specs.declared.message.Zid.{Zid}
use Rattle.zq_message.specs.declared.message.Mapping.{Mapping}
use Rattle.zq_message.specs.declared.message.Mapping.TheVariants as mapping
use Rattle.zq_message.specs.declared.message.Mode.{Mode}
use Rattle.zq_message.specs.declared.message.Mode.TheVariants as mode
use Rattle.zq_message.specs.declared.message.Bound.{Bound}
use Rattle.zq_message.specs.declared.message.Bound.TheVariants as bound
use Rattle.zq_message.specs.declared.message.Region.{Region}
use Rattle.zq_message.specs.declared.message.Region.TheVariants as region
use Rattle.zq_message.specs.declared.message.FaceId.{FaceId}
use Rattle.zq_message.specs.declared.message.WireExpr.{WireExpr}
use Rattle.zq_message.specs.declared.message.QueryTarget.{QueryTarget}
use Rattle.zq_message.specs.declared.message.QueryTarget.TheVariants as target
use Rattle.zq_message.specs.declared.message.QueryableInfoType.{QueryableInfoType}
use Rattle.zq_message.specs.declared.message.Request.{Request}
use Rattle.zq_message.specs.declared.message.Response.{Response}
use Rattle.zq_message.specs.declared.message.ReplyBody.{ReplyBody}
use Rattle.zq_message.specs.declared.message.ReplyBody.TheVariants as reply
use Rattle.zq_strategy.specs.declared.network.Tree.{Tree}
use Rattle.zq_route.specs.declared.gateways.GatewayEntry.{GatewayEntry}
use Rattle.zq_strategy.specs.declared.types.FinalMark.{FinalMark}
use Rattle.zq_strategy.specs.declared.types.FinalMark.TheVariants as mark
use Rattle.zq_machine.specs.declared.call.Opening.{Opening}
use Rattle.zq_machine.specs.declared.call.Call.{Call}
use Rattle.zq_machine.specs.declared.call.Call.TheVariants as call
use Rattle.zq_io.specs.Words.{field, lacks, payload_word, list_word, option_word}
use Rattle.zq_io.specs.Values.{flag_word, face_word, zid_word, mode_word, bound_word, target_word, region_word, mapping_word, wire_word, zids_word, all_word, direction_word}
use Rattle.zq_io.proofs.Back.{lacks_append, payload_is_word}
use Rattle.zq_io.proofs.Lists.{list_lacks}
use Rattle.zq_io.proofs.ValuesBack.{lacks_between}
use Rattle.zq_lines.specs.Tables.{entry_word, tree_word}
use Rattle.zq_lines.specs.CallLines.{aggregate_words, deny_item, denies_words, opening_words, info_words, mark_words, body_words, by_words, ids_words, ask_words, reply_words, call_words}

-- no newline stands in words
abbrev pub Flat : List ℕ → Type 0
Flat words = lacks 10 words ≡ true

-- words, joined from the left
abbrev pub joined : List ℕ → List (List ℕ) → List ℕ
joined words [] = words
joined words (w ∷ ws) = joined (words ++ w) ws

pub all_flat : (words : List ℕ) (ws : List (List ℕ)) → Flat words → AllByRecursion Flat ws → Flat (joined words ws)
all_flat words [] e a = e
all_flat words (w ∷ ws) e a = all_flat (words ++ w) ws (lacks_append 10 words w e a.0) a.1

-- digits
digit_flat : (small : Bool) (d : ℕ) (acc : List ℕ) → Flat acc → Flat (cond small (48 + d) (87 + d) ∷ acc)
digit_flat true d acc e = grind (arith, nat_tests)
digit_flat false d acc e = grind (arith, nat_tests)

onto_flat : (k n : ℕ) (acc : List ℕ) → Flat acc → Flat (digits_onto k 10 false n acc)
onto_flat zero n acc e = e
onto_flat (suc k) n acc e = let more : Flat (digit_glyph false (n % 10) ∷ acc) = digit_flat (nat_lt (n % 10) 10) (n % 10) acc e in either (n / 10 == 0) _ _ more (onto_flat k (n / 10) _ more)
  where
    either : (b : Bool) (xs ys : List ℕ) → Flat xs → Flat ys → Flat (cond b xs ys)
    either true xs ys f g = f
    either false xs ys f g = g

pub decimal_flat : (n : ℕ) → Flat (decimal n)
unfolding digits
decimal_flat n = onto_flat 64 n [] refl

-- words of values
pub payload_flat : (bytes : List ℕ) → Flat (payload_word bytes)
payload_flat bytes = (payload_is_word bytes).newline

pub option_flat : {X : Type 0} (write : X → List ℕ) (o : Option X) → ((x : X) → Flat (write x)) → Flat (option_word write o)
option_flat write None k = refl
option_flat write (Some x) k = k x

every_flat : {X : Type 0} (write : X → List ℕ) (xs : List X) → ((x : X) → Flat (write x)) → AllByRecursion (λ x. Flat (write x)) xs
every_flat write [] k = tt
every_flat write (x ∷ xs) k = (k x, every_flat write xs k)

list_flat : {X : Type 0} (byte : ℕ) (write : X → List ℕ) (xs : List X) → (byte == 10) ≡ false → ((x : X) → Flat (write x)) → Flat (list_word byte write xs)
list_flat byte write xs e k = list_lacks 10 byte write xs refl e (every_flat write xs k)

pub zid_flat : (zid : Zid) → Flat (zid_word zid)
zid_flat zid = decimal_flat zid.0

zids_flat : (zids : List Zid) → Flat (zids_word zids)
zids_flat zids = list_flat 44 zid_word zids refl zid_flat

all_zids_flat : (o : Option (List Zid)) → Flat (all_word o)
all_zids_flat None = refl
all_zids_flat (Some zids) = zids_flat zids

mode_flat : (m : Mode) → Flat (mode_word m)
mode_flat mode.Router = refl
mode_flat mode.Peer = refl
mode_flat mode.Client = refl

bound_flat : (b : Bound) → Flat (bound_word b)
bound_flat bound.North = refl
bound_flat bound.South = refl

region_flat : (r : Region) → Flat (region_word r)
region_flat region.North = refl
region_flat region.Local = refl
region_flat (region.South id m) = lacks_between 58 10 (codes "south" ++ 58 ∷ decimal id) (mode_word m) refl (decimal_flat id) (mode_flat m)

pub target_flat : (t : QueryTarget) → Flat (target_word t)
target_flat target.All = refl
target_flat target.AllComplete = refl
target_flat target.BestMatching = refl

mapping_flat : (m : Mapping) → Flat (58 ∷ mapping_word m)
mapping_flat mapping.Sender = refl
mapping_flat mapping.Receiver = refl

pub wire_flat : (w : WireExpr) → Flat (wire_word w)
wire_flat w = all_flat (decimal w.scope) ((58 ∷ mapping_word w.mapping) ∷ (58 ∷ payload_word w.suffix) ∷ []) (decimal_flat w.scope) (mapping_flat w.mapping, (payload_flat w.suffix, tt))

pub flag_flat : (first other : List ℕ) (b : Bool) → Flat first → Flat other → Flat (flag_word first other b)
flag_flat first other true f g = f
flag_flat first other false f g = g

direction_flat : (d : Option ℕ) → Flat (direction_word d)
direction_flat None = refl
direction_flat (Some n) = decimal_flat n

entry_flat : (e : GatewayEntry) → Flat (entry_word e)
entry_flat e = lacks_between 61 10 (zid_word e.node) (zids_word e.gateways) refl (zid_flat e.node) (zids_flat e.gateways)

tree_flat : (t : Tree) → Flat (tree_word t)
tree_flat t = lacks_between 47 10 (list_word 44 decimal t.children) (list_word 44 direction_word t.directions) refl (list_flat 44 decimal t.children refl decimal_flat) (list_flat 44 direction_word t.directions refl direction_flat)

-- words of parts of a call
denies_flat : (side : List ℕ) (ts : List (List ℕ)) → Flat side → Flat (flat_map (deny_item side) ts)
denies_flat side [] e = refl
denies_flat side (t ∷ ts) e = lacks_append 10 (deny_item side t) (flat_map (deny_item side) ts) (lacks_append 10 side (payload_word t) e (payload_flat t)) (denies_flat side ts e)

opening_flat : (o : Opening) → Flat (opening_words o)
opening_flat o =
    all_flat (field (region_word o.region)) (field (zid_word o.zid) ∷ field (mode_word o.mode) ∷ field (bound_word o.remote_bound) ∷ field (option_word payload_word o.namespace) ∷ denies_words o.entry_deny o.exit_deny ∷ []) (region_flat o.region) (
      zid_flat o.zid,
      (
        mode_flat o.mode,
        (
          bound_flat o.remote_bound,
          (
            option_flat payload_word o.namespace payload_flat,
            (lacks_append 10 (flat_map (deny_item (codes "in:")) o.entry_deny) _ (denies_flat (codes "in:") o.entry_deny refl) (denies_flat (codes "out:") o.exit_deny refl), tt),
          ),
        ),
      ),
    )

pub info_flat : (info : QueryableInfoType) → Flat (info_words info)
info_flat info = lacks_append 10 (field (flag_word (codes "c") (codes "p") info.complete)) (field (decimal info.distance)) (flag_flat (codes "c") (codes "p") info.complete refl refl) (decimal_flat info.distance)

mark_flat : (m : FinalMark) → Flat (mark_words m)
mark_flat mark.Initial = refl
mark_flat (mark.Key text) = payload_flat text

pub body_flat : (b : ReplyBody) → Flat (body_words b)
body_flat (reply.Reply payload) = payload_flat payload
body_flat (reply.Err payload) = payload_flat payload

by_flat : (o : Option Zid) → Flat (by_words o)
by_flat None = refl
by_flat (Some zid) = zid_flat zid

pub aggregate_flat : (aggregate : Bool) → Flat (aggregate_words aggregate)
aggregate_flat true = refl
aggregate_flat false = refl

ids_flat : (name : List ℕ) (face : FaceId) (id : ℕ) (ws : List (List ℕ)) → Flat name → AllByRecursion Flat ws → Flat (joined (ids_words name face (decimal id)) ws)
ids_flat name face id ws e a = all_flat name (field (face_word face) ∷ field (decimal id) ∷ ws) e (decimal_flat face.0, (decimal_flat id, a))

ask_flat : (face : FaceId) (r : Request) (now : ℕ) → Flat (ask_words face r now)
ask_flat face r now =
    ids_flat (codes "ask") face r.id (field (wire_word r.wire) ∷ field (target_word r.target) ∷ field (option_word decimal r.timeout) ∷ field (decimal r.node) ∷ field (decimal r.qos) ∷ field (payload_word r.payload) ∷ field (decimal now) ∷ []) refl
    (wire_flat r.wire, (target_flat r.target, (option_flat decimal r.timeout decimal_flat, (decimal_flat r.node, (decimal_flat r.qos, (payload_flat r.payload, (decimal_flat now, tt)))))))

reply_flat : (face : FaceId) (r : Response) → Flat (reply_words face r)
reply_flat face r = ids_flat (codes "reply") face r.rid (field (wire_word r.wire) ∷ body_words r.payload ∷ by_words r.responder ∷ []) refl (wire_flat r.wire, (body_flat r.payload, (by_flat r.responder, tt)))

-- the line of a call is one line
pub call_flat : (c : Call) → Flat (call_words c)
call_flat (call.Open o) = lacks_append 10 (codes "open") (opening_words o) refl (opening_flat o)
call_flat (call.Close face) = decimal_flat face.0
call_flat (call.DeclareKeyExpr face id wire) = ids_flat (codes "key") face id (field (wire_word wire) ∷ []) refl (wire_flat wire, tt)
call_flat (call.UndeclareKeyExpr face id) = ids_flat (codes "unkey") face id [] refl tt
call_flat (call.DeclareQueryable face id wire info node) = ids_flat (codes "queryable") face id (field (wire_word wire) ∷ info_words info ∷ field (decimal node) ∷ []) refl (wire_flat wire, (info_flat info, (decimal_flat node, tt)))
call_flat (call.UndeclareQueryable face id wire node) = ids_flat (codes "unqueryable") face id (field (option_word wire_word wire) ∷ field (decimal node) ∷ []) refl (option_flat wire_word wire wire_flat, (decimal_flat node, tt))
call_flat (call.Interest face id keys aggregate wire) =
    ids_flat (codes "interest") face id (field (option_word wire_word wire) ∷ field (flag_word (codes "k") (codes "n") keys) ∷ aggregate_words aggregate ∷ []) refl
    (option_flat wire_word wire wire_flat, (flag_flat (codes "k") (codes "n") keys refl refl, (aggregate_flat aggregate, tt)))
call_flat (call.InterestFinal face id) = ids_flat (codes "uninterest") face id [] refl tt
call_flat (call.FinalizeInterest face what set) =
    all_flat (codes "finalize") (field (face_word face) ∷ mark_words what ∷ field (flag_word (codes "1") (codes "0") set) ∷ []) refl (decimal_flat face.0, (mark_flat what, (flag_flat (codes "1") (codes "0") set refl refl, tt)))
call_flat (call.Request face r now) = ask_flat face r now
call_flat (call.Response face r) = reply_flat face r
call_flat (call.ResponseFinal face rid) = ids_flat (codes "final") face rid [] refl tt
call_flat (call.Sent n) = decimal_flat n
call_flat (call.Poll n) = decimal_flat n
call_flat (call.SetGateways r t) =
    all_flat (codes "gateways") (field (region_word r) ∷ field (list_word 59 entry_word t.of) ∷ field (all_word t.all) ∷ []) refl (region_flat r, (list_flat 59 entry_word t.of refl entry_flat, (all_zids_flat t.all, tt)))
call_flat (call.SetNetwork r t) =
    all_flat (codes "network") (field (region_word r) ∷ field (zids_word t.nodes) ∷ field (list_word 59 tree_word t.trees) ∷ field (list_word 44 decimal t.distances) ∷ []) refl
    (region_flat r, (zids_flat t.nodes, (list_flat 59 tree_word t.trees refl tree_flat, (list_flat 44 decimal t.distances refl decimal_flat, tt))))
call_flat (call.SetNodeIds face t) = all_flat (codes "nodes") (field (face_word face) ∷ field (zids_word t.ids) ∷ []) refl (decimal_flat face.0, (zids_flat t.ids, tt))
