-- A printed step is read back.
use Rattle.std.proofs.Common.{◌≡◌, ℕ, ◌≤◌, List, [], ◌∷◌, ◌++◌, Option, Some, None, refl, ap, ◌∙◌, sym, arith, Bool, true, false, cond, append_assoc}
use Rattle.std.specs.Prelude.{codes}
use Rattle.std.specs.Fmt.{decimal}
use Rattle.std.specs.List.{AllByRecursion, flat_map}
use Rattle.zq_message.specs.declared.message.Zid.{Zid}
use Rattle.zq_message.specs.declared.message.WireExpr.{WireExpr}
use Rattle.zq_message.specs.declared.message.QueryableInfoType.{QueryableInfoType}
use Rattle.zq_message.specs.declared.message.Request.{Request}
use Rattle.zq_message.specs.declared.message.Response.{Response}
use Rattle.zq_message.specs.declared.message.ResponseFinal.{ResponseFinal}
use Rattle.zq_message.specs.declared.message.Interest.{Interest}
use Rattle.zq_message.specs.declared.message.DeclareBody.{DeclareBody}
use Rattle.zq_message.specs.declared.message.DeclareBody.TheVariants as body
use Rattle.zq_message.specs.declared.message.Message.{Message}
use Rattle.zq_message.specs.declared.message.Message.TheVariants as message
use Rattle.zq_machine.specs.declared.call.Outcome.{Outcome}
use Rattle.zq_machine.specs.declared.call.Outcome.TheVariants as outcome
use Rattle.zq_machine.specs.declared.call.Refusal.{Refusal}
use Rattle.zq_machine.specs.declared.call.Refusal.TheVariants as refusal
use Rattle.zq_machine.specs.Handing.{Handed}
use Rattle.zq_machine.specs.declared.call.Step.{Step}
use Rattle.zq_io.specs.Words.{◌>>=◌, field, lacks, payload_word, option_of, option_word}
use Rattle.zq_io.specs.Values.{most_8, most_16, most_32, most_64, flag_word, zid_of, zid_word, target_word, wire_word}
use Rattle.zq_io.specs.Fits.{FitsZid, FitsWire, FitsOption}
use Rattle.zq_io.proofs.Back.{cut_back, Reads, then, number_reads}
use Rattle.zq_io.proofs.Lists.{not_name, OptionReads, option_reads}
use Rattle.zq_io.proofs.ValuesBack.{face_reads, zid_reads, wire_reads}
use Rattle.zq_lines.specs.CallLines.{aggregate_words, info_words, body_words}
use Rattle.zq_lines.specs.Fits.{FitsRequest, FitsResponse}
use Rattle.zq_lines.specs.Same.{same_message}
use Rattle.zq_lines.specs.Lines.{by_first}
use Rattle.zq_lines.specs.Split.{lines_of}
use Rattle.zq_lines.specs.Steps.{request_words, response_words, interest_words, declare_words, message_words, refusal_name, outcome_words, leaving_words, handed_words, step_words, steps_words}
use Rattle.zq_lines.specs.StepsRead.{last_at, request_of, response_of, final_of, interest_of, uninterest_of, declared, key_of, unkey_of, queryable_of, unqueryable_of, declfinal_of, message_by, message_of, refusal_of, outcome_by, outcome_of, leaves_by, handed_of, Told, answered, told_by, told_of, steps_of}
use Rattle.zq_lines.specs.StepsFit.{FitsFinal, FitsInterest, FitsDeclare, FitsMessage, FitsOutcome, FitsHanded, FitsStep}
use Rattle.zq_lines.proofs.LinesBack.{then_last, first_back, on, k_reads, info_back, option_wire, option_number, option_plain, bytes_reads, manner_back, body_back, body_ends, aggregate_back, aggregate_ends, nest3, nest4, nest5, nest7}
use Rattle.zq_lines.proofs.Splitting.{lines_cut}
use Rattle.zq_lines.proofs.Flat.{Flat, all_flat, decimal_flat, payload_flat, option_flat, zid_flat, target_flat, wire_flat, flag_flat, info_flat, body_flat, aggregate_flat}
use Rattle.zq_lines.proofs.Sameness.{message_same}

-- the last word of a line
last_back : {X Y : Type 0} {read : List ℕ → Option X} {w : List ℕ} {x : X} {y : Y} (f : X → Option Y) → Reads read w x → f x ≡ Some y → (last_at read (32 ∷ w) >>= f) ≡ Some y
last_back f r k = on f (then_last _ r refl) k

-- messages
request_back : (r : Request) → FitsRequest r
    → request_of (field (decimal r.id) ++ (field (wire_word r.wire) ++ (field (target_word r.target) ++ (field (option_word decimal r.timeout) ++ (field (decimal r.node) ++ (field (decimal r.qos) ++ field (payload_word r.payload))))))) ≡ Some (message.Request r)
unfolding request_of
request_back r f =
    then _ (number_reads most_32 r.id f.id (omega arith)) refl (then _ (wire_reads r.wire f.wire) refl (on _ (manner_back r _ f refl) (last_back _ (bytes_reads r.payload f.payload) refl)))

responder : (o : Option Zid) → FitsOption FitsZid o → OptionReads zid_of zid_word o
responder None f = tt
responder (Some zid) f = zid_reads zid f

response_back : (r : Response) → FitsResponse most_8 r
    → response_of (field (decimal r.rid) ++ (field (wire_word r.wire) ++ (field (decimal r.qos) ++ (body_words r.payload ++ field (option_word zid_word r.responder))))) ≡ Some (message.Response r)
unfolding response_of
response_back r f =
    then _ (number_reads most_32 r.rid f.rid (omega arith)) refl (then _ (wire_reads r.wire f.wire) refl (then _ (number_reads most_8 r.qos f.qos (omega arith)) (body_ends r.payload _)
    (on _ (body_back r.payload _ f.payload refl) (last_back _ (option_reads zid_of zid_word r.responder refl (responder r.responder f.responder)) refl))))

final_back : (f : ResponseFinal) → FitsFinal f → final_of (field (decimal f.rid) ++ field (decimal f.qos)) ≡ Some (message.ResponseFinal f)
unfolding final_of
final_back f g = then _ (number_reads most_32 f.rid g.rid (omega arith)) refl (last_back _ (number_reads most_8 f.qos g.qos (omega arith)) refl)

interest_back : (i : Interest) → FitsInterest i → interest_of (field (decimal i.id) ++ (field (option_word wire_word i.wire) ++ (field (flag_word (codes "k") (codes "n") i.keys) ++ aggregate_words i.aggregate))) ≡ Some (message.Interest i)
unfolding interest_of
interest_back i f = then _ (number_reads most_32 i.id f.id (omega arith)) refl (then _ (option_wire i.wire f.wire) refl (then _ (k_reads i.keys) (aggregate_ends i.aggregate) (on _ (aggregate_back i.aggregate) refl)))

uninterest_back : (id : ℕ) → id ≤ most_32 → uninterest_of (field (decimal id)) ≡ Some (message.InterestFinal id)
unfolding uninterest_of
uninterest_back id f = last_back _ (number_reads most_32 id f (omega arith)) refl

-- a declaration is for no interest or from node 0 where its words don't say
for_none : (interest : Option ℕ) (node : ℕ) (b : DeclareBody) → interest ≡ None → declared None node b ≡ declared interest node b
for_none interest node b e = ap (λ (i : Option ℕ). declared i node b) (sym e)

from_zero : (interest : Option ℕ) (node : ℕ) (b : DeclareBody) → node ≡ 0 → declared interest 0 b ≡ declared interest node b
from_zero interest node b e = ap (λ (n : ℕ). declared interest n b) (sym e)

key_back : (id : ℕ) (wire : WireExpr) → id ≤ most_16 → FitsWire wire → key_of (field (decimal id) ++ field (wire_word wire)) ≡ declared None 0 (body.DeclareKeyExpr id wire)
unfolding key_of
key_back id wire f g = then _ (number_reads most_16 id f (omega arith)) refl (last_back _ (wire_reads wire g) refl)

unkey_back : (id : ℕ) → id ≤ most_16 → unkey_of (field (decimal id)) ≡ declared None 0 (body.UndeclareKeyExpr id)
unfolding unkey_of
unkey_back id f = last_back _ (number_reads most_16 id f (omega arith)) refl

queryable_back : (interest : Option ℕ) (node id : ℕ) (wire : WireExpr) (info : QueryableInfoType) → FitsDeclare interest node (body.DeclareQueryable id wire info)
    → queryable_of (field (decimal id) ++ (field (wire_word wire) ++ (info_words info ++ (field (decimal node) ++ field (option_word decimal interest))))) ≡ declared interest node (body.DeclareQueryable id wire info)
unfolding queryable_of
queryable_back interest node id wire info f =
    then _ (number_reads most_32 id f.body.0 (omega arith)) refl (then _ (wire_reads wire f.body.1) refl (on _ (info_back info _ f.body.2 refl)
    (then _ (number_reads most_16 node f.node (omega arith)) refl (last_back _ (option_number most_32 interest (omega arith) f.interest) refl))))

unqueryable_back : (node id : ℕ) (wire : Option WireExpr) → id ≤ most_32 → FitsOption FitsWire wire → node ≤ most_16
    → unqueryable_of (field (decimal id) ++ (field (option_word wire_word wire) ++ field (decimal node))) ≡ declared None node (body.UndeclareQueryable id wire)
unfolding unqueryable_of
unqueryable_back node id wire f g n = then _ (number_reads most_32 id f (omega arith)) refl (then _ (option_wire wire g) refl (last_back _ (number_reads most_16 node n (omega arith)) refl))

declfinal_back : (interest : Option ℕ) → FitsOption (λ n. n ≤ most_32) interest → declfinal_of (field (option_word decimal interest)) ≡ declared interest 0 body.DeclareFinal
unfolding declfinal_of
declfinal_back interest f = last_back _ (option_number most_32 interest (omega arith) f) refl

declare_back : (interest : Option ℕ) (node : ℕ) (b : DeclareBody) → FitsDeclare interest node b → message_of (declare_words interest node b) ≡ declared interest node b
unfolding message_by
declare_back interest node (body.DeclareKeyExpr id wire) f =
    ap message_of (append_assoc (codes "key") (field (decimal id)) (field (wire_word wire)))
    ∙ first_back message_by (codes "key") _ refl ∙ key_back id wire f.body.0 f.body.1 ∙ for_none interest 0 _ f.shown.0 ∙ from_zero interest node _ f.shown.1
declare_back interest node (body.UndeclareKeyExpr id) f = first_back message_by (codes "unkey") _ refl ∙ unkey_back id f.body ∙ for_none interest 0 _ f.shown.0 ∙ from_zero interest node _ f.shown.1
declare_back interest node (body.DeclareQueryable id wire info) f =
    ap message_of (nest5 (codes "queryable") (field (decimal id)) (field (wire_word wire)) (info_words info) (field (decimal node)) (field (option_word decimal interest)))
    ∙ first_back message_by (codes "queryable") _ refl ∙ queryable_back interest node id wire info f
declare_back interest node (body.UndeclareQueryable id wire) f =
    ap message_of (nest3 (codes "unqueryable") (field (decimal id)) (field (option_word wire_word wire)) (field (decimal node)))
    ∙ first_back message_by (codes "unqueryable") _ refl ∙ unqueryable_back node id wire f.body.0 f.body.1 f.node ∙ for_none interest node _ f.shown
declare_back interest node body.DeclareFinal f = first_back message_by (codes "declfinal") _ refl ∙ declfinal_back interest f.interest ∙ from_zero interest node _ f.shown

-- a printed message is read back
pub message_back : (m : Message) → FitsMessage m → message_of (message_words m) ≡ Some m
unfolding message_by
message_back (message.Request r) f =
    ap message_of (nest7 (codes "request") (field (decimal r.id)) (field (wire_word r.wire)) (field (target_word r.target)) (field (option_word decimal r.timeout)) (field (decimal r.node)) (field (decimal r.qos)) (field (payload_word r.payload)))
    ∙ first_back message_by (codes "request") _ refl ∙ request_back r f
message_back (message.Response r) f =
    ap message_of (nest5 (codes "response") (field (decimal r.rid)) (field (wire_word r.wire)) (field (decimal r.qos)) (body_words r.payload) (field (option_word zid_word r.responder)))
    ∙ first_back message_by (codes "response") _ refl ∙ response_back r f
message_back (message.ResponseFinal l) f = ap message_of (append_assoc (codes "final") (field (decimal l.rid)) (field (decimal l.qos))) ∙ first_back message_by (codes "final") _ refl ∙ final_back l f
message_back (message.Declare d) f = declare_back d.interest d.node d.body f
message_back (message.Interest i) f =
    ap message_of (nest4 (codes "interest") (field (decimal i.id)) (field (option_word wire_word i.wire)) (field (flag_word (codes "k") (codes "n") i.keys)) (aggregate_words i.aggregate))
    ∙ first_back message_by (codes "interest") _ refl ∙ interest_back i f
message_back (message.InterestFinal id) f = first_back message_by (codes "uninterest") _ refl ∙ uninterest_back id f

-- answers
refusal_reads : (r : Refusal) → Reads refusal_of (refusal_name r) r × (lacks 10 (refusal_name r) ≡ true)
unfolding refusal_of
refusal_reads refusal.UnknownFace = (record { whole = refl; some = omega arith; value = refl }, refl)
refusal_reads refusal.UnknownRegion = (record { whole = refl; some = omega arith; value = refl }, refl)
refusal_reads refusal.UpstreamInUse = (record { whole = refl; some = omega arith; value = refl }, refl)
refusal_reads refusal.UnknownScope = (record { whole = refl; some = omega arith; value = refl }, refl)
refusal_reads refusal.InvalidKeyExpr = (record { whole = refl; some = omega arith; value = refl }, refl)
refusal_reads refusal.QueryNotFound = (record { whole = refl; some = omega arith; value = refl }, refl)
refusal_reads refusal.NotInFlight = (record { whole = refl; some = omega arith; value = refl }, refl)
refusal_reads refusal.Remapped = (record { whole = refl; some = omega arith; value = refl }, refl)
refusal_reads refusal.UnknownId = (record { whole = refl; some = omega arith; value = refl }, refl)
refusal_reads refusal.IdInUse = (record { whole = refl; some = omega arith; value = refl }, refl)
refusal_reads refusal.UnknownRouter = (record { whole = refl; some = omega arith; value = refl }, refl)
refusal_reads refusal.NoFreeId = (record { whole = refl; some = omega arith; value = refl }, refl)

outcome_back : (o : Outcome) → FitsOutcome o → outcome_of (outcome_words o) ≡ Some o
unfolding outcome_by
outcome_back (outcome.Opened face) f = first_back outcome_by (codes "opened") _ refl ∙ last_back _ (face_reads face f) refl
outcome_back (outcome.Asked n) f = first_back outcome_by (codes "asked") _ refl ∙ last_back _ (number_reads most_64 n f (omega arith)) refl
outcome_back (outcome.Replied reply) f = first_back outcome_by (codes "replied") _ refl ∙ last_back _ (option_number most_64 reply (omega arith) f) refl
outcome_back outcome.Done f = refl
outcome_back (outcome.Refused r) f = first_back outcome_by (codes "refused") _ refl ∙ last_back _ (refusal_reads r).0 refl

-- no newline stands in a line
outcome_flat : (o : Outcome) → Flat (outcome_words o)
outcome_flat (outcome.Opened face) = decimal_flat face.0
outcome_flat (outcome.Asked n) = decimal_flat n
outcome_flat (outcome.Replied reply) = option_flat decimal reply decimal_flat
outcome_flat outcome.Done = refl
outcome_flat (outcome.Refused r) = (refusal_reads r).1

request_flat : (r : Request) → Flat (request_words r)
request_flat r =
    all_flat (codes "request") (field (decimal r.id) ∷ field (wire_word r.wire) ∷ field (target_word r.target) ∷ field (option_word decimal r.timeout) ∷ field (decimal r.node) ∷ field (decimal r.qos) ∷ field (payload_word r.payload) ∷ []) refl
    (decimal_flat r.id, (wire_flat r.wire, (target_flat r.target, (option_flat decimal r.timeout decimal_flat, (decimal_flat r.node, (decimal_flat r.qos, (payload_flat r.payload, tt)))))))

response_flat : (r : Response) → Flat (response_words r)
response_flat r =
    all_flat (codes "response") (field (decimal r.rid) ∷ field (wire_word r.wire) ∷ field (decimal r.qos) ∷ body_words r.payload ∷ field (option_word zid_word r.responder) ∷ []) refl
    (decimal_flat r.rid, (wire_flat r.wire, (decimal_flat r.qos, (body_flat r.payload, (option_flat zid_word r.responder zid_flat, tt)))))

interest_flat : (i : Interest) → Flat (interest_words i)
interest_flat i =
    all_flat (codes "interest") (field (decimal i.id) ∷ field (option_word wire_word i.wire) ∷ field (flag_word (codes "k") (codes "n") i.keys) ∷ aggregate_words i.aggregate ∷ []) refl
    (decimal_flat i.id, (option_flat wire_word i.wire wire_flat, (flag_flat (codes "k") (codes "n") i.keys refl refl, (aggregate_flat i.aggregate, tt))))

declare_flat : (interest : Option ℕ) (node : ℕ) (b : DeclareBody) → Flat (declare_words interest node b)
declare_flat interest node (body.DeclareKeyExpr id wire) = all_flat (codes "key") (field (decimal id) ∷ field (wire_word wire) ∷ []) refl (decimal_flat id, (wire_flat wire, tt))
declare_flat interest node (body.UndeclareKeyExpr id) = decimal_flat id
declare_flat interest node (body.DeclareQueryable id wire info) =
    all_flat (codes "queryable") (field (decimal id) ∷ field (wire_word wire) ∷ info_words info ∷ field (decimal node) ∷ field (option_word decimal interest) ∷ []) refl
    (decimal_flat id, (wire_flat wire, (info_flat info, (decimal_flat node, (option_flat decimal interest decimal_flat, tt)))))
declare_flat interest node (body.UndeclareQueryable id wire) =
    all_flat (codes "unqueryable") (field (decimal id) ∷ field (option_word wire_word wire) ∷ field (decimal node) ∷ []) refl (decimal_flat id, (option_flat wire_word wire wire_flat, (decimal_flat node, tt)))
declare_flat interest node body.DeclareFinal = option_flat decimal interest decimal_flat

pub message_flat : (m : Message) → Flat (message_words m)
message_flat (message.Request r) = request_flat r
message_flat (message.Response r) = response_flat r
message_flat (message.ResponseFinal l) = all_flat (codes "final") (field (decimal l.rid) ∷ field (decimal l.qos) ∷ []) refl (decimal_flat l.rid, (decimal_flat l.qos, tt))
message_flat (message.Declare d) = declare_flat d.interest d.node d.body
message_flat (message.Interest i) = interest_flat i
message_flat (message.InterestFinal id) = decimal_flat id

-- what lines say that don't begin with what leaves
abbrev behind : List Handed → List Step → Told
behind handed steps = record { leaving = None; handed = handed; steps = steps }

-- a line, and what the lines behind it say
line_back : (line rest : List ℕ) (told now : Told) → Flat line → told_of (lines_of rest) ≡ Some told → by_first (told_by told) line ≡ Some now → told_of (lines_of (line ++ 10 ∷ [] ++ rest)) ≡ Some now
line_back line rest told now e t k = ap told_of (ap lines_of (append_assoc line (10 ∷ []) rest) ∙ lines_cut (line ++ 10 ∷ rest) line rest (cut_back 10 line rest e)) ∙ on _ t k

-- what the line behind a message says, if it is there
next_by : Bool → Message → Option (Option Message)
next_by same n = cond same None (Some (Some n))

next_of : Message → Option Message → Option (Option Message)
next_of m None = Some None
next_of m (Some n) = next_by (same_message m n) n

leaves_back : (m : Message) (leaves : Option Message) → leaves_by m (next_of m leaves) ≡ leaves
unfolding next_of next_by
leaves_back m None = refl
leaves_back m (Some n) = by (same_message m n) refl
  where
    by : (same : Bool) → same_message m n ≡ same → leaves_by m (next_by same n) ≡ Some n
    by true e = ap Some ((message_same m n).0 e)
    by false e = refl

-- the words of a message aren't a dash
message_plain : (m : Message) → FitsMessage m → option_of message_of (message_words m) ≡ Some (Some m)
unfolding message_by
message_plain m f = let e = message_back m f in option_plain message_of (message_words m) m (not_name message_of (message_words m) (codes "-") m refl e) e

leaving_back : (m : Message) (leaves : Option Message) (rest : List ℕ) (handed : List Handed) (steps : List Step) → FitsOption FitsMessage leaves → told_of (lines_of rest) ≡ Some (behind handed steps)
    → told_of (lines_of (leaving_words m leaves ++ rest)) ≡ Some (record { leaving = next_of m leaves; handed = handed; steps = steps })
unfolding next_of next_by told_by
leaving_back m None rest handed steps f t = line_back (codes "< -") rest (behind handed steps) _ refl t refl
leaving_back m (Some n) rest handed steps f t = by (same_message m n)
  where
    by : (same : Bool) → told_of (lines_of (cond same [] (codes "< " ++ message_words n ++ 10 ∷ []) ++ rest)) ≡ Some (record { leaving = next_by same n; handed = handed; steps = steps })
    by true = t
    by false = line_back (codes "< " ++ message_words n) rest (behind handed steps) _ (message_flat n) t (first_back (told_by (behind handed steps)) (codes "<") (message_words n) refl ∙ on _ (message_plain n f) refl)

-- a message that is handed, with what leaves
handed_back : (h : Handed) (next : Option (Option Message)) → FitsHanded h → leaves_by h.message next ≡ h.leaves
    → handed_of (field (decimal h.to.0) ++ (field (option_word decimal h.number) ++ (field (option_word decimal h.reply) ++ 32 ∷ message_words h.message))) next ≡ Some h
unfolding handed_of
handed_back h next f e =
    then _ (face_reads h.to f.to) refl (then _ (option_number most_64 h.number (omega arith) f.asked) refl (then _ (option_number most_64 h.reply (omega arith) f.reply) refl (on _ (message_back h.message f.message) (ap (λ (l : Option Message). Some (record h { leaves = l })) e))))

handed_flat : (h : Handed) → Flat (codes "> " ++ decimal h.to.0 ++ field (option_word decimal h.number) ++ field (option_word decimal h.reply) ++ codes " " ++ message_words h.message)
handed_flat h =
    all_flat (codes "> ") (decimal h.to.0 ∷ field (option_word decimal h.number) ∷ field (option_word decimal h.reply) ∷ codes " " ∷ message_words h.message ∷ []) refl
    (decimal_flat h.to.0, (option_flat decimal h.number decimal_flat, (option_flat decimal h.reply decimal_flat, (refl, (message_flat h.message, tt)))))

one_back : (h : Handed) (rest : List ℕ) (handed : List Handed) (steps : List Step) → FitsHanded h → told_of (lines_of rest) ≡ Some (behind handed steps) → told_of (lines_of (handed_words h ++ rest)) ≡ Some (behind (h ∷ handed) steps)
unfolding told_by
one_back h rest handed steps f t =
    let line : List ℕ = codes "> " ++ decimal h.to.0 ++ field (option_word decimal h.number) ++ field (option_word decimal h.reply) ++ codes " " ++ message_words h.message in
    let next : Option (Option Message) = next_of h.message h.leaves in
    let told : Told = record { leaving = next; handed = handed; steps = steps } in
    ap (λ b. told_of (lines_of b)) (append_assoc (line ++ 10 ∷ []) (leaving_words h.message h.leaves) rest)
    ∙ line_back line _ told _ (handed_flat h) (leaving_back h.message h.leaves rest handed steps f.leaves t)
    (ap (by_first (told_by told)) (nest5 (codes "> ") (decimal h.to.0) (field (option_word decimal h.number)) (field (option_word decimal h.reply)) (codes " ") (message_words h.message))
    ∙ first_back (told_by told) (codes ">") _ refl ∙ on _ (handed_back h next f (leaves_back h.message h.leaves)) refl)

all_back : (handed : List Handed) (rest : List ℕ) (steps : List Step) → AllByRecursion FitsHanded handed → told_of (lines_of rest) ≡ Some (behind [] steps) → told_of (lines_of (flat_map handed_words handed ++ rest)) ≡ Some (behind handed steps)
all_back [] rest steps a t = t
all_back (h ∷ handed) rest steps a t = ap (λ b. told_of (lines_of b)) (append_assoc (handed_words h) (flat_map handed_words handed) rest) ∙ one_back h _ handed steps a.0 (all_back handed rest steps a.1 t)

step_back : (s : Step) (rest : List ℕ) (steps : List Step) → FitsStep s → told_of (lines_of rest) ≡ Some (behind [] steps) → told_of (lines_of (step_words s ++ rest)) ≡ Some (behind [] (s ∷ steps))
unfolding told_by
step_back s rest steps f t =
    let told : Told = behind s.handed steps in
    ap (λ b. told_of (lines_of b)) (append_assoc (codes "= " ++ outcome_words s.outcome ++ 10 ∷ []) (flat_map handed_words s.handed) rest)
    ∙ line_back (codes "= " ++ outcome_words s.outcome) _ told _ (outcome_flat s.outcome) (all_back s.handed rest steps f.handed t)
    (first_back (told_by told) (codes "=") (outcome_words s.outcome) refl ∙ on (answered told) (outcome_back s.outcome f.outcome) refl)

told_back : (steps : List Step) → AllByRecursion FitsStep steps → told_of (lines_of (steps_words steps)) ≡ Some (behind [] steps)
told_back [] a = refl
told_back (s ∷ steps) a = step_back s (steps_words steps) steps a.0 (told_back steps a.1)

-- printed steps are read back
pub steps_back : (steps : List Step) → AllByRecursion FitsStep steps → steps_of (steps_words steps) ≡ Some steps
steps_back steps a = on _ (told_back steps a) refl
