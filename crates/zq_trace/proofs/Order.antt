-- What a call hands stands by kinds: requests, replies, finals, declarations.
use Rattle.std.proofs.Common.{◌≡◌, ◌∙◌, refl, sym, ap, subst, ℕ, Bool, true, false, cond, not, List, [], ◌∷◌, ◌++◌, map, Option, Some, None, append-nil, append_assoc, true≢false, arith, eq-eqb, ne_eqb, ◌⊎◌, inl, inr}
use Rattle.std.specs.Prelude.{◌==◌, ◌||◌, if◌then◌else◌}
use Rattle.std.specs.List.{AllByRecursion, cons_option, filter}
use Rattle.std.specs.Option.{option_map}
use Rattle.std.proofs.lemmas.Bool.{false≢true, or_cases}
use Rattle.std.proofs.lemmas.List.Elements.{filter-append}
use Rattle.zq_message.specs.declared.message.FaceId.{FaceId}
use Rattle.zq_message.specs.declared.message.Message.{Message}
use Rattle.zq_message.specs.declared.message.Message.TheVariants as message
use Rattle.zq_message.specs.declared.message.Request.{Request}
use Rattle.zq_strategy.specs.declared.offer.QueryTargetQabl.{QueryTargetQabl}
use Rattle.zq_query.specs.declared.records.Final.{Final}
use Rattle.zq_query.specs.declared.records.Timeout.{Timeout}
use Rattle.zq_query.specs.Polling.{timeouts}
use Rattle.zq_tables.specs.Naming.{NamingState}
use Rattle.zq_machine.specs.declared.call.Call.{Call}
use Rattle.zq_machine.specs.declared.call.Call.TheVariants as call
use Rattle.zq_machine.specs.declared.face.OpenFace.{OpenFace}
use Rattle.zq_machine.specs.Asked.{is_declaration}
use Rattle.zq_machine.specs.Handing.{Handed}
use Rattle.zq_machine.specs.Configs.{Settings}
use Rattle.zq_machine.specs.Deciding.{handed_timeouts, is_accepted, passing_finals, timed_out}
use Rattle.zq_machine.specs.Gates.{Gates, through}
use Rattle.zq_machine.specs.Headline.{HandsEach, IsFit, declares, is_final, is_of_request, is_response, may_hand, none_leaves, own_final}
use Rattle.zq_machine.specs.Machine.{step}
use Rattle.zq_machine.specs.State.{State}
use Rattle.zq_machine.specs.Writing.{sent_final, write}
use Rattle.zq_machine.proofs.Lists.{all_passing, all_weaker}
use Rattle.zq_trace.specs.Faces.{Trace}
use Rattle.zq_trace.specs.Headline.{kind, of_kind}
use Rattle.zq_trace.proofs.Requests.{nothing_handed, one_kind}
use Rattle.zq_trace.proofs.Runs.{IsRun, call_promise, reached}

abbrev pub AreOf : ℕ → List Handed → Type 0
AreOf k hs = AllByRecursion (λ (h : Handed). kind h.message ≡ k) hs

abbrev pub IsOrdered : List Handed → Type 0
IsOrdered hs = of_kind 0 hs ++ of_kind 1 hs ++ of_kind 2 hs ++ of_kind 3 hs ≡ hs

pub its_kind : (k : ℕ) (hs : List Handed) → AreOf k hs → of_kind k hs ≡ hs
its_kind k [] all = refl
its_kind k (h ∷ hs) all = ap (λ b. cond b (h ∷ of_kind k hs) (of_kind k hs)) (eq-eqb (kind h.message) k all.0) ∙ ap (λ l. h ∷ l) (its_kind k hs all.1)

pub other_kind : (k j : ℕ) (hs : List Handed) → (k ≡ j → ⊥) → AreOf k hs → of_kind j hs ≡ []
other_kind k j [] apart all = refl
other_kind k j (h ∷ hs) apart all = ap (λ b. cond b (h ∷ of_kind j hs) (of_kind j hs)) (ne_eqb (kind h.message) j (λ e. apart (sym all.0 ∙ e))) ∙ other_kind k j hs apart all.1

module _ (rs bs cs ds : List Handed) (a : AreOf 0 rs) (b : AreOf 1 bs) (c : AreOf 2 cs) (d : AreOf 3 ds) where
  abbrev pub whole : List Handed
  whole = rs ++ (bs ++ (cs ++ ds))

  split : (k : ℕ) → of_kind k whole ≡ of_kind k rs ++ (of_kind k bs ++ (of_kind k cs ++ of_kind k ds))
  split k =
      filter-append (λ (h : Handed). kind h.message == k) rs (bs ++ (cs ++ ds))
      ∙ ap (λ l. of_kind k rs ++ l) (filter-append (λ (h : Handed). kind h.message == k) bs (cs ++ ds) ∙ ap (λ l. of_kind k bs ++ l) (filter-append (λ (h : Handed). kind h.message == k) cs ds))

  first : of_kind 0 whole ≡ rs
  first = split 0 ∙ (λ j. its_kind 0 rs a j ++ (other_kind 1 0 bs (λ e. absurd (let x : 1 ≡ 0 = e in omega (arith, x))) b j ++ (other_kind 2 0 cs (λ e. absurd (let x : 2 ≡ 0 = e in omega (arith, x))) c j ++ other_kind 3 0 ds (λ e. absurd (let x : 3 ≡ 0 = e in omega (arith, x))) d j))) ∙ append-nil rs

  second : of_kind 1 whole ≡ bs
  second = split 1 ∙ (λ j. other_kind 0 1 rs (λ e. absurd (let x : 0 ≡ 1 = e in omega (arith, x))) a j ++ (its_kind 1 bs b j ++ (other_kind 2 1 cs (λ e. absurd (let x : 2 ≡ 1 = e in omega (arith, x))) c j ++ other_kind 3 1 ds (λ e. absurd (let x : 3 ≡ 1 = e in omega (arith, x))) d j))) ∙ append-nil bs

  third : of_kind 2 whole ≡ cs
  third = split 2 ∙ (λ j. other_kind 0 2 rs (λ e. absurd (let x : 0 ≡ 2 = e in omega (arith, x))) a j ++ (other_kind 1 2 bs (λ e. absurd (let x : 1 ≡ 2 = e in omega (arith, x))) b j ++ (its_kind 2 cs c j ++ other_kind 3 2 ds (λ e. absurd (let x : 3 ≡ 2 = e in omega (arith, x))) d j))) ∙ append-nil cs

  fourth : of_kind 3 whole ≡ ds
  fourth = split 3 ∙ (λ j. other_kind 0 3 rs (λ e. absurd (let x : 0 ≡ 3 = e in omega (arith, x))) a j ++ (other_kind 1 3 bs (λ e. absurd (let x : 1 ≡ 3 = e in omega (arith, x))) b j ++ (other_kind 2 3 cs (λ e. absurd (let x : 2 ≡ 3 = e in omega (arith, x))) c j ++ its_kind 3 ds d j)))

  pub all_ordered : IsOrdered whole
  all_ordered = (λ j. first j ++ second j ++ third j ++ fourth j) ∙ append_assoc (rs ++ bs) cs ds ∙ append_assoc rs bs (cs ++ ds)

-- ---- kinds by what a call may hand
pub response_kind : (m : Message) → is_response m ≡ true → kind m ≡ 1
response_kind (message.Request r) h = absurd (false≢true h)
response_kind (message.Response r) h = refl
response_kind (message.ResponseFinal r) h = absurd (false≢true h)
response_kind (message.Interest r) h = absurd (false≢true h)
response_kind (message.InterestFinal r) h = absurd (false≢true h)
response_kind (message.Declare r) h = absurd (false≢true h)

final_kind : (m : Message) → is_final m ≡ true → kind m ≡ 2
final_kind (message.Request r) h = absurd (false≢true h)
final_kind (message.Response r) h = absurd (false≢true h)
final_kind (message.ResponseFinal r) h = refl
final_kind (message.Interest r) h = absurd (false≢true h)
final_kind (message.InterestFinal r) h = absurd (false≢true h)
final_kind (message.Declare r) h = absurd (false≢true h)

declared_kind : (m : Message) → is_declaration m ≡ true → kind m ≡ 3
declared_kind (message.Request r) h = absurd (false≢true h)
declared_kind (message.Response r) h = absurd (false≢true h)
declared_kind (message.ResponseFinal r) h = absurd (false≢true h)
declared_kind (message.Interest r) h = refl
declared_kind (message.InterestFinal r) h = refl
declared_kind (message.Declare r) h = refl

other_than : (m : Message) → not (is_declaration m) ≡ true → (is_final m || is_declaration m) ≡ true → kind m ≡ 2
other_than m h may = by (or_cases (is_final m) (is_declaration m) may)
  where
    by : (is_final m ≡ true) ⊎ (is_declaration m ≡ true) → kind m ≡ 2
    by (inl e) = final_kind m e
    by (inr e) = absurd (true≢false (sym h ∙ ap not e))

pub replies_kind : (names : NamingState) (gates : Gates) (faces : List (ℕ × OpenFace)) (ts : List Timeout) → AreOf 1 (map (through [] gates) (write names (handed_timeouts faces ts)))
replies_kind names gates faces [] = tt
replies_kind names gates faces (t ∷ ts) = by t.reply (replies_kind names gates faces ts)
  where
    by : (o : Option ℕ) → AreOf 1 (map (through [] gates) (write names (handed_timeouts faces ts))) → AreOf 1 (map (through [] gates) (write names (cons_option (option_map (timed_out faces t) o) [] ++ handed_timeouts faces ts)))
    by None rest = rest
    by (Some k) rest = (refl, rest)

pub finals_kind : (fs : List Final) → AreOf 2 (map sent_final fs)
finals_kind [] = tt
finals_kind (f ∷ fs) = (refl, finals_kind fs)

module _ (config : Settings) (past : Trace) (run : IsRun config past) where
  abbrev s : State
  s = reached config past

  fits : (k : ℕ) (c : Call) → ((m : Message) → may_hand c m ≡ true → kind m ≡ k) → AreOf k (step s c).handed
  fits k c is = all_weaker (IsFit (may_hand c)) (λ (h : Handed). kind h.message ≡ k) (λ h fit. is h.message fit.kind) (step s c).handed (call_promise config past c).fit

  only_replies : (c : Call) → ((m : Message) → may_hand c m ≡ true → kind m ≡ 1) → IsOrdered (step s c).handed
  only_replies c is = subst IsOrdered (append-nil (step s c).handed) (all_ordered [] (step s c).handed [] [] tt (fits 1 c is) tt tt)

  only_finals : (c : Call) → ((m : Message) → may_hand c m ≡ true → kind m ≡ 2) → IsOrdered (step s c).handed
  only_finals c is = subst IsOrdered (append-nil (step s c).handed) (all_ordered [] [] (step s c).handed [] tt tt (fits 2 c is) tt)

  only_declarations : (c : Call) → ((m : Message) → may_hand c m ≡ true → kind m ≡ 3) → IsOrdered (step s c).handed
  only_declarations c is = all_ordered [] [] [] (step s c).handed tt tt tt (fits 3 c is)

  each_kind : (q : List ℕ) (r : Request) (os : List QueryTargetQabl) (hs : List Handed) → HandsEach s q r os hs → AreOf 0 hs
  each_kind q r [] [] each = tt
  each_kind q r [] (h ∷ hs) each = absurd each
  each_kind q r (o ∷ os) [] each = absurd each
  each_kind q r (o ∷ os) (h ∷ hs) each = (one_kind config past run q r o h each.0, each_kind q r os hs each.1)

  end_is : (b : Bool) (face : FaceId) (r : Request) → AreOf 2 (if b then own_final s face r ∷ [] else [])
  end_is true face r = (refl, tt)
  end_is false face r = tt

  none_ordered : (c : Call) → is_accepted (step s c).outcome ≡ false → IsOrdered (step s c).handed
  none_ordered c h = subst IsOrdered (sym (nothing_handed s c (call_promise config past c) h)) refl

  pub ordered : (c : Call) → IsOrdered (step s c).handed
  ordered (call.Request face r now) = by (is_accepted (step s (call.Request face r now)).outcome) refl
    where
      by : (b : Bool) → is_accepted (step s (call.Request face r now)).outcome ≡ b → IsOrdered (step s (call.Request face r now)).handed
      by false h = none_ordered (call.Request face r now) h
      by true h =
          let p = ((call_promise config past (call.Request face r now)).requests h).1 in
          let end' : List Handed = if none_leaves p.requests then own_final s face r ∷ [] else [] in
          subst IsOrdered (ap (λ l. p.requests ++ l) (append-nil end') ∙ sym p.all) (all_ordered p.requests [] end' [] (each_kind _ r _ p.requests p.each) tt (end_is (none_leaves p.requests) face r) tt)
  ordered (call.Response face r) = only_replies (call.Response face r) response_kind
  ordered (call.ResponseFinal face rid) = only_finals (call.ResponseFinal face rid) final_kind
  ordered (call.Sent reply) = only_finals (call.Sent reply) final_kind
  ordered (call.Poll now) = by (is_accepted (step s (call.Poll now)).outcome) refl
    where
      by : (b : Bool) → is_accepted (step s (call.Poll now)).outcome ≡ b → IsOrdered (step s (call.Poll now)).handed
      by false h = none_ordered (call.Poll now) h
      by true h =
          let rs = map (through [] s.gates) (write s.names (handed_timeouts s.core.faces (timeouts now s.core.queries))) in
          let fs = map sent_final (passing_finals now s.core.queries) in
          subst IsOrdered (ap (λ l. rs ++ l) (append-nil fs) ∙ sym ((call_promise config past (call.Poll now)).replies h))
          (all_ordered [] rs fs [] tt (replies_kind s.names s.gates s.core.faces (timeouts now s.core.queries)) (finals_kind (passing_finals now s.core.queries)) tt)
  ordered (call.Close face) =
      let hs = (step s (call.Close face)).handed in
      let p = call_promise config past (call.Close face) in
      subst IsOrdered p.behind
      (all_ordered [] [] (filter is_of_request hs) (filter declares hs) tt tt
      (all_passing (IsFit (may_hand (call.Close face))) (λ (h : Handed). kind h.message ≡ 2) is_of_request (λ h test fit. other_than h.message test fit.kind) hs p.fit)
      (all_passing (IsFit (may_hand (call.Close face))) (λ (h : Handed). kind h.message ≡ 3) declares (λ h test fit. declared_kind h.message test) hs p.fit))
  ordered (call.Open o) = only_declarations (call.Open o) declared_kind
  ordered (call.DeclareQueryable face id wire info node) = only_declarations (call.DeclareQueryable face id wire info node) declared_kind
  ordered (call.UndeclareQueryable face id wire node) = only_declarations (call.UndeclareQueryable face id wire node) declared_kind
  ordered (call.SetNetwork r net) = only_declarations (call.SetNetwork r net) declared_kind
  ordered (call.Interest face id keys aggregate wire) = only_declarations (call.Interest face id keys aggregate wire) declared_kind
  ordered (call.InterestFinal face id) = only_declarations (call.InterestFinal face id) declared_kind
  ordered c = only_declarations c (λ m h. absurd (false≢true h))
