-- What gates make of what is handed: they set what leaves, and change nothing else of it. And finals behind messages, which no one hears as declarations.
use Rattle.std.proofs.Common.{◌≡◌, ◌∙◌, refl, ap, ℕ, Bool, true, false, cond, List, [], ◌∷◌, ◌++◌, map, fold, length, Option, Some, None, arith}
use Rattle.std.specs.Prelude.{◌&&◌, ◌||◌, is_none}
use Rattle.std.specs.List.{AllByRecursion, cons_option, filter, filter_map, list_any}
use Rattle.std.proofs.Math.Bool.{and-false}
use Rattle.zq_message.specs.declared.message.DeclareBody.{DeclareBody}
use Rattle.zq_message.specs.declared.message.DeclareBody.TheVariants as body
use Rattle.zq_message.specs.declared.message.FaceId.{FaceId}
use Rattle.zq_message.specs.declared.message.Message.{Message}
use Rattle.zq_message.specs.declared.message.ResponseFinal.{ResponseFinal}
use Rattle.zq_message.specs.declared.message.Message.TheVariants as message
use Rattle.zq_message.specs.declared.message.WireExpr.{WireExpr}
use Rattle.zq_namespace.specs.Denied.{space_leaves}
use Rattle.zq_namespace.specs.Leaves.{ExitState, gives}
use Rattle.zq_query.specs.declared.records.Final.{Final}
use Rattle.zq_tables.specs.Naming.{NamingState}
use Rattle.zq_machine.specs.Direct.{AreDirect, IsDirect, IsDirectBody, IsDirectMessage, IsUsedNext, heard_message}
use Rattle.zq_machine.specs.Gates.{Gate, Gates, Out, end_kept, ends_given, gate_at, keeping, leave_all, leaves_by, let_out, through, with_given, without_ended}
use Rattle.zq_machine.specs.Handing.{Handed}
use Rattle.zq_machine.specs.Headline.{asks}
use Rattle.zq_machine.specs.Hearing.{hear, hear_by}
use Rattle.zq_machine.specs.Messages.{TextMessage, text_final, text_reply, text_request}
use Rattle.zq_machine.specs.Writing.{sent_final, unsent, unsent_at, write}

-- ---- what does not look at what leaves is the same
-- the same of a message, whatever leaves of it
abbrev pub Overlooks : {X : Type 0} → (Handed → X) → Type 0
Overlooks f = (h : Handed) (left : Option Message) → f (record h { leaves = left }) ≡ f h

module _ (text : List ℕ) where
  pub any_out : (p : Handed → Bool) → Overlooks p → (hs : List Handed) (gates : Gates) → list_any p (let_out text hs gates).handed ≡ list_any p hs
  any_out p same [] gates = refl
  any_out p same (h ∷ hs) gates = λ j. same h (leaves_by (gate_at h.to.0 gates) text h.message) j || any_out p same hs (with_given (through text gates h) gates) j

  pub count_out : (p : Handed → Bool) → Overlooks p → (hs : List Handed) (gates : Gates) → length (filter p (let_out text hs gates).handed) ≡ length (filter p hs)
  count_out p same [] gates = refl
  count_out p same (h ∷ hs) gates =
      ap (λ b. length (cond b (k ∷ filter p ks) (filter p ks))) (same h (leaves_by (gate_at h.to.0 gates) text h.message)) ∙ by (p h) (count_out p same hs (with_given k gates))
    where
      k : Handed
      k = through text gates h

      ks : List Handed
      ks = (let_out text hs (with_given k gates)).handed

      by : (b : Bool) → length (filter p ks) ≡ length (filter p hs) → length (cond b (k ∷ filter p ks) (filter p ks)) ≡ length (cond b (h ∷ filter p hs) (filter p hs))
      by true e = omega (arith, e)
      by false e = e

  pub mapped_out : {X : Type 0} (f : Handed → Option X) → Overlooks f → (hs : List Handed) (gates : Gates) → filter_map f (let_out text hs gates).handed ≡ filter_map f hs
  mapped_out f same [] gates = refl
  mapped_out f same (h ∷ hs) gates = λ j. cons_option (same h (leaves_by (gate_at h.to.0 gates) text h.message) j) (mapped_out f same hs (with_given (through text gates h) gates) j)

  pub all_out : (P : Handed → Type 0) → ((h : Handed) (left : Option Message) → P h → P (record h { leaves = left })) → (hs : List Handed) (gates : Gates) → AllByRecursion P hs → AllByRecursion P (let_out text hs gates).handed
  all_out P keeps [] gates all = tt
  all_out P keeps (h ∷ hs) gates all = (keeps h (leaves_by (gate_at h.to.0 gates) text h.message) all.0, all_out P keeps hs (with_given (through text gates h) gates) all.1)

  pub fold_out : {X : Type 0} (f : X → Handed → X) → ((x : X) → Overlooks (f x)) → (hs : List Handed) (gates : Gates) (x : X) → fold f x (let_out text hs gates).handed ≡ fold f x hs
  fold_out f same [] gates x = refl
  fold_out f same (h ∷ hs) gates x =
      ap (λ y. fold f y (let_out text hs (with_given (through text gates h) gates)).handed) (same x h (leaves_by (gate_at h.to.0 gates) text h.message))
      ∙ fold_out f same hs (with_given (through text gates h) gates) (f x h)

  pub hear_out : (hs : List Handed) (gates : Gates) (names : NamingState) → hear (let_out text hs gates).handed names ≡ hear hs names
  hear_out [] gates names = refl
  hear_out (h ∷ hs) gates names = λ j. hear_by h.to h.message names (λ z. hear_out hs (with_given (through text gates h) gates) z j)

-- ---- a number stands directly before its first use, where the messages behind it begin as they did
abbrev BeginsSo : List Handed → List Handed → Type 0
BeginsSo hs ks = (to : FaceId) (id : ℕ) → IsUsedNext to id hs → IsUsedNext to id ks

number_direct : (to : FaceId) (id : ℕ) (w : WireExpr) (names : NamingState) (hs ks : List Handed) → BeginsSo hs ks → IsDirect to id w names hs → IsDirect to id w names ks
number_direct to id w names hs ks so d = record { fresh = d.fresh; first = d.first; full = d.full; used = so to id d.used }

body_direct : (to : FaceId) (b : DeclareBody) (names : NamingState) (hs ks : List Handed) → BeginsSo hs ks → IsDirectBody to b names hs → IsDirectBody to b names ks
body_direct to (body.DeclareKeyExpr id w) names hs ks so d = number_direct to id w names hs ks so d
body_direct to (body.UndeclareKeyExpr id) names hs ks so d = d
body_direct to (body.DeclareQueryable id w info) names hs ks so d = d
body_direct to (body.UndeclareQueryable id w) names hs ks so d = d
body_direct to body.DeclareFinal names hs ks so d = d

message_direct : (to : FaceId) (m : Message) (names : NamingState) (hs ks : List Handed) → BeginsSo hs ks → IsDirectMessage to m names hs → IsDirectMessage to m names ks
message_direct to (message.Declare d) names hs ks so is = body_direct to d.body names hs ks so is
message_direct to (message.Request r) names hs ks so is = tt
message_direct to (message.Response r) names hs ks so is = tt
message_direct to (message.ResponseFinal f) names hs ks so is = tt
message_direct to (message.Interest i) names hs ks so is = tt
message_direct to (message.InterestFinal i) names hs ks so is = tt

module _ (text : List ℕ) where
  begins_out : (hs : List Handed) (gates : Gates) → BeginsSo hs (let_out text hs gates).handed
  begins_out [] gates to id used = used
  begins_out (h ∷ hs) gates to id used = used

  pub direct_out : (hs : List Handed) (gates : Gates) (names : NamingState) → AreDirect hs names → AreDirect (let_out text hs gates).handed names
  direct_out [] gates names all = tt
  direct_out (h ∷ hs) gates names all =
      let more = with_given (through text gates h) gates in (
        message_direct h.to h.message names hs (let_out text hs more).handed (begins_out hs more) all.0,
        direct_out hs more (heard_message h.to h.message names) all.1,
      )

-- ---- finals behind messages
module _ (fs : List Final) where
  finals_unheard : (gs : List Final) (names : NamingState) → hear (map sent_final gs) names ≡ []
  finals_unheard [] names = refl
  finals_unheard (f ∷ gs) names = finals_unheard gs names

  pub hear_ended : (hs : List Handed) (names : NamingState) → hear (hs ++ map sent_final fs) names ≡ hear hs names
  hear_ended [] names = finals_unheard fs names
  hear_ended (h ∷ hs) names = λ j. hear_by h.to h.message names (λ z. hear_ended hs z j)

  begins_ended : (hs : List Handed) → BeginsSo hs (hs ++ map sent_final fs)
  begins_ended [] to id used = absurd used
  begins_ended (h ∷ hs) to id used = used

  finals_direct : (gs : List Final) (names : NamingState) → AreDirect (map sent_final gs) names
  finals_direct [] names = tt
  finals_direct (f ∷ gs) names = (tt, finals_direct gs names)

  pub direct_ended : (hs : List Handed) (names : NamingState) → AreDirect hs names → AreDirect (hs ++ map sent_final fs) names
  direct_ended [] names all = finals_direct fs names
  direct_ended (h ∷ hs) names all =
      (message_direct h.to h.message names hs (hs ++ map sent_final fs) (begins_ended hs) all.0, direct_ended hs (heard_message h.to h.message names) all.1)

-- what finals do not have
pub any_finals : (p : Handed → Bool) → ((f : Final) → p (sent_final f) ≡ false) → (fs : List Final) → list_any p (map sent_final fs) ≡ false
any_finals p none [] = refl
any_finals p none (f ∷ fs) = λ j. none f j || any_finals p none fs j

pub any_ended : (p : Handed → Bool) → ((f : Final) → p (sent_final f) ≡ false) → (hs : List Handed) (fs : List Final) → list_any p (hs ++ map sent_final fs) ≡ list_any p hs
any_ended p none [] fs = any_finals p none fs
any_ended p none (h ∷ hs) fs = ap (λ b. p h || b) (any_ended p none hs fs)

mapped_none : {X : Type 0} (f : Handed → Option X) → ((x : Final) → f (sent_final x) ≡ None) → (fs : List Final) → filter_map f (map sent_final fs) ≡ []
mapped_none f none [] = refl
mapped_none f none (x ∷ fs) = λ j. cons_option (none x j) (mapped_none f none fs j)

pub mapped_ended : {X : Type 0} (f : Handed → Option X) → ((x : Final) → f (sent_final x) ≡ None) → (hs : List Handed) (fs : List Final) → filter_map f (hs ++ map sent_final fs) ≡ filter_map f hs
mapped_ended f none [] fs = mapped_none f none fs
mapped_ended f none (h ∷ hs) fs = ap (cons_option (f h)) (mapped_ended f none hs fs)

fold_finals : {X : Type 0} (f : X → Handed → X) → ((x : X) (g : Final) → f x (sent_final g) ≡ x) → (fs : List Final) (x : X) → fold f x (map sent_final fs) ≡ x
fold_finals f none [] x = refl
fold_finals f none (g ∷ fs) x = ap (λ y. fold f y (map sent_final fs)) (none x g) ∙ fold_finals f none fs x

pub fold_ended : {X : Type 0} (f : X → Handed → X) → ((x : X) (g : Final) → f x (sent_final g) ≡ x) → (hs : List Handed) (fs : List Final) (x : X) → fold f x (hs ++ map sent_final fs) ≡ fold f x hs
fold_ended f none [] fs x = fold_finals f none fs x
fold_ended f none (h ∷ hs) fs x = fold_ended f none hs fs (f x h)

pub all_ended : (P : Handed → Type 0) (hs : List Handed) (fs : List Final) → AllByRecursion P hs → AllByRecursion (λ f. P (sent_final f)) fs → AllByRecursion P (hs ++ map sent_final fs)
all_ended P [] [] all each = tt
all_ended P [] (f ∷ fs) all each = (each.0, all_ended P [] fs tt each.1)
all_ended P (h ∷ hs) fs all each = (all.0, all_ended P hs fs all.1 each)

-- ---- messages that neither give nor end a number or an id: each goes out by itself
abbrev pub IsPlain : Handed → Type 0
IsPlain h = (gives h.message ≡ false) × (ends_given h.message ≡ false)

pub written_plain : (names : NamingState) (ms : List TextMessage) → AllByRecursion IsPlain (write names ms)
written_plain names [] = tt
written_plain names (text_request r ∷ ms) = ((refl, refl), written_plain names ms)
written_plain names (text_reply r ∷ ms) = ((refl, refl), written_plain names ms)
written_plain names (text_final f ∷ ms) = ((refl, refl), written_plain names ms)

none_given : (h : Handed) (gates : Gates) → gives h.message ≡ false → with_given h gates ≡ gates
none_given h gates e = ap (λ b. cond (is_none h.leaves && b) (keeping h gates) gates) e ∙ ap (λ b. cond b (keeping h gates) gates) (and-false (is_none h.leaves))

none_ended : (h : Handed) (gates : Gates) → ends_given h.message ≡ false → without_ended gates h ≡ gates
none_ended h gates e = ap (λ b. cond (is_none h.leaves && b) (keeping h gates) gates) e ∙ ap (λ b. cond b (keeping h gates) gates) (and-false (is_none h.leaves))

module _ (text : List ℕ) (gates : Gates) where
  each_out : (hs : List Handed) → AllByRecursion IsPlain hs → let_out text hs gates ≡ record { handed = map (through text gates) hs; gates = gates }
  each_out [] all = refl
  each_out (h ∷ hs) all =
      ap (λ (g : Gates). record (let_out text hs g) { handed = through text gates h ∷ (let_out text hs g).handed }) (none_given (through text gates h) gates all.0.0)
      ∙ ap (λ (o : Out). record o { handed = through text gates h ∷ o.handed }) (each_out hs all.1)

  kept_out : (hs : List Handed) → AllByRecursion IsPlain hs → fold without_ended gates (map (through text gates) hs) ≡ gates
  kept_out [] all = refl
  kept_out (h ∷ hs) all = ap (λ (g : Gates). fold without_ended g (map (through text gates) hs)) (none_ended (through text gates h) gates all.0.1) ∙ kept_out hs all.1

  pub plain_out : (hs : List Handed) → AllByRecursion IsPlain hs → leave_all text hs gates ≡ record { handed = map (through text gates) hs; gates = gates }
  plain_out hs all = ap end_kept (each_out hs all) ∙ ap (λ (g : Gates). record { handed = map (through text gates) hs; gates = g }) (kept_out hs all)

  pub any_through : (p : Handed → Bool) → Overlooks p → (hs : List Handed) → list_any p (map (through text gates) hs) ≡ list_any p hs
  any_through p same [] = refl
  any_through p same (h ∷ hs) = λ j. same h (leaves_by (gate_at h.to.0 gates) text h.message) j || any_through p same hs j

-- a final leaves by every gate
final_space : (o : Option ExitState) (f : ResponseFinal) → space_leaves o (message.ResponseFinal f) ≡ Some (message.ResponseFinal f)
final_space None f = refl
final_space (Some e) f = refl

pub final_leaves : (o : Option Gate) (text : List ℕ) (f : ResponseFinal) → leaves_by o text (message.ResponseFinal f) ≡ Some (message.ResponseFinal f)
final_leaves None text f = refl
final_leaves (Some g) text f = final_space g.exit.space f

pub final_through : (text : List ℕ) (gates : Gates) (f : Final) → through text gates (sent_final f) ≡ sent_final f
final_through text gates f = ap (λ l. record (sent_final f) { leaves = l }) (final_leaves (gate_at f.asker.0 gates) text (record { rid = f.id; qos = f.qos }))

-- ---- where nothing is a request, all requests leave
unsent_none : (to : FaceId) (m : Message) (left : Option Message) → asks (record { to = to; number = None; reply = None; message = m; leaves = left }) ≡ false → unsent_at to m left ≡ []
unsent_none to m (Some x) none = refl
unsent_none to (message.Request r) None none = absurd (let gap : true ≡ false = none in cc)
unsent_none to (message.Response r) None none = refl
unsent_none to (message.ResponseFinal f) None none = refl
unsent_none to (message.Interest i) None none = refl
unsent_none to (message.InterestFinal i) None none = refl
unsent_none to (message.Declare d) None none = refl

pub none_unsent : (hs : List Handed) → list_any asks hs ≡ false → unsent hs ≡ []
none_unsent [] none = refl
none_unsent (h ∷ hs) none = by (asks h) (list_any asks hs) refl refl none (none_unsent hs)
  where
    by : (a b : Bool) → asks h ≡ a → list_any asks hs ≡ b → (a || b) ≡ false → (list_any asks hs ≡ false → unsent hs ≡ []) → unsent_at h.to h.message h.leaves ++ unsent hs ≡ []
    by true b e k g more = absurd (let gap : true ≡ false = g in cc)
    by false true e k g more = absurd (let gap : true ≡ false = g in cc)
    by false false e k g more = (λ j. unsent_none h.to h.message h.leaves e j ++ more k j)
