-- Numbers that a call declares stand directly before their first use.
use Rattle.std.proofs.Common.{◌≡◌, ◌∙◌, refl, sym, ap, subst, ℕ, Bool, true, false, cond, List, [], ◌∷◌, ◌++◌, length, drop, Option, Some, None}
use Rattle.std.specs.Prelude.{◌==◌, unwrap_or, is_some}
use Rattle.std.specs.List.{AllByRecursion}
use Rattle.std.specs.Option.{option_map_or}
use Rattle.std.proofs.lemmas.Bool.{or_parts}
use Rattle.zq_message.specs.declared.message.Declare.{Declare}
use Rattle.zq_message.specs.declared.message.DeclareBody.TheVariants as body
use Rattle.zq_message.specs.declared.message.FaceId.{FaceId}
use Rattle.zq_message.specs.declared.message.Mapping.{Mapping}
use Rattle.zq_message.specs.declared.message.Mapping.TheVariants as mapping
use Rattle.zq_message.specs.declared.message.WireExpr.{WireExpr}
use Rattle.zq_names.specs.Texts.{nonwild}
use Rattle.zq_tables.specs.FaceIds.{next_id}
use Rattle.zq_tables.specs.FaceTexts.{declared_key, known, known_choice, least_name, new_choice, or_else, prefix_key, tagged, whole_key, with_declared}
use Rattle.zq_tables.specs.declared.decl.DeclKey.{DeclKey}
use Rattle.zq_tables.proofs.IdLemmas.{free_from-least, of_id-with_id}
use Rattle.zq_tables.specs.Naming.{FaceNaming, NamingState, change_naming, face_naming, naming_at, text_at, with_told_number}
use Rattle.zq_machine.specs.declared.call.Call.{Call}
use Rattle.zq_machine.specs.Configs.{Settings}
use Rattle.zq_machine.specs.Deciding.{granted, renamed, told_of}
use Rattle.zq_machine.specs.Direct.{AreDirect, IsDirectBody, is_declared_to, number_in, number_of}
use Rattle.zq_machine.specs.Handing.{Handed}
use Rattle.zq_machine.specs.Headline.{NumberPromise}
use Rattle.zq_machine.specs.Hearing.{CanBeTold, heard_body}
use Rattle.zq_machine.specs.Machine.{accepted_state, follow}
use Rattle.zq_machine.specs.Messages.{Telling, TellingBody, TextMessage, all_told, key_ended, key_told, text_final, text_reply, text_request}
use Rattle.zq_machine.specs.State.{Core, State}
use Rattle.zq_machine.specs.TextCalls.{read}
use Rattle.zq_machine.specs.Writing.{and_then, is_local_face, may_number, tell, tell_body, tell_declare, tell_number, told_key, write, finish}
use Rattle.zq_machine.proofs.Agreed.{InOrder, granted_in_order}
use Rattle.zq_machine.proofs.GoingOut.{direct_ended, direct_out}
use Rattle.zq_machine.proofs.Granted.{by_granted, told_by}
use Rattle.zq_machine.proofs.NeighboursTold.{due_can}
use Rattle.zq_machine.proofs.Hearing.{Stands, all_open, found_there, known_stands, positive}
use Rattle.zq_machine.proofs.Tells.{followed}

-- ---- the number that an expression uses stands at its face, or is new and declared with it
abbrev Fits : FaceNaming → List ℕ → Option ℕ → WireExpr → Type 0
Fits n p None w = option_map_or (λ id. is_some (text_at id n.ours)) (number_in w) true ≡ true
Fits n p (Some id) w = (is_some (text_at id n.ours) ≡ false) × ((number_in w ≡ Some id) × (least_name p n.ours ≡ None))

-- a part that no number stands for has none of the gateway's
unknown_ours : (theirs ours : Option ℕ) → or_else (tagged mapping.Receiver theirs) (tagged mapping.Sender ours) ≡ None → ours ≡ None
unknown_ours None None e = refl
unknown_ours None (Some id) e = absurd (let gap : Some (id, mapping.Sender) ≡ None = e in cc)
unknown_ours (Some id) ours e = absurd (let gap : Some (id, mapping.Receiver) ≡ None = e in cc)

module _ (n : FaceNaming) (text : List ℕ) where
  abbrev FitsKey : List ℕ → DeclKey → Type 0
  FitsKey p d = Fits n p d.declared d.wire

  new_fits : (p : List ℕ) → known n p ≡ None → (o : Option ℕ) → next_id n.theirs n.ours ≡ o → FitsKey p (unwrap_or (new_choice (drop (length p) text) o) (whole_key text))
  new_fits p none None e = refl
  new_fits p none (Some id) e =
      let least = free_from-least n.theirs n.ours 65535 1 id e in
      ((or_parts (is_some (text_at id n.theirs)) (is_some (text_at id n.ours)) least.2).1, (ap (λ b. cond b None (Some id)) (positive id least.0), unknown_ours (least_name p n.theirs) (least_name p n.ours) none))

  known_fits : (p : List ℕ) (may : Bool) (o : Option (ℕ × Mapping)) → known n p ≡ o → FitsKey p (unwrap_or (known_choice n may (drop (length p) text) o) (whole_key text))
  known_fits p may (Some x) e = by x.1 (known_stands n p x e)
    where
      unused : (b : Bool) → option_map_or (λ id. is_some (text_at id n.ours)) (cond b None None) true ≡ true
      unused true = refl
      unused false = refl

      by : (m : Mapping) → Stands n p (x.0, m) → Fits n p None (record { scope = x.0; mapping = m; suffix = drop (length p) text })
      by mapping.Receiver s = unused (x.0 == 0)
      by mapping.Sender s = ap (λ b. option_map_or (λ id. is_some (text_at id n.ours)) (cond b None (Some x.0)) true) s.number ∙ ap is_some s.stands
  known_fits p true None e = new_fits p e (next_id n.theirs n.ours) refl
  known_fits p false None e = refl

  part_fits : (may : Bool) (p : List ℕ) → FitsKey p (prefix_key n may text p)
  part_fits may [] = refl
  part_fits may (b ∷ p) = known_fits (b ∷ p) may (known n (b ∷ p)) refl

  key_fits : (local may : Bool) → FitsKey (nonwild text) (declared_key n local may text)
  key_fits true may = refl
  key_fits false may = part_fits may (nonwild text)

-- ---- one thing that is told
module _ (to : FaceId) (text : List ℕ) (make : DeclKey → Declare) (names : NamingState) (rest : NamingState → List Handed)
    (uses : (d : DeclKey) → number_of (make d).body ≡ number_in d.wire)
    (tells : (d : DeclKey) (z : NamingState) (hs : List Handed) → option_map_or (is_declared_to to z) (number_in d.wire) true ≡ true → IsDirectBody to (make d).body z hs)
    (quiet : (d : DeclKey) (z : NamingState) → heard_body to (make d).body z ≡ z)
    (there_is : is_some (naming_at to.0 names) ≡ true) where
  one_by : (d : DeclKey) (o : Option ℕ) → Fits (face_naming to.0 names) (nonwild text) o d.wire → AreDirect (rest (tell_number to text o names).names) (tell_number to text o names).names
      → AreDirect ((and_then (tell_number to text o names) (tell_declare to (make d))).handed ++ rest (tell_number to text o names).names) names
  one_by d None fits more = (tells d names (rest names) fits, subst (AreDirect (rest names)) (sym (quiet d names)) more)
  one_by d (Some id) fits more =
      let after = change_naming to.0 (with_told_number text (Some id)) names in
      let numbers : face_naming to.0 after ≡ with_declared (face_naming to.0 names) text (Some id) = found_there to.0 (with_told_number text (Some id)) names there_is in
      let stands : is_declared_to to after id ≡ true = ap (λ n. is_some (text_at id n.ours)) numbers ∙ ap is_some (of_id-with_id (face_naming to.0 names).ours id (nonwild text)) in (
        record { fresh = fits.0; first = fits.1.1; full = refl; used = (refl, uses d ∙ fits.1.0) },
        (
          tells d after (rest after) (ap (λ o. option_map_or (is_declared_to to after) o true) fits.1.0 ∙ stands),
          subst (AreDirect (rest after)) (sym (quiet d after)) more,
        ),
      )

one_direct : (c : Core) (t : Telling) (b : TellingBody) (names : NamingState) (rest : NamingState → List Handed) → is_some (naming_at t.to.0 names) ≡ true
    → AreDirect (rest (tell_body c t b names).names) (tell_body c t b names).names → AreDirect ((tell_body c t b names).handed ++ rest (tell_body c t b names).names) names
one_direct c t (key_told id text info) names rest there_is more =
    one_by t.to text (λ k. record { interest = t.interest; node = t.node; body = body.DeclareQueryable id k.wire info }) names rest (λ d. refl) (λ d z hs e. e) (λ d z. refl) there_is (told_key c t.to text names) (told_key c t.to text names).declared
    (key_fits (face_naming t.to.0 names) text (is_local_face t.to c) (may_number t.to (nonwild text) c)) more
one_direct c t (key_ended id None) names rest there_is more = (refl, more)
one_direct c t (key_ended id (Some text)) names rest there_is more =
    one_by t.to text (λ k. record { interest = t.interest; node = t.node; body = body.UndeclareQueryable id (Some k.wire) }) names rest (λ d. refl) (λ d z hs e. e) (λ d z. refl) there_is (told_key c t.to text names) (told_key c t.to text names).declared
    (key_fits (face_naming t.to.0 names) text (is_local_face t.to c) (may_number t.to (nonwild text) c)) more
one_direct c t all_told names rest there_is more = (refl, more)

-- ---- all that is told
told_direct : (c : Core) (ts : List Telling) (names : NamingState) → AllByRecursion (CanBeTold names) ts → AreDirect (tell c ts names).handed names
told_direct c [] names all = tt
told_direct c (t ∷ ts) names all =
    one_direct c t t.body names (λ z. (tell c ts z).handed) all.0.0
    (told_direct c ts (tell_body c t t.body names).names (all_open c t names ts all.1))

-- ---- a call: messages of requests declare no number
written_direct : (names : NamingState) (ms : List TextMessage) (rest : List Handed) (z : NamingState) → AreDirect rest z → AreDirect (write names ms ++ rest) z
written_direct names [] rest z more = more
written_direct names (text_request r ∷ ms) rest z more = (tt, written_direct names ms rest z more)
written_direct names (text_reply r ∷ ms) rest z more = (tt, written_direct names ms rest z more)
written_direct names (text_final f ∷ ms) rest z more = (tt, written_direct names ms rest z more)

pub number_promise : (config : Settings) (s : State) (c : Call) → InOrder config s → NumberPromise s c
number_promise config s c i =
    let t = read s c in
    by_granted (λ z w. AreDirect z.handed (follow s t).names) s t
    (λ text z w it. direct_out text z.handed w.gates (follow s t).names it)
    (λ p places z w it. direct_ended (finish w.core (p ∷ places)).finals z.handed (follow s t).names it)
    (λ h.
    subst (λ (z : State). AreDirect (write s.names (granted s.core t).messages ++ (told_by s t).handed) z.names) (sym (followed s t h))
    (written_direct s.names (granted s.core t).messages (told_by s t).handed (renamed s t)
    (told_direct (accepted_state s t).core (told_of s.core t) (renamed s t) (due_can config s i t h (granted_in_order config s c h i)))))
    (λ r. tt)
