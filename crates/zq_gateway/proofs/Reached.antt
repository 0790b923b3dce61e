-- What holds of a gateway that calls made: faces, hats and what stands for keys agree, the next number is no face's, and what is kept of each open face is what is due to it.
use Rattle.std.specs.Prelude.{◌<◌, ◌^◌}
use Rattle.std.proofs.Common.{◌≡◌, ◌∙◌, refl, sym, ap, subst, ℕ, true, false, List, [], ◌∷◌, ◌++◌, Option, Some, None, Result, Ok, Err}
use Rattle.std.specs.Option.{is_some, option_map, option_map_or}
use Rattle.std.proofs.lemmas.Bool.{true≢false}
use Rattle.std.proofs.lemmas.Option.{same_Some}
use Rattle.zq_message.specs.declared.memory.OutOfMemory.{OutOfMemory}
use Rattle.zq_message.specs.declared.message.Region.{Region}
use Rattle.zq_message.specs.Region.{region_index}
use Rattle.zq_strategy.specs.State.{HatState}
use Rattle.zq_strategy.specs.Kept.{has_face}
use Rattle.zq_tables.specs.Naming.{naming_at}
use Rattle.zq_told.specs.ToldSets.{at_face}
use Rattle.zq_machine.specs.declared.call.Call.{Call}
use Rattle.zq_machine.specs.declared.call.Step.{Step}
use Rattle.zq_machine.specs.declared.face.OpenFace.{OpenFace}
use Rattle.zq_machine.specs.Agreeing.{stands_in}
use Rattle.zq_machine.specs.Configs.{Settings}
use Rattle.zq_machine.specs.Deciding.{lacks_told, refusal_of}
use Rattle.zq_machine.specs.Machine.{after, state_after}
use Rattle.zq_machine.specs.Receivers.{makes_due}
use Rattle.zq_machine.specs.TextCalls.{TextCall}
use Rattle.zq_machine.specs.State.{State, at, face_region, has_hat, hat_at, opening_state, region_in}
use Rattle.zq_machine.proofs.Agreed.{InOrder, next_absent, run_in_order}
use Rattle.zq_machine.proofs.Agreeing.{some_of}
use Rattle.zq_machine.proofs.Changing.{itself, number_test}
use Rattle.zq_machine.proofs.Frame.{run_config}
use Rattle.zq_machine.proofs.Keeping.{Keeps, is_plain, run_keeps}
use Rattle.zq_machine.specs.Keeping.{heard_in, last_in}
use Rattle.zq_gateway.specs.Making.{Answers, IsReached, MayMake}
use Rattle.zq_gateway.proofs.Hearing.{enough_told}
use Rattle.zq_dispatcher.specs.Seats.{seats}

-- ---- a call more
state_last : (cs : List Call) (s : State) (c : Call) → state_after s (cs ++ c ∷ []) ≡ after (state_after s cs) c
state_last [] s c = refl
state_last (d ∷ cs) s c = state_last cs (after s d) c

pub reached_opening : (config : Settings) → config.start.told < 2 ^ 32 → IsReached (opening_state config)
reached_opening config low = record { config = config; low = low; calls = []; here = refl }

pub reached_after : (s z : State) (c : Call) → IsReached s → z ≡ after s c → IsReached z
reached_after s z c r e = record {
  config = r.config;
  low = r.low;
  calls = r.calls ++ c ∷ [];
  here = e ∙ ap (λ x. after x c) r.here ∙ sym (state_last r.calls (opening_state r.config) c);
}

pub reached_given : (s z : State) (c : Call) (t : Step) (r : Result Step OutOfMemory) → Answers s z t (after s c) r → IsReached s → IsReached z
reached_given s z c t (Ok x) g i = reached_after s z c i g.after
reached_given s z c t (Err e) g i = subst IsReached (sym g.err) i

pub reached_may : (s z : State) (o : Option Call) (r : Result Step OutOfMemory) → MayMake s z o r → IsReached s → IsReached z
reached_may s z None (Ok x) g i = subst IsReached (sym g.after) i
reached_may s z None (Err e) g i = subst IsReached (sym g.err) i
reached_may s z (Some c) r g i = reached_given s z c _ r g i

-- ---- what holds of it
pub reached_in_order : (s : State) (i : IsReached s) → InOrder i.config s
reached_in_order s i = subst (InOrder i.config) (sym i.here) (run_in_order i.config i.calls)

-- what is kept of each open face is what is due to it
pub reached_keeps : (s : State) (i : IsReached s) → Keeps i.config.start.told s.core (λ face. heard_in face i.config i.calls) (λ face. last_in face i.config i.calls)
reached_keeps s i = subst (λ (z : State). Keeps i.config.start.told z.core (λ face. heard_in face i.config i.calls) (λ face. last_in face i.config i.calls)) (sym i.here) (run_keeps i.config i.calls)

gone : {X : Type 0} (o : Option X) → is_some o ≡ false → o ≡ None
gone None e = refl
gone (Some x) e = absurd (true≢false e)

-- the next number is no open face's
pub reached_absent : (s : State) → IsReached s → at s.core.next_face s.core.faces ≡ None
reached_absent s i = next_absent s (reached_in_order s i).sound

-- nothing stands for keys at it
pub reached_unnamed : (s : State) → IsReached s → naming_at s.core.next_face s.names ≡ None
reached_unnamed s i = gone (naming_at s.core.next_face s.names) ((reached_in_order s i).tied.named s.core.next_face ∙ ap is_some (reached_absent s i))

-- nothing is kept of it
pub reached_unheard : (s : State) → IsReached s → at_face s.core.next_face s.core.ears ≡ None
reached_unheard s i = gone (at_face s.core.next_face s.core.ears) (((reached_keeps s i).ears i.low).faces s.core.next_face ∙ ap is_some (reached_absent s i))

-- and it is in no hat
pub reached_vacant : (s : State) (r : Region) → IsReached s → has_hat r s.core ≡ true → seats r s.core.next_face s.core.hats ≡ Some false
reached_vacant s r i there =
    let h : (h : HatState) × (hat_at r s.core.hats ≡ Some h) = some_of (hat_at r s.core.hats) there in
    ap (option_map (has_face s.core.next_face)) h.1
    ∙ ap Some ((reached_in_order s i).tied.seats r h.0 s.core.next_face h.1 ∙ ap (λ o. option_map_or (stands_in r) o false) (reached_absent s i))

-- the hat of an open face's region has the face
pub reached_seated : (s : State) (face : ℕ) (r : Region) → IsReached s → face_region face s.core ≡ Some r → seats r face s.core.hats ≡ Some true
reached_seated s face r i e = by (at face s.core.faces) refl e
  where
    by : (o : Option OpenFace) → at face s.core.faces ≡ o → option_map region_in o ≡ Some r → seats r face s.core.hats ≡ Some true
    by None seen f = absurd (let gap : None ≡ Some r = f in cc)
    by (Some o) seen f =
        let h : (h : HatState) × (hat_at o.region s.core.hats ≡ Some h) = some_of (hat_at o.region s.core.hats) ((reached_in_order s i).tied.homes face o seen) in
        let open_here = ap (λ x. option_map_or (stands_in o.region) x false) seen ∙ sym (number_test (region_index o.region) (region_index o.region)) ∙ itself (region_index o.region) in
        let found : seats o.region face s.core.hats ≡ Some true = ap (option_map (has_face face)) h.1 ∙ ap Some ((reached_in_order s i).tied.seats o.region h.0 face h.1 ∙ open_here) in
        subst (λ x. seats x face s.core.hats ≡ Some true) (same_Some _ _ f) found

-- the configuration's first told id stays
reached_low : (s : State) (i : IsReached s) → s.core.config.start.told < 2 ^ 32
reached_low s i = subst (λ (x : Settings). x.start.told < 2 ^ 32) (sym (ap (λ (z : State). z.core.config) i.here ∙ run_config i.calls (opening_state i.config))) i.low

-- no ids lack to a call that opens no face, declares nothing and asks nothing
pub reached_enough : (s : State) → IsReached s → (t : TextCall) → refusal_of s.core t ≡ None → is_plain t ≡ true → makes_due t ≡ false → lacks_told s.core t ≡ false
reached_enough s i t fits plain none = enough_told i.config s (reached_in_order s i) (reached_low s i) ((reached_keeps s i).ears i.low).sound ((reached_keeps s i).ears i.low).all t fits plain none
