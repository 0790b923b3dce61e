-- On each key that a call does not touch faces hear what they heard, also where a face lacks ids for what the call would tell it.
use Rattle.std.proofs.Common.{◌≡◌, ◌∙◌, refl, sym, ap, ℕ, Bool, true, false, cond, not, List, [], ◌∷◌, fold, Option, Some, None}
use Rattle.std.specs.BTreeMap.{is_at}
use Rattle.std.specs.Cmp.{nat_cmp_total}
use Rattle.std.specs.List.{list_any}
use Rattle.std.specs.Map.{remove_entry}
use Rattle.std.specs.Option.{is_some, option_and_then, option_map_or}
use Rattle.std.specs.Ordering.{nat_cmp}
use Rattle.std.proofs.lemmas.Map.Lookups.{exact_unsigned}
use Rattle.zq_key.proofs.Lookups.{found_after_removal}
use Rattle.zq_message.specs.declared.message.FaceId.{FaceId}
use Rattle.zq_message.specs.declared.message.QueryableInfoType.{QueryableInfoType}
use Rattle.zq_message.specs.declared.message.Region.{Region}
use Rattle.zq_key.specs.Key.{is_key}
use Rattle.zq_strategy.specs.Kept.{clashes_at, keys_of_face}
use Rattle.zq_strategy.specs.State.{HatState}
use Rattle.zq_index.specs.Texts.{has_text}
use Rattle.zq_tables.specs.declared.resolved.Resolved.TheVariants as said
use Rattle.zq_told.specs.declared.types.FaceUpdate.{FaceUpdate}
use Rattle.zq_told.specs.declared.types.Reason.{Reason}
use Rattle.zq_told.specs.declared.types.Reason.TheVariants.{Update}
use Rattle.zq_told.specs.Telling.{is_above, lacks_ids, tell_face}
use Rattle.zq_told.specs.declared.types.Planned.{Planned}
use Rattle.zq_machine.specs.declared.call.Refusal.{Refusal}
use Rattle.zq_machine.specs.declared.call.Refusal.TheVariants as refusal
use Rattle.zq_machine.specs.declared.face.OpenFace.{OpenFace}
use Rattle.zq_machine.specs.Deciding.{accepted, changed, interests_for, lacks_told, refusal_of}
use Rattle.zq_machine.specs.Due.{heard_as, heard_touched}
use Rattle.zq_machine.specs.Neighbours.{looked_at}
use Rattle.zq_machine.specs.State.{Core, State, at, clashes_in, face_region, hat_at, hat_of}
use Rattle.zq_machine.specs.TextCalls.{TextCall, closing, declaring}
use Rattle.zq_machine.specs.Trees.{touched}
use Rattle.zq_machine.proofs.Agreed.{InOrder}
use Rattle.zq_machine.proofs.DueWhole.{heard_kept}
use Rattle.zq_dispatcher.specs.Dues.{IsBeside}
use Rattle.zq_dispatcher.proofs.Heard.{heard_here}
use Rattle.zq_gateway.specs.Making.{IsReached}
use Rattle.zq_gateway.proofs.Due.{hat_home, opened_there}
use Rattle.zq_gateway.proofs.Reached.{reached_in_order}

-- ---- where nothing is kept of faces none lacks an id
none_told : (way : Reason) (ds : List FaceUpdate) (p : Planned) → fold (tell_face way []) p ds ≡ p
none_told way [] p = refl
none_told way (d ∷ ds) p = none_told way ds p

pub none_lacks : (way : Reason) (ds : List FaceUpdate) → lacks_ids way [] ds ≡ false
none_lacks way ds = ap (λ (p : Planned). list_any is_above p.plan) (none_told way ds (record { plan = []; tellings = [] }))

module _ (s : State) (i : IsReached s) where
  -- the same with nothing kept of faces
  abbrev pub quiet : State
  quiet = record s { core = record s.core { ears = [] } }

  quiet_order : InOrder i.config quiet
  quiet_order =
      let o = reached_in_order s i in
      record { sound = o.sound; tied = o.tied; routed = o.routed; hats = o.hats; numbered = o.numbered; aims = o.aims; worded = o.worded; asked = o.asked; foreign = o.foreign; gated = o.gated; spaces = o.spaces }

  module _ (t : TextCall) (fits : refusal_of quiet.core t ≡ None) (keys : List (List ℕ)) (touches : (face : ℕ) → heard_touched quiet.core t face ≡ keys)
      (same_hats : (accepted quiet.core t).hats ≡ (accepted s.core t).hats) (same_faces : (accepted quiet.core t).faces ≡ (accepted s.core t).faces)
      (stays : (face : ℕ) (o : OpenFace) → at face (accepted s.core t).faces ≡ Some o → at face s.core.faces ≡ Some o) where
    pub beside : IsBeside (accepted s.core t) s.core.hats keys
    beside face o seen key off =
        heard_here (accepted s.core t) face o seen key
        ∙ sym (λ j. option_and_then (heard_as face key (same_hats j)) (at face (same_faces j)))
        ∙ heard_kept i.config quiet quiet_order [] face t fits (ap is_some (ap (at face) same_faces ∙ seen)) key (ap (has_text key) (touches face) ∙ off)
        ∙ sym (heard_here s.core face o (stays face o seen) key)

-- ---- a declaration that nothing else refuses
module _ (s : State) (face : FaceId) (id : ℕ) (r : Region) (home : face_region face.0 s.core ≡ Some r) (h : HatState) (there : hat_at r s.core.hats ≡ Some h) (text : List ℕ) (info : QueryableInfoType) (node : ℕ) where
  abbrev silent : Core
  silent = record s.core { ears = [] }

  abbrev t : TextCall
  t = declaring face id (said.Full text) info node

  pub declares_quietly : is_key text ≡ true → clashes_at face.0 id text h ≡ false → refusal_of silent t ≡ None
  declares_quietly valid free =
      let lacks : Option Refusal = cond (lacks_told silent t) (Some refusal.NoFreeId) None in
      let clashes : Option Refusal = cond (clashes_in face.0 id text (hat_of face.0 s.core)) (Some refusal.IdInUse) lacks in
      ap (λ b. cond (not b) (Some refusal.UnknownFace) (cond (not (is_key text)) (Some refusal.InvalidKeyExpr) clashes)) (opened_there face.0 r s.core home)
      ∙ ap (λ b. cond (not b) (Some refusal.InvalidKeyExpr) clashes) valid
      ∙ ap (λ x. cond (clashes_in face.0 id text x) (Some refusal.IdInUse) lacks) (hat_home face.0 r s.core home ∙ there)
      ∙ ap (λ b. cond b (Some refusal.IdInUse) lacks) free
      ∙ ap (λ b. cond b (Some refusal.NoFreeId) None) (none_lacks Update (looked_at silent (changed silent t) (interests_for silent t) t))

-- the same by the hats and the keys that a body has
pub beside_at : (c : Core) {hats now : List (ℕ × HatState)} {keys texts : List (List ℕ)} → hats ≡ now → keys ≡ texts → IsBeside c now texts → IsBeside c hats keys
beside_at c hats keys b = λ face o seen key off. b face o seen key (ap (has_text key) (sym keys) ∙ off) ∙ sym (ap (λ l. heard_as face key l o) hats)

-- ---- a closing
-- its keys are those that the face declared
pub closing_touches : (s : State) (face : FaceId) (r : Region) → face_region face.0 s.core ≡ Some r → (keys : List (List ℕ)) → keys ≡ option_map_or (keys_of_face face.0) (hat_at r s.core.hats) [] → touched s.core (closing face) ≡ keys
closing_touches s face r home keys are = ap (λ (o : Option HatState). option_map_or (keys_of_face face.0) o []) (hat_home face.0 r s.core home) ∙ sym are

-- a face that is open after it was so before
pub closing_stays : (s : State) → IsReached s → (face f : ℕ) (o : OpenFace) → at f (remove_entry (is_at (nat_cmp face)) s.core.faces) ≡ Some o → at f s.core.faces ≡ Some o
closing_stays s i face f o seen = by (is_at (nat_cmp face) f) refl
  where
    found : at f (remove_entry (is_at (nat_cmp face)) s.core.faces) ≡ cond (is_at (nat_cmp face) f) None (at f s.core.faces)
    found = found_after_removal nat_cmp_total exact_unsigned face f s.core.faces (reached_in_order s i).sound.sorted

    by : (b : Bool) → is_at (nat_cmp face) f ≡ b → at f s.core.faces ≡ Some o
    by true e = absurd (let gap : None ≡ Some o = sym (found ∙ ap (λ b. cond b None (at f s.core.faces)) e) ∙ seen in cc)
    by false e = sym (found ∙ ap (λ b. cond b None (at f s.core.faces)) e) ∙ seen
