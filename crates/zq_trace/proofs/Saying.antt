-- What a face says and reads by a run's trace is what the machine reads.
use Rattle.std.proofs.Common.{◌≡◌, ◌∙◌, refl, sym, ap, subst, ℕ, Option, Some, None, true≢false}
use Rattle.std.specs.Prelude.{unwrap_or}
use Rattle.std.specs.Option.{is_some, option_map_or}
use Rattle.zq_message.specs.declared.message.WireExpr.{WireExpr}
use Rattle.zq_tables.specs.Naming.{FaceKeys, face_naming, naming_at, no_keys, no_names, said_of}
use Rattle.zq_machine.specs.declared.face.OpenFace.{OpenFace}
use Rattle.zq_machine.specs.Configs.{Settings}
use Rattle.zq_machine.specs.Gates.{entered_by, gate_at, space_of}
use Rattle.zq_machine.specs.State.{State, at}
use Rattle.zq_machine.specs.Standing.{Standing, kept_at, standing_of}
use Rattle.zq_machine.proofs.Agreed.{InOrder, run_in_order}
use Rattle.zq_machine.proofs.Standing.{before, numbers_are, stands_so}
use Rattle.zq_trace.specs.Faces.{Face, Trace, face_at, says}
use Rattle.zq_trace.proofs.Runs.{IsRun, calls_of, reached, state_of}
use Rattle.zq_trace.proofs.Standing.{Alike, IsSame, faces_alike, says_same}

pub in_order : (config : Settings) (past : Trace) → InOrder config (reached config past)
in_order config past = subst (InOrder config) (state_of config past) (run_in_order config (calls_of past))

module _ (config : Settings) (past : Trace) (run : IsRun config past) (q : ℕ) where
  abbrev s : State
  s = reached config past

  -- an open face
  module _ (o : OpenFace) (seen : at q s.core.faces ≡ Some o) where
    abbrev pub machine_has : Standing
    machine_has = before s.gates s.core.faces s.core.hats s.names (in_order config past).tied q o seen

    found_by : (f : Option Face) → face_at past q ≡ f → Alike config (Some machine_has) f → (x : Face) × (face_at past q ≡ Some x) × IsSame config machine_has x
    found_by None e alike = absurd alike
    found_by (Some x) e alike = (x, e, alike)

    pub open_face : (x : Face) × (face_at past q ≡ Some x) × IsSame config machine_has x
    open_face = found_by (face_at past q) refl (subst (λ y. Alike config y (face_at past q)) (stands_so s.gates s.core.faces s.core.hats s.names (in_order config past).tied q o seen) (faces_alike config q past run))

    pub numbers_here : machine_has.numbers ≡ face_naming q s.names
    numbers_here = sym (numbers_are s.gates s.core.faces s.core.hats s.names (in_order config past).tied q o seen)

    pub said_here : (w : WireExpr) → says w open_face.0 ≡ said_of (face_naming q s.names) (entered_by (space_of (gate_at q s.gates)) w)
    said_here w = says_same config q w machine_has open_face.0 open_face.2 ∙ ap (λ n. said_of n (entered_by (space_of (gate_at q s.gates)) w)) numbers_here

  -- a face that is not open
  module _ (gone : at q s.core.faces ≡ None) where
    none_by : (f : Option Face) → face_at past q ≡ f → Alike config None f → face_at past q ≡ None
    none_by None e alike = e
    none_by (Some x) e alike = absurd alike

    pub closed_face : face_at past q ≡ None
    closed_face = none_by (face_at past q) refl (subst (λ y. Alike config y (face_at past q)) (ap (λ x. standing_of (gate_at q s.gates) x (naming_at q s.names) (kept_at q s.core)) gone) (faces_alike config q past run))

    no_numbers : face_naming q s.names ≡ no_names
    no_numbers = by (naming_at q s.names) refl
      where
        by : (n : Option FaceKeys) → naming_at q s.names ≡ n → face_naming q s.names ≡ no_names
        by None e = ap (λ x. (unwrap_or x no_keys).numbers) e
        by (Some n) e = absurd (true≢false (sym (ap is_some e) ∙ (in_order config past).tied.named q ∙ ap is_some gone))

  pub numbers_now : option_map_or (λ (f : Face). f.numbers) (face_at past q) no_names ≡ face_naming q s.names
  numbers_now = by (at q s.core.faces) refl
    where
      by : (o : Option OpenFace) → at q s.core.faces ≡ o → option_map_or (λ (f : Face). f.numbers) (face_at past q) no_names ≡ face_naming q s.names
      by None gone = ap (λ x. option_map_or (λ (f : Face). f.numbers) x no_names) (closed_face gone) ∙ sym (no_numbers gone)
      by (Some o) seen = let f = open_face o seen in ap (λ x. option_map_or (λ (f : Face). f.numbers) x no_names) f.1 ∙ f.2.numbers ∙ numbers_here o seen
