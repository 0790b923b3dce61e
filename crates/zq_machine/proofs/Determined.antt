-- What stands of the faces determines the open faces and the hats, and so, with the lists of gateways, what is selected.
use Rattle.std.proofs.Common.{◌≡◌, ◌∙◌, refl, sym, ap, ℕ, Bool, true, false, cond, List, [], Option, Some, None, ◌⊎◌, inl, inr, eqb-true}
use Rattle.std.specs.Option.{is_some, option_map, option_map_or}
use Rattle.std.proofs.lemmas.Bool.{true≢false}
use Rattle.std.proofs.lemmas.Cmp.{nat_cmp_total}
use Rattle.std.proofs.lemmas.Map.Lookups.{exact_unsigned}
use Rattle.std.proofs.lemmas.Option.{same_Some}
use Rattle.zq_message.specs.declared.message.FaceId.{FaceId}
use Rattle.zq_message.specs.declared.message.Region.{Region}
use Rattle.zq_message.specs.declared.message.Request.{Request}
use Rattle.zq_message.specs.Region.{region_index}
use Rattle.zq_strategy.specs.State.{FaceState, HatState}
use Rattle.zq_strategy.specs.Kept.{face_at, has_face}
use Rattle.zq_tables.specs.declared.resolved.Resolved.{Resolved}
use Rattle.zq_tables.specs.Naming.{naming_at}
use Rattle.zq_machine.specs.declared.call.Call.{Call}
use Rattle.zq_machine.specs.declared.face.OpenFace.{OpenFace}
use Rattle.zq_machine.specs.Agreeing.{stands_in}
use Rattle.zq_machine.specs.Configs.{Settings}
use Rattle.zq_machine.specs.Gates.{gate_at}
use Rattle.zq_machine.specs.Machine.{state_after}
use Rattle.zq_machine.specs.Selecting.{select}
use Rattle.zq_machine.specs.Standing.{StandAlike, Standing, kept_at, routed, standing_at, standing_of}
use Rattle.zq_machine.specs.State.{State, at, hat_at, opening_state}
use Rattle.zq_machine.proofs.Agreed.{InOrder, run_in_order}
use Rattle.zq_machine.proofs.Changing.{hat_found, region_there}
use Rattle.zq_machine.proofs.Frame.{run_config}
use Rattle.zq_machine.proofs.Hats.{IsIndex, bare}
use Rattle.zq_machine.proofs.Standing.{its_hat, its_kept, stands_so}
use Rattle.zq_key.proofs.Lookups.{same_entries}

none_of : {X : Type 0} (o : Option X) → is_some o ≡ false → o ≡ None
none_of None h = refl
none_of (Some x) h = absurd (true≢false h)

-- how a face was opened
abbrev opened_as : Standing → OpenFace
opened_as st = st.opened

-- what a region's hat keeps of a face
abbrev pub kept_in : Region → Option Standing → Option FaceState
kept_in r None = None
kept_in r (Some st) = cond (stands_in r st.opened) (Some st.kept) None

module _ (config : Settings) (s : State) (i : InOrder config s) where
  face_stands : (q : ℕ) → at q s.core.faces ≡ option_map opened_as (standing_at q s)
  face_stands q = by (at q s.core.faces) refl
    where
      by : (x : Option OpenFace) → at q s.core.faces ≡ x → at q s.core.faces ≡ option_map opened_as (standing_at q s)
      by None e = e ∙ sym (ap (λ x. option_map opened_as (standing_of (gate_at q s.gates) x (naming_at q s.names) (kept_at q s.core))) e)
      by (Some o) e = e ∙ sym (ap (option_map opened_as) (stands_so s.gates s.core.faces s.core.hats s.names i.tied q o e))

  pub hat_stands : (r : Region) (h : HatState) → hat_at r s.core.hats ≡ Some h → (q : ℕ) → face_at q h ≡ kept_in r (standing_at q s)
  hat_stands r h h_at q = by (at q s.core.faces) refl
    where
      seat : (x : Option OpenFace) → at q s.core.faces ≡ x → has_face q h ≡ option_map_or (stands_in r) x false
      seat x e = i.tied.seats r h q h_at ∙ ap (λ y. option_map_or (stands_in r) y false) e

      by : (x : Option OpenFace) → at q s.core.faces ≡ x → face_at q h ≡ kept_in r (standing_at q s)
      by None e = none_of (face_at q h) (seat None e) ∙ sym (ap (λ x. kept_in r (standing_of (gate_at q s.gates) x (naming_at q s.names) (kept_at q s.core))) e)
      by (Some o) e = here (stands_in r o) refl ∙ sym (ap (kept_in r) (stands_so s.gates s.core.faces s.core.hats s.names i.tied q o e))
        where
          hat : (x : HatState) × (hat_at o.region s.core.hats ≡ Some x)
          hat = its_hat s.gates s.core.faces s.core.hats s.names i.tied q o e

          kept : (f : FaceState) × (face_at q (its_hat s.gates s.core.faces s.core.hats s.names i.tied q o e).0 ≡ Some f)
          kept = its_kept s.gates s.core.faces s.core.hats s.names i.tied q o e

          same : region_index o.region ≡ region_index r → hat.0 ≡ h
          same index =
              same_Some _ _
              (sym (region_there o.region s.core.hats hat.0 hat.1).1 ∙ ap (λ k. at k s.core.hats) index ∙ (region_there r s.core.hats h h_at).1)

          here : (b : Bool) → stands_in r o ≡ b → face_at q h ≡ cond (stands_in r o) (Some (its_kept s.gates s.core.faces s.core.hats s.names i.tied q o e).0) None
          here true is =
              ap (face_at q) (sym (same (eqb-true (region_index o.region) (region_index r) is)))
              ∙ kept.1
              ∙ ap (λ b. cond b (Some (its_kept s.gates s.core.faces s.core.hats s.names i.tied q o e).0) None) (sym is)
          here false is = none_of (face_at q h) (seat (Some o) e ∙ is) ∙ ap (λ b. cond b (Some (its_kept s.gates s.core.faces s.core.hats s.names i.tied q o e).0) None) (sym is)

-- ---- two gateways of which the same stands
module _ (config : Settings) (s z : State) (i : InOrder config s) (l : InOrder config z) (alike : StandAlike s z) where
  same_faces : s.core.faces ≡ z.core.faces
  same_faces =
      same_entries nat_cmp_total exact_unsigned s.core.faces z.core.faces i.sound.sorted l.sound.sorted
      (λ q. face_stands config s i q ∙ ap (option_map opened_as) (alike.faces q) ∙ sym (face_stands config z l q))

  same_in : (k : ℕ) (g h : HatState) → at k s.core.hats ≡ Some g → at k z.core.hats ≡ Some h → IsIndex k → g.faces ≡ h.faces
  same_in k g h g_at h_at x =
      let one : hat_at x.0 s.core.hats ≡ Some g = hat_found x.0 s.core.hats (Some g) x.1 (ap (λ n. at n s.core.hats) x.2 ∙ g_at) in
      let two : hat_at x.0 z.core.hats ≡ Some h = hat_found x.0 z.core.hats (Some h) x.1 (ap (λ n. at n z.core.hats) x.2 ∙ h_at) in
      same_entries nat_cmp_total exact_unsigned g.faces h.faces (i.tied.hats_sorted x.0 g one) (l.tied.hats_sorted x.0 h two)
      (λ q. hat_stands config s i x.0 g one q ∙ ap (kept_in x.0) (alike.faces q) ∙ sym (hat_stands config z l x.0 h two q))

  same_kept : (k : ℕ) (g h : HatState) → at k s.core.hats ≡ Some g → at k z.core.hats ≡ Some h → g.faces ≡ h.faces
  same_kept k g h g_at h_at = by (i.hats.homes k g g_at) (l.hats.homes k h h_at)
    where
      by : (g.faces ≡ []) ⊎ IsIndex k → (h.faces ≡ []) ⊎ IsIndex k → g.faces ≡ h.faces
      by (inl e) (inl f) = e ∙ sym f
      by (inr x) y = same_in k g h g_at h_at x
      by (inl e) (inr x) = same_in k g h g_at h_at x

  same_hat : (k : ℕ) → at k s.core.hats ≡ at k z.core.hats
  same_hat k = by (at k s.core.hats) (at k z.core.hats) refl refl (i.hats.shape k ∙ sym (l.hats.shape k)) (alike.routers k)
    where
      by : (x y : Option HatState) → at k s.core.hats ≡ x → at k z.core.hats ≡ y → option_map bare x ≡ option_map bare y → option_map routed x ≡ option_map routed y → x ≡ y
      by None None e f b u = refl
      by None (Some h) e f b u = absurd (let gap : None ≡ Some (bare h) = b in cc)
      by (Some g) None e f b u = absurd (let gap : Some (bare g) ≡ None = b in cc)
      by (Some g) (Some h) e f b u =
          let shape : bare g ≡ bare h = same_Some _ _ b in
          let kept : g.faces ≡ h.faces = same_kept k g h e f in
          let same : routed g ≡ routed h = same_Some _ _ u in
          λ j. Some (record (shape j) { faces = kept j; entries = (same j).entries; network = (same j).network })

  same_hats : s.core.hats ≡ z.core.hats
  same_hats = same_entries nat_cmp_total exact_unsigned s.core.hats z.core.hats i.hats.sorted l.hats.sorted same_hat

  same_selected : s.core.config ≡ z.core.config → (asker : FaceId) (said : Resolved) (r : Request) → select s.core asker said r ≡ select z.core asker said r
  same_selected config_same asker said r = λ j. select (record s.core { config = config_same j; faces = same_faces j; hats = same_hats j; tables = alike.lists j }) asker said r

pub runs_select : (config : Settings) (calls others : List Call) → StandAlike (state_after (opening_state config) calls) (state_after (opening_state config) others) → (asker : FaceId) (s : Resolved) (r : Request)
    → select (state_after (opening_state config) calls).core asker s r ≡ select (state_after (opening_state config) others).core asker s r
runs_select config calls others alike =
    same_selected config (state_after (opening_state config) calls) (state_after (opening_state config) others) (run_in_order config calls) (run_in_order config others) alike
    (run_config calls (opening_state config) ∙ sym (run_config others (opening_state config)))
