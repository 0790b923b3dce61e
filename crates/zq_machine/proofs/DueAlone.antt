-- What does not enter what is due to a face: interests of other faces, what the face itself declared, and where it hears no fellows all that its region's faces declared; and to a face outside North that asks for nothing, nothing is due.
use Rattle.std.proofs.Common.{◌≡◌, ◌∙◌, refl, sym, ap, ℕ, false, cond, eq-eqb, List, [], Option, Some, None, true≢false}
use Rattle.std.specs.Prelude.{◌≢◌}
use Rattle.std.specs.List.{list_any}
use Rattle.std.specs.Map.{set_value}
use Rattle.std.specs.BTreeMap.{is_at}
use Rattle.std.specs.Ordering.{nat_cmp}
use Rattle.std.specs.Option.{option_and_then, option_map, option_map_or}
use Rattle.std.proofs.lemmas.Option.{same_Some}
use Rattle.zq_message.specs.declared.message.Mode.{Mode}
use Rattle.zq_message.specs.declared.message.Mode.TheVariants as mode
use Rattle.zq_message.specs.declared.message.QueryableInfoType.{QueryableInfoType}
use Rattle.zq_message.specs.declared.message.Region.{Region}
use Rattle.zq_message.specs.declared.message.Region.TheVariants as region
use Rattle.zq_message.specs.Region.{region_index}
use Rattle.zq_index.specs.Infos.{joined}
use Rattle.zq_strategy.specs.declared.types.Declaration.{Declaration}
use Rattle.zq_interests.specs.declared.types.InterestEntry.{InterestEntry}
use Rattle.zq_strategy.specs.declared.types.Strategy.{Strategy}
use Rattle.zq_strategy.specs.declared.types.Strategy.TheVariants as strategy
use Rattle.zq_strategy.specs.Fellows.{fellow_info, with_fellow}
use Rattle.zq_strategy.specs.Kept.{change_face, face_at, info, region_info}
use Rattle.zq_strategy.specs.Regions.{is_north, strategy_at, strategy_of}
use Rattle.zq_strategy.specs.State.{FaceState, HatState}
use Rattle.zq_machine.specs.declared.face.OpenFace.{OpenFace}
use Rattle.zq_machine.specs.Due.{plain_due, heard, heard_as, heard_by, listens_by, listens_in, redeclared}
use Rattle.zq_interests.specs.Interests.{Interests, interests_of, wants}
use Rattle.zq_machine.specs.State.{Core, at, change_hat, change_hat_of, face_region, hat_at, hat_of, put_hat}
use Rattle.zq_machine.specs.Trees.{own_entry, with_other}
use Rattle.zq_machine.proofs.Changing.{hat_here, region_there}
use Rattle.zq_machine.proofs.Folding.{fold_set}

-- ---- interests of other faces
pub interests_alone : (c : Core) (ints others : Interests) (face : ℕ) (key : List ℕ) → interests_of face ints ≡ interests_of face others → plain_due c ints face key ≡ plain_due c others face key
interests_alone c ints others face key same =
    ap (λ (es : List (ℕ × InterestEntry)). cond (option_map_or (λ (h : HatState). listens_by (strategy_at h) (is_north h.region) (list_any (wants key) es)) (hat_of face c) false) (heard c face key) None) same

-- ---- a face outside North that asks for nothing
quiet : (r : Region) (m : Mode) → is_north r ≡ false → listens_by (strategy_of r m) (is_north r) false ≡ false
quiet region.North m out = absurd (true≢false out)
quiet region.Local m out = refl
quiet (region.South id mode.Router) m out = refl
quiet (region.South id mode.Peer) m out = refl
quiet (region.South id mode.Client) m out = refl

pub south_unasked : (c : Core) (ints : Interests) (face : ℕ) (key : List ℕ) (h : HatState) → hat_of face c ≡ Some h → is_north h.region ≡ false → interests_of face ints ≡ [] → plain_due c ints face key ≡ None
south_unasked c ints face key h here out none =
    ap (λ b. cond b (heard c face key) None)
    (ap (λ (o : Option HatState). option_map_or (listens_in ints face key) o false) here
    ∙ ap (λ (es : List (ℕ × InterestEntry)). listens_by (strategy_at h) (is_north h.region) (list_any (wants key) es)) none
    ∙ quiet h.region h.north_mode out)

-- ---- a face of the own region is changed
module _ (key : List ℕ) where
  -- what the own region has is no part of what others have
  place_idle : (place : ℕ) (h : HatState) (m : Option QueryableInfoType) → with_other place key m (place, h) ≡ m
  place_idle place h m = ap (λ b. cond b m (joined m (region_info key h))) (eq-eqb place place refl)

  own_idle : (r : Region) (f : HatState → HatState) (hats : List (ℕ × HatState)) → own_entry (region_index r) key (change_hat r f hats) ≡ own_entry (region_index r) key hats
  own_idle r f hats = by (hat_at r hats) refl
    where
      by : (o : Option HatState) → hat_at r hats ≡ o → own_entry (region_index r) key (put_hat r f hats o) ≡ own_entry (region_index r) key hats
      by None e = refl
      by (Some h) e = fold_set (with_other (region_index r) key) (region_index r) hats h (f h) (region_there r hats h e).1 (λ m. place_idle (region_index r) (f h) m ∙ sym (place_idle (region_index r) h m)) None

  -- what a face declared is no part of what its fellows did
  face_idle : (face : ℕ) (f : FaceState) (m : Option QueryableInfoType) → with_fellow face key m (face, f) ≡ m
  face_idle face f m = ap (λ b. cond b m (joined m (info key f))) (eq-eqb face face refl)

  fellows_idle : (face : ℕ) (k : FaceState → FaceState) (h : HatState) → fellow_info face key (change_face face k h) ≡ fellow_info face key h
  fellows_idle face k h = by (face_at face h) refl
    where
      by : (o : Option FaceState) → face_at face h ≡ o → fellow_info face key (record h { faces = option_map_or (λ x. set_value (is_at (nat_cmp face)) h.faces (k x)) o h.faces }) ≡ fellow_info face key h
      by None e = refl
      by (Some f) e = fold_set (with_fellow face key) face h.faces f (k f) e (λ m. face_idle face (k f) m ∙ sym (face_idle face f m)) None

module _ (c : Core) (ints : Interests) (face : ℕ) (key : List ℕ) (n : ℕ) (k : FaceState → FaceState) where
  abbrev with_faces : Option OpenFace → List (ℕ × HatState)
  with_faces p = option_map_or (λ (o : OpenFace). change_hat o.region (change_face n k) c.hats) p c.hats

  -- what is due by a face's place and hats
  abbrev due_from : Option OpenFace → List (ℕ × HatState) → Option QueryableInfoType
  due_from p hats = cond (option_map_or (listens_in ints face key) (option_and_then (λ (o : OpenFace). hat_at o.region hats) p) false) (option_and_then (heard_as face key hats) p) None

  -- the same, by the hat that is found and by what other regions have
  abbrev due_found : Option HatState → Option QueryableInfoType → Option QueryableInfoType
  due_found x own = cond (option_map_or (listens_in ints face key) x false) (option_and_then (λ (h : HatState). heard_by (strategy_at h) (fellow_info face key h) own) x) None

  -- the face hears the same
  abbrev pub HearsSame : Type 0
  HearsSame = (h : HatState) (own : Option QueryableInfoType) → hat_of face c ≡ Some h → heard_by (strategy_at h) (fellow_info face key (change_face n k h)) own ≡ heard_by (strategy_at h) (fellow_info face key h) own

  in_region : HearsSame → (o : OpenFace) → at face c.faces ≡ Some o → due_from (Some o) (change_hat o.region (change_face n k) c.hats) ≡ due_from (Some o) c.hats
  in_region same o seen = by (hat_at o.region c.hats) refl
    where
      by : (x : Option HatState) → hat_at o.region c.hats ≡ x → due_from (Some o) (change_hat o.region (change_face n k) c.hats) ≡ due_from (Some o) c.hats
      by None e = ap (λ (y : Option HatState). due_from (Some o) (put_hat o.region (change_face n k) c.hats y)) e
      by (Some h) e =
          (λ j. due_found (hat_here o.region h (change_face n k) c.hats e j) (own_idle key o.region (change_face n k) c.hats j))
          ∙ ap (λ i. cond (listens_in ints face key h) i None) (same h (own_entry (region_index o.region) key c.hats) (ap (option_and_then (λ (p : OpenFace). hat_at p.region c.hats)) seen ∙ e))
          ∙ ap (λ x. due_found x (own_entry (region_index o.region) key c.hats)) (sym e)

  pub alone : HearsSame → face_region n c ≡ face_region face c → plain_due (change_hat_of n (change_face n k) c) ints face key ≡ plain_due c ints face key
  alone same near = by (at face c.faces) refl
    where
      elsewhere : (p : Option OpenFace) (o : OpenFace) → at face c.faces ≡ Some o → at n c.faces ≡ p → option_map (λ (x : OpenFace). x.region) p ≡ Some o.region → due_from (at face c.faces) (with_faces (at n c.faces)) ≡ due_from (at face c.faces) c.hats
      elsewhere None o seen there gap = absurd (let nothing : None ≡ Some o.region = gap in cc)
      elsewhere (Some p) o seen there one =
          (λ j. due_from (seen j) (with_faces (there j)))
          ∙ ap (λ (r : Region). due_from (Some o) (change_hat r (change_face n k) c.hats)) (same_Some _ _ one)
          ∙ in_region same o seen
          ∙ ap (λ (x : Option OpenFace). due_from x c.hats) (sym seen)

      by : (o : Option OpenFace) → at face c.faces ≡ o → due_from (at face c.faces) (with_faces (at n c.faces)) ≡ due_from (at face c.faces) c.hats
      by None gone = ap (λ (x : Option OpenFace). due_from x (with_faces (at n c.faces))) gone ∙ sym (ap (λ (x : Option OpenFace). due_from x c.hats) gone)
      by (Some o) seen = elsewhere (at n c.faces) o seen refl (near ∙ ap (option_map (λ (x : OpenFace). x.region)) seen)

-- ---- declarations
-- a face is not due what it itself declared
pub own_unheard : (c : Core) (ints : Interests) (face : ℕ) (key : List ℕ) (ds : List (ℕ × Declaration)) → plain_due (redeclared face ds c) ints face key ≡ plain_due c ints face key
own_unheard c ints face key ds =
    alone c ints face key face (λ (f : FaceState). record f { declared = ds })
    (λ h own here. ap (λ i. heard_by (strategy_at h) i own) (fellows_idle key face (λ (f : FaceState). record f { declared = ds }) h)) refl

-- only under a broker fellows are heard
no_broker : (k : Strategy) → k ≢ strategy.Broker → (a b own : Option QueryableInfoType) → heard_by k a own ≡ heard_by k b own
no_broker strategy.Broker other a b own = absurd (other refl)
no_broker strategy.Client other a b own = refl
no_broker strategy.Peer other a b own = refl
no_broker strategy.Router other a b own = refl

-- where fellows are not heard, what the region's faces declared does not enter
pub region_unheard : (c : Core) (ints : Interests) (face fellow : ℕ) (key : List ℕ) (ds : List (ℕ × Declaration)) (h : HatState) → hat_of face c ≡ Some h → strategy_at h ≢ strategy.Broker → face_region fellow c ≡ face_region face c
    → plain_due (redeclared fellow ds c) ints face key ≡ plain_due c ints face key
region_unheard c ints face fellow key ds h here other near =
    alone c ints face key fellow (λ (f : FaceState). record f { declared = ds })
    (λ g own found. no_broker (strategy_at g) (λ is. other (ap strategy_at (same_Some _ _ (sym here ∙ found)) ∙ is)) _ _ own) near
