-- What a region offers rests neither on what its faces were told nor, where they are routers, on what they declared.
use Rattle.std.proofs.Common.{◌≡◌, ◌∙◌, refl, sym, ap, ℕ, Bool, true, false, cond, not, List, [], ◌∷◌, ◌++◌, fold, map, Option, Some}
use Rattle.std.specs.Prelude.{◌&&◌, find, if◌then◌else◌}
use Rattle.std.specs.List.{flat_map}
use Rattle.std.specs.Option.{option_map, option_map_or}
use Rattle.std.proofs.lemmas.Bool.{false≢true}
use Rattle.zq_message.specs.declared.message.Mode.{Mode}
use Rattle.zq_message.specs.declared.message.Region.{Region}
use Rattle.zq_message.specs.declared.message.Zid.{Zid}
use Rattle.zq_key.specs.Key.{intersects}
use Rattle.zq_strategy.specs.declared.network.Network.{Network}
use Rattle.zq_strategy.specs.declared.offer.QueryTargetQabl.{QueryTargetQabl}
use Rattle.zq_strategy.specs.declared.types.Strategy.{Strategy}
use Rattle.zq_strategy.specs.declared.types.Strategy.TheVariants as strategy
use Rattle.zq_strategy.specs.Entries.{Entries}
use Rattle.zq_strategy.specs.Kept.{declared_keys, with_keys}
use Rattle.zq_strategy.specs.OfferOrder.{met_offers}
use Rattle.zq_strategy.specs.Offers.{bare_offer, bare_offers, bare_on, declared_offers, may_have, offers_beside, offers_by, offers_for, offers_on}
use Rattle.zq_strategy.specs.Regions.{in_routers, is_north, same_region}
use Rattle.zq_strategy.specs.Routed.{routed_offers}
use Rattle.zq_strategy.specs.Routers.{face_with, has_zid, router_offers, source_for}
use Rattle.zq_strategy.specs.State.{FaceState, HatState}

-- a face without what it was told and, if it is a router, without what it declared
abbrev pub lean : Bool → FaceState → FaceState
lean b f = record f { last_told = 0; declared = cond b [] f.declared }

abbrev pub lean_faces : Bool → List (ℕ × FaceState) → List (ℕ × FaceState)
lean_faces b fs = map (λ (e : ℕ × FaceState). (e.0, lean b e.1)) fs

flat_same : {Y : Type 0} (p : ℕ × FaceState → List Y) (b : Bool) → ((f : ℕ × FaceState) → p (f.0, lean b f.1) ≡ p f) → (fs : List (ℕ × FaceState)) → flat_map p (lean_faces b fs) ≡ flat_map p fs
flat_same p b same [] = refl
flat_same p b same (f ∷ fs) = λ j. same f j ++ flat_same p b same fs j

-- ---- by what faces declared
pub keys_same : (fs : List (ℕ × FaceState)) (keys : List (List ℕ)) → fold with_keys keys (lean_faces false fs) ≡ fold with_keys keys fs
keys_same [] keys = refl
keys_same (f ∷ fs) keys = keys_same fs (with_keys keys f)

module _ (r src : Region) (q : List ℕ) where
  declared_same : (fs : List (ℕ × FaceState)) → declared_offers r (lean_faces false fs) q ≡ declared_offers r fs q
  declared_same fs = over (declared_keys (lean_faces false fs)) ∙ ap (flat_map (offers_for r fs q)) (keys_same fs [])
    where
      over : (keys : List (List ℕ)) → flat_map (offers_for r (lean_faces false fs) q) keys ≡ flat_map (offers_for r fs q) keys
      over [] = refl
      over (key ∷ keys) = λ j. (if intersects key q then flat_same (offers_on r q key) false (λ f. refl) fs j else []) ++ over keys j

  module _ (x : Strategy) (same : (f : FaceState) → may_have x q (lean false f) ≡ may_have x q f) where
    bare_same : (fs : List (ℕ × FaceState)) → bare_offers x r src (lean_faces false fs) q ≡ bare_offers x r src fs q
    bare_same fs = ap (λ l. if is_north r && not (is_north src) then l else []) (flat_same (bare_on x r q) false (λ f. ap (λ b. if b then bare_offer r q f.0 ∷ [] else []) (same f.1)) fs)

    beside_same : (fs gs : List (ℕ × FaceState)) → lean_faces false fs ≡ lean_faces false gs → offers_beside x r src gs q ≡ offers_beside x r src fs q
    beside_same fs gs alike = sym (lean_beside gs) ∙ ap (λ l. offers_beside x r src l q) (sym alike) ∙ lean_beside fs
      where
        lean_beside : (l : List (ℕ × FaceState)) → offers_beside x r src (lean_faces false l) q ≡ offers_beside x r src l q
        lean_beside l = λ j. if same_region src r then [] else declared_same l j ++ bare_same l j

-- ---- by their ids alone
found_same : (zid : Zid) (fs : List (ℕ × FaceState)) → face_with zid (lean_faces true fs) ≡ face_with zid fs
found_same zid [] = refl
found_same zid (f ∷ fs) = by (has_zid zid f) (found_same zid fs)
  where
    by : (b : Bool) → face_with zid (lean_faces true fs) ≡ face_with zid fs
        → option_map (λ (x : ℕ × FaceState). x.0) (cond b (Some (f.0, lean true f.1)) (find (has_zid zid) (lean_faces true fs))) ≡ option_map (λ (x : ℕ × FaceState). x.0) (cond b (Some f) (find (has_zid zid) fs))
    by true ih = refl
    by false ih = ih

-- ---- a region with other faces that are as these
module _ (h : HatState) (north : Mode) (own : Zid) (fs : List (ℕ × FaceState)) (es : Entries) (net : Network) (src : Region) (q : List ℕ) where
  abbrev other : HatState
  other = record { region = h.region; north_mode = north; own = own; told_start = 0; faces = fs; entries = es; network = net }

  -- by the faces of ids
  abbrev by_way : Option ℕ → (Zid → Option ℕ) → List QueryTargetQabl
  by_way m way = option_map_or (λ source. flat_map (λ k. met_offers (routed_offers h.network way h.region source q) q k) h.entries) (source_for h src m) []

  pub plain_offers : (x : Strategy) (n m : Option ℕ) → in_routers x true false ≡ false → lean_faces false h.faces ≡ lean_faces false fs → offers_by x other src q n ≡ offers_by x h src q m
  plain_offers strategy.Broker n m plain' alike = sym (declared_same h.region src q fs) ∙ ap (λ l. declared_offers h.region l q) (sym alike) ∙ declared_same h.region src q h.faces
  plain_offers strategy.Client n m plain' alike = beside_same h.region src q strategy.Client (λ f. refl) h.faces fs alike
  plain_offers strategy.Peer n m plain' alike = beside_same h.region src q strategy.Peer (λ f. refl) h.faces fs alike
  plain_offers strategy.Router n m plain' alike = absurd (false≢true (sym plain'))

  pub routers_offer : (n m : Option ℕ) → lean_faces true h.faces ≡ lean_faces true fs → es ≡ h.entries → net ≡ h.network → own ≡ h.own → n ≡ m → offers_by strategy.Router other src q n ≡ offers_by strategy.Router h src q m
  routers_offer n m alike entries network owns place =
      (λ j. router_offers (record { region = h.region; north_mode = north; own = owns j; told_start = 0; faces = fs; entries = entries j; network = network j }) src q (place j))
      ∙ ap (by_way m) (λ j zid. (sym (found_same zid fs) ∙ ap (face_with zid) (sym alike) ∙ found_same zid h.faces) j)
