-- The list of hats: in order, each at the index of its region or without a face, and but for its faces, entries and network as it was at first.
use Rattle.std.proofs.Common.{◌≡◌, ◌∙◌, refl, sym, ap, ℕ, Bool, true, false, cond, List, [], ◌∷◌, fold, Option, Some, None, ◌⊎◌, inl, inr}
use Rattle.std.specs.List.Sorted.{IsStrictlySortedBy}
use Rattle.std.specs.Map.{keys_of, set_value}
use Rattle.std.specs.BTreeMap.{is_at}
use Rattle.std.specs.Option.{is_some, option_and_then, option_map, option_map_or}
use Rattle.std.specs.Ordering.{nat_cmp}
use Rattle.std.proofs.lemmas.Cmp.{nat_cmp_total}
use Rattle.std.proofs.lemmas.Map.Lookups.{exact_unsigned}
use Rattle.std.proofs.lemmas.Option.{same_Some}
use Rattle.zq_message.specs.declared.message.QueryableInfoType.{QueryableInfoType}
use Rattle.zq_message.specs.declared.message.Region.{Region}
use Rattle.zq_message.specs.declared.message.Zid.{Zid}
use Rattle.zq_message.specs.Region.{region_index}
use Rattle.zq_strategy.specs.State.{HatState}
use Rattle.zq_strategy.specs.declared.types.FaceRecord.{FaceRecord}
use Rattle.zq_strategy.specs.Kept.{has_face, new_hat, registered, unregistered, with_face_opened, without_face}
use Rattle.zq_strategy.specs.Marks.{finalized}
use Rattle.zq_strategy.specs.declared.types.Strategy.{Strategy}
use Rattle.zq_strategy.specs.declared.types.Strategy.TheVariants as strategy
use Rattle.zq_strategy.specs.Regions.{in_routers, strategy_at}
use Rattle.zq_strategy.specs.Entries.{staying}
use Rattle.zq_strategy.specs.Nets.{is_listed}
use Rattle.zq_strategy.specs.Routers.{announced, networked, noded, retracted, source_at}
use Rattle.zq_strategy.specs.declared.network.Network.{Network}
use Rattle.zq_strategy.specs.Nets.{no_network}
use Rattle.zq_machine.specs.declared.config.Entry.{Entry}
use Rattle.zq_machine.specs.declared.face.OpenFace.{OpenFace}
use Rattle.zq_machine.specs.Configs.{Settings, north_of, region_of}
use Rattle.zq_machine.specs.Deciding.{accepted, announced_by, retracted_by, seat}
use Rattle.zq_machine.specs.Selecting.{full_text}
use Rattle.zq_machine.specs.State.{Core, at, change_hat, change_hat_of, first_hats, hat_at, hat_of, is_region, joined, put_hat, with_hat, kind_of}
use Rattle.zq_machine.specs.TextCalls.{TextCall, opening, closing, naming, unnaming, declaring, withdrawing, asking, replying, ending, reporting, passing, listing, finalizing, announcing, retracting, networking, tabling, hearing, unhearing}
use Rattle.zq_machine.proofs.Changing.{one_number, region_there}
use Rattle.zq_machine.proofs.Finals.{none_sorted}
use Rattle.zq_key.proofs.Lookups.{found_after_insertion, found_after_write}
use Rattle.zq_key.proofs.Sorted.{sorted_in, sorted_write}

-- the index is that of a region of an id that regions have
abbrev pub IsIndex : ℕ → Type 0
IsIndex k = (r : Region) × (is_region r ≡ true) × (region_index r ≡ k)

-- a hat without its faces, entries and network
abbrev pub bare : HatState → HatState
bare h = record h { faces = []; entries = []; network = no_network }

-- hats in order, each at a region's index or without a face, with this first id, and but for its faces, entries and network as the first hat there
pub record AreHats (told : ℕ) (first hats : List (ℕ × HatState)) : Type 0 where
  pub sorted : IsStrictlySortedBy nat_cmp (keys_of hats)
  pub homes : (k : ℕ) (h : HatState) → at k hats ≡ Some h → (h.faces ≡ []) ⊎ IsIndex k
  pub starts : (k : ℕ) (h : HatState) → at k hats ≡ Some h → h.told_start ≡ told
  pub shape : (k : ℕ) → option_map bare (at k hats) ≡ option_map bare (at k first)

-- so each is of what the first hat there is of
pub kinds_of : (x y : Option HatState) → option_map bare x ≡ option_map bare y → option_map kind_of x ≡ option_map kind_of y
kinds_of x y e = sym (same x) ∙ ap (option_map kind_of) e ∙ same y
  where
    same : (o : Option HatState) → option_map kind_of (option_map bare o) ≡ option_map kind_of o
    same None = refl
    same (Some h) = refl

-- the hats of a gateway that was made with the configuration
abbrev pub AreHatsOf : Settings → List (ℕ × HatState) → Type 0
AreHatsOf config hats = AreHats config.start.told (first_hats config) hats

-- the change is one of faces, entries and network alone
abbrev pub KeepsBare : (HatState → HatState) → Type 0
KeepsBare f = (h : HatState) → bare (f h) ≡ bare h

-- ---- one hat is changed
changed_hats : (told : ℕ) (first : List (ℕ × HatState)) (r : Region) (f : HatState → HatState) (hats : List (ℕ × HatState)) → KeepsBare f → AreHats told first hats → AreHats told first (change_hat r f hats)
changed_hats told first r f hats keeps a = by (hat_at r hats) refl
  where
    by : (o : Option HatState) → hat_at r hats ≡ o → AreHats told first (put_hat r f hats o)
    by None e = a
    by (Some was) e = record {
      sorted = sorted_write nat_cmp (is_at (nat_cmp (region_index r))) (f was) hats a.sorted;
      homes = λ k h h_at. home k h (is_at (nat_cmp (region_index r)) k) refl (sym (found k) ∙ h_at);
      starts = λ k h h_at. same k h (is_at (nat_cmp (region_index r)) k) (sym (found k) ∙ h_at);
      shape = λ k. ap (option_map bare) (found k) ∙ alike k (is_at (nat_cmp (region_index r)) k) refl;
    }
      where
        there : (is_region r ≡ true) × (at (region_index r) hats ≡ Some was)
        there = region_there r hats was e

        found : (k : ℕ) → at k (set_value (is_at (nat_cmp (region_index r))) hats (f was)) ≡ cond (is_at (nat_cmp (region_index r)) k) (Some (f was)) (at k hats)
        found k = found_after_write nat_cmp_total exact_unsigned (region_index r) k (f was) hats (ap is_some there.1)

        home : (k : ℕ) (h : HatState) (b : Bool) → is_at (nat_cmp (region_index r)) k ≡ b → cond b (Some (f was)) (at k hats) ≡ Some h → (h.faces ≡ []) ⊎ IsIndex k
        home k h true is g = inr (r, there.0, one_number (region_index r) k is)
        home k h false is g = a.homes k h g

        same : (k : ℕ) (h : HatState) (b : Bool) → cond b (Some (f was)) (at k hats) ≡ Some h → h.told_start ≡ told
        same k h true g = ap (λ (x : HatState). x.told_start) (sym (same_Some _ _ g)) ∙ ap (λ (x : HatState). x.told_start) (keeps was) ∙ a.starts (region_index r) was there.1
        same k h false g = a.starts k h g

        alike : (k : ℕ) (b : Bool) → is_at (nat_cmp (region_index r)) k ≡ b → option_map bare (cond b (Some (f was)) (at k hats)) ≡ option_map bare (at k first)
        alike k true is =
            ap Some (keeps was)
            ∙ sym (ap (option_map bare) there.1)
            ∙ a.shape (region_index r)
            ∙ ap (λ m. option_map bare (at m first)) (one_number (region_index r) k is)
        alike k false is = a.shape k

-- ---- what a view of hats shows stays
module _ {V : Type 0} (view : HatState → V) where
  pub same_view : (r : Region) (f : HatState → HatState) (hats : List (ℕ × HatState)) → ((h : HatState) → hat_at r hats ≡ Some h → view (f h) ≡ view h) → (k : ℕ) → option_map view (at k (change_hat r f hats)) ≡ option_map view (at k hats)
  same_view r f hats keeps k = by (hat_at r hats) refl
    where
      by : (o : Option HatState) → hat_at r hats ≡ o → option_map view (at k (put_hat r f hats o)) ≡ option_map view (at k hats)
      by None e = refl
      by (Some was) e = ap (option_map view) (found_after_write nat_cmp_total exact_unsigned (region_index r) k (f was) hats (ap is_some there)) ∙ alike (is_at (nat_cmp (region_index r)) k) refl
        where
          there : at (region_index r) hats ≡ Some was
          there = (region_there r hats was e).1

          alike : (b : Bool) → is_at (nat_cmp (region_index r)) k ≡ b → option_map view (cond b (Some (f was)) (at k hats)) ≡ option_map view (at k hats)
          alike true is = ap Some (keeps was e) ∙ sym (ap (option_map view) there) ∙ ap (λ m. option_map view (at m hats)) (one_number (region_index r) k is)
          alike false is = refl

  pub same_view_of : (face : ℕ) (f : HatState → HatState) (c : Core) → ((h : HatState) → hat_of face c ≡ Some h → view (f h) ≡ view h) → (k : ℕ) → option_map view (at k (change_hat_of face f c).hats) ≡ option_map view (at k c.hats)
  same_view_of face f c keeps k = by (at face c.faces) refl
    where
      by : (o : Option OpenFace) → at face c.faces ≡ o → option_map view (at k (option_map_or (λ (x : OpenFace). change_hat x.region f c.hats) o c.hats)) ≡ option_map view (at k c.hats)
      by None e = refl
      by (Some o) e = same_view o.region f c.hats (λ h there. keeps h (ap (option_and_then (λ (x : OpenFace). hat_at x.region c.hats)) e ∙ there)) k

-- ---- an accepted call changes one hat at most
joined_bare : (x : FaceRecord) → KeepsBare (joined x)
joined_bare x h = by (has_face x.face.0 h)
  where
    by : (b : Bool) → bare (cond b h (with_face_opened x h)) ≡ bare h
    by true = refl
    by false = refl

announced_bare : (face node : ℕ) (key : List ℕ) (i : QueryableInfoType) → KeepsBare (announced_by face node key i)
announced_bare face node key i h = by (source_at face node h)
  where
    by : (o : Option Zid) → bare (option_map_or (λ (z : Zid). announced z.0 key i h) o h) ≡ bare h
    by None = refl
    by (Some z) = refl

retracted_bare : (face node : ℕ) (key : List ℕ) → KeepsBare (retracted_by face node key)
retracted_bare face node key h = by (source_at face node h)
  where
    by : (o : Option Zid) → bare (option_map_or (λ (z : Zid). retracted z.0 key h) o h) ≡ bare h
    by None = refl
    by (Some z) = refl

networked_bare : (net : Network) → KeepsBare (networked net)
networked_bare net h = by (strategy_at h)
  where
    by : (k : Strategy) → bare (in_routers k (record h { network = net; entries = staying (is_listed net) h.entries }) h) ≡ bare h
    by strategy.Broker = refl
    by strategy.Client = refl
    by strategy.Peer = refl
    by strategy.Router = refl

module _ (told : ℕ) (first : List (ℕ × HatState)) (c : Core) (a : AreHats told first c.hats) where
  in_its_hat : (face : ℕ) (f : HatState → HatState) → KeepsBare f → AreHats told first (option_map_or (λ (o : OpenFace). change_hat o.region f c.hats) (at face c.faces) c.hats)
  in_its_hat face f keeps = by (at face c.faces)
    where
      by : (o : Option OpenFace) → AreHats told first (option_map_or (λ (x : OpenFace). change_hat x.region f c.hats) o c.hats)
      by None = a
      by (Some o) = changed_hats told first o.region f c.hats keeps a

  pub accepted_hats : (t : TextCall) → AreHats told first (accepted c t).hats
  accepted_hats (opening o) = changed_hats told first o.region (joined (seat c.next_face o)) c.hats (joined_bare (seat c.next_face o)) a
  accepted_hats (closing face) = in_its_hat face.0 (without_face face.0) (λ h. refl)
  accepted_hats (naming face id s x) = a
  accepted_hats (unnaming face id x) = a
  accepted_hats (declaring face id s i n) = in_its_hat face.0 (registered face.0 id (full_text s) n i) (λ h. refl)
  accepted_hats (withdrawing face id) = in_its_hat face.0 (unregistered face.0 id) (λ h. refl)
  accepted_hats (asking face s r now) = a
  accepted_hats (replying face s r) = a
  accepted_hats (ending face rid) = a
  accepted_hats (reporting reply) = a
  accepted_hats (passing now) = a
  accepted_hats (listing r t) = a
  accepted_hats (finalizing face m set) = in_its_hat face.0 (finalized face.0 m set) (λ h. refl)
  accepted_hats (announcing face s i n) = in_its_hat face.0 (announced_by face.0 n (full_text s) i) (announced_bare face.0 n (full_text s) i)
  accepted_hats (retracting face s n) = in_its_hat face.0 (retracted_by face.0 n (full_text s)) (retracted_bare face.0 n (full_text s))
  accepted_hats (networking r net) = changed_hats told first r (networked net) c.hats (networked_bare net) a
  accepted_hats (tabling face ids) = in_its_hat face.0 (noded face.0 ids) (λ h. refl)
  accepted_hats (hearing face id keys sd) = a
  accepted_hats (unhearing face id) = a

-- ---- before any call
module _ (config : Settings) where
  abbrev told_first : ℕ
  told_first = config.start.told

  with_one : (hats : List (ℕ × HatState)) (e : Entry) → AreHats told_first hats hats → AreHats told_first (with_hat config hats e) (with_hat config hats e)
  with_one hats e a = record {
    sorted = sorted_in nat_cmp_total hats (region_index (region_of e)) hat a.sorted;
    homes = λ k h h_at. home k h (is_at (nat_cmp (region_index (region_of e))) k) (sym (found k) ∙ h_at);
    starts = λ k h h_at. same k h (is_at (nat_cmp (region_index (region_of e))) k) (sym (found k) ∙ h_at);
    shape = λ k. refl;
  }
    where
      hat : HatState
      hat = new_hat (region_of e) (north_of config.entries) config.zid told_first

      found : (k : ℕ) → at k (with_hat config hats e) ≡ cond (is_at (nat_cmp (region_index (region_of e))) k) (Some hat) (at k hats)
      found k = found_after_insertion nat_cmp_total exact_unsigned (region_index (region_of e)) k hat hats

      home : (k : ℕ) (h : HatState) (b : Bool) → cond b (Some hat) (at k hats) ≡ Some h → (h.faces ≡ []) ⊎ IsIndex k
      home k h true g = inl (ap (λ (x : HatState). x.faces) (sym (same_Some _ _ g)))
      home k h false g = a.homes k h g

      same : (k : ℕ) (h : HatState) (b : Bool) → cond b (Some hat) (at k hats) ≡ Some h → h.told_start ≡ told_first
      same k h true g = ap (λ (x : HatState). x.told_start) (sym (same_Some _ _ g))
      same k h false g = a.starts k h g

  all_hats : (es : List Entry) (hats : List (ℕ × HatState)) → AreHats told_first hats hats → AreHats told_first (fold (with_hat config) hats es) (fold (with_hat config) hats es)
  all_hats [] hats a = a
  all_hats (e ∷ es) hats a = all_hats es (with_hat config hats e) (with_one hats e a)

  pub opening_hats : AreHatsOf config (first_hats config)
  opening_hats = all_hats config.entries []
      (record {
        sorted = none_sorted;
        homes = λ k h e. absurd (let gap : None ≡ Some h = e in cc);
        starts = λ k h e. absurd (let gap : None ≡ Some h = e in cc);
        shape = λ k. refl;
      })
