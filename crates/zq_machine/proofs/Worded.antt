-- What faces declared, and what routers' entries are on, are keys; and each key of entries has one.
use Rattle.std.proofs.Common.{◌≡◌, refl, subst, ℕ, Bool, true, false, cond, not, List, [], ◌∷◌, filter, fold, Option, Some, None}
use Rattle.std.specs.BTreeMap.{insert_entry, is_at}
use Rattle.std.specs.List.{AllByRecursion, cons_option}
use Rattle.std.specs.Map.{lookup, remove_entry, set_value}
use Rattle.std.specs.Option.{option_map, option_map_or}
use Rattle.std.specs.Ordering.{match_ordering, nat_cmp}
use Rattle.std.specs.declared.cmp.Ordering.{Ordering}
use Rattle.std.specs.declared.cmp.Ordering.TheVariants.{Less, Equal, Greater}
use Rattle.std.proofs.lemmas.Bool.{false≢true, true≢false}
use Rattle.std.proofs.lemmas.Option.{same_Some}
use Rattle.std.proofs.lemmas.Cmp.{nat_cmp_total}
use Rattle.std.proofs.lemmas.Map.Lookups.{exact_unsigned}
use Rattle.zq_message.specs.declared.message.QueryableInfoType.{QueryableInfoType}
use Rattle.zq_message.specs.declared.message.Region.{Region}
use Rattle.zq_message.specs.declared.message.Zid.{Zid}
use Rattle.zq_message.specs.Region.{region_index}
use Rattle.zq_key.specs.Key.{is_chunk, is_key}
use Rattle.zq_strategy.specs.declared.network.Network.{Network}
use Rattle.zq_index.specs.Texts.{text_cmp}
use Rattle.zq_strategy.specs.declared.types.Declaration.{Declaration}
use Rattle.zq_strategy.specs.declared.types.FaceRecord.{FaceRecord}
use Rattle.zq_strategy.specs.declared.types.FinalMark.{FinalMark}
use Rattle.zq_strategy.specs.declared.types.FinalMark.TheVariants as mark
use Rattle.zq_strategy.specs.declared.types.Strategy.{Strategy}
use Rattle.zq_strategy.specs.declared.types.Strategy.TheVariants as strategy
use Rattle.zq_strategy.specs.Kept.{change_face, declare, face_at, has_any, has_face, new_face, new_hat, registered, unregistered, with_face_opened, withdraw, without_face}
use Rattle.zq_strategy.specs.Marks.{finalized, marked}
use Rattle.zq_strategy.specs.Regions.{in_routers, strategy_at}
use Rattle.zq_index.specs.Holders.{IsOrderedBy, if_any}
use Rattle.zq_index.proofs.Ordered.{ordered_none, with_ordered, without_ordered}
use Rattle.zq_routers.proofs.Dropping.{staying_ordered}
use Rattle.zq_routers.proofs.Entering.{put_is, take_is}
use Rattle.zq_strategy.specs.Entries.{Entries, Routed, entries_at, is_by, routed_with, routed_without, staying, with_entries}
use Rattle.zq_strategy.specs.Nets.{is_listed}
use Rattle.zq_strategy.specs.Routers.{announced, networked, noded, retracted, source_at}
use Rattle.zq_strategy.specs.State.{FaceState, HatState}
use Rattle.zq_tables.specs.declared.resolved.Resolved.{Resolved}
use Rattle.zq_tables.specs.declared.resolved.Resolved.TheVariants as said
use Rattle.zq_machine.specs.declared.config.Entry.{Entry}
use Rattle.zq_machine.specs.declared.face.OpenFace.{OpenFace}
use Rattle.zq_machine.specs.Configs.{Settings, north_of, region_of}
use Rattle.zq_machine.specs.Deciding.{accepted, announced_by, causes, refusal_of, retracted_by, seat}
use Rattle.zq_machine.specs.Hearing.{has_text}
use Rattle.zq_machine.specs.Selecting.{full_text, says_key}
use Rattle.zq_machine.specs.State.{Core, at, change_hat, change_hat_of, first_hats, hat_at, joined, put_hat, with_hat}
use Rattle.zq_machine.specs.TextCalls.{TextCall, opening, closing, declaring, withdrawing, finalizing, announcing, retracting, networking, tabling}
use Rattle.zq_machine.proofs.Changing.{region_there}
use Rattle.zq_machine.proofs.Granted.{all_passed}

-- ---- entries of which each key and each value has a property
module _ {K X : Type 0} (A : K → Type 0) (B : X → Type 0) where
  abbrev pub Each : List (K × X) → Type 0
  Each es = AllByRecursion (λ (e : K × X). A e.0 × B e.1) es

  pub each_in : (cmp : K → K → Ordering) (es : List (K × X)) (k : K) (v : X) → Each es → A k → B v → Each (insert_entry cmp es k v)
  each_in cmp [] k v all a b = ((a, b), tt)
  each_in cmp (e ∷ es) k v all a b = by (cmp k e.0) (each_in cmp es k v all.1 a b)
    where
      by : (r : Ordering) → Each (insert_entry cmp es k v) → Each (match_ordering r ((k, v) ∷ e ∷ es) ((e.0, v) ∷ es) (e ∷ insert_entry cmp es k v))
      by Less ih = ((a, b), all)
      by Equal ih = ((all.0.0, b), all.1)
      by Greater ih = (all.0, ih)

  pub each_set : (test : K → Bool) (es : List (K × X)) (v : X) → Each es → B v → Each (set_value test es v)
  each_set test [] v all b = tt
  each_set test (e ∷ es) v all b = by (test e.0) (each_set test es v all.1 b)
    where
      by : (t : Bool) → Each (set_value test es v) → Each (cond t ((e.0, v) ∷ es) (e ∷ set_value test es v))
      by true ih = ((all.0.0, b), all.1)
      by false ih = (all.0, ih)

  pub each_out : (test : K → Bool) (es : List (K × X)) → Each es → Each (remove_entry test es)
  each_out test [] all = tt
  each_out test (e ∷ es) all = by (test e.0) (each_out test es all.1)
    where
      by : (t : Bool) → Each (remove_entry test es) → Each (cond t es (e ∷ remove_entry test es))
      by true ih = all.1
      by false ih = (all.0, ih)

  pub each_found : (test : K → Bool) (es : List (K × X)) (v : X) → lookup test es ≡ Some v → Each es → B v
  each_found test [] v e all = absurd (let gap : None ≡ Some v = e in cc)
  each_found test (x ∷ es) v e all = by (test x.0) e (λ f. each_found test es v f all.1)
    where
      by : (t : Bool) → cond t (Some x.1) (lookup test es) ≡ Some v → (lookup test es ≡ Some v → B v) → B v
      by true f more = subst B (same_Some _ _ f) all.0.1
      by false f more = more f

abbrev pub Any : {X : Type 0} → X → Type 0
Any x = Unit {0}

-- the text is a key
abbrev pub IsKey : List ℕ → Type 0
IsKey text = is_key text ≡ true

abbrev pub WordedFace : FaceState → Type 0
WordedFace f = Each Any (λ (d : Declaration). IsKey d.key) f.declared

abbrev pub IsUsed : Routed → Type 0
IsUsed es = has_any es ≡ true

pub record IsWorded (h : HatState) : Type 0 where
  pub faces : Each Any WordedFace h.faces
  pub entries : Each IsKey IsUsed h.entries
  pub ordered : IsOrderedBy nat_cmp h.entries

abbrev pub AreWorded : List (ℕ × HatState) → Type 0
AreWorded hats = Each Any IsWorded hats

-- ---- what is said
-- a key is no empty text
pub key_text : (t : List ℕ) → IsKey t → has_text t ≡ true
unfolding is_key is_chunk
key_text [] h = absurd (false≢true h)
key_text (c ∷ t) h = refl

pub said_key : (s : Resolved) → not (says_key s) ≡ false → IsKey (full_text s)
said_key said.Unscoped h = absurd (true≢false h)
said_key said.Empty h = absurd (true≢false h)
said_key (said.Full text) h = by (is_key text) refl h
  where
    by : (b : Bool) → is_key text ≡ b → not b ≡ false → IsKey text
    by true k g = k
    by false k g = absurd (true≢false g)

-- ---- changes of a hat
face_worded : (n : ℕ) (k : FaceState → FaceState) → ((f : FaceState) → WordedFace f → WordedFace (k f)) → (h : HatState) → IsWorded h → IsWorded (change_face n k h)
face_worded n k keeps h w = by (face_at n h) refl
  where
    by : (o : Option FaceState) → face_at n h ≡ o → IsWorded (record h { faces = option_map_or (λ x. set_value (is_at (nat_cmp n)) h.faces (k x)) o h.faces })
    by None e = record { faces = w.faces; entries = w.entries; ordered = w.ordered }
    by (Some f) e = record { faces = each_set Any WordedFace (is_at (nat_cmp n)) h.faces (k f) w.faces (keeps f (each_found Any WordedFace (is_at (nat_cmp n)) h.faces f e w.faces)); entries = w.entries; ordered = w.ordered }

joined_worded : (r : FaceRecord) (h : HatState) → IsWorded h → IsWorded (joined r h)
joined_worded r h w = by (has_face r.face.0 h)
  where
    by : (b : Bool) → IsWorded (cond b h (with_face_opened r h))
    by true = w
    by false = record { faces = each_in Any WordedFace nat_cmp h.faces r.face.0 (new_face r h.told_start) w.faces tt tt; entries = w.entries; ordered = w.ordered }

left_worded : (n : ℕ) (h : HatState) → IsWorded h → IsWorded (without_face n h)
left_worded n h w = record { faces = each_out Any WordedFace (is_at (nat_cmp n)) h.faces w.faces; entries = w.entries; ordered = w.ordered }

marked_worded : (m : FinalMark) (set : Bool) (f : FaceState) → WordedFace f → WordedFace (marked m set f)
marked_worded mark.Initial set f w = w
marked_worded (mark.Key k) true f w = w
marked_worded (mark.Key k) false f w = w

with_worded : (key : List ℕ) (v : Routed) (es : Entries) → IsKey key → Each IsKey IsUsed es → Each IsKey IsUsed (with_entries key v es)
with_worded key [] es some all = each_out IsKey IsUsed (is_at (text_cmp key)) es all
with_worded key (x ∷ v) es some all = each_in IsKey IsUsed text_cmp es key (x ∷ v) all some refl

source_worded : (o : Option Zid) (g : Zid → HatState) (h : HatState) → IsWorded h → ((z : Zid) → IsWorded (g z)) → IsWorded (option_map_or g o h)
source_worded None g h w each = w
source_worded (Some z) g h w each = each z

announced_worded : (n node : ℕ) (key : List ℕ) (i : QueryableInfoType) → IsKey key → (h : HatState) → IsWorded h → IsWorded (announced_by n node key i h)
announced_worded n node key i some h w =
    source_worded (source_at n node h) (λ z. announced z.0 key i h) h w
    (λ z. record {
      faces = w.faces;
      entries = with_worded key (routed_with z.0 i (entries_at key h.entries)) h.entries some w.entries;
      ordered = subst (IsOrderedBy nat_cmp) (put_is z.0 key h.entries w.ordered.texts i) (with_ordered nat_cmp_total exact_unsigned key z.0 i h.entries w.ordered);
    })

retracted_worded : (n node : ℕ) (key : List ℕ) → IsKey key → (h : HatState) → IsWorded h → IsWorded (retracted_by n node key h)
retracted_worded n node key some h w =
    source_worded (source_at n node h) (λ z. retracted z.0 key h) h w
    (λ z. record {
      faces = w.faces;
      entries = with_worded key (routed_without z.0 (entries_at key h.entries)) h.entries some w.entries;
      ordered = subst (IsOrderedBy nat_cmp) (take_is z.0 key h.entries w.ordered.texts) (without_ordered nat_cmp_total exact_unsigned key z.0 h.entries w.ordered);
    })

some_stay : (xs ys : Routed) → if_any xs ≡ Some ys → IsUsed ys
some_stay [] ys e = absurd (let gap : None ≡ Some ys = e in cc)
some_stay (x ∷ xs) ys e = subst IsUsed (same_Some _ _ e) refl

network_worded : (test : Zid → Bool) (es : Entries) → Each IsKey IsUsed es → Each IsKey IsUsed (staying test es)
network_worded test [] all = tt
network_worded test (e ∷ es) all = by (if_any (filter (is_by test) e.1)) refl (network_worded test es all.1)
  where
    by : (o : Option Routed) → if_any (filter (is_by test) e.1) ≡ o → Each IsKey IsUsed (staying test es) → Each IsKey IsUsed (cons_option (option_map (λ xs. (e.0, xs)) o) (staying test es))
    by None s ih = ih
    by (Some xs) s ih = ((all.0.0, some_stay (filter (is_by test) e.1) xs s), ih)

pub networked_worded : (net : Network) (h : HatState) → IsWorded h → IsWorded (networked net h)
networked_worded net h w = by (strategy_at h)
  where
    by : (k : Strategy) → IsWorded (in_routers k (record h { network = net; entries = staying (is_listed net) h.entries }) h)
    by strategy.Broker = w
    by strategy.Client = w
    by strategy.Peer = w
    by strategy.Router = record { faces = w.faces; entries = network_worded (is_listed net) h.entries w.entries; ordered = staying_ordered (is_listed net) h.entries w.ordered }

-- ---- an accepted call changes one hat at most
module _ (P : HatState → Type 0) where
  pub each_hat_keeps : (r : Region) (f : HatState → HatState) (hats : List (ℕ × HatState)) → ((h : HatState) → P h → P (f h)) → Each Any P hats → Each Any P (change_hat r f hats)
  each_hat_keeps r f hats keeps all = by (hat_at r hats) refl
    where
      by : (o : Option HatState) → hat_at r hats ≡ o → Each Any P (put_hat r f hats o)
      by None e = all
      by (Some h) e = each_set Any P (is_at (nat_cmp (region_index r))) hats (f h) all (keeps h (each_found Any P (is_at (nat_cmp (region_index r))) hats h (region_there r hats h e).1 all))

  pub each_keeps_in_its_hat : (face : ℕ) (f : HatState → HatState) (c : Core) → ((h : HatState) → P h → P (f h)) → Each Any P c.hats → Each Any P (change_hat_of face f c).hats
  each_keeps_in_its_hat face f c keeps all = by (at face c.faces)
    where
      by : (o : Option OpenFace) → Each Any P (option_map_or (λ (x : OpenFace). change_hat x.region f c.hats) o c.hats)
      by None = all
      by (Some o) = each_hat_keeps o.region f c.hats keeps all

pub accepted_worded : (c : Core) (t : TextCall) → refusal_of c t ≡ None → AreWorded c.hats → AreWorded (accepted c t).hats
accepted_worded c (opening o) h all = each_hat_keeps IsWorded o.region (joined (seat c.next_face o)) c.hats (joined_worded (seat c.next_face o)) all
accepted_worded c (closing face) h all = each_keeps_in_its_hat IsWorded face.0 (without_face face.0) c (left_worded face.0) all
accepted_worded c (declaring face id s i node) h all =
    let some = said_key s (all_passed (causes c (declaring face id s i node)) h).1.1.0 in
    each_keeps_in_its_hat IsWorded face.0 (registered face.0 id (full_text s) node i) c
    (λ x w. face_worded face.0 (declare id (full_text s) i) (λ f v. each_in Any (λ (d : Declaration). IsKey d.key) nat_cmp f.declared id (record { key = full_text s; info = i }) v tt some) x w) all
accepted_worded c (withdrawing face id) h all =
    each_keeps_in_its_hat IsWorded face.0 (unregistered face.0 id) c (face_worded face.0 (withdraw id) (λ f v. each_out Any (λ (d : Declaration). IsKey d.key) (is_at (nat_cmp id)) f.declared v)) all
accepted_worded c (finalizing face m set) h all = each_keeps_in_its_hat IsWorded face.0 (finalized face.0 m set) c (face_worded face.0 (marked m set) (marked_worded m set)) all
accepted_worded c (announcing face s i node) h all =
    each_keeps_in_its_hat IsWorded face.0 (announced_by face.0 node (full_text s) i) c (announced_worded face.0 node (full_text s) i (said_key s (all_passed (causes c (announcing face s i node)) h).1.1.0)) all
accepted_worded c (retracting face s node) h all =
    each_keeps_in_its_hat IsWorded face.0 (retracted_by face.0 node (full_text s)) c (retracted_worded face.0 node (full_text s) (said_key s (all_passed (causes c (retracting face s node)) h).1.1.0)) all
accepted_worded c (networking r net) h all = each_hat_keeps IsWorded r (networked net) c.hats (networked_worded net) all
accepted_worded c (tabling face ids) h all = each_keeps_in_its_hat IsWorded face.0 (noded face.0 ids) c (face_worded face.0 (λ f. record f { nodes = ids }) (λ f v. v)) all
accepted_worded c t h all = all

-- ---- before any call
with_hat_worded : (config : Settings) (hats : List (ℕ × HatState)) (e : Entry) → AreWorded hats → AreWorded (with_hat config hats e)
with_hat_worded config hats e all =
    each_in Any IsWorded nat_cmp hats (region_index (region_of e)) (new_hat (region_of e) (north_of config.entries) config.zid config.start.told) all tt (record { faces = tt; entries = tt; ordered = ordered_none nat_cmp })

all_worded : (config : Settings) (es : List Entry) (hats : List (ℕ × HatState)) → AreWorded hats → AreWorded (fold (with_hat config) hats es)
all_worded config [] hats all = all
all_worded config (e ∷ es) hats all = all_worded config es (with_hat config hats e) (with_hat_worded config hats e all)

pub opening_worded : (config : Settings) → AreWorded (first_hats config)
opening_worded config = all_worded config config.entries [] tt
