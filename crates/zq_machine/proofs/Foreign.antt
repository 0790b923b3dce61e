-- Entries of routers: how calls change them; and none is ever the gateway's own.
use Rattle.std.proofs.Common.{◌≡◌, ◌∙◌, refl, sym, ap, subst, ℕ, Bool, true, false, cond, List, [], ◌∷◌, fold, Option, Some, None, true≢false}
use Rattle.std.specs.BTreeMap.{is_at}
use Rattle.std.specs.Option.{is_some, option_and_then, option_map, option_map_or}
use Rattle.std.specs.Ordering.{nat_cmp}
use Rattle.std.proofs.lemmas.Cmp.{nat_cmp_total}
use Rattle.std.proofs.lemmas.Map.Lookups.{exact_unsigned}
use Rattle.std.proofs.lemmas.Option.{same_Some}
use Rattle.zq_message.specs.declared.message.FaceId.{FaceId}
use Rattle.zq_message.specs.declared.message.QueryableInfoType.{QueryableInfoType}
use Rattle.zq_message.specs.declared.message.Region.{Region}
use Rattle.zq_message.specs.declared.message.Zid.{Zid}
use Rattle.zq_message.specs.Region.{region_index}
use Rattle.zq_key.proofs.Lookups.{found_after_write}
use Rattle.zq_index.specs.Holders.{IsOrderedBy}
use Rattle.zq_index.specs.Texts.{text_cmp}
use Rattle.zq_index.proofs.Ordered.{with_at, without_at}
use Rattle.zq_strategy.specs.declared.network.Network.{Network}
use Rattle.zq_strategy.specs.Entries.{Entries, entry_of, staying, with_entry, without_entry}
use Rattle.zq_strategy.specs.Nets.{is_listed, is_zid}
use Rattle.zq_routers.proofs.Dropping.{staying_entry}
use Rattle.zq_routers.proofs.Entering.{put_is, take_is}
use Rattle.zq_strategy.specs.declared.types.FaceRecord.{FaceRecord}
use Rattle.zq_strategy.specs.declared.types.Strategy.{Strategy}
use Rattle.zq_strategy.specs.declared.types.Strategy.TheVariants as strategy
use Rattle.zq_strategy.specs.Kept.{has_face, new_hat, registered, unregistered, with_face_opened, without_face}
use Rattle.zq_strategy.specs.Marks.{finalized}
use Rattle.zq_strategy.specs.Regions.{in_routers, strategy_at}
use Rattle.zq_strategy.specs.Routers.{announced, networked, noded, retracted, source_at}
use Rattle.zq_strategy.specs.State.{HatState}
use Rattle.zq_machine.specs.declared.config.Entry.{Entry}
use Rattle.zq_machine.specs.declared.face.OpenFace.{OpenFace}
use Rattle.zq_machine.specs.Configs.{Settings, north_of, region_of}
use Rattle.zq_machine.specs.Deciding.{accepted, causes, lacks_router, refusal_of, seat}
use Rattle.zq_machine.specs.Selecting.{full_text}
use Rattle.zq_machine.specs.State.{Core, at, change_hat, change_hat_of, first_hats, hat_at, joined, put_hat, with_hat}
use Rattle.zq_machine.specs.TextCalls.{TextCall, opening, closing, declaring, withdrawing, finalizing, announcing, retracting, networking, tabling}
use Rattle.zq_machine.proofs.Changing.{itself, number_test, one_number, region_there}
use Rattle.zq_machine.proofs.Granted.{all_passed}
use Rattle.zq_machine.proofs.Hats.{same_view, same_view_of}
use Rattle.zq_machine.proofs.Worded.{Any, AreWorded, Each, IsWorded, each_found, each_in}

-- ---- one hat is changed
pub hat_now : (z : Region) (g : HatState → HatState) (hats : List (ℕ × HatState)) (x : HatState) → hat_at z hats ≡ Some x → (k : ℕ) → at k (change_hat z g hats) ≡ cond (is_at (nat_cmp (region_index z)) k) (Some (g x)) (at k hats)
hat_now z g hats x e k =
    ap (λ o. at k (put_hat z g hats o)) e
    ∙ found_after_write nat_cmp_total exact_unsigned (region_index z) k (g x) hats (ap is_some (region_there z hats x e).1)

pub zid_itself : (z : Zid) → is_zid z z ≡ true
zid_itself z = sym (number_test z.0 z.0) ∙ itself z.0

-- ---- entries of hats stay, but for calls of routers
abbrev pub listed : HatState → Entries
listed h = h.entries

unfoldable pub of_routers : TextCall → Bool
of_routers (announcing f sd info by) = true
of_routers (retracting f sd by) = true
of_routers (networking r net) = true
of_routers t = false

joined_listed : (x : FaceRecord) (h : HatState) → listed (joined x h) ≡ listed h
joined_listed x h = by (has_face x.face.0 h)
  where
    by : (b : Bool) → listed (cond b h (with_face_opened x h)) ≡ listed h
    by true = refl
    by false = refl

pub entries_kept : (c : Core) (t : TextCall) → of_routers t ≡ false → (k : ℕ) → option_map listed (at k (accepted c t).hats) ≡ option_map listed (at k c.hats)
unfolding of_routers
entries_kept c (opening o) e k = same_view listed o.region (joined (seat c.next_face o)) c.hats (λ x there. joined_listed (seat c.next_face o) x) k
entries_kept c (closing f) e k = same_view_of listed f.0 (without_face f.0) c (λ x there. refl) k
entries_kept c (declaring f id sd info by) e k = same_view_of listed f.0 (registered f.0 id (full_text sd) by info) c (λ x there. refl) k
entries_kept c (withdrawing f id) e k = same_view_of listed f.0 (unregistered f.0 id) c (λ x there. refl) k
entries_kept c (finalizing f m set) e k = same_view_of listed f.0 (finalized f.0 m set) c (λ x there. refl) k
entries_kept c (tabling f ids) e k = same_view_of listed f.0 (noded f.0 ids) c (λ x there. refl) k
entries_kept c (announcing f sd info by) e k = absurd (true≢false e)
entries_kept c (retracting f sd by) e k = absurd (true≢false e)
entries_kept c (networking r net) e k = absurd (true≢false e)
entries_kept c t e k = refl

-- ---- what an entry is once one is put, and once one is taken out
module _ (key : List ℕ) where
  pub entry_put : (text : List ℕ) (info : QueryableInfoType) (z : Zid) (x : HatState) → IsOrderedBy nat_cmp x.entries → (q : ℕ)
      → entry_of q key (with_entry z.0 text info x.entries) ≡ cond (is_at (text_cmp text) key) (cond (is_at (nat_cmp z.0) q) (Some info) (entry_of q key x.entries)) (entry_of q key x.entries)
  entry_put text info z x ordered q = ap (entry_of q key) (sym (put_is z.0 text x.entries ordered.texts info)) ∙ with_at nat_cmp_total exact_unsigned text z.0 info x.entries key q

  pub entry_taken : (text : List ℕ) (z : Zid) (x : HatState) → IsOrderedBy nat_cmp x.entries → (q : ℕ)
      → entry_of q key (without_entry z.0 text x.entries) ≡ cond (is_at (text_cmp text) key) (cond (is_at (nat_cmp z.0) q) None (entry_of q key x.entries)) (entry_of q key x.entries)
  entry_taken text z x ordered q = ap (entry_of q key) (sym (take_is z.0 text x.entries ordered.texts)) ∙ without_at nat_cmp_total exact_unsigned text z.0 x.entries ordered key q

-- ---- a router's entry comes or goes
-- who says it, and by which node
pub record Source (c : Core) (f : FaceId) (node : ℕ) : Type 0 where
  pub open_face : OpenFace
  pub its : at f.0 c.faces ≡ Some open_face
  pub hat : HatState
  pub home : hat_at open_face.region c.hats ≡ Some hat
  pub router : Zid
  pub source : source_at f.0 node hat ≡ Some router
  pub foreign : is_zid c.config.zid router ≡ false

pub source_of : (c : Core) (f : FaceId) (node : ℕ) → lacks_router f node c ≡ false → Source c f node
source_of c f node lacks = by_face (at f.0 c.faces) refl lacks
  where
    router_in : Option OpenFace → Option Zid
    router_in o = option_and_then (source_at f.0 node) (option_and_then (λ (x : OpenFace). hat_at x.region c.hats) o)

    by_source : (o : OpenFace) → at f.0 c.faces ≡ Some o → (h : HatState) → hat_at o.region c.hats ≡ Some h → (z : Option Zid) → source_at f.0 node h ≡ z → option_map_or (is_zid c.config.zid) z true ≡ false → Source c f node
    by_source o e h g None k l = absurd (true≢false l)
    by_source o e h g (Some z) k l = record { open_face = o; its = e; hat = h; home = g; router = z; source = k; foreign = l }

    by_hat : (o : OpenFace) → at f.0 c.faces ≡ Some o → (h : Option HatState) → hat_at o.region c.hats ≡ h → option_map_or (is_zid c.config.zid) (option_and_then (source_at f.0 node) h) true ≡ false → Source c f node
    by_hat o e None g l = absurd (true≢false l)
    by_hat o e (Some h) g l = by_source o e h g (source_at f.0 node h) refl l

    by_face : (o : Option OpenFace) → at f.0 c.faces ≡ o → option_map_or (is_zid c.config.zid) (router_in o) true ≡ false → Source c f node
    by_face None e l = absurd (true≢false l)
    by_face (Some o) e l = by_hat o e (hat_at o.region c.hats) refl l

-- by the source of a hat
abbrev pub by_source : FaceId → ℕ → (Zid → HatState → HatState) → HatState → HatState
by_source f node k x = option_map_or (λ z. k z x) (source_at f.0 node x) x

-- ---- no router's entry is the gateway's own
-- the hat has no entry of the id
abbrev pub HasNone : Zid → HatState → Type 0
HasNone own h = (key : List ℕ) → entry_of own.0 key h.entries ≡ None

abbrev pub AreForeign : Zid → List (ℕ × HatState) → Type 0
AreForeign own hats = (k : ℕ) (h : HatState) → at k hats ≡ Some h → HasNone own h

-- as many entries as before
kept_foreign : (own : Zid) (c : Core) (t : TextCall) → of_routers t ≡ false → AreForeign own c.hats → AreForeign own (accepted c t).hats
kept_foreign own c t plain all k h e key = by (at k c.hats) refl
  where
    now : Some h.entries ≡ option_map listed (at k c.hats)
    now = sym (ap (option_map listed) e) ∙ entries_kept c t plain k

    by : (o : Option HatState) → at k c.hats ≡ o → entry_of own.0 key h.entries ≡ None
    by None f = absurd (let gap : Some h.entries ≡ None = now ∙ ap (option_map listed) f in cc)
    by (Some x) f = let both : Some h.entries ≡ Some x.entries = now ∙ ap (option_map listed) f in ap (entry_of own.0 key) (same_Some _ _ both) ∙ all k x f key

none_by : {X : Type 0} (a b : Bool) (x : Option X) (o : Option X) → (b ≡ true → x ≡ None) → o ≡ None → cond a (cond b x o) o ≡ None
none_by true true x o gone none = gone refl
none_by true false x o gone none = none
none_by false b x o gone none = none

module _ (c : Core) (worded : AreWorded c.hats) (all : AreForeign c.config.zid c.hats) where
  abbrev pub own : Zid
  own = c.config.zid

  -- one hat is changed
  changed_foreign : (z : Region) (g : HatState → HatState) (x : HatState) → hat_at z c.hats ≡ Some x → HasNone own (g x) → AreForeign own (change_hat z g c.hats)
  changed_foreign z g x x_at none k h e = by (is_at (nat_cmp (region_index z)) k) (sym (hat_now z g c.hats x x_at k) ∙ e)
    where
      by : (b : Bool) → cond b (Some (g x)) (at k c.hats) ≡ Some h → HasNone own h
      by true f = subst (HasNone own) (same_Some _ _ f) none
      by false f = all k h f

  ordered_at : (z : Region) (x : HatState) → hat_at z c.hats ≡ Some x → IsOrderedBy nat_cmp x.entries
  ordered_at z x x_at = (each_found Any IsWorded (is_at (nat_cmp (region_index z))) c.hats x (region_there z c.hats x x_at).1 worded).ordered

  none_at : (z : Region) (x : HatState) → hat_at z c.hats ≡ Some x → HasNone own x
  none_at z x x_at = all (region_index z) x (region_there z c.hats x x_at).1

  other_id : (z : Zid) → is_zid own z ≡ false → is_at (nat_cmp z.0) own.0 ≡ true → (o : Option QueryableInfoType) → o ≡ None
  other_id z foreign same o = absurd (true≢false (sym (ap (λ n. is_at (nat_cmp n) z.0) (sym (one_number z.0 own.0 same)) ∙ itself z.0) ∙ number_test own.0 z.0 ∙ foreign))

  sourced_foreign : (f : FaceId) (by : ℕ) (k : Zid → HatState → HatState) → lacks_router f by c ≡ false
      → ((z : Zid) (x : HatState) → is_zid own z ≡ false → IsOrderedBy nat_cmp x.entries → HasNone own x → HasNone own (k z x)) → AreForeign own (change_hat_of f.0 (by_source f by k) c).hats
  sourced_foreign f by k lacks keeps =
      let src = source_of c f by lacks in
      subst (λ o. AreForeign own (option_map_or (λ (x : OpenFace). change_hat x.region (by_source f by k) c.hats) o c.hats)) (sym src.its)
      (changed_foreign src.open_face.region (by_source f by k) src.hat src.home
      (subst (λ o. HasNone own (option_map_or (λ z. k z src.hat) o src.hat)) (sym src.source) (keeps src.router src.hat src.foreign (ordered_at src.open_face.region src.hat src.home) (none_at src.open_face.region src.hat src.home))))

  networked_foreign : (net : Network) (x : HatState) → IsOrderedBy nat_cmp x.entries → HasNone own x → HasNone own (networked net x)
  networked_foreign net x ordered none key = by (strategy_at x)
    where
      left : (b : Bool) → cond b (entry_of own.0 key x.entries) None ≡ None
      left true = none key
      left false = refl

      by : (k : Strategy) → entry_of own.0 key (in_routers k (record x { network = net; entries = staying (is_listed net) x.entries }) x).entries ≡ None
      by strategy.Broker = none key
      by strategy.Client = none key
      by strategy.Peer = none key
      by strategy.Router = staying_entry (is_listed net) x.entries ordered own.0 key ∙ left (is_listed net own)

  region_foreign : (z : Region) (net : Network) (o : Option HatState) → hat_at z c.hats ≡ o → AreForeign own (put_hat z (networked net) c.hats o)
  region_foreign z net None e = all
  region_foreign z net (Some x) e =
      subst (λ o. AreForeign own (put_hat z (networked net) c.hats o)) e
      (changed_foreign z (networked net) x e (networked_foreign net x (ordered_at z x e) (none_at z x e)))

  pub accepted_foreign : (t : TextCall) → refusal_of c t ≡ None → AreForeign own (accepted c t).hats
  unfolding of_routers
  accepted_foreign (announcing f sd info by) fits =
      sourced_foreign f by (λ z x. announced z.0 (full_text sd) info x) (all_passed (causes c (announcing f sd info by)) fits).1.1.1.0
      (λ z x foreign ordered none key. entry_put key (full_text sd) info z x ordered own.0 ∙ none_by (is_at (text_cmp (full_text sd)) key) (is_at (nat_cmp z.0) own.0) (Some info) (entry_of own.0 key x.entries) (λ same. other_id z foreign same (Some info)) (none key))
  accepted_foreign (retracting f sd by) fits =
      sourced_foreign f by (λ z x. retracted z.0 (full_text sd) x) (all_passed (causes c (retracting f sd by)) fits).1.1.1.0
      (λ z x foreign ordered none key. entry_taken key (full_text sd) z x ordered own.0 ∙ none_by (is_at (text_cmp (full_text sd)) key) (is_at (nat_cmp z.0) own.0) None (entry_of own.0 key x.entries) (λ same. refl) (none key))
  accepted_foreign (networking z net) fits = region_foreign z net (hat_at z c.hats) refl
  accepted_foreign t fits = kept_foreign own c t refl all

-- ---- before any call there are no entries
first_foreign : (config : Settings) (es : List Entry) (hats : List (ℕ × HatState)) → Each Any (HasNone config.zid) hats → Each Any (HasNone config.zid) (fold (with_hat config) hats es)
first_foreign config [] hats all = all
first_foreign config (e ∷ es) hats all =
    first_foreign config es (with_hat config hats e)
    (each_in Any (HasNone config.zid) nat_cmp hats (region_index (region_of e)) (new_hat (region_of e) (north_of config.entries) config.zid config.start.told) all tt (λ key. refl))

pub opening_foreign : (config : Settings) → AreForeign config.zid (first_hats config)
opening_foreign config k h e = each_found Any (HasNone config.zid) (is_at (nat_cmp k)) (first_hats config) h e (first_foreign config config.entries [] tt)
