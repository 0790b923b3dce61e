-- Entries of routers that a network does not list.
use Rattle.std.proofs.Common.{◌≡◌, ◌∙◌, sym, ap, refl, ℕ, Bool, true, false, cond, List, [], ◌∷◌, map, Option, Some, None, true≢false, eqb, eqb-true}
use Rattle.std.specs.Prelude.{◌&&◌, ◌||◌, not}
use Rattle.std.specs.Option.{is_some, option_map_or}
use Rattle.std.specs.List.{list_any}
use Rattle.std.specs.Map.{keys_of, lookup}
use Rattle.std.specs.BTreeMap.{is_at}
use Rattle.std.specs.BTreeSet.{BTreeSet, contains_text}
use Rattle.std.specs.Ordering.{nat_cmp}
use Rattle.std.specs.Cmp.{nat_cmp_total}
use Rattle.std.specs.declared.alloc.Global.{Global}
use Rattle.std.specs.Prelude.{String}
use Rattle.std.proofs.lemmas.Map.Views.{any-filter_same}
use Rattle.std.proofs.lemmas.Map.Lookups.{exact_unsigned}
use Rattle.zq_message.specs.declared.message.Zid.{Zid}
use Rattle.zq_key.proofs.Lookups.{either_way}
use Rattle.zq_index.specs.Holders.{IsOrderedBy}
use Rattle.zq_index.proofs.Ordered.{same_index}
use Rattle.zq_strategy.specs.declared.network.Network.{Network}
use Rattle.zq_strategy.specs.Nets.{is_listed, is_zid}
use Rattle.zq_strategy.specs.Entries.{Entries, RouterKeys, IsTied, entry_of, is_one_of, is_another, is_unlisted, unlisted_of, zid_of, staying, without_router, without_routers}
use Rattle.zq_routers.proofs.Dropping.{staying_entry, staying_ordered}
use Rattle.zq_strategy.proofs.Places.{number_test}

-- ---- routers go, one after the other
without_by : {X : Type 0} (a b c : Bool) (o : Option X) → b ≡ a → cond c None (cond (not b) o None) ≡ cond (a || c) None o
without_by true true true o e = refl
without_by true true false o e = refl
without_by false false true o e = refl
without_by false false false o e = refl
without_by true false c o e = absurd (true≢false (sym e))
without_by false true c o e = absurd (true≢false e)

pub same_id : (a b : ℕ) → eqb a b ≡ eqb b a
same_id a b = sym (number_test a b) ∙ either_way nat_cmp_total exact_unsigned a b ∙ number_test b a

pub without_ordered : (zids : List Zid) (all : Entries) → IsOrderedBy nat_cmp all → IsOrderedBy nat_cmp (without_routers zids all)
without_ordered [] all ordered = ordered
without_ordered (zid ∷ zids) all ordered = without_ordered zids (without_router all zid) (staying_ordered (is_another zid) all ordered)

pub without_entry : (zids : List Zid) (all : Entries) → IsOrderedBy nat_cmp all → (z : Zid) (key : List ℕ) → entry_of z.0 key (without_routers zids all) ≡ cond (is_one_of zids z) None (entry_of z.0 key all)
without_entry [] all ordered z key = refl
without_entry (zid ∷ zids) all ordered z key =
    without_entry zids (without_router all zid) (staying_ordered (is_another zid) all ordered) z key
    ∙ ap (cond (is_one_of zids z) None) (staying_entry (is_another zid) all ordered z.0 key)
    ∙ without_by (is_zid z zid) (is_zid zid z) (is_one_of zids z) (entry_of z.0 key all) (same_id zid.0 z.0)

-- ---- the routers that a network does not list
module _ (net : Network) (all : Entries) (routers : RouterKeys) (tied : IsTied all routers) where
  abbrev ids : List Zid
  ids = unlisted_of net routers

  same_test : (z x : Zid) → is_zid z x ≡ true → is_unlisted net x ≡ is_unlisted net z
  same_test z x at = ap (λ n. is_unlisted net (zid_of n)) (sym (eqb-true z.0 x.0 at))

  among_by : (z : ℕ) (e : ℕ × BTreeSet (String Global)) (es : RouterKeys) (b : Bool) → eqb z e.0 ≡ b → is_at (nat_cmp z) e.0 ≡ b
      → list_any (is_zid (zid_of z)) (map zid_of (keys_of es)) ≡ is_some (lookup (is_at (nat_cmp z)) es) → (eqb z e.0 || list_any (is_zid (zid_of z)) (map zid_of (keys_of es))) ≡ is_some (cond (is_at (nat_cmp z) e.0) (Some e.1) (lookup (is_at (nat_cmp z)) es))
  among_by z e es true at is ih = ap (λ b. b || list_any (is_zid (zid_of z)) (map zid_of (keys_of es))) at ∙ sym (ap (λ b. is_some (cond b (Some e.1) (lookup (is_at (nat_cmp z)) es))) is)
  among_by z e es false at is ih = ap (λ b. b || list_any (is_zid (zid_of z)) (map zid_of (keys_of es))) at ∙ ih ∙ sym (ap (λ b. is_some (cond b (Some e.1) (lookup (is_at (nat_cmp z)) es))) is)

  among : (z : ℕ) (es : RouterKeys) → list_any (is_zid (zid_of z)) (map zid_of (keys_of es)) ≡ is_some (lookup (is_at (nat_cmp z)) es)
  among z [] = refl
  among z (e ∷ es) = among_by z e es (eqb z e.0) refl (number_test z e.0) (among z es)

  there_by : (key : List ℕ) (o : Option (BTreeSet (String Global))) → option_map_or (λ keys. contains_text keys key) o false ≡ true → is_some o ≡ true
  there_by key None e = absurd (true≢false (sym e))
  there_by key (Some keys) e = refl

  and_true : (a b : Bool) → b ≡ true → (a && b) ≡ a
  and_true true b e = e
  and_true false b e = refl

  -- a router with an entry is among them just where the network does not list it
  pub lost_ids : (z : ℕ) (key : List ℕ) → is_some (entry_of z key all) ≡ true → is_one_of ids (zid_of z) ≡ is_unlisted net (zid_of z)
  lost_ids z key there =
      any-filter_same (is_zid (zid_of z)) (is_unlisted net) (is_unlisted net (zid_of z)) (λ x at. same_test (zid_of z) x at) (map zid_of (keys_of routers))
      ∙ and_true (is_unlisted net (zid_of z)) (list_any (is_zid (zid_of z)) (map zid_of (keys_of routers))) (among z routers ∙ there_by key (lookup (is_at (nat_cmp z)) routers) (tied.same z key ∙ there))

  alike_by : (z : ℕ) (key : List ℕ) (o : Option _) → entry_of z key all ≡ o → cond (is_one_of ids (zid_of z)) None o ≡ cond (is_listed net (zid_of z)) o None
  alike_by z key None is = by (is_one_of ids (zid_of z)) (is_listed net (zid_of z))
    where
      by : {X : Type 0} (a b : Bool) → ◌≡◌ {A = Option X} (cond a None None) (cond b None None)
      by true true = refl
      by true false = refl
      by false true = refl
      by false false = refl
  alike_by z key (Some i) is = ap (λ b. cond b None (Some i)) (lost_ids z key (ap is_some is)) ∙ by (is_listed net (zid_of z))
    where
      by : (b : Bool) → cond (not b) None (Some i) ≡ cond b (Some i) None
      by true = refl
      by false = refl

  pub lost_left : without_routers ids all ≡ staying (is_listed net) all
  lost_left =
      same_index nat_cmp_total exact_unsigned (without_routers ids all) (staying (is_listed net) all) (without_ordered ids all tied.ordered) (staying_ordered (is_listed net) all tied.ordered)
      (λ key z. without_entry ids all tied.ordered (zid_of z) key ∙ alike_by z key (entry_of z key all) refl ∙ sym (staying_entry (is_listed net) all tied.ordered z key))
