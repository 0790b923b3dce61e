-- The keys of a region's entries, once routers' entries come and go.
use Rattle.std.proofs.Common.{◌≡◌, ◌∙◌, refl, sym, ap, subst, ℕ, Bool, true, false, cond, List, [], ◌∷◌, filter, fold, Option, Some, None}
use Rattle.std.specs.Prelude.{◌&&◌, ◌||◌, not}
use Rattle.std.specs.List.Sorted.{IsStrictlySortedBy}
use Rattle.std.specs.Map.{keys_of}
use Rattle.std.specs.BTreeMap.{is_at}
use Rattle.std.specs.BTreeSet.{insert_key}
use Rattle.std.specs.Option.{is_some, option_and_then, option_map_or}
use Rattle.std.specs.Ordering.{nat_cmp}
use Rattle.std.specs.Set.{remove_key}
use Rattle.std.proofs.lemmas.Bool.{false≢true, true≢false}
use Rattle.std.proofs.lemmas.Cmp.{nat_cmp_total}
use Rattle.std.proofs.lemmas.Map.Lookups.{exact_unsigned}
use Rattle.std.proofs.lemmas.Map.Made.{is_some-lookup}
use Rattle.zq_message.specs.declared.message.QueryableInfoType.{QueryableInfoType}
use Rattle.zq_message.specs.declared.message.Zid.{Zid}
use Rattle.zq_key.proofs.Lookups.{at_itself, either_way, same_key}
use Rattle.zq_key.proofs.Sorted.{has_put, same_keys, sorted_put}
use Rattle.zq_index.specs.Holders.{IsOrderedBy, if_any}
use Rattle.zq_index.specs.Texts.{at_text, has_text, text_cmp}
use Rattle.zq_index.proofs.Finding.{found_with, found_without}
use Rattle.zq_index.proofs.Ordered.{with_ordered, without_ordered}
use Rattle.zq_index.proofs.Orders.{text_exact, text_total}
use Rattle.zq_strategy.specs.Entries.{Entries, Routed, entries_at, is_by, routed_with, routed_without, staying, with_entry, without_entry}
use Rattle.zq_strategy.proofs.Sets.{has_left, sorted_left}
use Rattle.zq_routers.proofs.Entering.{put_is, take_is}
use Rattle.zq_routers.proofs.Standing.{picked_at}

-- the entries have the key
abbrev pub has : List ℕ → Entries → Bool
has key es = is_some (at_text key es)

abbrev Rise : List (List ℕ) → Type 0
Rise ks = IsStrictlySortedBy text_cmp ks

pub has_is : (key : List ℕ) (es : Entries) → has key es ≡ has_text key (keys_of es)
has_is key es = is_some-lookup (is_at (text_cmp key)) es

some_by : {X : Type 0} (b : Bool) (x o : Option X) → is_some (cond b x o) ≡ cond b (is_some x) (is_some o)
some_by true x o = refl
some_by false x o = refl

-- ---- a router's entry comes
module _ (router : ℕ) (key : List ℕ) (es : Entries) (ordered : IsOrderedBy nat_cmp es) where
  module _ (info : QueryableInfoType) where
    pub put_ordered : IsOrderedBy nat_cmp (with_entry router key info es)
    put_ordered = subst (IsOrderedBy nat_cmp) (put_is router key es ordered.texts info) (with_ordered nat_cmp_total exact_unsigned key router info es ordered)

    has_more : (q : List ℕ) → has q (with_entry router key info es) ≡ cond (is_at (text_cmp key) q) true (has q es)
    has_more q =
        ap (has q) (sym (put_is router key es ordered.texts info))
        ∙ ap is_some (found_with nat_cmp key router info es q)
        ∙ some_by (is_at (text_cmp key) q) (Some (routed_with router info (entries_at key es))) (at_text q es)

    -- its key comes with it
    pub keys_put : keys_of (with_entry router key info es) ≡ insert_key text_cmp (keys_of es) key
    keys_put =
        same_keys text_total text_exact (keys_of (with_entry router key info es)) (insert_key text_cmp (keys_of es) key) put_ordered.texts (sorted_put text_total (keys_of es) key ordered.texts)
        (λ q.
        sym (has_is q (with_entry router key info es))
        ∙ has_more q
        ∙ ap (cond (is_at (text_cmp key) q) true) (has_is q es)
        ∙ ap (λ b. cond b true (has_text q (keys_of es))) (either_way text_total text_exact key q)
        ∙ either (is_at (text_cmp q) key) (has_text q (keys_of es))
        ∙ sym (has_put text_total text_exact q key (keys_of es)))
      where
        either : (a b : Bool) → cond a true b ≡ (a || b)
        either true b = refl
        either false b = refl

  -- ---- a router's entry goes
  abbrev left : Routed
  left = routed_without router (entries_at key es)

  pub taken_ordered : IsOrderedBy nat_cmp (without_entry router key es)
  taken_ordered = subst (IsOrderedBy nat_cmp) (take_is router key es ordered.texts) (without_ordered nat_cmp_total exact_unsigned key router es ordered)

  has_less : (q : List ℕ) → has q (without_entry router key es) ≡ cond (is_at (text_cmp key) q) (is_some (if_any left)) (has q es)
  has_less q =
      ap (has q) (sym (take_is router key es ordered.texts))
      ∙ ap is_some (found_without nat_cmp key router es q ordered.texts)
      ∙ some_by (is_at (text_cmp key) q) (if_any left) (at_text q es)

  -- what is left on its key
  left_is : (b : Bool) → has key (without_entry router key es) ≡ b → is_some (if_any left) ≡ b
  left_is b e = sym (has_less key ∙ ap (λ c. cond c (is_some (if_any left)) (has key es)) (at_itself text_total text_exact key)) ∙ e

  there_by : (o : Option Routed) → is_some (if_any (routed_without router (option_map_or (λ hs. hs) o []))) ≡ true → is_some o ≡ true
  there_by None e = absurd (false≢true e)
  there_by (Some hs) e = refl

  -- with another router's on it the key stays
  pub keys_stay : has key (without_entry router key es) ≡ true → keys_of (without_entry router key es) ≡ keys_of es
  keys_stay more =
      same_keys text_total text_exact (keys_of (without_entry router key es)) (keys_of es) taken_ordered.texts ordered.texts
      (λ q.
      sym (has_is q (without_entry router key es))
      ∙ has_less q
      ∙ ap (λ b. cond (is_at (text_cmp key) q) b (has q es)) (left_is true more)
      ∙ by q (is_at (text_cmp key) q) refl
      ∙ has_is q es)
    where
      by : (q : List ℕ) (b : Bool) → is_at (text_cmp key) q ≡ b → cond b true (has q es) ≡ has q es
      by q true e = sym (ap (λ k. has k es) (sym (same_key text_total text_exact key q e)) ∙ there_by (at_text key es) (left_is true more))
      by q false e = refl

  -- with none it goes
  pub keys_taken : has key (without_entry router key es) ≡ false → keys_of (without_entry router key es) ≡ remove_key (is_at (text_cmp key)) (keys_of es)
  keys_taken none =
      same_keys text_total text_exact (keys_of (without_entry router key es)) (remove_key (is_at (text_cmp key)) (keys_of es)) taken_ordered.texts (sorted_left text_cmp (is_at (text_cmp key)) (keys_of es) ordered.texts)
      (λ q.
      sym (has_is q (without_entry router key es))
      ∙ has_less q
      ∙ (λ j. cond (is_at (text_cmp key) q) (left_is false none j) (has_is q es j))
      ∙ sym (has_left text_total text_exact key q (keys_of es) ordered.texts))

-- ---- keys that go, one after the other
abbrev pub without_all : List (List ℕ) → List (List ℕ) → List (List ℕ)
without_all ks keys = fold (λ l key. remove_key (is_at (text_cmp key)) l) ks keys

rise_without : (keys ks : List (List ℕ)) → Rise ks → Rise (without_all ks keys)
rise_without [] ks rise = rise
rise_without (key ∷ keys) ks rise = rise_without keys (remove_key (is_at (text_cmp key)) ks) (sorted_left text_cmp (is_at (text_cmp key)) ks rise)

has_without : (keys ks : List (List ℕ)) → Rise ks → (q : List ℕ) → has_text q (without_all ks keys) ≡ (has_text q ks && not (has_text q keys))
has_without [] ks rise q = by (has_text q ks)
  where
    by : (b : Bool) → b ≡ (b && true)
    by true = refl
    by false = refl
has_without (key ∷ keys) ks rise q =
    has_without keys (remove_key (is_at (text_cmp key)) ks) (sorted_left text_cmp (is_at (text_cmp key)) ks rise) q
    ∙ ap (λ b. b && not (has_text q keys)) (has_left text_total text_exact key q ks rise ∙ ap (λ b. cond b false (has_text q ks)) (either_way text_total text_exact key q))
    ∙ by (is_at (text_cmp q) key) (has_text q ks) (has_text q keys)
  where
    by : (a b c : Bool) → (cond a false b && not c) ≡ (b && not (a || c))
    by true true c = refl
    by true false c = refl
    by false b c = refl

-- the keys that are left once just those are gone that the entries have no more
pub keys_gone : (es after : Entries) (keys : List (List ℕ)) → Rise (keys_of es) → Rise (keys_of after)
    → ((q : List ℕ) → has q after ≡ true → has q es ≡ true)
    → ((q : List ℕ) → (has q es && has_text q keys) ≡ (has q es && not (has q after)))
    → keys_of after ≡ without_all (keys_of es) keys
keys_gone es after keys rise then_rise fewer gone =
    same_keys text_total text_exact (keys_of after) (without_all (keys_of es) keys) then_rise (rise_without keys (keys_of es) rise)
    (λ q.
    sym (has_is q after)
    ∙ by (has q after) (has q es) (has_text q keys) (fewer q) (gone q)
    ∙ ap (λ b. b && not (has_text q keys)) (has_is q es)
    ∙ sym (has_without keys (keys_of es) rise q))
  where
    by : (b a t : Bool) → (b ≡ true → a ≡ true) → (a && t) ≡ (a && not b) → b ≡ (a && not t)
    by true true true e f = absurd (true≢false f)
    by true true false e f = refl
    by true false t e f = absurd (false≢true (e refl))
    by false true true e f = refl
    by false true false e f = absurd (false≢true f)
    by false false t e f = refl

-- entries of routers that pass a test are on keys of the entries
pub staying_fewer : (test : Zid → Bool) (es : Entries) → Rise (keys_of es) → (q : List ℕ) → has q (staying test es) ≡ true → has q es ≡ true
staying_fewer test es rise q e = by (at_text q es) (sym (ap is_some (picked_at (λ l. if_any (filter (is_by test) l)) q es rise)) ∙ e)
  where
    by : (o : Option Routed) → is_some (option_and_then (λ l. if_any (filter (is_by test) l)) o) ≡ true → is_some o ≡ true
    by None f = absurd (false≢true f)
    by (Some l) f = refl
