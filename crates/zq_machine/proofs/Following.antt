-- What a receiver keeps of what is told, and what holds of faces at a point of a run.
use Rattle.std.proofs.Common.{◌≡◌, ◌∙◌, refl, sym, ap, ℕ, ◌^◌, ◌<◌, Bool, true, false, cond, List, [], ◌∷◌, ◌++◌, filter, fold, map, Option, Some, None}
use Rattle.std.specs.Prelude.{◌==◌}
use Rattle.std.specs.BTreeSet.{insert_key}
use Rattle.std.specs.Cmp.{IsTotalOrder, nat_cmp_total, on_total, then_total}
use Rattle.std.specs.List.{AllByRecursion}
use Rattle.std.specs.List.Sorted.{IsStrictlySortedBy}
use Rattle.std.specs.Option.{option_map}
use Rattle.std.proofs.lemmas.Option.{same_Some}
use Rattle.std.specs.Ordering.{nat_cmp, ordering_then}
use Rattle.std.specs.declared.cmp.Ordering.{Ordering}
use Rattle.std.specs.declared.cmp.Ordering.TheVariants.{Less, Equal, Greater}
use Rattle.std.proofs.lemmas.List.Elements.{filter-append}
use Rattle.std.proofs.lemmas.List.Kept.{IsStrictlySortedBy-filter}
use Rattle.std.proofs.lemmas.Map.Lookups.{exact_unsigned}
use Rattle.zq_message.specs.declared.message.QueryableInfoType.{QueryableInfoType}
use Rattle.zq_index.specs.Texts.{text_cmp}
use Rattle.zq_index.proofs.Orders.{text_total}
use Rattle.zq_strategy.specs.declared.network.Telling.{Telling as TreeTelling}
use Rattle.zq_strategy.specs.Tellings.{in_order, telling_cmp}
use Rattle.zq_interests.specs.Interests.{Interests}
use Rattle.zq_told.specs.ToldSets.{ToldSet, ToldSets, last_at}
use Rattle.zq_told.specs.Receiver.{Heard, heard_entry, receive}
use Rattle.zq_told.specs.Laws.{is_to, last_given}
use Rattle.zq_told.specs.Leaving.{AreSound}
use Rattle.zq_message.specs.declared.message.FaceId.{FaceId}
use Rattle.zq_machine.specs.Deciding.{told_of}
use Rattle.zq_machine.specs.Due.{due}
use Rattle.zq_machine.specs.Keeping.{IsKept, IsNear, greater, is_told, if_told, greatest_with, with_told, is_due_at}
use Rattle.zq_machine.specs.Messages.{Telling, TellingBody, from_hat, told_or_ended, all_told, answered_by}
use Rattle.zq_machine.specs.Neighbours.{marked}
use Rattle.zq_machine.specs.Receivers.{AllHear, AreOfOpen, Hears}
use Rattle.zq_machine.specs.State.{Core, State}
use Rattle.zq_machine.specs.TextCalls.{TextCall, hearing, unhearing}
use Rattle.zq_machine.proofs.Telling.{none_filtered}
use Rattle.zq_machine.proofs.Sifting.{in_order_stays, sifted}

-- ---- what is told in order, of it what is told to a face
pub telling_total : IsTotalOrder telling_cmp
telling_total = then_total (on_total (λ (t : TreeTelling). t.face.0) nat_cmp_total) (then_total (on_total (λ (t : TreeTelling). t.key) text_total) (on_total (λ (t : TreeTelling). t.node) nat_cmp_total))

alike : (n : ℕ) (a b : TreeTelling) → telling_cmp a b ≡ Equal → is_to n a ≡ is_to n b
alike n a b e = ap (λ m. n == m) (exact_unsigned a.face.0 b.face.0 (first (nat_cmp a.face.0 b.face.0) (ordering_then (text_cmp a.key b.key) (nat_cmp a.node b.node)) e))
  where
    first : (x y : Ordering) → ordering_then x y ≡ Equal → x ≡ Equal
    first Less y f = absurd (cc)
    first Equal y f = refl
    first Greater y f = absurd (cc)

none_in_order : IsStrictlySortedBy telling_cmp []
unfolding IsStrictlySortedBy
none_in_order = tt

pub behind_trees : (n : ℕ) (trees near : List TreeTelling) → AllByRecursion (λ u. is_to n u ≡ false) trees → IsStrictlySortedBy telling_cmp near → filter (is_to n) (in_order (trees ++ near)) ≡ filter (is_to n) near
behind_trees n trees near none sorted =
    sifted telling_total (is_to n) (alike n) [] (trees ++ near) none_in_order
    ∙ ap (fold (insert_key telling_cmp) []) (filter-append (is_to n) trees near ∙ ap (λ l. l ++ filter (is_to n) near) (none_filtered (is_to n) trees none))
    ∙ in_order_stays telling_total (filter (is_to n) near) (IsStrictlySortedBy-filter telling_cmp (is_to n) near sorted)

-- what is told one face, in order, is what it is told
pub to_one : (n : ℕ) (ts : List TreeTelling) → filter (is_to n) (in_order ts) ≡ in_order (filter (is_to n) ts)
to_one n ts = sifted telling_total (is_to n) (alike n) [] ts none_in_order

-- ---- a receiver hears what a hat tells
module _ {K : Type 0} (f : K → TellingBody → K) (g : K → TreeTelling → K) (same : (kept : K) (t : TreeTelling) → f kept (from_hat t).body ≡ g kept t) where
  pub all_heard : (n : ℕ) (kept : K) (ts : List TreeTelling) → fold (if_told f n) kept (map from_hat ts) ≡ fold g kept (filter (is_to n) ts)
  all_heard n kept [] = refl
  all_heard n kept (t ∷ ts) =
      ap (λ k. fold (if_told f n) (cond (n == t.face.0) k kept) (map from_hat ts)) (same kept t) ∙ all_heard n (cond (n == t.face.0) (g kept t) kept) ts ∙ by (n == t.face.0)
    where
      by : (b : Bool) → fold g (cond b (g kept t) kept) (filter (is_to n) ts) ≡ fold g kept (cond b (t ∷ filter (is_to n) ts) (filter (is_to n) ts))
      by true = refl
      by false = refl

pub by_ids : (heard : Heard) (t : TreeTelling) → with_told heard (from_hat t).body ≡ receive heard t
by_ids heard t = by t.info
  where
    by : (i : Option QueryableInfoType) → with_told heard (told_or_ended t.id t.key i) ≡ heard_entry heard t.id t.key i
    by None = refl
    by (Some i) = refl

pub the_greatest : (last : ℕ) (t : TreeTelling) → greatest_with last (from_hat t).body ≡ last_given last t
the_greatest last t = by t.info
  where
    by : (i : Option QueryableInfoType) → greatest_with last (told_or_ended t.id t.key i) ≡ greater last t.id
    by None = refl
    by (Some i) = refl

pub none_heard : {K : Type 0} (f : K → TellingBody → K) (n : ℕ) (kept : K) (ts : List Telling) → AllByRecursion (λ (t : Telling). is_told n t ≡ false) ts → fold (if_told f n) kept ts ≡ kept
none_heard f n kept [] none = refl
none_heard f n kept (t ∷ ts) none = ap (λ b. fold (if_told f n) (cond b (f kept t.body) kept) ts) none.0 ∙ none_heard f n kept ts none.1

pub told_only : (n : ℕ) (ts : List TreeTelling) → filter (is_told n) (map from_hat ts) ≡ map from_hat (filter (is_to n) ts)
told_only n [] = refl
told_only n (t ∷ ts) = ap (λ l. cond (n == t.face.0) (from_hat t ∷ l) l) (told_only n ts) ∙ by (n == t.face.0)
  where
    by : (b : Bool) → cond b (from_hat t ∷ map from_hat (filter (is_to n) ts)) (map from_hat (filter (is_to n) ts)) ≡ map from_hat (cond b (t ∷ filter (is_to n) ts) (filter (is_to n) ts))
    by true = refl
    by false = refl

-- in answer to an interest it hears the same
answers_kept : {K : Type 0} (f : K → TellingBody → K) → ((kept : K) → f kept all_told ≡ kept) → (n : ℕ) (to : FaceId) (id : ℕ) (ts : List Telling) (kept : K) → fold (if_told f n) kept (answered_by to id ts) ≡ fold (if_told f n) kept ts
answers_kept f quiet n to id [] kept = by (n == to.0)
  where
    by : (b : Bool) → cond b (f kept all_told) kept ≡ kept
    by true = quiet kept
    by false = refl
answers_kept f quiet n to id (t ∷ ts) kept = answers_kept f quiet n to id ts (if_told f n kept t)

pub marks_kept : {K : Type 0} (f : K → TellingBody → K) → ((kept : K) → f kept all_told ≡ kept) → (n : ℕ) (t : TextCall) (ts : List Telling) (kept : K) → fold (if_told f n) kept (marked t ts) ≡ fold (if_told f n) kept ts
marks_kept f quiet n (hearing to id numbers sd) ts kept = answers_kept f quiet n to id ts kept
marks_kept f quiet n t ts kept = refl

-- ---- what holds at a point of a run
-- what the receiver of a face keeps is due, and the id that was given last there is its greatest
pub record Follows (c : Core) (face : ℕ) (heard : Heard) (last : ℕ) : Type 0 where
  pub hears : Hears c c.interests c.ears face heard
  pub greatest : last_at face c.ears ≡ Some last

-- what is kept of faces is sound where the first id is one of 32 bits
pub record AreKept (c : Core) : Type 0 where
  pub sound : AreSound c.ears
  pub faces : AreOfOpen c c.ears
  pub all : AllHear c c.interests c.ears

-- where faces and hats are the same
pub onto : (c d : Core) (ints : Interests) (ears : ToldSets) (n : ℕ) (heard : Heard) → ((key : List ℕ) → due c ints n key ≡ due d ints n key) → Hears c ints ears n heard → Hears d ints ears n heard
onto c d ints ears n heard same x = record { ear = x.ear; there = x.there; sorted = x.sorted; tied = x.tied; told = λ key. x.told key ∙ same key }

pub kept_of : (c : Core) (face : ℕ) (heard : Heard) (last : ℕ) (f : Follows c face heard last) → IsKept f.hears.ear heard last
kept_of c face heard last f = record { sorted = f.hears.sorted; tied = f.hears.tied; greatest = same_Some _ _ (sym (ap (option_map (λ (e : ToldSet). e.last)) f.hears.there) ∙ f.greatest) }

-- where an interest of the face comes or ends, what is not due any more is forgotten
abbrev pub forget_at : ℕ → TextCall → Core → Heard → Heard
forget_at face (hearing f id manner sd) d heard = cond (f.0 == face) (filter (is_due_at face d) heard) heard
forget_at face (unhearing f id) d heard = cond (f.0 == face) (filter (is_due_at face d) heard) heard
forget_at face t d heard = heard

-- what an accepted call makes of what holds before it
pub record Steps (first : ℕ) (s : State) (t : TextCall) (d : Core) (heards : ℕ → Heard) (lasts : ℕ → ℕ) : Type 0 where
  pub ears : first < 2 ^ 32 → AreKept s.core → AreKept d
  pub kept : (face : ℕ) → IsNear face d → Follows d face (forget_at face t d (fold (if_told with_told face) (heards face) (told_of s.core t))) (fold (if_told greatest_with face) (lasts face) (told_of s.core t))
