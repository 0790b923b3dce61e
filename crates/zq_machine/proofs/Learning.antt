-- What a face knows once it heard tellings in order: the last word of those that are news to it, where all of them say the same.
use Rattle.std.proofs.Common.{◌≡◌, ◌∙◌, refl, sym, ap, ℕ, Bool, true, false, cond, List, [], ◌∷◌, map, fold, Option, Some, None, true≢false}
use Rattle.std.specs.Prelude.{◌==◌, ◌&&◌, ◌||◌}
use Rattle.std.specs.BTreeSet.{insert_key}
use Rattle.std.specs.List.{AllByRecursion, list_any}
use Rattle.std.specs.Option.{option_map_or}
use Rattle.std.specs.Ordering.{match_ordering, nat_cmp, ordering_then}
use Rattle.std.specs.Str.{bytes_eq}
use Rattle.std.specs.declared.cmp.Ordering.{Ordering}
use Rattle.std.specs.declared.cmp.Ordering.TheVariants.{Less, Equal, Greater}
use Rattle.std.proofs.Math.Bool.{or-false}
use Rattle.std.proofs.lemmas.Map.Lookups.{exact_unsigned}
use Rattle.zq_message.specs.declared.message.QueryableInfoType.{QueryableInfoType}
use Rattle.zq_index.specs.Texts.{text_cmp}
use Rattle.zq_index.proofs.Orders.{text_exact}
use Rattle.zq_strategy.specs.declared.network.Telling.{Telling as TreeTelling}
use Rattle.zq_strategy.specs.Tellings.{in_order, telling_cmp}
use Rattle.zq_message.specs.declared.message.FaceId.{FaceId}
use Rattle.zq_machine.specs.TextCalls.{TextCall, hearing}
use Rattle.zq_machine.specs.Neighbours.{marked}
use Rattle.zq_machine.specs.Children.{is_of_root, with_heard_of, with_news}
use Rattle.zq_machine.specs.Messages.{from_hat, key_ended, told_or_ended, Telling, all_told, answered_by}
use Rattle.zq_machine.proofs.DueHeard.{all_ordered}

-- ---- order keeps what tells no two equal ones apart
both_equal : (x y : Ordering) → ordering_then x y ≡ Equal → (x ≡ Equal) × (y ≡ Equal)
both_equal Less y e = absurd (cc)
both_equal Equal y e = (refl, e)
both_equal Greater y e = absurd (cc)

module _ (p : TreeTelling → Bool) (alike : (a b : TreeTelling) → telling_cmp a b ≡ Equal → p a ≡ p b) where
  twice : (a b c : Bool) → a ≡ b → (b || c) ≡ (a || (b || c))
  twice true b c e = ap (λ x. x || c) (sym e)
  twice false b c e = refl

  apart : (a b c : Bool) → (b || (a || c)) ≡ (a || (b || c))
  apart true true c = refl
  apart true false c = refl
  apart false b c = refl

  any_put : (xs : List TreeTelling) (t : TreeTelling) → list_any p (insert_key telling_cmp xs t) ≡ (p t || list_any p xs)
  any_put [] t = refl
  any_put (x ∷ xs) t = by (telling_cmp t x) refl (any_put xs t)
    where
      by : (r : Ordering) → telling_cmp t x ≡ r → list_any p (insert_key telling_cmp xs t) ≡ (p t || list_any p xs)
          → list_any p (match_ordering r (t ∷ x ∷ xs) (x ∷ xs) (x ∷ insert_key telling_cmp xs t)) ≡ (p t || (p x || list_any p xs))
      by Less e ih = refl
      by Equal e ih = twice (p t) (p x) (list_any p xs) (alike t x e)
      by Greater e ih = ap (λ b. p x || b) ih ∙ apart (p t) (p x) (list_any p xs)

  regroup : (a b c : Bool) → ((a || b) || c) ≡ (b || (a || c))
  regroup true true c = refl
  regroup true false c = refl
  regroup false b c = refl

  any_all : (us ts : List TreeTelling) → list_any p (fold (insert_key telling_cmp) us ts) ≡ (list_any p us || list_any p ts)
  any_all us [] = sym (or-false (list_any p us))
  any_all us (t ∷ ts) = any_all (insert_key telling_cmp us t) ts ∙ ap (λ b. b || list_any p ts) (any_put us t) ∙ regroup (p t) (list_any p us) (list_any p ts)

  pub any_ordered : (ts : List TreeTelling) → list_any p (in_order ts) ≡ list_any p ts
  any_ordered ts = any_all [] ts

-- ---- what is heard
module _ (face : ℕ) (place : Option ℕ) (key : List ℕ) where
  -- the telling is to the face, on the key, of the root at the place
  abbrev pub is_news : TreeTelling → Bool
  is_news t = is_of_root face place (from_hat t) && bytes_eq t.key key

  news_alike : (a b : TreeTelling) → telling_cmp a b ≡ Equal → is_news a ≡ is_news b
  news_alike a b e =
      let p = both_equal (nat_cmp a.face.0 b.face.0) (ordering_then (text_cmp a.key b.key) (nat_cmp a.node b.node)) e in
      let q = both_equal (text_cmp a.key b.key) (nat_cmp a.node b.node) p.1 in
      let faces : a.face.0 ≡ b.face.0 = exact_unsigned a.face.0 b.face.0 p.0 in
      let keys : a.key ≡ b.key = text_exact a.key b.key q.0 in
      let nodes : a.node ≡ b.node = exact_unsigned a.node b.node q.1 in
      λ j. ((faces j == face) && option_map_or (λ m. nodes j == m) place false) && bytes_eq (keys j) key

  -- a telling that is news says this under the id 0
  pub record Says (i : Option QueryableInfoType) (t : TreeTelling) : Type 0 where
    pub id : is_news t ≡ true → t.id ≡ 0
    pub info : is_news t ≡ true → t.info ≡ i

  abbrev pub AllSay : Option QueryableInfoType → List TreeTelling → Type 0
  AllSay i ts = AllByRecursion (Says i) ts

  word_by : (id : ℕ) (text : List ℕ) (i : Option QueryableInfoType) (was : Option QueryableInfoType) → (bytes_eq text key ≡ true → id ≡ 0) → with_news key was (told_or_ended id text i) ≡ cond (bytes_eq text key) i was
  word_by id text None was zero = by (id == 0) refl (bytes_eq text key) refl
    where
      by : (z : Bool) → (id == 0) ≡ z → (b : Bool) → bytes_eq text key ≡ b → with_news key was (key_ended id (cond z (Some text) None)) ≡ cond b None was
      by true e b f = ap (λ x. cond x None was) f
      by false e true f = absurd (true≢false (sym (ap (λ n. n == 0) (zero f)) ∙ e))
      by false e false f = refl
  word_by id text (Some i) was zero = refl

  one_heard : (t : TreeTelling) (was : Option QueryableInfoType) → (is_news t ≡ true → t.id ≡ 0) → with_heard_of face place key was (from_hat t) ≡ cond (is_news t) t.info was
  one_heard t was zero = by (is_of_root face place (from_hat t)) refl
    where
      by : (b : Bool) → is_of_root face place (from_hat t) ≡ b → cond b (with_news key was (told_or_ended t.id t.key t.info)) was ≡ cond (b && bytes_eq t.key key) t.info was
      by true e = word_by t.id t.key t.info was (λ on. zero (ap (λ b. b && bytes_eq t.key key) e ∙ on))
      by false e = refl

  said_again : (i was : Option QueryableInfoType) (a b : Bool) (x : Option QueryableInfoType) → (a ≡ true → x ≡ i) → cond b i (cond a x was) ≡ cond (a || b) i was
  said_again i was true true x says = refl
  said_again i was true false x says = says refl
  said_again i was false b x says = refl

  all_heard : (i : Option QueryableInfoType) (ts : List TreeTelling) (was : Option QueryableInfoType) → AllSay i ts → fold (with_heard_of face place key) was (map from_hat ts) ≡ cond (list_any is_news ts) i was
  all_heard i [] was all = refl
  all_heard i (t ∷ ts) was all =
      ap (λ w. fold (with_heard_of face place key) w (map from_hat ts)) (one_heard t was all.0.id)
      ∙ all_heard i ts (cond (is_news t) t.info was) all.1
      ∙ said_again i was (is_news t) (list_any is_news ts) t.info all.0.info

  -- in order or not
  pub order_heard : (i : Option QueryableInfoType) (ts : List TreeTelling) (was : Option QueryableInfoType) → AllSay i ts → fold (with_heard_of face place key) was (map from_hat (in_order ts)) ≡ cond (list_any is_news ts) i was
  order_heard i ts was all =
      all_heard i (in_order ts) was (all_ordered (Says i) [] ts tt all)
      ∙ ap (λ b. cond b i was) (any_ordered is_news news_alike ts)

-- ---- that it answers an interest changes nothing
same_both : {X : Type 0} (b : Bool) (x : X) → cond b x x ≡ x
same_both true x = refl
same_both false x = refl

answers_heard : (face : ℕ) (place : Option ℕ) (key : List ℕ) (to : FaceId) (id : ℕ) (ts : List Telling) (was : Option QueryableInfoType) → fold (with_heard_of face place key) was (answered_by to id ts) ≡ fold (with_heard_of face place key) was ts
answers_heard face place key to id [] was = same_both (is_of_root face place (record { to = to; interest = Some id; node = 0; body = all_told })) was
answers_heard face place key to id (t ∷ ts) was = answers_heard face place key to id ts (with_heard_of face place key was t)

pub marks_heard : (face : ℕ) (place : Option ℕ) (key : List ℕ) (t : TextCall) (ts : List Telling) (was : Option QueryableInfoType) → fold (with_heard_of face place key) was (marked t ts) ≡ fold (with_heard_of face place key) was ts
marks_heard face place key (hearing f id numbers sd) ts was = answers_heard face place key f id ts was
marks_heard face place key t ts was = refl
