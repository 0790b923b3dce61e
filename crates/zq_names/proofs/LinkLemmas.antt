-- A node gets its matches, and each of them gets it.
use Rattle.std.proofs.Common.{◌≡◌, ◌≢◌, ℕ, Bool, true, false, cond, eqb, ◌||◌, List, [], ◌∷◌, ◌++◌, map, set, Option, Some, subst, sym, ap, ◌∙◌, refl, arith, zero, inl, inr, ◌⊎◌}
use Rattle.std.specs.List.{Contains}
use Rattle.std.specs.Option.{is_some}
use Rattle.std.proofs.lemmas.Bool.{cases_eq, false≢true}
use Rattle.std.proofs.lemmas.Bool.Decides.{nat_tests}
use Rattle.std.proofs.lemmas.List.Folds.{list_any-append, list_any_at}
use Rattle.std.proofs.lemmas.List.Elements.{Contains-append_left, Contains-append_right, Contains-append_cases, Contains-push, Contains-push_cases}
use Rattle.zq_names.specs.declared.node.Node.{Node}
use Rattle.zq_names.specs.declared.node.ResourceId.{ResourceId}
use Rattle.zq_names.specs.Names.{NameEntry, IsLinked, IsSound, slot, slot_context, slot_matches, slot_former, rows, texts, ids, entry_of, entry_at}
use Rattle.zq_names.specs.Keeping.{AllStay}
use Rattle.zq_names.specs.Linking.{has_number, with_member, with_match, joined, matched, HasRoom, IsReadyFor, IsRoomier, Joins, HasBoth, Links}
use Rattle.zq_names.proofs.Same.{SameSlot, IsTable-same}
use Rattle.zq_names.proofs.Table.{Changes-with_value, each_slot}

-- ---- a number in a list

itself : (i : ℕ) → eqb i i ≡ true
itself i = grind (arith, nat_tests)

pub number_from : (ms : List ResourceId) (x : ResourceId) → Contains ms x → has_number ms x.0 ≡ true
number_from ms x (k, lt, is) = list_any_at (λ (m : ResourceId). eqb m.0 x.0) ms k x lt (rw is (itself x.0))

pub from_number : (ms : List ResourceId) (x : ResourceId) → has_number ms x.0 ≡ true → Contains ms x
from_number [] x has = absurd (false≢true has)
from_number (m ∷ ms) x has = by (eqb m.0 x.0) refl has (from_number ms x)
  where
    by : (b : Bool) → eqb m.0 x.0 ≡ b → (b || has_number ms x.0) ≡ true → (has_number ms x.0 ≡ true → Contains ms x) → Contains (m ∷ ms) x
    by true e h later =
        let number : m.0 ≡ x.0 = grind (arith, nat_tests) in
        let R : ℕ → ResourceId = λ (n : ℕ). record { 0 = n } in
        (zero, omega arith, ap R number)
    by false e h later = Contains-append_right (m ∷ []) ms x (later h)

-- a list with no number in it is empty
pub no_members : (ms : List ResourceId) → ((x : ResourceId) → Contains ms x → ⊥) → ms ≡ []
no_members [] none = refl
no_members (m ∷ ms) none = absurd (none m (zero, omega arith, refl))

-- ---- a list with one number more

pub with_member-kept : (ms : List ResourceId) (r x : ResourceId) → Contains ms x → Contains (with_member ms r) x
with_member-kept ms r x has = by (has_number ms r.0)
  where
    by : (b : Bool) → Contains (cond b ms (ms ++ r ∷ [])) x
    by true = has
    by false = Contains-append_left ms (r ∷ []) x has

pub with_member-has : (ms : List ResourceId) (r : ResourceId) → Contains (with_member ms r) r
with_member-has ms r = by (has_number ms r.0) refl
  where
    by : (b : Bool) → has_number ms r.0 ≡ b → Contains (cond b ms (ms ++ r ∷ [])) r
    by true e = from_number ms r e
    by false e = Contains-push ms r

pub with_member-cases : (ms : List ResourceId) (r x : ResourceId) → Contains (with_member ms r) x → Contains ms x ⊎ (r ≡ x)
with_member-cases ms r x has = by (has_number ms r.0) has
  where
    by : (b : Bool) → Contains (cond b ms (ms ++ r ∷ [])) x → Contains ms x ⊎ (r ≡ x)
    by true h = inl h
    by false h = Contains-push_cases ms r x h

with_member-twice : (ms : List ResourceId) (r : ResourceId) → with_member (with_member ms r) r ≡ with_member ms r
with_member-twice ms r = let there = number_from (with_member ms r) r (with_member-has ms r) in rw there

-- ---- an entry with r among its matches

joined-more : (r : ResourceId) (xs ys : List ResourceId) (e : NameEntry) → joined r (xs ++ ys) e ≡ joined r ys (joined r xs e)
joined-more r xs ys e = ap (λ (b : Bool). cond b (with_match r e) e) (list_any-append (λ (m : ResourceId). eqb m.0 e.id) xs ys) ∙ by (has_number xs e.id)
  where
    either : (b : Bool) → with_match r e ≡ cond b (with_match r (with_match r e)) (with_match r e)
    either true = ap (λ (ms : List ResourceId). record e { matches = ms }) (sym (with_member-twice e.matches r))
    either false = refl

    by : (a : Bool) → cond (a || has_number ys e.id) (with_match r e) e ≡ joined r ys (cond a (with_match r e) e)
    by true = either (has_number ys e.id)
    by false = refl

joined-none : (r : ResourceId) (e : NameEntry) → joined r [] e ≡ e
joined-none r e = refl

joined-here : (r member : ResourceId) (e : NameEntry) → e.id ≡ member.0 → joined r (member ∷ []) e ≡ with_match r e
joined-here r member e is = let same : eqb member.0 e.id ≡ true = grind (arith, nat_tests) in rw same

joined-other : (r member : ResourceId) (e : NameEntry) → e.id ≢ member.0 → joined r (member ∷ []) e ≡ e
joined-other r member e differ = let other : eqb member.0 e.id ≡ false = grind (arith, nat_tests) in rw other

-- ---- room

pub IsRoomier-none : (old : List (Option Node)) → IsRoomier old old
IsRoomier-none old = record { same = λ j. refl; live = λ j. refl; former = λ j. refl; room = λ j has. has }

pub IsRoomier-more : (a b c : List (Option Node)) → IsRoomier a b → IsRoomier b c → IsRoomier a c
IsRoomier-more a b c first second = record {
  same = λ j. second.same j ∙ first.same j;
  live = λ j. second.live j ∙ first.live j;
  former = λ j. second.former j ∙ first.former j;
  room = λ j has. second.room j (first.room j has);
}

pub IsRoomier-written : (old : List (Option Node)) (i : ℕ) (before after : Node) → slot old i ≡ Some before
    → after.matches.items ≡ before.matches.items → after.text ≡ before.text → after.context ≡ before.context → after.holds ≡ before.holds → after.former ≡ before.former
    → (HasRoom (Some before) → HasRoom (Some after)) → IsRoomier old (set old i (Some after))
IsRoomier-written old i before after was matches text context holds former room =
    let new = set old i (Some after) in
    let changes = Changes-with_value old i before after was in
    record {
      same = λ j. elim (cases_eq j i) [
        | inl here ↦ rw (here, changes.is, changes.was, matches, text, context, holds)
        | inr differ ↦ rw (changes.others j differ)
      ];
      live = each_slot is_some old new i before after changes refl;
      former = each_slot slot_former old new i before after changes (ap (λ ms. ms.items) former);
      room = λ j has. elim (cases_eq j i) [
        | inl here ↦
            let R : Option Node → Type 0 = λ (o : Option Node). HasRoom o in
            subst R (sym (ap (slot new) here ∙ changes.is)) (room (subst R (ap (slot old) here ∙ changes.was) has))
        | inr differ ↦
            let R : Option Node → Type 0 = λ (o : Option Node). HasRoom o in
            subst R (sym (changes.others j differ)) has
      ];
    }

pub same_slots : (old new : List (Option Node)) → IsRoomier old new → (i : ℕ) → SameSlot i (slot old i) (slot new i)
same_slots old new roomier i = record { entry = roomier.same i; live = roomier.live i; former = roomier.former i }

-- ---- r comes among the matches of the members

pub Joins-none : (old : List (Option Node)) (r : ResourceId) → Joins old old r []
Joins-none old r = record { joined = λ j. refl; live = λ j. refl; former = λ j. refl; ready = λ j is. is }

pub Joins-more : (a b c : List (Option Node)) (r : ResourceId) (xs ys : List ResourceId) → Joins a b r xs → Joins b c r ys → Joins a c r (xs ++ ys)
Joins-more a b c r xs ys first second = record {
  joined = λ j. second.joined j ∙ ap (joined r ys) (first.joined j) ∙ sym (joined-more r xs ys (entry_of j (slot a j)));
  live = λ j. second.live j ∙ first.live j;
  former = λ j. second.former j ∙ first.former j;
  ready = λ j is. second.ready j (first.ready j is);
}

pub Joins-written : (old : List (Option Node)) (r member : ResourceId) (before after : Node) → slot old member.0 ≡ Some before
    → after.matches.items ≡ with_member before.matches.items r → after.text ≡ before.text → after.context ≡ before.context → after.holds ≡ before.holds → after.former ≡ before.former
    → Joins old (set old member.0 (Some after)) r (member ∷ [])
Joins-written old r member before after was matches text context holds former =
    let i = member.0 in
    let new = set old i (Some after) in
    let changes = Changes-with_value old i before after was in
    let R : Option Node → Type 0 = λ (o : Option Node). IsReadyFor r o in
    let now : entry_of i (Some after) ≡ with_match r (entry_of i (Some before)) = rw (matches, text, context, holds) in
    record {
      joined = λ j. elim (cases_eq j i) [
        | inl here ↦ rw (here, changes.is, changes.was) (now ∙ sym (joined-here r member (entry_of i (Some before)) refl))
        | inr differ ↦ rw (changes.others j differ) (sym (joined-other r member (entry_of j (slot old j)) differ))
      ];
      live = each_slot is_some old new i before after changes refl;
      former = each_slot slot_former old new i before after changes (ap (λ ms. ms.items) former);
      ready = λ j is. elim (cases_eq j i) [
        | inl here ↦ subst R (sym (ap (slot new) here ∙ changes.is)) (inl (ap (λ (ms : List ResourceId). has_number ms r.0) matches ∙ number_from (with_member before.matches.items r) r (with_member-has before.matches.items r)))
        | inr differ ↦ subst R (sym (changes.others j differ)) is
      ];
    }

-- ---- two lists as one

pub HasBoth-first : (xs : List ResourceId) → HasBoth xs [] xs
HasBoth-first xs = record { first = λ x has. has; second = λ x (k, lt, is). absurd (omega arith) }

pub HasBoth-more : (xs ys all : List ResourceId) (y : ResourceId) → HasBoth xs ys all → HasBoth xs (ys ++ y ∷ []) (with_member all y)
HasBoth-more xs ys all y both = record {
  first = λ x has. with_member-kept all y x (both.first x has);
  second = λ x has. elim (Contains-push_cases ys y x has) [
    | inl before ↦ with_member-kept all y x (both.second x before)
    | inr same ↦ let C : ResourceId → Type 0 = λ (z : ResourceId). Contains (with_member all y) z in subst C same (with_member-has all y)
  ];
}

-- ---- r's own node

own-entry : (r : ResourceId) (members : List ResourceId) (e : NameEntry) → e.id ≡ r.0 → matched r members e ≡ record (joined r members e) { matches = members }
own-entry r members e is = let same : eqb e.id r.0 ≡ true = grind (arith, nat_tests) in rw same (by (has_number members e.id))
  where
    by : (b : Bool) → record e { matches = members } ≡ record (cond b (with_match r e) e) { matches = members }
    by true = refl
    by false = refl

other-entry : (r : ResourceId) (members : List ResourceId) (e : NameEntry) → e.id ≢ r.0 → matched r members e ≡ joined r members e
other-entry r members e differ = let other : eqb e.id r.0 ≡ false = grind (arith, nat_tests) in rw other

pub Links-written : (old roomy met : List (Option Node)) (r : ResourceId) (members : List ResourceId) (first before after : Node) → slot old r.0 ≡ Some first → IsRoomier old roomy → Joins roomy met r members
    → slot met r.0 ≡ Some before → after.matches.items ≡ members → after.text ≡ before.text → after.context ≡ before.context → after.holds ≡ before.holds
    → HasBoth first.former.items first.matches.items after.former.items → Links old (set met r.0 (Some after)) r members
Links-written old roomy met r members first before after had roomier joins was matches text context holds both =
    let i = r.0 in
    let new = set met i (Some after) in
    let changes = Changes-with_value met i before after was in
    let entry : (j : ℕ) → entry_of j (slot met j) ≡ joined r members (entry_of j (slot old j)) = λ j. joins.joined j ∙ ap (joined r members) (roomier.same j) in
    let H : Option Node → Type 0 = λ (o : Option Node). HasBoth (slot_former o) (slot_matches o) (slot_former (slot new i)) in
    let N : Option Node → Type 0 = λ (o : Option Node). HasBoth first.former.items first.matches.items (slot_former o) in
    record {
      matched = λ j. elim (cases_eq j i) [
        | inl here ↦
            let own : entry_of i (Some after) ≡ matched r members (entry_of i (slot old i)) =
            rw (matches, text, context, holds) (ap (λ (e : NameEntry). record e { matches = members }) (sym (ap (entry_of i) was) ∙ entry i))
            ∙ sym (own-entry r members (entry_of i (slot old i)) refl) in
            rw (here, changes.is) own
        | inr differ ↦ rw (changes.others j differ) (entry j ∙ sym (other-entry r members (entry_of j (slot old j)) differ))
      ];
      live = λ j. elim (cases_eq j i) [
        | inl here ↦ rw here (ap is_some changes.is ∙ sym (ap is_some was) ∙ joins.live i ∙ roomier.live i)
        | inr differ ↦ rw (changes.others j differ) (joins.live j ∙ roomier.live j)
      ];
      former = subst H (sym had) (subst N (sym changes.is) both);
      others = λ j differ. ap slot_former (changes.others j differ) ∙ joins.former j ∙ roomier.former j;
    }

-- ---- the table

pub rows-linked : (old new : List (Option Node)) (order : List ℕ) (r : ResourceId) (members : List ResourceId) → Links old new r members → rows new order ≡ map (matched r members) (rows old order)
rows-linked old new [] r members links = refl
rows-linked old new (j ∷ js) r members links = rw (links.matched j, rows-linked old new js r members links)

-- what `matched` keeps of an entry
pub matched-keeps : {X : Type 0} (part : NameEntry → X) → ((e : NameEntry) (ms : List ResourceId) → part (record e { matches = ms }) ≡ part e) → (r : ResourceId) (members : List ResourceId) (e : NameEntry) → part (matched r members e) ≡ part e
matched-keeps {X} part keeps r members e = by (eqb e.id r.0) (has_number members e.id)
  where
    by : (a b : Bool) → part (cond a (record e { matches = members }) (cond b (with_match r e) e)) ≡ part e
    by true b = keeps e members
    by false true = keeps e (with_member e.matches r)
    by false false = refl

map-matched : {X : Type 0} (part : NameEntry → X) → ((e : NameEntry) (ms : List ResourceId) → part (record e { matches = ms }) ≡ part e) → (r : ResourceId) (members : List ResourceId) (ns : List NameEntry) → map part (map (matched r members) ns) ≡ map part ns
map-matched part keeps r members [] = refl
map-matched part keeps r members (e ∷ es) = rw (matched-keeps part keeps r members e, map-matched part keeps r members es)

entry_at-matched : {X : Type 0} (part : NameEntry → X) → ((e : NameEntry) (ms : List ResourceId) → part (record e { matches = ms }) ≡ part e) → (r : ResourceId) (members : List ResourceId) (ns : List NameEntry) (i : ℕ)
    → part (entry_at (map (matched r members) ns) i) ≡ part (entry_at ns i)
entry_at-matched part keeps r members [] i = refl
entry_at-matched {X} part keeps r members (e ∷ es) i = ap (λ (n : ℕ). part (cond (eqb n i) (matched r members e) (entry_at (map (matched r members) es) i))) (matched-keeps (λ (x : NameEntry). x.id) (λ x ms. refl) r members e) ∙ by (eqb e.id i) (entry_at-matched part keeps r members es i)
  where
    by : (b : Bool) → part (entry_at (map (matched r members) es) i) ≡ part (entry_at es i) → part (cond b (matched r members e) (entry_at (map (matched r members) es) i)) ≡ part (cond b e (entry_at es i))
    by true later = matched-keeps part keeps r members e
    by false later = later

pub AllStay-matched : (r : ResourceId) (members : List ResourceId) (old new : List NameEntry) → new ≡ map (matched r members) old → AllStay old new
AllStay-matched r members old new is i has =
    let C : List ℕ → Type 0 = λ (l : List ℕ). Contains l i in (
      subst C (sym (ap ids is ∙ map-matched (λ (x : NameEntry). x.id) (λ x ms. refl) r members old)) has,
      record {
        text = ap (λ (ns : List NameEntry). (entry_at ns i).text) is ∙ entry_at-matched (λ (x : NameEntry). x.text) (λ x ms. refl) r members old i;
        holds = ap (λ (ns : List NameEntry). (entry_at ns i).holds) is ∙ entry_at-matched (λ (x : NameEntry). x.holds) (λ x ms. refl) r members old i;
      },
    )

-- ---- links after the change

own_matches : (old new : List (Option Node)) (r : ResourceId) (members : List ResourceId) → Links old new r members → slot_matches (slot new r.0) ≡ members
own_matches old new r members links =
    ap (λ (e : NameEntry). e.matches) (links.matched r.0 ∙ own-entry r members (entry_of r.0 (slot old r.0)) refl)

other_matches : (old new : List (Option Node)) (r : ResourceId) (members : List ResourceId) (j : ℕ) → j ≢ r.0 → Links old new r members
    → slot_matches (slot new j) ≡ (joined r members (entry_of j (slot old j))).matches
other_matches old new r members j differ links =
    ap (λ (e : NameEntry). e.matches) (links.matched j ∙ other-entry r members (entry_of j (slot old j)) differ)

joined_matches : (r : ResourceId) (members : List ResourceId) (e : NameEntry) (x : ResourceId) → Contains (joined r members e).matches x → Contains e.matches x ⊎ ((has_number members e.id ≡ true) × (r ≡ x))
joined_matches r members e x has = by (has_number members e.id) refl has
  where
    by : (b : Bool) → has_number members e.id ≡ b → Contains (cond b (with_match r e) e).matches x → Contains e.matches x ⊎ ((has_number members e.id ≡ true) × (r ≡ x))
    by true is h = elim (with_member-cases e.matches r x h) [
      | inl before ↦ inl before
      | inr same ↦ inr (is, same)
    ]
    by false is h = inl h

joined_kept : (r : ResourceId) (members : List ResourceId) (e : NameEntry) (x : ResourceId) → Contains e.matches x → Contains (joined r members e).matches x
joined_kept r members e x has = by (has_number members e.id)
  where
    by : (b : Bool) → Contains (cond b (with_match r e) e).matches x
    by true = with_member-kept e.matches r x has
    by false = has

joined_has : (r : ResourceId) (members : List ResourceId) (e : NameEntry) → has_number members e.id ≡ true → Contains (joined r members e).matches r
joined_has r members e is = rw is (with_member-has e.matches r)

-- a node that was among the others' matches or former ones still is
kept_link : (old new : List (Option Node)) (r : ResourceId) (members : List ResourceId) (i j : ResourceId) → Links old new r members
    → Contains (slot_matches (slot old i.0) ++ slot_former (slot old i.0)) j → Contains (slot_matches (slot new i.0) ++ slot_former (slot new i.0)) j
kept_link old new r members i j links has = elim (cases_eq i.0 r.0) [
  | inl own ↦
      let F : ℕ → Type 0 = λ (k : ℕ). Contains (slot_former (slot new k)) j in
      let L : ℕ → Type 0 = λ (k : ℕ). Contains (slot_matches (slot old k) ++ slot_former (slot old k)) j in
      Contains-append_right (slot_matches (slot new i.0)) (slot_former (slot new i.0)) j (subst F (sym own) (elim (Contains-append_cases (slot_matches (slot old r.0)) (slot_former (slot old r.0)) j (subst L own has)) [
        | inl among ↦ links.former.second j among
        | inr once ↦ links.former.first j once
      ]))
  | inr differ ↦
      let C : List ResourceId → Type 0 = λ (l : List ResourceId). Contains l j in
      elim (Contains-append_cases (slot_matches (slot old i.0)) (slot_former (slot old i.0)) j has) [
        | inl among ↦ Contains-append_left (slot_matches (slot new i.0)) (slot_former (slot new i.0)) j (subst C (sym (other_matches old new r members i.0 differ links)) (joined_kept r members (entry_of i.0 (slot old i.0)) j among))
        | inr once ↦ Contains-append_right (slot_matches (slot new i.0)) (slot_former (slot new i.0)) j (subst C (sym (links.others i.0 differ)) once)
      ]
]

-- r is among the matches of a member, where that isn't r itself too
member_link : (old new : List (Option Node)) (r : ResourceId) (members : List ResourceId) (i : ResourceId) → Links old new r members → Contains members i → Contains (slot_matches (slot new i.0)) r
member_link old new r members i links has = elim (cases_eq i.0 r.0) [
  | inl own ↦
      let C : ResourceId → Type 0 = λ (x : ResourceId). Contains members x in
      let M : List ResourceId → Type 0 = λ (l : List ResourceId). Contains l r in
      let R : ℕ → ResourceId = λ (n : ℕ). record { 0 = n } in
      subst M (sym (ap (λ (k : ℕ). slot_matches (slot new k)) own ∙ own_matches old new r members links)) (subst C (ap R own) has)
  | inr differ ↦
      let M : List ResourceId → Type 0 = λ (l : List ResourceId). Contains l r in
      subst M (sym (other_matches old new r members i.0 differ links)) (joined_has r members (entry_of i.0 (slot old i.0)) (number_from members i has))
]

IsLinked-linked : (old new : List (Option Node)) (order : List ℕ) (r : ResourceId) (members : List ResourceId) → Links old new r members → IsSound old order
    → (i j : ResourceId) → Contains (slot_matches (slot new j.0)) i → Contains (slot_matches (slot new i.0) ++ slot_former (slot new i.0)) j
IsLinked-linked old new order r members links sound i j has =
    let M : List ResourceId → Type 0 = λ (l : List ResourceId). Contains l i in
    let R : ℕ → ResourceId = λ (n : ℕ). record { 0 = n } in
    let J : ResourceId → Type 0 = λ (x : ResourceId). Contains (slot_matches (slot new i.0) ++ slot_former (slot new i.0)) x in
    elim (cases_eq j.0 r.0) [
      | inl own ↦
          let among = subst M (ap (λ (k : ℕ). slot_matches (slot new k)) own ∙ own_matches old new r members links) has in
          subst J (ap R (sym own)) (Contains-append_left (slot_matches (slot new i.0)) (slot_former (slot new i.0)) r (member_link old new r members i links among))
      | inr differ ↦ elim (joined_matches r members (entry_of j.0 (slot old j.0)) i (subst M (other_matches old new r members j.0 differ links) has)) [
        | inl before ↦ kept_link old new r members i j links (sound.linked.both_ways i j before)
        | inr came ↦
            let K : List ResourceId → Type 0 = λ (l : List ResourceId). Contains l j in
            let own : slot_matches (slot new i.0) ≡ members = ap (λ (x : ResourceId). slot_matches (slot new x.0)) (sym came.1) ∙ own_matches old new r members links in
            Contains-append_left (slot_matches (slot new i.0)) (slot_former (slot new i.0)) j (subst K (sym own) (from_number members j came.0))
      ]
    ]

-- nobody is met but nodes with a context
contexts_linked : (old new : List (Option Node)) (r : ResourceId) (members : List ResourceId) → Links old new r members → IsLinked old → slot_context (slot old r.0) ≡ true → ((m : ResourceId) → Contains members m → slot_context (slot old m.0) ≡ true)
    → (i j : ResourceId) → Contains (slot_matches (slot new j.0)) i → (slot_context (slot new j.0) ≡ true) × (slot_context (slot new i.0) ≡ true)
contexts_linked old new r members links linked own_context member_context i j has = elim (cases_eq j.0 r.0) [
  | inl own ↦
      let among = subst M (ap (λ (k : ℕ). slot_matches (slot new k)) own ∙ own_matches old new r members links) has in
      (context j.0 (ap (λ (k : ℕ). slot_context (slot old k)) own ∙ own_context), context i.0 (member_context i among))
  | inr differ ↦ elim (joined_matches r members (entry_of j.0 (slot old j.0)) i (subst M (other_matches old new r members j.0 differ links) has)) [
    | inl before ↦ let both = linked.contexts i j before in (context j.0 both.0, context i.0 both.1)
    | inr came ↦ (context j.0 (member_context j (from_number members j came.0)), context i.0 (ap (λ (x : ResourceId). slot_context (slot old x.0)) (sym came.1) ∙ own_context))
  ]
]
  where
    M : List ResourceId → Type 0
    M l = Contains l i

    context : (k : ℕ) → slot_context (slot old k) ≡ true → slot_context (slot new k) ≡ true
    context k is = ap (λ (e : NameEntry). e.context) (links.matched k) ∙ matched-keeps (λ (x : NameEntry). x.context) (λ x ms. refl) r members (entry_of k (slot old k)) ∙ is

pub IsSound-linked : (old new : List (Option Node)) (order : List ℕ) (r : ResourceId) (members : List ResourceId) → Links old new r members → slot_context (slot old r.0) ≡ true → ((m : ResourceId) → Contains members m → slot_context (slot old m.0) ≡ true) → IsSound old order → IsSound new order
IsSound-linked old new order r members links own_context member_context sound = record {
  table = IsTable-same old new order (ap texts (rows-linked old new order r members links) ∙ map-matched (λ (x : NameEntry). x.text) (λ x ms. refl) r members (rows old order)) links.live sound.table;
  linked = record {
    both_ways = IsLinked-linked old new order r members links sound;
    contexts = contexts_linked old new r members links sound.linked own_context member_context;
  };
}
