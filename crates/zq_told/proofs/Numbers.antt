-- Ids are given once, and rise.
use Rattle.std.proofs.Common.{◌≡◌, ◌∙◌, refl, sym, ap, subst, ℕ, ◌<◌, ◌≤◌, ◌+◌, Bool, true, false, cond, eq-eqb, List, [], ◌∷◌, ◌++◌, fold, Option, Some, None, true≢false, arith}
use Rattle.std.specs.Prelude.{◌||◌, ◌&&◌, ◌==◌, nat_lt}
use Rattle.std.specs.Option.{option_map, option_to_list}
use Rattle.std.proofs.lemmas.Bool.{ltb-true, lt-ltb}
use Rattle.std.proofs.lemmas.List.Sums.{fold-append}
use Rattle.zq_message.specs.declared.message.QueryableInfoType.{QueryableInfoType}
use Rattle.zq_index.specs.Infos.{same_info}
use Rattle.zq_strategy.specs.declared.network.Telling.{Telling}
use Rattle.zq_told.specs.declared.types.ToldEntry.{ToldEntry}
use Rattle.zq_told.specs.declared.types.Reason.{Reason}
use Rattle.zq_told.specs.declared.types.Reason.TheVariants.{Update, Answer, End}
use Rattle.zq_told.specs.ToldSets.{Told, at_face}
use Rattle.zq_told.specs.Telling.{KeyDue, declared, entry_for, last_for, tellings_for}
use Rattle.zq_told.specs.Receiver.{Heard, Memory, Tied, heard_on, memory_of, receive}
use Rattle.zq_told.specs.Laws.{AreGiven, IdsAreGiven, ear_after, is_empty, last_given, stands_for}
use Rattle.zq_told.proofs.Entries.{text_itself}
use Rattle.zq_told.proofs.Hearing.{heard_is_told}
use Rattle.zq_told.proofs.Settling.{Story, fits_one, matched, settle}

-- ---- one key
next_by : (last : ℕ) (b : Bool) → nat_lt last (last + 1) ≡ b → cond b (last + 1) last ≡ last + 1
next_by last true e = refl
next_by last false e = let l : last < last + 1 = omega arith in absurd (true≢false (sym (lt-ltb last (last + 1) l) ∙ e))

old_by : (last id : ℕ) (b : Bool) → nat_lt last id ≡ b → id ≤ last → cond b id last ≡ last
old_by last id true e le = let l : last < id = ltb-true last id e in absurd (omega (arith, l, le))
old_by last id false e le = refl

or_right : (a b : Bool) → b ≡ true → (a || b) ≡ true
or_right true b e = refl
or_right false b e = e

or_left : (a b : Bool) → a ≡ true → (a || b) ≡ true
or_left a b e = ap (λ x. x || b) e

module _ (n : ℕ) (ear : Memory) (heard : Heard) (t : Tied ear heard) (key : List ℕ) where
  abbrev Given : List Telling → ℕ → Type 0
  Given ts last = AreGiven ear.last heard ts × (fold last_given ear.last ts ≡ last)

  new_given : (i : QueryableInfoType) → ear.told key ≡ None → Given (declared n key (record { id = ear.last + 1; info = i }) ∷ []) (ear.last + 1)
  new_given i was =
      let empty : is_empty (heard_on key heard) ≡ true = ap is_empty (heard_is_told ear heard t key ∙ ap (λ o. option_to_list (option_map (λ (t : ToldEntry). t.info) o)) was) in
      ((or_right (stands_for key (at_face (ear.last + 1) heard)) ((ear.last + 1 == ear.last + 1) && is_empty (heard_on key heard)) (let a = eq-eqb (ear.last + 1) (ear.last + 1) refl in λ i. a i && empty i), tt), next_by ear.last (nat_lt ear.last (ear.last + 1)) refl)

  stands : (u : ToldEntry) → ear.told key ≡ Some u → stands_for key (at_face u.id heard) ≡ true
  stands u was = ap (stands_for key) (t.forth key u was) ∙ text_itself key

  old_last : (u : ToldEntry) → ear.told key ≡ Some u → cond (nat_lt ear.last u.id) u.id ear.last ≡ ear.last
  old_last u was = old_by ear.last u.id (nat_lt ear.last u.id) refl (t.below u.id (key, u.info) (t.forth key u was))

  again_given : (u : ToldEntry) (i : QueryableInfoType) → ear.told key ≡ Some u → Given (declared n key (record { id = u.id; info = i }) ∷ []) ear.last
  again_given u i was = ((or_left (stands_for key (at_face u.id heard)) ((u.id == ear.last + 1) && is_empty (heard_on key heard)) (stands u was), tt), old_last u was)

  news_given : (u : ToldEntry) (i : QueryableInfoType) (b : Bool) → ear.told key ≡ Some u → Given (cond b [] (declared n key (record { id = u.id; info = i }) ∷ [])) ear.last
  news_given u i true was = (tt, refl)
  news_given u i false was = again_given u i was

  key_given : (way : Reason) (old : Option ToldEntry) (due : Option QueryableInfoType) → ear.told key ≡ old → Given (tellings_for way n key old (entry_for way ear.last old due)) (last_for ear.last old (entry_for way ear.last old due))
  key_given Update None None was = (tt, refl)
  key_given Answer None None was = (tt, refl)
  key_given End None None was = (tt, refl)
  key_given Update (Some u) None was = ((stands u was, tt), old_last u was)
  key_given Answer (Some u) None was = (tt, refl)
  key_given End (Some u) None was = (tt, refl)
  key_given Update None (Some i) was = new_given i was
  key_given Answer None (Some i) was = new_given i was
  key_given End None (Some i) was = (tt, refl)
  key_given Update (Some u) (Some i) was = news_given u i (same_info u.info i) was
  key_given Answer (Some u) (Some i) was = again_given u i was
  key_given End (Some u) (Some i) was = news_given u i (same_info u.info i) was

-- ---- many keys
given_append : (xs ys : List Telling) (last : ℕ) (heard : Heard) → AreGiven last heard xs → AreGiven (fold last_given last xs) (fold receive heard xs) ys → AreGiven last heard (xs ++ ys)
given_append [] ys last heard a b = b
given_append (x ∷ xs) ys last heard a b = (a.0, given_append xs ys (last_given last x) (receive heard x) a.1 b)

module _ (way : Reason) (n : ℕ) (told : Told) (heard : Heard) (start : ℕ) where
  record Numbered (s : Story way n told) : Type 0 where
    fits : Tied s.memory (fold receive heard s.tellings)
    given : AreGiven start heard s.tellings
    last : fold last_given start s.tellings ≡ s.memory.last

  numbered_one : (s : Story way n told) (k : KeyDue) → Numbered s → Numbered (settle way n told s k)
  numbered_one s k i =
      let old : Option ToldEntry = s.memory.told k.0 in
      let ts : List Telling = tellings_for way n k.0 old (entry_for way s.memory.last old k.1) in
      let one = key_given n s.memory (fold receive heard s.tellings) i.fits k.0 way old k.1 refl in
      record {
        fits = fits_one way n told heard s k i.fits;
        given = given_append s.tellings ts start heard i.given (subst (λ l. AreGiven l (fold receive heard s.tellings) ts) (sym i.last) one.0);
        last = fold-append last_given start s.tellings ts ∙ ap (λ l. fold last_given l ts) i.last ∙ one.1;
      }

  numbered_all : (keys : List KeyDue) (s : Story way n told) → Numbered s → Numbered (fold (settle way n told) s keys)
  numbered_all [] s i = i
  numbered_all (k ∷ ks) s i = numbered_all ks (settle way n told s k) (numbered_one s k i)

pub ids_are_given : IdsAreGiven
ids_are_given way n ear keys heard sorted ordered t =
    let first : Story way n ear.told = record { memory = memory_of ear; tellings = [] } in
    let all = numbered_all way n ear.told heard ear.last keys first (record { fits = t; given = tt; last = refl }) in
    let m = matched way n ear.told ear.last keys sorted ordered in (
      subst (AreGiven ear.last heard) m.tellings all.given,
      subst (λ ts. fold last_given ear.last ts ≡ (ear_after way n ear keys).last) m.tellings (all.last ∙ m.last),
    )
