-- Replies that are held, and slots that are let go.
use Rattle.std.proofs.Common.{◌≡◌, ◌≢◌, ℕ, ◌+◌, ◌<◌, ◌≤◌, Bool, true, false, cond, zero, suc, List, [], ◌∷◌, ◌++◌, length, set, Option, Some, None, eqb, refl, sym, ap, ◌∙◌, subst, arith, inl, inr, get_or-set_same, get_or-set_other, length-append, length-set}
use mathlib.Core.Logic.{dite}
use native.Mathlib.Decide.{ℕ_discrete}
use Rattle.std.specs.Prelude.{◌⊎◌, ◌&&◌, ◌==◌, All}
use Rattle.std.specs.List.{list_any}
use Rattle.std.specs.Option.{IfSome, is_some, option_map_or}
use Rattle.std.proofs.lemmas.Bool.{eq-eqb, false≢true, or_cases, or_left, or_right}
use Rattle.std.proofs.lemmas.List.Elements.{All-push}
use Rattle.std.proofs.lemmas.List.Folds.{list_any-append}
use Rattle.zq_hold.specs.declared.slot.Mark.{Mark}
use Rattle.zq_hold.specs.declared.slot.Mark.TheVariants.{Spare, Kept, Gone, Vacant}
use Rattle.zq_hold.specs.Marks.{HasMark, mark_at}
use Rattle.zq_hold.specs.Seats.{Ended, Holder}
use Rattle.zq_hold.specs.Slots.{times, weight}
use Rattle.zq_hold.proofs.Totals.{weight_same, weight_other}
use Rattle.zq_hold.specs.Owners.{IsSlotted, MayOwn, Slotted, owner_at}
use Rattle.zq_machine.specs.declared.call.Call.{Call}
use Rattle.zq_machine.specs.Handing.{Handed}
use Rattle.zq_query.specs.Records.{Pending, is_reply}
use Rattle.zq_machine.specs.Waiting.{ends_entry, hands_reply, is_of}
use Rattle.zq_shared.specs.Holding.{OwnsKept}
use Rattle.zq_shared.specs.Stored.{Stored, answer_to, in_flight, is_flying, waiting, with_call}
use Rattle.zq_shared.specs.Ties.{AreWaiting, IsNearlyTied, IsTied}
use Rattle.zq_shared.proofs.Moves.{handed_waits, waits_stays}
use Rattle.zq_shared.proofs.Ties.{mark_is, other_mark, released_nearly}
use Rattle.zq_shared.specs.Lending.{Lends, LetsGo}
use Rattle.zq_shared.specs.Sharing.{AreLast, HasReply, HoldsReplies, ended_slots}

-- ---- replies
-- a message with a number of its own is a reply of its request
pub replied_some : (h : Handed) (o p : Option ℕ) → o ≡ h.reply → p ≡ h.number → is_some o ≡ true → IfSome p (λ n. (is_flying h ≡ true) × ((r : ℕ) × (hands_reply n r h ≡ true)))
replied_some h o None reply number some = tt
replied_some h None (Some n) reply number some = absurd (false≢true some)
replied_some h (Some r) (Some n) reply number some =
    let of : is_of n h ≡ true = ap (λ x. option_map_or (λ m. m == n) x false) (sym number) ∙ eq-eqb n n refl in
    let is : option_map_or (is_reply r) h.reply false ≡ true = ap (λ x. option_map_or (is_reply r) x false) (sym reply) ∙ eq-eqb r r refl in
    (ap is_some (sym reply), (r, (λ i. of i && is i)))

-- one message more
pub few_more : (b : Bool) (before after len len' : ℕ) → cond b (before + 1) before ≡ after → len' ≤ len + cond b 1 0 → len ≤ before → len' ≤ after
few_more true before after len len' e more few = omega (arith, e, more, few)
few_more false before after len len' e more few = omega (arith, e, more, few)

-- ---- the slots of replies are held
one_reply : (n r : ℕ) (h : Handed) → list_any (hands_reply n r) (h ∷ []) ≡ true → hands_reply n r h ≡ true
one_reply n r h is = by (or_cases (hands_reply n r h) false is)
  where
    by : ((hands_reply n r h ≡ true) ⊎ (false ≡ true)) → hands_reply n r h ≡ true
    by (inl here) = here
    by (inr none) = absurd (false≢true none)

pub lends_start : (m : Slotted) (seat : Holder) → Lends [] m m seat seat
lends_start m seat = record {
  slots = refl;
  lent = λ k some. inl some;
  home = refl;
  more = λ k some. some;
  each = λ k has. absurd (false≢true has.3);
  only = λ k some. inl some;
  once = λ one k. one k;
}

pub lends_none : (h : Handed) (m : Slotted) (seat : Holder) → ((n r : ℕ) → hands_reply n r h ≡ false) → Lends (h ∷ []) m m seat seat
lends_none h m seat none = record {
  slots = refl;
  lent = λ k some. inl some;
  home = refl;
  more = λ k some. some;
  each = λ k has. absurd (false≢true (sym (none has.0 has.1) ∙ one_reply has.0 has.1 h has.3));
  only = λ k some. inl some;
  once = λ one k. one k;
}

pub lends_one : (h : Handed) (m m' : Slotted) (seat seat' : Holder) (n : ℕ) → ((r : ℕ) × (hands_reply n r h ≡ true)) → ((i r : ℕ) → hands_reply i r h ≡ true → i ≡ n)
    → m' ≡ record m { keeper = record m.keeper { lent = m'.keeper.lent } } → ((k : ℕ) → 0 < times k m'.keeper.lent → (0 < times k m.keeper.lent) ⊎ (owner_at m.owners k ≡ Some n))
    → seat' ≡ record seat { held = seat'.held } → ((k : ℕ) → 0 < times k seat.held → 0 < times k seat'.held) → ((k : ℕ) → owner_at m.owners k ≡ Some n → 0 < times k seat'.held)
    → ((k : ℕ) → 0 < times k seat'.held → (0 < times k seat.held) ⊎ (owner_at m.owners k ≡ Some n)) → (((k : ℕ) → times k seat.held ≤ 1) → (k : ℕ) → times k seat'.held ≤ 1)
    → Lends (h ∷ []) m m' seat seat'
lends_one h m m' seat seat' n is alone slots lent same more holds only once = record {
  slots = slots;
  lent = λ k some. to k (lent k some);
  home = ap (λ (x : Holder). x.home) same;
  more = more;
  each = λ k has. holds k (has.2 ∙ ap (λ i. Some i) (alone has.0 has.1 (one_reply has.0 has.1 h has.3)));
  only = λ k some. to k (only k some);
  once = once;
}
  where
    to : (k : ℕ) {P : Type 0} → P ⊎ (owner_at m.owners k ≡ Some n) → P ⊎ HasReply (h ∷ []) m k
    to k (inl old) = inl old
    to k (inr owner) = inr (n, is.0, owner, or_left (hands_reply n is.0 h) false is.1)

module _ (hs : List Handed) (h : Handed) (m m' m'' : Slotted) (seat seat' seat'' : Holder) (first : Lends hs m m' seat seat') (then : Lends (h ∷ []) m' m'' seat' seat'') where
  owners_same : m'.owners ≡ m.owners
  owners_same = ap (λ (x : Slotted). x.owners) first.slots

  earlier : (k : ℕ) → HasReply hs m k → HasReply (hs ++ h ∷ []) m k
  earlier k has = (has.0, has.1, has.2, list_any-append (hands_reply has.0 has.1) hs (h ∷ []) ∙ or_left (list_any (hands_reply has.0 has.1) hs) (list_any (hands_reply has.0 has.1) (h ∷ [])) has.3)

  later : (k : ℕ) → HasReply (h ∷ []) m' k → HasReply (hs ++ h ∷ []) m k
  later k has = (has.0, has.1, ap (λ os. owner_at os k) (sym owners_same) ∙ has.2, list_any-append (hands_reply has.0 has.1) hs (h ∷ []) ∙ or_right (list_any (hands_reply has.0 has.1) hs) (list_any (hands_reply has.0 has.1) (h ∷ [])) has.3)

  pub lends_more : Lends (hs ++ h ∷ []) m m'' seat seat''
  lends_more = record {
    slots = then.slots ∙ ap (λ (x : Slotted). record x { keeper = record x.keeper { lent = m''.keeper.lent } }) first.slots;
    lent = λ k some. lent k (then.lent k some);
    home = then.home ∙ first.home;
    more = λ k some. then.more k (first.more k some);
    each = λ k has. each k has (or_cases (list_any (hands_reply has.0 has.1) hs) (list_any (hands_reply has.0 has.1) (h ∷ [])) (sym (list_any-append (hands_reply has.0 has.1) hs (h ∷ [])) ∙ has.3));
    only = λ k some. only k (then.only k some);
    once = λ one. then.once (first.once one);
  }
    where
      lent : (k : ℕ) → (0 < times k m'.keeper.lent) ⊎ HasReply (h ∷ []) m' k → (0 < times k m.keeper.lent) ⊎ HasReply (hs ++ h ∷ []) m k
      lent k (inr new) = inr (later k new)
      lent k (inl old) = by (first.lent k old)
        where
          by : (0 < times k m.keeper.lent) ⊎ HasReply hs m k → (0 < times k m.keeper.lent) ⊎ HasReply (hs ++ h ∷ []) m k
          by (inl before) = inl before
          by (inr has) = inr (earlier k has)

      only : (k : ℕ) → (0 < times k seat'.held) ⊎ HasReply (h ∷ []) m' k → (0 < times k seat.held) ⊎ HasReply (hs ++ h ∷ []) m k
      only k (inr new) = inr (later k new)
      only k (inl old) = by (first.only k old)
        where
          by : (0 < times k seat.held) ⊎ HasReply hs m k → (0 < times k seat.held) ⊎ HasReply (hs ++ h ∷ []) m k
          by (inl before) = inl before
          by (inr has) = inr (earlier k has)

      each : (k : ℕ) (has : HasReply (hs ++ h ∷ []) m k) → ((list_any (hands_reply has.0 has.1) hs ≡ true) ⊎ (list_any (hands_reply has.0 has.1) (h ∷ []) ≡ true)) → 0 < times k seat''.held
      each k has (inl before) = then.more k (first.each k (has.0, has.1, has.2, before))
      each k has (inr new) = then.each k (has.0, has.1, ap (λ os. owner_at os k) owners_same ∙ has.2, new)

module _ (hs : List Handed) (m m' : Slotted) (seat seat' : Holder) (lends : Lends hs m m' seat seat') where
  -- a seat that held nothing holds the slots of the replies and no others; whatever else changes of the slots but their owners
  pub lends_holds : (new : Slotted) → new.owners ≡ m'.owners → seat.held ≡ [] → HoldsReplies hs new seat'.held
  lends_holds new same none = record {
    each = λ k has. lends.each k (has.0, has.1, ap (λ os. owner_at os k) (sym owners) ∙ has.2, has.3);
    only = λ k some. only k (lends.only k some);
    once = lends.once (λ k. (let zeroth = ap (times k) none in omega (arith, zeroth)));
  }
    where
      owners : new.owners ≡ m.owners
      owners = same ∙ ap (λ (x : Slotted). x.owners) lends.slots

      only : (k : ℕ) → (0 < times k seat.held) ⊎ HasReply hs m k → HasReply hs new k
      only k (inl some) = let zeroth = ap (times k) none in absurd (omega (arith, some, zeroth))
      only k (inr has) = (has.0, has.1, ap (λ os. owner_at os k) owners ∙ has.2, has.3)

  pub lends_nearly : (s : Stored) → IsNearlyTied None s m → ((n r : ℕ) → list_any (hands_reply n r) hs ≡ true → in_flight s n r ≡ true) → IsNearlyTied None s m'
  lends_nearly s t flown = subst (IsNearlyTied None s) (sym lends.slots) (record {
    kept = t.kept;
    gone = t.gone;
    asked = t.asked;
    opened = t.opened;
    lent = λ k some. by k (lends.lent k some);
    used = t.used;
  })
    where
      by : (k : ℕ) → (0 < times k m.keeper.lent) ⊎ HasReply hs m k → (n : ℕ) × (owner_at m.owners k ≡ Some n) × (r : ℕ) × (in_flight s n r ≡ true)
      by k (inl old) = t.lent k old
      by k (inr has) = (has.0, has.2, has.1, flown has.0 has.1 has.3)

  -- requests that waited still do, where the call ends nothing
  pub lends_waits : (s : Stored) (c : Call) → ((e : Pending) → ends_entry c e ≡ false) → AreWaiting s m → AreWaiting (with_call s c) m'
  lends_waits s c none waits k n mark owner =
      waits_stays s c none n (waits k n (subst (λ x. HasMark Kept x.keeper.marks k) lends.slots mark) (ap (λ (x : Slotted). owner_at x.owners k) (sym lends.slots) ∙ owner))

  -- who owned a slot that the keeper holds still does
  pub lends_owns : (n : ℕ) → OwnsKept n m → OwnsKept n m'
  lends_owns n owns = subst (OwnsKept n) (sym lends.slots) (record { some = owns.some; kept = owns.kept })

-- ---- the request of a reply that is handed owns a slot, which the keeper holds
inside_owner : (owners : List (Option ℕ)) (k n : ℕ) → owner_at owners k ≡ Some n → k < length owners
inside_owner [] k n owner = let clash : ◌≡◌ {A = Option ℕ} None (Some n) = owner in absurd (cc)
inside_owner (o ∷ os) zero n owner = omega arith
inside_owner (o ∷ os) (suc k) n owner = let ih = inside_owner os k n owner in omega (arith, ih)

module _ (s : Stored) (m : Slotted) (t : IsTied s m) (slotted : IsSlotted m.keeper.marks m.owners) where
  is_kept : (k n : ℕ) → 0 < waiting s n → owner_at m.owners k ≡ Some n → HasMark Kept m.keeper.marks k
  is_kept k n some owner = by (mark_at m.keeper.marks k) refl (subst (MayOwn (mark_at m.keeper.marks k)) owner (slotted.each k inside))
    where
      inside : k < length m.keeper.marks
      inside = let at = inside_owner m.owners k n owner in let wide = slotted.wide in omega (arith, at, wide)

      by : (w : Mark) → mark_at m.keeper.marks k ≡ w → MayOwn (mark_at m.keeper.marks k) (Some n) → HasMark Kept m.keeper.marks k
      by Kept e may = (inside, e)
      by Gone e may = let none = t.nearly.gone k n (inside, e) owner in absurd (omega (arith, some, none))
      by Spare e may = let clash : ◌≡◌ {A = Option ℕ} (Some n) None = subst (λ w. MayOwn w (Some n)) e may in absurd (cc)
      by Vacant e may = let clash : ◌≡◌ {A = Option ℕ} (Some n) None = subst (λ w. MayOwn w (Some n)) e may in absurd (cc)

  pub replied_owns : (c : Call) (n r : ℕ) → list_any (hands_reply n r) (answer_to s c).handed ≡ true → OwnsKept n m
  replied_owns c n r h =
      let some = (handed_waits s c n r h).1 in
      record {
        some = (let owns = t.nearly.opened n (inl some) in omega (arith, owns));
        kept = λ k owner. is_kept k n some owner;
      }

-- ---- slots are let go
ended_push : (k : ℕ) (ls : List Ended) (l : Ended) → times k (ended_slots (ls ++ l ∷ [])) ≡ times k (ended_slots ls) + weight (eqb l.slot k)
ended_push k [] l = omega arith
ended_push k (x ∷ xs) l = let ih = ended_push k xs l in omega (arith, ih)

-- no slot has two marks
two_marks : (marks : List Mark) (k : ℕ) → HasMark Kept marks k → HasMark Gone marks k → ⊥
two_marks marks k kept gone = let clash : Kept ≡ Gone = sym kept.1 ∙ gone.1 in absurd (cc)

-- none was let go
pub none_last : (m m' : Slotted) → m'.keeper.ended ≡ m.keeper.ended → m'.keeper.vacated ≡ m.keeper.vacated → ((k : ℕ) → HasMark Gone m'.keeper.marks k → HasMark Gone m.keeper.marks k) → AreLast m m' []
none_last m m' ended vacated gone = record {
  home = λ k d inside. absurd (omega (arith, inside));
  counted = omega (arith, ended);
  vacated = vacated;
  gone = λ k some. absurd (omega (arith, some));
  unlent = λ k was now none. absurd (two_marks m.keeper.marks k was (gone k now));
}

-- whatever is lent before
pub lent_last : (m m' : Slotted) (lent : List ℕ) (lasts : List Ended) → AreLast (record m { keeper = record m.keeper { lent = lent } }) m' lasts → AreLast m m' lasts
lent_last m m' lent lasts h = record { home = h.home; counted = h.counted; vacated = h.vacated; gone = h.gone; unlent = h.unlent }

module _ (s : Stored) (m : Slotted) where
  pub lets_start : IsNearlyTied None s m → LetsGo s m m [] 0
  lets_start t = record {
    nearly = t;
    slots = refl;
    wide = refl;
    waits = λ k n inside. absurd (omega (arith, inside));
    few = omega arith;
    home = λ k d inside. absurd (omega (arith, inside));
    counted = omega arith;
    before = λ k kept. kept;
    gone = λ k some. absurd (omega (arith, some));
    unlent = λ k was now none. absurd (two_marks m.keeper.marks k was now);
  }

  module _ (m' : Slotted) (lasts : List Ended) (i : ℕ) (go : LetsGo s m m' lasts i) where
    -- the slot stays
    pub lets_stay : ((n : ℕ) → HasMark Kept m'.keeper.marks i → owner_at m'.owners i ≡ Some n → 0 < waiting s n) → LetsGo s m m' lasts (i + 1)
    lets_stay waits = record {
      nearly = go.nearly;
      slots = go.slots;
      wide = go.wide;
      waits = λ k n inside mark owner. (dite (ℕ_discrete k i)
          (λ (e : k ≡ i). waits n (subst (HasMark Kept m'.keeper.marks) e mark) (ap (owner_at m'.owners) (sym e) ∙ owner))
          (λ (ne : k ≢ i). go.waits k n (omega (arith, inside, ne)) mark owner));
      few = (let few = go.few in omega (arith, few));
      home = go.home;
      counted = go.counted;
      before = go.before;
      gone = go.gone;
      unlent = go.unlent;
    }

    -- it is let go
    module _ (n ended : ℕ) (m'' : Slotted) (mark : HasMark Kept m'.keeper.marks i) (owner : owner_at m'.owners i ≡ Some n) (none : waiting s n ≡ 0)
        (is : m'' ≡ record m' { keeper = record m'.keeper { marks = set m'.keeper.marks i Gone; ended = ended } }) where
      abbrev gone : Slotted
      gone = record m' { keeper = record m'.keeper { marks = set m'.keeper.marks i Gone; ended = ended } }

      here : HasMark Gone (set m'.keeper.marks i Gone) i
      here = (let inside = mark.0 in subst (λ j. i < j) (sym (length-set m'.keeper.marks i Gone)) inside, get_or-set_same m'.keeper.marks i Gone Vacant mark.0)

      stays : (k : ℕ) → HasMark Gone m'.keeper.marks k → HasMark Gone (set m'.keeper.marks i Gone) k
      stays k was = dite (ℕ_discrete k i)
          (λ (e : k ≡ i). subst (HasMark Gone (set m'.keeper.marks i Gone)) (sym e) here)
          (λ (ne : k ≢ i). (subst (λ j. k < j) (sym (length-set m'.keeper.marks i Gone)) was.0, get_or-set_other m'.keeper.marks i k Gone Vacant ne ∙ was.1))

      lent_same : (k : ℕ) → times k m'.keeper.lent ≡ times k m.keeper.lent
      lent_same k = ap (λ (x : Slotted). times k x.keeper.lent) go.slots

      with_lasts : (ls : List Ended) → length ls ≤ i + 1 → All (λ (l : Ended). l.home ≡ m.keeper.home) ls → length ls + m.keeper.ended ≡ ended
          → ((k : ℕ) → 0 < times k (ended_slots ls) → (0 < times k (ended_slots lasts)) ⊎ (k ≡ i)) → ((k : ℕ) → 0 < times k (ended_slots lasts) → 0 < times k (ended_slots ls))
          → (times i m.keeper.lent ≡ 0 → 0 < times i (ended_slots ls)) → LetsGo s m m'' ls (i + 1)
      with_lasts ls few home counted from more last = subst (λ x. LetsGo s m x ls (i + 1)) (sym is) (record {
        nearly = released_nearly s m' go.nearly i n ended mark owner none;
        slots = ap (λ (x : Slotted). record x { keeper = record x.keeper { marks = set m'.keeper.marks i Gone; ended = ended } }) go.slots;
        wide = length-set m'.keeper.marks i Gone ∙ go.wide;
        waits = λ k o inside has owns. (dite (ℕ_discrete k i)
            (λ (e : k ≡ i). (let clash : Gone ≡ Kept = mark_is Kept m'.keeper.marks i Gone mark.0 (subst (λ j. HasMark Kept (set m'.keeper.marks i Gone) j) e has) in absurd (cc)))
            (λ (ne : k ≢ i). go.waits k o (omega (arith, inside, ne)) (other_mark Kept m'.keeper.marks i Gone k ne has) owns));
        few = few;
        home = home;
        counted = counted;
        before = λ k has. (dite (ℕ_discrete k i)
            (λ (e : k ≡ i). subst (HasMark Kept m.keeper.marks) (sym e) (go.before i mark))
            (λ (ne : k ≢ i). go.before k (other_mark Kept m'.keeper.marks i Gone k ne has)));
        gone = λ k some. gone_of k (from k some);
        unlent = λ k was now none. (dite (ℕ_discrete k i)
            (λ (e : k ≡ i). subst (λ j. 0 < times j (ended_slots ls)) (sym e) (last (subst (λ j. times j m.keeper.lent ≡ 0) e none)))
            (λ (ne : k ≢ i). more k (go.unlent k was (other_mark Gone m'.keeper.marks i Gone k ne now) none)));
      })
        where
          gone_of : (k : ℕ) → (0 < times k (ended_slots lasts)) ⊎ (k ≡ i) → HasMark Kept m.keeper.marks k × HasMark Gone (set m'.keeper.marks i Gone) k
          gone_of k (inl old) = let was = go.gone k old in (was.0, stays k was.1)
          gone_of k (inr e) = (subst (HasMark Kept m.keeper.marks) (sym e) (go.before i mark), subst (HasMark Gone (set m'.keeper.marks i Gone)) (sym e) here)

      pub lets_go : ended ≡ m'.keeper.ended → 0 < times i m'.keeper.lent → LetsGo s m m'' lasts (i + 1)
      lets_go same lent =
          let few = go.few in
          let counted = go.counted in
          with_lasts lasts (omega (arith, few)) go.home (omega (arith, counted, same)) (λ k some. inl some) (λ k some. some)
          (λ none. (let is = lent_same i in absurd (omega (arith, lent, none, is))))

      pub lets_last : (l : Ended) → l ≡ record { home = m'.keeper.home; slot = i } → ended ≡ m'.keeper.ended + 1 → LetsGo s m m'' (lasts ++ l ∷ []) (i + 1)
      lets_last l is one =
          let few = go.few in
          let counted = go.counted in
          let long = length-append lasts (l ∷ []) in
          with_lasts (lasts ++ l ∷ []) (omega (arith, few, long)) (All-push (λ (x : Ended). x.home ≡ m.keeper.home) lasts l go.home (ap (λ (x : Ended). x.home) is ∙ ap (λ (x : Slotted). x.keeper.home) go.slots))
          (omega (arith, counted, long, one)) from more (λ none. at i slot_is)
        where
          slot_is : l.slot ≡ i
          slot_is = ap (λ (x : Ended). x.slot) is

          at : (k : ℕ) → l.slot ≡ k → 0 < times k (ended_slots (lasts ++ l ∷ []))
          at k e = let push = ended_push k lasts l in let one = subst (λ j. weight (eqb l.slot j) ≡ 1) e (weight_same l.slot) in omega (arith, push, one)

          more : (k : ℕ) → 0 < times k (ended_slots lasts) → 0 < times k (ended_slots (lasts ++ l ∷ []))
          more k some = let push = ended_push k lasts l in omega (arith, push, some)

          from : (k : ℕ) → 0 < times k (ended_slots (lasts ++ l ∷ [])) → (0 < times k (ended_slots lasts)) ⊎ (k ≡ i)
          from k some = dite (ℕ_discrete k i)
              (λ (e : k ≡ i). inr e)
              (λ (ne : k ≢ i). inl (let push = ended_push k lasts l in let none = weight_other l.slot k (λ e. ne (sym e ∙ slot_is)) in omega (arith, push, none, some)))

  -- once all slots were looked at, they are tied
  pub lets_end : (m' : Slotted) (lasts : List Ended) → LetsGo s m m' lasts (length m.keeper.marks) → IsTied s m'
  lets_end m' lasts go = record {
    nearly = go.nearly;
    waits = λ k n mark owner. (let wide = go.wide in let inside = mark.0 in go.waits k n (omega (arith, inside, wide)) mark owner);
  }

  -- what was let go last stands in the list
  pub lets_ended : (m' : Slotted) (lasts : List Ended) (i : ℕ) → LetsGo s m m' lasts i → AreLast m m' lasts
  lets_ended m' lasts i go = record {
    home = go.home;
    counted = go.counted;
    vacated = ap (λ (x : Slotted). x.keeper.vacated) go.slots;
    gone = go.gone;
    unlent = λ k was now none. go.unlent k was now (ap (λ (x : Slotted). times k x.keeper.lent) (sym go.slots) ∙ none);
  }
