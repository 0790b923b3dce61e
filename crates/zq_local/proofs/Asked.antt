-- The asker asks: the storages that its target picks are handed the request, and an entry is pending for each.
use Rattle.std.proofs.Common.{◌≡◌, ◌∙◌, refl, sym, ap, subst, ℕ, ◌+◌, ◌^◌, Bool, true, false, cond, List, [], ◌∷◌, map, Some, None, eq-eqb}
use Rattle.std.specs.Prelude.{◌==◌, ◌&&◌, ◌||◌}
use Rattle.std.specs.List.{AllByRecursion, list_any}
use Rattle.std.specs.Option.{is_some}
use Rattle.std.specs.BTreeMap.{is_at}
use Rattle.std.specs.Ordering.{nat_cmp}
use Rattle.std.proofs.Math.Bool.{or-true}
use Rattle.zq_key.specs.Key.{is_key}
use Rattle.zq_message.specs.declared.message.QueryTarget.{QueryTarget}
use Rattle.zq_message.specs.declared.message.Request.{Request}
use Rattle.zq_query.specs.Asking.{after_ask, entries_at, entry_at, given_id, given_place}
use Rattle.zq_query.specs.Records.{Pending, QueryState, is_entry}
use Rattle.zq_tables.specs.Naming.{plain}
use Rattle.zq_machine.specs.declared.call.Call.{Call}
use Rattle.zq_machine.specs.declared.call.Call.TheVariants as call
use Rattle.zq_machine.specs.Deciding.{deadline, handed_requests, opened}
use Rattle.zq_machine.specs.Machine.{after, step}
use Rattle.zq_machine.specs.Selecting.{target_of}
use Rattle.zq_machine.specs.State.{State, at, is_open}
use Rattle.zq_machine.specs.Writing.{write}
use Rattle.zq_machine.specs.declared.face.OpenFace.{OpenFace}
use Rattle.zq_machine.proofs.Lists.{all_weaker}
use Rattle.zq_machine.proofs.NewEntries.{each_entry}
use Rattle.zq_machine.proofs.Waiting.{entries_are}
use Rattle.zq_local.specs.Picking.{Seat, picked}
use Rattle.zq_local.specs.Seated.{IsSeated, local_opening, open_entry}
use Rattle.zq_local.proofs.Ends.{itself}
use Rattle.zq_local.proofs.Lists.{all_back}
use Rattle.zq_local.proofs.Picked.{offer}
use Rattle.zq_local.proofs.Quiet.{ask_hands, ask_leaves, with_all}
use Rattle.zq_local.proofs.Selected.{all_picked, selected}

-- each stands in the list
module _ {X : Type 0} (r : X → X → Bool) (same : (x : X) → r x x ≡ true) where
  further : (x : X) (all : List X) → AllByRecursion (λ z. list_any (r z) all ≡ true) all → AllByRecursion (λ z. list_any (r z) (x ∷ all) ≡ true) all
  further x all it = all_weaker (λ z. list_any (r z) all ≡ true) (λ z. list_any (r z) (x ∷ all) ≡ true) (λ z some. ap (λ b. r z x || b) some ∙ or-true (r z x)) all it

  each_in : (xs : List X) → AllByRecursion (λ x. list_any (r x) xs ≡ true) xs
  each_in [] = tt
  each_in (x ∷ xs) = (ap (λ b. b || list_any (r x) xs) (same x), further x xs (each_in xs))

any_mapped : {X Y : Type 0} (p : Y → Bool) (f : X → Y) (xs : List X) → list_any p (map f xs) ≡ list_any (λ x. p (f x)) xs
any_mapped p f [] = refl
any_mapped p f (x ∷ xs) = ap (λ b. p (f x) || b) (any_mapped p f xs)

pub targets_mapped : (key : List ℕ) (q : QueryState) (ss : List Seat) → map (given_place q) (map target_of (map (offer key) ss)) ≡ map (λ (s : Seat). (s.face.0, given_id q s.face)) ss
targets_mapped key q [] = refl
targets_mapped key q (s ∷ ss) = ap (λ l. (s.face.0, given_id q s.face) ∷ l) (targets_mapped key q ss)

-- ---- the entries of those that are asked
module _ (q : QueryState) (d : ℕ) where
  -- the entry is the storage's
  abbrev pub is_its : Seat → Pending → Bool
  is_its s e = is_entry s.face.0 (given_id q s.face) e

  abbrev place : Seat → ℕ × ℕ
  place s = (s.face.0, given_id q s.face)

  abbrev pub entries_of : List Seat → List Pending
  entries_of ss = entries_at d (map place ss)

  own_entry : (s : Seat) → is_its s (entry_at d (place s)) ≡ true
  own_entry s = (λ j. eq-eqb s.face.0 s.face.0 refl j && eq-eqb (given_id q s.face) (given_id q s.face) refl j)

  pub all_asked : (ss : List Seat) → AllByRecursion (λ s. list_any (is_its s) (entries_of ss) ≡ true) ss
  all_asked ss =
      all_weaker (λ s. list_any (λ u. is_its s (entry_at d (place u))) ss ≡ true) (λ s. list_any (is_its s) (entries_of ss) ≡ true)
      (λ s some. entries_are (is_its s) d (map place ss) ∙ any_mapped (λ p. is_its s (entry_at d p)) place ss ∙ some) ss
      (each_in (λ s u. is_its s (entry_at d (place u))) own_entry ss)

  pub all_of_asked : (ss : List Seat) → AllByRecursion (λ (e : Pending). list_any (λ s. is_its s e) ss ≡ true) (entries_of ss)
  all_of_asked ss =
      each_entry (λ (e : Pending). list_any (λ s. is_its s e) ss ≡ true) d (map place ss)
      (all_back (λ p. list_any (λ s. is_its s (entry_at d p)) ss ≡ true) place ss (each_in (λ u s. is_its s (entry_at d (place u))) own_entry ss))

-- ---- the faces are open
seats_open : (faces : List (ℕ × OpenFace)) (mine : OpenFace) (ss : List Seat) → (e : ℕ × OpenFace) → AllByRecursion (λ (s : Seat). is_some (at s.face.0 (e ∷ map (λ (s : Seat). (s.face.0, mine)) ss)) ≡ true) ss
seats_open faces mine ss e = all_weaker (λ (s : Seat). is_some (at s.face.0 (map (λ (s : Seat). (s.face.0, mine)) ss)) ≡ true) (λ (s : Seat). is_some (at s.face.0 (e ∷ map (λ (s : Seat). (s.face.0, mine)) ss)) ≡ true) (λ s is. later e s.face.0 _ is) ss (own ss)
  where
    later : (e : ℕ × OpenFace) (n : ℕ) (es : List (ℕ × OpenFace)) → is_some (at n es) ≡ true → is_some (at n (e ∷ es)) ≡ true
    later e n es is = by (is_at (nat_cmp n) e.0)
      where
        by : (b : Bool) → is_some (cond b (Some e.1) (at n es)) ≡ true
        by true = refl
        by false = is

    own : (ss : List Seat) → AllByRecursion (λ (s : Seat). is_some (at s.face.0 (map (λ (s : Seat). (s.face.0, mine)) ss)) ≡ true) ss
    own [] = tt
    own (s ∷ ss) = (
      ap (λ b. is_some (cond b (Some mine) (at s.face.0 (map (λ (s : Seat). (s.face.0, mine)) ss)))) (itself s.face.0),
      all_weaker (λ (u : Seat). is_some (at u.face.0 (map (λ (s : Seat). (s.face.0, mine)) ss)) ≡ true) (λ (u : Seat). is_some (at u.face.0 (map (λ (s : Seat). (s.face.0, mine)) (s ∷ ss))) ≡ true) (λ u is. later (s.face.0, mine) u.face.0 _ is) ss (own ss),
    )

module _ (asker : ℕ) (ss : List Seat) (requests replies : ℕ) (s : State) (seated : IsSeated asker ss requests replies s) where
  pub asker_open : is_open asker s.core ≡ true
  asker_open =
      ap (λ l. is_some (at asker l)) seated.faces
      ∙ ap (λ b. is_some (cond b (Some (opened (local_opening s.core.config.zid))) (at asker (map (open_entry s.core.config.zid) ss)))) (itself asker)

  pub all_open : AllByRecursion (λ (x : Seat). is_open x.face.0 s.core ≡ true) ss
  all_open =
      subst (λ l. AllByRecursion (λ (x : Seat). is_some (at x.face.0 l) ≡ true) ss) (sym seated.faces)
      (seats_open [] (opened (local_opening s.core.config.zid)) ss (asker, opened (local_opening s.core.config.zid)))

  -- the gateway's queries before a get
  abbrev pub queries_first : QueryState
  queries_first = record { records = []; last_ids = s.core.queries.last_ids; closed = []; requests = requests; replies = replies; request_ids = s.core.queries.request_ids }

  pub with_first : s ≡ with_all s.core s.names queries_first
  with_first = λ j. record {
    core = record s.core { queries = record { records = seated.quiet.records j; last_ids = s.core.queries.last_ids; closed = seated.quiet.closed j; requests = seated.quiet.asked j; replies = seated.quiet.replied j; request_ids = s.core.queries.request_ids } };
    names = s.names;
    gates = seated.gates j;
  }

  module _ (q : List ℕ) (is : is_key q ≡ true) (t : QueryTarget) (now : ℕ) (fits : (requests + 1 == 2 ^ 64) ≡ false) where
    abbrev pub asked : Request
    asked = record { id = 0; wire = plain q; target = t; timeout = None; node = 0; qos = 0; payload = [] }

    abbrev pub ask : Call
    ask = call.Request (record { 0 = asker }) asked now

    abbrev pub picks : List Seat
    picks = picked q t ss

    pub get_hands : (step s ask).handed ≡ write s.names (handed_requests queries_first (record { 0 = asker }) q asked (map (offer q) picks))
    get_hands =
        ap (λ z. (step z ask).handed) with_first
        ∙ ask_hands s.core s.names (record { 0 = asker }) q t now is asker_open s.core.queries.last_ids requests replies s.core.queries.request_ids fits
        ∙ ap (λ os. write s.names (handed_requests queries_first (record { 0 = asker }) q asked os)) (selected s.core asker ss seated.numbered seated.faces seated.hats q is asked)

    pub get_leaves : after s ask ≡ with_all s.core s.names (after_ask (record { 0 = asker }) 0 0 (map target_of (map (offer q) picks)) (deadline s.core None now) queries_first)
    get_leaves =
        ap (λ z. after z ask) with_first
        ∙ ask_leaves s.core s.names (record { 0 = asker }) q t now is asker_open s.core.queries.last_ids requests replies s.core.queries.request_ids fits
        ∙ ap (λ os. with_all s.core s.names (after_ask (record { 0 = asker }) 0 0 (map target_of os) (deadline s.core None now) queries_first)) (selected s.core asker ss seated.numbered seated.faces seated.hats q is asked)

    pub picks_open : AllByRecursion (λ (x : Seat). is_open x.face.0 s.core ≡ true) picks
    picks_open = all_picked (λ (x : Seat). is_open x.face.0 s.core ≡ true) q t ss all_open
