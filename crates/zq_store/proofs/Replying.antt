-- The storages that a get asks are those that its target picks, and its replies are theirs.
use Rattle.std.proofs.Common.{◌≡◌, ◌∙◌, refl, sym, ap, ℕ, ◌+◌, ◌^◌, Bool, true, false, cond, List, [], ◌∷◌, ◌++◌, map}
use Rattle.std.specs.Prelude.{◌==◌, filter}
use Rattle.std.specs.List.{AllByRecursion, flat_map, list_all}
use Rattle.std.specs.Option.{option_map, option_to_list}
use Rattle.std.proofs.lemmas.Bool.{and_parts, false≢true}
use Rattle.std.proofs.lemmas.List.{map-append}
use Rattle.zq_key.specs.Key.{includes, intersects, is_key, is_plain}
use Rattle.zq_message.specs.declared.message.FaceId.{FaceId}
use Rattle.zq_message.specs.declared.message.QueryTarget.{QueryTarget}
use Rattle.zq_message.specs.declared.message.QueryTarget.TheVariants as target
use Rattle.zq_message.specs.declared.message.Request.{Request}
use Rattle.zq_query.specs.Asking.{given_id}
use Rattle.zq_query.specs.Records.{QueryState}
use Rattle.zq_tables.specs.Naming.{NamingState}
use Rattle.zq_machine.specs.Deciding.{handed_request, handed_requests}
use Rattle.zq_machine.specs.Writing.{write}
use Rattle.zq_local.specs.Picking.{Seat, by_key, meets, picked}
use Rattle.zq_local.proofs.Asked.{asked, get_hands, queries_first}
use Rattle.zq_local.proofs.Picked.{offer}
use Rattle.zq_local.proofs.Selected.{all_by_key, all_picked}
use Rattle.zq_store.specs.Held.{meeting, meets_key}
use Rattle.zq_store.specs.Stores.{Stored, fits_store, held_at, holds_own, numbered}
use Rattle.zq_store.specs.Bus.{BusState, IsServed}
use Rattle.zq_store.specs.Getting.{answer_by, answers_at, answers_of, asked_of, get_answers, get_asks, got_reply}
use Rattle.zq_store.specs.Answered.{meeting_replies, picked_replies, replies_by, reply_by}
use Rattle.zq_store.specs.Seats.{seats}
use Rattle.zq_store.specs.declared.answers.AskedStore.{AskedStore}
use Rattle.zq_store.proofs.Meeting.{includes_meets}
use Rattle.zq_store.proofs.Numbering.{IsPlaced, all_placed, found_by_face}

-- ---- who is asked
-- a storage as it is asked
abbrev pub ask_at : QueryState → Seat → AskedStore
ask_at q s = record { store = s.number; face = s.face; rid = given_id q s.face }

module _ (m : ℕ) (stores : List Stored) (nums : numbered m stores ≡ true) (q : QueryState) (names : NamingState) (key : List ℕ) (r : Request) where
  asked_each : (ss : List Seat) → AllByRecursion (IsPlaced m stores) ss → asked_of stores (write names (map (handed_request q key r) (map (offer key) ss))) ≡ map (ask_at q) ss
  asked_each [] all = refl
  asked_each (s ∷ ss) all =
      ap (λ o. option_to_list (option_map (λ n. record { store = n; face = s.face; rid = given_id q s.face }) o) ++ asked_of stores (write names (map (handed_request q key r) (map (offer key) ss))))
      (found_by_face s.face m s.number stores nums all.0.number all.0.face)
      ∙ ap (λ l. ask_at q s ∷ l) (asked_each ss all.1)

  pub asked_are : (asker : FaceId) (ss : List Seat) → AllByRecursion (IsPlaced m stores) ss → asked_of stores (write names (handed_requests q asker key r (map (offer key) ss))) ≡ map (ask_at q) ss
  asked_are asker [] all = refl
  asked_are asker (s ∷ ss) all = asked_each (s ∷ ss) all

-- ---- what they reply
module _ (stores : List Stored) (key : List ℕ) (q : QueryState) where
  replies_at : (s : Seat) (ps : List (List ℕ × List ℕ)) → map got_reply (map (answer_by (ask_at q s)) ps) ≡ map (reply_by s.number) ps
  replies_at s [] = refl
  replies_at s (p ∷ ps) = ap (λ l. reply_by s.number p ∷ l) (replies_at s ps)

  pub replies_are : (ss : List Seat) → map got_reply (answers_of stores key (map (ask_at q) ss)) ≡ flat_map (replies_by key stores) ss
  replies_are [] = refl
  replies_are (s ∷ ss) =
      map-append got_reply (answers_at stores key (ask_at q s)) (answers_of stores key (map (ask_at q) ss))
      ∙ (λ j. replies_at s (meeting key (held_at stores s.number)) j ++ replies_are ss j)

-- ---- a storage that does not meet the key has no pair that does
none_meets : (key own : List ℕ) (ps : List (List ℕ × List ℕ)) → list_all (fits_store own) ps ≡ true → intersects own key ≡ false → filter (meets_key key) ps ≡ []
none_meets key own [] fits apart = refl
none_meets key own (p ∷ ps) fits apart = by (intersects p.0 key) refl (none_meets key own ps parts.1 apart)
  where
    parts : (fits_store own p ≡ true) × (list_all (fits_store own) ps ≡ true)
    parts = and_parts (fits_store own p) (list_all (fits_store own) ps) fits

    both : (is_plain p.0 ≡ true) × (includes own p.0 ≡ true)
    both = and_parts (is_plain p.0) (includes own p.0) parts.0

    by : (b : Bool) → intersects p.0 key ≡ b → filter (meets_key key) ps ≡ [] → cond b (p ∷ filter (meets_key key) ps) (filter (meets_key key) ps) ≡ []
    by true e rest = absurd (false≢true (sym apart ∙ includes_meets own p.0 key both.0 both.1 e))
    by false e rest = rest

module _ (m : ℕ) (stores : List Stored) (key : List ℕ) where
  all_that_meet : (ss : List Seat) → AllByRecursion (IsPlaced m stores) ss → flat_map (replies_by key stores) (filter (meets key) ss) ≡ flat_map (replies_by key stores) ss
  all_that_meet [] all = refl
  all_that_meet (s ∷ ss) all = by (intersects s.key key) refl (all_that_meet ss all.1)
    where
      by : (b : Bool) → intersects s.key key ≡ b → flat_map (replies_by key stores) (filter (meets key) ss) ≡ flat_map (replies_by key stores) ss
          → flat_map (replies_by key stores) (cond b (s ∷ filter (meets key) ss) (filter (meets key) ss)) ≡ replies_by key stores s ++ flat_map (replies_by key stores) ss
      by true e rest = ap (λ l. replies_by key stores s ++ l) rest
      by false e rest = rest ∙ ap (λ l. map (reply_by s.number) l ++ flat_map (replies_by key stores) ss) (sym (none_meets key s.key (held_at stores s.number) all.0.held e))

  -- for the target All these are all pairs that meet the key
  pub all_replies : numbered m stores ≡ true → list_all holds_own stores ≡ true → picked_replies key target.All stores ≡ meeting_replies key stores
  all_replies nums held = all_that_meet (by_key (seats stores)) (all_by_key (IsPlaced m stores) (seats stores) (all_placed m stores nums held))

-- ---- a get
module _ (b : BusState) (served : IsServed b) (nums : numbered (b.asker.0 + 1) b.stores ≡ true) (held : list_all holds_own b.stores ≡ true)
    (key : List ℕ) (is : is_key key ≡ true) (t : QueryTarget) (now : ℕ) (fits : (b.next_request + 1 == 2 ^ 64) ≡ false) where
  abbrev pub queries : QueryState
  queries = queries_first b.asker.0 (seats b.stores) b.next_request b.next_reply b.gateway served

  abbrev pub picks : List Seat
  picks = picked key t (seats b.stores)

  pub placed_picks : AllByRecursion (IsPlaced (b.asker.0 + 1) b.stores) picks
  placed_picks = all_picked (IsPlaced (b.asker.0 + 1) b.stores) key t (seats b.stores) (all_placed (b.asker.0 + 1) b.stores nums held)

  pub get_asks_are : get_asks b key t now ≡ map (ask_at queries) picks
  get_asks_are =
      ap (asked_of b.stores) (get_hands b.asker.0 (seats b.stores) b.next_request b.next_reply b.gateway served key is t now fits)
      ∙ asked_are (b.asker.0 + 1) b.stores nums queries b.gateway.names key (asked b.asker.0 (seats b.stores) b.next_request b.next_reply b.gateway served key is t now fits) b.asker picks placed_picks

  pub get_replies_are : map got_reply (get_answers b key t now) ≡ picked_replies key t b.stores
  get_replies_are = ap (λ l. map got_reply (answers_of b.stores key l)) get_asks_are ∙ replies_are b.stores key queries picks
