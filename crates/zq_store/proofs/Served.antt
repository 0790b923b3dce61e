-- What is kept of the gateway of a bus: by a new one, by a storage that joins, and by puts and deletes.
use Rattle.std.proofs.Common.{◌≡◌, ◌∙◌, refl, sym, ap, subst, ℕ, zero, suc, ◌+◌, ◌^◌, Bool, true, false, cond, not, List, [], ◌∷◌, ◌++◌, Option, Some, None, length, arith}
use Rattle.std.specs.Prelude.{◌==◌, slice_get, slice_set}
use Rattle.zq_key.specs.Key.{is_key}
use Rattle.zq_machine.specs.Configs.{Settings, has_local}
use Rattle.zq_machine.specs.Machine.{state_after}
use Rattle.zq_machine.specs.State.{State}
use Rattle.zq_local.specs.Picking.{Seat}
use Rattle.zq_local.specs.Seated.{IsSeated}
use Rattle.zq_local.proofs.Seating.{joined_seated, new_seated}
use Rattle.zq_store.specs.Held.{Change}
use Rattle.zq_store.specs.Stores.{Stored, change_by, changed_store, new_store}
use Rattle.zq_store.specs.Seats.{seats, seats_from}
use Rattle.zq_store.specs.Bus.{BusState, IsServed, add_refusal, added, free_face, join_calls, new_bus, new_refusal}
use Rattle.zq_store.specs.declared.bus.BusRefusal.TheVariants as refusal

-- ---- refusals
new_parts : (a c : Bool) → cond (not a) (Some refusal.NoLocal) (cond c (Some refusal.NoFreeId) None) ≡ None → (a ≡ true) × (c ≡ false)
new_parts true true e = absurd (cc)
new_parts true false e = (refl, refl)
new_parts false c e = absurd (cc)

add_parts : (a c : Bool) → cond a (Some refusal.Spent) (cond c (Some refusal.NoFreeId) None) ≡ None → (a ≡ false) × (c ≡ false)
add_parts true c e = absurd (cc)
add_parts false true e = absurd (cc)
add_parts false false e = (refl, refl)

-- ---- a new bus
pub new_served : (config : Settings) → new_refusal config ≡ None → IsServed (new_bus config)
new_served config none =
    let parts = new_parts (has_local config.entries) (config.start.faces + 1 == 2 ^ 32) none in
    new_seated config parts.0 parts.1

-- ---- a storage joins
seats_count : (n : ℕ) (xs : List Stored) → length (seats_from n xs) ≡ length xs
seats_count n [] = refl
seats_count n (s ∷ xs) = ap suc (seats_count (n + 1) xs)

-- the seat of a storage with a number
abbrev seat_of : ℕ → Stored → Seat
seat_of n s = record { number = n; key = s.key; face = s.face; complete = s.complete }

seats_more : (n m : ℕ) (xs : List Stored) (s : Stored) → m ≡ n + length xs → seats_from n (xs ++ s ∷ []) ≡ seats_from n xs ++ seat_of m s ∷ []
seats_more n m [] s is = ap (λ k. seat_of k s ∷ []) (omega (arith, is))
seats_more n m (x ∷ xs) s is = ap (λ l. seat_of n x ∷ l) (seats_more (n + 1) m xs s (omega (arith, is)))

module _ (key : List ℕ) (complete : Bool) (b : BusState) (next : b.next_face ≡ b.asker.0 + 1 + length b.stores) (served : IsServed b) (none : add_refusal b ≡ None) (keyed : is_key key ≡ true) where
  abbrev new : Stored
  new = new_store key (free_face b) complete

  fits : (b.next_face + 1 == 2 ^ 32) ≡ false
  fits = (add_parts b.spent (b.next_face + 1 == 2 ^ 32) none).1

  place : b.next_face ≡ b.asker.0 + 1 + length (seats b.stores)
  place = next ∙ ap (λ n. b.asker.0 + 1 + n) (sym (seats_count 0 b.stores))

  pub added_served : IsServed (added key complete b)
  added_served =
      subst (λ l. IsSeated b.asker.0 l b.next_request b.next_reply (added key complete b).gateway) (sym (seats_more 0 (length b.stores) b.stores new (omega arith)))
      (joined_seated b.asker.0 (seats b.stores) b.next_request b.next_reply b.gateway served b.next_face place fits (seat_of (length b.stores) new) refl keyed)

-- ---- what the calls of a storage that joins leave
pub unspent : (b : BusState) → add_refusal b ≡ None → b.spent ≡ false
unspent b none = (add_parts b.spent (b.next_face + 1 == 2 ^ 32) none).0

pub joined : (key : List ℕ) (complete : Bool) (b : BusState) (gateway : State) (stores : List Stored)
    → gateway ≡ state_after b.gateway (join_calls b.gateway.core.config.zid (free_face b) key complete) → stores ≡ b.stores ++ new_store key (free_face b) complete ∷ [] → add_refusal b ≡ None
    → ◌≡◌ {A = BusState} (record { gateway = gateway; asker = b.asker; next_face = b.next_face + 1; next_request = b.next_request; next_reply = b.next_reply; stores = stores; spent = false }) (added key complete b)
joined key complete b gateway stores after more none =
    λ j. record { gateway = after j; asker = b.asker; next_face = b.next_face + 1; next_request = b.next_request; next_reply = b.next_reply; stores = more j; spent = sym (unspent b none) j }

-- ---- puts and deletes
seats_set : (n i : ℕ) (xs : List Stored) (c : Change) (s : Stored) → slice_get xs i ≡ Some s → seats_from n (slice_set xs i (changed_store c s)) ≡ seats_from n xs
seats_set n i [] c s there = refl
seats_set n zero (x ∷ xs) c s there =
    let same : x ≡ s = cc in
    ap (λ y. seat_of n y ∷ seats_from (n + 1) xs) (sym same)
seats_set n (suc i) (x ∷ xs) c s there = ap (λ l. seat_of n x ∷ l) (seats_set (n + 1) i xs c s there)

pub seats_changed : (i : ℕ) (c : Change) (xs : List Stored) (o : Option Stored) → slice_get xs i ≡ o → seats (change_by i c xs o) ≡ seats xs
seats_changed i c xs None there = refl
seats_changed i c xs (Some s) there = seats_set 0 i xs c s there
