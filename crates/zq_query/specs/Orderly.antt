-- What holds of the open requests after every call.
use Rattle.std.specs.Prelude.{◌≡◌, ℕ, ◌<◌, ◌≤◌, Bool, false, List, map, length}
use Rattle.std.specs.List.{filter, AllByRecursion}
use Rattle.std.specs.List.Sorted.{IsStrictlySortedBy}
use Rattle.std.specs.Ordering.{nat_cmp}
use Rattle.zq_query.specs.Records.{QueryState, Record, Pending, has_entry, has_reply, any_over}

-- each number is below those after it
abbrev pub AreRising : List ℕ → Type 0
AreRising ns = IsStrictlySortedBy nat_cmp ns

-- the entries stand by face, one a face
abbrev pub HasFacesRising : Record → Type 0
HasFacesRising r = AreRising (map (λ (e : Pending). e.face) r.pending)

-- the replies in flight stand by number, and lie below the next one
abbrev pub HasRepliesBelow : ℕ → Record → Type 0
HasRepliesBelow next r = AreRising r.in_flight × AllByRecursion (λ n. n < next) r.in_flight

-- one record passes, or none
abbrev pub IsAtMostOne : (Record → Bool) → List Record → Type 0
IsAtMostOne p rs = length (filter p rs) ≤ 1

-- numbers, entries and replies stand once, in order, below the next ones; and each record has something left
pub record IsOrderly (s : QueryState) : Type 0 where
  pub numbers : AreRising (map (λ (r : Record). r.number) s.records)
  pub below : AllByRecursion (λ (r : Record). r.number < s.requests) s.records
  pub faces : AllByRecursion HasFacesRising s.records
  pub one_entry : (face id : ℕ) → IsAtMostOne (has_entry face id) s.records
  pub replies : AllByRecursion (HasRepliesBelow s.replies) s.records
  pub one_reply : (reply : ℕ) → IsAtMostOne (has_reply reply) s.records
  pub left : any_over s.records ≡ false
