-- What holds between two reports of a settling.
use Rattle.std.specs.Prelude.{◌≡◌, ◌≢◌, ℕ, ◌<◌, true, ◌||◌, List, Option, Some}
use Rattle.std.specs.List.{list_any}
use Rattle.std.specs.List.Sorted.{IsStrictlySortedBy}
use Rattle.std.specs.Ordering.{nat_cmp}
use Rattle.zq_hold.specs.Owners.{Slotted, owned}
use Rattle.zq_query.specs.Records.{is_reply}
use Rattle.zq_machine.specs.Handing.{Handed}
use Rattle.zq_shared.specs.Stored.{Stored, in_flight, waiting}
use Rattle.zq_shared.specs.Ties.{AreWaiting, IsNearlyTied}
use Rattle.zq_shared.specs.Sharing.{AreDue, EndsIn, reports, with_reports}

-- slots that were tied but for the request, which owns none, still are
abbrev pub KeepsTies : Stored → ℕ → Stored → Type 0
KeepsTies s n new = (m : Slotted) → IsNearlyTied (Some n) s m → AreWaiting s m → owned n m.owners ≡ 0 → IsNearlyTied (Some n) new m × AreWaiting new m

-- replies in flight of other requests still are
abbrev pub KeepsOthers : Stored → ℕ → Stored → Type 0
KeepsOthers s n new = (m r : ℕ) → m ≢ n → in_flight s m r ≡ true → in_flight new m r ≡ true

-- replies of the request that were in flight are reported, in order of number, and those that still are come behind them; the reports are due if none of its entries is pending
pub record Reported (s : Stored) (n : ℕ) (answer : Option Handed) (new : Stored) (ks : List ℕ) : Type 0 where
  pub all : (k : ℕ) → in_flight s n k ≡ (list_any (is_reply k) ks || in_flight new n k)
  pub rising : IsStrictlySortedBy nat_cmp ks
  pub behind : (j k : ℕ) → list_any (is_reply j) ks ≡ true → in_flight new n k ≡ true → j < k
  pub stored : new ≡ with_reports s ks
  pub ends : EndsIn s ks answer
  pub keeps : KeepsTies s n new
  pub others : KeepsOthers s n new
  pub quiet : waiting s n ≡ 0 → waiting new n ≡ 0
  pub due : waiting s n ≡ 0 → AreDue s (reports ks)
