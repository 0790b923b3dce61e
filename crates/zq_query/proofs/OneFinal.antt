-- The one final of a call, as a list.
use Rattle.std.proofs.Common.{◌≡◌, ℕ, Bool, true, false, cond, List, [], ◌∷◌, refl, Some, None, Option}
use Rattle.std.specs.Prelude.{not}
use Rattle.std.specs.List.{filter, cons_option}
use Rattle.zq_query.specs.declared.records.Final.{Final}
use Rattle.zq_query.specs.Records.{is_closed, final_if_open}
use Rattle.zq_query.specs.Closing.{has_open_asker}

open_by : (f : Final) (b : Bool) → cons_option (cond b None (Some f)) [] ≡ cond (not b) (f ∷ []) []
open_by f true = refl
open_by f false = refl

pub open_one : (closed : List ℕ) (o : Option Final) → cons_option (final_if_open closed o) [] ≡ filter (has_open_asker closed) (cons_option o [])
open_one closed None = refl
open_one closed (Some f) = open_by f (is_closed closed f.asker.0)
