-- Where a reply goes, and whether a number is left for it.
use Rattle.std.proofs.Common.{◌≡◌, ℕ, ◌||◌, Bool, true, false, cond, List, [], ◌∷◌, Some, refl}
use Rattle.std.specs.List.{find}
use Rattle.std.specs.List.{list_any}
use Rattle.std.specs.Option.{is_some, option_map}
use Rattle.zq_query.specs.Records.{QueryState, is_pending, has_entry, final_of, next_reply, reply_to}

any-found : {X Y Z : Type 0} (p : X → Bool) (f : X → Y) (g : Y → Z) (x : X) (xs : List X) (b : Bool) → is_some (option_map g (option_map f (find p xs))) ≡ list_any p xs → is_some (option_map g (option_map f (cond b (Some x) (find p xs)))) ≡ (b || list_any p xs)
any-found p f g x xs true e = refl
any-found p f g x xs false e = e

any-find : {X Y Z : Type 0} (p : X → Bool) (f : X → Y) (g : Y → Z) (xs : List X) → is_some (option_map g (option_map f (find p xs))) ≡ list_any p xs
any-find p f g [] = refl
any-find p f g (x ∷ xs) = any-found p f g x xs (p x) (any-find p f g xs)

-- an entry is pending exactly where a reply to it goes somewhere
pub next-pending : (face id : ℕ) (s : QueryState) → is_some (next_reply face id s) ≡ is_pending face id s.records
next-pending face id s = any-find (has_entry face id) final_of (reply_to s) s.records
