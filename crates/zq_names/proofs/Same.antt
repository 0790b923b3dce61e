-- Slots of which contracts and links see the same.
use Rattle.std.proofs.Common.{◌≡◌, ℕ, true, List, [], ◌∷◌, ◌++◌, Option, get_or, sym, ap, subst, ◌∙◌, refl}
use Rattle.std.specs.Option.{is_some}
use Rattle.std.specs.List.{Contains}
use Rattle.zq_names.specs.declared.node.Node.{Node}
use Rattle.zq_names.specs.declared.node.ResourceId.{ResourceId}
use Rattle.zq_names.specs.Names.{NameEntry, IsNames, IsTable, IsLinked, IsSound, slot, slot_context, slot_matches, slot_former, rows, texts, entry_of}

-- what contracts and links see of a slot
pub record SameSlot (i : ℕ) (old new : Option Node) : Type 0 where
  pub entry : entry_of i new ≡ entry_of i old
  pub live : is_some new ≡ is_some old
  pub former : slot_former new ≡ slot_former old

pub rows-same : (old new : List (Option Node)) (order : List ℕ) → ((i : ℕ) → SameSlot i (slot old i) (slot new i)) → rows new order ≡ rows old order
rows-same old new [] same = refl
rows-same old new (i ∷ is) same = rw ((same i).entry, rows-same old new is same)

-- the texts of a table tell whether it is one, with the slots that are used
pub IsTable-same : (old new : List (Option Node)) (order : List ℕ) → texts (rows new order) ≡ texts (rows old order) → ((i : ℕ) → is_some (slot new i) ≡ is_some (slot old i)) → IsTable old order → IsTable new order
IsTable-same old new order shown live table =
    let N : List (List ℕ) → Type 0 = IsNames order in
    record {
      live = λ k d lt. live (get_or order k d) ∙ table.live k d lt;
      covered = λ i some. table.covered i (sym (live i) ∙ some);
      names = subst N (sym shown) table.names;
    }

-- the matches stay, and those that had a context have it
pub IsLinked-same : (old new : List (Option Node)) → ((i : ℕ) → slot_matches (slot new i) ≡ slot_matches (slot old i)) → ((i : ℕ) → slot_former (slot new i) ≡ slot_former (slot old i)) → ((i : ℕ) → slot_context (slot old i) ≡ true → slot_context (slot new i) ≡ true) → IsLinked old → IsLinked new
IsLinked-same old new matches former context linked = record {
  both_ways = λ a b has.
      let L : List ResourceId → Type 0 = λ (l : List ResourceId). Contains (l ++ slot_former (slot new a.0)) b in
      let F : List ResourceId → Type 0 = λ (l : List ResourceId). Contains (slot_matches (slot old a.0) ++ l) b in
      subst L (sym (matches a.0)) (subst F (sym (former a.0)) (linked.both_ways a b (was a b has)));
  contexts = λ a b has. let both = linked.contexts a b (was a b has) in (context b.0 both.0, context a.0 both.1);
}
  where
    was : (a b : ResourceId) → Contains (slot_matches (slot new b.0)) a → Contains (slot_matches (slot old b.0)) a
    was a b has = let M : List ResourceId → Type 0 = λ (l : List ResourceId). Contains l a in subst M (matches b.0) has

pub IsSound-same : (old new : List (Option Node)) (order : List ℕ) → ((i : ℕ) → SameSlot i (slot old i) (slot new i)) → IsSound old order → IsSound new order
IsSound-same old new order same sound = record {
  table = IsTable-same old new order (ap texts (rows-same old new order same)) (λ i. (same i).live) sound.table;
  linked = IsLinked-same old new (λ i. ap (λ (e : NameEntry). e.matches) (same i).entry) (λ i. (same i).former) (λ i is. ap (λ (e : NameEntry). e.context) (same i).entry ∙ is) sound.linked;
}
