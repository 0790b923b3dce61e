use Rattle.std.proofs.Common.{◌<◌, ℕ, List, subst, sym, ap}
use Rattle.std.specs.List.{All}
use Rattle.std.specs.BTreeMap.{keys}
use Rattle.zq_message.proofs.map.RegionMap.get_mut.Goals as goal

pub invariant_of-self-lent : goal.invariant_of-self-lent
invariant_of-self-lent g c =
    let Small : List ℕ → Type 0 = All (λ k. k < 770) in
    λ _. (
      λ w. subst Small (sym (c.get_mut.follows.holds w).1) c.self.invariant,
      subst Small (sym (ap keys c.get_mut.follows.holds-at-none)) c.self.invariant,
    )
