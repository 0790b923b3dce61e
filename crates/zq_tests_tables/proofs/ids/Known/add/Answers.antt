use Rattle.std.proofs.Common.{ℕ}
use Rattle.std.specs.List.{Contains}
use Rattle.zq_names.specs.Names.{ids}
use Rattle.zq_tables.proofs.FaceLemmas.{AreLiveIds-kept}
use Rattle.zq_tests_tables.proofs.ids.Known.add.Goals as goal

pub invariant_of-self-2 : goal.invariant_of-self-2
invariant_of-self-2 c =
    let old = c.self.inside.names in
    let new = c.make_resource.new.self in
    let stay : (i : ℕ) → Contains (ids old) i → Contains (ids new) i = λ i has. (c.in_ok-make_resource.ensures.kept i has).0 in
    record {
      theirs = AreLiveIds-kept old new c.self.inside.face.theirs stay c.self.invariant.theirs;
      ours = AreLiveIds-kept old new c.self.inside.face.ours stay c.self.invariant.ours;
    }
