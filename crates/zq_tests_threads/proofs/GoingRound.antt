-- What four passes have seen, as it goes round.
use Rattle.std.proofs.Common.{◌≡◌, List, sym, subst}
use mathlib.Core.List.{IsPrefix}
use Rattle.zq_journal_view.proofs.Prefixes.{prefix_trans}
use Rattle.zq_pass.specs.Entries.{Entry}
use Rattle.zq_pass.specs.Passes.{Passing}
use Rattle.zq_tests_threads.specs.Passing.{SeesAll}

module _ (a b c d : Passing) where
  -- what goes on from a list that begins with all, does so too
  pub go_on : (xs ys : List Entry) → SeesAll a b c d xs → IsPrefix xs ys → SeesAll a b c d ys
  go_on xs ys h more = (prefix_trans a.seen xs ys h.0 more, prefix_trans b.seen xs ys h.1 more, prefix_trans c.seen xs ys h.2 more, prefix_trans d.seen xs ys h.3 more)

  -- a pass that did not change still sees all
  pub still : (p q : Passing) → p ≡ q → SeesAll a b c d q.seen → SeesAll a b c d p.seen
  still p q same h = subst (λ (r : Passing). SeesAll a b c d r.seen) (sym same) h

  -- once round, the last has seen what all had
  pub once_round : (e f g : Passing) → IsPrefix b.seen e.seen → IsPrefix a.seen e.seen → IsPrefix c.seen f.seen → IsPrefix e.seen f.seen → IsPrefix d.seen g.seen → IsPrefix f.seen g.seen → SeesAll a b c d g.seen
  once_round e f g b_e a_e c_f e_f d_g f_g =
      let e_g = prefix_trans e.seen f.seen g.seen e_f f_g in
      (prefix_trans a.seen e.seen g.seen a_e e_g, prefix_trans b.seen e.seen g.seen b_e e_g, prefix_trans c.seen f.seen g.seen c_f f_g, d_g)
