use Rattle.std.proofs.Common.{◌≡◌, ℕ, ◌≤◌, drop, length, map, take}
use Rattle.zq_machine.specs.State.{Core}
use Rattle.zq_machine.specs.Writing.{tell}
use Rattle.zq_egress.specs.Telling.{KeyedAs, behind, marked_by, untold}
use Rattle.zq_egress.proofs.tell.tell_each.Given as goal

abbrev pub invariant-loop-telling : goal.invariant-loop-telling
invariant-loop-telling g l = record {
  told : (c : Core) → c.faces ≡ l.faces.entries → KeyedAs (g.K.WantsKeys.keyed l.keyed) c.interests → behind l.fn.handed.items (tell c (map (marked_by l.mark) (take l.telling-index l.tellings)) l.fn.names) ≡ record { handed = l.handed.items; names = l.names };
  longer : length l.fn.handed.items ≤ length l.handed.items;
  back : (first : ℕ) → first ≤ length l.fn.handed.items → untold (drop first l.handed.items) l.names ≡ untold (drop first l.fn.handed.items) l.fn.names;
}
