use Rattle.std.proofs.Common.{◌≡◌, ◌∙◌, ◌++◌, sym, ap, subst, true}
use Rattle.std.specs.List.{All}
use Rattle.zq_key.specs.Key.{is_key}
use Rattle.zq_strategy.specs.declared.network.Telling.{Telling}
use Rattle.zq_told.specs.declared.types.Reason.{Reason}
use Rattle.zq_told.specs.Rooms.{ears_of}
use Rattle.zq_told.specs.Telling.{lacks_ids, tell_faces}
use Rattle.zq_egress.proofs.neighbours.tell_way.Goals as goal

pub tell-requires : goal.tell-requires
tell-requires g c = subst (All (λ (t : Telling). is_key t.key ≡ true)) (sym (c.as_slice-told.ensures ∙ c.in-Ok.ensures.told)) (c.requires c.in-Ok.ensures.free)
