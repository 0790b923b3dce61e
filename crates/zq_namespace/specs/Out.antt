-- What an exit lets out of what is handed.
use Rattle.std.specs.Prelude.{Option, Some, None}
use Rattle.zq_namespace.specs.declared.out.Out.{Out}
use Rattle.zq_namespace.specs.declared.out.Out.TheVariants.{Same, Other, Nothing}

-- what leaves in place of what is handed
abbrev pub left : {T : Type 0} → T → Out T → Option T
left x Same = Some x
left x (Other y) = Some y
left x Nothing = None
