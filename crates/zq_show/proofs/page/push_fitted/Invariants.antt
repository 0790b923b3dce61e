use Rattle.std.proofs.Common.{◌≡◌, ◌++◌, drop}
use Rattle.zq_show.specs.Fit.{fitted_by, room_of}
use Rattle.zq_show.specs.Page.{item_words}
use Rattle.zq_show.proofs.page.push_fitted.Given as goal

abbrev pub invariant-loop-text : goal.invariant-loop-text
invariant-loop-text l = l.out.items ++ fitted_by item_words l.fit (drop l.text-index l.texts) ≡ l.fn.out.items ++ fitted_by item_words (room_of l.room) l.texts
