use Rattle.std.proofs.Common.{◌≡◌, ◌∙◌, subst, true, take}
use Rattle.std.specs.Option.{is_some}
use Rattle.std.proofs.lemmas.List.Elements.{All-more}
use Rattle.zq_index.specs.Texts.{at_text}
use Rattle.zq_told.specs.Rooms.{IsBare, Shelf, has_room}
use Rattle.zq_told.specs.Telling.{Row}
use Rattle.zq_told.proofs.Shown.{bare_stays, weaker}
use Rattle.zq_told.proofs.book.give_back.Goals as goal

pub loop-key-preserved : goal.loop-key-preserved
loop-key-preserved c =
    let row : Row = c.loop-key-item.result in
    let i = c.loop-key.key-index in
    let was : Shelf = c.loop-key.slots in
    let now : Shelf = c.give_back.new.self in
    let one : IsBare now row = subst (λ k. has_room now k ≡ true → is_some (at_text k now.told) ≡ true) c.as_str.ensures c.give_back.ensures.bare in
    let before = weaker (IsBare was) (IsBare now) row (take i c.args.rows.now) (bare_stays was now c.give_back.ensures.told c.give_back.ensures.fewer) c.loop-key.invariant.bare in
    record {
      told = c.give_back.ensures.told ∙ c.loop-key.invariant.told;
      bare = All-more (IsBare now) c.args.rows.now i row c.loop-key-test.true before (subst (IsBare now) c.loop-key-item.is one);
      fewer = λ q h. c.loop-key.invariant.fewer q (c.give_back.ensures.fewer q h);
    }
