use Rattle.std.proofs.Common.{◌≡◌, ◌∙◌, [], ap, map, subst, IfOk, List, ℕ, Option}
use Rattle.std.specs.Option.{option_map, option_map_or}
use Rattle.std.specs.List.{filter_map}
use Rattle.zq_message.specs.declared.message.Zid.{Zid}
use Rattle.zq_strategy.specs.declared.network.Telling.{Telling}
use Rattle.zq_strategy.specs.Nets.{children_of}
use Rattle.zq_strategy.specs.Seating.{faces_by, number, other_seated, seated}
use Rattle.zq_strategy.specs.Tellings.{tree_telling}
use Rattle.zq_strategy.proofs.Sitting.{faces_are}
use Rattle.zq_routers.proofs.children.tell_children.Goals as goal

pub returns-in_ok-faces-in-Some : goal.returns-in_ok-faces-in-Some
returns-in_ok-faces-in-Some c =
    let from = option_map number c.args.from in
    let seats = c.args.seats.now in
    let children = children_of c.args.net.now c.args.root in
    let told = tree_telling c.args.key.now c.args.info in
    let ids = c.deref.ensures.value ∙ c.in_ok-ids-in-Some.ensures in
    let faces = ap (map number) (c.deref-in-Some.ensures.value ∙ c.in_ok-faces-in-Some.ensures ∙ ap (filter_map (other_seated from seats)) ids) ∙ faces_are from seats children in
    let placed = ap (λ (o : Option ℕ). option_map_or (λ node. map (told node) (faces_by from (λ (z : Zid). seated z seats) children)) o []) c.in-Some.ensures in
    subst (λ (l : List Telling). IfOk c.tell_faces.result (λ ts. ts ≡ l)) (ap (map (told c.in-Some.node)) faces ∙ placed) c.tell_faces.ensures
