use Rattle.std.proofs.Common.{◌≡◌, ◌∙◌, sym, ap, subst, List, [], map, drop, length, true}
use Rattle.std.specs.List.{All}
use Rattle.zq_key.specs.Key.{is_key}
use Rattle.zq_strategy.specs.declared.network.Telling.{Telling}
use Rattle.zq_strategy.specs.Tellings.{in_order}
use Rattle.zq_told.specs.declared.types.Reason.TheVariants.{Update}
use Rattle.zq_told.specs.ToldSets.{ToldSets}
use Rattle.zq_told.specs.Telling.{lacks_ids, tell_faces}
use Rattle.zq_machine.specs.Handing.{Handed}
use Rattle.zq_machine.specs.Messages.{from_hat}
use Rattle.zq_machine.specs.Writing.{tell}
use Rattle.zq_egress.specs.Neighbours.{told_with}
use Rattle.zq_egress.specs.Telling.{behind, untold}
use Rattle.std.specs.Ordering.{nat_cmp}
use Rattle.std.specs.BTreeMap.{is_at}
use Rattle.std.specs.Map.{remove_entry}
use Rattle.std.proofs.lemmas.Cmp.{nat_cmp_total}
use Rattle.std.proofs.lemmas.Map.Lookups.{exact_unsigned}
use Rattle.zq_query.proofs.Owing.{undone}
use Rattle.zq_tables.specs.Naming.{closed_naming}
use Rattle.zq_dispatcher.proofs.Opened.{closed_again}
use Rattle.zq_told.specs.ToldSets.{closed, opened}
use Rattle.zq_told.specs.Leaving.{fresh_ear}
use Rattle.zq_told.specs.Rooms.{ears_of}
use Rattle.zq_egress.proofs.opening.join_and_tell.Goals as goal

pub tell_all-requires : goal.tell_all-requires
tell_all-requires g c enough =
    let dues = c.args.dues.now in
    let kept = c.in-Ok.ensures.ears in
    let before : ToldSets = opened c.args.face.0 c.args.last (ears_of c.args.ears.now) in
    let same = ap (λ (e : ToldSets). told_with e dues c.new-told.result) kept ∙ ap (told_with before dues) c.new-told.ensures in
    subst (All (λ (t : Telling). is_key t.key ≡ true)) (sym same) (c.requires.keys (sym (ap (λ (e : ToldSets). lacks_ids Update e dues) kept) ∙ enough))

pub returns-in-Ok-tell_all-clause-ok : goal.returns-in-Ok-tell_all-clause-ok
returns-in-Ok-tell_all-clause-ok g c m same alike =
    let dues = c.args.dues.now in
    let kept = sym c.in-Ok.ensures.ears in
    let none = sym c.new-none.ensures in
    let empty = sym c.new-told.ensures in
    let names = sym c.in-Ok.ensures.names in
    (λ j. behind (none j) (tell m (map from_hat (in_order (told_with (kept j) dues (empty j)))) (names j))) ∙ c.in-Ok-tell_all.ensures.ok m (same ∙ sym c.in-Ok.ensures.faces) alike

pub returns-in-Ok-tell_all-clause-taken : goal.returns-in-Ok-tell_all-clause-taken
returns-in-Ok-tell_all-clause-taken g c =
    ap (λ (f : List Handed). untold (drop (length f) c.in-Ok-tell_all.told.handed) c.tell_all.new.names) (sym c.new-none.ensures) ∙ c.in-Ok-tell_all.ensures.back ∙ c.in-Ok.ensures.names

pub returns-in-Ok-tell_all-clause-plan : goal.returns-in-Ok-tell_all-clause-plan
returns-in-Ok-tell_all-clause-plan g c = c.in-Ok-tell_all.ensures.plan ∙ ap (λ (e : ToldSets). (tell_faces Update e c.args.dues.now).plan) c.in-Ok.ensures.ears

pub returns-in-Err-tell_all-clause-no_names : goal.returns-in-Err-tell_all-clause-no_names
returns-in-Err-tell_all-clause-no_names g c =
    c.leave.ensures.names ∙ ap (closed_naming c.args.face.0) (c.in-Err-tell_all.ensures.err ∙ c.in-Ok.ensures.names)
    ∙ closed_again c.args.face.0 c.args.names.now c.requires.named

pub returns-in-Err-tell_all-clause-no_faces : goal.returns-in-Err-tell_all-clause-no_faces
returns-in-Err-tell_all-clause-no_faces g c =
    c.leave.ensures.faces ∙ ap (remove_entry (is_at (nat_cmp c.args.face.0))) c.in-Ok.ensures.faces
    ∙ undone nat_cmp_total exact_unsigned c.args.faces.now.entries c.args.face.0 c.args.opened c.requires.absent

pub returns-in-Err-tell_all-clause-no_ears : goal.returns-in-Err-tell_all-clause-no_ears
returns-in-Err-tell_all-clause-no_ears g c =
    c.close.ensures.ears ∙ ap (closed c.args.face.0) (c.tell_all.ensures.ears ∙ c.in-Ok.ensures.ears)
    ∙ undone nat_cmp_total exact_unsigned (ears_of c.args.ears.now) c.args.face.0 (fresh_ear c.args.last) c.requires.unheard
