use Rattle.std.proofs.Common.{◌∙◌, refl, sym, ap, subst, Err, List, map, true≢false}
use Rattle.std.specs.List.{AllByRecursion}
use Rattle.zq_strategy.specs.Tellings.{in_order}
use Rattle.zq_strategy.specs.Kept.{unregistered}
use Rattle.zq_tables.specs.Naming.{NamingState, change_naming, without_queryable}
use Rattle.zq_interests.specs.Interests.{has_keyed}
use Rattle.zq_told.specs.Rooms.{ears_of}
use Rattle.zq_told.specs.Telling.{put_plan}
use Rattle.zq_machine.specs.Deciding.{accepted}
use Rattle.zq_machine.specs.Handing.{Handed}
use Rattle.zq_machine.specs.declared.call.Outcome.TheVariants as outcome
use Rattle.zq_machine.specs.Messages.{from_hat}
use Rattle.zq_machine.specs.State.{Core, State, change_hat}
use Rattle.zq_machine.specs.TextCalls.{withdrawing}
use Rattle.zq_machine.specs.Writing.{Told, tell}
use Rattle.zq_machine.proofs.Asks.{is_asking}
use Rattle.zq_egress.specs.Gone.{IsTold}
use Rattle.zq_egress.specs.Neighbours.{told_with}
use Rattle.zq_egress.specs.Telling.{behind}
use Rattle.zq_dispatcher.specs.Seats.{seats}
use Rattle.zq_gateway.specs.Gathering.{Gathers}
use Rattle.zq_gateway.proofs.Due.{changed_home, due_of_keys, gathered_due, gathered_lacks, gathered_left, withdrawn_answered, withdrawn_left}
use Rattle.zq_gateway.proofs.GoneOut.{each_told, goes_out, stays_out}
use Rattle.zq_gateway.proofs.Reached.{reached_enough, reached_seated}
use Rattle.zq_gateway.proofs.tables.Tables.remove_queryable.Goals as goal

pub tell_all-requires : goal.tell_all-requires
tell_all-requires c enough =
    let s : State = c.args.self.now in
    let i = c.self.inside in
    let v = c.self.view_is in
    let found = c.requires.found in
    let t = withdrawing c.args.face c.args.id in
    let told = c.args.found.told in
    let dues = c.as_slice.result.now in
    let g : Gathers s.core t (ears_of i.ears) dues told = record { is_kept = ap (λ (x : State). x.core.ears) v ∙ found.is_kept; is_looked = c.as_slice.ensures ∙ found.is_looked; is_told = found.is_told } in
    due_of_keys s c.requires.reached t refl c.requires.fits (told_with (ears_of i.ears) dues told) (gathered_due s.core t refl (ears_of i.ears) dues told g)

pub unreachable-requires : goal.unreachable-requires
unreachable-requires c =
    let s : State = c.args.self.now in
    let i = c.self.inside in
    let v = c.self.view_is in
    let found = c.requires.found in
    let t = withdrawing c.args.face c.args.id in
    let told = c.args.found.told in
    let dues = c.as_slice.result.now in
    let g : Gathers s.core t (ears_of i.ears) dues told = record { is_kept = ap (λ (x : State). x.core.ears) v ∙ found.is_kept; is_looked = c.as_slice.ensures ∙ found.is_looked; is_told = found.is_told } in
    let lacks = sym (gathered_lacks s.core t refl (ears_of i.ears) dues told g) ∙ c.in-Err-NoFreeId.ensures.no_free (ap (λ e. Err e) c.in-Err-NoFreeId.field-0-is) in
    true≢false (sym lacks ∙ reached_enough s c.requires.reached t c.requires.fits refl refl)

pub withdraw_told-requires-clause-told : goal.withdraw_told-requires-clause-told
withdraw_told-requires-clause-told c =
    let s : State = c.args.self.now in
    let i = c.self.inside in
    let w : Core = record s.core { faces = i.faces.entries; interests = i.interests } in
    let ts = told_with (ears_of i.ears) c.as_slice.result.now c.args.found.told in
    subst (λ (x : Told). AllByRecursion IsTold x.handed)
    (ap (λ (f : List Handed). behind f (tell w (map from_hat (in_order ts)) i.names)) (sym c.new-none.ensures) ∙ c.in-Ok.ensures.ok w refl (λ f k. refl))
    (each_told w (map from_hat (in_order ts)) i.names)

pub withdraw_told-requires-clause-seated : goal.withdraw_told-requires-clause-seated
withdraw_told-requires-clause-seated c =
    let s : State = c.args.self.now in
    ap (seats c.args.region c.args.face.0) (ap (λ (x : State). x.core.hats) c.self.view_is) ∙ reached_seated s c.args.face.0 c.args.region c.requires.reached c.requires.home

pub returns-in-Ok-withdraw_told : goal.returns-in-Ok-withdraw_told
unfolding is_asking
returns-in-Ok-withdraw_told c =
    let s : State = c.args.self.now in
    let i = c.self.inside in
    let v = c.self.view_is in
    let face = c.args.face in
    let id = c.args.id in
    let r = c.args.region in
    let found = c.requires.found in
    let t = withdrawing face id in
    let told = c.args.found.told in
    let dues = c.as_slice.result.now in
    let g : Gathers s.core t (ears_of i.ears) dues told = record { is_kept = ap (λ (x : State). x.core.ears) v ∙ found.is_kept; is_looked = c.as_slice.ensures ∙ found.is_looked; is_told = found.is_told } in
    let fits = c.requires.fits in
    let ts = told_with (ears_of i.ears) dues told in
    let are = gathered_due s.core t refl (ears_of i.ears) dues told g in
    let all = c.in-Ok.all in
    let handed =
    ap (λ (f : List Handed). behind f (tell s.core (map from_hat (in_order ts)) s.names)) (sym c.new-none.ensures)
    ∙ ap (λ (n : NamingState). behind c.new-none.result (tell s.core (map from_hat (in_order ts)) n)) (sym (ap (λ (x : State). x.names) v))
    ∙ c.in-Ok.ensures.ok s.core (sym (ap (λ (x : State). x.core.faces) v)) (λ f k. ap (λ (x : State). has_keyed f k x.core.interests) v) in
    let left = c.in-Ok-withdraw_told.ensures.ok ∙ ap (change_hat r (unregistered face.0 id)) (ap (λ (x : State). x.core.hats) v) ∙ sym (changed_home face.0 r s.core c.requires.home (unregistered face.0 id)) in
    let kept = c.done_telling.ensures.ears ∙ ap (put_plan all.plan) c.tell_all.ensures.ears ∙ gathered_left s.core t refl (ears_of i.ears) dues told g all.plan c.in-Ok.ensures.plan in
    let plain = withdrawn_answered s c.requires.reached face id fits ts are all.handed c.tell_all.new.names handed in
    let stays = withdrawn_left s c.requires.reached face id fits ts are all.handed c.tell_all.new.names handed in
    let w : State = record { core = accepted s.core t; names = change_naming face.0 (without_queryable id) c.tell_all.new.names; gates = s.gates } in
    let same = ap (λ (x : State). x.gates) v in
    let es = c.in-Ok-withdraw_told.exits.items in
    let after = c.withdraw_told.new.gates in
    let out = c.in-Ok-withdraw_told.ensures.out in
    record {
      step = c.done_telling.ensures.step ∙ goes_out s t refl outcome.Done all.handed w plain stays i.gates same es after out;
      after =
          (λ j. record {
            core = record { config = (v j).core.config; faces = (v j).core.faces; next_face = (v j).core.next_face; hats = left j; tables = (v j).core.tables; queries = (v j).core.queries; interests = (v j).core.interests; ears = kept j };
            names = c.release_queryable.ensures j;
            gates = c.done_telling.ensures.gates j;
          })
          ∙ sym (stays_out s t refl outcome.Done all.handed w plain stays i.gates same es after out);
      err = tt;
    }
