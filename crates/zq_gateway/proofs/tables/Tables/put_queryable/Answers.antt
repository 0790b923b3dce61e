use Rattle.std.proofs.Common.{◌∙◌, refl, sym, ap, Err, subst, [], map}
use Rattle.std.specs.List.{AllByRecursion}
use Rattle.zq_strategy.specs.Tellings.{in_order}
use Rattle.zq_strategy.specs.Kept.{registered}
use Rattle.zq_tables.specs.Naming.{NamingState, change_naming, with_queryable}
use Rattle.zq_tables.specs.declared.resolved.Resolved.TheVariants as said
use Rattle.zq_interests.specs.Interests.{has_keyed}
use Rattle.zq_told.specs.Rooms.{ears_of}
use Rattle.zq_told.specs.Telling.{put_plan}
use Rattle.zq_machine.specs.declared.call.Refusal.TheVariants as refusal
use Rattle.zq_machine.specs.Deciding.{accepted}
use Rattle.zq_machine.specs.declared.call.Outcome.TheVariants as outcome
use Rattle.zq_machine.specs.Messages.{from_hat}
use Rattle.zq_machine.specs.State.{Core, State, change_hat}
use Rattle.zq_machine.specs.TextCalls.{declaring}
use Rattle.zq_machine.specs.Writing.{Told, tell}
use Rattle.zq_machine.proofs.Asks.{is_asking}
use Rattle.zq_egress.specs.Gone.{IsTold}
use Rattle.zq_egress.specs.Neighbours.{told_with}
use Rattle.zq_egress.specs.Telling.{behind}
use Rattle.zq_dispatcher.specs.Seats.{seats}
use Rattle.zq_gateway.specs.Gathering.{Gathers}
use Rattle.zq_gateway.proofs.Due.{changed_home, due_of_keys, gathered_due, gathered_lacks, gathered_left, only_fits, only_lacks, refused_answered, refused_left, told_answered, told_left}
use Rattle.zq_gateway.proofs.GoneOut.{each_told, goes_out, stays_out}
use Rattle.zq_gateway.proofs.Reached.{reached_seated}
use Rattle.zq_gateway.proofs.tables.Tables.put_queryable.Goals as goal

pub hold_and_tell-requires-clause-keys : goal.hold_and_tell-requires-clause-keys
hold_and_tell-requires-clause-keys c enough =
    let s : State = c.args.self.now in
    let i = c.self.inside in
    let found = c.requires.found in
    let t = declaring c.args.face c.args.id (said.Full c.args.key.now) c.args.info c.args.node in
    let told = c.args.found.told in
    let dues = c.as_slice.result.now in
    let g : Gathers s.core t (ears_of i.ears) dues told = record { is_kept = ap (λ (x : State). x.core.ears) c.self.view_is ∙ found.is_kept; is_looked = c.as_slice.ensures ∙ found.is_looked; is_told = found.is_told } in
    let fits = only_fits s.core t c.requires.ids (sym (gathered_lacks s.core t refl (ears_of i.ears) dues told g) ∙ enough) in
    due_of_keys s c.requires.reached t refl fits (told_with (ears_of i.ears) dues told) (gathered_due s.core t refl (ears_of i.ears) dues told g)

pub returns-in-Err-NoFreeId : goal.returns-in-Err-NoFreeId
returns-in-Err-NoFreeId c =
    let s : State = c.args.self.now in
    let i = c.self.inside in
    let v = c.self.view_is in
    let found = c.requires.found in
    let t = declaring c.args.face c.args.id (said.Full c.args.key.now) c.args.info c.args.node in
    let told = c.args.found.told in
    let dues = c.as_slice.result.now in
    let g : Gathers s.core t (ears_of i.ears) dues told = record { is_kept = ap (λ (x : State). x.core.ears) v ∙ found.is_kept; is_looked = c.as_slice.ensures ∙ found.is_looked; is_told = found.is_told } in
    let e = only_lacks s.core t c.requires.ids (sym (gathered_lacks s.core t refl (ears_of i.ears) dues told g) ∙ c.in-Err-NoFreeId.ensures.no_free (ap (λ e. Err e) c.in-Err-NoFreeId.field-0-is)) in
    let names_back = c.in-Err-NoFreeId.ensures.err ∙ ap (λ (x : State). x.names) v in
    let ears_back = c.hold_and_tell.ensures.ears ∙ ap (λ (x : State). x.core.ears) v in
    record {
      step = c.refused.ensures ∙ refused_answered s t refusal.NoFreeId e;
      after =
          (λ j. record {
            core = record { config = (v j).core.config; faces = (v j).core.faces; next_face = (v j).core.next_face; hats = (v j).core.hats; tables = (v j).core.tables; queries = (v j).core.queries; interests = (v j).core.interests; ears = ears_back j };
            names = names_back j;
            gates = (v j).gates;
          })
          ∙ sym (refused_left s t refusal.NoFreeId e);
      err = tt;
    }

pub register_told-requires-clause-told : goal.register_told-requires-clause-told
register_told-requires-clause-told c =
    let s : State = c.args.self.now in
    let i = c.self.inside in
    let w : Core = record s.core { faces = i.faces.entries; interests = i.interests } in
    let ts = told_with (ears_of i.ears) c.as_slice.result.now c.args.found.told in
    subst (λ (x : Told). AllByRecursion IsTold x.handed) (c.in-Ok.ensures.ok w refl (λ f k. refl))
    (each_told w (map from_hat (in_order ts)) (change_naming c.args.face.0 (with_queryable c.args.id c.args.key.now) i.names))

pub register_told-requires-clause-seated : goal.register_told-requires-clause-seated
register_told-requires-clause-seated c =
    let s : State = c.args.self.now in
    ap (seats c.args.region c.args.face.0) (ap (λ (x : State). x.core.hats) c.self.view_is) ∙ reached_seated s c.args.face.0 c.args.region c.requires.reached c.requires.home

pub returns-in-Ok-register_told : goal.returns-in-Ok-register_told
unfolding is_asking
returns-in-Ok-register_told c =
    let s : State = c.args.self.now in
    let i = c.self.inside in
    let v = c.self.view_is in
    let face = c.args.face in
    let id = c.args.id in
    let key = c.args.key.now in
    let info = c.args.info in
    let node = c.args.node in
    let r = c.args.region in
    let found = c.requires.found in
    let t = declaring face id (said.Full key) info node in
    let told = c.args.found.told in
    let dues = c.as_slice.result.now in
    let g : Gathers s.core t (ears_of i.ears) dues told = record { is_kept = ap (λ (x : State). x.core.ears) v ∙ found.is_kept; is_looked = c.as_slice.ensures ∙ found.is_looked; is_told = found.is_told } in
    let fits = only_fits s.core t c.requires.ids (sym (gathered_lacks s.core t refl (ears_of i.ears) dues told g) ∙ c.in-Ok.ensures.free) in
    let ts = told_with (ears_of i.ears) dues told in
    let are = gathered_due s.core t refl (ears_of i.ears) dues told g in
    let all = c.in-Ok.all.told in
    let handed =
    ap (λ (n : NamingState). behind [] (tell (accepted s.core t) (map from_hat (in_order ts)) (change_naming face.0 (with_queryable id key) n))) (sym (ap (λ (x : State). x.names) v))
    ∙ c.in-Ok.ensures.ok (accepted s.core t) (sym (ap (λ (x : State). x.core.faces) v)) (λ f k. ap (λ (x : State). has_keyed f k x.core.interests) v) in
    let left = c.in-Ok-register_told.ensures.ok ∙ ap (change_hat r (registered face.0 id key node info)) (ap (λ (x : State). x.core.hats) v) ∙ sym (changed_home face.0 r s.core c.requires.home (registered face.0 id key node info)) in
    let kept = c.done_telling.ensures.ears ∙ ap (put_plan all.plan) c.hold_and_tell.ensures.ears ∙ gathered_left s.core t refl (ears_of i.ears) dues told g all.plan c.in-Ok.ensures.plan in
    let plain = told_answered s c.requires.reached t refl fits ts are all.handed c.hold_and_tell.new.names handed refl in
    let stays = told_left s c.requires.reached t refl fits ts are all.handed c.hold_and_tell.new.names handed in
    let w : State = record { core = accepted s.core t; names = c.hold_and_tell.new.names; gates = s.gates } in
    let same = ap (λ (x : State). x.gates) v in
    let es = c.in-Ok-register_told.exits.items in
    let after = c.register_told.new.gates in
    let out = c.in-Ok-register_told.ensures.out in
    record {
      step = c.done_telling.ensures.step ∙ goes_out s t refl outcome.Done all.handed w plain stays i.gates same es after out;
      after =
          (λ j. record {
            core = record { config = (v j).core.config; faces = (v j).core.faces; next_face = (v j).core.next_face; hats = left j; tables = (v j).core.tables; queries = (v j).core.queries; interests = (v j).core.interests; ears = kept j };
            names = c.hold_and_tell.new.names;
            gates = c.done_telling.ensures.gates j;
          })
          ∙ sym (stays_out s t refl outcome.Done all.handed w plain stays i.gates same es after out);
      err = tt;
    }

pub returns : goal.returns
returns c =
    let v = c.self.view_is in
    let back = c.take_back_held.ensures.names ∙ c.in-Ok.ensures.back ∙ ap (λ (x : State). x.names) v in
    let left = c.in-Err.ensures.no_hats ∙ ap (λ (x : State). x.core.hats) v in
    let gates_back = c.in-Err.ensures.no_gates ∙ ap (λ (x : State). x.gates) v in
    let kept = c.take_back_held.ensures.ears ∙ c.hold_and_tell.ensures.ears ∙ ap (λ (x : State). x.core.ears) v in
    record {
      step = tt;
      after = tt;
      err = λ j. record {
        core = record { config = (v j).core.config; faces = (v j).core.faces; next_face = (v j).core.next_face; hats = left j; tables = (v j).core.tables; queries = (v j).core.queries; interests = (v j).core.interests; ears = kept j };
        names = back j;
        gates = gates_back j;
      };
    }
