use Rattle.std.proofs.Common.{◌≡◌, ◌∙◌, refl, sym, ap, subst, map, true, Some}
use Rattle.std.specs.List.{AllByRecursion}
use Rattle.std.specs.Prelude.{option_copied}
use Rattle.std.specs.Option.{is_some}
use Rattle.zq_tables.specs.Naming.{NamingState, change_naming, without_interest as letting_interest}
use Rattle.zq_interests.specs.declared.types.InterestEntry.{InterestEntry}
use Rattle.zq_interests.specs.Interests.{has_keyed, interest_at, own_keys, without_interest}
use Rattle.zq_told.specs.ToldSets.{told_keys}
use Rattle.zq_told.specs.Rooms.{ears_of}
use Rattle.zq_told.specs.Telling.{lacks_ids, put_plan, tell_faces}
use Rattle.zq_machine.specs.Deciding.{accepted}
use Rattle.zq_machine.specs.Neighbours.{ended_at}
use Rattle.zq_machine.specs.State.{Core, State, at, is_open}
use Rattle.zq_strategy.specs.Tellings.{in_order}
use Rattle.zq_machine.specs.declared.call.Outcome.TheVariants as outcome
use Rattle.zq_machine.specs.Messages.{from_hat}
use Rattle.zq_machine.specs.Writing.{Told, tell}
use Rattle.zq_machine.specs.TextCalls.{unhearing}
use Rattle.zq_machine.proofs.Asks.{is_asking}
use Rattle.zq_egress.specs.Gone.{IsTold}
use Rattle.zq_gateway.proofs.GoneOut.{each_told, goes_out, stays_out}
use Rattle.zq_dispatcher.specs.Asked.{AreInformed}
use Rattle.zq_told.specs.declared.types.Reason.TheVariants.{End}
use Rattle.zq_gateway.proofs.Asking.{ending_answered, ending_enough, ending_keys, ending_left, ending_settled, looked_last}
use Rattle.zq_gateway.proofs.Seated.{reached_informed}
use Rattle.zq_gateway.proofs.tables.Tables.unregister_interest.Goals as goal

pub dues_ended-requires : goal.dues_ended-requires
dues_ended-requires c =
    let s : State = c.args.self.now in
    let opens : is_open c.args.face.0 s.core ≡ true = ap is_some (sym c.in-Some.ensures.found) in
    subst (λ (x : State). AreInformed (told_keys c.args.face.0 x.core.ears) x.core.hats (own_keys c.args.face.0 x.core.interests)) (sym c.self.view_is) (reached_informed s c.requires c.args.face.0 opens)

pub tell_end-requires-clause-keys : goal.tell_end-requires-clause-keys
tell_end-requires-clause-keys c =
    let s : State = c.args.self.now in
    let i = c.self.inside in
    let v = c.self.view_is in
    let face = c.args.face in
    let id = c.args.id in
    let e = unhearing face id in
    let home : at face.0 s.core.faces ≡ Some c.in-Some.opened = sym c.in-Some.ensures.found in
    let opens : is_open face.0 s.core ≡ true = ap is_some home in
    let asked : InterestEntry = c.in-Some-get.entry.now in
    let held = ap (λ (x : State). x.core.interests) v in
    let there : interest_at face.0 id s.core.interests ≡ Some asked = ap (interest_at face.0 id) (sym held) ∙ sym c.get.ensures ∙ ap option_copied c.in-Some-get.is in
    let heard : ears_of i.ears ≡ s.core.ears = ap (λ (x : State). x.core.ears) v in
    let dues = c.as_slice.result.now in
    let are : dues ≡ looked_last s c.requires face id opens asked there =
    c.as_slice.ensures
    ∙ c.in_ok-dues.ensures (accepted s.core e) asked home (ap (λ (x : State). x.core.hats) v) (sym c.as_ref.ensures.value)
    ∙ (λ j. ended_at (accepted s.core e) (without_interest face.0 id (held j)) (heard j) face.0 asked) in
    ending_keys s c.requires face id opens asked there (ears_of i.ears) heard dues are

pub tell_end-requires-clause-free : goal.tell_end-requires-clause-free
tell_end-requires-clause-free c =
    let s : State = c.args.self.now in
    let i = c.self.inside in
    let v = c.self.view_is in
    let face = c.args.face in
    let id = c.args.id in
    let e = unhearing face id in
    let home : at face.0 s.core.faces ≡ Some c.in-Some.opened = sym c.in-Some.ensures.found in
    let opens : is_open face.0 s.core ≡ true = ap is_some home in
    let asked : InterestEntry = c.in-Some-get.entry.now in
    let held = ap (λ (x : State). x.core.interests) v in
    let there : interest_at face.0 id s.core.interests ≡ Some asked = ap (interest_at face.0 id) (sym held) ∙ sym c.get.ensures ∙ ap option_copied c.in-Some-get.is in
    let heard : ears_of i.ears ≡ s.core.ears = ap (λ (x : State). x.core.ears) v in
    let dues = c.as_slice.result.now in
    let are : dues ≡ looked_last s c.requires face id opens asked there =
    c.as_slice.ensures
    ∙ c.in_ok-dues.ensures (accepted s.core e) asked home (ap (λ (x : State). x.core.hats) v) (sym c.as_ref.ensures.value)
    ∙ (λ j. ended_at (accepted s.core e) (without_interest face.0 id (held j)) (heard j) face.0 asked) in
    (λ j. lacks_ids End (heard j) (are j)) ∙ ending_enough s c.requires face id opens asked there

pub let_told_out-requires : goal.let_told_out-requires
let_told_out-requires c =
    let s : State = c.args.self.now in
    let i = c.self.inside in
    let w : Core = record s.core { faces = i.faces.entries; interests = without_interest c.args.face.0 c.args.id i.interests } in
    let ts = map from_hat (in_order (tell_faces End (ears_of i.ears) c.as_slice.result.now).tellings) in
    subst (λ (x : Told). AllByRecursion IsTold x.handed) (c.in_ok-all.ensures.ok w refl (λ f k. refl)) (each_told w ts i.names)

pub returns-in-Ok : goal.returns-in-Ok
unfolding is_asking
returns-in-Ok c =
    let s : State = c.args.self.now in
    let i = c.self.inside in
    let v = c.self.view_is in
    let face = c.args.face in
    let id = c.args.id in
    let e = unhearing face id in
    let home : at face.0 s.core.faces ≡ Some c.in-Some.opened = sym c.in-Some.ensures.found in
    let opens : is_open face.0 s.core ≡ true = ap is_some home in
    let asked : InterestEntry = c.in-Some-get.entry.now in
    let held = ap (λ (x : State). x.core.interests) v in
    let there : interest_at face.0 id s.core.interests ≡ Some asked = ap (interest_at face.0 id) (sym held) ∙ sym c.get.ensures ∙ ap option_copied c.in-Some-get.is in
    let heard : ears_of i.ears ≡ s.core.ears = ap (λ (x : State). x.core.ears) v in
    let dues = c.as_slice.result.now in
    let are : dues ≡ looked_last s c.requires face id opens asked there =
    c.as_slice.ensures
    ∙ c.in_ok-dues.ensures (accepted s.core e) asked home (ap (λ (x : State). x.core.hats) v) (sym c.as_ref.ensures.value)
    ∙ (λ j. ended_at (accepted s.core e) (without_interest face.0 id (held j)) (heard j) face.0 asked) in
    let gone = c.end.ensures ∙ ap (without_interest face.0 id) held in
    let ts = map from_hat (in_order (tell_faces End (ears_of i.ears) dues).tellings) in
    let handed =
    ap (λ (n : NamingState). tell (accepted s.core e) ts n) (sym (ap (λ (x : State). x.names) v))
    ∙ c.in_ok-all.ensures.ok (accepted s.core e) (sym (ap (λ (x : State). x.core.faces) v)) (λ f k. ap (λ (x : State). has_keyed f k (without_interest face.0 id x.core.interests)) v) in
    let kept =
    c.done_telling.ensures.ears ∙ ap (put_plan c.in_ok-all.all.plan) c.tell_end.ensures.ears
    ∙ ending_left s c.requires face id opens asked there (ears_of i.ears) heard dues are c.in_ok-all.all.plan c.in_ok-all.ensures.plan in
    let l = c.in_ok-all.all.handed in
    let names = c.tell_end.new.names in
    let plain = ending_answered s c.requires face id opens asked there (ears_of i.ears) heard dues are l names handed in
    let stays = ending_settled s c.requires face id opens asked there (ears_of i.ears) heard dues are l names handed in
    let w : State = record { core = accepted s.core e; names = change_naming face.0 (letting_interest id) names; gates = s.gates } in
    let same = ap (λ (x : State). x.gates) v in
    let es = c.in-Ok.exits.items in
    let after = c.let_told_out.new.gates in
    let out = c.in-Ok.ensures.out in
    record {
      step = c.done_telling.ensures.step ∙ goes_out s e refl outcome.Done l w plain stays i.gates same es after out;
      after =
          (λ j. record {
            core = record { config = (v j).core.config; faces = (v j).core.faces; next_face = (v j).core.next_face; hats = (v j).core.hats; tables = (v j).core.tables; queries = (v j).core.queries; interests = gone j; ears = kept j };
            names = c.release_interest.ensures j;
            gates = c.done_telling.ensures.gates j;
          })
          ∙ sym (stays_out s e refl outcome.Done l w plain stays i.gates same es after out);
      err = tt;
    }
