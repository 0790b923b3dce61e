use Rattle.std.proofs.Common.{◌≡◌, ◌∙◌, refl, sym, ap, subst, map, Option, Err}
use Rattle.std.specs.Prelude.{option_copied}
use Rattle.std.specs.List.{AllByRecursion}
use Rattle.zq_tables.specs.declared.resolved.Resolved.{Resolved}
use Rattle.zq_interests.specs.declared.types.InterestEntry.{InterestEntry}
use Rattle.zq_interests.specs.Interests.{has_keyed, with_interest}
use Rattle.zq_told.specs.Rooms.{ears_of}
use Rattle.zq_told.specs.declared.types.Reason.TheVariants.{Answer}
use Rattle.zq_told.specs.Telling.{put_plan, tell_faces}
use Rattle.zq_strategy.specs.Tellings.{in_order}
use Rattle.zq_machine.specs.declared.call.Refusal.TheVariants as refusal
use Rattle.zq_machine.specs.Deciding.{accepted}
use Rattle.zq_machine.specs.Selecting.{Manner}
use Rattle.zq_machine.specs.declared.call.Outcome.TheVariants as outcome
use Rattle.zq_machine.specs.Messages.{answered_by, from_hat}
use Rattle.zq_machine.specs.Writing.{Told}
use Rattle.zq_machine.specs.State.{Core, State}
use Rattle.zq_machine.specs.TextCalls.{hearing}
use Rattle.zq_egress.specs.Neighbours.{asked_back, asking}
use Rattle.zq_egress.proofs.Held.{asked_out}
use Rattle.zq_gateway.specs.Asking.{interest_looks, manner_of, said_by}
use Rattle.zq_gateway.proofs.Asking.{asked_answered, asked_keys, asked_lacks, asked_left, asked_settled, key_again}
use Rattle.zq_gateway.proofs.Due.{only_fits, only_lacks, refused_answered, refused_left}
use Rattle.zq_gateway.proofs.GoneOut.{each_told, goes_out, stays_out}
use Rattle.zq_egress.specs.Gone.{IsTold}
use Rattle.zq_machine.proofs.Asks.{is_asking}
use Rattle.zq_gateway.proofs.tables.Tables.answer_interest.Goals as goal

pub hold_and_answer-requires : goal.hold_and_answer-requires
hold_and_answer-requires c enough =
    let s : State = c.args.self.now in
    let i = c.self.inside in
    let v = c.self.view_is in
    let face = c.args.face in
    let id = c.args.id in
    let entry : InterestEntry = c.args.entry in
    let m : Manner = manner_of entry in
    let sd : Option Resolved = said_by entry in
    let t = hearing face id m sd in
    let dues = c.as_slice.result.now in
    let are : dues ≡ interest_looks s.core face id m sd = c.as_slice.ensures ∙ c.requires.dues in
    let heard : ears_of i.ears ≡ s.core.ears = ap (λ (x : State). x.core.ears) v in
    let lacks = asked_lacks s c.requires.reached face id m sd (ears_of i.ears) heard dues are in
    asked_keys s c.requires.reached face id m sd (ears_of i.ears) heard dues are (only_fits s.core t c.requires.ids (sym lacks ∙ enough))

pub returns-in-Err-NoFreeId : goal.returns-in-Err-NoFreeId
returns-in-Err-NoFreeId c =
    let s : State = c.args.self.now in
    let i = c.self.inside in
    let v = c.self.view_is in
    let face = c.args.face in
    let id = c.args.id in
    let entry : InterestEntry = c.args.entry in
    let m : Manner = manner_of entry in
    let sd : Option Resolved = said_by entry in
    let t = hearing face id m sd in
    let dues = c.as_slice.result.now in
    let are : dues ≡ interest_looks s.core face id m sd = c.as_slice.ensures ∙ c.requires.dues in
    let heard : ears_of i.ears ≡ s.core.ears = ap (λ (x : State). x.core.ears) v in
    let lacks = asked_lacks s c.requires.reached face id m sd (ears_of i.ears) heard dues are in
    let e = only_lacks s.core t c.requires.ids (sym lacks ∙ c.in-Err-NoFreeId.ensures.no_free (ap (λ e. Err e) c.in-Err-NoFreeId.field-0-is)) in
    let names_back = c.in-Err-NoFreeId.ensures.err ∙ ap (λ (x : State). x.names) v in
    let ears_back = c.hold_and_answer.ensures.ears ∙ heard in
    record {
      step = c.refused.ensures ∙ refused_answered s t refusal.NoFreeId e;
      after =
          (λ j. record {
            core = record { config = (v j).core.config; faces = (v j).core.faces; next_face = (v j).core.next_face; hats = (v j).core.hats; tables = (v j).core.tables; queries = (v j).core.queries; interests = (v j).core.interests; ears = ears_back j };
            names = names_back j;
            gates = (v j).gates;
          })
          ∙ sym (refused_left s t refusal.NoFreeId e);
      err = tt;
    }

pub ask_told-requires : goal.ask_told-requires
ask_told-requires c =
    let s : State = c.args.self.now in
    let i = c.self.inside in
    let face = c.args.face in
    let id = c.args.id in
    let w : Core = record s.core { faces = i.faces.entries; interests = with_interest face.0 id c.args.entry i.interests } in
    let ts = answered_by face id (map from_hat (in_order (tell_faces Answer (ears_of i.ears) c.as_slice.result.now).tellings)) in
    subst (λ (x : Told). AllByRecursion IsTold x.handed) (c.in-Ok.ensures.ok w refl (λ f k. refl))
    (each_told w ts (asking face.0 id (option_copied c.as_ref-held.result) i.names))

pub returns-in-Ok-ask_told : goal.returns-in-Ok-ask_told
unfolding is_asking
returns-in-Ok-ask_told c =
    let s : State = c.args.self.now in
    let i = c.self.inside in
    let v = c.self.view_is in
    let face = c.args.face in
    let id = c.args.id in
    let entry : InterestEntry = c.args.entry in
    let m : Manner = manner_of entry in
    let sd : Option Resolved = said_by entry in
    let t = hearing face id m sd in
    let dues = c.as_slice.result.now in
    let are : dues ≡ interest_looks s.core face id m sd = c.as_slice.ensures ∙ c.requires.dues in
    let heard : ears_of i.ears ≡ s.core.ears = ap (λ (x : State). x.core.ears) v in
    let lacks = asked_lacks s c.requires.reached face id m sd (ears_of i.ears) heard dues are in
    let is = key_again entry.key in
    let held = ap (λ (x : State). x.core.interests) v in
    let fits = only_fits s.core t c.requires.ids (sym lacks ∙ c.in-Ok.ensures.free) in
    let all = c.in-Ok.all in
    let names = ap (λ (x : State). x.names) v in
    let told =
    c.in-Ok.ensures.ok (accepted s.core t) (sym (ap (λ (x : State). x.core.faces) v))
    (λ f k. λ j. has_keyed f k (with_interest face.0 id (record { key = is j; keys = entry.keys; aggregate = entry.aggregate }) (held j))) in
    let more = c.in-Ok-ask_told.ensures.ok ∙ (λ j. with_interest face.0 id (record { key = is j; keys = entry.keys; aggregate = entry.aggregate }) (held j)) in
    let kept =
    c.done_telling.ensures.ears ∙ ap (put_plan all.plan) c.hold_and_answer.ensures.ears
    ∙ asked_left s c.requires.reached face id m sd (ears_of i.ears) heard dues are all.plan c.in-Ok.ensures.plan in
    let its_key = c.as_ref-held.ensures.value ∙ is in
    let held_by = option_copied c.as_ref-held.result in
    let plain = asked_answered s c.requires.reached face id m sd (ears_of i.ears) heard dues are fits i.names names held_by its_key all.handed c.hold_and_answer.new.names told in
    let stays = asked_settled s c.requires.reached face id m sd (ears_of i.ears) heard dues are fits i.names names held_by its_key all.handed c.hold_and_answer.new.names told in
    let w : State = record { core = accepted s.core t; names = c.hold_and_answer.new.names; gates = s.gates } in
    let same = ap (λ (x : State). x.gates) v in
    let es = c.in-Ok-ask_told.exits.items in
    let after = c.ask_told.new.gates in
    let out = c.in-Ok-ask_told.ensures.out in
    record {
      step = c.done_telling.ensures.step ∙ goes_out s t refl outcome.Done all.handed w plain stays i.gates same es after out;
      after =
          (λ j. record {
            core = record { config = (v j).core.config; faces = (v j).core.faces; next_face = (v j).core.next_face; hats = (v j).core.hats; tables = (v j).core.tables; queries = (v j).core.queries; interests = more j; ears = kept j };
            names = c.hold_and_answer.new.names;
            gates = c.done_telling.ensures.gates j;
          })
          ∙ sym (stays_out s t refl outcome.Done all.handed w plain stays i.gates same es after out);
      err = tt;
    }

pub returns : goal.returns
returns c =
    let s : State = c.args.self.now in
    let i = c.self.inside in
    let v = c.self.view_is in
    let face = c.args.face in
    let id = c.args.id in
    let names = ap (λ (x : State). x.names) v in
    let held_by = option_copied c.as_ref-held.result in
    let fresh = c.is_fresh-fresh.result in
    let back =
    c.take_back_answered.ensures.names
    ∙ ap (asked_back face.0 id fresh) (c.in-Ok.ensures.back ∙ ap (asking face.0 id held_by) names)
    ∙ asked_out face.0 id held_by fresh s.names c.is_fresh-fresh.ensures in
    let held = c.in-Err.ensures.no_interests ∙ ap (λ (x : State). x.core.interests) v in
    let gates_back = c.in-Err.ensures.no_gates ∙ ap (λ (x : State). x.gates) v in
    let kept = c.take_back_answered.ensures.ears ∙ c.hold_and_answer.ensures.ears ∙ ap (λ (x : State). x.core.ears) v in
    record {
      step = tt;
      after = tt;
      err = λ j. record {
        core = record { config = (v j).core.config; faces = (v j).core.faces; next_face = (v j).core.next_face; hats = (v j).core.hats; tables = (v j).core.tables; queries = (v j).core.queries; interests = held j; ears = kept j };
        names = back j;
        gates = gates_back j;
      };
    }
