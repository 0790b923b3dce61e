use Rattle.std.proofs.Common.{◌≡◌, ◌∙◌, refl, sym, ap, Err, subst, List, [], drop, fold, length, map, Some, true≢false}
use Rattle.std.specs.List.{AllByRecursion}
use Rattle.std.specs.Option.{is_some}
use Rattle.zq_message.specs.declared.message.Zid.{Zid}
use Rattle.zq_strategy.specs.Entries.{without_routers}
use Rattle.zq_strategy.specs.Tellings.{in_order}
use Rattle.zq_strategy.specs.Routers.{losing, networked}
use Rattle.zq_strategy.specs.State.{HatState}
use Rattle.zq_tables.specs.Naming.{NamingState}
use Rattle.zq_interests.specs.Interests.{has_keyed}
use Rattle.zq_told.specs.Rooms.{ears_of}
use Rattle.zq_told.specs.Telling.{put_plan}
use Rattle.zq_machine.specs.Deciding.{accepted, renamed}
use Rattle.zq_machine.specs.Handing.{Handed}
use Rattle.zq_machine.specs.declared.call.Outcome.TheVariants as outcome
use Rattle.zq_machine.specs.Messages.{from_hat}
use Rattle.zq_machine.specs.State.{Core, State, change_hat, has_hat, hat_at}
use Rattle.zq_machine.specs.TextCalls.{networking}
use Rattle.zq_machine.specs.Writing.{Told, tell}
use Rattle.zq_egress.specs.Neighbours.{told_with}
use Rattle.zq_egress.specs.Telling.{behind, untold}
use Rattle.zq_machine.proofs.Agreeing.{some_of}
use Rattle.zq_machine.proofs.Asks.{is_asking}
use Rattle.zq_machine.proofs.Changing.{hat_here}
use Rattle.zq_egress.specs.Gone.{IsTold}
use Rattle.zq_gateway.specs.Entries.{without_gone}
use Rattle.zq_gateway.specs.Gathering.{Gathers}
use Rattle.zq_gateway.proofs.EntryKeys.{network_renamed, told_then_gone}
use Rattle.zq_gateway.proofs.Due.{due_of_keys, gathered_due, gathered_lacks, gathered_left, told_answered, told_left}
use Rattle.zq_gateway.proofs.Networked.{network_fits}
use Rattle.zq_gateway.proofs.Reached.{reached_enough}
use Rattle.zq_gateway.proofs.GoneOut.{each_told, goes_out, stays_out}
use Rattle.zq_gateway.proofs.tables.Tables.put_network.Goals as goal

pub tell_all-requires : goal.tell_all-requires
tell_all-requires c enough =
    let s : State = c.args.self.now in
    let i = c.self.inside in
    let v = c.self.view_is in
    let r = c.args.region in
    let found = c.requires.found in
    let t = networking r c.args.net in
    let fits = network_fits s r c.args.net c.requires.there in
    let told = c.args.found.told in
    let dues = c.as_slice.result.now in
    let g : Gathers s.core t (ears_of i.ears) dues told = record { is_kept = ap (λ (x : State). x.core.ears) v ∙ found.is_kept; is_looked = c.as_slice.ensures ∙ found.is_looked; is_told = found.is_told } in
    due_of_keys s c.requires.reached t refl fits (told_with (ears_of i.ears) dues told) (gathered_due s.core t refl (ears_of i.ears) dues told g)

pub unreachable-requires : goal.unreachable-requires
unreachable-requires c =
    let s : State = c.args.self.now in
    let i = c.self.inside in
    let v = c.self.view_is in
    let r = c.args.region in
    let found = c.requires.found in
    let t = networking r c.args.net in
    let fits = network_fits s r c.args.net c.requires.there in
    let told = c.args.found.told in
    let dues = c.as_slice.result.now in
    let g : Gathers s.core t (ears_of i.ears) dues told = record { is_kept = ap (λ (x : State). x.core.ears) v ∙ found.is_kept; is_looked = c.as_slice.ensures ∙ found.is_looked; is_told = found.is_told } in
    let lacks = sym (gathered_lacks s.core t refl (ears_of i.ears) dues told g) ∙ c.in-Err-NoFreeId.ensures.no_free (ap (λ e. Err e) c.in-Err-NoFreeId.field-0-is) in
    true≢false (sym lacks ∙ reached_enough s c.requires.reached t fits refl refl)

pub let_told_out-requires : goal.let_told_out-requires
let_told_out-requires c =
    let s : State = c.args.self.now in
    let i = c.self.inside in
    let w : Core = record s.core { faces = i.faces.entries; interests = i.interests } in
    let ts = told_with (ears_of i.ears) c.as_slice.result.now c.args.found.told in
    subst (λ (x : Told). AllByRecursion IsTold x.handed)
    (ap (λ (f : List Handed). behind f (tell w (map from_hat (in_order ts)) i.names)) (sym c.new-none.ensures) ∙ c.in-Ok.ensures.ok w refl (λ f k. refl))
    (each_told w (map from_hat (in_order ts)) i.names)

pub put_network-requires-clause-there : goal.put_network-requires-clause-there
put_network-requires-clause-there c = ap (λ (x : State). has_hat c.args.region x.core) c.self.view_is ∙ c.requires.there

pub put_network-requires-clause-gone : goal.put_network-requires-clause-gone
put_network-requires-clause-gone c h there =
    let same : c.self.inside.hats ≡ c.args.self.now.core.hats = ap (λ (x : State). x.core.hats) c.self.view_is in
    ap (λ (ids : List Zid). without_routers ids h.entries) c.as_slice-in-Ok-let_told_out.ensures ∙ c.requires.gone h (ap (hat_at c.args.region) (sym same) ∙ there)

pub release_each-requires : goal.release_each-requires
release_each-requires c =
    let s : State = c.args.self.now in
    let r = c.args.region in
    let there : (h : HatState) × (hat_at r s.core.hats ≡ Some h) = some_of (hat_at r s.core.hats) c.requires.there in
    let left = c.put_network.ensures ∙ ap (change_hat r (networked c.args.net)) (ap (λ (x : State). x.core.hats) c.self.view_is) in
    ap (λ x. is_some (hat_at r x)) left ∙ ap is_some (hat_here r there.0 (networked c.args.net) s.core.hats there.1)

pub returns-in-Ok-let_told_out : goal.returns-in-Ok-let_told_out
unfolding is_asking
returns-in-Ok-let_told_out c =
    let s : State = c.args.self.now in
    let i = c.self.inside in
    let v = c.self.view_is in
    let r = c.args.region in
    let found = c.requires.found in
    let t = networking r c.args.net in
    let fits = network_fits s r c.args.net c.requires.there in
    let told = c.args.found.told in
    let dues = c.as_slice.result.now in
    let g : Gathers s.core t (ears_of i.ears) dues told = record { is_kept = ap (λ (x : State). x.core.ears) v ∙ found.is_kept; is_looked = c.as_slice.ensures ∙ found.is_looked; is_told = found.is_told } in
    let ts = told_with (ears_of i.ears) dues told in
    let are = gathered_due s.core t refl (ears_of i.ears) dues told g in
    let last = c.in-Ok.all in
    let first =
    ap (λ (f : List Handed). behind f (tell (accepted s.core t) (map from_hat (in_order ts)) s.names)) (sym c.new-none.ensures)
    ∙ ap (λ (n : NamingState). behind c.new-none.result (tell (accepted s.core t) (map from_hat (in_order ts)) n)) (sym (ap (λ (x : State). x.names) v))
    ∙ c.in-Ok.ensures.ok (accepted s.core t) (sym (ap (λ (x : State). x.core.faces) v)) (λ f k. ap (λ (x : State). has_keyed f k x.core.interests) v) in
    let left = c.put_network.ensures ∙ ap (change_hat r (networked c.args.net)) (ap (λ (x : State). x.core.hats) v) in
    let there : (h : HatState) × (hat_at r s.core.hats ≡ Some h) = some_of (hat_at r s.core.hats) c.requires.there in
    let changes = change_hat r (networked c.args.net) s.core.hats in
    let keys = losing c.args.net there.0 in
    let gone = c.release_each.ensures ∙ (λ j. fold (without_gone r (left j)) c.tell_all.new.names ((c.as_slice-in-Ok-let_told_out-2.ensures ∙ c.requires.keys there.0 there.1) j)) in
    let handed =
    told_then_gone (accepted s.core t) (map from_hat (in_order ts)) r changes [] last.handed keys s.names c.tell_all.new.names c.release_each.new.names (renamed s t) first gone
    (network_renamed s c.requires.reached r there.0 there.1 changes c.args.net refl) in
    let kept = c.done_telling.ensures.ears ∙ ap (put_plan last.plan) c.tell_all.ensures.ears ∙ gathered_left s.core t refl (ears_of i.ears) dues told g last.plan c.in-Ok.ensures.plan in
    let plain = told_answered s c.requires.reached t refl fits ts are last.handed c.release_each.new.names handed refl in
    let stays = told_left s c.requires.reached t refl fits ts are last.handed c.release_each.new.names handed in
    let w : State = record { core = accepted s.core t; names = c.release_each.new.names; gates = s.gates } in
    let out_same = ap (λ (x : State). x.gates) v in
    let es = c.in-Ok-let_told_out.exits.items in
    let after = c.let_told_out.new.gates in
    let out = c.in-Ok-let_told_out.ensures.out in
    record {
      step = c.done_telling.ensures.step ∙ goes_out s t refl outcome.Done last.handed w plain stays i.gates out_same es after out;
      after =
          (λ j. record {
            core = record { config = (v j).core.config; faces = (v j).core.faces; next_face = (v j).core.next_face; hats = left j; tables = (v j).core.tables; queries = (v j).core.queries; interests = (v j).core.interests; ears = kept j };
            names = c.release_each.new.names;
            gates = c.done_telling.ensures.gates j;
          })
          ∙ sym (stays_out s t refl outcome.Done last.handed w plain stays i.gates out_same es after out);
      err = tt;
    }

pub returns-in-Err : goal.returns-in-Err
returns-in-Err c =
    let v = c.self.view_is in
    let back =
    c.take_back.ensures.names
    ∙ ap (λ (f : List Handed). untold (drop (length f) c.in-Ok.all.handed) c.tell_all.new.names) (sym c.new-none.ensures)
    ∙ c.in-Ok.ensures.back
    ∙ ap (λ (x : State). x.names) v in
    let gates_back = c.in-Err.ensures.err ∙ ap (λ (x : State). x.gates) v in
    let kept = c.take_back.ensures.ears ∙ c.tell_all.ensures.ears ∙ ap (λ (x : State). x.core.ears) v in
    record {
      step = tt;
      after = tt;
      err = λ j. record {
        core = record { config = (v j).core.config; faces = (v j).core.faces; next_face = (v j).core.next_face; hats = (v j).core.hats; tables = (v j).core.tables; queries = (v j).core.queries; interests = (v j).core.interests; ears = kept j };
        names = back j;
        gates = gates_back j;
      };
    }
