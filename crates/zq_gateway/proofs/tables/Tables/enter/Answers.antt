use Rattle.std.proofs.Common.{◌≡◌, ◌∙◌, refl, sym, ap, Err, subst, [], false, map, None, Some}
use Rattle.std.specs.Prelude.{◌+◌}
use Rattle.std.specs.BTreeMap.{insert_entry, is_at}
use Rattle.std.specs.List.{AllByRecursion}
use Rattle.std.specs.Map.{remove_entry}
use Rattle.std.specs.Ordering.{nat_cmp}
use Rattle.std.proofs.lemmas.Cmp.{nat_cmp_total}
use Rattle.std.proofs.lemmas.Map.Lookups.{exact_unsigned}
use Rattle.zq_query.proofs.Owing.{undone}
use Rattle.zq_strategy.specs.Tellings.{in_order}
use Rattle.zq_tables.specs.Naming.{NamingState, closed_naming, opened_naming}
use Rattle.zq_dispatcher.proofs.Opened.{closed_again}
use Rattle.zq_interests.specs.Interests.{interests_of, has_keyed}
use Rattle.zq_told.specs.ToldSets.{ToldSets, closed as unheard, opened as heard_opened}
use Rattle.zq_told.specs.Leaving.{fresh_ear}
use Rattle.zq_told.specs.Rooms.{ears_of}
use Rattle.zq_told.specs.Telling.{put_plan}
use Rattle.zq_machine.specs.declared.call.Opening.{Opening}
use Rattle.zq_machine.specs.declared.call.Outcome.TheVariants as outcome
use Rattle.zq_machine.specs.declared.call.Refusal.TheVariants as refusal
use Rattle.zq_machine.specs.Deciding.{accepted, with_face, with_numbers}
use Rattle.zq_machine.specs.Gates.{gate_at, gate_for, with_gate}
use Rattle.zq_machine.specs.Messages.{from_hat}
use Rattle.zq_strategy.specs.declared.types.FaceRecord.{FaceRecord}
use Rattle.zq_dispatcher.specs.Seats.{seats}
use Rattle.zq_machine.specs.State.{Core, State, at, change_hat, has_hat, joined}
use Rattle.zq_machine.specs.TextCalls.{opening}
use Rattle.zq_machine.specs.Writing.{Told, tell}
use Rattle.zq_egress.specs.Neighbours.{told_with}
use Rattle.zq_egress.specs.Telling.{behind}
use Rattle.zq_gateway.proofs.Seated.{reached_unasked}
use Rattle.zq_machine.proofs.Asks.{is_asking}
use Rattle.zq_egress.specs.Gone.{IsTold}
use Rattle.zq_gateway.specs.Gathering.{Gathers}
use Rattle.zq_gateway.specs.Making.{IsReached}
use Rattle.zq_gateway.proofs.Due.{due_of_keys, gathered_due, gathered_lacks, gathered_left, only_fits, only_lacks, refused_answered, refused_left}
use Rattle.zq_gateway.proofs.Openings.{opening_answered, opening_gathers, opening_left, reached_ungated}
use Rattle.zq_gateway.proofs.Reached.{reached_absent, reached_unheard, reached_unnamed, reached_vacant}
use Rattle.zq_gateway.proofs.GoneOut.{each_told, goes_out, stays_out}
use Rattle.zq_gateway.proofs.tables.Tables.enter.Goals as goal

pub join_and_tell-requires-clause-named : goal.join_and_tell-requires-clause-named
join_and_tell-requires-clause-named c = reached_unnamed _ (subst IsReached (sym c.self.view_is) c.requires.reached)

pub join_and_tell-requires-clause-absent : goal.join_and_tell-requires-clause-absent
join_and_tell-requires-clause-absent c = reached_absent _ (subst IsReached (sym c.self.view_is) c.requires.reached)

pub join_and_tell-requires-clause-unheard : goal.join_and_tell-requires-clause-unheard
join_and_tell-requires-clause-unheard c = reached_unheard _ (subst IsReached (sym c.self.view_is) c.requires.reached)

pub join_and_tell-requires-clause-keys : goal.join_and_tell-requires-clause-keys
join_and_tell-requires-clause-keys c enough =
    let s : State = c.args.self.now in
    let i = c.self.inside in
    let v = c.self.view_is in
    let o : Opening = c.args.asked.now in
    let t = opening o in
    let start = c.counters.ensures ∙ ap (λ (x : State). x.core.config.start) v in
    let ears : ToldSets = heard_opened i.next_face c.counters.result.now.told (ears_of i.ears) in
    let heard : ears ≡ heard_opened s.core.next_face s.core.config.start.told s.core.ears = λ j. heard_opened (v j).core.next_face (start j).told (v j).core.ears in
    let dues = c.as_slice.result.now in
    let dues_are =
    c.as_slice.ensures ∙ c.in_ok-dues.ensures s.core s.core.interests o (record {
      next = ap (λ (x : State). x.core.next_face) (sym v);
      free = ap (λ n. at n s.core.faces) (ap (λ (x : State). x.core.next_face) v) ∙ reached_absent s c.requires.reached;
      opens = sym c.opened.ensures;
      unasked = ap (λ n. interests_of n s.core.interests) (ap (λ (x : State). x.core.next_face) v) ∙ reached_unasked s c.requires.reached;
      same = ap (λ (x : State). x.core.hats) v;
    }) in
    let g : Gathers s.core t ears dues [] = opening_gathers s c.requires.reached o ears heard s.core.interests refl dues dues_are in
    let fits = only_fits s.core t c.requires.ids (sym (gathered_lacks s.core t refl ears dues [] g) ∙ enough) in
    due_of_keys s c.requires.reached t refl fits (told_with ears dues []) (gathered_due s.core t refl ears dues [] g)

pub enter_told-requires-clause-told : goal.enter_told-requires-clause-told
enter_told-requires-clause-told c =
    let s : State = c.args.self.now in
    let i = c.self.inside in
    let w : Core = record s.core { faces = insert_entry nat_cmp i.faces.entries i.next_face c.opened-2.result; interests = i.interests } in
    let ts = told_with (heard_opened i.next_face c.counters.result.now.told (ears_of i.ears)) c.as_slice.result.now [] in
    subst (λ (x : Told). AllByRecursion IsTold x.handed) (c.in-Ok.ensures.ok w refl (λ f k. refl))
    (each_told w (map from_hat (in_order ts)) (opened_naming i.next_face i.names))

pub enter_told-requires-clause-ungated : goal.enter_told-requires-clause-ungated
enter_told-requires-clause-ungated c =
    subst (λ (f : FaceRecord). gate_at f.face.0 c.self.inside.gates ≡ None) (sym c.seat.ensures) (reached_ungated _ (subst IsReached (sym c.self.view_is) c.requires.reached))

pub enter_told-requires-clause-vacant : goal.enter_told-requires-clause-vacant
enter_told-requires-clause-vacant c =
    subst (λ (f : FaceRecord). seats c.args.asked.now.region f.face.0 c.self.inside.hats ≡ Some false) (sym c.seat.ensures)
    (reached_vacant _ c.args.asked.now.region (subst IsReached (sym c.self.view_is) c.requires.reached) (ap (λ (x : State). has_hat c.args.asked.now.region x.core) c.self.view_is ∙ c.requires.there))

pub returns-in-Err-NoFreeId : goal.returns-in-Err-NoFreeId
returns-in-Err-NoFreeId c =
    let s : State = c.args.self.now in
    let i = c.self.inside in
    let v = c.self.view_is in
    let o : Opening = c.args.asked.now in
    let t = opening o in
    let start = c.counters.ensures ∙ ap (λ (x : State). x.core.config.start) v in
    let ears : ToldSets = heard_opened i.next_face c.counters.result.now.told (ears_of i.ears) in
    let heard : ears ≡ heard_opened s.core.next_face s.core.config.start.told s.core.ears = λ j. heard_opened (v j).core.next_face (start j).told (v j).core.ears in
    let dues = c.as_slice.result.now in
    let dues_are =
    c.as_slice.ensures ∙ c.in_ok-dues.ensures s.core s.core.interests o (record {
      next = ap (λ (x : State). x.core.next_face) (sym v);
      free = ap (λ n. at n s.core.faces) (ap (λ (x : State). x.core.next_face) v) ∙ reached_absent s c.requires.reached;
      opens = sym c.opened.ensures;
      unasked = ap (λ n. interests_of n s.core.interests) (ap (λ (x : State). x.core.next_face) v) ∙ reached_unasked s c.requires.reached;
      same = ap (λ (x : State). x.core.hats) v;
    }) in
    let g : Gathers s.core t ears dues [] = opening_gathers s c.requires.reached o ears heard s.core.interests refl dues dues_are in
    let e = only_lacks s.core t c.requires.ids (sym (gathered_lacks s.core t refl ears dues [] g) ∙ c.in-Err-NoFreeId.ensures.no_free (ap (λ e. Err e) c.in-Err-NoFreeId.field-0-is)) in
    let faces_back = c.in-Err-NoFreeId.ensures.no_faces ∙ ap (λ (x : State). x.core.faces) v in
    let names_back = c.in-Err-NoFreeId.ensures.no_names ∙ ap (λ (x : State). x.names) v in
    let ears_back = c.in-Err-NoFreeId.ensures.no_ears ∙ ap (λ (x : State). x.core.ears) v in
    record {
      step = c.refused.ensures ∙ refused_answered s t refusal.NoFreeId e;
      after =
          (λ j. record {
            core = record { config = (v j).core.config; faces = faces_back j; next_face = (v j).core.next_face; hats = (v j).core.hats; tables = (v j).core.tables; queries = (v j).core.queries; interests = (v j).core.interests; ears = ears_back j };
            names = names_back j;
            gates = (v j).gates;
          })
          ∙ sym (refused_left s t refusal.NoFreeId e);
      err = tt;
    }

pub returns-in-Ok-enter_told : goal.returns-in-Ok-enter_told
unfolding is_asking
returns-in-Ok-enter_told c =
    let s : State = c.args.self.now in
    let i = c.self.inside in
    let v = c.self.view_is in
    let o : Opening = c.args.asked.now in
    let t = opening o in
    let start = c.counters.ensures ∙ ap (λ (x : State). x.core.config.start) v in
    let ears : ToldSets = heard_opened i.next_face c.counters.result.now.told (ears_of i.ears) in
    let heard : ears ≡ heard_opened s.core.next_face s.core.config.start.told s.core.ears = λ j. heard_opened (v j).core.next_face (start j).told (v j).core.ears in
    let dues = c.as_slice.result.now in
    let dues_are =
    c.as_slice.ensures ∙ c.in_ok-dues.ensures s.core s.core.interests o (record {
      next = ap (λ (x : State). x.core.next_face) (sym v);
      free = ap (λ n. at n s.core.faces) (ap (λ (x : State). x.core.next_face) v) ∙ reached_absent s c.requires.reached;
      opens = sym c.opened.ensures;
      unasked = ap (λ n. interests_of n s.core.interests) (ap (λ (x : State). x.core.next_face) v) ∙ reached_unasked s c.requires.reached;
      same = ap (λ (x : State). x.core.hats) v;
    }) in
    let g : Gathers s.core t ears dues [] = opening_gathers s c.requires.reached o ears heard s.core.interests refl dues dues_are in
    let fits = only_fits s.core t c.requires.ids (sym (gathered_lacks s.core t refl ears dues [] g) ∙ c.in-Ok.ensures.free) in
    let ts = told_with ears dues [] in
    let are = gathered_due s.core t refl ears dues [] g in
    let all = c.in-Ok.all in
    let faces : insert_entry nat_cmp i.faces.entries i.next_face c.opened-2.result ≡ (accepted s.core t).faces = λ j. insert_entry nat_cmp (v j).core.faces (v j).core.next_face (c.opened-2.ensures j) in
    let names = ap with_numbers v in
    let handed =
    ap (λ (n : NamingState). behind [] (tell (accepted s.core t) (map from_hat (in_order ts)) n)) (sym names)
    ∙ c.in-Ok.ensures.ok (accepted s.core t) (sym faces) (λ f k. ap (λ (x : State). has_keyed f k x.core.interests) v) in
    let hats = c.in-Ok-enter_told.ensures.ok ∙ ap (λ (f : FaceRecord). change_hat o.region (joined f) i.hats) c.seat.ensures ∙ ap (λ (x : State). (with_face o x.core).hats) v in
    let kept = c.put.ensures.ears ∙ ap (put_plan c.as_slice-in-Ok-enter_told.result.now) c.in-Ok.ensures.ears ∙ gathered_left s.core t refl ears dues [] g c.as_slice-in-Ok-enter_told.result.now (c.as_slice-in-Ok-enter_told.ensures ∙ c.in-Ok.ensures.plan) in
    let plain = opening_answered s c.requires.reached o fits ts are all.handed c.join_and_tell.new.names handed in
    let stays = opening_left s c.requires.reached o fits ts are all.handed c.join_and_tell.new.names handed in
    let w : State = record { core = accepted s.core t; names = c.join_and_tell.new.names; gates = with_gate s.core.next_face (gate_for o) s.gates } in
    let number = ap (λ (x : State). x.core.next_face) v in
    let record_is = ap (λ (f : FaceRecord). f.face.0) c.seat.ensures in
    let was = with_gate c.seat.result.face.0 c.in_ok-gate.gate i.gates in
    let same : was ≡ w.gates = λ j. with_gate ((record_is ∙ number) j) (c.in_ok-gate.ensures j) (v j).gates in
    let es = c.in-Ok-enter_told.exits.items in
    let after = c.enter_told.new.gates in
    let out = c.in-Ok-enter_told.ensures.out in
    let outcome_is = outcome.Opened (record { 0 = s.core.next_face }) in
    record {
      step =
          (λ j. record { outcome = outcome.Opened (record { 0 = number j }); handed = c.pass.ensures.handed j })
          ∙ goes_out s t refl outcome_is all.handed w plain stays was same es after out;
      after =
          (λ j. record {
            core = record { config = (v j).core.config; faces = (c.in-Ok.ensures.faces ∙ faces) j; next_face = (v j).core.next_face + 1; hats = hats j; tables = (v j).core.tables; queries = (v j).core.queries; interests = (v j).core.interests; ears = kept j };
            names = c.join_and_tell.new.names;
            gates = c.pass.ensures.gates j;
          })
          ∙ sym (stays_out s t refl outcome_is all.handed w plain stays was same es after out);
      err = tt;
    }

pub returns : goal.returns
returns c =
    let i = c.self.inside in
    let v = c.self.view_is in
    let reached = subst IsReached (sym v) c.requires.reached in
    let names_back = c.take_back_joined.ensures.names ∙ ap (closed_naming i.next_face) c.in-Ok.ensures.taken ∙ closed_again i.next_face i.names (reached_unnamed _ reached) ∙ ap (λ (x : State). x.names) v in
    let faces_back = c.take_back_joined.ensures.faces ∙ ap (remove_entry (is_at (nat_cmp i.next_face))) c.in-Ok.ensures.faces ∙ undone nat_cmp_total exact_unsigned i.faces.entries i.next_face c.opened-2.result (reached_absent _ reached) ∙ ap (λ (x : State). x.core.faces) v in
    let ears_back =
    c.take_back_joined.ensures.ears ∙ ap (unheard i.next_face) c.in-Ok.ensures.ears ∙ undone nat_cmp_total exact_unsigned (ears_of i.ears) i.next_face (fresh_ear c.counters.result.now.told) (reached_unheard _ reached)
    ∙ ap (λ (x : State). x.core.ears) v in
    let gates_back = c.in-Err.ensures.no_gates ∙ ap (λ (x : State). x.gates) v in
    let hats_back = c.in-Err.ensures.no_hats ∙ ap (λ (x : State). x.core.hats) v in
    record {
      step = tt;
      after = tt;
      err = λ j. record {
        core = record { config = (v j).core.config; faces = faces_back j; next_face = (v j).core.next_face; hats = hats_back j; tables = (v j).core.tables; queries = (v j).core.queries; interests = (v j).core.interests; ears = ears_back j };
        names = names_back j;
        gates = gates_back j;
      };
    }
