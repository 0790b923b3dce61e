use Rattle.std.proofs.Common.{◌≡◌, ◌∙◌, ap, length, subst, sym, true, vec_len}
use Rattle.atomic_table.specs.Seated.{TableId}
use Rattle.zq_shared.specs.Tallies.{Counts, each}
use Rattle.zq_program.specs.Shares.{all_calls}
use Rattle.zq_program.specs.Working.{HasMade, all_sent, all_whole}
use Rattle.zq_program.proofs.Faults.{fell_of}
use Rattle.zq_program.proofs.Making.{kept_whole}
use Rattle.zq_program.proofs.Gathering.{crew_made, crew_parts, crew_ready}
use Rattle.zq_program.proofs.Storing.{stored_of}
use Rattle.zq_program.proofs.sharing.share_named.Goals as goal

pub run_crew-crew-requires-clause-ready : goal.run_crew-crew-requires-clause-ready
run_crew-crew-requires-clause-ready g c κs within =
    crew_ready c.args.seats.home c.args.parts.items c.in_ok-crew.crew.items c.in_ok-crew.ensures.crew g.H.Home.holds g.H.Home.list c.requires.seats.0 c.requires.parts

pub audit-requires : goal.audit-requires
audit-requires g c =
    let whole : all_whole c.run_crew-crew.result.items ≡ true = sym c.gather-ended.ensures.ended.0 ∙ kept_whole _ c.if-not-ended.false in
    let len : vec_len c.args.parts ≡ length c.args.parts.items = c.args.parts.ok.0 in
    crew_parts c.args.seats.home c.args.parts.items c.in_ok-crew.crew.items c.in_ok-crew.ensures.crew c.run_crew-crew.result.items c.make_crew.new.tally c.gather-ended.new.tally c.run_crew-crew.ensures.worked whole
    c.in_ok-crew.ensures.tally c.gather-ended.ensures.tally g.C.Ledger.parts g.Q.Ledger.parts g.P.Ledger.parts (c.requires.calls.2 ∙ len) (c.requires.asks.2 ∙ len) (c.requires.full.2 ∙ len)

pub returns-clause-wide : goal.returns-clause-wide
returns-clause-wide g c = c.recall-2.ensures.sized ∙ (ap (λ (h : TableId). h.words) (c.into_shared-shared.ensures.home ∙ c.requires.means.1) ∙ sym c.recall.ensures.sized)

pub returns-clause-stored : goal.returns-clause-stored
returns-clause-stored g c =
    let whole : all_whole c.run_crew-crew.result.items ≡ true = sym c.gather-ended.ensures.ended.0 ∙ kept_whole _ c.if-not-ended.false in
    let made = crew_made c.args.seats.home c.args.parts.items c.in_ok-crew.crew.items c.in_ok-crew.ensures.crew c.run_crew-crew.result.items c.make_crew.new.tally c.gather-ended.new.tally c.run_crew-crew.ensures.worked whole c.in_ok-crew.ensures.tally c.gather-ended.ensures.tally in
    let words = ap (λ (h : TableId). h.words) c.requires.means.1 in
    stored_of g.H.Home.config g.H.Home.holds g.H.Home.list c.into_shared-shared.result.0 _ (all_calls c.args.parts.items) c.into_shared-shared.ensures
    (subst (λ (n : Counts). HasMade (all_calls c.args.parts.items) (each 0) n) c.audit.ensures.made made)
    c.args.shared.stored.config (length c.args.shared.slots.keeper.marks) c.requires.means.0 (words ∙ sym c.recall.ensures.sized) c.requires.list
    (c.recall-2.ensures.sized ∙ (ap (λ (h : TableId). h.words) c.into_shared-shared.ensures.home ∙ (words ∙ sym c.recall.ensures.sized))) c.recall-2.ensures.orderly

pub returns-clause-later : goal.returns-clause-later
returns-clause-later g c = fell_of (all_sent c.run_crew-crew.result.items) _ _ c.run_crew-crew.ensures.faults
