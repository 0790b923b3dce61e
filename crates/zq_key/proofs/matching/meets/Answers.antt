use Rattle.std.proofs.Common.{◌∙◌, sym, refl}
use Rattle.zq_key.proofs.Meet.{meets-no_wild, meets-no_wild_right, meets-two_wild}
use Rattle.zq_key.proofs.matching.meets.Goals as goal

pub returns-in-None : goal.returns-in-None
returns-in-None g c =
    let m = g.C.Cursor in
    c.covers.ensures ∙ sym (meets-no_wild m.wild m.agree c.requires _ _ (m.left c.walk-p.result.0) (m.left c.walk-p.result.1) c.walk-p.ensures.meets c.in-None.ensures)

pub returns-in-None-after_last_wild : goal.returns-in-None-after_last_wild
returns-in-None-after_last_wild g c =
    let m = g.C.Cursor in
    c.covers-in-None-after_last_wild.ensures ∙ sym (meets-no_wild_right m.wild m.agree _ _ (m.left c.walk-p.result.0) (m.left c.walk-p.result.1) c.walk-p.ensures.meets c.in-None-after_last_wild.ensures)

pub returns-then-one_starts_wild : goal.returns-then-one_starts_wild
returns-then-one_starts_wild g c =
    let m = g.C.Cursor in
    let e = meets-two_wild m.wild m.agree c.requires _ _ (m.left c.walk-p.result.0) (m.left c.walk-p.result.1) (m.left c.in-Some.p_tail) (m.left c.in-Some-after_last_wild.q_tail) c.walk-p.ensures.meets c.walk-p.ensures.stops c.in-Some.ensures c.in-Some-after_last_wild.ensures in
    c.tails_meet.ensures ∙ sym (e ∙ (rw (sym c.one_starts_wild.ensures ∙ c.if-one_starts_wild.true) refl))

pub returns-else-one_starts_wild : goal.returns-else-one_starts_wild
returns-else-one_starts_wild g c =
    let m = g.C.Cursor in
    let e = meets-two_wild m.wild m.agree c.requires _ _ (m.left c.walk-p.result.0) (m.left c.walk-p.result.1) (m.left c.in-Some.p_tail) (m.left c.in-Some-after_last_wild.q_tail) c.walk-p.ensures.meets c.walk-p.ensures.stops c.in-Some.ensures c.in-Some-after_last_wild.ensures in
    c.if-one_starts_wild.false ∙ sym (e ∙ (rw (sym c.one_starts_wild.ensures ∙ c.if-one_starts_wild.false) refl))
