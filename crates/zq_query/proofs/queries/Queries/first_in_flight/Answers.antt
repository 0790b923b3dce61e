use Rattle.std.proofs.Common.{◌≡◌, ◌<◌, ℕ, Option, sym, refl, subst, true, false}
use Rattle.std.specs.Prelude.{find}
use Rattle.std.specs.Option.{IfSome, IfNone}
use Rattle.zq_query.specs.Records.{QueryState, flies}
use Rattle.zq_query.specs.Tables.{flies_for, records_of}
use Rattle.zq_query.proofs.Flights.{there_if, least_if, none_if}
use Rattle.zq_query.proofs.queries.Queries.first_in_flight.Goals as goal

pub returns-clause-there : goal.returns-clause-there
returns-clause-there c =
    let i = c.self.inside in
    let n = c.args.number in
    subst (λ (s : QueryState). IfSome c.first_of.result (λ r. flies n r s.records ≡ true)) c.self.view_is
    (subst (λ (q : Option ℕ). IfSome q (λ r. flies n r (records_of i.heads.entries i.pending.entries i.replies.entries) ≡ true)) (sym c.first_of.ensures)
    (there_if i.heads.entries i.pending.entries i.dues.entries i.replies.entries c.self.invariant.0 n (find (flies_for n) i.replies.entries) refl))

pub returns-clause-least : goal.returns-clause-least
returns-clause-least c =
    let i = c.self.inside in
    let n = c.args.number in
    subst (λ (s : QueryState). IfSome c.first_of.result (λ r. (earlier : ℕ) → earlier < r → flies n earlier s.records ≡ false)) c.self.view_is
    (subst (λ (q : Option ℕ). IfSome q (λ r. (earlier : ℕ) → earlier < r → flies n earlier (records_of i.heads.entries i.pending.entries i.replies.entries) ≡ false)) (sym c.first_of.ensures)
    (least_if i.heads.entries i.pending.entries i.dues.entries i.replies.entries c.self.invariant.0 n (find (flies_for n) i.replies.entries) refl))

pub returns-clause-none : goal.returns-clause-none
returns-clause-none c =
    let i = c.self.inside in
    let n = c.args.number in
    subst (λ (s : QueryState). IfNone c.first_of.result ((r : ℕ) → flies n r s.records ≡ false)) c.self.view_is
    (subst (λ (q : Option ℕ). IfNone q ((r : ℕ) → flies n r (records_of i.heads.entries i.pending.entries i.replies.entries) ≡ false)) (sym c.first_of.ensures)
    (none_if i.heads.entries i.pending.entries i.dues.entries i.replies.entries c.self.invariant.0 n (find (flies_for n) i.replies.entries) refl))
