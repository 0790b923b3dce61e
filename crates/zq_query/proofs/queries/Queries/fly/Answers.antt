use Rattle.std.proofs.Common.{◌∙◌, ◌+◌, sym, ap, refl, List, arith}
use Rattle.zq_query.specs.Tables.{records_of, flies_for, more_flying}
use Rattle.zq_query.specs.Records.{QueryState, Record, has_number, after_put}
use Rattle.std.specs.List.{list_any}
use Rattle.zq_query.proofs.Owing.{head_of}
use Rattle.zq_query.proofs.Putting.{next_is_new, records_put, tied_put, below_put, fits_by}
use Rattle.zq_query.proofs.NextReply.{most_flying}
use Rattle.zq_query.proofs.queries.Queries.fly.Goals as goal

pub fly_more-requires : goal.fly_more-requires
fly_more-requires c =
    let i = c.self.inside in
    let h = head_of c.args.number i.heads.entries i.pending.entries i.replies.entries (ap (λ (s : QueryState). list_any (has_number c.args.number) s.records) c.self.view_is ∙ c.requires.there) in
    let flying = (c.self.invariant.0.counted c.args.number h.0 h.1).flying in
    let some = fits_by (flies_for c.args.number) i.replies.entries in
    let all = most_flying i.next_reply i.replies.entries c.self.invariant.0.flights c.self.invariant.1.flights in
    let fits = ap (λ (s : QueryState). s.replies) c.self.view_is in
    (h.0, h.1, omega (arith, flying, some, all, fits, c.requires.fits))

pub invariant_of-self-2 : goal.invariant_of-self-2
invariant_of-self-2 c =
    let i = c.self.inside in
    let h = head_of c.args.number i.heads.entries i.pending.entries i.replies.entries (ap (λ (s : QueryState). list_any (has_number c.args.number) s.records) c.self.view_is ∙ c.requires.there) in
    let new = next_is_new i.next_reply i.replies.entries c.self.invariant.1.flights in
    rw (c.fly_more.ensures h.0 h.1) (
      tied_put i.heads.entries i.pending.entries i.dues.entries i.replies.entries c.self.invariant.0 i.next_reply c.args.number new h.0 (more_flying h.0) h.1 refl c.insert.new.self.entries c.in-Ok.ensures.entries c.insert.ensures.ordered c.in-Ok.ensures.updates.0,
      below_put i.heads.entries i.replies.entries c.insert.new.self.entries i.requests i.next_reply c.args.number h.0 (more_flying h.0) h.1 c.self.invariant.1 c.in-Ok.ensures.updates.0,
      c.self.invariant.2,
    )

pub returns-clause-ok : goal.returns-clause-ok
returns-clause-ok c =
    let i = c.self.inside in
    let h = head_of c.args.number i.heads.entries i.pending.entries i.replies.entries (ap (λ (s : QueryState). list_any (has_number c.args.number) s.records) c.self.view_is ∙ c.requires.there) in
    let new = next_is_new i.next_reply i.replies.entries c.self.invariant.1.flights in
    let shown : List Record → QueryState = λ l. record { records = l; last_ids = i.last_ids.entries; closed = i.closed.keys; requests = i.requests; replies = i.next_reply + 1; request_ids = i.request_ids } in
    ap shown (ap (λ l. records_of l i.pending.entries c.insert.new.self.entries) (c.fly_more.ensures h.0 h.1)
    ∙ sym (records_put i.heads.entries i.pending.entries i.dues.entries i.replies.entries c.self.invariant.0 i.next_reply c.args.number new h.0 (more_flying h.0) h.1 refl c.insert.new.self.entries c.in-Ok.ensures.entries c.insert.ensures.ordered c.in-Ok.ensures.updates.0))
    ∙ ap (after_put c.args.number) c.self.view_is
