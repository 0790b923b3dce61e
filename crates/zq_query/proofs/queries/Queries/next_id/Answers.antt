use Rattle.std.proofs.Common.{◌≡◌, ◌∙◌, ◌+◌, ◌<◌, ◌^◌, ℕ, Some, Option, Bool, sym, ap, subst, arith}
use Rattle.std.specs.Option.{unwrap_or}
use Rattle.zq_query.specs.Records.{QueryState, next_id}
use Rattle.zq_query.specs.Tables.{at_number, IsRising}
use Rattle.zq_query.proofs.Rising.{next_is}
use Rattle.zq_query.proofs.queries.Queries.next_id.Goals as goal

pub returns-then-last-lt4294967295 : goal.returns-then-last-lt4294967295
returns-then-last-lt4294967295 c =
    let i = c.self.inside in
    let face = c.args.face.0 in
    let lasts = i.last_ids.entries in
    let last : c.unwrap_or-last.result ≡ unwrap_or (at_number face lasts) i.request_ids = c.unwrap_or-last.ensures ∙ ap (λ (q : Option ℕ). unwrap_or q i.request_ids) (c.last_at.ensures ∙ sym (ap (λ (s : QueryState). at_number face s.last_ids) c.self.view_is)) in
    let low = c.if-last-lt4294967295.true in
    let rising = subst (λ (b : Bool). IsRising b i.pending.entries lasts) c.if-self.true c.self.invariant.2 in
    let fits : unwrap_or (at_number face lasts) i.request_ids + 1 < 2 ^ 32 = omega (arith, last, low) in
    ap (λ (n : ℕ). Some (n + 1)) last
    ∙ sym (next_is i.heads.entries i.pending.entries i.dues.entries i.replies.entries lasts i.request_ids face c.self.invariant.0 rising fits)
    ∙ ap (λ (s : QueryState). next_id s face) c.self.view_is
