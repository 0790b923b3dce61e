use Rattle.std.proofs.Common.{◌∙◌, ap, Some, sym}
use Rattle.zq_index.specs.Infos.{joined}
use Rattle.zq_index.proofs.Merges.{merged_put}
use Rattle.zq_index.proofs.holders.Holders.merged_with.Goals as goal

pub returns-in-Some : goal.returns-in-Some
returns-in-Some g c =
    ap (λ x. Some x) c.merge_qabl_infos.ensures.value
    ∙ ap (λ m. joined m (Some c.args.info)) (sym c.in-Some.is ∙ c.merged_without.ensures.merged)
    ∙ sym (merged_put g.met.P.Ord.total c.args.place c.args.info c.args.self.now c.merged_without.ensures.ordered)

pub returns-in-None : goal.returns-in-None
returns-in-None g c =
    ap (λ m. joined m (Some c.args.info)) (sym c.in-None.is ∙ c.merged_without.ensures.merged)
    ∙ sym (merged_put g.met.P.Ord.total c.args.place c.args.info c.args.self.now c.merged_without.ensures.ordered)
