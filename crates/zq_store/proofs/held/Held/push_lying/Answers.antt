use Rattle.std.proofs.Common.{◌∙◌, ◌++◌, ap, map}
use Rattle.std.specs.String.{string_bytes}
use Rattle.zq_index.specs.Texts.{texts_of}
use Rattle.zq_store.specs.Held.{are_plain, meeting}
use Rattle.zq_store.specs.Pair.{pair_of}
use Rattle.zq_store.proofs.Range.{lying_plain, meeting_lying, texts_lying}
use Rattle.zq_store.proofs.held.Held.push_lying.Goals as goal

pub push_each-requires : goal.push_each-requires
push_each-requires c =
    let from = c.args.span.now.from in
    let to = c.args.span.now.to in
    let all = c.self.inside.pairs.entries in
    ap are_plain (ap texts_of (c.range-lying.ensures.between tt) ∙ texts_lying from to all) ∙ lying_plain (string_bytes from) (string_bytes to) (texts_of all) c.self.invariant

pub returns : goal.returns
returns c =
    let from = c.args.span.now.from in
    let to = c.args.span.now.to in
    let all = c.self.inside.pairs.entries in
    let key = c.args.key.now in
    c.in_ok-push_each.ensures
    ∙ ap (λ ps. c.args.found.now ++ map pair_of (meeting key ps)) (ap texts_of (c.range-lying.ensures.between tt) ∙ texts_lying from to all)
    ∙ ap (λ ps. c.args.found.now ++ map pair_of ps) (meeting_lying key (string_bytes from) (string_bytes to) (texts_of all) c.requires c.self.invariant ∙ ap (meeting key) c.self.view_is)
