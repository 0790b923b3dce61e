use Rattle.std.proofs.Common.{◌≡◌, IfOk, rules}
use Rattle.zq_message.specs.declared.message.WireExpr.{WireExpr}
use Rattle.zq_tables.specs.FaceTexts.{best_key, texts_of}
use Rattle.zq_tables.proofs.NumbersRead.{answer_read}
use Rattle.zq_tables.proofs.face.FaceNames.best.Goals as goal

pub returns-clause-reads : goal.returns-clause-reads
returns-clause-reads c =
    let names = c.args.names.now in
    let face = c.args.self.now in
    let t = c.args.text.now in
    let best : IfOk c.expression.result (λ (w : WireExpr). w ≡ best_key (texts_of names face) t) = search rules in
    answer_read (texts_of names face) t c.expression.result best
