use Rattle.std.proofs.Common.{◌≡◌, ◌∙◌, ◌++◌, ◌∷◌, [], ap, arith, length, length-append, refl, sym, true}
use Rattle.std.proofs.lemmas.Result.{on_ok_weaker}
use Rattle.zq_machine.specs.Writing.{Told}
use Rattle.zq_egress.specs.Telling.{end_of, ends_alone, handed_declare}
use Rattle.zq_egress.proofs.Telling.{told_end, untold_behind}
use Rattle.zq_egress.proofs.tell.tell_one.Goals as goal

pub returns-then-ends_alone-clause-messages : goal.returns-then-ends_alone-clause-messages
returns-then-ends_alone-clause-messages g c m same alike =
    let old = c.args.handed.now.items in
    let t = c.args.telling.now in
    let alone : ends_alone t ≡ true = sym c.ends_alone.ensures ∙ c.if-ends_alone.true in
    on_ok_weaker c.tell_end.result (λ is. is ∙ ap (λ (w : Told). old ++ w.handed) (sym (told_end m c.args.mark t c.args.names.now alone))) c.tell_end.ensures.ok

pub returns-then-ends_alone-clause-names : goal.returns-then-ends_alone-clause-names
returns-then-ends_alone-clause-names g c m same alike =
    let t = c.args.telling.now in
    let alone : ends_alone t ≡ true = sym c.ends_alone.ensures ∙ c.if-ends_alone.true in
    on_ok_weaker c.tell_end.result (λ is. ap (λ (w : Told). w.names) (sym (told_end m c.args.mark t c.args.names.now alone))) c.tell_end.ensures.ok

pub returns-then-ends_alone-clause-longer : goal.returns-then-ends_alone-clause-longer
returns-then-ends_alone-clause-longer g c =
    let old = c.args.handed.now.items in
    let t = c.args.telling.now in
    on_ok_weaker c.tell_end.result (λ is. let long = ap length is ∙ length-append old (handed_declare t.face (end_of c.args.mark t) ∷ []) in omega (arith, long)) c.tell_end.ensures.ok

pub returns-then-ends_alone-clause-back : goal.returns-then-ends_alone-clause-back
returns-then-ends_alone-clause-back g c first le =
    let t = c.args.telling.now in
    let names = c.args.names.now in
    on_ok_weaker c.tell_end.result (λ is. untold_behind c.args.handed.now.items (handed_declare t.face (end_of c.args.mark t) ∷ []) c.tell_end.new.handed.items names names first le is refl) c.tell_end.ensures.ok
