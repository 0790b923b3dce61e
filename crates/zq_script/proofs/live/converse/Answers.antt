use Rattle.std.proofs.Common.{◌≡◌, ℕ, List, [], ◌∷◌, true, false, subst, sym, rules}
use Rattle.std.specs.Prelude.{is_err}
use Rattle.std.specs.Io.KnownBytes.{Appends}
use Rattle.zq_io.specs.Streams.{AppendsFront}
use Rattle.zq_script.specs.Reading.{ReadsLines}
use Rattle.zq_script.proofs.Conversing.{converse_on, cut_off, no_line, on_err, on_ok}
use Rattle.zq_script.proofs.live.converse.Goals as goal

pub returns-in-Err-clause-leaves : goal.returns-in-Err-clause-leaves
returns-in-Err-clause-leaves g c =
    let part = c.in-Err.ensures.part in
    rw c.end_of.ensures (no_line c.in-Err.refusal _ _ _ _ _ _ _ part.0 c.loop-number.invariant.conversed part.1 part.2)

pub returns-then-is_err-clause-leaves : goal.returns-then-is_err-clause-leaves
returns-then-is_err-clause-leaves g c =
    let read = c.in-Ok-true.ensures.line (first_of ((cc), (search rules))) in
    let line = subst (λ (l : List ℕ). ReadsLines (g.S.Source.left c.loop-number.source) (g.S.Source.left c.read_line.new.source) (l ∷ [])) (sym c.as_slice.ensures.value) read in
    let fails : is_err c.write_all.result ≡ true = first_of ((cc), (search rules)) in
    let front = on_err c.write_all.result _ fails c.write_all.ensures.front in
    cut_off _ _ _ _ _ _ _ _ c.as_slice.result.now c.in-Ok.words c.loop-number.invariant.conversed line c.in-Ok.ensures.words
    (subst (AppendsFront (g.K.Sink.taken c.loop-number.sink) (g.K.Sink.taken c.write_all.new.sink)) c.as_slice-in-loop-number.ensures front)

pub loop-number-preserved : goal.loop-number-preserved
loop-number-preserved g c =
    let read = c.in-Ok-true.ensures.line (first_of ((cc), (search rules))) in
    let line = subst (λ (l : List ℕ). ReadsLines (g.S.Source.left c.loop-number.source) (g.S.Source.left c.read_line.new.source) (l ∷ [])) (sym c.as_slice.ensures.value) read in
    let works : is_err c.write_all.result ≡ false = first_of ((cc), (search rules)) in
    let whole = on_ok c.write_all.result _ works c.write_all.ensures.whole in
    record {
      conversed =
          converse_on _ _ _ _ _ _ _ _ _ c.as_slice.result.now c.in-Ok.words c.loop-number.invariant.conversed line c.in-Ok.ensures.words c.in-Ok.ensures.then
          (subst (Appends (g.K.Sink.taken c.loop-number.sink) (g.K.Sink.taken c.write_all.new.sink)) c.as_slice-in-loop-number.ensures whole);
      steady = search rules;
      quiet = search rules;
    }
