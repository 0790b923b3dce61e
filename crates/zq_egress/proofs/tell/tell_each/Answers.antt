use Rattle.std.proofs.Common.{◌≡◌, ◌∙◌, ◌++◌, ◌∷◌, [], ℕ, List, length, sym, ap, map, take, arith, append_assoc}
use Rattle.std.proofs.Math.Seq.{take-length}
use Rattle.zq_strategy.specs.declared.network.Telling as hat
use Rattle.zq_query.proofs.Giving.{map_more}
use Rattle.zq_machine.specs.Handing.{Handed}
use Rattle.zq_machine.specs.Messages.{Telling, from_hat}
use Rattle.zq_machine.specs.Writing.{Told, and_then, tell, tell_body}
use Rattle.zq_egress.specs.Telling.{behind, marked_by}
use Rattle.zq_egress.proofs.Telling.{tell-more}
use Rattle.zq_egress.proofs.tell.tell_each.Goals as goal

pub loop-telling-preserved : goal.loop-telling-preserved
loop-telling-preserved g c =
    let ts = c.args.tellings.now in
    let i = c.loop-telling.telling-index in
    let t = c.telling-item.result in
    let first = c.args.handed.now.items in
    let mark = c.args.mark in
    let before = map (marked_by mark) (take i ts) in
    let u : Telling = marked_by mark t in
    let more = map_more (marked_by mark) ts i t c.loop-telling-test.true ∙ ap (λ (x : hat.Telling). before ++ marked_by mark x ∷ []) (sym c.telling-item.is) in
    let told = c.in_ok-tell_one.ensures in
    let inv = c.loop-telling.invariant in
    record {
      told =
          λ m same alike.
          let w = tell m before c.args.names.now in
          let n = tell_body m u (from_hat t).body w.names in
          ap (λ (l : List Telling). behind first (tell m l c.args.names.now)) more
          ∙ ap (behind first) (tell-more m before u c.args.names.now)
          ∙ ap (λ (hs : List Handed). record { handed = hs; names = n.names }) (sym (append_assoc first w.handed n.handed))
          ∙ ap (λ (x : Told). and_then x (tell_body m u (from_hat t).body)) (inv.told m same alike)
          ∙ (λ j. record { handed = sym (told.messages m same alike) j; names = sym (told.names m same alike) j });
      longer = omega (arith, inv.longer, told.longer);
      back = λ n le. told.back n (omega (arith, le, inv.longer)) ∙ inv.back n le;
    }

pub returns-clause-ok : goal.returns-clause-ok
returns-clause-ok g c m same alike =
    let xs = c.args.tellings.now in
    let full : c.loop-telling.telling-index ≡ length xs = omega (arith, c.loop-telling-test.false, c.loop-telling.auto.telling-index-end) in
    ap (λ (l : List hat.Telling). behind c.args.handed.now.items (tell m (map (marked_by c.args.mark) l) c.args.names.now)) (sym (take-length xs) ∙ ap (λ i. take i xs) (sym full))
    ∙ c.loop-telling.invariant.told m same alike
