use Rattle.std.proofs.Common.{◌≡◌, ◌∙◌, ap, sym, Some, List, ℕ}
use Rattle.std.specs.BTreeMap.{insert_entry, is_at}
use Rattle.std.specs.Option.{option_map_or}
use Rattle.zq_index.specs.Texts.{at_text, text_cmp, texts_of}
use Rattle.zq_index.proofs.Texts.{text_lookup, text_set}
use Rattle.zq_hat.specs.declared.sources.Sources.{Sources}
use Rattle.zq_hat.specs.Sources.{empty, with_source}
use Rattle.zq_hat.proofs.Writing.{written_over}
use Rattle.zq_hat.proofs.gathered.add_beside.Goals as goal

pub returns-in-Ok : goal.returns-in-Ok
returns-in-Ok c =
    let k : List ℕ = c.args.key.now in
    let es = c.args.keys.now.entries in
    let test = is_at (text_cmp k) in
    let new : Sources = c.add.new.self in
    let there : at_text k (texts_of es) ≡ Some c.in-Some.sources.now = text_lookup test es ∙ sym c.in-Some.ensures.value in
    ap texts_of (c.get_mut.follows.holds new).0
    ∙ text_set test es new
    ∙ written_over k new es c.get_mut.ensures.ordered c.requires
    ∙ ap (insert_entry text_cmp (texts_of es) k) (c.in-Ok.ensures.ok ∙ ap (λ o. with_source c.args.source (option_map_or (λ (s : Sources). s) o empty)) (sym there))
