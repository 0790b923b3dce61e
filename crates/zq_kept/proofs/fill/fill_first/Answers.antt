use Rattle.std.proofs.Common.{◌∙◌, sym, ap, subst, [], Some, cond}
use Rattle.std.specs.BTreeMap.{is_at}
use Rattle.std.specs.Map.{values_of}
use Rattle.std.proofs.lemmas.Map.Lookups.{exact_bytes}
use Rattle.zq_key.proofs.Lookups.{found_after_insertion}
use Rattle.zq_index.specs.Texts.{at_text, text_cmp, texts_of}
use Rattle.zq_index.proofs.Orders.{text_total}
use Rattle.zq_index.proofs.Texts.{text_insert}
use Rattle.zq_egress.specs.Askers.{asker_of}
use Rattle.zq_kept.specs.Current.{AreCurrent}
use Rattle.zq_kept.specs.Table.{IsTable, one_text}
use Rattle.zq_kept.proofs.Current.{fewer_current}
use Rattle.zq_kept.proofs.OneText.{empty_fewer, empty_table, first_keeps, given_current, given_kept, given_others, given_table}
use Rattle.zq_kept.proofs.fill.fill_first.Goals as goal

pub fill-requires-clause-table : goal.fill-requires-clause-table
fill-requires-clause-table c =
    let vs = c.args.versions.now in
    let key = c.args.asking.now.key.now in
    subst (λ rs. IsTable (one_text vs key rs)) (sym c.new-routes.ensures) (empty_table vs key c.requires.table.all)

pub fill-requires-clause-current : goal.fill-requires-clause-current
fill-requires-clause-current c =
    let vs = c.args.versions.now in
    let key = c.args.asking.now.key.now in
    let hats = c.args.asking.now.hats.now in
    let es = texts_of c.args.texts.now.entries in
    subst (λ rs. AreCurrent (one_text vs key rs) hats) (sym c.new-routes.ensures) (fewer_current (vs, es) (one_text vs key []) hats (empty_fewer vs key es) c.requires.current)

pub returns-in-Ok-clause-table : goal.returns-in-Ok-clause-table
returns-in-Ok-clause-table c =
    let es = texts_of c.args.texts.now.entries in
    let key = c.args.asking.now.key.now in
    let rs = c.fill.new.routes in
    given_table c.args.versions.now key es _ rs
    (λ k. ap (at_text k) (ap texts_of c.in-Ok.ensures.entries ∙ text_insert c.in_ok-text.text rs c.args.texts.now.entries) ∙ found_after_insertion text_total exact_bytes _ k rs es ∙ ap (λ b. cond (is_at (text_cmp b) k) (Some rs) (at_text k es)) c.in_ok-text.ensures.ok)
    c.requires.table c.in_ok-offers.ensures.table

pub returns-in-Ok-clause-current : goal.returns-in-Ok-clause-current
returns-in-Ok-clause-current c =
    let es = texts_of c.args.texts.now.entries in
    let key = c.args.asking.now.key.now in
    let rs = c.fill.new.routes in
    given_current c.args.versions.now key es _ rs
    (λ k. ap (at_text k) (ap texts_of c.in-Ok.ensures.entries ∙ text_insert c.in_ok-text.text rs c.args.texts.now.entries) ∙ found_after_insertion text_total exact_bytes _ k rs es ∙ ap (λ b. cond (is_at (text_cmp b) k) (Some rs) (at_text k es)) c.in_ok-text.ensures.ok)
    c.args.asking.now.hats.now c.requires.current c.in_ok-offers.ensures.current

pub returns-in-Ok-clause-keeps : goal.returns-in-Ok-clause-keeps
returns-in-Ok-clause-keeps c =
    let es = texts_of c.args.texts.now.entries in
    let key = c.args.asking.now.key.now in
    let rs = c.fill.new.routes in
    first_keeps c.args.versions.now key es _ rs
    (λ k. ap (at_text k) (ap texts_of c.in-Ok.ensures.entries ∙ text_insert c.in_ok-text.text rs c.args.texts.now.entries) ∙ found_after_insertion text_total exact_bytes _ k rs es ∙ ap (λ b. cond (is_at (text_cmp b) k) (Some rs) (at_text k es)) c.in_ok-text.ensures.ok)
    c.requires.absent

pub returns-in-Ok-clause-kept : goal.returns-in-Ok-clause-kept
returns-in-Ok-clause-kept c =
    let es = texts_of c.args.texts.now.entries in
    let key = c.args.asking.now.key.now in
    let rs = c.fill.new.routes in
    given_kept c.args.versions.now key es _ rs
    (λ k. ap (at_text k) (ap texts_of c.in-Ok.ensures.entries ∙ text_insert c.in_ok-text.text rs c.args.texts.now.entries) ∙ found_after_insertion text_total exact_bytes _ k rs es ∙ ap (λ b. cond (is_at (text_cmp b) k) (Some rs) (at_text k es)) c.in_ok-text.ensures.ok)
    (asker_of c.args.asking.now.asker) (values_of c.args.asking.now.hats.now) c.in_ok-offers.ensures.kept

pub returns-in-Ok-clause-others : goal.returns-in-Ok-clause-others
returns-in-Ok-clause-others c =
    let es = texts_of c.args.texts.now.entries in
    let key = c.args.asking.now.key.now in
    let rs = c.fill.new.routes in
    given_others c.args.versions.now key es _ rs
    (λ k. ap (at_text k) (ap texts_of c.in-Ok.ensures.entries ∙ text_insert c.in_ok-text.text rs c.args.texts.now.entries) ∙ found_after_insertion text_total exact_bytes _ k rs es ∙ ap (λ b. cond (is_at (text_cmp b) k) (Some rs) (at_text k es)) c.in_ok-text.ensures.ok)
