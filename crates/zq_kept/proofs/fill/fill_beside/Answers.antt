use Rattle.std.proofs.Common.{◌≡◌, ◌∙◌, sym, ap, refl, subst, Some}
use Rattle.std.specs.Prelude.{IsSome}
use Rattle.std.specs.BTreeMap.{is_at}
use Rattle.std.specs.Map.{values_of}
use Rattle.std.proofs.lemmas.Map.Lookups.{exact_bytes}
use Rattle.std.proofs.lemmas.Result.{on_ok_weaker}
use Rattle.zq_key.proofs.Lookups.{found_after_write}
use Rattle.zq_index.specs.Texts.{at_text, text_cmp, texts_of}
use Rattle.zq_index.proofs.Orders.{text_total}
use Rattle.zq_index.proofs.Texts.{text_lookup, text_set}
use Rattle.zq_egress.specs.Askers.{asker_of}
use Rattle.zq_kept.specs.Table.{one_text}
use Rattle.zq_kept.proofs.Current.{fewer_current}
use Rattle.zq_kept.proofs.OneText.{given_current, given_keeps, given_kept, given_others, given_table, one_fewer, one_table}
use Rattle.zq_kept.proofs.fill.fill_beside.Goals as goal

pub fill-requires-clause-table : goal.fill-requires-clause-table
fill-requires-clause-table c =
    let es = texts_of c.args.texts.now.entries in
    let key = c.args.asking.now.key.now in
    let there : at_text key es ≡ Some c.in-Some.routes.now = text_lookup (is_at (text_cmp key)) c.args.texts.now.entries ∙ sym c.in-Some.ensures.value in
    one_table c.args.versions.now key es c.in-Some.routes.now there c.requires.table

pub fill-requires-clause-current : goal.fill-requires-clause-current
fill-requires-clause-current c =
    let es = texts_of c.args.texts.now.entries in
    let key = c.args.asking.now.key.now in
    let vs = c.args.versions.now in
    let there : at_text key es ≡ Some c.in-Some.routes.now = text_lookup (is_at (text_cmp key)) c.args.texts.now.entries ∙ sym c.in-Some.ensures.value in
    fewer_current (vs, es) (one_text vs key c.in-Some.routes.now) c.args.asking.now.hats.now (one_fewer vs key es c.in-Some.routes.now there) c.requires.current

pub returns-clause-table : goal.returns-clause-table
returns-clause-table c =
    let es = texts_of c.args.texts.now.entries in
    let key = c.args.asking.now.key.now in
    let rs = c.fill.new.routes in
    let there : at_text key es ≡ Some c.in-Some.routes.now = text_lookup (is_at (text_cmp key)) c.args.texts.now.entries ∙ sym c.in-Some.ensures.value in
    given_table c.args.versions.now key es _ rs
    (λ k. ap (at_text k) (ap texts_of (c.get_mut.follows.holds rs).0 ∙ text_set (is_at (text_cmp key)) c.args.texts.now.entries rs) ∙ found_after_write text_total exact_bytes key k rs es (subst IsSome (sym there) refl))
    c.requires.table c.fill.ensures.table

pub returns-clause-current : goal.returns-clause-current
returns-clause-current c =
    let es = texts_of c.args.texts.now.entries in
    let key = c.args.asking.now.key.now in
    let rs = c.fill.new.routes in
    let there : at_text key es ≡ Some c.in-Some.routes.now = text_lookup (is_at (text_cmp key)) c.args.texts.now.entries ∙ sym c.in-Some.ensures.value in
    given_current c.args.versions.now key es _ rs
    (λ k. ap (at_text k) (ap texts_of (c.get_mut.follows.holds rs).0 ∙ text_set (is_at (text_cmp key)) c.args.texts.now.entries rs) ∙ found_after_write text_total exact_bytes key k rs es (subst IsSome (sym there) refl))
    c.args.asking.now.hats.now c.requires.current c.fill.ensures.current

pub returns-clause-keeps : goal.returns-clause-keeps
returns-clause-keeps c =
    let es = texts_of c.args.texts.now.entries in
    let key = c.args.asking.now.key.now in
    let rs = c.fill.new.routes in
    let there : at_text key es ≡ Some c.in-Some.routes.now = text_lookup (is_at (text_cmp key)) c.args.texts.now.entries ∙ sym c.in-Some.ensures.value in
    given_keeps c.args.versions.now key es _ rs
    (λ k. ap (at_text k) (ap texts_of (c.get_mut.follows.holds rs).0 ∙ text_set (is_at (text_cmp key)) c.args.texts.now.entries rs) ∙ found_after_write text_total exact_bytes key k rs es (subst IsSome (sym there) refl))
    c.in-Some.routes.now there c.fill.ensures.keeps

pub returns-clause-kept : goal.returns-clause-kept
returns-clause-kept c =
    let es = texts_of c.args.texts.now.entries in
    let key = c.args.asking.now.key.now in
    let rs = c.fill.new.routes in
    let there : at_text key es ≡ Some c.in-Some.routes.now = text_lookup (is_at (text_cmp key)) c.args.texts.now.entries ∙ sym c.in-Some.ensures.value in
    on_ok_weaker c.fill.result
    (given_kept c.args.versions.now key es _ rs
    (λ k. ap (at_text k) (ap texts_of (c.get_mut.follows.holds rs).0 ∙ text_set (is_at (text_cmp key)) c.args.texts.now.entries rs) ∙ found_after_write text_total exact_bytes key k rs es (subst IsSome (sym there) refl))
    (asker_of c.args.asking.now.asker) (values_of c.args.asking.now.hats.now))
    c.fill.ensures.kept

pub returns-clause-others : goal.returns-clause-others
returns-clause-others c =
    let es = texts_of c.args.texts.now.entries in
    let key = c.args.asking.now.key.now in
    let rs = c.fill.new.routes in
    let there : at_text key es ≡ Some c.in-Some.routes.now = text_lookup (is_at (text_cmp key)) c.args.texts.now.entries ∙ sym c.in-Some.ensures.value in
    given_others c.args.versions.now key es _ rs
    (λ k. ap (at_text k) (ap texts_of (c.get_mut.follows.holds rs).0 ∙ text_set (is_at (text_cmp key)) c.args.texts.now.entries rs) ∙ found_after_write text_total exact_bytes key k rs es (subst IsSome (sym there) refl))
