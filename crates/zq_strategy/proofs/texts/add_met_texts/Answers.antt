use Rattle.std.proofs.Common.{◌∙◌, ap, fold, map, ℕ, List}
use Rattle.std.specs.Prelude.{filter, string_bytes}
use Rattle.std.specs.BTreeSet.{insert_key}
use Rattle.std.specs.Map.{keys_of}
use Rattle.zq_key.specs.Key.{intersects}
use Rattle.zq_index.specs.Texts.{text_cmp, texts_of}
use Rattle.zq_strategy.specs.Met.{is_met}
use Rattle.zq_strategy.proofs.Gathering.{gathered, put_text, texts_gathered}
use Rattle.zq_strategy.proofs.texts.add_met_texts.Goals as goal

pub returns : goal.returns
returns g c =
    let q = c.args.q.now in
    let es = texts_of c.keys.result.now.entries in
    let texts = map string_bytes c.args.texts.now.keys in
    gathered _ (λ s. map string_bytes s.keys) (put_text q) (λ was e next same. same) (filter (is_met q) es) c.args.texts.now c.gather_all.new.found c.in_ok-gather_all.ensures
    ∙ texts_gathered q es texts
    ∙ ap (λ l. fold (insert_key text_cmp) texts (filter (λ k. intersects k q) (keys_of l))) c.keys.ensures
