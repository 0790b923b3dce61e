use Rattle.std.proofs.Common.{◌≡◌, ◌∙◌, sym, ap, subst, Some, [], ◌∷◌}
use Rattle.std.specs.Option.{option_map_or}
use Rattle.std.specs.Map.{set_value}
use Rattle.std.specs.BTreeMap.{is_at, insert_entry}
use Rattle.zq_index.specs.Texts.{text_cmp, texts_of, at_text}
use Rattle.zq_index.specs.Holders.{AreListed}
use Rattle.zq_index.proofs.Listed.{listed_beside}
use Rattle.zq_index.proofs.Texts.{text_lookup, text_set}
use Rattle.zq_index.proofs.holders.put_beside.Goals as goal

pub returns-in-Ok-clause-ok : goal.returns-in-Ok-clause-ok
returns-in-Ok-clause-ok g c =
    let test = is_at (text_cmp c.args.key.now) in
    let index = texts_of c.args.keys.now.entries in
    let there : at_text c.args.key.now index ≡ Some c.in-Some.holders.now = text_lookup test c.args.keys.now.entries ∙ sym c.in-Some.ensures.value in
    ap texts_of (c.get_mut.follows.holds c.put.new.self).0
    ∙ text_set test c.args.keys.now.entries c.put.new.self
    ∙ ap (set_value test index) c.in-Ok.ensures.ok
    ∙ sym (ap (λ o. option_map_or (λ hs. set_value test index (insert_entry g.P.Ord.cmp hs c.args.place c.args.info)) o (insert_entry text_cmp index c.args.key.now ((c.args.place, c.args.info) ∷ []))) there)

pub returns-in-Ok-clause-listed : goal.returns-in-Ok-clause-listed
returns-in-Ok-clause-listed g c texts listed =
    subst (λ es. AreListed es texts) (sym (returns-in-Ok-clause-ok g c))
    (listed_beside g.P.Ord.cmp c.args.key.now c.args.place c.args.info (texts_of c.args.keys.now.entries) texts c.requires listed)
