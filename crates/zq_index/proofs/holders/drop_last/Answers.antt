use Rattle.std.proofs.Common.{◌≡◌, ◌∙◌, sym, ap, subst, None}
use Rattle.std.specs.BTreeMap.{is_at}
use Rattle.std.specs.Map.{remove_entry}
use Rattle.zq_index.specs.Texts.{text_cmp, at_text, lists_without, texts_of}
use Rattle.zq_index.specs.Holders.{AreListed}
use Rattle.zq_index.proofs.Listed.{listed_out}
use Rattle.zq_index.proofs.holders.drop_last.Goals as goal

pub returns-clause-listed : goal.returns-clause-listed
returns-clause-listed g c =
    let key = c.args.key.now in
    let index = texts_of c.args.keys.now.entries in
    let gone : at_text key (remove_entry (is_at (text_cmp key)) index) ≡ None = ap (at_text key) (sym c.drop_key.ensures.after) ∙ c.drop_key.ensures.gone in
    subst (AreListed (texts_of c.drop_key.new.keys.entries)) (sym c.take.ensures)
    (subst (λ es. AreListed es (lists_without key c.args.lists.now)) (sym c.drop_key.ensures.after) (listed_out key index c.args.lists.now c.requires gone))
