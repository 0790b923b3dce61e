use Rattle.std.proofs.Common.{◌≡◌, ◌∙◌, sym, ap, subst, Some, length}
use Rattle.std.specs.Prelude.{◌==◌}
use Rattle.std.specs.Map.{set_value, remove_entry}
use Rattle.std.specs.BTreeMap.{is_at}
use Rattle.zq_index.specs.Texts.{text_cmp, texts_of, at_text}
use Rattle.zq_index.specs.Holders.{AreListed}
use Rattle.zq_index.proofs.Listed.{listed_over}
use Rattle.zq_index.proofs.Texts.{text_lookup, text_set}
use Rattle.zq_index.proofs.holders.take_from.Goals as goal

pub returns-clause-after : goal.returns-clause-after
returns-clause-after g c hs is =
    let test = is_at (text_cmp c.args.key.now) in
    let index = texts_of c.args.keys.now.entries in
    let there : at_text c.args.key.now index ≡ Some c.in-Some.holders.now = text_lookup test c.args.keys.now.entries ∙ sym c.in-Some.ensures.value in
    let same : c.in-Some.holders.now ≡ hs = let both : Some c.in-Some.holders.now ≡ Some hs = sym there ∙ is in cc in
    let left = c.take.ensures.after ∙ ap (remove_entry (is_at (g.P.Ord.cmp c.args.place))) same in (
      c.take.ensures.empty ∙ ap (λ l. length l == 0) left,
      ap texts_of (c.get_mut.follows.holds c.take.new.self).0 ∙ text_set test c.args.keys.now.entries c.take.new.self ∙ ap (set_value test index) left,
    )

pub returns-clause-listed : goal.returns-clause-listed
returns-clause-listed g c texts listed =
    let test = is_at (text_cmp c.args.key.now) in
    let index = texts_of c.args.keys.now.entries in
    subst (λ es. AreListed es texts) (sym (ap texts_of (c.get_mut.follows.holds c.take.new.self).0 ∙ text_set test c.args.keys.now.entries c.take.new.self))
    (listed_over c.args.key.now c.take.new.self index texts listed)
