use Rattle.std.proofs.Common.{◌≡◌, ◌∙◌, ◌++◌, ◌∷◌, [], ap, map, sym}
use Rattle.std.specs.String.{string_bytes}
use Rattle.std.proofs.lemmas.Bool.{and_parts}
use Rattle.zq_index.specs.Texts.{texts_of}
use Rattle.zq_key.specs.Key.{is_plain}
use Rattle.zq_store.specs.Held.{are_plain, meeting}
use Rattle.zq_store.specs.Pair.{pair_of}
use Rattle.zq_store.proofs.Range.{next_meeting}
use Rattle.zq_store.proofs.held.push_each.Goals as goal

pub loop-text-preserved : goal.loop-text-preserved
loop-text-preserved c =
    let key = c.args.key.now in
    let text = string_bytes c.in-Some.text.now in
    let value = c.in-Some.value.now in
    let left = texts_of c.next.new.self in
    let found = c.loop-text.found in
    let there : texts_of c.loop-text.text-iterator ≡ (text, value) ∷ left = ap texts_of c.in-Some.ensures.steps in
    record {
      found = ap (λ l. l ++ map pair_of (meeting key left)) (c.in_ok-push_pair.ensures ∙ ap (λ t. found ++ map pair_of (meeting key ((t, value) ∷ []))) c.as_str.ensures.value)
          ∙ next_meeting key found (text, value) left
          ∙ sym (ap (λ l. found ++ map pair_of (meeting key l)) there)
          ∙ c.loop-text.invariant.found;
      plain = (and_parts (is_plain text) (are_plain left) (sym (ap are_plain there) ∙ c.loop-text.invariant.plain)).1;
    }
