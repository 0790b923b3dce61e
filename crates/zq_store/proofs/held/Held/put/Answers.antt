use Rattle.std.proofs.Common.{◌≡◌, ◌∙◌, ap, true, subst, sym}
use Rattle.std.specs.String.{string_bytes}
use Rattle.zq_key.specs.Key.{is_plain}
use Rattle.zq_index.specs.Texts.{texts_of}
use Rattle.zq_index.proofs.Texts.{text_insert}
use Rattle.zq_store.specs.Held.{are_plain}
use Rattle.zq_store.proofs.Plainness.{plain_put}
use Rattle.zq_store.proofs.held.Held.put.Goals as goal

pub invariant_of-self : goal.invariant_of-self
invariant_of-self c =
    let before = c.self.inside.pairs.entries in
    ap are_plain (ap texts_of c.in-Ok.ensures.entries ∙ text_insert c.in_ok-text.text c.in_ok-value.value before)
    ∙ plain_put (texts_of before) (string_bytes c.in_ok-text.text) c.in_ok-value.value c.self.invariant (subst (λ t. is_plain t ≡ true) (sym (c.in_ok-text.ensures.ok ∙ c.as_str.ensures.text)) c.requires)
