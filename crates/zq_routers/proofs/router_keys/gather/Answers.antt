use Rattle.std.proofs.Common.{◌∙◌, ap, sym, map}
use Rattle.std.specs.Prelude.{◌||◌}
use Rattle.std.specs.BTreeSet.{contains_text, insert_key}
use Rattle.std.specs.String.{string_bytes}
use Rattle.zq_index.specs.Texts.{text_cmp, has_text}
use Rattle.zq_routers.proofs.Gathering.{contains_is, joined_next}
use Rattle.zq_routers.proofs.router_keys.gather.Goals as goal

pub loop-key-init : goal.loop-key-init
loop-key-init c k =
    ap (λ ks. contains_text c.args.texts.now k || has_text k (map string_bytes ks)) c.into_iter-key-iterator.ensures.into_iter_gives.0
    ∙ ap (λ b. contains_text c.args.texts.now k || b) (contains_is c.args.keys.now k)

pub loop-key-preserved : goal.loop-key-preserved
loop-key-preserved c k =
    joined_next c.loop-key.texts c.put_text.new.texts (string_bytes c.in-Some.key.now) (map string_bytes c.next.new.self)
    (c.in_ok-put_text.ensures.ok ∙ ap (insert_key text_cmp (map string_bytes c.loop-key.texts.keys)) c.as_str.ensures.value) k
    ∙ ap (λ ks. contains_text c.loop-key.texts k || has_text k (map string_bytes ks)) (sym c.in-Some.ensures.steps)
    ∙ c.loop-key.invariant k
