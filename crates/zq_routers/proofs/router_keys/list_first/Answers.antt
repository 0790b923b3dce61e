use Rattle.std.proofs.Common.{◌∙◌, ap, true, cond, sym}
use Rattle.std.specs.BTreeSet.{contains_text}
use Rattle.std.specs.BTreeMap.{is_at}
use Rattle.std.specs.List.{list_any}
use Rattle.std.specs.String.{string_bytes}
use Rattle.zq_index.specs.Texts.{text_cmp}
use Rattle.std.specs.Str.{bytes_eq}
use Rattle.std.proofs.lemmas.Map.Text.{btree_set_updates_text}
use Rattle.zq_routers.proofs.Keys.{changed, had_none}
use Rattle.zq_routers.proofs.router_keys.list_first.Goals as goal

pub returns-in-Ok-clause-ok : goal.returns-in-Ok-clause-ok
returns-in-Ok-clause-ok c =
    changed c.args.router c.args.key.now true c.args.routers.now.entries c.insert-2.new.self.entries c.insert.new.self (contains_text c.new-keys.result)
    (λ k. had_none c.args.router c.args.routers.now.entries c.requires k ∙ ap (λ ks. list_any (is_at (λ s. text_cmp k (string_bytes s))) ks) (sym c.new-keys.ensures.empty))
    c.in-Ok.ensures.updates.0
    (λ k. btree_set_updates_text _ c.new-keys.result c.insert.new.self true c.in_ok-insert.ensures.updates k ∙ ap (λ x. cond (bytes_eq x k) true (contains_text c.new-keys.result k)) c.in_ok-from_str.ensures.ok)
