use Rattle.std.proofs.Common.{◌∙◌, sym, ap, rules, None, cond}
use Rattle.std.specs.Prelude.{string_bytes}
use Rattle.std.specs.Map.{lookup}
use Rattle.std.specs.BTreeMap.{is_at}
use Rattle.std.proofs.lemmas.Map.Entries.{lookup-filter-keys}
use Rattle.std.proofs.lemmas.Map.Lookups.{exact_bytes}
use Rattle.std.proofs.lemmas.Map.Made.{filter_same_pairs}
use Rattle.zq_key.proofs.Lookups.{same_key}
use Rattle.zq_index.specs.Texts.{text_cmp}
use Rattle.zq_index.proofs.Orders.{text_total}
use Rattle.zq_index.proofs.Texts.{text_lookup}
use Rattle.zq_tables.specs.Naming.{has_context}
use Rattle.zq_kept.proofs.table.retain_named.Goals as goal

pub returns : goal.returns
returns g c k =
    let names = c.args.names.now in
    let old = c.args.texts.now.entries in
    let new = c.retain.new.self.entries in
    let left = filter_same_pairs _ (λ e. has_context (string_bytes e.0) names) _ (λ s v b w f t. search rules) old new c.retain.ensures.filtered in
    text_lookup (is_at (text_cmp k)) new
    ∙ ap (lookup (λ s. is_at (text_cmp k) (string_bytes s))) left
    ∙ lookup-filter-keys (λ s. is_at (text_cmp k) (string_bytes s)) (λ s. has_context (string_bytes s) names) (has_context k names) (λ s e. ap (λ t. has_context t names) (sym (same_key text_total exact_bytes k (string_bytes s) e))) old
    ∙ ap (λ o. cond (has_context k names) o None) (sym (text_lookup (is_at (text_cmp k)) old))
