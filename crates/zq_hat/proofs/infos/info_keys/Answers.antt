use Rattle.std.proofs.Common.{◌≡◌, sym, ap, subst, map, true, []}
use Rattle.std.specs.List.{AllByRecursion}
use Rattle.std.specs.String.{string_bytes}
use Rattle.zq_key.specs.Key.{is_key}
use Rattle.zq_index.specs.Texts.{text_cmp}
use Rattle.zq_strategy.specs.Trees.{region_keys}
use Rattle.zq_hat.proofs.Gathering.{all_in}
use Rattle.zq_hat.proofs.infos.info_keys.Goals as goal

pub returns-clause-valid : goal.returns-clause-valid
returns-clause-valid c =
    let none : map string_bytes c.new-keys.result.keys ≡ [] = ap (map string_bytes) c.new-keys.ensures.empty in
    subst (AllByRecursion (λ k. is_key k ≡ true)) (sym c.in_ok-add_keys.ensures.joined)
    (all_in text_cmp (λ k. is_key k ≡ true) (region_keys c.args.hat.now) (map string_bytes c.new-keys.result.keys) (subst (AllByRecursion (λ k. is_key k ≡ true)) (sym none) tt) c.in_ok-add_keys.ensures.valid)
