use Rattle.std.proofs.Common.{◌≡◌, ◌∙◌, ap, arith, filter, fold, map, subst, sym, true}
use Rattle.std.specs.Prelude.{string_bytes}
use Rattle.std.specs.Option.{option_copied}
use Rattle.std.proofs.lemmas.Grind.{common_steps}
use Rattle.zq_key.specs.Key.{is_key}
use Rattle.zq_index.specs.Texts.{text_cmp}
use Rattle.zq_strategy.specs.Trees.{region_keys}
use Rattle.zq_interests.specs.Interests.{meets}
use Rattle.zq_dispatcher.specs.Dues.{AreKeys}
use Rattle.zq_dispatcher.proofs.KeysGathered.{all_in}
use Rattle.zq_dispatcher.proofs.KeysMet.{all_passing, met_are, with_met}
use Rattle.zq_dispatcher.proofs.keys.met_texts.Goals as goal

pub loop-hat-preserved : goal.loop-hat-preserved
loop-hat-preserved c =
    let hat = c.in-Some.hat.now in
    let test = meets (option_copied c.args.asked) in
    let joined = c.in_ok-add_met.ensures.joined in
    record {
      can = tt;
      ends = tt;
      rest = grind (arith, common_steps, joined, c.loop-hat.invariant.rest, c.in-Some.ensures.steps);
      valid = subst AreKeys (sym joined)
          (all_in text_cmp (λ k. is_key k ≡ true) (filter test (region_keys hat)) (map string_bytes c.loop-hat.keys.keys) c.loop-hat.invariant.valid
          (all_passing (λ k. is_key k ≡ true) test (region_keys hat) c.in_ok-add_met.ensures.valid));
    }

pub returns-clause-keys : goal.returns-clause-keys
returns-clause-keys c =
    let test = meets (option_copied c.args.asked) in
    ap (fold (with_met test) (map string_bytes c.loop-hat.keys.keys)) (sym c.in-None.ensures.steps.0)
    ∙ c.loop-hat.invariant.rest
    ∙ met_are test c.args.hats.now
