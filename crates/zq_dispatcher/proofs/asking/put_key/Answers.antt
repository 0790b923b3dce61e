use Rattle.std.proofs.Common.{◌≡◌, map, true}
use Rattle.std.specs.Prelude.{string_bytes}
use Rattle.zq_key.specs.Key.{is_key}
use Rattle.zq_index.specs.Texts.{text_cmp}
use Rattle.zq_dispatcher.proofs.KeysGathered.{one_in}
use Rattle.zq_dispatcher.proofs.KeysMet.{ok_keys}
use Rattle.zq_dispatcher.proofs.asking.put_key.Goals as goal

pub returns-clause-valid : goal.returns-clause-valid
returns-clause-valid c all =
    ok_keys c.put_text.result (map string_bytes c.put_text.new.texts.keys) _ c.put_text.ensures.ok (one_in text_cmp (λ k. is_key k ≡ true) c.args.key.now (map string_bytes c.args.texts.now.keys) c.requires all)
