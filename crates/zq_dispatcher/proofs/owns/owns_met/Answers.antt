use Rattle.std.proofs.Common.{◌≡◌, ◌∙◌, ap, subst, sym, take, [], ◌∷◌, ◌++◌, ◌+◌, ℕ, List}
use Rattle.std.specs.Prelude.{◌&&◌, ◌||◌}
use Rattle.std.proofs.lemmas.List.{take_more}
use Rattle.zq_key.specs.Key.{intersects}
use Rattle.zq_index.specs.Texts.{has_text}
use Rattle.zq_interests.specs.Interests.{Interests, own_keys}
use Rattle.zq_dispatcher.specs.Owns.{AreOwns, Owns, owns_of}
use Rattle.zq_dispatcher.proofs.Owning.{one_more}
use Rattle.zq_dispatcher.proofs.owns.owns_met.Goals as goal

pub loop-key-preserved : goal.loop-key-preserved
loop-key-preserved c =
    let keys : List (List ℕ) = c.args.keys.now in
    let key : List ℕ = c.key-item.result in
    let ints : Interests = c.args.interests.now in
    let index = c.loop-key.key-index in
    let owns : Owns = c.loop-key.owns.entries in
    let more : Owns = c.put_met.new.owns.entries in
    let first : take (index + 1) keys ≡ take index keys ++ key ∷ [] = take_more keys index key c.loop-key-test.true ∙ ap (λ k. take index keys ++ k ∷ []) (sym c.key-item.is) in
    record {
      met =
          subst (λ ks. AreOwns ks ints more) (sym first)
          (one_more (take index keys) key ints owns more c.loop-key.invariant.met
          (λ face own. c.in_ok-put_met.ensures.met face own ∙ ap (λ k. (intersects k own && has_text own (own_keys face ints)) || has_text own (owns_of face owns)) c.as_str.ensures));
      valid = c.in_ok-put_met.ensures.valid c.loop-key.invariant.valid;
    }
