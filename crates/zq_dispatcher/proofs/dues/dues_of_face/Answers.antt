use Rattle.std.proofs.Common.{◌≡◌, ◌∙◌, ap, sym, ◌++◌, ◌∷◌, [], ◌+◌, map, take, ℕ, List}
use Rattle.std.specs.Prelude.{string_bytes}
use Rattle.std.specs.List.{flat_map}
use Rattle.std.specs.Option.{option_copied}
use Rattle.zq_told.specs.Telling.{KeyDue}
use Rattle.zq_dispatcher.specs.Asking.{asking_in}
use Rattle.zq_dispatcher.specs.Dues.{listed_due}
use Rattle.std.proofs.lemmas.List.{flat_map_more, take_more}
use Rattle.zq_dispatcher.proofs.dues.dues_of_face.Goals as goal

pub loop-key-preserved : goal.loop-key-preserved
loop-key-preserved c =
    let keys = c.args.keys.now in
    let key : List ℕ = c.key-item.result in
    let f : List ℕ → List KeyDue = listed_due (asking_in c.args.interests.now c.args.face.0) (option_copied c.args.next) (map string_bytes c.args.touched.now.keys) c.args.face.0 c.args.opened c.args.hats.now in
    let index = c.loop-key.key-index in
    let more : flat_map f (take (index + 1) keys) ≡ flat_map f (take index keys) ++ f key = ap (flat_map f) (take_more keys index key c.loop-key-test.true ∙ ap (λ k. take index keys ++ k ∷ []) (sym c.key-item.is)) ∙ sym (flat_map_more f [] (take index keys) key) in
    record {
      dues = c.in_ok-list_due.ensures.dues ∙ (λ i. c.loop-key.invariant.dues i ++ f (c.as_str-text.ensures i)) ∙ sym more;
      gathered = c.in_ok-list_due.ensures.gathered;
    }
