use Rattle.std.proofs.Common.{◌∙◌, sym, ap, List, [], ℕ}
use Rattle.std.specs.BTreeMap.{insert_entry, is_at}
use Rattle.std.specs.Option.{is_some}
use Rattle.std.specs.Prelude.{◌||◌}
use Rattle.zq_index.specs.Holders.{Place, place_cmp}
use Rattle.zq_index.specs.Texts.{at_text, text_cmp, texts_of}
use Rattle.zq_interests.specs.Kept.{Keyed, has_place, is_under}
use Rattle.zq_interests.proofs.Under.{inserted, nowhere, one_more, put_under}
use Rattle.zq_interests.proofs.keyed.put_first.Goals as goal

pub returns-in-Ok-clause-ok : goal.returns-in-Ok-clause-ok
returns-in-Ok-clause-ok c =
    let k : List ℕ = c.args.key.now in
    let index : Keyed = texts_of c.args.keys.now.entries in
    let w : List Place = c.put.new.self in
    λ t q. ap (is_under t q) c.in-Ok.ensures.ok
    ∙ put_under k index w (insert_entry text_cmp index k w) (inserted k index w) c.args.place [] (nowhere k index c.requires)
    (λ p. c.in_ok-put.ensures.ok p ∙ ap (λ (ps : List Place). is_at (place_cmp c.args.place) p || has_place p ps) c.new-places.ensures) t q

pub returns-in-Ok-clause-texts : goal.returns-in-Ok-clause-texts
returns-in-Ok-clause-texts c =
    let k : List ℕ = c.args.key.now in
    let index : Keyed = texts_of c.args.keys.now.entries in
    let w : List Place = c.put.new.self in
    λ t some. one_more k t w index (sym (ap (λ (es : Keyed). is_some (at_text t es)) c.in-Ok.ensures.ok) ∙ some)
