use Rattle.std.proofs.Common.{◌≡◌, ◌∙◌, sym, ap, Some, List, ℕ}
use Rattle.std.specs.BTreeMap.{is_at}
use Rattle.std.specs.Map.{set_value}
use Rattle.std.specs.Option.{is_some}
use Rattle.std.proofs.lemmas.Map.Steps.{set_value_same}
use Rattle.zq_index.specs.Holders.{Place}
use Rattle.zq_index.specs.Texts.{at_text, text_cmp, texts_of}
use Rattle.zq_index.proofs.Texts.{text_lookup, text_set}
use Rattle.zq_interests.specs.Kept.{Keyed, is_under}
use Rattle.zq_interests.proofs.Under.{here, put_under, same_texts, written}
use Rattle.zq_interests.proofs.keyed.put_beside.Goals as goal

pub returns-in-Ok-clause-ok : goal.returns-in-Ok-clause-ok
returns-in-Ok-clause-ok c =
    let k : List ℕ = c.args.key.now in
    let test = is_at (text_cmp k) in
    let index : Keyed = texts_of c.args.keys.now.entries in
    let w : List Place = c.put.new.self in
    let was : List Place = c.in-Some.places.now in
    let there : at_text k index ≡ Some was = text_lookup test c.args.keys.now.entries ∙ sym c.in-Some.ensures.value in
    let new = ap texts_of (c.get_mut.follows.holds w).0 ∙ text_set test c.args.keys.now.entries w in
    λ t q. ap (is_under t q) new ∙ put_under k index w (set_value test index w) (written k index w c.requires) c.args.place was (here k index was there) c.in-Ok.ensures.ok t q

pub returns-in-Ok-clause-texts : goal.returns-in-Ok-clause-texts
returns-in-Ok-clause-texts c =
    let k : List ℕ = c.args.key.now in
    let w : List Place = c.put.new.self in
    let new = ap texts_of (c.get_mut.follows.holds w).0 ∙ text_set (is_at (text_cmp k)) c.args.keys.now.entries w in
    λ t. ap (λ (es : Keyed). is_some (at_text t es)) new ∙ same_texts k t w (texts_of c.args.keys.now.entries)

pub returns-in-Err-clause-err : goal.returns-in-Err-clause-err
returns-in-Err-clause-err c =
    let test = is_at (text_cmp c.args.key.now) in
    let index : Keyed = texts_of c.args.keys.now.entries in
    let w : List Place = c.put.new.self in
    let was : List Place = c.in-Some.places.now in
    let there : at_text c.args.key.now index ≡ Some was = text_lookup test c.args.keys.now.entries ∙ sym c.in-Some.ensures.value in
    ap texts_of (c.get_mut.follows.holds w).0 ∙ text_set test c.args.keys.now.entries w ∙ ap (set_value test index) c.in-Err.ensures.err ∙ set_value_same test index was there

pub returns-in-Err-clause-texts : goal.returns-in-Err-clause-texts
returns-in-Err-clause-texts c = λ t. ap (λ (es : Keyed). is_some (at_text t es)) (returns-in-Err-clause-err c)
