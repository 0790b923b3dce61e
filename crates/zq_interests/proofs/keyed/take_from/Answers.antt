use Rattle.std.proofs.Common.{rules, ◌≡◌, ◌∙◌, sym, ap, cond, Some, None, List, Option, ℕ, length}
use Rattle.std.specs.Prelude.{◌==◌, ◌&&◌}
use Rattle.std.specs.BTreeMap.{is_at}
use Rattle.std.specs.Map.{set_value}
use Rattle.std.specs.Option.{is_some}
use Rattle.zq_key.proofs.Lookups.{at_itself}
use Rattle.zq_index.specs.Holders.{Place}
use Rattle.zq_index.specs.Texts.{at_text, text_cmp, texts_of}
use Rattle.zq_index.proofs.Orders.{text_exact, text_total}
use Rattle.zq_index.proofs.Texts.{text_lookup, text_set}
use Rattle.zq_interests.specs.Kept.{Keyed, is_under, places_at}
use Rattle.zq_interests.proofs.Under.{here, none_under, nowhere, same_texts, taken_under, written}
use Rattle.zq_interests.proofs.keyed.take_from.Goals as goal

pub returns-in-Some-clause-after : goal.returns-in-Some-clause-after
returns-in-Some-clause-after c =
    let k : List ℕ = c.args.key.now in
    let test = is_at (text_cmp k) in
    let index : Keyed = texts_of c.args.keys.now.entries in
    let w : List Place = c.take.new.self in
    let was : List Place = c.in-Some.places.now in
    let there : at_text k index ≡ Some was = text_lookup test c.args.keys.now.entries ∙ sym c.in-Some.ensures.value in
    let new = ap texts_of (c.get_mut.follows.holds w).0 ∙ text_set test c.args.keys.now.entries w in
    λ t q. ap (is_under t q) new ∙ taken_under k index w (set_value test index w) (written k index w (ap is_some there)) c.args.place was (here k index was there) c.take.ensures.after t q

pub returns-in-Some-clause-empty : goal.returns-in-Some-clause-empty
returns-in-Some-clause-empty c =
    let k : List ℕ = c.args.key.now in
    let test = is_at (text_cmp k) in
    let index : Keyed = texts_of c.args.keys.now.entries in
    let w : List Place = c.take.new.self in
    let was : List Place = c.in-Some.places.now in
    let there : at_text k index ≡ Some was = text_lookup test c.args.keys.now.entries ∙ sym c.in-Some.ensures.value in
    let new = ap texts_of (c.get_mut.follows.holds w).0 ∙ text_set test c.args.keys.now.entries w in
    let left = ap (places_at k) new ∙ written k index w (ap is_some there) k ∙ ap (λ b. cond b w (places_at k index)) (at_itself text_total text_exact k) in
    c.take.ensures.empty ∙ sym (λ i. is_some (there i) && (length (left i) == 0))

pub returns-in-Some-clause-texts : goal.returns-in-Some-clause-texts
returns-in-Some-clause-texts c =
    let k : List ℕ = c.args.key.now in
    let w : List Place = c.take.new.self in
    let new = ap texts_of (c.get_mut.follows.holds w).0 ∙ text_set (is_at (text_cmp k)) c.args.keys.now.entries w in
    λ t. ap (λ (es : Keyed). is_some (at_text t es)) new ∙ same_texts k t w (texts_of c.args.keys.now.entries)

pub returns-in-None-clause-after : goal.returns-in-None-clause-after
returns-in-None-clause-after c =
    let k : List ℕ = c.args.key.now in
    let index : Keyed = texts_of c.args.keys.now.entries in
    let none : at_text k index ≡ None = text_lookup (is_at (text_cmp k)) c.args.keys.now.entries ∙ sym c.in-None.ensures.value in
    let same : c.get_mut.follows.lender-at-none.entries ≡ c.args.keys.now.entries = search rules in
    λ t q. ap (λ es. is_under t q (texts_of es)) same ∙ none_under k index c.args.place (nowhere k index none) t q

pub returns-in-None-clause-empty : goal.returns-in-None-clause-empty
returns-in-None-clause-empty c =
    let k : List ℕ = c.args.key.now in
    let none : at_text k (texts_of c.args.keys.now.entries) ≡ None = text_lookup (is_at (text_cmp k)) c.args.keys.now.entries ∙ sym c.in-None.ensures.value in
    let left : List Place = places_at k (texts_of c.get_mut.follows.lender-at-none.entries) in
    sym (ap (λ (o : Option (List Place)). is_some o && (length left == 0)) none)
