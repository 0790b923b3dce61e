use Rattle.std.proofs.Common.{◌≡◌, ◌∙◌, sym, ap, refl, ℕ, Bool, true, false, cond, List, [], Some, None, Option}
use Rattle.std.specs.BTreeMap.{is_at}
use Rattle.std.specs.Cmp.{nat_cmp_total}
use Rattle.std.specs.List.{list_any}
use Rattle.std.specs.Map.{remove_entry}
use Rattle.std.specs.Option.{is_some, option_map_or}
use Rattle.std.specs.Ordering.{nat_cmp}
use Rattle.std.proofs.lemmas.Map.Lookups.{exact_unsigned}
use Rattle.zq_key.proofs.Lookups.{apart, found_after_write}
use Rattle.zq_interests.specs.Interests.{Asked, Interests, at, has_keyed, interests_of, wants_keyed, without_interest}
use Rattle.zq_interests.proofs.Besides.{left_of}
use Rattle.zq_interests.proofs.Writing.{not_written}
use Rattle.zq_egress.proofs.without.WithoutInterestWantsKeys.has_keyed.Goals as goal

abbrev listed : Option Asked → Asked
listed o = option_map_or (λ (es : Asked). es) o []

-- what other faces ask stays
others_stay : (ints : Interests) (face id f : ℕ) → is_at (nat_cmp face) f ≡ false → interests_of f (without_interest face id ints) ≡ interests_of f ints
others_stay ints face id f away = by (at face ints) refl
  where
    left : Asked
    left = remove_entry (is_at (nat_cmp id)) (interests_of face ints)

    by : (o : Option Asked) → at face ints ≡ o → interests_of f (without_interest face id ints) ≡ interests_of f ints
    by None is = ap (interests_of f) (not_written (is_at (nat_cmp face)) left ints is)
    by (Some es) is = ap listed (found_after_write nat_cmp_total exact_unsigned face f left ints (ap is_some is) ∙ ap (λ b. cond b (Some left) (at f ints)) away)

pub returns-then-face-self : goal.returns-then-face-self
returns-then-face-self c =
    let own = c.args.self.now in
    c.has_keyed.ensures
    ∙ sym (ap (list_any (wants_keyed c.args.key.now)) (others_stay own.interests.now own.face.0 own.id c.args.face.0 (apart nat_cmp_total exact_unsigned own.face.0 c.args.face.0 (λ e. c.if-face-self.true (sym e)))))

pub returns-in-Some : goal.returns-in-Some
returns-in-Some c =
    let own = c.args.self.now in
    let ints = own.interests.now in
    let key = c.args.key.now in
    let face = c.args.face.0 in
    c.any_keyed.ensures
    ∙ ap (λ o. list_any (wants_keyed key) (remove_entry (is_at (nat_cmp own.id)) (listed o))) (c.in-Some.ensures)
    ∙ sym (ap (list_any (wants_keyed key)) (left_of ints face own.id))
    ∙ ap (λ n. has_keyed face key (without_interest n own.id ints)) c.if-face-self.false

pub returns-in-None : goal.returns-in-None
returns-in-None c =
    let own = c.args.self.now in
    let ints = own.interests.now in
    let key = c.args.key.now in
    let face = c.args.face.0 in
    ap (λ o. list_any (wants_keyed key) (remove_entry (is_at (nat_cmp own.id)) (listed o))) (c.in-None.ensures)
    ∙ sym (ap (list_any (wants_keyed key)) (left_of ints face own.id))
    ∙ ap (λ n. has_keyed face key (without_interest n own.id ints)) c.if-face-self.false
