-- What stands for keys by the names is what stands at the open faces and of the entries in the hats.
use Rattle.std.proofs.Common.{◌≡◌, ◌∙◌, refl, sym, ap, subst, ℕ, true, cond, List, [], ◌∷◌, ◌++◌, Option, Some, unwrap_or}
use Rattle.std.specs.BTreeMap.{is_at}
use Rattle.std.specs.List.{AllByRecursion, flat_map, list_any}
use Rattle.std.specs.Map.{keys_of, values_of}
use Rattle.std.specs.Option.{is_some, option_map_or}
use Rattle.std.specs.Ordering.{nat_cmp}
use Rattle.std.specs.Str.{bytes_eq}
use Rattle.std.proofs.lemmas.Cmp.{nat_cmp_total}
use Rattle.std.proofs.lemmas.Map.Lookups.{exact_unsigned}
use Rattle.std.proofs.lemmas.Map.Made.{is_some-lookup}
use Rattle.zq_key.proofs.Lookups.{each_entry}
use Rattle.zq_key.proofs.Sorted.{same_keys}
use Rattle.zq_strategy.specs.State.{HatState}
use Rattle.zq_names.specs.Texts.{heads}
use Rattle.zq_tables.specs.Naming.{FaceKeys, Names, all_texts, face_keys, face_queryables, face_texts, has_context, naming_at, no_keys}
use Rattle.zq_machine.specs.Agreeing.{Agrees, keys_in}
use Rattle.zq_machine.specs.State.{State, entry_rows, has_keys, hat_of, is_open}
use Rattle.zq_machine.proofs.Agreed.{agree_always}
use Rattle.zq_machine.proofs.Agreeing.{some_of}
use Rattle.zq_gateway.specs.Contexts.{declared_by, entered_in, has_standing, standing_at, standing_texts}
use Rattle.zq_gateway.specs.Making.{IsReached}
use Rattle.zq_gateway.proofs.Reached.{reached_in_order}

-- a region without entries has no key
entries_flat : (hats : List (ℕ × HatState)) → flat_map (λ (p : ℕ × List (List ℕ)). p.1) (entry_rows hats) ≡ flat_map entered_in hats
entries_flat [] = refl
entries_flat (h ∷ hats) = by (keys_of h.1.entries) (entries_flat hats)
  where
    by : (ks : List (List ℕ)) → flat_map (λ (p : ℕ × List (List ℕ)). p.1) (entry_rows hats) ≡ flat_map entered_in hats
        → flat_map (λ (p : ℕ × List (List ℕ)). p.1) (cond (has_keys ks) ((h.0, ks) ∷ entry_rows hats) (entry_rows hats)) ≡ ks ++ flat_map entered_in hats
    by [] rest = rest
    by (k ∷ ks) rest = ap (λ l. (k ∷ ks) ++ l) rest

module _ (s : State) (i : IsReached s) where
  agreed : Agrees s
  agreed = subst Agrees (sym i.here) (agree_always i.config i.calls)

  -- the hat of an open face has its queryables
  declared_is : (face : ℕ) → is_open face s.core ≡ true → face_queryables face s.names ≡ declared_by s face
  declared_is face opens =
      let h : (h : HatState) × (hat_of face s.core ≡ Some h) = some_of (hat_of face s.core) (agreed.homes face opens) in
      agreed.held face h.0 h.1 ∙ sym (ap (λ (o : Option HatState). option_map_or (keys_in face) o []) h.1)

  face_stands : (face : ℕ) (n : FaceKeys) → naming_at face s.names ≡ Some n → face_texts n ≡ standing_at s face
  face_stands face n is =
      let n' : FaceKeys = face_keys face s.names in
      ap face_texts (sym (ap (λ o. unwrap_or o no_keys) is))
      ∙ ap (λ (q : Names). values_of n'.numbers.theirs ++ values_of n'.numbers.ours ++ values_of q ++ values_of n'.interests) (declared_is face (sym (agreed.named face) ∙ ap is_some is))

  each_stands : (es : List (ℕ × FaceKeys)) → AllByRecursion (λ (e : ℕ × FaceKeys). face_texts e.1 ≡ standing_at s e.0) es → flat_map face_texts (values_of es) ≡ flat_map (standing_at s) (keys_of es)
  each_stands [] all = refl
  each_stands (e ∷ es) all = λ j. all.0 j ++ each_stands es all.1 j

  -- the faces by the names are the open ones
  same_faces : keys_of s.names.faces ≡ keys_of s.core.faces
  same_faces =
      let order = reached_in_order s i in
      same_keys nat_cmp_total exact_unsigned (keys_of s.names.faces) (keys_of s.core.faces) order.tied.names_sorted order.sound.sorted
      (λ q. sym (is_some-lookup (is_at (nat_cmp q)) s.names.faces) ∙ agreed.named q ∙ is_some-lookup (is_at (nat_cmp q)) s.core.faces)

  all_stand : all_texts s.names ≡ standing_texts s
  all_stand =
      let order = reached_in_order s i in
      let faces : flat_map face_texts (values_of s.names.faces) ≡ flat_map (standing_at s) (keys_of s.core.faces) =
      each_stands s.names.faces (each_entry nat_cmp_total exact_unsigned (λ (e : ℕ × FaceKeys). face_texts e.1 ≡ standing_at s e.0) s.names.faces order.tied.names_sorted face_stands)
      ∙ ap (flat_map (standing_at s)) same_faces in
      let entries : flat_map (λ (p : ℕ × List (List ℕ)). p.1) s.names.rows ≡ flat_map entered_in s.core.hats = ap (flat_map (λ (p : ℕ × List (List ℕ)). p.1)) agreed.routed ∙ entries_flat s.core.hats in
      λ j. faces j ++ entries j

  -- a text has a node by the names where it has one by what stands
  pub standing_is : (key : List ℕ) → has_context key s.names ≡ has_standing key s
  standing_is [] = refl
  standing_is (b ∷ t) = ap (λ ts. list_any (bytes_eq (b ∷ t)) (flat_map heads ts)) all_stand
