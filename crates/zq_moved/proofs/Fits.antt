-- What stands for keys at a face, what the exit of its namespace keeps, and what the face knows, fit together: what is read as a text behind the namespace leaves, and is read as the text.
use Rattle.std.proofs.Common.{◌≡◌, ◌∙◌, refl, sym, ap, subst, ℕ, Bool, true, false, cond, List, [], ◌∷◌, ◌++◌, length, map, Option, Some, None, inl, inr, arith, eqb-true, append-nil, append_assoc}
use Rattle.std.specs.Prelude.{◌==◌, is_some}
use Rattle.std.specs.Option.{option_and_then, option_map}
use Rattle.std.specs.BTreeMap.{is_at}
use Rattle.std.specs.Ordering.{nat_cmp}
use Rattle.std.proofs.lemmas.Bool.{cases_eq, false≢true}
use Rattle.std.proofs.lemmas.Map.Made.{lookup-map_values}
use Rattle.std.proofs.lemmas.Option.{none-some, same_Some}
use Rattle.zq_key.specs.Key.{is_key, is_chunk, is_plain}
use Rattle.zq_key.specs.Space.{behind, strip}
use Rattle.zq_key.proofs.Behind.{key-behind, strip-behind}
use Rattle.zq_message.specs.declared.message.Mapping.{Mapping}
use Rattle.zq_message.specs.declared.message.Mapping.TheVariants as mapping
use Rattle.zq_message.specs.declared.message.WireExpr.{WireExpr}
use Rattle.zq_tables.specs.FaceIds.{with_id}
use Rattle.zq_tables.proofs.IdLemmas.{of_id-with_id, of_id-with_other}
use Rattle.zq_tables.specs.declared.resolved.Resolved.TheVariants as said
use Rattle.zq_tables.specs.Naming.{FaceNaming, read_by, said_plainly, said_under, text_at}
use Rattle.zq_namespace.specs.Exit.{head_at, headed_out, text_out, wire_out, with_text}
use Rattle.zq_namespace.specs.Leaves.{ExitState, with_head}
use Rattle.zq_moved.proofs.Under.{behind_one, leaves_behind, leaving}

-- a number's text with another, by number
abbrev pub moved_name : (List ℕ → List ℕ) → ℕ × List ℕ → ℕ × List ℕ
moved_name φ e = (e.0, φ e.1)

-- a text that does not leave by itself
abbrev pub blocked : List ℕ → List ℕ → Option (List ℕ)
blocked n x = cond (is_some (leaving n x)) None (Some x)

-- in a namespace: the face's own numbers stand behind it for what the face wrote; of a number that was declared to it the face knows what is left behind the namespace, or the exit keeps its text
pub record FitsSpace (e : ExitState) (k known : FaceNaming) : Type 0 where
  pub plain : is_plain e.ns ≡ true
  pub own : k.theirs ≡ map (moved_name (behind e.ns)) known.theirs
  pub under : (id : ℕ) (x p : List ℕ) → text_at id k.ours ≡ Some x → leaving e.ns x ≡ Some p → x ≡ behind e.ns p
  pub heads : (id : ℕ) → head_at id e.heads ≡ option_and_then (blocked e.ns) (text_at id k.ours)
  pub left : (id : ℕ) → text_at id known.ours ≡ option_and_then (leaving e.ns) (text_at id k.ours)
  pub queryables : e.queryables ≡ []

-- where there is no namespace the face knows what stands there
abbrev pub Fits : Option ExitState → FaceNaming → FaceNaming → Type 0
Fits None k known = known ≡ k
Fits (Some e) k known = FitsSpace e k known

-- a text as it is in the run
abbrev pub shift : Option ExitState → List ℕ → List ℕ
shift None t = t
shift (Some e) t = behind e.ns t

-- ---- what an expression says
some_text : (t : List ℕ) → is_key t ≡ true → said_plainly t ≡ said.Full t
unfolding is_key is_chunk
some_text [] h = absurd (false≢true h)
some_text (b ∷ t) h = refl

plainly_is : (s t : List ℕ) → said_plainly s ≡ said.Full t → s ≡ t
plainly_is [] t e = absurd (let gap : said.Empty ≡ said.Full t = e in cc)
plainly_is (b ∷ s) t e = cc

empty_is : (s : List ℕ) → length s ≡ 0 → s ≡ []
empty_is [] e = refl
empty_is (b ∷ s) e = absurd (omega (arith, e))

-- a text that a number stands for, with the suffix behind it
pub record Under (o : Option (List ℕ)) (suffix t : List ℕ) : Type 0 where
  pub text : List ℕ
  pub stands : o ≡ Some text
  pub joins : text ++ suffix ≡ t

under_is : (o : Option (List ℕ)) (s t : List ℕ) → said_under o s ≡ said.Full t → Under o s t
under_is None s t e = absurd (let gap : said.Unscoped ≡ said.Full t = e in cc)
under_is (Some x) s t e = record { text = x; stands = refl; joins = cc }

module _ (e : ExitState) (k known : FaceNaming) (fits : FitsSpace e k known) where
  -- what leaves of an expression, and how it is read
  pub record LeavesAs (w : WireExpr) (t : List ℕ) : Type 0 where
    pub wire : WireExpr
    pub leaves : wire_out e.ns e.heads w ≡ Some wire
    pub reads : read_by known wire ≡ said.Full t

  -- a whole text leaves
  whole_out : (w : WireExpr) (t : List ℕ) → is_key t ≡ true → text_out e.ns w (behind e.ns t) ≡ Some (with_text w t)
  whole_out w t key =
      ap (λ b. cond b (option_map (with_text w) (strip e.ns (behind e.ns t))) None) (key-behind e.ns t fits.plain ∙ key)
      ∙ ap (option_map (with_text w)) (strip-behind e.ns t fits.plain)

  joined : (y s t : List ℕ) → behind e.ns y ++ s ≡ behind e.ns t → y ++ s ≡ t
  joined y s t e' = behind_one e.ns fits.plain (y ++ s) t (sym (append_assoc e.ns (47 ∷ y) s) ∙ e')

  plainly_leaves : (m : Mapping) (s t : List ℕ) → is_key t ≡ true → read_by k (record { scope = 0; mapping = m; suffix = s }) ≡ said.Full (behind e.ns t) → LeavesAs (record { scope = 0; mapping = m; suffix = s }) t
  unfolding wire_out
  plainly_leaves m s t key says =
      let w : WireExpr = record { scope = 0; mapping = m; suffix = s } in
      record {
        wire = with_text w t;
        leaves = ap (text_out e.ns w) (plainly_is s (behind e.ns t) says) ∙ whole_out w t key;
        reads = some_text t key;
      }

  own_text : (id : ℕ) → text_at id k.theirs ≡ option_map (behind e.ns) (text_at id known.theirs)
  own_text id = ap (text_at id) fits.own ∙ lookup-map_values (behind e.ns) (is_at (nat_cmp id)) known.theirs

  own_leaves : (i : ℕ) (s t : List ℕ) → (i == 0) ≡ false → Under (text_at i k.theirs) s (behind e.ns t) → LeavesAs (record { scope = i; mapping = mapping.Receiver; suffix = s }) t
  unfolding wire_out
  own_leaves i s t z u =
      let w : WireExpr = record { scope = i; mapping = mapping.Receiver; suffix = s } in
      by (text_at i known.theirs) refl
    where
      by : (o : Option (List ℕ)) → text_at i known.theirs ≡ o → LeavesAs (record { scope = i; mapping = mapping.Receiver; suffix = s }) t
      by None is = absurd (none-some u.text (sym (own_text i ∙ ap (option_map (behind e.ns)) is) ∙ u.stands))
      by (Some y) is =
          let w : WireExpr = record { scope = i; mapping = mapping.Receiver; suffix = s } in
          let x : behind e.ns y ≡ u.text = same_Some _ _ (sym (own_text i ∙ ap (option_map (behind e.ns)) is) ∙ u.stands) in
          record {
            wire = w;
            leaves = ap (λ b. cond b (text_out e.ns w s) (Some w)) z;
            reads = ap (λ b. cond b (said_plainly s) (said_under (text_at i known.theirs) s)) z ∙ ap (λ o. said_under o s) is ∙ ap said.Full (joined y s t (ap (λ l. l ++ s) x ∙ u.joins));
          }

  told_leaves : (i : ℕ) (s t : List ℕ) → is_key t ≡ true → (i == 0) ≡ false → Under (text_at i k.ours) s (behind e.ns t) → LeavesAs (record { scope = i; mapping = mapping.Sender; suffix = s }) t
  unfolding wire_out
  told_leaves i s t key z u = by (leaving e.ns u.text) refl
    where
      w : WireExpr
      w = record { scope = i; mapping = mapping.Sender; suffix = s }

      goes : wire_out e.ns e.heads w ≡ headed_out e.ns w (head_at i e.heads)
      goes = ap (λ b. cond b (text_out e.ns w s) (headed_out e.ns w (head_at i e.heads))) z

      head_is : (o : Option (List ℕ)) → blocked e.ns u.text ≡ o → head_at i e.heads ≡ o
      head_is o b = fits.heads i ∙ ap (option_and_then (blocked e.ns)) u.stands ∙ b

      headed : (b : Bool) → (length s == 0) ≡ b → leaving e.ns u.text ≡ None → cond b None (text_out e.ns w (u.text ++ s)) ≡ Some (with_text w t)
      headed true zero none =
          let same : u.text ≡ behind e.ns t = sym (append-nil u.text) ∙ ap (λ l. u.text ++ l) (sym (empty_is s (eqb-true _ _ zero))) ∙ u.joins in
          absurd (none-some t (sym none ∙ ap (leaving e.ns) same ∙ leaves_behind e.ns fits.plain t key))
      headed false zero none = ap (text_out e.ns w) u.joins ∙ whole_out w t key

      by : (o : Option (List ℕ)) → leaving e.ns u.text ≡ o → LeavesAs w t
      by (Some p) is =
          let x : u.text ≡ behind e.ns p = fits.under i u.text p u.stands is in
          let knows : text_at i known.ours ≡ Some p = fits.left i ∙ ap (option_and_then (leaving e.ns)) u.stands ∙ is in
          record {
            wire = w;
            leaves = goes ∙ ap (headed_out e.ns w) (head_is None (ap (λ o. cond (is_some o) None (Some u.text)) is));
            reads = ap (λ b. cond b (said_plainly s) (said_under (text_at i known.ours) s)) z ∙ ap (λ o. said_under o s) knows ∙ ap said.Full (joined p s t (ap (λ l. l ++ s) (sym x) ∙ u.joins));
          }
      by None is =
          record {
            wire = with_text w t;
            leaves = goes ∙ ap (headed_out e.ns w) (head_is (Some u.text) (ap (λ o. cond (is_some o) None (Some u.text)) is)) ∙ headed (length s == 0) refl is;
            reads = some_text t key;
          }

  -- what is read as a text behind the namespace leaves, and the face reads it as the text
  pub space_leaves_as : (w : WireExpr) (t : List ℕ) → is_key t ≡ true → read_by k w ≡ said.Full (behind e.ns t) → LeavesAs w t
  space_leaves_as w t key says = by (w.scope == 0) refl w.mapping refl
    where
      by : (b : Bool) → (w.scope == 0) ≡ b → (m : Mapping) → w.mapping ≡ m → LeavesAs w t
      by true z m is =
          let none : 0 ≡ w.scope = sym (eqb-true _ _ z) in
          let same : record w { scope = 0 } ≡ w = ap (λ i. record w { scope = i }) none in
          subst (λ x. LeavesAs x t) same (plainly_leaves w.mapping w.suffix t key (ap (read_by k) same ∙ says))
      by false z mapping.Receiver is =
          let same : record w { mapping = mapping.Receiver } ≡ w = ap (λ m. record w { mapping = m }) (sym is) in
          let u = under_is (text_at w.scope k.theirs) w.suffix (behind e.ns t) (sym (ap (λ b. cond b (said_plainly w.suffix) (said_under (text_at w.scope k.theirs) w.suffix)) z) ∙ ap (read_by k) same ∙ says) in
          subst (λ x. LeavesAs x t) same (own_leaves w.scope w.suffix t z u)
      by false z mapping.Sender is =
          let same : record w { mapping = mapping.Sender } ≡ w = ap (λ m. record w { mapping = m }) (sym is) in
          let u = under_is (text_at w.scope k.ours) w.suffix (behind e.ns t) (sym (ap (λ b. cond b (said_plainly w.suffix) (said_under (text_at w.scope k.ours) w.suffix)) z) ∙ ap (read_by k) same ∙ says) in
          subst (λ x. LeavesAs x t) same (told_leaves w.scope w.suffix t key z u)

  -- ---- a number is declared to the face, for a text of which what leaves is what follows the namespace
  module _ (id : ℕ) (x : List ℕ) (fresh : text_at id k.ours ≡ None) (front : (p : List ℕ) → leaving e.ns x ≡ Some p → x ≡ behind e.ns p) where
    abbrev k' : FaceNaming
    k' = record k { ours = with_id k.ours id x }

    under' : (j : ℕ) (y p : List ℕ) → text_at j (with_id k.ours id x) ≡ Some y → leaving e.ns y ≡ Some p → y ≡ behind e.ns p
    under' j y p there lets = elim (cases_eq j id) [
      | inl same ↦
          let is : x ≡ y = same_Some _ _ (sym (of_id-with_id k.ours id x) ∙ ap (λ i. text_at i (with_id k.ours id x)) (sym same) ∙ there) in
          sym is ∙ front p (ap (leaving e.ns) is ∙ lets)
      | inr other ↦ fits.under j y p (sym (of_id-with_other k.ours id j x other) ∙ there) lets
    ]

    -- it leaves
    pub number_leaves : (p : List ℕ) → leaving e.ns x ≡ Some p → FitsSpace e k' (record known { ours = with_id known.ours id p })
    number_leaves p lets = record {
      plain = fits.plain;
      own = fits.own;
      under = under';
      heads = λ j. elim (cases_eq j id) [
        | inl same ↦
            ap (λ i. head_at i e.heads) same ∙ fits.heads id ∙ ap (option_and_then (blocked e.ns)) fresh
            ∙ sym (ap (λ i. option_and_then (blocked e.ns) (text_at i (with_id k.ours id x))) same ∙ ap (option_and_then (blocked e.ns)) (of_id-with_id k.ours id x) ∙ ap (λ o. cond (is_some o) None (Some x)) lets)
        | inr other ↦ fits.heads j ∙ ap (option_and_then (blocked e.ns)) (sym (of_id-with_other k.ours id j x other))
      ];
      left = λ j. elim (cases_eq j id) [
        | inl same ↦
            ap (λ i. text_at i (with_id known.ours id p)) same ∙ of_id-with_id known.ours id p
            ∙ sym (ap (λ i. option_and_then (leaving e.ns) (text_at i (with_id k.ours id x))) same ∙ ap (option_and_then (leaving e.ns)) (of_id-with_id k.ours id x) ∙ lets)
        | inr other ↦ of_id-with_other known.ours id j p other ∙ fits.left j ∙ ap (option_and_then (leaving e.ns)) (sym (of_id-with_other k.ours id j x other))
      ];
      queryables = fits.queryables;
    }

    -- it does not leave, and is kept
    pub number_stays : leaving e.ns x ≡ None → FitsSpace (record e { heads = with_head id x e.heads }) k' known
    number_stays none = record {
      plain = fits.plain;
      own = fits.own;
      under = under';
      heads = λ j. elim (cases_eq j id) [
        | inl same ↦
            ap (λ i. head_at i (with_head id x e.heads)) same ∙ of_id-with_id e.heads id x
            ∙ sym (ap (λ i. option_and_then (blocked e.ns) (text_at i (with_id k.ours id x))) same ∙ ap (option_and_then (blocked e.ns)) (of_id-with_id k.ours id x) ∙ ap (λ o. cond (is_some o) None (Some x)) none)
        | inr other ↦ of_id-with_other e.heads id j x other ∙ fits.heads j ∙ ap (option_and_then (blocked e.ns)) (sym (of_id-with_other k.ours id j x other))
      ];
      left = λ j. elim (cases_eq j id) [
        | inl same ↦
            ap (λ i. text_at i known.ours) same ∙ fits.left id ∙ ap (option_and_then (leaving e.ns)) fresh
            ∙ sym (ap (λ i. option_and_then (leaving e.ns) (text_at i (with_id k.ours id x))) same ∙ ap (option_and_then (leaving e.ns)) (of_id-with_id k.ours id x) ∙ none)
        | inr other ↦ fits.left j ∙ ap (option_and_then (leaving e.ns)) (sym (of_id-with_other k.ours id j x other))
      ];
      queryables = fits.queryables;
    }
