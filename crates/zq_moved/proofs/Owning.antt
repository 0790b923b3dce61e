-- What an accepted call itself changes of numbers and gates, in both runs: at each face it fits what the face knows then.
use Rattle.std.proofs.Common.{◌≡◌, ◌∙◌, refl, sym, ap, subst, ℕ, Bool, true, false, cond, not, List, map, Option, Some, None}
use Rattle.std.specs.Prelude.{◌==◌, ◌&&◌, is_some}
use Rattle.std.specs.List.{list_all}
use Rattle.std.specs.Option.{option_map}
use Rattle.std.specs.BTreeMap.{insert_entry, is_at}
use Rattle.std.specs.Map.{keys_of, remove_entry}
use Rattle.std.specs.List.Sorted.{IsStrictlySortedBy}
use Rattle.std.specs.Ordering.{nat_cmp}
use Rattle.std.proofs.lemmas.Bool.{and_parts, false≢true, true≢false}
use Rattle.std.proofs.lemmas.Cmp.{nat_cmp_total}
use Rattle.std.proofs.lemmas.Map.Lookups.{exact_unsigned}
use Rattle.std.proofs.lemmas.Option.{none-some}
use Rattle.zq_key.specs.Key.{is_plain}
use Rattle.zq_key.specs.Space.{behind}
use Rattle.zq_key.proofs.Lookups.{found_after_insertion, found_after_removal}
use Rattle.zq_index.proofs.Mapped.{insert-map, remove-map}
use Rattle.zq_message.specs.declared.message.FaceId.{FaceId}
use Rattle.zq_message.specs.declared.message.Mapping.{Mapping}
use Rattle.zq_message.specs.declared.message.Mapping.TheVariants as mapping
use Rattle.zq_message.specs.declared.message.WireExpr.{WireExpr}
use Rattle.zq_namespace.specs.Exit.{is_receiver}
use Rattle.zq_namespace.specs.Leaves.{ExitState}
use Rattle.zq_tables.specs.declared.resolved.Resolved.{Resolved}
use Rattle.zq_tables.specs.declared.resolved.Resolved.TheVariants as said
use Rattle.zq_tables.specs.Naming.{FaceKeys, FaceNaming, NamingState, change_naming, closed_naming, face_naming, naming_at, no_keys, no_names, opened_naming, said_of, said_plainly, said_under, sent_side, text_at, with_name, with_queryable, without_name, without_queryable, with_interest, without_interest}
use Rattle.zq_machine.specs.declared.call.Call.{Call}
use Rattle.zq_machine.specs.declared.call.Call.TheVariants as call
use Rattle.zq_machine.specs.declared.call.Opening.{Opening}
use Rattle.zq_machine.specs.Calls.{is_absent}
use Rattle.zq_machine.specs.Configs.{Settings}
use Rattle.zq_machine.specs.Deciding.{causes, outcome_of, refusal_of, regated, renamed}
use Rattle.zq_machine.specs.Gates.{Gate, Gates, denied_by, entered_by, gate_at, gate_for, space_of, unasked_by, with_gate}
use Rattle.zq_machine.specs.Hearing.{has_text}
use Rattle.zq_machine.specs.Moved.{move_said}
use Rattle.zq_machine.specs.Selecting.{full_text, says_key}
use Rattle.zq_machine.specs.State.{Core, State, at, is_open}
use Rattle.zq_machine.specs.TextCalls.{read, said as says}
use Rattle.zq_machine.proofs.Changing.{changed, found_here, found_other, naming_changed, number_test}
use Rattle.zq_machine.proofs.Finals.{is_there}
use Rattle.zq_machine.proofs.Gates.{Gated, denied_for, gate_goes, gate_joins, space_for, unasked_for}
use Rattle.zq_machine.proofs.Granted.{AllPassed, all_passed}
use Rattle.zq_machine.proofs.Reading.{declare_read, withdraw_read}
use Rattle.zq_moved.specs.Moving.{can_move_call, can_move_opening, can_move_wire, moved_call, moved_opening}
use Rattle.zq_moved.specs.Received.{with_own, without_own, wrote}
use Rattle.zq_moved.proofs.Alike.{Alike, here_is, says_moved, space_here}
use Rattle.zq_moved.proofs.Fits.{Fits, shift}
use Rattle.zq_moved.proofs.Passing.{exit_of}
use Rattle.zq_moved.proofs.Telling.{Ready, same_face, shifts, space_is}

-- ---- one face
-- it gives a number, for a text that is in the run what it is for the face
named_fits : (x : Option ExitState) (k : FaceKeys) (known : FaceNaming) (id : ℕ) (u u' : List ℕ) → u' ≡ shift x u → Fits x k.numbers known → Fits x (with_name id u' k).numbers (with_own id u known)
named_fits None k known id u u' is fits = (λ j. record (fits j) { theirs = insert_entry nat_cmp (fits j).theirs id (sym is j) })
named_fits (Some e) k known id u u' is fits = record {
  plain = fits.plain;
  own = (λ j. insert_entry nat_cmp (fits.own j) id (is j)) ∙ insert-map (behind e.ns) nat_cmp known.theirs id u;
  under = fits.under;
  heads = fits.heads;
  left = fits.left;
  queryables = fits.queryables;
}

-- it gives one up
unnamed_fits : (x : Option ExitState) (k : FaceKeys) (known : FaceNaming) (id : ℕ) → Fits x k.numbers known → Fits x (without_name id k).numbers (without_own id known)
unnamed_fits None k known id fits = ap (without_own id) fits
unnamed_fits (Some e) k known id fits = record {
  plain = fits.plain;
  own = ap (remove_entry (is_at (nat_cmp id))) fits.own ∙ remove-map (behind e.ns) (is_at (nat_cmp id)) known.theirs;
  under = fits.under;
  heads = fits.heads;
  left = fits.left;
  queryables = fits.queryables;
}

changed_at : (face q : ℕ) (g : FaceKeys → FaceKeys) (names : NamingState) → naming_at q (change_naming face g names) ≡ cond (face == q) (option_map g (naming_at q names)) (naming_at q names)
changed_at face q g names = ap (naming_at q) (naming_changed face g names) ∙ by (face == q) refl
  where
    by : (b : Bool) → (face == q) ≡ b → at q (changed face g names.faces) ≡ cond b (option_map g (naming_at q names)) (naming_at q names)
    by true e = found_here face g names.faces q (number_test face q ∙ e)
    by false e = found_other face g names.faces q (number_test face q ∙ e)

-- what stands for keys at a face is changed
module _ (o : Option (List ℕ)) (face q : ℕ) (g : FaceKeys → FaceKeys) (names : NamingState) (gate : Option Gate) (known known' : FaceNaming) (ready : Ready o (naming_at q names) gate known) where
  change_ready : ((k : FaceKeys) → (face == q) ≡ true → naming_at q names ≡ Some k → Fits (exit_of gate) k.numbers known → Fits (exit_of gate) (g k).numbers known') → ((face == q) ≡ false → known' ≡ known)
      → Ready o (naming_at q (change_naming face g names)) gate known'
  change_ready mine other = subst (λ x. Ready o x gate known') (sym (changed_at face q g names)) (by (face == q) refl)
    where
      here : (x : Option FaceKeys) → (face == q) ≡ true → naming_at q names ≡ x → Ready o x gate known → Ready o (option_map g x) gate known'
      here None e is r = record { fits = tt; space = λ h. absurd (false≢true h) }
      here (Some k) e is r = record { fits = mine k e is r.fits; space = λ h. r.space refl }

      by : (b : Bool) → (face == q) ≡ b → Ready o (cond b (option_map g (naming_at q names)) (naming_at q names)) gate known'
      by true e = here (naming_at q names) e refl ready
      by false e = subst (λ k. Ready o (naming_at q names) gate k) (sym (other e)) ready

-- but for its numbers
quiet_ready : (o : Option (List ℕ)) (face q : ℕ) (g : FaceKeys → FaceKeys) (names : NamingState) (gate : Option Gate) (known : FaceNaming) → ((k : FaceKeys) → (g k).numbers ≡ k.numbers) → Ready o (naming_at q names) gate known → Ready o (naming_at q (change_naming face g names)) gate known
quiet_ready o face q g names gate known same ready = change_ready o face q g names gate known known ready (λ k e is fits. subst (λ m. Fits (exit_of gate) m known) (sym (same k)) fits) (λ e. refl)

-- what an expression says by a face's own numbers
own_says : (k k' : FaceNaming) → k'.theirs ≡ k.theirs → (w : WireExpr) → can_move_wire w ≡ true → said_of k' w ≡ said_of k w
own_says k k' own w moves = by (w.scope == 0) refl w.mapping refl moves
  where
    by : (b : Bool) → (w.scope == 0) ≡ b → (m : Mapping) → w.mapping ≡ m → cond b (has_text w.suffix) (not (is_receiver w.mapping)) ≡ true → said_of k' w ≡ said_of k w
    by true z m is text =
        ap (λ c. cond c (said_plainly w.suffix) (said_under (text_at w.scope (sent_side k' w.mapping)) w.suffix)) z
        ∙ sym (ap (λ c. cond c (said_plainly w.suffix) (said_under (text_at w.scope (sent_side k w.mapping)) w.suffix)) z)
    by false z mapping.Receiver is none = absurd (false≢true (sym (ap (λ m. not (is_receiver m)) is) ∙ none))
    by false z mapping.Sender is none =
        ap (λ m. cond (w.scope == 0) (said_plainly w.suffix) (said_under (text_at w.scope (sent_side k' m)) w.suffix)) is
        ∙ ap (λ l. cond (w.scope == 0) (said_plainly w.suffix) (said_under (text_at w.scope l) w.suffix)) own
        ∙ sym (ap (λ m. cond (w.scope == 0) (said_plainly w.suffix) (said_under (text_at w.scope (sent_side k m)) w.suffix)) is)

moved_full : (φ : List ℕ → List ℕ) (sd : Resolved) → not (says_key sd) ≡ false → full_text (move_said φ sd) ≡ φ (full_text sd)
moved_full φ said.Unscoped h = absurd (true≢false h)
moved_full φ said.Empty h = absurd (true≢false h)
moved_full φ (said.Full t) h = refl

-- ---- a face that is opened
exit_none : (g : Option Gate) → space_of g ≡ None → exit_of g ≡ None
exit_none g is = by (exit_of g) (space_is g ∙ is)
  where
    by : (x : Option ExitState) → option_map (λ (e : ExitState). e.ns) x ≡ None → x ≡ None
    by None is = refl
    by (Some e) is = absurd (none-some e.ns (sym is))

pub absent_is : (o : Option (List ℕ)) → is_absent o ≡ true → o ≡ None
absent_is None h = refl
absent_is (Some x) h = absurd (false≢true h)

first_here : (o : Opening) → can_move_opening o ≡ true → Ready None (Some no_keys) (gate_for o) no_names
first_here o moves =
    let none : space_of (gate_for o) ≡ None = space_for o ∙ absent_is o.namespace (and_parts (is_absent o.namespace) (list_all has_text o.entry_deny) (and_parts (is_absent o.namespace && list_all has_text o.entry_deny) (list_all has_text o.exit_deny) moves).0).0 in
    record { fits = subst (λ x. Fits x no_names no_names) (sym (exit_none (gate_for o) none)) refl; space = λ h. none }

first_there : (n : List ℕ) (o : Opening) → is_plain n ≡ true → Ready (Some n) (Some no_keys) (gate_for (moved_opening n o)) no_names
first_there n o plain = record {
  fits = record { plain = plain; own = refl; under = λ id x p e l. absurd (none-some x e); heads = λ id. refl; left = λ id. refl; queryables = refl };
  space = λ h. refl;
}

module _ (o : Option (List ℕ)) (q next : ℕ) (names : NamingState) (gates : Gates) (g : Option Gate) (known : FaceNaming) (gated : Gated gates next) where
  joins_ready : Ready o (Some no_keys) g no_names → Ready o (naming_at q names) (gate_at q gates) known
      → Ready o (naming_at q (opened_naming next names)) (gate_at q (with_gate next g gates)) (cond (next == q) no_names known)
  joins_ready first ready =
      subst (λ x. Ready o x (gate_at q (with_gate next g gates)) (cond (next == q) no_names known)) (sym (found_after_insertion nat_cmp_total exact_unsigned next q no_keys names.faces ∙ ap (λ b. cond b (Some no_keys) (naming_at q names)) (number_test next q)))
      (subst (λ x. Ready o (cond (next == q) (Some no_keys) (naming_at q names)) x (cond (next == q) no_names known)) (sym (gate_joins gates next gated g q)) (by (next == q)))
    where
      by : (b : Bool) → Ready o (cond b (Some no_keys) (naming_at q names)) (cond b g (gate_at q gates)) (cond b no_names known)
      by true = first
      by false = ready

  goes_ready : (face : ℕ) → IsStrictlySortedBy nat_cmp (keys_of names.faces) → Ready o (naming_at q names) (gate_at q gates) known
      → Ready o (naming_at q (closed_naming face names)) (gate_at q (remove_entry (is_at (nat_cmp face)) gates)) known
  goes_ready face sorted ready =
      subst (λ x. Ready o x (gate_at q (remove_entry (is_at (nat_cmp face)) gates)) known) (sym (found_after_removal nat_cmp_total exact_unsigned face q names.faces sorted ∙ ap (λ b. cond b None (naming_at q names)) (number_test face q)))
      (subst (λ x. Ready o (cond (face == q) None (naming_at q names)) x known) (sym (gate_goes gates next gated face q)) (by (face == q)))
    where
      by : (b : Bool) → Ready o (cond b None (naming_at q names)) (cond b None (gate_at q gates)) known
      by true = record { fits = tt; space = λ h. absurd (false≢true h) }
      by false = ready

-- ---- both runs
-- what fits once a call itself has changed what it changes
pub record ChangesAlike (n : List ℕ) (s z : State) (a b : ℕ → FaceNaming) (c : Call) : Type 0 where
  pub here : (q : ℕ) → Ready None (naming_at q (renamed s (read s c))) (gate_at q (regated s (read s c))) (wrote q c (outcome_of s.core (read s c)) (a q))
  pub there : (q : ℕ) → Ready (Some n) (naming_at q (renamed z (read z (moved_call n c)))) (gate_at q (regated z (read z (moved_call n c)))) (wrote q (moved_call n c) (outcome_of z.core (read z (moved_call n c))) (b q))
  pub own : (q : ℕ) → (wrote q (moved_call n c) (outcome_of z.core (read z (moved_call n c))) (b q)).theirs ≡ (wrote q c (outcome_of s.core (read s c)) (a q)).theirs
  pub entry : (q : ℕ) → denied_by (gate_at q (regated z (read z (moved_call n c)))) ≡ map (behind n) (denied_by (gate_at q (regated s (read s c))))
  pub exit : (q : ℕ) → unasked_by (gate_at q (regated z (read z (moved_call n c)))) ≡ map (behind n) (unasked_by (gate_at q (regated s (read s c))))

module _ (config : Settings) (n : List ℕ) (plain : is_plain n ≡ true) (s z : State) (a b : ℕ → FaceNaming) (alike : Alike config n s z a b) where
  face_open : (face : FaceId) → not (is_open face.0 s.core) ≡ false → is_some (naming_at face.0 s.names) ≡ true
  face_open face h = alike.order.tied.named face.0 ∙ is_there (is_open face.0 s.core) h

  next_same : z.core.next_face ≡ s.core.next_face
  next_same = ap (λ (c : Core). c.next_face) alike.core

  opened_alike : (o : Opening) → can_move_opening o ≡ true → ChangesAlike n s z a b (call.Open o)
  opened_alike o moves = record {
    here = λ q. joins_ready None q s.core.next_face s.names s.gates (gate_for o) (a q) alike.order.gated (first_here o moves) (alike.here q);
    there = λ q. joins_ready (Some n) q z.core.next_face z.names z.gates (gate_for (moved_opening n o)) (b q) alike.order'.gated (first_there n o plain) (alike.there q);
    own = λ q. ap (λ m. (cond (m == q) no_names (b q)).theirs) next_same ∙ by_own q (s.core.next_face == q);
    entry = λ q. ap denied_by (gate_joins z.gates z.core.next_face alike.order'.gated (gate_for (moved_opening n o)) q)
        ∙ ap (λ m. denied_by (cond (m == q) (gate_for (moved_opening n o)) (gate_at q z.gates))) next_same
        ∙ by_entry q (s.core.next_face == q)
        ∙ ap (λ x. map (behind n) (denied_by x)) (sym (gate_joins s.gates s.core.next_face alike.order.gated (gate_for o) q));
    exit = λ q. ap unasked_by (gate_joins z.gates z.core.next_face alike.order'.gated (gate_for (moved_opening n o)) q)
        ∙ ap (λ m. unasked_by (cond (m == q) (gate_for (moved_opening n o)) (gate_at q z.gates))) next_same
        ∙ by_exit q (s.core.next_face == q)
        ∙ ap (λ x. map (behind n) (unasked_by x)) (sym (gate_joins s.gates s.core.next_face alike.order.gated (gate_for o) q));
  }
    where
      by_own : (q : ℕ) (x : Bool) → (cond x no_names (b q)).theirs ≡ (cond x no_names (a q)).theirs
      by_own q true = refl
      by_own q false = alike.own q

      by_entry : (q : ℕ) (x : Bool) → denied_by (cond x (gate_for (moved_opening n o)) (gate_at q z.gates)) ≡ map (behind n) (denied_by (cond x (gate_for o) (gate_at q s.gates)))
      by_entry q true = denied_for (moved_opening n o) ∙ ap (map (behind n)) (sym (denied_for o))
      by_entry q false = alike.entry q

      by_exit : (q : ℕ) (x : Bool) → unasked_by (cond x (gate_for (moved_opening n o)) (gate_at q z.gates)) ≡ map (behind n) (unasked_by (cond x (gate_for o) (gate_at q s.gates)))
      by_exit q true = unasked_for (moved_opening n o) ∙ ap (map (behind n)) (sym (unasked_for o))
      by_exit q false = alike.exit q

  closed_alike : (face : FaceId) → ChangesAlike n s z a b (call.Close face)
  closed_alike face = record {
    here = λ q. goes_ready None q s.core.next_face s.names s.gates None (a q) alike.order.gated face.0 alike.order.tied.names_sorted (alike.here q);
    there = λ q. goes_ready (Some n) q z.core.next_face z.names z.gates None (b q) alike.order'.gated face.0 alike.order'.tied.names_sorted (alike.there q);
    own = alike.own;
    entry = λ q. ap denied_by (gate_goes z.gates z.core.next_face alike.order'.gated face.0 q) ∙ by_entry q (face.0 == q) ∙ ap (λ x. map (behind n) (denied_by x)) (sym (gate_goes s.gates s.core.next_face alike.order.gated face.0 q));
    exit = λ q. ap unasked_by (gate_goes z.gates z.core.next_face alike.order'.gated face.0 q) ∙ by_exit q (face.0 == q) ∙ ap (λ x. map (behind n) (unasked_by x)) (sym (gate_goes s.gates s.core.next_face alike.order.gated face.0 q));
  }
    where
      by_entry : (q : ℕ) (x : Bool) → denied_by (cond x None (gate_at q z.gates)) ≡ map (behind n) (denied_by (cond x None (gate_at q s.gates)))
      by_entry q true = refl
      by_entry q false = alike.entry q

      by_exit : (q : ℕ) (x : Bool) → unasked_by (cond x None (gate_at q z.gates)) ≡ map (behind n) (unasked_by (cond x None (gate_at q s.gates)))
      by_exit q true = refl
      by_exit q false = alike.exit q

  named_alike : (face : FaceId) (id : ℕ) (w : WireExpr) → can_move_wire w ≡ true → refusal_of s.core (read s (call.DeclareKeyExpr face id w)) ≡ None → ChangesAlike n s z a b (call.DeclareKeyExpr face id w)
  named_alike face id w moves fits = record {
    here = λ q. change_ready None face.0 q (with_name id (full_text (says face w s))) s.names (gate_at q s.gates) (a q) (wrote q (call.DeclareKeyExpr face id w) (outcome_of s.core (read s (call.DeclareKeyExpr face id w))) (a q)) (alike.here q)
        (λ k e is f. subst (λ x. Fits (exit_of (gate_at q s.gates)) (with_name id (full_text (says face w s)) k).numbers x) (sym (ap (λ c. cond c (with_own id (full_text (said_of (a q) w)) (a q)) (a q)) e))
        (named_fits (exit_of (gate_at q s.gates)) k (a q) id (full_text (said_of (a q) w)) (full_text (says face w s))
        (ap full_text (says_here q (same_face face.0 q e)) ∙ sym (shifts (gate_at q s.gates) None (full_text (said_of (a q) w)) ((alike.here q).space (ap is_some is)))) f))
        (λ e. ap (λ c. cond c (with_own id (full_text (said_of (a q) w)) (a q)) (a q)) e);
    there = λ q. change_ready (Some n) face.0 q (with_name id (full_text (says face w z))) z.names (gate_at q z.gates) (b q) (wrote q (call.DeclareKeyExpr face id w) (outcome_of z.core (read z (call.DeclareKeyExpr face id w))) (b q)) (alike.there q)
        (λ k e is f. subst (λ x. Fits (exit_of (gate_at q z.gates)) (with_name id (full_text (says face w z)) k).numbers x) (sym (ap (λ c. cond c (with_own id (full_text (said_of (b q) w)) (b q)) (b q)) e))
        (named_fits (exit_of (gate_at q z.gates)) k (b q) id (full_text (said_of (b q) w)) (full_text (says face w z))
        (says_there q (same_face face.0 q e) ∙ sym (shifts (gate_at q z.gates) (Some n) (full_text (said_of (b q) w)) ((alike.there q).space (ap is_some is)))) f))
        (λ e. ap (λ c. cond c (with_own id (full_text (said_of (b q) w)) (b q)) (b q)) e);
    own = λ q. by_own q (face.0 == q);
    entry = alike.entry;
    exit = alike.exit;
  }
    where
      passed : AllPassed (causes s.core (read s (call.DeclareKeyExpr face id w)))
      passed = all_passed (causes s.core (read s (call.DeclareKeyExpr face id w))) fits

      opened : is_some (naming_at face.0 s.names) ≡ true
      opened = face_open face passed.0

      says_here : (q : ℕ) → face.0 ≡ q → says face w s ≡ said_of (a q) w
      says_here q same =
          ap (λ o. said_of (face_naming face.0 s.names) (entered_by o w)) (space_here config n plain s z a b alike face opened)
          ∙ ap (λ k. said_of k w) (sym (here_is config n plain s z a b alike face opened)) ∙ ap (λ f. said_of (a f) w) same

      says_there : (q : ℕ) → face.0 ≡ q → full_text (says face w z) ≡ behind n (full_text (said_of (b q) w))
      says_there q same =
          ap full_text (says_moved config n plain s z a b alike face opened w moves)
          ∙ moved_full (behind n) (says face w s) passed.1.1.0
          ∙ ap (λ x. behind n (full_text x)) (says_here q same ∙ sym (own_says (a q) (b q) (alike.own q) w moves))

      by_own : (q : ℕ) (c : Bool) → (cond c (with_own id (full_text (said_of (b q) w)) (b q)) (b q)).theirs ≡ (cond c (with_own id (full_text (said_of (a q) w)) (a q)) (a q)).theirs
      by_own q true = (λ j. insert_entry nat_cmp (alike.own q j) id (full_text (own_says (a q) (b q) (alike.own q) w moves j)))
      by_own q false = alike.own q

  unnamed_alike : (face : FaceId) (id : ℕ) → ChangesAlike n s z a b (call.UndeclareKeyExpr face id)
  unnamed_alike face id = record {
    here = λ q. change_ready None face.0 q (without_name id) s.names (gate_at q s.gates) (a q) (wrote q (call.UndeclareKeyExpr face id) (outcome_of s.core (read s (call.UndeclareKeyExpr face id))) (a q)) (alike.here q)
        (λ k e is f. subst (λ x. Fits (exit_of (gate_at q s.gates)) (without_name id k).numbers x) (sym (ap (λ c. cond c (without_own id (a q)) (a q)) e)) (unnamed_fits (exit_of (gate_at q s.gates)) k (a q) id f))
        (λ e. ap (λ c. cond c (without_own id (a q)) (a q)) e);
    there = λ q. change_ready (Some n) face.0 q (without_name id) z.names (gate_at q z.gates) (b q) (wrote q (call.UndeclareKeyExpr face id) (outcome_of z.core (read z (call.UndeclareKeyExpr face id))) (b q)) (alike.there q)
        (λ k e is f. subst (λ x. Fits (exit_of (gate_at q z.gates)) (without_name id k).numbers x) (sym (ap (λ c. cond c (without_own id (b q)) (b q)) e)) (unnamed_fits (exit_of (gate_at q z.gates)) k (b q) id f))
        (λ e. ap (λ c. cond c (without_own id (b q)) (b q)) e);
    own = λ q. by q (face.0 == q);
    entry = alike.entry;
    exit = alike.exit;
  }
    where
      by : (q : ℕ) (c : Bool) → (cond c (without_own id (b q)) (b q)).theirs ≡ (cond c (without_own id (a q)) (a q)).theirs
      by q true = ap (remove_entry (is_at (nat_cmp id))) (alike.own q)
      by q false = alike.own q

  pub changes_alike : (c : Call) → can_move_call c ≡ true → refusal_of s.core (read s c) ≡ None → ChangesAlike n s z a b c
  changes_alike (call.Open o) moves fits = opened_alike o moves
  changes_alike (call.Close face) moves fits = closed_alike face
  changes_alike (call.DeclareKeyExpr face id w) moves fits = named_alike face id w moves fits
  changes_alike (call.UndeclareKeyExpr face id) moves fits = unnamed_alike face id
  changes_alike (call.DeclareQueryable face id w info node) moves fits = record {
    here = λ q. declare_read (λ t. Ready None (naming_at q (renamed s t)) (gate_at q (regated s t)) (a q)) s face id w info node (alike.here q) (quiet_ready None face.0 q (with_queryable id (full_text (says face w s))) s.names (gate_at q s.gates) (a q) (λ k. refl) (alike.here q));
    there = λ q. declare_read (λ t. Ready (Some n) (naming_at q (renamed z t)) (gate_at q (regated z t)) (b q)) z face id w info node (alike.there q) (quiet_ready (Some n) face.0 q (with_queryable id (full_text (says face w z))) z.names (gate_at q z.gates) (b q) (λ k. refl) (alike.there q));
    own = alike.own;
    entry = λ q. declare_read (λ t. denied_by (gate_at q (regated z t)) ≡ map (behind n) (denied_by (gate_at q (regated s (read s (call.DeclareQueryable face id w info node)))))) z face id w info node
        (declare_read (λ t. denied_by (gate_at q z.gates) ≡ map (behind n) (denied_by (gate_at q (regated s t)))) s face id w info node (alike.entry q) (alike.entry q))
        (declare_read (λ t. denied_by (gate_at q z.gates) ≡ map (behind n) (denied_by (gate_at q (regated s t)))) s face id w info node (alike.entry q) (alike.entry q));
    exit = λ q. declare_read (λ t. unasked_by (gate_at q (regated z t)) ≡ map (behind n) (unasked_by (gate_at q (regated s (read s (call.DeclareQueryable face id w info node)))))) z face id w info node
        (declare_read (λ t. unasked_by (gate_at q z.gates) ≡ map (behind n) (unasked_by (gate_at q (regated s t)))) s face id w info node (alike.exit q) (alike.exit q))
        (declare_read (λ t. unasked_by (gate_at q z.gates) ≡ map (behind n) (unasked_by (gate_at q (regated s t)))) s face id w info node (alike.exit q) (alike.exit q));
  }
  changes_alike (call.UndeclareQueryable face id w node) moves fits = record {
    here = λ q. withdraw_read (λ t. Ready None (naming_at q (renamed s t)) (gate_at q (regated s t)) (a q)) s face id w node (alike.here q) (quiet_ready None face.0 q (without_queryable id) s.names (gate_at q s.gates) (a q) (λ k. refl) (alike.here q));
    there = λ q. withdraw_read (λ t. Ready (Some n) (naming_at q (renamed z t)) (gate_at q (regated z t)) (b q)) z face id w node (alike.there q) (quiet_ready (Some n) face.0 q (without_queryable id) z.names (gate_at q z.gates) (b q) (λ k. refl) (alike.there q));
    own = alike.own;
    entry = λ q. withdraw_read (λ t. denied_by (gate_at q (regated z t)) ≡ map (behind n) (denied_by (gate_at q (regated s (read s (call.UndeclareQueryable face id w node)))))) z face id w node
        (withdraw_read (λ t. denied_by (gate_at q z.gates) ≡ map (behind n) (denied_by (gate_at q (regated s t)))) s face id w node (alike.entry q) (alike.entry q))
        (withdraw_read (λ t. denied_by (gate_at q z.gates) ≡ map (behind n) (denied_by (gate_at q (regated s t)))) s face id w node (alike.entry q) (alike.entry q));
    exit = λ q. withdraw_read (λ t. unasked_by (gate_at q (regated z t)) ≡ map (behind n) (unasked_by (gate_at q (regated s (read s (call.UndeclareQueryable face id w node)))))) z face id w node
        (withdraw_read (λ t. unasked_by (gate_at q z.gates) ≡ map (behind n) (unasked_by (gate_at q (regated s t)))) s face id w node (alike.exit q) (alike.exit q))
        (withdraw_read (λ t. unasked_by (gate_at q z.gates) ≡ map (behind n) (unasked_by (gate_at q (regated s t)))) s face id w node (alike.exit q) (alike.exit q));
  }
  changes_alike (call.Interest face id keys aggregate None) moves fits = record { here = alike.here; there = alike.there; own = alike.own; entry = alike.entry; exit = alike.exit }
  changes_alike (call.Interest face id keys aggregate (Some w)) moves fits = record {
    here = λ q. quiet_ready None face.0 q (with_interest id (full_text (says face w s))) s.names (gate_at q s.gates) (a q) (λ k. refl) (alike.here q);
    there = λ q. quiet_ready (Some n) face.0 q (with_interest id (full_text (says face w z))) z.names (gate_at q z.gates) (b q) (λ k. refl) (alike.there q);
    own = alike.own;
    entry = alike.entry;
    exit = alike.exit;
  }
  changes_alike (call.InterestFinal face id) moves fits = record {
    here = λ q. quiet_ready None face.0 q (without_interest id) s.names (gate_at q s.gates) (a q) (λ k. refl) (alike.here q);
    there = λ q. quiet_ready (Some n) face.0 q (without_interest id) z.names (gate_at q z.gates) (b q) (λ k. refl) (alike.there q);
    own = alike.own;
    entry = alike.entry;
    exit = alike.exit;
  }
  changes_alike (call.FinalizeInterest face m set) moves fits = record { here = alike.here; there = alike.there; own = alike.own; entry = alike.entry; exit = alike.exit }
  changes_alike (call.Request face r now) moves fits = record { here = alike.here; there = alike.there; own = alike.own; entry = alike.entry; exit = alike.exit }
  changes_alike (call.Response face r) moves fits = record { here = alike.here; there = alike.there; own = alike.own; entry = alike.entry; exit = alike.exit }
  changes_alike (call.ResponseFinal face rid) moves fits = record { here = alike.here; there = alike.there; own = alike.own; entry = alike.entry; exit = alike.exit }
  changes_alike (call.Sent reply) moves fits = record { here = alike.here; there = alike.there; own = alike.own; entry = alike.entry; exit = alike.exit }
  changes_alike (call.Poll now) moves fits = record { here = alike.here; there = alike.there; own = alike.own; entry = alike.entry; exit = alike.exit }
  changes_alike (call.SetGateways r table) moves fits = record { here = alike.here; there = alike.there; own = alike.own; entry = alike.entry; exit = alike.exit }
  changes_alike (call.SetNetwork r net) moves fits = record { here = alike.here; there = alike.there; own = alike.own; entry = alike.entry; exit = alike.exit }
  changes_alike (call.SetNodeIds face ids) moves fits = record { here = alike.here; there = alike.there; own = alike.own; entry = alike.entry; exit = alike.exit }
