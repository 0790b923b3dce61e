-- The gates of faces: what becomes of them when messages go through, and what they always keep.
use Rattle.std.proofs.Common.{◌≡◌, ◌∙◌, refl, sym, ap, subst, ℕ, ◌+◌, ◌<◌, Bool, true, false, cond, List, [], ◌∷◌, ◌++◌, map, fold, Option, Some, None, arith, eqb-true}
use Rattle.std.specs.Prelude.{◌&&◌, ◌||◌, ◌==◌, is_none}
use Rattle.std.specs.BTreeMap.{is_at}
use Rattle.std.specs.List.{list_any}
use Rattle.std.specs.List.Sorted.{IsStrictlySortedBy}
use Rattle.std.specs.Map.{keys_of, remove_entry}
use Rattle.std.specs.Option.{is_some, option_map}
use Rattle.std.specs.Ordering.{nat_cmp}
use Rattle.std.proofs.lemmas.Bool.{false≢true}
use Rattle.std.proofs.lemmas.Cmp.{nat_cmp_total}
use Rattle.std.proofs.lemmas.List.Sums.{fold-append}
use Rattle.std.proofs.lemmas.Map.{keys-set_value}
use Rattle.std.proofs.lemmas.Map.Lookups.{exact_unsigned}
use Rattle.zq_key.proofs.Lookups.{found_after_insertion, found_after_removal}
use Rattle.zq_key.proofs.Sorted.{sorted_in, sorted_out}
use Rattle.zq_message.specs.declared.message.DeclareBody.{DeclareBody}
use Rattle.zq_message.specs.declared.message.DeclareBody.TheVariants as body
use Rattle.zq_message.specs.declared.message.Message.{Message}
use Rattle.zq_message.specs.declared.message.Message.TheVariants as message
use Rattle.zq_namespace.specs.Denied.{new_mux}
use Rattle.zq_namespace.specs.Leaves.{ExitState, body_kept, gives, kept}
use Rattle.zq_query.specs.declared.records.Final.{Final}
use Rattle.zq_machine.specs.declared.call.Opening.{Opening}
use Rattle.zq_machine.specs.Calls.{has_none, is_absent}
use Rattle.zq_machine.specs.Gates.{Gate, Gates, denied_by, ends_given, gate_at, gate_for, keeping, kept_by, leave_all, let_out, put_kept, space_of, through, unasked_by, with_gate, with_given, without_ended}
use Rattle.zq_machine.specs.Handing.{Handed}
use Rattle.zq_machine.specs.Leaving.{ended_by, gate_past, given_by, if_handed}
use Rattle.zq_machine.specs.Writing.{sent_final}
use Rattle.zq_machine.proofs.Changing.{changed, found_here, found_other, number_test, put_changed}

-- ---- messages change no keys
module _ (h : Handed) (gates : Gates) where
  keeping_changed : keeping h gates ≡ changed h.to.0 (kept_by h.message) gates
  keeping_changed = by (gate_at h.to.0 gates)
    where
      by : (o : Option Gate) → put_kept h.to.0 h.message gates o ≡ put_changed h.to.0 (kept_by h.message) gates o
      by None = refl
      by (Some g) = refl

  keeping_keys : keys_of (keeping h gates) ≡ keys_of gates
  keeping_keys = by (gate_at h.to.0 gates)
    where
      by : (o : Option Gate) → keys_of (put_kept h.to.0 h.message gates o) ≡ keys_of gates
      by None = refl
      by (Some g) = keys-set_value (is_at (nat_cmp h.to.0)) gates (kept_by h.message g)

  either_keys : (b : Bool) → keys_of (cond b (keeping h gates) gates) ≡ keys_of gates
  either_keys true = keeping_keys
  either_keys false = refl

out_keys : (text : List ℕ) (hs : List Handed) (gates : Gates) → keys_of (let_out text hs gates).gates ≡ keys_of gates
out_keys text [] gates = refl
out_keys text (h ∷ hs) gates =
    let k = through text gates h in
    out_keys text hs (with_given k gates) ∙ either_keys k gates (is_none k.leaves && gives k.message)

ended_keys : (hs : List Handed) (gates : Gates) → keys_of (fold without_ended gates hs) ≡ keys_of gates
ended_keys [] gates = refl
ended_keys (h ∷ hs) gates = ended_keys hs (without_ended gates h) ∙ either_keys h gates (is_none h.leaves && ends_given h.message)

pub left_keys : (text : List ℕ) (hs : List Handed) (gates : Gates) → keys_of (leave_all text hs gates).gates ≡ keys_of gates
left_keys text hs gates = ended_keys (let_out text hs gates).handed (let_out text hs gates).gates ∙ out_keys text hs gates

-- ---- each face's gate for itself
same_map : (o : Option Gate) → option_map (λ g. g) o ≡ o
same_map None = refl
same_map (Some g) = refl

module _ (q : ℕ) where
  gate_kept : (h : Handed) (gates : Gates) → gate_at q (keeping h gates) ≡ cond (h.to.0 == q) (option_map (kept_by h.message) (gate_at q gates)) (gate_at q gates)
  gate_kept h gates = ap (gate_at q) (keeping_changed h gates) ∙ by (is_at (nat_cmp h.to.0) q) refl
    where
      by : (b : Bool) → is_at (nat_cmp h.to.0) q ≡ b → gate_at q (changed h.to.0 (kept_by h.message) gates) ≡ cond (h.to.0 == q) (option_map (kept_by h.message) (gate_at q gates)) (gate_at q gates)
      by true e =
          found_here h.to.0 (kept_by h.message) gates q e
          ∙ ap (λ b. cond b (option_map (kept_by h.message) (gate_at q gates)) (gate_at q gates)) (sym e ∙ number_test h.to.0 q)
      by false e =
          found_other h.to.0 (kept_by h.message) gates q e
          ∙ ap (λ b. cond b (option_map (kept_by h.message) (gate_at q gates)) (gate_at q gates)) (sym e ∙ number_test h.to.0 q)

  -- by a test of the message
  gate_where : (h : Handed) (gates : Gates) (b : Bool)
      → gate_at q (cond b (keeping h gates) gates) ≡ cond (h.to.0 == q) (option_map (λ g. cond b (kept_by h.message g) g) (gate_at q gates)) (gate_at q gates)
  gate_where h gates true = gate_kept h gates
  gate_where h gates false = by (h.to.0 == q)
    where
      by : (c : Bool) → gate_at q gates ≡ cond c (option_map (λ g. g) (gate_at q gates)) (gate_at q gates)
      by true = sym (same_map (gate_at q gates))
      by false = refl

  gates_given : (text : List ℕ) (hs : List Handed) (gates : Gates) → gate_at q (let_out text hs gates).gates ≡ fold (if_handed q given_by) (gate_at q gates) (let_out text hs gates).handed
  gates_given text [] gates = refl
  gates_given text (h ∷ hs) gates =
      let k = through text gates h in
      gates_given text hs (with_given k gates)
      ∙ ap (λ o. fold (if_handed q given_by) o (let_out text hs (with_given k gates)).handed) (gate_where k gates (is_none k.leaves && gives k.message))

  gates_ended : (hs : List Handed) (gates : Gates) → gate_at q (fold without_ended gates hs) ≡ fold (if_handed q ended_by) (gate_at q gates) hs
  gates_ended [] gates = refl
  gates_ended (h ∷ hs) gates =
      gates_ended hs (without_ended gates h)
      ∙ ap (λ o. fold (if_handed q ended_by) o hs) (gate_where h gates (is_none h.leaves && ends_given h.message))

  -- the gate of a face once all is through, by what was handed
  pub gates_past : (text : List ℕ) (hs : List Handed) (gates : Gates) → gate_at q (leave_all text hs gates).gates ≡ gate_past q (let_out text hs gates).handed (gate_at q gates)
  gates_past text hs gates =
      gates_ended (let_out text hs gates).handed (let_out text hs gates).gates
      ∙ ap (λ o. fold (if_handed q ended_by) o (let_out text hs gates).handed) (gates_given text hs gates)

  -- finals change none
  module _ (f : Handed → Gate → Gate) (stays : (x : Final) (g : Gate) → f (sent_final x) g ≡ g) where
    final_past : (x : Final) (was : Option Gate) → if_handed q f was (sent_final x) ≡ was
    final_past x None = by (x.asker.0 == q)
      where
        by : (b : Bool) → ◌≡◌ {A = Option Gate} (cond b None None) None
        by true = refl
        by false = refl
    final_past x (Some g) = by (x.asker.0 == q)
      where
        by : (b : Bool) → cond b (Some (f (sent_final x) g)) (Some g) ≡ Some g
        by true = ap Some (stays x g)
        by false = refl

    finals_past : (fs : List Final) (was : Option Gate) → fold (if_handed q f) was (map sent_final fs) ≡ was
    finals_past [] was = refl
    finals_past (x ∷ fs) was = ap (λ o. fold (if_handed q f) o (map sent_final fs)) (final_past x was) ∙ finals_past fs was

    behind_past : (hs : List Handed) (fs : List Final) (was : Option Gate) → fold (if_handed q f) was (hs ++ map sent_final fs) ≡ fold (if_handed q f) was hs
    behind_past hs fs was = fold-append (if_handed q f) was hs (map sent_final fs) ∙ finals_past fs (fold (if_handed q f) was hs)

  pub past_ended : (hs : List Handed) (fs : List Final) (was : Option Gate) → gate_past q (hs ++ map sent_final fs) was ≡ gate_past q hs was
  past_ended hs fs was =
      behind_past ended_by (λ x g. refl) hs fs (fold (if_handed q given_by) was (hs ++ map sent_final fs))
      ∙ ap (λ o. fold (if_handed q ended_by) o hs) (behind_past given_by (λ x g. refl) hs fs was)

  -- ---- what no message changes of a gate
  module _ {X : Type 0} (view : Option Gate → X) (same : (m : Message) (g : Gate) → view (Some (kept_by m g)) ≡ view (Some g)) where
    view_where : (h : Handed) (b : Bool) (was : Option Gate) → view (cond (h.to.0 == q) (option_map (λ g. cond b (kept_by h.message g) g) was) was) ≡ view was
    view_where h b None = by (h.to.0 == q)
      where
        by : (c : Bool) → view (cond c None None) ≡ view None
        by true = refl
        by false = refl
    view_where h b (Some g) = by (h.to.0 == q) b
      where
        by : (c d : Bool) → view (cond c (Some (cond d (kept_by h.message g) g)) (Some g)) ≡ view (Some g)
        by true true = same h.message g
        by true false = refl
        by false d = refl

    given_view : (hs : List Handed) (was : Option Gate) → view (fold (if_handed q given_by) was hs) ≡ view was
    given_view [] was = refl
    given_view (h ∷ hs) was = given_view hs (if_handed q given_by was h) ∙ view_where h (is_none h.leaves && gives h.message) was

    ended_view : (hs : List Handed) (was : Option Gate) → view (fold (if_handed q ended_by) was hs) ≡ view was
    ended_view [] was = refl
    ended_view (h ∷ hs) was = ended_view hs (if_handed q ended_by was h) ∙ view_where h (is_none h.leaves && ends_given h.message) was

    pub left_view : (text : List ℕ) (hs : List Handed) (gates : Gates) → view (gate_at q (leave_all text hs gates).gates) ≡ view (gate_at q gates)
    left_view text hs gates =
        ap view (gates_past text hs gates)
        ∙ ended_view (let_out text hs gates).handed (fold (if_handed q given_by) (gate_at q gates) (let_out text hs gates).handed)
        ∙ given_view (let_out text hs gates).handed (gate_at q gates)

  space_body : (e : ExitState) (b : DeclareBody) → (body_kept e b).ns ≡ e.ns
  space_body e (body.DeclareKeyExpr id w) = refl
  space_body e (body.UndeclareKeyExpr id) = refl
  space_body e (body.DeclareQueryable id w info) = refl
  space_body e (body.UndeclareQueryable id None) = refl
  space_body e (body.UndeclareQueryable id (Some w)) = refl
  space_body e body.DeclareFinal = refl

  space_kept : (e : ExitState) (m : Message) → (kept e m).ns ≡ e.ns
  space_kept e (message.Interest i) = refl
  space_kept e (message.InterestFinal id) = refl
  space_kept e (message.Declare d) = space_body e d.body
  space_kept e (message.Request r) = refl
  space_kept e (message.Response r) = refl
  space_kept e (message.ResponseFinal f) = refl

  same_space : (m : Message) (g : Gate) → space_of (Some (kept_by m g)) ≡ space_of (Some g)
  same_space m g = by g.exit.space
    where
      by : (o : Option ExitState) → option_map (λ (e : ExitState). e.ns) (option_map (λ e. kept e m) o) ≡ option_map (λ (e : ExitState). e.ns) o
      by None = refl
      by (Some e) = ap Some (space_kept e m)

  -- its namespace
  pub space_left : (text : List ℕ) (hs : List Handed) (gates : Gates) → space_of (gate_at q (leave_all text hs gates).gates) ≡ space_of (gate_at q gates)
  space_left = left_view space_of same_space

  -- a message that gives something changes it neither
  pub space_given : (h : Handed) (gates : Gates) → space_of (gate_at q (with_given h gates)) ≡ space_of (gate_at q gates)
  space_given h gates =
      ap space_of (gate_where h gates (is_none h.leaves && gives h.message))
      ∙ view_where space_of same_space h (is_none h.leaves && gives h.message) (gate_at q gates)

  -- and the keys that it may not ask for
  pub denied_left : (text : List ℕ) (hs : List Handed) (gates : Gates) → denied_by (gate_at q (leave_all text hs gates).gates) ≡ denied_by (gate_at q gates)
  denied_left = left_view denied_by (λ m g. refl)

  -- and those that it is not asked for
  pub unasked_left : (text : List ℕ) (hs : List Handed) (gates : Gates) → unasked_by (gate_at q (leave_all text hs gates).gates) ≡ unasked_by (gate_at q gates)
  unasked_left = left_view unasked_by (λ m g. refl)

-- ---- the gate that a face is opened with
pub space_for : (o : Opening) → space_of (gate_for o) ≡ o.namespace
space_for o = by o.namespace (has_none o.entry_deny) (has_none o.exit_deny)
  where
    gate : Option (List ℕ) → Gate
    gate n = record { entry = o.entry_deny; exit = new_mux n o.exit_deny }

    by : (n : Option (List ℕ)) (a b : Bool) → space_of (cond (is_absent n && a && b) None (Some (gate n))) ≡ n
    by None true true = refl
    by None true false = refl
    by None false b = refl
    by (Some n) a b = refl

pub denied_for : (o : Opening) → denied_by (gate_for o) ≡ o.entry_deny
denied_for o = by (is_absent o.namespace) o.entry_deny (has_none o.exit_deny)
  where
    by : (a : Bool) (l : List (List ℕ)) (b : Bool) → denied_by (cond (a && has_none l && b) None (Some (record { entry = l; exit = new_mux o.namespace o.exit_deny }))) ≡ l
    by true [] true = refl
    by true [] false = refl
    by true (k ∷ l) b = refl
    by false l b = refl

pub unasked_for : (o : Opening) → unasked_by (gate_for o) ≡ o.exit_deny
unasked_for o = by (is_absent o.namespace && has_none o.entry_deny) o.exit_deny
  where
    by : (a : Bool) (l : List (List ℕ)) → unasked_by (cond (a && has_none l) None (Some (record { entry = o.entry_deny; exit = new_mux o.namespace l }))) ≡ l
    by true [] = refl
    by true (k ∷ l) = refl
    by false l = refl

-- ---- gates stand by face, and are those of faces that were opened
pub record Gated (gates : Gates) (next : ℕ) : Type 0 where
  pub sorted : IsStrictlySortedBy nat_cmp (keys_of gates)
  pub below : (f : ℕ) → is_some (gate_at f gates) ≡ true → f < next

-- the next face has none
pub none_next : (gates : Gates) (next : ℕ) → Gated gates next → gate_at next gates ≡ None
none_next gates next i = by (gate_at next gates) refl
  where
    by : (o : Option Gate) → gate_at next gates ≡ o → o ≡ None
    by None e = refl
    by (Some g) e = let l : next < next = i.below next (ap is_some e) in absurd (omega (arith, l))

-- it is given the gate that it is opened with, and the others keep theirs
module _ (gates : Gates) (next : ℕ) (i : Gated gates next) where
  pub gate_joins : (g : Option Gate) (q : ℕ) → gate_at q (with_gate next g gates) ≡ cond (next == q) g (gate_at q gates)
  gate_joins None q = by (next == q) refl
    where
      by : (b : Bool) → (next == q) ≡ b → gate_at q gates ≡ cond b None (gate_at q gates)
      by true e = subst (λ n. gate_at n gates ≡ None) (eqb-true next q e) (none_next gates next i)
      by false e = refl
  gate_joins (Some g) q = found_after_insertion nat_cmp_total exact_unsigned next q g gates ∙ ap (λ b. cond b (Some g) (gate_at q gates)) (number_test next q)

  pub gate_goes : (face q : ℕ) → gate_at q (remove_entry (is_at (nat_cmp face)) gates) ≡ cond (face == q) None (gate_at q gates)
  gate_goes face q = found_after_removal nat_cmp_total exact_unsigned face q gates i.sorted ∙ ap (λ b. cond b None (gate_at q gates)) (number_test face q)

  sorted_joined : (g : Option Gate) → IsStrictlySortedBy nat_cmp (keys_of (with_gate next g gates))
  sorted_joined None = i.sorted
  sorted_joined (Some g) = sorted_in nat_cmp_total gates next g i.sorted

  pub gated_joined : (g : Option Gate) → Gated (with_gate next g gates) (next + 1)
  gated_joined g = record { sorted = sorted_joined g; below = λ f h. by f (next == f) refl (sym (ap is_some (gate_joins g f)) ∙ h) }
    where
      by : (f : ℕ) (b : Bool) → (next == f) ≡ b → is_some (cond (next == f) g (gate_at f gates)) ≡ true → f < next + 1
      by f true e h = let same : next ≡ f = eqb-true next f e in omega (arith, same)
      by f false e h = let l : f < next = i.below f (ap (λ b. is_some (cond b g (gate_at f gates))) (sym e) ∙ h) in omega (arith, l)

  pub gated_gone : (face : ℕ) → Gated (remove_entry (is_at (nat_cmp face)) gates) next
  gated_gone face = record { sorted = sorted_out nat_cmp (is_at (nat_cmp face)) gates i.sorted; below = λ f h. by f (face == f) (sym (ap is_some (gate_goes face f)) ∙ h) }
    where
      by : (f : ℕ) (b : Bool) → is_some (cond b None (gate_at f gates)) ≡ true → f < next
      by f true h = absurd (false≢true h)
      by f false h = i.below f h

-- it holds of gates of the same faces
there_by_keys : (f : ℕ) (gates : Gates) → is_some (gate_at f gates) ≡ list_any (is_at (nat_cmp f)) (keys_of gates)
there_by_keys f [] = refl
there_by_keys f (g ∷ gates) = by (is_at (nat_cmp f) g.0) (there_by_keys f gates)
  where
    by : (b : Bool) → is_some (gate_at f gates) ≡ list_any (is_at (nat_cmp f)) (keys_of gates) → is_some (cond b (Some g.1) (gate_at f gates)) ≡ (b || list_any (is_at (nat_cmp f)) (keys_of gates))
    by true e = refl
    by false e = e

pub gated_same : (gates more : Gates) (next : ℕ) → keys_of more ≡ keys_of gates → Gated gates next → Gated more next
gated_same gates more next same i = record {
  sorted = subst (IsStrictlySortedBy nat_cmp) (sym same) i.sorted;
  below = λ f h. i.below f (there_by_keys f gates ∙ ap (list_any (is_at (nat_cmp f))) (sym same) ∙ sym (there_by_keys f more) ∙ h);
}
