-- What a face's receiver keeps of what a call hands, by a run's trace, is what the machine tells it.
use Rattle.std.proofs.Common.{◌≡◌, ◌∙◌, refl, sym, ap, subst, ℕ, Bool, true, false, cond, List, [], ◌∷◌, ◌++◌, fold, Option, Some, None, eqb-true, true≢false}
use Rattle.std.specs.Prelude.{◌==◌, unwrap_or}
use Rattle.std.specs.BTreeMap.{insert_entry, is_at}
use Rattle.std.specs.Map.{remove_entry}
use Rattle.std.specs.Option.{is_some, option_map, option_map_or}
use Rattle.std.specs.Ordering.{nat_cmp}
use Rattle.std.proofs.lemmas.Bool.{eqb-false, false≢true}
use Rattle.std.proofs.lemmas.Cmp.{nat_cmp_total}
use Rattle.std.proofs.lemmas.List.Sums.{fold-append}
use Rattle.std.proofs.lemmas.Map.Lookups.{exact_unsigned}
use Rattle.std.proofs.lemmas.Option.{same_Some}
use Rattle.zq_key.proofs.Lookups.{found_after_insertion, found_after_removal}
use Rattle.zq_message.specs.declared.message.Declare.{Declare}
use Rattle.zq_message.specs.declared.message.DeclareBody.{DeclareBody}
use Rattle.zq_message.specs.declared.message.DeclareBody.TheVariants as body
use Rattle.zq_message.specs.declared.message.FaceId.{FaceId}
use Rattle.zq_message.specs.declared.message.Message.{Message}
use Rattle.zq_message.specs.declared.message.Message.TheVariants as message
use Rattle.zq_message.specs.declared.message.WireExpr.{WireExpr}
use Rattle.zq_strategy.specs.declared.types.FinalMark.{FinalMark}
use Rattle.zq_strategy.specs.declared.types.FinalMark.TheVariants as mark
use Rattle.zq_tables.specs.Naming.{FaceKeys, FaceNaming, NamingState, change_naming, face_naming, naming_at, no_keys, no_names, with_interest as holding_interest, with_name, with_queryable, without_interest as letting_interest, without_name, without_queryable}
use Rattle.zq_told.specs.Receiver.{Heard}
use Rattle.zq_machine.specs.declared.call.Call.{Call}
use Rattle.zq_machine.specs.declared.call.Call.TheVariants as call
use Rattle.zq_machine.specs.declared.call.Refusal.{Refusal}
use Rattle.zq_machine.specs.declared.face.OpenFace.{OpenFace}
use Rattle.zq_machine.specs.Configs.{Settings}
use Rattle.zq_machine.specs.Deciding.{answered, granted, is_accepted, outcome_of, refusal_of, renamed}
use Rattle.zq_machine.specs.Handing.{Handed}
use Rattle.zq_machine.specs.Hearing.{body_says, hear, hear_by, heard_body, telling_by, with_heard, with_ours}
use Rattle.zq_machine.specs.Keeping.{if_told, with_told}
use Rattle.zq_machine.specs.Machine.{accepted_state, follow, step}
use Rattle.zq_machine.specs.Messages.{Telling}
use Rattle.zq_machine.specs.Selecting.{full_text}
use Rattle.zq_machine.specs.State.{State, at}
use Rattle.zq_machine.specs.TextCalls.{announcing, by_router, declaring, read, retracting, said, said_or_none, withdrawing}
use Rattle.zq_machine.proofs.Changing.{changed as changed_faces, found_here, found_other, naming_changed, number_test}
use Rattle.zq_trace.specs.Faces.{Face, Trace, asked, called, changed, face_at, heard, new_face, says, told, with_mark, with_theirs}
use Rattle.zq_trace.specs.Told.{numbers_of, with_body, with_handed, with_message}
use Rattle.zq_trace.proofs.Runs.{IsRun, reached}
use Rattle.zq_trace.proofs.Saying.{closed_face, in_order, numbers_now, open_face, said_here}

pub either : {X : Type 0} (b : Bool) (x : X) → cond b x x ≡ x
either true x = refl
either false x = refl

swapped : (a b : ℕ) → (a == b) ≡ (b == a)
swapped a b = by (a == b) (b == a) refl refl
  where
    by : (x y : Bool) → (a == b) ≡ x → (b == a) ≡ y → x ≡ y
    by true true e h = refl
    by true false e h = absurd (eqb-false b a h (sym (eqb-true a b e)))
    by false true e h = absurd (eqb-false a b e (sym (eqb-true b a h)))
    by false false e h = refl

-- ---- numbers, where a face is open
abbrev of_keys : Option FaceKeys → Option FaceNaming
of_keys n = option_map (λ (k : FaceKeys). k.numbers) n

abbrev of_face : Option Face → Option FaceNaming
of_face f = option_map (λ (x : Face). x.numbers) f

keys_mapped : (g : FaceKeys → FaceKeys) (k : FaceNaming → FaceNaming) → ((n : FaceKeys) → (g n).numbers ≡ k n.numbers) → (n : Option FaceKeys) → of_keys (option_map g n) ≡ option_map k (of_keys n)
keys_mapped g k same None = refl
keys_mapped g k same (Some n) = ap Some (same n)

face_mapped : (g : Face → Face) (k : FaceNaming → FaceNaming) → ((f : Face) → (g f).numbers ≡ k f.numbers) → (f : Option Face) → of_face (option_map g f) ≡ option_map k (of_face f)
face_mapped g k same None = refl
face_mapped g k same (Some f) = ap Some (same f)

same_mapped : (x : Option FaceNaming) → option_map (λ n. n) x ≡ x
same_mapped None = refl
same_mapped (Some n) = refl

-- the numbers by which it is read
read_same : (q : ℕ) (names : NamingState) (f : Option Face) → of_keys (naming_at q names) ≡ of_face f → face_naming q names ≡ numbers_of f
read_same q names f same = by (naming_at q names) f same
  where
    by : (n : Option FaceKeys) (f : Option Face) → of_keys n ≡ of_face f → (unwrap_or n no_keys).numbers ≡ numbers_of f
    by None None e = refl
    by None (Some x) e = absurd (let gap : None ≡ Some x.numbers = e in cc)
    by (Some n) None e = absurd (let gap : Some n.numbers ≡ None = e in cc)
    by (Some n) (Some x) e = same_Some n.numbers x.numbers e

-- what stands for keys at one face is changed
changed_at : (face q : ℕ) (g : FaceKeys → FaceKeys) (names : NamingState) → naming_at q (change_naming face g names) ≡ cond (face == q) (option_map g (naming_at q names)) (naming_at q names)
changed_at face q g names =
    ap (λ (l : NamingState). naming_at q l) (naming_changed face g names)
    ∙ by (is_at (nat_cmp face) q) refl
    ∙ ap (λ b. cond b (option_map g (naming_at q names)) (naming_at q names)) (number_test face q)
  where
    by : (b : Bool) → is_at (nat_cmp face) q ≡ b → naming_at q (record names { faces = changed_faces face g names.faces }) ≡ cond (is_at (nat_cmp face) q) (option_map g (naming_at q names)) (naming_at q names)
    by true e = found_here face g names.faces q e ∙ sym (ap (λ b. cond b (option_map g (naming_at q names)) (naming_at q names)) e)
    by false e = found_other face g names.faces q e ∙ sym (ap (λ b. cond b (option_map g (naming_at q names)) (naming_at q names)) e)

-- ---- by the numbers that stand after the call itself
module _ (config : Settings) (past : Trace) (run : IsRun config past) where
  abbrev s : State
  s = reached config past

  module _ (q : ℕ) where
    abbrev was : Option Face
    was = face_at past q

    now : of_keys (naming_at q s.names) ≡ of_face was
    now = by (naming_at q s.names) was there (sym (numbers_now config past run q))
      where
        open_there : (o : Option OpenFace) → at q s.core.faces ≡ o → is_some o ≡ is_some was
        open_there None gone = sym (ap is_some (closed_face config past run q gone))
        open_there (Some o) seen = sym (ap is_some (open_face config past run q o seen).1)

        there : is_some (naming_at q s.names) ≡ is_some was
        there = (in_order config past).tied.named q ∙ open_there (at q s.core.faces) refl

        by : (n : Option FaceKeys) (f : Option Face) → is_some n ≡ is_some f → (unwrap_or n no_keys).numbers ≡ option_map_or (λ (x : Face). x.numbers) f no_names → of_keys n ≡ of_face f
        by None None e same = refl
        by None (Some x) e same = absurd (false≢true e)
        by (Some n) None e same = absurd (true≢false e)
        by (Some n) (Some x) e same = ap Some same

    -- what an open face says
    said_so : (face : FaceId) (x : Face) → face_at past face.0 ≡ Some x → (w : WireExpr) → says w x ≡ said face w s
    said_so face x here w = by (at face.0 s.core.faces) refl
      where
        by : (o : Option OpenFace) → at face.0 s.core.faces ≡ o → says w x ≡ said face w s
        by None gone = absurd (let gap : None ≡ Some x = sym (closed_face config past run face.0 gone) ∙ here in cc)
        by (Some o) seen =
            let it = open_face config past run face.0 o seen in
            ap (says w) (same_Some x it.0 (sym here ∙ it.1)) ∙ said_here config past run face.0 o seen w

    -- what stands for keys at a face is changed, and so is what the trace has of it
    both_change : (face : ℕ) (g : FaceKeys → FaceKeys) (h : Face → Face) (k : FaceNaming → FaceNaming) → ((n : FaceKeys) → (g n).numbers ≡ k n.numbers) → ((x : Face) → face_at past face ≡ Some x → (h x).numbers ≡ k x.numbers)
        → of_keys (naming_at q (change_naming face g s.names)) ≡ of_face (changed q was (face, h))
    both_change face g h k theirs ours = ap of_keys (changed_at face q g s.names) ∙ by (face == q) refl
      where
        mapped_by : (f : Option Face) → face_at past face ≡ f → of_face (option_map h f) ≡ option_map k (of_face f)
        mapped_by None e = refl
        mapped_by (Some x) e = ap Some (ours x e)

        by : (b : Bool) → (face == q) ≡ b → of_keys (cond b (option_map g (naming_at q s.names)) (naming_at q s.names)) ≡ of_face (cond b (option_map h was) was)
        by true e =
            keys_mapped g k theirs (naming_at q s.names) ∙ ap (option_map k) now
            ∙ sym (subst (λ n. of_face (option_map h (face_at past n)) ≡ option_map k (of_face (face_at past n))) (eqb-true face q e) (mapped_by (face_at past face) refl))
        by false e = now

    -- the trace's face alone is changed, or what stands for its keys but for its numbers
    ours_changes : (face : ℕ) (h : Face → Face) → ((x : Face) → (h x).numbers ≡ x.numbers) → of_face (changed q was (face, h)) ≡ of_face was
    ours_changes face h same = by (face == q)
      where
        by : (b : Bool) → of_face (cond b (option_map h was) was) ≡ of_face was
        by true = face_mapped h (λ n. n) same was ∙ same_mapped (of_face was)
        by false = refl

    theirs_change : (face : ℕ) (g : FaceKeys → FaceKeys) → ((n : FaceKeys) → (g n).numbers ≡ n.numbers) → of_keys (naming_at q (change_naming face g s.names)) ≡ of_face was
    theirs_change face g same = ap of_keys (changed_at face q g s.names) ∙ by (face == q) ∙ now
      where
        by : (b : Bool) → of_keys (cond b (option_map g (naming_at q s.names)) (naming_at q s.names)) ≡ of_keys (naming_at q s.names)
        by true = keys_mapped g (λ n. n) same (naming_at q s.names) ∙ same_mapped (of_keys (naming_at q s.names))
        by false = refl

    mark_same : (m : FinalMark) (set : Bool) (y : Face) → (with_mark m set y).numbers ≡ y.numbers
    mark_same mark.Initial set y = refl
    mark_same (mark.Key key) true y = refl
    mark_same (mark.Key key) false y = refl

    granted_reads : (c : Call) → of_keys (naming_at q (renamed s (read s c))) ≡ of_face (called q c (outcome_of s.core (read s c)) was)
    granted_reads (call.Open o) =
        ap of_keys (found_after_insertion nat_cmp_total exact_unsigned s.core.next_face q no_keys s.names.faces) ∙ by (is_at (nat_cmp s.core.next_face) q) ∙ ap (λ b. of_face (cond b (Some (new_face o)) was)) (number_test s.core.next_face q)
      where
        by : (b : Bool) → of_keys (cond b (Some no_keys) (naming_at q s.names)) ≡ of_face (cond b (Some (new_face o)) was)
        by true = refl
        by false = now
    granted_reads (call.Close f) =
        ap of_keys (found_after_removal nat_cmp_total exact_unsigned f.0 q s.names.faces (in_order config past).tied.names_sorted) ∙ by (is_at (nat_cmp f.0) q) ∙ ap (λ b. of_face (cond b None was)) (number_test f.0 q)
      where
        by : (b : Bool) → of_keys (cond b None (naming_at q s.names)) ≡ of_face (cond b None was)
        by true = refl
        by false = now
    granted_reads (call.DeclareKeyExpr f id w) =
        both_change f.0 (with_name id (full_text (said f w s))) (λ y. with_theirs y (insert_entry nat_cmp y.numbers.theirs id (full_text (says w y)))) (λ n. record n { theirs = insert_entry nat_cmp n.theirs id (full_text (said f w s)) }) (λ n. refl)
        (λ x here. ap (λ r. record x.numbers { theirs = insert_entry nat_cmp x.numbers.theirs id (full_text r) }) (said_so f x here w))
    granted_reads (call.UndeclareKeyExpr f id) =
        both_change f.0 (without_name id) (λ y. with_theirs y (remove_entry (is_at (nat_cmp id)) y.numbers.theirs)) (λ n. record n { theirs = remove_entry (is_at (nat_cmp id)) n.theirs }) (λ n. refl) (λ x here. refl)
    granted_reads (call.DeclareQueryable f id w info node) =
        by (by_router f s.core) ∙ sym (ours_changes f.0 (λ y. record y { queryables = insert_entry nat_cmp y.queryables id (record { key = full_text (says w y); info = info }) }) (λ y. refl))
      where
        by : (b : Bool) → of_keys (naming_at q (renamed s (cond b (announcing f (said f w s) info node) (declaring f id (said f w s) info node)))) ≡ of_face was
        by true = now
        by false = theirs_change f.0 (with_queryable id (full_text (said f w s))) (λ n. refl)
    granted_reads (call.UndeclareQueryable f id w node) =
        by (by_router f s.core) ∙ sym (ours_changes f.0 (λ y. record y { queryables = remove_entry (is_at (nat_cmp id)) y.queryables }) (λ y. refl))
      where
        by : (b : Bool) → of_keys (naming_at q (renamed s (cond b (retracting f (said_or_none f w s) node) (withdrawing f id)))) ≡ of_face was
        by true = now
        by false = theirs_change f.0 (without_queryable id) (λ n. refl)
    granted_reads (call.Interest f id keys aggregate None) = now ∙ sym (ours_changes f.0 (λ y. record y { interests = insert_entry nat_cmp y.interests id (asked None keys aggregate y) }) (λ y. refl))
    granted_reads (call.Interest f id keys aggregate (Some w)) =
        theirs_change f.0 (holding_interest id (full_text (said f w s))) (λ n. refl)
        ∙ sym (ours_changes f.0 (λ y. record y { interests = insert_entry nat_cmp y.interests id (asked (Some w) keys aggregate y) }) (λ y. refl))
    granted_reads (call.InterestFinal f id) =
        theirs_change f.0 (letting_interest id) (λ n. refl) ∙ sym (ours_changes f.0 (λ y. record y { interests = remove_entry (is_at (nat_cmp id)) y.interests }) (λ y. refl))
    granted_reads (call.FinalizeInterest f m set) = now ∙ sym (ours_changes f.0 (with_mark m set) (mark_same m set))
    granted_reads (call.SetNodeIds f ids) = now ∙ sym (ours_changes f.0 (λ y. record y { nodes = ids }) (λ y. refl))
    granted_reads c = now

    pub follow_reads : (c : Call) → is_accepted (step s c).outcome ≡ true → of_keys (naming_at q (follow s (read s c)).names) ≡ of_face (called q c (step s c).outcome was)
    follow_reads c h = by (refusal_of s.core (read s c)) h
      where
        by : (x : Option Refusal) → is_accepted (answered x (granted s.core (read s c))).outcome ≡ true
            → of_keys (naming_at q (cond (is_accepted (answered x (granted s.core (read s c))).outcome) (accepted_state s (read s c)) s).names) ≡ of_face (called q c (answered x (granted s.core (read s c))).outcome was)
        by (Some r) e = absurd (false≢true e)
        by None e = ap (λ b. of_keys (naming_at q (cond b (accepted_state s (read s c)) s).names)) e ∙ granted_reads c

-- ---- what is kept of what is handed
module _ (q : ℕ) where
  both_quiet : (to : FaceId) (kept : Heard) → kept ≡ cond (to.0 == q) kept kept
  both_quiet to kept = sym (either (to.0 == q) kept)

  one_told : (to : FaceId) (d : Declare) (names : NamingState) (f : Option Face) (kept : Heard) → of_keys (naming_at q names) ≡ of_face f
      → fold (if_told with_told q) kept (telling_by to d (body_says (face_naming to.0 names) d.body)) ≡ cond (to.0 == q) (with_body (numbers_of f) d.body kept) kept
  one_told to d names f kept same = by d.body
    where
      there : (x : FaceNaming → Heard) → cond (q == to.0) (x (face_naming to.0 names)) kept ≡ cond (to.0 == q) (x (numbers_of f)) kept
      there x = ap (λ b. cond b (x (face_naming to.0 names)) kept) (swapped q to.0) ∙ at_it (to.0 == q) refl
        where
          at_it : (b : Bool) → (to.0 == q) ≡ b → cond b (x (face_naming to.0 names)) kept ≡ cond b (x (numbers_of f)) kept
          at_it true e = ap x (ap (λ n. face_naming n names) (eqb-true to.0 q e) ∙ read_same q names f same)
          at_it false e = refl

      by : (b : DeclareBody) → fold (if_told with_told q) kept (telling_by to d (body_says (face_naming to.0 names) b)) ≡ cond (to.0 == q) (with_body (numbers_of f) b kept) kept
      by (body.DeclareKeyExpr id w) = both_quiet to kept
      by (body.UndeclareKeyExpr id) = both_quiet to kept
      by (body.DeclareQueryable id w info) = there (λ n. with_body n (body.DeclareQueryable id w info) kept)
      by (body.UndeclareQueryable id None) = there (λ n. with_body n (body.UndeclareQueryable id None) kept)
      by (body.UndeclareQueryable id (Some w)) = there (λ n. with_body n (body.UndeclareQueryable id (Some w)) kept)
      by body.DeclareFinal = there (λ n. kept)

  quiet_face : (to : FaceId) (g : Face → Face) → ((x : Face) → (g x).numbers ≡ x.numbers) → (f : Option Face) → of_face f ≡ of_face (option_map (λ x. cond (to.0 == q) (g x) x) f)
  quiet_face to g same f = sym (face_mapped (λ x. cond (to.0 == q) (g x) x) (λ n. n) (λ x. by (to.0 == q) x) f ∙ same_mapped (of_face f))
    where
      by : (b : Bool) (x : Face) → (cond b (g x) x).numbers ≡ x.numbers
      by true x = same x
      by false x = refl

  body_heard : (to : FaceId) (b : DeclareBody) (names : NamingState) (f : Option Face) → of_keys (naming_at q names) ≡ of_face f → of_keys (naming_at q (heard_body to b names)) ≡ of_face (option_map (λ x. cond (to.0 == q) (told b x) x) f)
  body_heard to (body.DeclareKeyExpr id w) names f same = ap of_keys (changed_at to.0 q (with_heard id w.suffix) names) ∙ by (to.0 == q)
    where
      by : (b : Bool) → of_keys (cond b (option_map (with_heard id w.suffix) (naming_at q names)) (naming_at q names)) ≡ of_face (option_map (λ x. cond b (told (body.DeclareKeyExpr id w) x) x) f)
      by true =
          keys_mapped (with_heard id w.suffix) (with_ours id w.suffix) (λ n. refl) (naming_at q names) ∙ ap (option_map (with_ours id w.suffix)) same
          ∙ sym (face_mapped (told (body.DeclareKeyExpr id w)) (with_ours id w.suffix) (λ x. refl) f)
      by false = same ∙ sym (face_mapped (λ x. x) (λ n. n) (λ x. refl) f ∙ same_mapped (of_face f))
  body_heard to (body.UndeclareKeyExpr id) names f same = same ∙ quiet_face to (λ x. x) (λ x. refl) f
  body_heard to (body.DeclareQueryable id w info) names f same = same ∙ quiet_face to (λ x. x) (λ x. refl) f
  body_heard to (body.UndeclareQueryable id w) names f same = same ∙ quiet_face to (λ x. x) (λ x. refl) f
  body_heard to body.DeclareFinal names f same = same ∙ quiet_face to (λ x. x) (λ x. refl) f

  pub all_kept : (hs : List Handed) (names : NamingState) (f : Option Face) (kept : Heard) → of_keys (naming_at q names) ≡ of_face f → fold (if_told with_told q) kept (hear hs names) ≡ with_handed q f hs kept
  all_kept [] names f kept same = refl
  all_kept (h ∷ hs) names f kept same = by h.message (all_kept hs)
    where
      step_to : ((names : NamingState) (f : Option Face) (kept : Heard) → of_keys (naming_at q names) ≡ of_face f → fold (if_told with_told q) kept (hear hs names) ≡ with_handed q f hs kept)
          → (ts : List Telling) (more : NamingState) (g : Option Face) (left : Heard) → fold (if_told with_told q) kept ts ≡ left → of_keys (naming_at q more) ≡ of_face g → fold (if_told with_told q) kept (ts ++ hear hs more) ≡ with_handed q g hs left
      step_to rest ts more g left is alike = fold-append (if_told with_told q) kept ts (hear hs more) ∙ ap (λ k. fold (if_told with_told q) k (hear hs more)) is ∙ rest more g left alike

      by : (m : Message) → ((names : NamingState) (f : Option Face) (kept : Heard) → of_keys (naming_at q names) ≡ of_face f → fold (if_told with_told q) kept (hear hs names) ≡ with_handed q f hs kept)
          → fold (if_told with_told q) kept (hear_by h.to m names (hear hs)) ≡ with_handed q (option_map (λ x. cond (h.to.0 == q) (heard m x) x) f) hs (cond (h.to.0 == q) (with_message (numbers_of f) m kept) kept)
      by (message.Declare d) rest =
          step_to rest (telling_by h.to d (body_says (face_naming h.to.0 names) d.body)) (heard_body h.to d.body names) (option_map (λ x. cond (h.to.0 == q) (told d.body x) x) f) (cond (h.to.0 == q) (with_body (numbers_of f) d.body kept) kept)
          (one_told h.to d names f kept same) (body_heard h.to d.body names f same)
      by (message.Request r) rest = step_to rest [] names (option_map (λ x. cond (h.to.0 == q) x x) f) (cond (h.to.0 == q) kept kept) (both_quiet h.to kept) (same ∙ quiet_face h.to (λ x. x) (λ x. refl) f)
      by (message.Response r) rest = step_to rest [] names (option_map (λ x. cond (h.to.0 == q) x x) f) (cond (h.to.0 == q) kept kept) (both_quiet h.to kept) (same ∙ quiet_face h.to (λ x. x) (λ x. refl) f)
      by (message.ResponseFinal r) rest = step_to rest [] names (option_map (λ x. cond (h.to.0 == q) x x) f) (cond (h.to.0 == q) kept kept) (both_quiet h.to kept) (same ∙ quiet_face h.to (λ x. x) (λ x. refl) f)
      by (message.Interest i) rest = step_to rest [] names (option_map (λ x. cond (h.to.0 == q) x x) f) (cond (h.to.0 == q) kept kept) (both_quiet h.to kept) (same ∙ quiet_face h.to (λ x. x) (λ x. refl) f)
      by (message.InterestFinal i) rest = step_to rest [] names (option_map (λ x. cond (h.to.0 == q) x x) f) (cond (h.to.0 == q) kept kept) (both_quiet h.to kept) (same ∙ quiet_face h.to (λ x. x) (λ x. refl) f)
