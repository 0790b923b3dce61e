-- Two runs that are alike but for a namespace: what each call says in both.
use Rattle.std.proofs.Common.{◌≡◌, ◌∙◌, refl, sym, ap, ℕ, Bool, true, false, cond, not, List, [], ◌∷◌, map, Option, Some, None, append_assoc}
use Rattle.std.specs.Prelude.{◌==◌, ◌&&◌, ◌||◌, is_some, unwrap_or}
use Rattle.std.specs.Option.{option_map}
use Rattle.std.specs.BTreeMap.{is_at}
use Rattle.std.specs.Ordering.{nat_cmp}
use Rattle.std.proofs.lemmas.Bool.{and_parts, false≢true}
use Rattle.std.proofs.lemmas.Map.Made.{lookup-map_values}
use Rattle.std.proofs.lemmas.Option.{none-some, same_Some}
use Rattle.zq_key.specs.Key.{includes, is_key, is_plain}
use Rattle.zq_key.specs.Space.{behind, prefixed}
use Rattle.zq_key.proofs.Behind.{includes-behind, intersects-behind, key-behind, order-behind, same-behind}
use Rattle.zq_key.proofs.Naturals.{any-map}
use Rattle.zq_strategy.specs.Moved.{Keeps}
use Rattle.zq_message.specs.declared.message.FaceId.{FaceId}
use Rattle.zq_message.specs.declared.message.Mapping.{Mapping}
use Rattle.zq_message.specs.declared.message.Mapping.TheVariants as mapping
use Rattle.zq_message.specs.declared.message.Request.{Request}
use Rattle.zq_message.specs.declared.message.Response.{Response}
use Rattle.zq_message.specs.declared.message.WireExpr.{WireExpr}
use Rattle.zq_namespace.specs.Denied.{is_denied}
use Rattle.zq_namespace.specs.Entry.{entered, is_bare, is_bare_error, is_error}
use Rattle.zq_namespace.specs.Exit.{is_receiver}
use Rattle.zq_namespace.specs.Leaves.{ExitState}
use Rattle.zq_tables.specs.declared.resolved.Resolved.{Resolved}
use Rattle.zq_tables.specs.declared.resolved.Resolved.TheVariants as said
use Rattle.zq_tables.specs.Naming.{FaceKeys, FaceNaming, face_naming, naming_at, no_keys, said_of, said_plainly, said_under, sent_side, text_at}
use Rattle.zq_machine.specs.Configs.{Settings}
use Rattle.zq_machine.specs.Gates.{Gate, denied_by, entered_by, gate_at, reply_by, space_of, unasked_by}
use Rattle.zq_machine.specs.Hearing.{has_text}
use Rattle.zq_machine.specs.Moved.{move_core, move_said}
use Rattle.zq_machine.specs.State.{Core, State, at}
use Rattle.zq_machine.specs.TextCalls.{allowed, asked_said, said as says, said_by_reply, standing}
use Rattle.zq_machine.proofs.Agreed.{InOrder}
use Rattle.zq_moved.specs.Moving.{can_move_reply, can_move_wire}
use Rattle.zq_moved.proofs.Lower.{bare_says}
use Rattle.zq_moved.proofs.Fits.{Fits, moved_name}
use Rattle.zq_moved.proofs.Passing.{exit_of}
use Rattle.zq_moved.proofs.Telling.{Ready, space_is}

-- a plain prefix keeps how texts relate
pub keeps_behind : (n : List ℕ) → is_plain n ≡ true → Keeps (behind n)
keeps_behind n plain = record {
  same = λ a b. same-behind n a b;
  meet = λ a b. intersects-behind n a b plain;
  cover = λ a b. includes-behind n a b plain;
  key = λ a. key-behind n a plain;
  order = λ a b. order-behind n a b;
}

-- two states of runs of one configuration: what decides is the same with its texts behind the namespace; each face has the same numbers of its own, and knows what fits in its run; and what it is denied is the same behind the namespace
pub record Alike (config : Settings) (n : List ℕ) (s z : State) (a b : ℕ → FaceNaming) : Type 0 where
  pub core : z.core ≡ move_core (behind n) s.core
  pub own : (q : ℕ) → (b q).theirs ≡ (a q).theirs
  pub here : (q : ℕ) → Ready None (naming_at q s.names) (gate_at q s.gates) (a q)
  pub there : (q : ℕ) → Ready (Some n) (naming_at q z.names) (gate_at q z.gates) (b q)
  pub entry : (q : ℕ) → denied_by (gate_at q z.gates) ≡ map (behind n) (denied_by (gate_at q s.gates))
  pub exit : (q : ℕ) → unasked_by (gate_at q z.gates) ≡ map (behind n) (unasked_by (gate_at q s.gates))
  pub order : InOrder config s
  pub order' : InOrder config z

-- ---- an open face, in both
-- what stands for keys, by what the face knows
pub fits_none : (g : Option Gate) (k : FaceKeys) (known : FaceNaming) → Ready None (Some k) g known → known ≡ k.numbers
fits_none g k known ready = by (exit_of g) (space_is g ∙ ready.space refl) ready.fits
  where
    by : (x : Option ExitState) → option_map (λ (e : ExitState). e.ns) x ≡ None → Fits x k.numbers known → known ≡ k.numbers
    by None is fits = fits
    by (Some e) is fits = absurd (none-some e.ns (sym is))

pub fits_own : (n : List ℕ) (g : Option Gate) (k : FaceKeys) (known : FaceNaming) → Ready (Some n) (Some k) g known → k.numbers.theirs ≡ map (moved_name (behind n)) known.theirs
fits_own n g k known ready = by (exit_of g) (space_is g ∙ ready.space refl) ready.fits
  where
    by : (x : Option ExitState) → option_map (λ (e : ExitState). e.ns) x ≡ Some n → Fits x k.numbers known → k.numbers.theirs ≡ map (moved_name (behind n)) known.theirs
    by None is fits = absurd (none-some n is)
    by (Some e) is fits = fits.own ∙ ap (λ m. map (moved_name (behind m)) known.theirs) (same_Some _ _ is)

pub text_moved : (n : List ℕ) (id : ℕ) (l : List (ℕ × List ℕ)) → text_at id (map (moved_name (behind n)) l) ≡ option_map (behind n) (text_at id l)
text_moved n id l = lookup-map_values (behind n) (is_at (nat_cmp id)) l

under_moved : (n : List ℕ) (o : Option (List ℕ)) (suffix : List ℕ) → said_under (option_map (behind n) o) suffix ≡ move_said (behind n) (said_under o suffix)
under_moved n None suffix = refl
under_moved n (Some t) suffix = ap said.Full (append_assoc n (47 ∷ t) suffix)

plainly_moved : (n t : List ℕ) → has_text t ≡ true → said_plainly (prefixed n t) ≡ move_said (behind n) (said_plainly t)
plainly_moved n [] e = absurd (false≢true e)
plainly_moved [] (c ∷ t) e = refl
plainly_moved (x ∷ n) (c ∷ t) e = refl

-- an expression that can be moved, by numbers that are moved
wire_moved : (n : List ℕ) (k k' : FaceNaming) → k'.theirs ≡ map (moved_name (behind n)) k.theirs → (w : WireExpr) → can_move_wire w ≡ true → said_of k' (entered n w) ≡ move_said (behind n) (said_of k w)
wire_moved n k k' own w moves = by (w.scope == 0) refl w.mapping refl moves
  where
    by : (b : Bool) → (w.scope == 0) ≡ b → (m : Mapping) → w.mapping ≡ m → cond b (has_text w.suffix) (not (is_receiver w.mapping)) ≡ true → said_of k' (entered n w) ≡ move_said (behind n) (said_of k w)
    by true z m is text =
        ap (λ c. said_of k' (cond c (record w { suffix = prefixed n w.suffix }) w)) z
        ∙ ap (λ c. cond c (said_plainly (prefixed n w.suffix)) (said_under (text_at w.scope (sent_side k' w.mapping)) (prefixed n w.suffix))) z
        ∙ plainly_moved n w.suffix text
        ∙ ap (move_said (behind n)) (sym (ap (λ c. cond c (said_plainly w.suffix) (said_under (text_at w.scope (sent_side k w.mapping)) w.suffix)) z))
    by false z mapping.Receiver is none = absurd (false≢true (sym (ap (λ m. not (is_receiver m)) is) ∙ none))
    by false z mapping.Sender is none =
        ap (λ c. said_of k' (cond c (record w { suffix = prefixed n w.suffix }) w)) z
        ∙ ap (λ c. cond c (said_plainly w.suffix) (said_under (text_at w.scope (sent_side k' w.mapping)) w.suffix)) z
        ∙ ap (λ m. said_under (text_at w.scope (sent_side k' m)) w.suffix) is
        ∙ ap (λ o. said_under o w.suffix) (ap (text_at w.scope) own ∙ text_moved n w.scope k.theirs)
        ∙ under_moved n (text_at w.scope k.theirs) w.suffix
        ∙ ap (move_said (behind n)) (sym (ap (λ c. cond c (said_plainly w.suffix) (said_under (text_at w.scope (sent_side k w.mapping)) w.suffix)) z ∙ ap (λ m. said_under (text_at w.scope (sent_side k m)) w.suffix) is))

pub denied_moved : (n : List ℕ) → is_plain n ≡ true → (d : List (List ℕ)) (t : List ℕ) → is_denied (map (behind n) d) (behind n t) ≡ is_denied d t
denied_moved n plain d t = any-map (behind n) (λ k. includes k (behind n t)) (λ k. includes k t) (λ k. includes-behind n k t plain) d

allowed_moved : (n : List ℕ) → is_plain n ≡ true → (d : List (List ℕ)) (sd : Resolved) → allowed (map (behind n) d) (move_said (behind n) sd) ≡ move_said (behind n) (allowed d sd)
allowed_moved n plain d said.Unscoped = refl
allowed_moved n plain d said.Empty = refl
allowed_moved n plain d (said.Full t) =
    ap (λ c. cond (c && is_denied (map (behind n) d) (behind n t)) said.Empty (said.Full (behind n t))) (key-behind n t plain)
    ∙ ap (λ c. cond (is_key t && c) said.Empty (said.Full (behind n t))) (denied_moved n plain d t)
    ∙ by (is_key t && is_denied d t)
  where
    by : (c : Bool) → cond c said.Empty (said.Full (behind n t)) ≡ move_said (behind n) (cond c said.Empty (said.Full t))
    by true = refl
    by false = refl

module _ (config : Settings) (n : List ℕ) (plain : is_plain n ≡ true) (s z : State) (a b : ℕ → FaceNaming) (alike : Alike config n s z a b) where
  -- the same faces are open
  pub same_open : (q : ℕ) → is_some (naming_at q z.names) ≡ is_some (naming_at q s.names)
  same_open q = alike.order'.tied.named q ∙ ap (λ (c : Core). is_some (at q c.faces)) alike.core ∙ sym (alike.order.tied.named q)

  module _ (face : FaceId) (opened : is_some (naming_at face.0 s.names) ≡ true) where
    pub here_is : a face.0 ≡ face_naming face.0 s.names
    here_is = by (naming_at face.0 s.names) refl opened (alike.here face.0)
      where
        by : (x : Option FaceKeys) → naming_at face.0 s.names ≡ x → is_some x ≡ true → Ready None x (gate_at face.0 s.gates) (a face.0) → a face.0 ≡ (unwrap_or x no_keys).numbers
        by None is e r = absurd (false≢true e)
        by (Some k) is e r = fits_none (gate_at face.0 s.gates) k (a face.0) r

    there_is : (face_naming face.0 z.names).theirs ≡ map (moved_name (behind n)) (b face.0).theirs
    there_is = by (naming_at face.0 z.names) refl (same_open face.0 ∙ opened) (alike.there face.0)
      where
        by : (x : Option FaceKeys) → naming_at face.0 z.names ≡ x → is_some x ≡ true → Ready (Some n) x (gate_at face.0 z.gates) (b face.0) → (unwrap_or x no_keys).numbers.theirs ≡ map (moved_name (behind n)) (b face.0).theirs
        by None is e r = absurd (false≢true e)
        by (Some k) is e r = fits_own n (gate_at face.0 z.gates) k (b face.0) r

    pub own_is : (face_naming face.0 z.names).theirs ≡ map (moved_name (behind n)) (face_naming face.0 s.names).theirs
    own_is = there_is ∙ ap (map (moved_name (behind n))) (alike.own face.0 ∙ ap (λ (k : FaceNaming). k.theirs) here_is)

    pub space_here : space_of (gate_at face.0 s.gates) ≡ None
    space_here = (alike.here face.0).space opened

    pub space_there : space_of (gate_at face.0 z.gates) ≡ Some n
    space_there = (alike.there face.0).space (same_open face.0 ∙ opened)

    -- what an expression says
    pub says_moved : (w : WireExpr) → can_move_wire w ≡ true → says face w z ≡ move_said (behind n) (says face w s)
    says_moved w moves =
        ap (λ o. said_of (face_naming face.0 z.names) (entered_by o w)) space_there
        ∙ wire_moved n (face_naming face.0 s.names) (face_naming face.0 z.names) own_is w moves
        ∙ ap (move_said (behind n)) (sym (ap (λ o. said_of (face_naming face.0 s.names) (entered_by o w)) space_here))

    -- of a reply
    pub reply_moved : (r : Response) → can_move_reply r ≡ true → said_by_reply face r z ≡ move_said (behind n) (said_by_reply face r s)
    reply_moved r moves =
        ap (λ o. said_of (face_naming face.0 z.names) (reply_by o r)) space_there
        ∙ by (is_bare_error r) refl moves
        ∙ ap (move_said (behind n)) (sym (ap (λ o. said_of (face_naming face.0 s.names) (reply_by o r)) space_here))
      where
        by : (c : Bool) → is_bare_error r ≡ c → (c || can_move_wire r.wire) ≡ true → said_of (face_naming face.0 z.names) (reply_by (Some n) r) ≡ move_said (behind n) (said_of (face_naming face.0 s.names) r.wire)
        by true e m =
            let bare = (and_parts (is_error r.payload) (is_bare r.wire) e).1 in
            ap (λ c. said_of (face_naming face.0 z.names) (cond c r (record r { wire = entered n r.wire })).wire) e
            ∙ bare_says (face_naming face.0 z.names) r.wire bare ∙ ap (move_said (behind n)) (sym (bare_says (face_naming face.0 s.names) r.wire bare))
        by false e m =
            ap (λ c. said_of (face_naming face.0 z.names) (cond c r (record r { wire = entered n r.wire })).wire) e
            ∙ wire_moved n (face_naming face.0 s.names) (face_naming face.0 z.names) own_is r.wire m

    -- of a request, where it may be asked
    pub asked_moved : (r : Request) → can_move_wire r.wire ≡ true → asked_said face r z ≡ move_said (behind n) (asked_said face r s)
    asked_moved r moves =
        (λ j. allowed (alike.entry face.0 j) (says_moved r.wire moves j))
        ∙ allowed_moved n plain (denied_by (gate_at face.0 s.gates)) (says face r.wire s)

    -- what a number of the face stands for
    pub standing_moved : (id : ℕ) → standing face id z ≡ option_map (behind n) (standing face id s)
    standing_moved id = ap (text_at id) own_is ∙ text_moved n id (face_naming face.0 s.names).theirs
