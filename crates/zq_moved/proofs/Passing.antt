-- What a message does at one face as it goes through its gate: what the face reads of it, and what stays at the gate.
use Rattle.std.proofs.Common.{◌≡◌, ◌∙◌, refl, sym, ap, subst, ℕ, Bool, true, false, cond, List, [], ◌∷◌, ◌++◌, fold, Option, Some, None}
use Rattle.std.specs.Prelude.{◌==◌, ◌&&◌, is_none}
use Rattle.std.specs.Option.{option_and_then, option_map}
use Rattle.std.specs.BTreeMap.{is_at}
use Rattle.std.specs.Ordering.{nat_cmp}
use Rattle.std.proofs.Math.Bool.{and-false}
use Rattle.zq_message.specs.declared.message.Message.{Message}
use Rattle.zq_message.specs.declared.message.Message.TheVariants as message
use Rattle.zq_message.specs.declared.message.WireExpr.{WireExpr}
use Rattle.zq_key.specs.Key.{is_key}
use Rattle.zq_tables.specs.declared.resolved.Resolved.TheVariants as said
use Rattle.zq_tables.specs.Naming.{FaceKeys, FaceNaming, plain, read_by}
use Rattle.zq_namespace.specs.Denied.{denies, space_leaves}
use Rattle.zq_namespace.specs.Exit.{wire_out}
use Rattle.zq_namespace.specs.Leaves.{ExitState, gives}
use Rattle.zq_machine.specs.Gates.{Gate, Gates, ends_given, gate_at, keeping, kept_by, leaves_by, let_out, through, unasked_by, with_given, without_ended}
use Rattle.zq_machine.specs.Handing.{Handed}
use Rattle.zq_machine.specs.Selecting.{full_text}
use Rattle.zq_machine.proofs.Changing.{found_here, found_other, itself, number_test}
use Rattle.zq_moved.specs.Received.{in_full, knows, knows_handed, knows_left, listed, message_in_full, reads_all, reads_handed, reads_left}
use Rattle.zq_moved.proofs.Lower.{keeping_changed}
use Rattle.zq_moved.proofs.Fits.{Fits, shift, space_leaves_as}

-- ---- the gate of a face
-- the exit of its namespace, if it has one
abbrev pub exit_of : Option Gate → Option ExitState
exit_of g = option_and_then (λ (x : Gate). x.exit.space) g

-- what leaves by it: nothing where it is denied, and else what leaves by the exit
no_denied : (text : List ℕ) (m : Message) → denies [] text m ≡ false
no_denied text (message.Request r) = refl
no_denied text (message.Interest i) = refl
no_denied text (message.InterestFinal id) = refl
no_denied text (message.Declare d) = refl
no_denied text (message.Response r) = refl
no_denied text (message.ResponseFinal f) = refl

pub leaves_is : (g : Option Gate) (text : List ℕ) (m : Message) → leaves_by g text m ≡ cond (denies (unasked_by g) text m) None (space_leaves (exit_of g) m)
leaves_is None text m = ap (λ b. cond b None (Some m)) (sym (no_denied text m))
leaves_is (Some g) text m = refl

-- what stands for keys at an open face fits what its gate keeps and what it knows
abbrev pub FaceFits : Option FaceKeys → Option Gate → FaceNaming → Type 0
FaceFits None g known = Unit {0}
FaceFits (Some k) g known = Fits (exit_of g) k.numbers known

-- ---- messages to others
module _ (q : ℕ) where
  other_keeps : (h : Handed) (gates : Gates) → (h.to.0 == q) ≡ false → (b : Bool) → gate_at q (cond b (keeping h gates) gates) ≡ gate_at q gates
  other_keeps h gates e true = ap (gate_at q) (keeping_changed h gates) ∙ found_other h.to.0 (kept_by h.message) gates q (number_test h.to.0 q ∙ e)
  other_keeps h gates e false = refl

  pub other_given : (h : Handed) (gates : Gates) → (h.to.0 == q) ≡ false → gate_at q (with_given h gates) ≡ gate_at q gates
  other_given h gates e = other_keeps h gates e (is_none h.leaves && gives h.message)

  pub other_ended : (h : Handed) (gates : Gates) → (h.to.0 == q) ≡ false → gate_at q (without_ended gates h) ≡ gate_at q gates
  other_ended h gates e = other_keeps h gates e (is_none h.leaves && ends_given h.message)

  -- what is kept of a message to the face
  pub mine_given : (h : Handed) (gates : Gates) (g : Gate) → h.to.0 ≡ q → gate_at q gates ≡ Some g → (is_none h.leaves && gives h.message) ≡ true → gate_at q (with_given h gates) ≡ Some (kept_by h.message g)
  mine_given h gates g same there keeps =
      ap (λ b. gate_at q (cond b (keeping h gates) gates)) keeps
      ∙ ap (gate_at q) (keeping_changed h gates)
      ∙ found_here h.to.0 (kept_by h.message) gates q (ap (λ k. is_at (nat_cmp k) q) same ∙ itself q)
      ∙ ap (option_map (kept_by h.message)) there

  -- ---- messages one after another
  -- what the face reads of messages, what fits afterwards, and that none of them ends what is kept
  pub record Hears (text : List ℕ) (hs : List Handed) (gates : Gates) (known : FaceNaming) (keys : Option FaceKeys) (rs : List Message) : Type 0 where
    pub reads : reads_all q known (let_out text hs gates).handed ≡ rs
    pub fits : FaceFits keys (gate_at q (let_out text hs gates).gates) (fold (knows_handed q) known (let_out text hs gates).handed)
    pub ended : (g : Gates) → gate_at q (fold without_ended g (let_out text hs gates).handed) ≡ gate_at q g
    pub own : (fold (knows_handed q) known (let_out text hs gates).handed).theirs ≡ known.theirs

  pub hears_none : (text : List ℕ) (gates : Gates) (known : FaceNaming) (keys : Option FaceKeys) → FaceFits keys (gate_at q gates) known → Hears text [] gates known keys []
  hears_none text gates known keys fits = record { reads = refl; fits = fits; ended = λ g. refl; own = refl }

  module _ (text : List ℕ) (h : Handed) (hs : List Handed) (gates : Gates) (known : FaceNaming) (keys : Option FaceKeys) where
    abbrev out : Handed
    out = through text gates h

    pub hears_first : (r rs : List Message) → reads_handed q known out ≡ r → ((g : Gates) → gate_at q (without_ended g out) ≡ gate_at q g) → (knows_handed q known out).theirs ≡ known.theirs
        → Hears text hs (with_given out gates) (knows_handed q known out) keys rs → Hears text (h ∷ hs) gates known keys (r ++ rs)
    hears_first r rs first ends own rest = record {
      reads = λ j. first j ++ rest.reads j;
      fits = rest.fits;
      ended = λ g. rest.ended (without_ended g out) ∙ ends g;
      own = rest.own ∙ own;
    }

    -- a message to another face
    pub hears_other : (rs : List Message) → (h.to.0 == q) ≡ false
        → Hears text hs (with_given out gates) known keys rs → Hears text (h ∷ hs) gates known keys rs
    hears_other rs e rest =
        hears_first [] rs (ap (λ b. cond b (reads_left known out.leaves) []) e) (λ g. other_ended out g e) (ap (λ b. (cond b (knows_left known out.leaves) known).theirs) e)
        (subst (λ k. Hears text hs (with_given out gates) k keys rs) (sym (ap (λ b. cond b (knows_left known out.leaves) known) e)) rest)

    -- a message to the face that leaves, and makes no number known
    pub hears_mine : (v m : Message) (rs : List Message) → (h.to.0 == q) ≡ true → out.leaves ≡ Some v → message_in_full known v ≡ Some m → knows known v ≡ known
        → Hears text hs gates known keys rs → Hears text (h ∷ hs) gates known keys (m ∷ rs)
    hears_mine v m rs e leaves full quiet rest =
        let stays : with_given out gates ≡ gates = ap (λ o. cond (is_none o && gives h.message) (keeping out gates) gates) leaves in
        let same : knows_handed q known out ≡ known = ap (λ b. cond b (knows_left known out.leaves) known) e ∙ ap (knows_left known) leaves ∙ quiet in
        hears_first (m ∷ []) rs (ap (λ b. cond b (reads_left known out.leaves) []) e ∙ ap (reads_left known) leaves ∙ ap listed full)
        (λ g. ap (λ o. gate_at q (cond (is_none o && ends_given h.message) (keeping out g) g)) leaves) (ap (λ (k : FaceNaming). k.theirs) same)
        (subst (λ k. Hears text hs (with_given out gates) k keys rs) (sym same) (subst (λ g. Hears text hs g known keys rs) (sym stays) rest))

    -- a message to the face of which nothing leaves, and that gives and ends nothing
    pub hears_nothing : (rs : List Message) → out.leaves ≡ None → gives h.message ≡ false → ends_given h.message ≡ false
        → Hears text hs gates known keys rs → Hears text (h ∷ hs) gates known keys rs
    hears_nothing rs none gave ends rest =
        let stays : with_given out gates ≡ gates = ap (λ b. cond (is_none out.leaves && b) (keeping out gates) gates) gave ∙ ap (λ b. cond b (keeping out gates) gates) (and-false (is_none out.leaves)) in
        let same : knows_handed q known out ≡ known = ap (λ o. cond (h.to.0 == q) (knows_left known o) known) none ∙ by (h.to.0 == q) in
        hears_first [] rs (ap (λ o. cond (h.to.0 == q) (reads_left known o) []) none ∙ empty (h.to.0 == q))
        (λ g. ap (gate_at q) (ap (λ b. cond (is_none out.leaves && b) (keeping out g) g) ends ∙ ap (λ b. cond b (keeping out g) g) (and-false (is_none out.leaves)))) (ap (λ (k : FaceNaming). k.theirs) same)
        (subst (λ k. Hears text hs (with_given out gates) k keys rs) (sym same) (subst (λ g. Hears text hs g known keys rs) (sym stays) rest))
      where
        by : (b : Bool) → cond b known known ≡ known
        by true = refl
        by false = refl

        empty : (b : Bool) → ◌≡◌ {A = List Message} (cond b [] []) []
        empty true = refl
        empty false = refl

-- ---- a message with an expression
-- what leaves of it by an exit is the same message by an expression that the face reads as the text
pub record Goes (o : Option ExitState) (known : FaceNaming) (f : WireExpr → Message) (w : WireExpr) (t : List ℕ) : Type 0 where
  pub wire : WireExpr
  pub leaves : space_leaves o (f w) ≡ Some (f wire)
  pub reads : in_full known wire ≡ plain t

pub goes_out : (o : Option ExitState) (k known : FaceNaming) → Fits o k known → (f : WireExpr → Message) (w : WireExpr) (t : List ℕ) → ((e : ExitState) → o ≡ Some e → space_leaves (Some e) (f w) ≡ option_map f (wire_out e.ns e.heads w))
    → is_key t ≡ true → read_by k w ≡ said.Full (shift o t) → Goes o known f w t
goes_out None k known fits f w t goes key says = record { wire = w; leaves = refl; reads = ap (λ x. plain (full_text (read_by x w))) fits ∙ ap (λ s. plain (full_text s)) says }
goes_out (Some e) k known fits f w t goes key says =
    let l = space_leaves_as e k known fits w t key says in
    record { wire = l.wire; leaves = goes e refl ∙ ap (option_map f) l.leaves; reads = ap (λ s. plain (full_text s)) l.reads }
