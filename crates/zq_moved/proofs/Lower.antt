-- Facts about what the crates below define, which are proved there for those crates alone.
use Rattle.std.proofs.Common.{◌≡◌, ◌∙◌, refl, sym, ap, ℕ, Bool, true, false, cond, List, [], ◌∷◌, ◌++◌, Option, Some, None, ◌⊎◌, inr, length, arith, eqb-true, append_assoc, ◌<◌, inl, take, drop}
use Rattle.std.specs.Prelude.{find, ◌==◌, ◌&&◌, is_none}
use Rattle.std.specs.List.{AllByRecursion, list_any, position}
use Rattle.std.specs.Map.{values_of}
use Rattle.std.specs.Option.{option_map}
use Rattle.std.proofs.lemmas.Bool.{false≢true, and_parts}
use Rattle.zq_key.specs.Key.{is_key, is_chunk}
use Rattle.zq_message.specs.declared.message.FaceId.{FaceId}
use Rattle.zq_message.specs.declared.message.Request.{Request}
use Rattle.zq_namespace.specs.Entry.{is_bare}
use Rattle.zq_strategy.specs.declared.offer.QueryTargetQabl.{QueryTargetQabl}
use Rattle.zq_query.specs.declared.records.Final.{Final}
use Rattle.zq_query.specs.Records.{Record, final_of}
use Rattle.zq_tables.specs.declared.resolved.Resolved.{Resolved}
use Rattle.zq_tables.specs.declared.resolved.Resolved.TheVariants as said
use Rattle.zq_machine.specs.declared.face.OpenFace.{OpenFace}
use Rattle.zq_machine.specs.Selecting.{AskerState, asker_in, full_text, offers_to, route_for, says_key, select, select_for}
use Rattle.zq_machine.specs.State.{Core, at}
use Rattle.zq_machine.proofs.Changing.{changed, put_changed}
use Rattle.zq_machine.proofs.Routes.{none_in_route}
use Rattle.zq_message.specs.declared.message.WireExpr.{WireExpr}
use Rattle.zq_namespace.specs.Leaves.{gives}
use Rattle.zq_tables.specs.Naming.{FaceNaming, said_of, said_plainly, said_under, sent_side, text_at}
use Rattle.zq_machine.specs.Gates.{Gate, gate_at, Gates, keeping, kept_by, with_given, put_kept}
use Rattle.zq_names.specs.Texts.{nonwild, cut_at_star, is_star_byte, parent_of}
use Rattle.zq_machine.specs.Handing.{Handed}
use Rattle.std.proofs.Math.Bool.{and-false}
use Rattle.std.proofs.lemmas.List.{take-append-drop}
use Rattle.zq_names.proofs.Cleaning.{parent_cases}

-- ---- texts
-- a key has a byte
pub key_some : (t : List ℕ) → is_key t ≡ true → 0 < length t
unfolding is_key is_chunk
key_some [] h = absurd (false≢true h)
key_some (b ∷ t) h = omega arith

-- the text, or a part of it that ends before a `/`
abbrev pub IsFrontOf : List ℕ → List ℕ → Type 0
IsFrontOf x u = (x ≡ u) ⊎ ((rest : List ℕ) × (u ≡ x ++ 47 ∷ rest))

-- it is cut off before a `/`
before_star : (t : List ℕ) (k : ℕ) → 0 < length (parent_of (take k t)) → IsFrontOf (parent_of (take k t)) t
before_star t k some = elim (parent_cases (take k t) (length (take k t)) (omega arith)) [
  | inl none ↦ absurd (omega (arith, some, ap length none))
  | inr (below, shorter) ↦
      let part = parent_of (take k t) in
      inr (below.0 ++ drop k t, sym (take-append-drop k t) ∙ ap (λ (x : List ℕ). x ++ drop k t) below.1 ∙ append_assoc part (47 ∷ below.0) (drop k t))
]

-- so the part of a text without a `*` is a front of it
pub nonwild_front : (t : List ℕ) → 0 < length (nonwild t) → IsFrontOf (nonwild t) t
nonwild_front t some = by (position is_star_byte t) some
  where
    by : (o : Option ℕ) → 0 < length (cut_at_star t o) → IsFrontOf (cut_at_star t o) t
    by None some = inl refl
    by (Some k) some = before_star t k some

-- ---- expressions
-- the empty expression says nothing
pub bare_says : (k : FaceNaming) (w : WireExpr) → is_bare w ≡ true → said_of k w ≡ said.Empty
bare_says k w bare =
    let p = and_parts (w.scope == 0) (length w.suffix == 0) bare in
    ap (λ c. cond c (said_plainly w.suffix) (said_under (text_at w.scope (sent_side k w.mapping)) w.suffix)) p.0 ∙ empty w.suffix (eqb-true _ _ p.1)
  where
    empty : (l : List ℕ) → length l ≡ 0 → said_plainly l ≡ said.Empty
    empty [] e = refl
    empty (x ∷ l) e = absurd (omega (arith, e))

-- ---- gates
-- what is kept of a message changes the gate of its face alone
pub keeping_changed : (h : Handed) (gates : Gates) → keeping h gates ≡ changed h.to.0 (kept_by h.message) gates
keeping_changed h gates = by (gate_at h.to.0 gates)
  where
    by : (o : Option Gate) → put_kept h.to.0 h.message gates o ≡ put_changed h.to.0 (kept_by h.message) gates o
    by None = refl
    by (Some g) = refl

-- a message that gives nothing leaves the gates as they are
pub nothing_given : (h : Handed) (gates : Gates) → gives h.message ≡ false → with_given h gates ≡ gates
nothing_given h gates e = ap (λ b. cond (is_none h.leaves && b) (keeping h gates) gates) e ∙ ap (λ b. cond b (keeping h gates) gates) (and-false (is_none h.leaves))

-- ---- what holds of the asker of each record holds of that of a record that is found
module _ (P : FaceId → Type 0) where
  abbrev pub OfAsker : Option Final → Type 0
  OfAsker None = Unit {0}
  OfAsker (Some f) = P f.asker

  pub found_there : (test : Record → Bool) (rs : List Record) → AllByRecursion (λ (r : Record). P r.asker) rs → OfAsker (option_map final_of (find test rs))
  found_there test [] all = tt
  found_there test (r ∷ rs) all = by (test r) (found_there test rs all.1)
    where
      by : (b : Bool) → OfAsker (option_map final_of (find test rs)) → OfAsker (option_map final_of (cond b (Some r) (find test rs)))
      by true rest = all.0
      by false rest = rest

-- ---- what fails for every offer of every hat fails for what is selected
pub none_selected : (p : QueryTargetQabl → Bool) (c : Core) (asker : FaceId) (s : Resolved) (r : Request)
    → ((a : AskerState) → AllByRecursion (λ h. list_any p (offers_to a (full_text s) h) ≡ false) (values_of c.hats)) → list_any p (select c asker s r) ≡ false
none_selected p c asker s r all = by (at asker.0 c.faces)
  where
    by : (o : Option OpenFace) → list_any p (select_for c asker s r o) ≡ false
    by None = refl
    by (Some o) = keyed (says_key s)
      where
        keyed : (b : Bool) → list_any p (cond b (values_of (route_for c (asker_in c asker r.node o) (full_text s) r.target)) []) ≡ false
        keyed true = none_in_route p c (asker_in c asker r.node o) (full_text s) r.target (all (asker_in c asker r.node o))
        keyed false = refl
