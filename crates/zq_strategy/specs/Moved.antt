-- Hats whose texts are all moved by one map of texts.
use Rattle.std.specs.Prelude.{ℕ, ◌≡◌, List, map}
use Rattle.std.specs.Str.{bytes_eq}
use Rattle.zq_key.specs.Key.{is_key, intersects, includes}
use Rattle.zq_strategy.specs.declared.types.Declaration.{Declaration}
use Rattle.zq_strategy.specs.declared.types.FinalMark.{FinalMark}
use Rattle.zq_strategy.specs.declared.types.FinalMark.TheVariants as mark
use Rattle.zq_strategy.specs.declared.offer.QueryTargetQabl.{QueryTargetQabl}
use Rattle.zq_index.specs.Texts.{text_cmp}
use Rattle.zq_strategy.specs.State.{FaceState, HatState}

-- the map keeps which texts are the same, how keys relate, which texts are keys, and their order
pub record Keeps (φ : List ℕ → List ℕ) : Type 0 where
  pub same : (a b : List ℕ) → bytes_eq (φ a) (φ b) ≡ bytes_eq a b
  pub meet : (a b : List ℕ) → intersects (φ a) (φ b) ≡ intersects a b
  pub cover : (a b : List ℕ) → includes (φ a) (φ b) ≡ includes a b
  pub key : (a : List ℕ) → is_key (φ a) ≡ is_key a
  pub order : (a b : List ℕ) → text_cmp (φ a) (φ b) ≡ text_cmp a b

module _ (φ : List ℕ → List ℕ) where
  -- a declaration with its key moved
  abbrev pub move_declared : ℕ × Declaration → ℕ × Declaration
  move_declared d = (d.0, record d.1 { key = φ d.1.key })

  -- a mark with its key moved
  abbrev pub move_mark : FinalMark → FinalMark
  move_mark mark.Initial = mark.Initial
  move_mark (mark.Key key) = mark.Key (φ key)

  -- a face with its texts moved
  abbrev pub move_face : ℕ × FaceState → ℕ × FaceState
  move_face f = (f.0, record f.1 { declared = map move_declared f.1.declared; finalized = map φ f.1.finalized })

  -- an entry by text, moved
  abbrev pub move_entry : {X : Type 0} → List ℕ × X → List ℕ × X
  move_entry e = (φ e.0, e.1)

  -- a hat with all its texts moved
  abbrev pub move_hat : HatState → HatState
  move_hat s = record s { faces = map move_face s.faces; entries = map move_entry s.entries }

  -- an offer with its key moved
  abbrev pub move_offer : QueryTargetQabl → QueryTargetQabl
  move_offer o = record o { key = φ o.key }
