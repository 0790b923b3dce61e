-- What faces were told, with all its texts moved by one map of texts; and that what is told moves along.
use Rattle.std.specs.Prelude.{◌≡◌, ℕ, List, map}
use Rattle.zq_index.specs.Texts.{text_cmp}
use Rattle.zq_strategy.specs.declared.network.Telling.{Telling}
use Rattle.zq_told.specs.declared.types.FaceUpdate.{FaceUpdate}
use Rattle.zq_told.specs.declared.types.FacePlan.{FacePlan}
use Rattle.zq_told.specs.declared.types.Planned.{Planned}
use Rattle.zq_told.specs.declared.types.Reason.{Reason}
use Rattle.zq_told.specs.ToldSets.{ToldSet, ToldSets, closed, last_at, opened, told_at}
use Rattle.zq_told.specs.Telling.{lacks_ids, put_plan, tell_due, tell_faces}

-- the map keeps the order of texts, and so which of them are the same
abbrev pub KeepsTexts : (List ℕ → List ℕ) → Type 0
KeepsTexts φ = (a b : List ℕ) → text_cmp (φ a) (φ b) ≡ text_cmp a b

module _ (φ : List ℕ → List ℕ) where
  -- what stands at a text, moved
  abbrev pub move_text : {X : Type 0} → List ℕ × X → List ℕ × X
  move_text e = (φ e.0, e.1)

  -- what is kept of a face, with its keys moved
  abbrev pub move_ear : ToldSet → ToldSet
  move_ear e = record { last = e.last; told = map move_text e.told }

  -- what is kept of each face, with its keys moved
  abbrev pub move_ears : ToldSets → ToldSets
  move_ears ears = map (λ e. (e.0, move_ear e.1)) ears

  -- the keys that a call looks at for a face, moved
  abbrev pub move_dues : FaceUpdate → FaceUpdate
  move_dues d = record { face = d.face; keys = map move_text d.keys }

  -- what a call leaves of a face, with its keys moved
  abbrev pub move_plan : FacePlan → FacePlan
  move_plan p = record { face = p.face; last = p.last; rows = map move_text p.rows }

  -- a telling with its key moved
  abbrev pub move_telling : Telling → Telling
  move_telling t = record { face = t.face; id = t.id; key = φ t.key; info = t.info; node = t.node }

  -- what a call leaves of faces, and what they are told, with all keys moved
  abbrev pub move_planned : Planned → Planned
  move_planned p = record { plan = map move_plan p.plan; tellings = map move_telling p.tellings }

-- what is told, and what a call leaves, moves with its texts; ids lack there where they lacked, and the same is found at the moved keys
pub record TellsAlike (φ : List ℕ → List ℕ) : Type 0 where
  pub tells : (way : Reason) (ears : ToldSets) (dues : List FaceUpdate) → tell_faces way (move_ears φ ears) (map (move_dues φ) dues) ≡ move_planned φ (tell_faces way ears dues)
  pub lacks : (way : Reason) (ears : ToldSets) (dues : List FaceUpdate) → lacks_ids way (move_ears φ ears) (map (move_dues φ) dues) ≡ lacks_ids way ears dues
  pub puts : (plan : List FacePlan) (ears : ToldSets) → put_plan (map (move_plan φ) plan) (move_ears φ ears) ≡ move_ears φ (put_plan plan ears)
  pub leaves : (way : Reason) (ears : ToldSets) (dues : List FaceUpdate) → tell_due way (move_ears φ ears) (map (move_dues φ) dues) ≡ move_ears φ (tell_due way ears dues)
  pub opens : (n last : ℕ) (ears : ToldSets) → opened n last (move_ears φ ears) ≡ move_ears φ (opened n last ears)
  pub closes : (n : ℕ) (ears : ToldSets) → closed n (move_ears φ ears) ≡ move_ears φ (closed n ears)
  pub finds : (n : ℕ) (key : List ℕ) (ears : ToldSets) → told_at n (φ key) (move_ears φ ears) ≡ told_at n key ears
  pub counts : (n : ℕ) (ears : ToldSets) → last_at n (move_ears φ ears) ≡ last_at n ears
