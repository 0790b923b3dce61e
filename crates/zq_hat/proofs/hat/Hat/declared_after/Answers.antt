use Rattle.std.proofs.Common.{◌≡◌, ◌∙◌, ap, sym, List, ℕ, Option, ◌⊎◌, inl, inr}
use Rattle.zq_message.specs.declared.message.FaceId.{FaceId}
use Rattle.zq_message.specs.declared.message.QueryableInfoType.{QueryableInfoType}
use Rattle.zq_message.specs.declared.message.Zid.{Zid}
use Rattle.zq_strategy.specs.declared.network.Network.{Network}
use Rattle.zq_strategy.specs.declared.types.Change.{Change}
use Rattle.zq_strategy.specs.declared.types.Change.TheVariants as change
use Rattle.zq_strategy.specs.Changes.{changed_by}
use Rattle.zq_strategy.specs.Fellows.{info_but}
use Rattle.zq_strategy.specs.State.{HatState}
use Rattle.zq_hat.proofs.Afterwards.{face_left, from_but, nothing_changed, same_faces, withdrawn}
use Rattle.zq_hat.proofs.hat.Hat.declared_after.Goals as goal

pub returns-in-Declared : goal.returns-in-Declared
returns-in-Declared c =
    c.declared_with.ensures
    ∙ ap (λ (x : Change). info_but c.args.but c.args.key.now (changed_by x c.args.key.now c.args.self.now)) (sym c.in-Declared.is)

pub returns-in-Withdrawn : goal.returns-in-Withdrawn
returns-in-Withdrawn c =
    let i = c.self.inside in
    let face = c.in-Withdrawn.face in
    let id = c.in-Withdrawn.id in
    let key = c.args.key.now in
    c.merged_but.ensures
    ∙ withdrawn i.faces.entries i.index c.self.invariant.tied key c.args.but face.0 id
    ∙ ap (λ (s : HatState). info_but c.args.but key (changed_by (change.Withdrawn face id) key s)) c.self.view_is
    ∙ ap (λ (x : Change). info_but c.args.but key (changed_by x key c.args.self.now)) (sym c.in-Withdrawn.is)

pub returns-in-Left : goal.returns-in-Left
returns-in-Left c =
    let i = c.self.inside in
    let face = c.in-Left.face in
    let key = c.args.key.now in
    c.merged_but-in-Left.ensures
    ∙ face_left i.faces.entries i.index c.self.invariant.tied key c.args.but face.0
    ∙ ap (λ (s : HatState). info_but c.args.but key (changed_by (change.Left face) key s)) c.self.view_is
    ∙ ap (λ (x : Change). info_but c.args.but key (changed_by x key c.args.self.now)) (sym c.in-Left.is)

-- entries and networks are nothing to what faces declared
module _ (but : Option FaceId) (key : List ℕ) (s : HatState) where
  abbrev says : Change → Option QueryableInfoType
  says x = info_but but key (changed_by x key s)

  still : (x : Change) → ((zid : Zid) × (i : QueryableInfoType) × (x ≡ change.Announced zid i)) ⊎ (((zid : Zid) × (x ≡ change.Retracted zid)) ⊎ ((net : Network) × (x ≡ change.Networked net))) → info_but but key s ≡ says x
  still x (inl e) = ap says (sym e.2)
  still x (inr (inl e)) = ap says (sym e.1)
  still x (inr (inr e)) = ap (from_but but key) (sym (same_faces e.0 s)) ∙ ap says (sym e.1)

pub returns-in-Announced : goal.returns-in-Announced
returns-in-Announced c =
    let i = c.self.inside in
    let key = c.args.key.now in
    c.merged_but-in-Announced.ensures
    ∙ nothing_changed i.faces.entries i.index c.self.invariant.tied key c.args.but
    ∙ ap (info_but c.args.but key) c.self.view_is
    ∙ still c.args.but key c.args.self.now c.args.change.now c.in-Announced.is
