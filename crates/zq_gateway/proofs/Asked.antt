-- What is kept for the request of an open face.
use Rattle.std.proofs.Common.{◌≡◌, ◌∙◌, sym, subst, Some}
use Rattle.std.proofs.lemmas.Option.{same_Some}
use Rattle.zq_message.specs.declared.message.FaceId.{FaceId}
use Rattle.zq_message.specs.declared.message.Request.{Request}
use Rattle.zq_tables.specs.declared.resolved.Resolved.{Resolved}
use Rattle.zq_machine.specs.declared.face.OpenFace.{OpenFace}
use Rattle.zq_machine.specs.State.{State, at}
use Rattle.zq_kept.specs.Current.{KeptOffers}
use Rattle.zq_gateway.specs.Caching.{IsKeptOf}

-- it is kept for the face as it is open
pub kept_for : (s : State) (t : KeptOffers) (face : FaceId) (r : Request) (said : Resolved) (here : OpenFace) → at face.0 s.core.faces ≡ Some here → IsKeptOf s t face r said here → (o : OpenFace) → at face.0 s.core.faces ≡ Some o → IsKeptOf s t face r said o
kept_for s t face r said here seen kept o is = subst (IsKeptOf s t face r said) (same_Some here o (sym seen ∙ is)) kept
