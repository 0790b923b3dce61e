-- A call with its texts moved is refused for the cause that refuses the call.
use Rattle.std.proofs.Common.{◌≡◌, ◌∙◌, refl, ap, ℕ, true, false, not, List, [], ◌∷◌, Option, Some, None}
use Rattle.std.specs.Prelude.{◌==◌, ◌||◌, is_none, option_map}
use Rattle.std.specs.Option.{option_and_then, option_map_or}
use Rattle.zq_message.specs.declared.message.FaceId.{FaceId}
use Rattle.zq_strategy.specs.declared.types.FinalMark.TheVariants as mark
use Rattle.zq_strategy.specs.Moved.{Keeps}
use Rattle.zq_strategy.specs.Routers.{source_at}
use Rattle.zq_strategy.specs.Nets.{is_zid}
use Rattle.zq_tables.specs.declared.resolved.Resolved.TheVariants as said
use Rattle.zq_tables.specs.Naming.{remaps}
use Rattle.zq_query.specs.Asking.{lacks_number}
use Rattle.zq_query.specs.Records.{is_pending, lacks_reply}
use Rattle.zq_machine.specs.declared.call.Refusal.TheVariants as refusal
use Rattle.zq_machine.specs.Gates.{is_sound}
use Rattle.zq_machine.specs.State.{Core, hat_of, has_declared_in, clashes_in}
use Rattle.zq_machine.specs.TextCalls.{TextCall, opening, closing, naming, unnaming, declaring, withdrawing, asking, replying, ending, reporting, passing, listing, finalizing, announcing, retracting, networking, tabling, hearing, unhearing}
use Rattle.std.specs.Ordering.{is_eq}
use Rattle.zq_machine.specs.Deciding.{clashes, entry_by, entry_of, first_of, has_declared, lacks_face_number, lacks_router, refusal_of, unknown_face}
use Rattle.zq_interests.specs.declared.types.InterestEntry.{InterestEntry}
use Rattle.zq_interests.specs.Interests.{asks_another, interest_at, same_asked}
use Rattle.zq_machine.specs.Moved.{move_asked, move_core, move_text}
use Rattle.zq_machine.specs.Selecting.{asked_by}
use Rattle.zq_machine.proofs.DuesMoved.{interest_there}
use Rattle.zq_machine.proofs.ChangedMoved.{lacks_moved}
use Rattle.zq_machine.proofs.HatsMoved.{declared_moved, clashes_moved, has_moved, full_moved, own_found}
use Rattle.zq_machine.proofs.RoutersMoved.{entry_moved, router_moved}
use Rattle.zq_machine.proofs.SelectionMoved.{targets_moved}

-- ---- causes
module _ (φ : List ℕ → List ℕ) (keeps : Keeps φ) (c : Core) where
  remaps_moved : (id : ℕ) (text : List ℕ) (standing : Option (List ℕ)) → remaps id (φ text) (option_map φ standing) ≡ remaps id text standing
  remaps_moved id text None = refl
  remaps_moved id text (Some t) = ap (λ b. (id == 0) || not b) (keeps.same t text)

  clash_moved : (face : FaceId) (id : ℕ) (text : List ℕ) → clashes face id (φ text) (move_core φ c) ≡ clashes face id text c
  clash_moved face id text = ap (clashes_in face.0 id (φ text)) (own_found φ c face.0) ∙ clashes_moved φ keeps face.0 id text (hat_of face.0 c)

  known_moved : (face : FaceId) (id : ℕ) → has_declared face id (move_core φ c) ≡ has_declared face id c
  known_moved face id = ap (has_declared_in face.0 id) (own_found φ c face.0) ∙ declared_moved φ face.0 id (hat_of face.0 c)

  routers_moved : (face : FaceId) (node : ℕ) → lacks_router face node (move_core φ c) ≡ lacks_router face node c
  routers_moved face node = ap (λ o. option_map_or (is_zid c.config.zid) o true) (ap (option_and_then (source_at face.0 node)) (own_found φ c face.0) ∙ router_moved φ face.0 node (hat_of face.0 c))

  entry_there : (face : FaceId) (node : ℕ) (text : List ℕ) → entry_of face node (φ text) (move_core φ c) ≡ entry_of face node text c
  entry_there face node text = ap (option_and_then (entry_by face.0 node (φ text))) (own_found φ c face.0) ∙ entry_moved φ keeps face.0 node text (hat_of face.0 c)

  same_still : (a b : Option (List ℕ)) → same_asked (option_map φ a) (option_map φ b) ≡ same_asked a b
  same_still None None = refl
  same_still None (Some b) = refl
  same_still (Some a) None = refl
  same_still (Some a) (Some b) = ap is_eq (keeps.order a b)

  another_moved : (face : FaceId) (id : ℕ) (asked : InterestEntry) → asks_another face.0 id (option_map φ asked.key) (move_core φ c).interests ≡ asks_another face.0 id asked.key c.interests
  another_moved face id asked = ap (λ o. option_map_or (λ (i : InterestEntry). not (same_asked i.key (option_map φ asked.key))) o false) (interest_there φ keeps face.0 id c.interests) ∙ by (interest_at face.0 id c.interests)
    where
      by : (o : Option InterestEntry) → option_map_or (λ (i : InterestEntry). not (same_asked i.key (option_map φ asked.key))) (option_map (move_asked φ) o) false ≡ option_map_or (λ (i : InterestEntry). not (same_asked i.key asked.key)) o false
      by None = refl
      by (Some i) = ap not (same_still i.key asked.key)

  none_still : (o : Option InterestEntry) → is_none (option_map (move_asked φ) o) ≡ is_none o
  none_still None = refl
  none_still (Some i) = refl

  pub refused_alike : (t : TextCall) → refusal_of (move_core φ c) (move_text φ t) ≡ refusal_of c t
  refused_alike (opening o) = λ j. first_of ((not (has_moved φ c o.region j), refusal.UnknownRegion) ∷ (not (is_sound o), refusal.InvalidKeyExpr) ∷ (full_moved φ c o.region j, refusal.UpstreamInUse) ∷ (lacks_face_number c, refusal.NoFreeId) ∷ (lacks_moved φ keeps c (opening o) tt j, refusal.NoFreeId) ∷ [])
  refused_alike (closing face) = refl
  refused_alike (naming face id said.Unscoped standing) = refl
  refused_alike (naming face id said.Empty standing) = refl
  refused_alike (naming face id (said.Full text) standing) =
      λ j. first_of (unknown_face face c ∷ (false, refusal.UnknownScope) ∷ (not (keeps.key text j), refusal.InvalidKeyExpr) ∷ (remaps_moved id text standing j, refusal.Remapped) ∷ [])
  refused_alike (unnaming face id None) = refl
  refused_alike (unnaming face id (Some t)) = refl
  refused_alike (declaring face id said.Unscoped info node) = refl
  refused_alike (declaring face id said.Empty info node) = refl
  refused_alike (declaring face id (said.Full text) info node) =
      λ j. first_of (unknown_face face c ∷ (false, refusal.UnknownScope) ∷ (not (keeps.key text j), refusal.InvalidKeyExpr) ∷ (clash_moved face id text j, refusal.IdInUse)
      ∷ (lacks_moved φ keeps c (declaring face id (said.Full text) info node) tt j, refusal.NoFreeId) ∷ [])
  refused_alike (withdrawing face id) = ap (λ b. first_of (unknown_face face c ∷ (not b, refusal.UnknownId) ∷ [])) (known_moved face id)
  refused_alike (asking face s r now) = ap (λ fs. first_of (unknown_face face c ∷ (lacks_number fs c.queries, refusal.NoFreeId) ∷ [])) (targets_moved φ keeps c face s r)
  refused_alike (replying face said.Unscoped r) = refl
  refused_alike (replying face said.Empty r) = refl
  refused_alike (replying face (said.Full text) r) =
      ap (λ b. first_of (unknown_face face c ∷ (false, refusal.UnknownScope) ∷ (not (is_pending face.0 r.rid c.queries.records), refusal.QueryNotFound)
      ∷ (not b, refusal.InvalidKeyExpr) ∷ (lacks_reply face.0 r.rid c.queries, refusal.NoFreeId) ∷ [])) (keeps.key text)
  refused_alike (ending face rid) = refl
  refused_alike (reporting reply) = refl
  refused_alike (passing now) = refl
  refused_alike (listing r table) = ap (λ b. first_of ((not b, refusal.UnknownRegion) ∷ [])) (has_moved φ c r)
  refused_alike (finalizing face mark.Initial set) = refl
  refused_alike (finalizing face (mark.Key key) set) = ap (λ b. first_of (unknown_face face c ∷ (not b, refusal.InvalidKeyExpr) ∷ [])) (keeps.key key)
  refused_alike (announcing face said.Unscoped info node) = refl
  refused_alike (announcing face said.Empty info node) = refl
  refused_alike (announcing face (said.Full text) info node) =
      λ j. first_of (unknown_face face c ∷ (false, refusal.UnknownScope) ∷ (not (keeps.key text j), refusal.InvalidKeyExpr) ∷ (routers_moved face node j, refusal.UnknownRouter)
      ∷ (lacks_moved φ keeps c (announcing face (said.Full text) info node) tt j, refusal.NoFreeId) ∷ [])
  refused_alike (retracting face said.Unscoped node) = refl
  refused_alike (retracting face said.Empty node) = refl
  refused_alike (retracting face (said.Full text) node) =
      λ j. first_of (unknown_face face c ∷ (false, refusal.UnknownScope) ∷ (not (keeps.key text j), refusal.InvalidKeyExpr) ∷ (routers_moved face node j, refusal.UnknownRouter)
      ∷ (is_none (entry_there face node text j), refusal.UnknownId) ∷ [])
  refused_alike (networking r net) = ap (λ b. first_of ((not b, refusal.UnknownRegion) ∷ [])) (has_moved φ c r)
  refused_alike (tabling face ids) = refl
  refused_alike (hearing face id keys None) = λ j. first_of (unknown_face face c ∷ (false, refusal.UnknownScope) ∷ (false, refusal.InvalidKeyExpr) ∷ (another_moved face id (asked_by keys None) j, refusal.IdInUse) ∷ (lacks_moved φ keeps c (hearing face id keys None) tt j, refusal.NoFreeId) ∷ [])
  refused_alike (hearing face id keys (Some said.Unscoped)) = refl
  refused_alike (hearing face id keys (Some said.Empty)) = refl
  refused_alike (hearing face id keys (Some (said.Full text))) =
      λ j. first_of (unknown_face face c ∷ (false, refusal.UnknownScope) ∷ (not (keeps.key text j), refusal.InvalidKeyExpr) ∷ (another_moved face id (asked_by keys (Some (said.Full text))) j, refusal.IdInUse)
      ∷ (lacks_moved φ keeps c (hearing face id keys (Some (said.Full text))) tt j, refusal.NoFreeId) ∷ [])
  refused_alike (unhearing face id) = ap (λ b. first_of (unknown_face face c ∷ (b, refusal.UnknownId) ∷ [])) (ap is_none (interest_there φ keeps face.0 id c.interests) ∙ none_still (interest_at face.0 id c.interests))
