-- A call in both runs is read alike, and decided alike.
use Rattle.std.proofs.Common.{◌≡◌, ◌∙◌, refl, sym, ap, ℕ, Bool, true, false, cond, not, List, [], ◌∷◌, map, Option, Some, None}
use Rattle.std.specs.Prelude.{◌&&◌, is_some}
use Rattle.std.specs.List.{list_all}
use Rattle.std.specs.Option.{option_map, option_map_or}
use Rattle.std.proofs.lemmas.Bool.{and_parts}
use Rattle.zq_key.specs.Key.{is_key, is_plain}
use Rattle.zq_key.specs.Space.{behind}
use Rattle.zq_key.proofs.Behind.{key-behind}
use Rattle.zq_strategy.specs.Moved.{Keeps, move_hat}
use Rattle.zq_strategy.specs.State.{HatState}
use Rattle.zq_message.specs.declared.message.FaceId.{FaceId}
use Rattle.zq_message.specs.declared.message.WireExpr.{WireExpr}
use Rattle.zq_tables.specs.Naming.{FaceNaming, naming_at}
use Rattle.zq_machine.specs.declared.call.Call.{Call}
use Rattle.zq_machine.specs.declared.call.Call.TheVariants as call
use Rattle.zq_machine.specs.declared.call.Opening.{Opening}
use Rattle.zq_machine.specs.declared.call.Refusal.{Refusal}
use Rattle.zq_machine.specs.declared.call.Refusal.TheVariants as refusal
use Rattle.zq_machine.specs.Calls.{is_absent}
use Rattle.zq_machine.specs.Configs.{Settings}
use Rattle.zq_machine.specs.Deciding.{accepted, answered, decide, first_of, granted, is_accepted, lacks_face_number, lacks_told, refusal_of}
use Rattle.zq_machine.specs.Gates.{is_sound, is_space}
use Rattle.zq_machine.specs.Hearing.{has_text}
use Rattle.zq_machine.specs.Moved.{after_text, move_core, move_decided, move_said, move_text}
use Rattle.zq_machine.specs.State.{Core, State, has_hat, hat_of, is_full_region, is_open, is_routing}
use Rattle.zq_machine.specs.TextCalls.{TextCall, announcing, by_router, declaring, naming, opening, read, retracting, said as says, said_if, said_or_none, unnaming, withdrawing, hearing, asking, replying}
use Rattle.zq_machine.proofs.CausesMoved.{refused_alike}
use Rattle.zq_machine.proofs.DecidingMoved.{decides_alike}
use Rattle.zq_machine.proofs.HatsMoved.{own_found}
use Rattle.zq_machine.proofs.Reading.{declare_read, withdraw_read}
use Rattle.zq_moved.specs.Moving.{can_move_call, can_move_opening, can_move_option, moved_call, moved_opening}
use Rattle.zq_moved.proofs.Alike.{Alike, asked_moved, keeps_behind, reply_moved, says_moved, standing_moved}
use Rattle.zq_moved.proofs.Owning.{absent_is}

-- decided alike: refused by the same cause, answered and changed the same behind the namespace
pub record Decides (n : List ℕ) (c d : Core) (t u : TextCall) : Type 0 where
  pub refusal : refusal_of d u ≡ refusal_of c t
  pub answer : decide d u ≡ move_decided (behind n) (decide c t)
  pub change : after_text d u ≡ move_core (behind n) (after_text c t)

module _ (n : List ℕ) (plain : is_plain n ≡ true) (c d : Core) (same : d ≡ move_core (behind n) c) where
  keeps : Keeps (behind n)
  keeps = keeps_behind n plain

  text_decides : (t u : TextCall) → u ≡ move_text (behind n) t → Decides n c d t u
  text_decides t u is = record {
    refusal = (λ j. refusal_of (same j) (is j)) ∙ refused_alike (behind n) keeps c t;
    answer = (λ j. decide (same j) (is j)) ∙ (decides_alike (behind n) keeps).answer c t;
    change = (λ j. after_text (same j) (is j)) ∙ (decides_alike (behind n) keeps).change c t;
  }

  -- a call that both refuse
  refused_decides : (t u : TextCall) (r : Refusal) → refusal_of c t ≡ Some r → refusal_of d u ≡ Some r → Decides n c d t u
  refused_decides t u r e f = record {
    refusal = f ∙ sym e;
    answer = ap (λ o. answered o (granted d u)) f ∙ sym (ap (λ o. move_decided (behind n) (answered o (granted c t))) e);
    change = ap (λ o. cond (is_accepted (answered o (granted d u)).outcome) (accepted d u) d) f ∙ same ∙ sym (ap (λ o. move_core (behind n) (cond (is_accepted (answered o (granted c t)).outcome) (accepted c t) c)) e);
  }

  -- ---- an opening
  keys_behind : (l : List (List ℕ)) → list_all is_key (map (behind n) l) ≡ list_all is_key l
  keys_behind [] = refl
  keys_behind (k ∷ l) = λ j. key-behind n k plain j && keys_behind l j

  sound_moved : (o : Opening) → can_move_opening o ≡ true → is_sound (moved_opening n o) ≡ is_sound o
  sound_moved o moves =
      let none = absent_is o.namespace (and_parts (is_absent o.namespace) (list_all has_text o.entry_deny) (and_parts (is_absent o.namespace && list_all has_text o.entry_deny) (list_all has_text o.exit_deny) moves).0).0 in
      (λ j. plain j && keys_behind o.entry_deny j && keys_behind o.exit_deny j) ∙ ap (λ x. is_space x && list_all is_key o.entry_deny && list_all is_key o.exit_deny) (sym none)

  opening_refusal : (o : Opening) → can_move_opening o ≡ true → refusal_of d (opening (moved_opening n o)) ≡ refusal_of d (opening o)
  opening_refusal o moves = λ j. first_of ((not (has_hat o.region d), refusal.UnknownRegion) ∷ (not (sound_moved o moves j), refusal.InvalidKeyExpr) ∷ (is_full_region o.region d, refusal.UpstreamInUse) ∷ (lacks_face_number d, refusal.NoFreeId) ∷ (lacks_told d (opening o), refusal.NoFreeId) ∷ [])

  opening_decides : (o : Opening) → can_move_opening o ≡ true → Decides n c d (opening o) (opening (moved_opening n o))
  opening_decides o moves =
      let x = text_decides (opening o) (opening o) refl in
      record {
        refusal = opening_refusal o moves ∙ x.refusal;
        answer = ap (λ r. answered r (granted d (opening o))) (opening_refusal o moves) ∙ x.answer;
        change = ap (λ r. cond (is_accepted (answered r (granted d (opening o))).outcome) (accepted d (opening o)) d) (opening_refusal o moves) ∙ x.change;
      }

-- ---- a call is read alike
module _ (config : Settings) (n : List ℕ) (plain : is_plain n ≡ true) (s z : State) (a b : ℕ → FaceNaming) (alike : Alike config n s z a b) where
  opened_names : (face : FaceId) → is_open face.0 s.core ≡ true → is_some (naming_at face.0 s.names) ≡ true
  opened_names face e = alike.order.tied.named face.0 ∙ e

  shut_there : (face : FaceId) → is_open face.0 s.core ≡ false → is_open face.0 z.core ≡ false
  shut_there face e = ap (is_open face.0) alike.core ∙ e

  router_same : (face : FaceId) → by_router face z.core ≡ by_router face s.core
  router_same face = ap (by_router face) alike.core ∙ ap (λ h. option_map_or is_routing h false) (own_found (behind n) s.core face.0) ∙ by (hat_of face.0 s.core)
    where
      by : (h : Option HatState) → option_map_or is_routing (option_map (move_hat (behind n)) h) false ≡ option_map_or is_routing h false
      by None = refl
      by (Some h) = refl

  optional_moved : (face : FaceId) → is_open face.0 s.core ≡ true → (w : Option WireExpr) → can_move_option w ≡ true → said_if face w z ≡ option_map (move_said (behind n)) (said_if face w s)
  optional_moved face e None moves = refl
  optional_moved face e (Some w) moves = ap Some (says_moved config n plain s z a b alike face (opened_names face e) w moves)

  or_none_moved : (face : FaceId) → is_open face.0 s.core ≡ true → (w : Option WireExpr) → can_move_option w ≡ true → said_or_none face w z ≡ move_said (behind n) (said_or_none face w s)
  or_none_moved face e None moves = refl
  or_none_moved face e (Some w) moves = says_moved config n plain s z a b alike face (opened_names face e) w moves

  -- a face that is not open is refused, whatever its call says
  abbrev Shut : TextCall → TextCall → Type 0
  Shut t u = (refusal_of s.core t ≡ Some refusal.UnknownFace) × (refusal_of z.core u ≡ Some refusal.UnknownFace)

  by_face : (face : FaceId) (t u : TextCall) → (is_open face.0 s.core ≡ true → u ≡ move_text (behind n) t) → (is_open face.0 s.core ≡ false → Shut t u) → Decides n s.core z.core t u
  by_face face t u reads shut = by (is_open face.0 s.core) refl
    where
      by : (x : Bool) → is_open face.0 s.core ≡ x → Decides n s.core z.core t u
      by true e = text_decides n plain s.core z.core alike.core t u (reads e)
      by false e = refused_decides n plain s.core z.core alike.core t u refusal.UnknownFace ((shut e).0) ((shut e).1)

  unknown : (x : Bool) (rest : Option Refusal) → x ≡ false → cond (not x) (Some refusal.UnknownFace) rest ≡ Some refusal.UnknownFace
  unknown x rest e = ap (λ y. cond (not y) (Some refusal.UnknownFace) rest) e

  pub call_decides : (c : Call) → can_move_call c ≡ true → Decides n s.core z.core (read s c) (read z (moved_call n c))
  call_decides (call.Open o) moves = opening_decides n plain s.core z.core alike.core o moves
  call_decides (call.DeclareKeyExpr face id w) moves =
      by_face face (read s (call.DeclareKeyExpr face id w)) (read z (call.DeclareKeyExpr face id w))
      (λ e. λ j. naming face id (says_moved config n plain s z a b alike face (opened_names face e) w moves j) (standing_moved config n plain s z a b alike face (opened_names face e) id j))
      (λ e. (unknown (is_open face.0 s.core) _ e, unknown (is_open face.0 z.core) _ (shut_there face e)))
  call_decides (call.UndeclareKeyExpr face id) moves =
      by_face face (read s (call.UndeclareKeyExpr face id)) (read z (call.UndeclareKeyExpr face id))
      (λ e. ap (unnaming face id) (standing_moved config n plain s z a b alike face (opened_names face e) id))
      (λ e. (unknown (is_open face.0 s.core) _ e, unknown (is_open face.0 z.core) _ (shut_there face e)))
  call_decides (call.DeclareQueryable face id w info node) moves =
      by_face face (read s (call.DeclareQueryable face id w info node)) (read z (call.DeclareQueryable face id w info node))
      (λ e. (λ j. cond (router_same face j) (announcing face (says_moved config n plain s z a b alike face (opened_names face e) w moves j) info node) (declaring face id (says_moved config n plain s z a b alike face (opened_names face e) w moves j) info node))
      ∙ either (by_router face s.core) (announcing face (says face w s) info node) (declaring face id (says face w s) info node))
      (λ e. (
        declare_read (λ t. refusal_of s.core t ≡ Some refusal.UnknownFace) s face id w info node (unknown (is_open face.0 s.core) _ e) (unknown (is_open face.0 s.core) _ e),
        declare_read (λ t. refusal_of z.core t ≡ Some refusal.UnknownFace) z face id w info node (unknown (is_open face.0 z.core) _ (shut_there face e)) (unknown (is_open face.0 z.core) _ (shut_there face e)),
      ))
    where
      either : (x : Bool) (t u : TextCall) → cond x (move_text (behind n) t) (move_text (behind n) u) ≡ move_text (behind n) (cond x t u)
      either true t u = refl
      either false t u = refl
  call_decides (call.UndeclareQueryable face id w node) moves =
      by_face face (read s (call.UndeclareQueryable face id w node)) (read z (call.UndeclareQueryable face id w node))
      (λ e. (λ j. cond (router_same face j) (retracting face (or_none_moved face e w moves j) node) (withdrawing face id))
      ∙ either (by_router face s.core) (retracting face (said_or_none face w s) node) (withdrawing face id))
      (λ e. (
        withdraw_read (λ t. refusal_of s.core t ≡ Some refusal.UnknownFace) s face id w node (unknown (is_open face.0 s.core) _ e) (unknown (is_open face.0 s.core) _ e),
        withdraw_read (λ t. refusal_of z.core t ≡ Some refusal.UnknownFace) z face id w node (unknown (is_open face.0 z.core) _ (shut_there face e)) (unknown (is_open face.0 z.core) _ (shut_there face e)),
      ))
    where
      either : (x : Bool) (t u : TextCall) → cond x (move_text (behind n) t) (move_text (behind n) u) ≡ move_text (behind n) (cond x t u)
      either true t u = refl
      either false t u = refl
  call_decides (call.Interest face id keys aggregate w) moves =
      by_face face (read s (call.Interest face id keys aggregate w)) (read z (call.Interest face id keys aggregate w))
      (λ e. ap (hearing face id (record { keys = keys; aggregate = aggregate })) (optional_moved face e w moves))
      (λ e. (unknown (is_open face.0 s.core) _ e, unknown (is_open face.0 z.core) _ (shut_there face e)))
  call_decides (call.Request face r now) moves =
      by_face face (read s (call.Request face r now)) (read z (call.Request face r now))
      (λ e. ap (λ x. asking face x r now) (asked_moved config n plain s z a b alike face (opened_names face e) r moves))
      (λ e. (unknown (is_open face.0 s.core) _ e, unknown (is_open face.0 z.core) _ (shut_there face e)))
  call_decides (call.Response face r) moves =
      by_face face (read s (call.Response face r)) (read z (call.Response face r))
      (λ e. ap (λ x. replying face x r) (reply_moved config n plain s z a b alike face (opened_names face e) r moves))
      (λ e. (unknown (is_open face.0 s.core) _ e, unknown (is_open face.0 z.core) _ (shut_there face e)))
  call_decides (call.Close face) moves = text_decides n plain s.core z.core alike.core _ _ refl
  call_decides (call.FinalizeInterest face m set) moves = text_decides n plain s.core z.core alike.core _ _ refl
  call_decides (call.ResponseFinal face rid) moves = text_decides n plain s.core z.core alike.core _ _ refl
  call_decides (call.InterestFinal face id) moves = text_decides n plain s.core z.core alike.core _ _ refl
  call_decides (call.Sent reply) moves = text_decides n plain s.core z.core alike.core _ _ refl
  call_decides (call.Poll now) moves = text_decides n plain s.core z.core alike.core _ _ refl
  call_decides (call.SetGateways r table) moves = text_decides n plain s.core z.core alike.core _ _ refl
  call_decides (call.SetNetwork r net) moves = text_decides n plain s.core z.core alike.core _ _ refl
  call_decides (call.SetNodeIds face ids) moves = text_decides n plain s.core z.core alike.core _ _ refl
