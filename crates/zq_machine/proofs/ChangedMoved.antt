-- What a call changes, tells and lacks moves with its texts.
use Rattle.std.proofs.Common.{◌≡◌, ◌∙◌, refl, sym, ap, ℕ, List, [], ◌∷◌, ◌++◌, map, Option, Some, None}
use Rattle.std.specs.BTreeMap.{insert_entry, is_at}
use Rattle.std.specs.Map.{remove_entry, set_value}
use Rattle.std.specs.Option.{option_map, option_map_or}
use Rattle.std.specs.Ordering.{nat_cmp}
use Rattle.std.proofs.lemmas.List.{map-append}
use Rattle.zq_strategy.specs.Tellings.{in_order}
use Rattle.zq_strategy.specs.Kept.{registered, unregistered, without_face}
use Rattle.zq_strategy.specs.Marks.{finalized}
use Rattle.zq_strategy.specs.Moved.{Keeps, move_mark}
use Rattle.zq_strategy.specs.Routers.{networked, noded}
use Rattle.zq_index.proofs.Mapped.{insert-map, remove-map, set-map}
use Rattle.zq_interests.specs.declared.types.InterestEntry.{InterestEntry}
use Rattle.zq_interests.specs.Interests.{Interests, interest_at, interests_of, with_interest, without_interest}
use Rattle.zq_query.specs.Asking.{after_ask}
use Rattle.zq_query.specs.Closing.{after_close}
use Rattle.zq_told.specs.ToldSets.{ToldSets}
use Rattle.zq_told.specs.Moved.{move_ears}
use Rattle.zq_message.specs.declared.message.FaceId.{FaceId}
use Rattle.zq_tables.specs.declared.resolved.Resolved.{Resolved}
use Rattle.zq_tables.specs.declared.resolved.Resolved.TheVariants as said
use Rattle.zq_machine.specs.Deciding.{accepted, announced_by, changed, deadline, ears_of, interests_for, kept, lacks_told, retracted_by, seat, told_of, with_open, with_queries}
use Rattle.zq_machine.specs.Messages.{Telling, answered_by, answering, from_hat}
use Rattle.zq_machine.specs.Moved.{move_asked, move_core, move_interest, move_interests, move_said, move_telling, move_text}
use Rattle.zq_machine.specs.Neighbours.{answer_lacks, answer_told, due_told, ears_asked, ears_ended, ended_told, marked, near_after, near_lack, near_told}
use Rattle.zq_machine.specs.Selecting.{Manner, asked_by}
use Rattle.zq_machine.specs.State.{Core, joined}
use Rattle.zq_machine.specs.TextCalls.{TextCall, opening, closing, naming, unnaming, declaring, withdrawing, asking, replying, ending, reporting, passing, listing, finalizing, announcing, retracting, networking, tabling, hearing, unhearing}
use Rattle.zq_machine.specs.Trees.{all_own_told, touched, tree_told}
use Rattle.zq_machine.proofs.DueMoved.{all_trees_moved, from_moved, move_tree, ordered_moved}
use Rattle.zq_machine.proofs.HatsMoved.{finalized_moved, hat_changed, joined_moved, left_moved, own_changed, registered_moved, unregistered_moved}
use Rattle.zq_machine.proofs.DuesMoved.{interest_there, interests_moved}
use Rattle.zq_machine.proofs.NeighbourMoved.{kept_lacks, kept_left, kept_moved, new_alike, told_alike}
use Rattle.zq_machine.proofs.Refused.{HasText}
use Rattle.zq_machine.proofs.RoutersMoved.{announced_moved, networked_moved, noded_moved, retracted_moved}
use Rattle.zq_machine.proofs.SelectionMoved.{targets_moved}

module _ (φ : List ℕ → List ℕ) (keeps : Keeps φ) (c : Core) where
  -- ---- what faces ask
  asked_moved : (face : FaceId) (id : ℕ) (keys : Manner) (s : Option Resolved) → HasText (hearing face id keys s) → asked_by keys (option_map (move_said φ) s) ≡ move_asked φ (asked_by keys s)
  asked_moved face id keys None e = refl
  asked_moved face id keys (Some said.Unscoped) e = absurd e
  asked_moved face id keys (Some said.Empty) e = absurd e
  asked_moved face id keys (Some (said.Full text)) e = refl

  interest_moved : (face id : ℕ) (asked : InterestEntry) (ints : Interests) → with_interest face id (move_asked φ asked) (move_interests φ ints) ≡ move_interests φ (with_interest face id asked ints)
  interest_moved face id asked ints =
      ap (λ es. insert_entry nat_cmp (move_interests φ ints) face (insert_entry nat_cmp es id (move_asked φ asked))) (interests_moved φ keeps face ints)
      ∙ ap (insert_entry nat_cmp (move_interests φ ints) face) (insert-map (move_asked φ) nat_cmp (interests_of face ints) id asked)
      ∙ insert-map (map (move_interest φ)) nat_cmp ints face (insert_entry nat_cmp (interests_of face ints) id asked)

  end_moved : (face id : ℕ) (ints : Interests) → without_interest face id (move_interests φ ints) ≡ move_interests φ (without_interest face id ints)
  end_moved face id ints =
      ap (λ es. set_value (is_at (nat_cmp face)) (move_interests φ ints) (remove_entry (is_at (nat_cmp id)) es)) (interests_moved φ keeps face ints)
      ∙ ap (set_value (is_at (nat_cmp face)) (move_interests φ ints)) (remove-map (move_asked φ) (is_at (nat_cmp id)) (interests_of face ints))
      ∙ set-map (map (move_interest φ)) (is_at (nat_cmp face)) ints (remove_entry (is_at (nat_cmp id)) (interests_of face ints))

  -- ---- what it changes, but for what is kept of what faces were told
  pub changed_moved : (t : TextCall) → HasText t → changed (move_core φ c) (move_text φ t) ≡ move_core φ (changed c t)
  changed_moved (opening o) e =
      ap (λ l. record (move_core φ (with_open o c)) { hats = l }) (hat_changed φ c.hats o.region (joined (seat c.next_face o)) (joined (seat c.next_face o)) (joined_moved φ (seat c.next_face o)))
  changed_moved (closing face) e = λ j. record (own_changed φ c (without_face face.0) (without_face face.0) (left_moved φ face.0) face.0 j) {
    faces = remove_entry (is_at (nat_cmp face.0)) c.faces;
    queries = after_close face.0 c.queries;
    interests = remove-map (map (move_interest φ)) (is_at (nat_cmp face.0)) c.interests j;
  }
  changed_moved (naming face id s standing) e = refl
  changed_moved (unnaming face id standing) e = refl
  changed_moved (declaring face id said.Unscoped info node) e = absurd e
  changed_moved (declaring face id said.Empty info node) e = absurd e
  changed_moved (declaring face id (said.Full text) info node) e =
      own_changed φ c (registered face.0 id (φ text) node info) (registered face.0 id text node info) (registered_moved φ face.0 id text node info) face.0
  changed_moved (withdrawing face id) e = own_changed φ c (unregistered face.0 id) (unregistered face.0 id) (unregistered_moved φ face.0 id) face.0
  changed_moved (asking face s r now) e =
      ap (λ fs. with_queries (move_core φ c) (after_ask face r.id r.qos fs (deadline c r.timeout now) c.queries)) (targets_moved φ keeps c face s r)
  changed_moved (replying face s r) e = refl
  changed_moved (ending face rid) e = refl
  changed_moved (reporting reply) e = refl
  changed_moved (passing now) e = refl
  changed_moved (listing r table) e = refl
  changed_moved (finalizing face m set) e = own_changed φ c (finalized face.0 (move_mark φ m) set) (finalized face.0 m set) (finalized_moved φ keeps face.0 m set) face.0
  changed_moved (announcing face said.Unscoped info node) e = absurd e
  changed_moved (announcing face said.Empty info node) e = absurd e
  changed_moved (announcing face (said.Full text) info node) e =
      own_changed φ c (announced_by face.0 node (φ text) info) (announced_by face.0 node text info) (announced_moved φ keeps face.0 node text info) face.0
  changed_moved (retracting face said.Unscoped node) e = absurd e
  changed_moved (retracting face said.Empty node) e = absurd e
  changed_moved (retracting face (said.Full text) node) e =
      own_changed φ c (retracted_by face.0 node (φ text)) (retracted_by face.0 node text) (retracted_moved φ keeps face.0 node text) face.0
  changed_moved (networking r net) e = ap (λ l. record (move_core φ c) { hats = l }) (hat_changed φ c.hats r (networked net) (networked net) (networked_moved φ net))
  changed_moved (tabling face ids) e = own_changed φ c (noded face.0 ids) (noded face.0 ids) (noded_moved φ face.0 ids) face.0
  changed_moved (hearing face id keys sd) e =
      ap (λ ints. record (move_core φ c) { interests = ints })
      (ap (λ a. with_interest face.0 id a (move_interests φ c.interests)) (asked_moved face id keys sd e) ∙ interest_moved face.0 id (asked_by keys sd) c.interests)
  changed_moved (unhearing face id) e = ap (λ ints. record (move_core φ c) { interests = ints }) (end_moved face.0 id c.interests)

  -- the interests that count
  counting_moved : (t : TextCall) → HasText t → interests_for (move_core φ c) (move_text φ t) ≡ move_interests φ (interests_for c t)
  counting_moved (hearing face id keys sd) e = ap (λ (x : Core). x.interests) (changed_moved (hearing face id keys sd) e)
  counting_moved (unhearing face id) e = ap (λ (x : Core). x.interests) (changed_moved (unhearing face id) e)
  counting_moved t e = refl

  -- ---- what is kept of it, and lacks
  module _ (d : Core) (ints : Interests) (held others : ToldSets) (same : others ≡ move_ears φ held) where
    near_lacks : (t : TextCall) → HasText t → near_lack (move_core φ c) (move_core φ d) (move_interests φ ints) (move_text φ t) others ≡ near_lack c d ints t held
    near_lacks (hearing face id keys sd) e =
        (λ j. answer_lacks (move_core φ d) (move_interests φ ints) (same j) face.0 (asked_moved face id keys sd e j)) ∙ (told_alike φ keeps).lack_asked d ints held face.0 (asked_by keys sd)
    near_lacks t e = kept_lacks φ keeps c d ints t e held others same

    near_left : (t : TextCall) → HasText t → near_after (move_core φ c) (move_core φ d) (move_interests φ ints) (move_text φ t) others ≡ move_ears φ (near_after c d ints t held)
    near_left (hearing face id keys sd) e =
        (λ j. ears_asked (move_core φ d) (move_interests φ ints) (same j) face.0 (asked_moved face id keys sd e j)) ∙ (told_alike φ keeps).left_asked d ints held face.0 (asked_by keys sd)
    near_left (unhearing face id) e =
        (λ j. option_map_or (ears_ended (move_core φ d) (move_interests φ ints) (same j) face.0) (interest_there φ keeps face.0 id c.interests j) (same j))
        ∙ by (interest_at face.0 id c.interests)
      where
        by : (o : Option InterestEntry) → option_map_or (ears_ended (move_core φ d) (move_interests φ ints) (move_ears φ held) face.0) (option_map (move_asked φ) o) (move_ears φ held) ≡ move_ears φ (option_map_or (ears_ended d ints held face.0) o held)
        by None = refl
        by (Some asked) = (told_alike φ keeps).left_ended d ints held face.0 asked
    near_left t e = kept_left φ keeps c d ints t e held others same

    near_moved : (t : TextCall) → HasText t → near_told (move_core φ c) (move_core φ d) (move_interests φ ints) (move_text φ t) others ≡ map (move_tree φ keeps) (near_told c d ints t held)
    near_moved (hearing face id keys sd) e =
        (λ j. answer_told (move_core φ d) (move_interests φ ints) (same j) face.0 (asked_moved face id keys sd e j)) ∙ (told_alike φ keeps).told_asked d ints held face.0 (asked_by keys sd)
    near_moved (unhearing face id) e =
        (λ j. option_map_or (ended_told (move_core φ d) (move_interests φ ints) (same j) face.0) (interest_there φ keeps face.0 id c.interests j) [])
        ∙ by (interest_at face.0 id c.interests)
      where
        by : (o : Option InterestEntry) → option_map_or (ended_told (move_core φ d) (move_interests φ ints) (move_ears φ held) face.0) (option_map (move_asked φ) o) [] ≡ map (move_tree φ keeps) (option_map_or (ended_told d ints held face.0) o [])
        by None = refl
        by (Some asked) = (told_alike φ keeps).told_ended d ints held face.0 asked
    near_moved t e = kept_moved φ keeps c d ints t e held others same

  pub lacks_moved : (t : TextCall) → HasText t → lacks_told (move_core φ c) (move_text φ t) ≡ lacks_told c t
  lacks_moved t e =
      (λ j. near_lack (move_core φ c) (changed_moved t e j) (counting_moved t e j) (move_text φ t) (kept (move_core φ c) (move_text φ t)))
      ∙ near_lacks (changed c t) (interests_for c t) (kept c t) (kept (move_core φ c) (move_text φ t)) (new_alike φ keeps c t c.ears) t e

  ears_moved : (t : TextCall) → HasText t → ears_of (move_core φ c) (move_text φ t) ≡ move_ears φ (ears_of c t)
  ears_moved t e =
      (λ j. near_after (move_core φ c) (changed_moved t e j) (counting_moved t e j) (move_text φ t) (kept (move_core φ c) (move_text φ t)))
      ∙ near_left (changed c t) (interests_for c t) (kept c t) (kept (move_core φ c) (move_text φ t)) (new_alike φ keeps c t c.ears) t e

  pub accepted_moved : (t : TextCall) → HasText t → accepted (move_core φ c) (move_text φ t) ≡ move_core φ (accepted c t)
  accepted_moved t e = λ j. record (changed_moved t e j) { ears = ears_moved t e j }

  -- ---- what is told
  module _ (d : Core) (ints : Interests) (t : TextCall) (held others : ToldSets) (same : others ≡ move_ears φ held) (e : HasText t) where
    due_moved : due_told (move_core φ c) (move_core φ d) (move_interests φ ints) (move_text φ t) others ≡ map (move_telling φ) (due_told c d ints t held)
    due_moved =
        let trees = tree_told c d t ++ all_own_told c.hats d.hats (touched c t) in
        ap (λ l. map from_hat (in_order l))
        ((λ j. all_trees_moved φ keeps c d t e j ++ near_moved d ints held others same t e j)
        ∙ sym (map-append (move_tree φ keeps) trees (near_told c d ints t held)))
        ∙ ap (map from_hat) (ordered_moved φ keeps (trees ++ near_told c d ints t held))
        ∙ from_moved φ keeps (in_order (trees ++ near_told c d ints t held))

  answers_moved : (face : FaceId) (id : ℕ) (ts : List Telling) → answered_by face id (map (move_telling φ) ts) ≡ map (move_telling φ) (answered_by face id ts)
  answers_moved face id [] = refl
  answers_moved face id (t ∷ ts) = ap (λ l. answering id (move_telling φ t) ∷ l) (answers_moved face id ts)

  marks_moved : (t : TextCall) (ts : List Telling) → marked (move_text φ t) (map (move_telling φ) ts) ≡ map (move_telling φ) (marked t ts)
  marks_moved (hearing face id keys sd) ts = answers_moved face id ts
  marks_moved t ts = refl

  pub told_moved : (t : TextCall) → HasText t → told_of (move_core φ c) (move_text φ t) ≡ map (move_telling φ) (told_of c t)
  told_moved t e =
      ap (marked (move_text φ t))
      ((λ j. due_told (move_core φ c) (accepted_moved t e j) (counting_moved t e j) (move_text φ t) (kept (move_core φ c) (move_text φ t)))
      ∙ due_moved (accepted c t) (interests_for c t) t (kept c t) (kept (move_core φ c) (move_text φ t)) (new_alike φ keeps c t c.ears) e)
      ∙ marks_moved t (due_told c (accepted c t) (interests_for c t) t (kept c t))
