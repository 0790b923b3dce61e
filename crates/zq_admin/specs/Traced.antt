-- The administration view by the calls of a run and their answers alone.
use Rattle.std.specs.Prelude.{◌≡◌, ℕ, ◌==◌, List, [], ◌∷◌, ◌++◌, filter, map, Option, Some, None, if◌then◌else◌}
use Rattle.std.specs.List.{filter_map}
use Rattle.std.specs.Option.{option_and_then, option_map, option_map_or}
use Rattle.zq_message.specs.declared.message.FaceId.{FaceId}
use Rattle.zq_message.specs.Region.{region_index}
use Rattle.zq_strategy.specs.Entries.{Entries}
use Rattle.zq_strategy.specs.State.{FaceState, HatState}
use Rattle.zq_interests.specs.Interests.{Interests}
use Rattle.zq_hat.specs.Sourced.{all_queriers, all_queryables}
use Rattle.zq_machine.specs.declared.call.Call.{Call}
use Rattle.zq_machine.specs.declared.call.Step.{Step}
use Rattle.zq_machine.specs.Asked.{opened_in}
use Rattle.zq_machine.specs.Configs.{Settings}
use Rattle.zq_machine.specs.Machine.{state_after, steps}
use Rattle.zq_machine.specs.Standing.{Routed, Standing, asking_in, first_routed, routed_in, standing_in}
use Rattle.zq_machine.specs.State.{State, first_hats, opening_state}
use Rattle.zq_admin.specs.Entries.{Entry, entries_of, is_met, own_source}
use Rattle.zq_admin.specs.Answering.{asked_own, due, due_among}

-- what is kept of a face, if its region stands at the place
abbrev pub kept_there : ℕ → Standing → Option FaceState
kept_there place s = if region_index s.opened.region == place then Some s.kept else None

-- what stands of a face of the region at the place after calls with these answers
abbrev pub face_there : Settings → List Call → List Step → (place face : ℕ) → Option FaceState
face_there config calls answers place face = option_and_then (kept_there place) (standing_in config face calls answers None)

-- a face by its number, if it is there
abbrev pub numbered : {X : Type 0} → (ℕ → Option X) → ℕ → Option (ℕ × X)
numbered v n = option_map (λ x. (n, x)) (v n)

-- the faces there, by number: of all that were opened those that still stand
abbrev pub faces_there : Settings → List Call → List Step → ℕ → List (ℕ × FaceState)
faces_there config calls answers place = filter_map (numbered (face_there config calls answers place)) (opened_in answers)

-- the entries of the routers there
abbrev pub entries_there : Settings → List Call → List Step → ℕ → Entries
entries_there config calls answers place = option_map_or (λ (r : Routed). r.entries) (routed_in config place calls answers (λ face. None) (first_routed config place)) []

-- a region of the configuration, with its faces and the entries of its routers
abbrev pub region_traced : Settings → List Call → List Step → ℕ → HatState → HatState
region_traced config calls answers place h = record h { faces = faces_there config calls answers place; entries = entries_there config calls answers place }

-- all regions of the configuration
abbrev pub regions_traced : Settings → List Call → List Step → List (ℕ × HatState)
regions_traced config calls answers = map (λ p. (p.0, region_traced config calls answers p.0 p.1)) (first_hats config)

-- what each face that was opened asks to hear
abbrev pub interests_traced : Settings → List Call → List Step → Interests
interests_traced config calls answers = map (λ n. (n, asking_in config n calls answers None [])) (opened_in answers)

-- who asks for which key, and who declared which, by the calls and their answers
abbrev pub entries_traced : Settings → List Call → List Step → List Entry
entries_traced config calls answers = entries_of (own_source config)
    (all_queriers (interests_traced config calls answers) (regions_traced config calls answers))
    (all_queryables (own_source config) (regions_traced config calls answers))

-- the entries of a run's calls whose keys meet the key
abbrev pub entries_after : Settings → List Call → List ℕ → List Entry
entries_after config calls key = filter (is_met key) (entries_traced config calls (steps config calls))

-- whatever calls made the state, these are the entries that meet the key
pub record AreTraced (key : List ℕ) (s : State) (es : List Entry) : Type 0 where
  pub same : (config : Settings) (calls : List Call) → s ≡ state_after (opening_state config) calls → es ≡ entries_after config calls key

-- whatever calls made the state, the entries that the call asks of the own face are those of these calls and the call
pub record AsksTraced (own : FaceId) (s : State) (c : Call) : Type 0 where
  pub same : (config : Settings) (calls : List Call) → s ≡ state_after (opening_state config) calls
      → due own c s ≡ due_among (asked_own own c s) (entries_traced config (calls ++ c ∷ []) (steps config (calls ++ c ∷ [])))
