-- A whole run inside a namespace is answered as the run in none, and each face receives the same.
use Rattle.std.proofs.Common.{◌≡◌, ◌∙◌, refl, sym, ap, ℕ, true, List, [], ◌∷◌, ◌++◌, fold, map}
use Rattle.std.specs.List.{list_all}
use Rattle.std.specs.BTreeMap.{insert_entry}
use Rattle.std.specs.Ordering.{nat_cmp}
use Rattle.std.proofs.lemmas.Bool.{and_parts, false≢true}
use Rattle.zq_key.specs.Key.{is_plain}
use Rattle.zq_key.specs.Space.{behind}
use Rattle.zq_index.proofs.Mapped.{insert-map}
use Rattle.zq_message.specs.Region.{region_index}
use Rattle.zq_strategy.specs.Kept.{new_hat}
use Rattle.zq_strategy.specs.Moved.{move_hat}
use Rattle.zq_strategy.specs.State.{HatState}
use Rattle.zq_tables.specs.Naming.{FaceNaming, no_names}
use Rattle.zq_machine.specs.declared.call.Call.{Call}
use Rattle.zq_machine.specs.declared.config.Entry.{Entry}
use Rattle.zq_machine.specs.Configs.{Settings, north_of, region_of}
use Rattle.zq_machine.specs.Machine.{after, step, steps_from}
use Rattle.zq_machine.specs.Moved.{move_region}
use Rattle.zq_machine.specs.State.{State, first_hats, opening_state, with_hat}
use Rattle.zq_machine.proofs.Agreed.{opening_in_order}
use Rattle.zq_moved.specs.Moving.{can_move_call, moved, moved_call}
use Rattle.zq_moved.specs.Received.{knows_step, received_from}
use Rattle.zq_moved.specs.Inside.{MovesUnnoticed, outcome_of}
use Rattle.zq_moved.proofs.Aiming.{AskersOpen}
use Rattle.zq_moved.proofs.Alike.{Alike}
use Rattle.zq_moved.proofs.Unnoticed.{steps_alike}

-- ---- before any call
module _ (φ : List ℕ → List ℕ) (config : Settings) where
  hats_moved : (es : List Entry) (hats : List (ℕ × HatState)) → map (move_region φ) hats ≡ hats → map (move_region φ) (fold (with_hat config) hats es) ≡ fold (with_hat config) hats es
  hats_moved [] hats same = same
  hats_moved (e ∷ es) hats same =
      let hat : HatState = new_hat (region_of e) (north_of config.entries) config.zid config.start.told in
      hats_moved es (with_hat config hats e)
      (sym (insert-map (move_hat φ) nat_cmp hats (region_index (region_of e)) hat) ∙ ap (λ l. insert_entry nat_cmp l (region_index (region_of e)) hat) same)

  first_moved : map (move_region φ) (first_hats config) ≡ first_hats config
  first_moved = hats_moved config.entries [] refl

opening_alike : (config : Settings) (n : List ℕ) → Alike config n (opening_state config) (opening_state config) (λ q. no_names) (λ q. no_names)
opening_alike config n = record {
  core = ap (λ hats. record (opening_state config).core { hats = hats }) (sym (first_moved (behind n) config));
  own = λ q. refl;
  here = λ q. record { fits = tt; space = λ h. absurd (false≢true h) };
  there = λ q. record { fits = tt; space = λ h. absurd (false≢true h) };
  entry = λ q. refl;
  exit = λ q. refl;
  order = opening_in_order config;
  order' = opening_in_order config;
}

-- ---- call by call
pub record RunsAlike (n : List ℕ) (s z : State) (a b : ℕ → FaceNaming) (cs : List Call) : Type 0 where
  pub outcomes : map outcome_of (steps_from z (moved n cs)) ≡ map outcome_of (steps_from s cs)
  pub messages : (q : ℕ) → received_from q (b q) (moved n cs) (steps_from z (moved n cs)) ≡ received_from q (a q) cs (steps_from s cs)

runs_alike : (config : Settings) (n : List ℕ) → is_plain n ≡ true → (cs : List Call) (s z : State) (a b : ℕ → FaceNaming) → Alike config n s z a b → AskersOpen s.core → list_all can_move_call cs ≡ true → RunsAlike n s z a b cs
runs_alike config n plain [] s z a b alike askers moves = record { outcomes = refl; messages = λ q. refl }
runs_alike config n plain (c ∷ cs) s z a b alike askers moves =
    let m = and_parts (can_move_call c) (list_all can_move_call cs) moves in
    let x = steps_alike config n plain s z a b alike askers c m.0 in
    let rest = runs_alike config n plain cs (after s c) (after z (moved_call n c)) (λ q. knows_step q (a q) c (step s c)) (λ q. knows_step q (b q) (moved_call n c) (step z (moved_call n c))) x.next x.askers m.1 in
    record {
      outcomes = λ j. x.outcome j ∷ rest.outcomes j;
      messages = λ q. λ j. x.reads q j ++ rest.messages q j;
    }

pub moves_unnoticed : MovesUnnoticed
moves_unnoticed config n calls plain moves =
    let r = runs_alike config n plain calls (opening_state config) (opening_state config) (λ q. no_names) (λ q. no_names) (opening_alike config n) tt moves in
    record { outcomes = r.outcomes; messages = r.messages }
