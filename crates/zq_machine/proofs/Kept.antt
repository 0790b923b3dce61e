-- Every run keeps its promises.
use Rattle.std.proofs.Common.{List}
use Rattle.zq_machine.specs.declared.call.Call.{Call}
use Rattle.zq_machine.specs.Configs.{Settings}
use Rattle.zq_machine.specs.State.{State, at, first_hats, opening_state}
use Rattle.zq_machine.specs.Machine.{state_after}
use Rattle.zq_machine.specs.Headline.{KeepsPromises, RunPromise}
use Rattle.zq_machine.proofs.Agreed.{agree_always, run_in_order}
use Rattle.zq_machine.proofs.Asking.{counted, to_askers}
use Rattle.zq_machine.proofs.Children.{child_promise}
use Rattle.zq_machine.proofs.Keeping.{answers_interests, change_promise, ends_interests, keep_promise}
use Rattle.zq_machine.proofs.Closings.{call_closed}
use Rattle.zq_machine.proofs.Counting.{faces_counted, faces_next, replies_counted}
use Rattle.zq_machine.proofs.Frame.{run_config}
use Rattle.zq_machine.proofs.Hats.{kinds_of}
use Rattle.zq_machine.proofs.Handing.{call_answers, call_behind, call_fits, call_ordered}
use Rattle.zq_machine.proofs.LastIds.{run_last}
use Rattle.zq_machine.proofs.Leaving.{all_gates, call_leaves}
use Rattle.zq_machine.proofs.Barred.{deny_promise}
use Rattle.zq_machine.proofs.Behind.{says_promise}
use Rattle.zq_machine.proofs.Within.{call_within}
use Rattle.zq_machine.proofs.Promises.{request_promise, reply_promise, refusal_promise}
use Rattle.zq_machine.proofs.Silent.{nothing_after}
use Rattle.zq_machine.proofs.Interested.{all_asked}
use Rattle.zq_machine.proofs.Routed.{all_routed}
use Rattle.zq_machine.proofs.Standing.{all_listed, all_stand}
use Rattle.zq_machine.proofs.Settled.{final_promise, run_once}
use Rattle.zq_machine.proofs.Direct.{number_promise}
use Rattle.zq_machine.proofs.Tells.{tell_promise}
use Rattle.zq_machine.proofs.Waits.{call_waits}
use Rattle.zq_machine.proofs.Finals.{opening_sound, run_sound}
use Rattle.zq_machine.proofs.OneFinal.{one_final}

kept : (config : Settings) (before : List Call) (c : Call) → KeepsPromises (state_after (opening_state config) before) c
kept config before c =
    let s : State = state_after (opening_state config) before in
    record {
      says = says_promise s (run_in_order config before).spaces;
      requests = request_promise s c (run_sound before (opening_state config) (opening_sound config));
      denies = deny_promise s c (run_sound before (opening_state config) (opening_sound config));
      replies = reply_promise s c;
      waits = call_waits s c (run_sound before (opening_state config) (opening_sound config));
      tells = tell_promise config s c (run_in_order config before);
      direct = number_promise config s c (run_in_order config before);
      answer = call_answers s c;
      fit = call_fits s c;
      leaves = call_leaves s c;
      within = call_within config s c (run_in_order config before);
      ordered = call_ordered config s c (run_in_order config before);
      behind = call_behind s c;
      finals = λ n. final_promise n s c (run_sound before (opening_state config) (opening_sound config)) (run_once n config before);
      closed = λ face. call_closed s face c;
      refusals = refusal_promise s c;
    }

pub headline : (config : Settings) (calls : List Call) → RunPromise config calls
headline config calls = record {
  each = λ before rest c at. kept config before c;
  settings = run_config calls (opening_state config);
  stands = λ face. all_stand config calls face;
  routed = λ place. all_routed config calls place;
  asked = λ face. all_asked config calls face;
  listed = all_listed config calls;
  gates = λ face. all_gates config calls face;
  kinds = λ place. kinds_of (at place (state_after (opening_state config) calls).core.hats) (at place (first_hats config)) ((run_in_order config calls).hats.shape place);
  places = (run_in_order config calls).hats.sorted;
  agrees = agree_always config calls;
  children = child_promise config calls;
  neighbours = keep_promise config calls;
  changes = change_promise config calls;
  answers = answers_interests config calls;
  ends = ends_interests config calls;
  numbers = counted config calls;
  faces = faces_counted config calls;
  next_face = faces_next calls (opening_state config);
  replies = replies_counted config calls;
  last_ids = λ face. run_last face calls (opening_state config);
  askers = λ before rest c at. to_askers config before c;
  one_final = λ n. one_final config calls n;
  nothing_after = λ n before rest c at ended. nothing_after config before c n ended;
}
