-- Every run keeps the headline.
use Rattle.std.proofs.Common.{List}
use Rattle.zq_machine.specs.declared.call.Call.{Call}
use Rattle.zq_machine.specs.declared.call.Call.TheVariants as call
use Rattle.zq_machine.specs.Configs.{Settings}
use Rattle.zq_machine.specs.Machine.{steps}
use Rattle.zq_trace.specs.Headline.{Headline}
use Rattle.zq_trace.specs.Machine.{AreSmall, RefusesAlike, of_machine}
use Rattle.zq_trace.proofs.Kept.{headline}
use Rattle.zq_trace.proofs.Picks.{picks_alike}
use Rattle.zq_trace.proofs.Places.{network_refuses, region_refuses}
use Rattle.zq_trace.proofs.Refuses.{ask_refuses, close_refuses, final_refuses, key_refuses, mark_refuses, nodes_refuses, poll_refuses, reply_refuses, sent_refuses, unkey_refuses}
use Rattle.zq_trace.proofs.Rest.{declare_refuses, end_refuses, interest_refuses, open_refuses, withdraw_refuses}

refuses_alike : (config : Settings) → AreSmall config → RefusesAlike (of_machine config) config
refuses_alike config small past run (call.Open x) = open_refuses config past run small x
refuses_alike config small past run (call.Close face) = close_refuses config past run (of_machine config) face
refuses_alike config small past run (call.DeclareKeyExpr face id w) = key_refuses config past run (of_machine config) face id w
refuses_alike config small past run (call.UndeclareKeyExpr face id) = unkey_refuses config past run (of_machine config) face id
refuses_alike config small past run (call.DeclareQueryable face id w info node) = declare_refuses config past run small face id w info node
refuses_alike config small past run (call.UndeclareQueryable face id w node) = withdraw_refuses config past run small face id w node
refuses_alike config small past run (call.Interest face id keys aggregate w) = interest_refuses config past run small face id keys aggregate w
refuses_alike config small past run (call.InterestFinal face id) = end_refuses config past run small face id
refuses_alike config small past run (call.FinalizeInterest face m set) = mark_refuses config past run (of_machine config) face m set
refuses_alike config small past run (call.Request face r now) = ask_refuses config past run (of_machine config) face r now (picks_alike config small past run face r)
refuses_alike config small past run (call.Response face r) = reply_refuses config past run (of_machine config) face r
refuses_alike config small past run (call.ResponseFinal face rid) = final_refuses config past run (of_machine config) face rid
refuses_alike config small past run (call.Sent reply) = sent_refuses config past run (of_machine config) reply
refuses_alike config small past run (call.Poll now) = poll_refuses config past run (of_machine config) now
refuses_alike config small past run (call.SetGateways r g) = region_refuses config past small r (of_machine config) g
refuses_alike config small past run (call.SetNetwork r n) = network_refuses config past small r (of_machine config) n
refuses_alike config small past run (call.SetNodeIds face ids) = nodes_refuses config past run (of_machine config) face ids

pub runs_keep : (config : Settings) → AreSmall config → (calls : List Call) → Headline (of_machine config) config calls (steps config calls)
runs_keep config small calls = headline (of_machine config) config (picks_alike config small) (refuses_alike config small) calls
