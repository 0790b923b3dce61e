use Rattle.std.proofs.Common.{rules, ◌≡◌, ◌+◌, None, false, subst, sym}
use Rattle.zq_store.specs.Bus.{BusState, IsBus, IsServed, new_bus, new_refusal}
use Rattle.zq_store.proofs.Keeping.{new_keeps}
use Rattle.zq_store.proofs.Served.{new_served}
use Rattle.zq_store.proofs.bus.Bus.new.Goals as goal

pub invariant_of-result : goal.invariant_of-result
invariant_of-result c =
    let config = c.args.config.now in
    let counters = c.counters-counters.result.now in
    let none : new_refusal config ≡ None = search rules in
    let is : ◌≡◌ {A = BusState} (record { gateway = c.open_local.new.gateway.state; asker = record { 0 = counters.faces }; next_face = counters.faces + 1; next_request = counters.requests; next_reply = counters.replies; stores = c.new-2.result; spent = false }) (new_bus config) = search rules in
    subst IsBus (sym is) (new_keeps config none)

pub returns-clause-served : goal.returns-clause-served
returns-clause-served c =
    let config = c.args.config.now in
    let counters = c.counters-counters.result.now in
    let none : new_refusal config ≡ None = search rules in
    let is : ◌≡◌ {A = BusState} (record { gateway = c.open_local.new.gateway.state; asker = record { 0 = counters.faces }; next_face = counters.faces + 1; next_request = counters.requests; next_reply = counters.replies; stores = c.new-2.result; spent = false }) (new_bus config) = search rules in
    subst IsServed (sym is) (new_served config none)
