use Rattle.std.proofs.Common.{◌∙◌, subst, filter, ◌∷◌, [], ℕ, List}
use Rattle.std.specs.String.{string_bytes}
use Rattle.zq_index.specs.Skipping.{StepIs}
use Rattle.zq_index.proofs.Skipping.{unbounded}
use Rattle.zq_strategy.specs.Met.{AllGathered, is_met}
use Rattle.zq_strategy.proofs.Walking.{all_at_last, all_found, fewer, stands_after_jump, stands_after_look, stands_first}
use Rattle.zq_strategy.proofs.met.gather_all.Goals as goal

pub loop-key-init : goal.loop-key-init
loop-key-init g c = record {
  next = tt;
  finite = tt;
  stands =
      stands_first (g.G.Gather.gathers c.args.source.now c.args.q.now) c.args.q.now c.args.lists.now c.args.found.now c.args.keys.now.entries c.range-rest.ensures.ordered
      c.range-rest.result (c.range-rest.ensures.between tt ∙ unbounded c.args.keys.now.entries) c.requires.keys c.requires.listed;
}

-- ---- keys are passed over
pub loop-key-smaller : goal.loop-key-smaller
loop-key-smaller g c =
    let lists = c.args.lists.now in
    fewer (g.G.Gather.gathers c.args.source.now c.args.q.now) c.args.q.now lists c.args.found.now c.args.keys.now.entries c.range-rest.ensures.ordered
    c.loop-key.found c.loop-key.rest c.loop-key.invariant.stands (c.in-Some.key.now, c.in-Some.held.now) c.next.new.self c.in-Some.ensures.steps
    c.next_step.new.bound (subst (StepIs lists c.args.q.now (string_bytes c.in-Some.key.now) (string_bytes c.next_step.new.bound)) c.in-Jump.is c.in_ok-next_step.ensures)
    c.range-rest-in-Jump.result (c.range-rest-in-Jump.ensures.between tt)

pub loop-key-preserved : goal.loop-key-preserved
loop-key-preserved g c =
    let lists = c.args.lists.now in
    record {
      next = tt;
      finite = tt;
      stands =
          stands_after_jump (g.G.Gather.gathers c.args.source.now c.args.q.now) c.args.q.now lists c.args.found.now c.args.keys.now.entries c.range-rest.ensures.ordered
          c.loop-key.found c.loop-key.rest c.loop-key.invariant.stands (c.in-Some.key.now, c.in-Some.held.now) c.next.new.self c.in-Some.ensures.steps
          c.next_step.new.bound (subst (StepIs lists c.args.q.now (string_bytes c.in-Some.key.now) (string_bytes c.next_step.new.bound)) c.in-Jump.is c.in_ok-next_step.ensures)
          c.range-rest-in-Jump.result (c.range-rest-in-Jump.ensures.between tt);
    }

-- ---- none is left
pub returns-in-End : goal.returns-in-End
returns-in-End g c =
    let lists = c.args.lists.now in
    all_found (g.G.Gather.gathers c.args.source.now c.args.q.now) c.args.q.now lists c.args.found.now c.args.keys.now.entries c.range-rest.ensures.ordered
    c.loop-key.found c.loop-key.rest c.loop-key.invariant.stands (c.in-Some.key.now, c.in-Some.held.now) c.next.new.self c.in-Some.ensures.steps
    (subst (StepIs lists c.args.q.now (string_bytes c.in-Some.key.now) (string_bytes c.next_step.new.bound)) c.in-End.is c.in_ok-next_step.ensures)

pub returns : goal.returns
returns g c =
    all_at_last (g.G.Gather.gathers c.args.source.now c.args.q.now) c.args.q.now c.args.lists.now c.args.found.now c.args.keys.now.entries
    c.loop-key.found c.loop-key.rest c.loop-key.invariant.stands c.in_default.ensures.steps.0

-- ---- a key is looked at
pub loop-key-preserved-in-Continue-branch-3 : goal.loop-key-preserved-in-Continue-branch-3
loop-key-preserved-in-Continue-branch-3 g c =
    let gathers = g.G.Gather.gathers c.args.source.now c.args.q.now in
    record {
      next = tt;
      finite = tt;
      stands =
          stands_after_look gathers c.args.q.now c.args.lists.now c.args.found.now c.args.keys.now.entries c.range-rest.ensures.ordered
          c.loop-key.found c.loop-key.rest c.loop-key.invariant.stands (c.in-Some.key.now, c.in-Some.held.now) c.next.new.self c.in-Some.ensures.steps
          c.gather_met.new.found
          (subst (λ (t : List ℕ). AllGathered gathers c.loop-key.found (filter (is_met c.args.q.now) ((t, c.in-Some.held.now) ∷ [])) c.gather_met.new.found) c.as_str.ensures.value c.in_ok-gather_met-in-Look.ensures);
    }
