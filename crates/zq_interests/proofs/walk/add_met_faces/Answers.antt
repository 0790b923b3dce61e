use Rattle.std.proofs.Common.{◌∙◌, ap, subst, fold, ℕ, List}
use Rattle.std.specs.String.{string_bytes}
use Rattle.zq_index.specs.Skipping.{StepIs}
use Rattle.zq_index.proofs.Rebuilt.{sorted_texts}
use Rattle.zq_index.proofs.Skipping.{unbounded}
use Rattle.zq_interests.specs.Kept.{met_at, with_face}
use Rattle.zq_interests.proofs.Walking.{all_found, faces_miss, fewer, stands_after_jump, stands_after_look, stands_first}
use Rattle.zq_interests.proofs.walk.add_met_faces.Goals as goal

pub loop-key-init : goal.loop-key-init
loop-key-init c = record {
  next = tt;
  finite = tt;
  stands =
      stands_first with_face c.args.q.now (met_at c.args.q.now) (faces_miss c.args.q.now) c.args.lists.now c.args.found.now.keys c.args.keys.now.entries c.range-rest.ensures.ordered
      c.range-rest.result (c.range-rest.ensures.between tt ∙ unbounded c.args.keys.now.entries) c.requires.fit;
}

-- ---- keys are passed over
pub loop-key-smaller : goal.loop-key-smaller
loop-key-smaller c =
    let lists = c.args.lists.now in
    fewer with_face c.args.q.now (met_at c.args.q.now) (faces_miss c.args.q.now) lists c.args.found.now.keys c.args.keys.now.entries c.range-rest.ensures.ordered
    c.loop-key.found.keys c.loop-key.rest c.loop-key.invariant.stands (c.in-Some.key.now, c.in-Some.places.now) c.next.new.self c.in-Some.ensures.steps
    c.next_step.new.bound (subst (StepIs lists c.args.q.now (string_bytes c.in-Some.key.now) (string_bytes c.next_step.new.bound)) c.in-Jump.is c.in_ok-next_step.ensures)
    c.range-rest-in-Jump.result (c.range-rest-in-Jump.ensures.between tt)

pub loop-key-preserved : goal.loop-key-preserved
loop-key-preserved c =
    let lists = c.args.lists.now in
    record {
      next = tt;
      finite = tt;
      stands =
          stands_after_jump with_face c.args.q.now (met_at c.args.q.now) (faces_miss c.args.q.now) lists c.args.found.now.keys c.args.keys.now.entries c.range-rest.ensures.ordered
          c.loop-key.found.keys c.loop-key.rest c.loop-key.invariant.stands (c.in-Some.key.now, c.in-Some.places.now) c.next.new.self c.in-Some.ensures.steps
          c.next_step.new.bound (subst (StepIs lists c.args.q.now (string_bytes c.in-Some.key.now) (string_bytes c.next_step.new.bound)) c.in-Jump.is c.in_ok-next_step.ensures)
          c.range-rest-in-Jump.result (c.range-rest-in-Jump.ensures.between tt);
    }

-- ---- none is left
pub returns-in-End-clause-faces : goal.returns-in-End-clause-faces
returns-in-End-clause-faces c =
    let lists = c.args.lists.now in
    all_found with_face c.args.q.now (met_at c.args.q.now) (faces_miss c.args.q.now) lists c.args.found.now.keys c.args.keys.now.entries c.range-rest.ensures.ordered
    c.loop-key.found.keys c.loop-key.rest c.loop-key.invariant.stands (c.in-Some.key.now, c.in-Some.places.now) c.next.new.self c.in-Some.ensures.steps
    (subst (StepIs lists c.args.q.now (string_bytes c.in-Some.key.now) (string_bytes c.next_step.new.bound)) c.in-End.is c.in_ok-next_step.ensures)

pub returns-in-End-clause-ordered : goal.returns-in-End-clause-ordered
returns-in-End-clause-ordered c = sorted_texts c.args.keys.now.entries c.range-rest.ensures.ordered

pub returns-clause-ordered : goal.returns-clause-ordered
returns-clause-ordered c = sorted_texts c.args.keys.now.entries c.range-rest.ensures.ordered

-- ---- a key is looked at
pub loop-key-preserved-in-Continue-branch-3 : goal.loop-key-preserved-in-Continue-branch-3
loop-key-preserved-in-Continue-branch-3 c =
    let lists = c.args.lists.now in
    let put = c.in_ok-add_met-in-Look.ensures ∙ ap (λ (t : List ℕ). fold with_face c.loop-key.found.keys (met_at c.args.q.now (t, c.in-Some.places.now))) c.as_str.ensures.value in
    record {
      next = tt;
      finite = tt;
      stands =
          stands_after_look with_face c.args.q.now (met_at c.args.q.now) (faces_miss c.args.q.now) lists c.args.found.now.keys c.args.keys.now.entries c.range-rest.ensures.ordered
          c.loop-key.found.keys c.loop-key.rest c.loop-key.invariant.stands (c.in-Some.key.now, c.in-Some.places.now) c.next.new.self c.in-Some.ensures.steps
          c.add_met.new.found.keys put;
    }
