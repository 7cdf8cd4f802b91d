use Rattle.std.proofs.Common.{◌≡◌, ◌∙◌, List, ap, map, subst, sym}
use Rattle.std.proofs.lemmas.Simd.{map-map}
use Rattle.htn_model.specs.Grounding.{problem_of}
use Rattle.htn_model.specs.Instance.{Instance}
use Rattle.htn_model.specs.Instances.{initials}
use Rattle.htn_model.specs.Machine.{Config, start}
use Rattle.htn_model.specs.Task.{Task}
use Rattle.htn_model.proofs.Grounded.{tasks_are_grounded}
use Rattle.htn_ground.specs.Distinct.{distinct}
use Rattle.htn_walk.specs.Listed.{listed_initials, listing_machine}
use Rattle.htn_walk.proofs.Listed.{distinct_initials}
use Rattle.heuristics.specs.Prospects.{AreProspects}
use Rattle.heuristics.proofs.ProspectsEnding.{prospects_hold}
use Rattle.heuristics.specs.Sizes.{size_of}
use Rattle.task_machine.specs.Bounds.{most_steps}
use Rattle.task_machine.proofs.machine.TaskMachine.new.Goals as goal

-- the configurations at the start are those of the distinct instances
starts_are : (t : Task) → map (λ (i : Instance). start (problem_of t) i.network) (distinct (initials t)) ≡ (listing_machine t).initials
starts_are t =
    ap (map (λ (i : Instance). start (problem_of t) i.network)) (sym (distinct_initials t))
    ∙ map-map (λ (i : Instance). start (problem_of t) i.network) (λ p. p.1) (listed_initials t)

pub invariant_of-result : goal.invariant_of-result
invariant_of-result c =
    let t = c.args.task.now in
    let grounded = tasks_are_grounded t c.initial_atoms-initial.ensures.typed in
    let listed = c.requires in
    record {
      grounded = grounded;
      measured = c.in_ok-sizes.ensures t listed;
      known = prospects_hold (problem_of t) (listing_machine t).initials (size_of c.in_ok-sizes.sizes) most_steps c.in_ok-prospects.prospects grounded (c.in_ok-sizes.ensures t listed)
          (subst (λ (starts : List Config). AreProspects (problem_of t) starts c.in_ok-prospects.prospects) (starts_are t) (c.in_ok-prospects.ensures listed));
    }
