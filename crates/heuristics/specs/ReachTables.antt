-- What is reached, by sets of atoms and of ground tasks.
use Rattle.std.specs.Prelude.{Bool, List, true, false, not, ◌||◌, get_or, ℕ}
use Rattle.htn_model.specs.State.{contains}
use Rattle.std.specs.List.{list_any}
use Rattle.htn_model.specs.Problem.{Child, precondition, action, task, GroundTask, ground_task_eq}
use Rattle.heuristics.specs.Facts.{Facts, are_possible}
use Rattle.heuristics.specs.Reach.{Reach}
use Rattle.heuristics.specs.declared.facts.FactSets.{FactSets}
use Rattle.heuristics.specs.declared.reach.RelaxedReach.{RelaxedReach}

-- whether a ground task is one of these
abbrev pub is_among : List GroundTask → GroundTask → Bool
is_among tasks g = list_any (ground_task_eq g) tasks

-- whether a predicate is one of those whose atoms the facts list
abbrev pub is_fluent : FactSets → ℕ → Bool
is_fluent f predicate = get_or f.fluents.items predicate false

-- the facts by two sets of atoms; each atom of a static predicate may be true, and none has to be
abbrev pub facts_of : FactSets → Facts
facts_of f = record { may_hold = λ a. not (is_fluent f a.predicate) || contains f.possible a; lasting = f.lasting }

-- whether a node is known: each step is, and the actions and tasks of the sets
abbrev pub knows : RelaxedReach → Child → Bool
knows r (precondition literals) = true
knows r (action g) = is_among r.actions.known.keys g
knows r (task g) = is_among r.tasks.known.keys g

-- whether a node never ends: a step with a literal that never holds, and the actions and tasks of the sets
abbrev pub blocks : RelaxedReach → Child → Bool
blocks r (precondition literals) = not (are_possible (facts_of r.facts) literals)
blocks r (action g) = is_among r.actions.blocked.keys g
blocks r (task g) = is_among r.tasks.blocked.keys g

-- what is reached by the sets
abbrev pub reach_of : RelaxedReach → Reach
reach_of r = record { facts = facts_of r.facts; is_known = knows r; is_blocked = blocks r; is_barred = is_among r.barred.keys }
