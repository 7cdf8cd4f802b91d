use Rattle.std.proofs.Common.{◌≡◌, ◌++◌, take}
use Rattle.std.specs.List.{flat_map}
use Rattle.htn_model.specs.Instances.{literals_in}
use Rattle.htn_task.specs.Literals.{literals_of}
use Rattle.htn_task.specs.Formulas.{formulas_view}
use Rattle.htn_ground.proofs.literals.+push_literals.Given as goal

-- the literals of the substitutions so far
abbrev pub invariant-loop-choice : goal.invariant-loop-choice
invariant-loop-choice l =
    literals_of l.found.items
    ≡ literals_of l.initial.found.items
    ++ flat_map (λ choice. flat_map (literals_in l.task (l.values ++ choice)) (formulas_view l.body.items)) (take l.choice-index l.choice-items)

-- those of one substitution, of the parts so far
abbrev pub invariant-loop-part : goal.invariant-loop-part
invariant-loop-part l =
    literals_of l.found.items ≡ literals_of l.initial.found.items ++ flat_map (literals_in l.task l.all) (formulas_view (take l.part-index l.part-items))
