use Rattle.std.proofs.Common.{List, map, take, true, ◌≡◌, ℕ}
use Rattle.htn_model.specs.Instances.{value_of}
use Rattle.htn_task.specs.Views.{terms_of}
use Rattle.htn_ground.specs.Narrow.{is_choice}
use Rattle.htn_ground.proofs.narrowed.pinned_terms.Given as goal

-- the terms so far stand for the same objects
abbrev pub invariant-loop-term : goal.invariant-loop-term
invariant-loop-term l = (values : List ℕ) → is_choice l.domains values ≡ true
    → map (value_of values) (terms_of l.pinned.items) ≡ map (value_of values) (terms_of (take l.term-index l.terms))
