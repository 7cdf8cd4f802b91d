use Rattle.std.proofs.Common.{List, get_or, map, true, ◌<◌, ◌≡◌, ℕ}
use Rattle.htn_model.specs.Atom.{Atom}
use Rattle.htn_model.specs.Instances.{value_of}
use Rattle.htn_task.specs.Views.{terms_of}
use Rattle.htn_ground.proofs.narrowed.marks_of.Given as goal

-- the object of each atom so far that is one over the terms is marked
abbrev pub invariant-loop-atom : goal.invariant-loop-atom
invariant-loop-atom l = (values : List ℕ) (k : ℕ) (d : Atom) → k < l.atom-index → (get_or l.atoms k d).arguments ≡ map (value_of values) (terms_of l.terms)
    → get_or l.marks.items (get_or (get_or l.atoms k d).arguments l.place 0) true ≡ true
