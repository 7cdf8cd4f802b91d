-- Facts as words.
use Rattle.std.specs.Prelude.{List, map}
use Rattle.htn_model.specs.PlanFile.{Word}
use Rattle.plan_causes.specs.declared.run.Fact.{Fact}

-- the words of a fact
abbrev pub words_of : Fact → List Word
words_of f = map (λ w. w.now) f.words.items
