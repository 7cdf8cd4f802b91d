use Rattle.std.proofs.Common.{◌≡◌, map, take}
use Rattle.plan_causes.specs.Facts.{words_of}
use Rattle.plan_findings.specs.Runs.{fact_words}
use Rattle.plan_findings.proofs.run.facts_of.Given as goal

abbrev pub invariant-loop-atom : goal.invariant-loop-atom
invariant-loop-atom l = map words_of l.facts.items ≡ map (fact_words l.task) (map (λ a. a.now) (take l.atom-index l.atoms))
