-- Vocabularies whose numbers fit.
use Rattle.std.specs.Prelude.{◌≤◌, ◌^◌, length}
use Rattle.hddl_meaning.specs.Building.{Vocabulary}

-- the numbers of types, objects and predicates fit sixteen bits, those of tasks 32
pub record IsNumbered (v : Vocabulary) : Type 0 where
  pub types : length v.types ≤ 2 ^ 16
  pub objects : length v.objects ≤ 2 ^ 16
  pub predicates : length v.predicates ≤ 2 ^ 16
  pub tasks : length v.tasks ≤ 2 ^ 32
