-- The numbers that a summary gives.
use Rattle.std.specs.Prelude.{ℕ, ◌-◌, ◌^◌, min, List, [], ◌∷◌, length}
use Rattle.std.specs.List.{flat_map, sum, sum_by}
use Rattle.hddl_words.specs.declared.condition.Condition.{Condition, fold-Condition}
use Rattle.hddl_words.specs.declared.condition.Condition.TheOpen.{Condition-F}
use Rattle.hddl_words.specs.declared.domain.DomainText.{DomainText}
use Rattle.hddl_words.specs.declared.problem.ProblemText.{ProblemText}
use Rattle.diagnostics.specs.declared.diagnostic.Part.{Part}
use Rattle.diagnostics.specs.declared.diagnostic.Part.TheVariants.{Words, Name, Number}
use Rattle.hddl_meaning.specs.Mentions.{mentions_of, texts, typed_names}
use Rattle.hddl_meaning.specs.Names.{distinct, type_names}

-- the number that a part of a line is
abbrev pub number_of : Part → List ℕ
number_of (Words bytes) = []
number_of (Name bytes) = []
number_of (Number n) = n ∷ []

-- the numbers of a line, in their order
abbrev pub numbers_of : List Part → List ℕ
numbers_of parts = flat_map number_of parts

-- how many different names types have, apart from `object`
abbrev pub type_count : DomainText → ℕ
type_count d = length (type_names d) - 1

-- how many different names the objects of a problem have
abbrev pub object_count : ProblemText → ℕ
object_count p = length (distinct (texts (mentions_of (typed_names p.objects))))

-- types, predicates, compound tasks, methods and actions
abbrev pub domain_counts : DomainText → List ℕ
domain_counts d = type_count d ∷ length d.predicates ∷ length d.tasks ∷ length d.methods ∷ length d.actions ∷ []

-- a literal or an equality counts as one, and a `forall` as its body
abbrev pub literals_step : Condition-F ℕ → ℕ
literals_step (Condition-F.Literal l) = 1
literals_step (Condition-F.Equality e) = 1
literals_step (Condition-F.Forall groups body) = sum body

-- how many literals and equalities a condition has
abbrev pub literal_count : Condition → ℕ
literal_count = fold-Condition ℕ literals_step

-- those of some conditions, as far as a word holds the number
abbrev pub literals_counted : List Condition → ℕ
literals_counted conditions = min (sum_by literal_count conditions) (2 ^ 64 - 1)

-- objects, initial facts, tasks and the goal's literals
abbrev pub problem_counts : ProblemText → List ℕ
problem_counts p = object_count p ∷ length p.init ∷ length p.htn.network.subtasks ∷ literals_counted p.goal ∷ []
