-- The declarations of a domain and a problem, by kind, and the numbers of names.
use Rattle.std.specs.Prelude.{ℕ, Bool, cond, nat_eq, List, [], ◌∷◌, ◌++◌, map, codes, Option, Some, None}
use Rattle.std.specs.List.{flat_map, fold, list_any, position}
use Rattle.std.specs.Cmp.Lexicographic.{pointwise}
use Rattle.hddl_words.specs.declared.domain.DomainText.{DomainText}
use Rattle.hddl_words.specs.declared.problem.ProblemText.{ProblemText}
use Rattle.hddl_words.specs.Names.{Name}
use Rattle.hddl_meaning.specs.Mentions.{Text, Mention, Typed, folded, mention_of, mentions_of, texts, typed_names}

-- whether two texts have the same bytes
abbrev pub is_same_text : Text → Text → Bool
is_same_text = pointwise nat_eq

-- a list of names with one more, unless it has it: the first declaration counts
abbrev pub with_name : List Text → Text → List Text
with_name names text = cond (list_any (is_same_text text) names) names (names ++ text ∷ [])

-- each text once, in the order in which they come first
abbrev pub distinct : List Text → List Text
distinct all = fold with_name [] all

-- a number, or 0 where there is none
abbrev pub number_or_zero : Option ℕ → ℕ
number_or_zero None = 0
number_or_zero (Some number) = number

-- the number of a name: its position
abbrev pub number_in : List Text → Text → ℕ
number_in names text = number_or_zero (position (is_same_text text) names)

-- the type of a name for which no type is written
abbrev pub object : Text
object = codes "object"

-- the mention of a name, if there is one
abbrev pub optional_mention : Option Name → List Mention
optional_mention None = []
optional_mention (Some x) = mention_of x ∷ []

-- the names in `:types`, in the order of the text: types and their parents
abbrev pub type_mentions : DomainText → List Mention
type_mentions d = flat_map (λ g. map mention_of g.names ++ optional_mention g.of_type) d.types

-- `object` first, then the types in the order in which they are named
abbrev pub type_names : DomainText → List Text
type_names d = distinct (object ∷ texts (type_mentions d))

-- the domain's constants, then the problem's objects
abbrev pub object_declarations : DomainText → ProblemText → List Typed
object_declarations d p = typed_names d.constants ++ typed_names p.objects

-- the names of constants and objects, each once
abbrev pub object_names : DomainText → ProblemText → List Text
object_names d p = distinct (texts (mentions_of (object_declarations d p)))

-- the names of the predicates
abbrev pub predicate_names : DomainText → List Text
predicate_names d = map (λ x. folded x.name.text) d.predicates

-- the names of the compound tasks
abbrev pub compound_names : DomainText → List Text
compound_names d = map (λ x. folded x.name.text) d.tasks

-- the compound tasks, then the actions
abbrev pub task_names : DomainText → List Text
task_names d = compound_names d ++ map (λ x. folded x.name.text) d.actions
