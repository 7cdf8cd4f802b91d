-- Which types are below which, and the types of objects.
use Rattle.std.specs.Prelude.{◌≡◌, ◌⊎◌, Bool, false, not, ◌&&◌, List, ◌++◌, map, filter, Option, Some, None, Contains}
use Rattle.hddl_words.specs.declared.domain.DomainText.{DomainText}
use Rattle.hddl_words.specs.declared.problem.ProblemText.{ProblemText}
use Rattle.hddl_meaning.specs.Mentions.{Text, Mention, Typed, typed_names, texts}
use Rattle.hddl_meaning.specs.Names.{is_same_text, object, type_mentions, object_declarations}

-- one or more of the pairs lead from the first text to the second
pub data Leads (pairs : List (Text × Text)) : Text → Text → Type 0 where
  Direct : (t u : Text) → Contains pairs (t, u) → Leads pairs t u
  Through : (t u v : Text) → Contains pairs (t, u) → Leads pairs u v → Leads pairs t v

-- the text of a type, and `object` where none is written
abbrev pub text_or_object : Option Mention → Text
text_or_object None = object
text_or_object (Some m) = m.text

-- a type of `:types` with its parent
abbrev pub declared_pair : Typed → Text × Text
declared_pair t = (t.mention.text, text_or_object t.of_type)

-- each declared type with its parent
abbrev pub declared_pairs : DomainText → List (Text × Text)
declared_pairs d = map declared_pair (typed_names d.types)

-- whether a pair is `object` with itself
abbrev pub is_object_pair : Text × Text → Bool
is_object_pair pair = is_same_text pair.0 object && is_same_text pair.1 object

-- the declared pairs, and each type with `object`; `object` with itself is ignored
abbrev pub parent_pairs : DomainText → List (Text × Text)
parent_pairs d = filter (λ pair. not (is_object_pair pair)) (declared_pairs d ++ map (λ text. (text, object)) (texts (type_mentions d)))

-- a type is below itself, and below the types to which the pairs lead
abbrev pub IsBelow : DomainText → Text → Text → Type 0
IsBelow d t u = (t ≡ u) ⊎ Leads (parent_pairs d) t u

-- a declared pair lies on a cycle where its parent leads back to its child
abbrev pub IsOnCycle : DomainText → Typed → Type 0
IsOnCycle d t = let pair = declared_pair t in (is_object_pair pair ≡ false) × IsBelow d pair.1 pair.0

-- some declaration of the object gives it a type below this one
abbrev pub HasType : DomainText → ProblemText → Text → Text → Type 0
HasType d p name type =
    (t : Typed) × Contains (object_declarations d p) t × (t.mention.text ≡ name) × IsBelow d (text_or_object t.of_type) type
