-- The class of a word in the grammar, with its letters folded.
use Rattle.std.specs.Prelude.{ℕ, Bool, true, false, ◌||◌, if◌then◌else◌, List, codes}
use Rattle.std.specs.Str.{str_eq_ignore_ascii_case}
use Rattle.hddl_words.specs.declared.token.Kind.{Kind}
use Rattle.hddl_words.specs.declared.token.Kind.TheVariants as kind
use Rattle.hddl_words.specs.declared.class.Keyword.{Keyword}
use Rattle.hddl_words.specs.declared.class.Keyword.TheVariants as keyword
use Rattle.hddl_words.specs.declared.class.Class.{Class}
use Rattle.hddl_words.specs.declared.class.Class.TheVariants as class
use Rattle.hddl_words.specs.Word.{Word}

-- the keyword of a section
unfoldable pub section_of : List ℕ → Keyword
section_of text =
    if str_eq_ignore_ascii_case text (codes ":requirements") then keyword.Requirements
    else (if str_eq_ignore_ascii_case text (codes ":types") then keyword.Types
    else (if str_eq_ignore_ascii_case text (codes ":constants") then keyword.Constants
    else (if str_eq_ignore_ascii_case text (codes ":predicates") then keyword.Predicates
    else (if str_eq_ignore_ascii_case text (codes ":task") then keyword.Task
    else (if str_eq_ignore_ascii_case text (codes ":method") then keyword.Method
    else (if str_eq_ignore_ascii_case text (codes ":action") then keyword.Action
    else (if str_eq_ignore_ascii_case text (codes ":domain") then keyword.Domain
    else (if str_eq_ignore_ascii_case text (codes ":objects") then keyword.Objects
    else (if str_eq_ignore_ascii_case text (codes ":init") then keyword.Init
    else (if str_eq_ignore_ascii_case text (codes ":goal") then keyword.Goal
    else (if str_eq_ignore_ascii_case text (codes ":htn") then keyword.Htn
    else keyword.Other)))))))))))

-- the keyword of a part of a section, or else of a section
abbrev pub keyword_of : List ℕ → Keyword
keyword_of text =
    if str_eq_ignore_ascii_case text (codes ":parameters") then keyword.Parameters
    else (if str_eq_ignore_ascii_case text (codes ":precondition") then keyword.Precondition
    else (if str_eq_ignore_ascii_case text (codes ":effect") then keyword.Effect
    else (if str_eq_ignore_ascii_case text (codes ":subtasks") || str_eq_ignore_ascii_case text (codes ":tasks") then keyword.Subtasks
    else (if str_eq_ignore_ascii_case text (codes ":ordered-subtasks") || str_eq_ignore_ascii_case text (codes ":ordered-tasks") then keyword.OrderedSubtasks
    else (if str_eq_ignore_ascii_case text (codes ":ordering") || str_eq_ignore_ascii_case text (codes ":order") then keyword.Ordering
    else (if str_eq_ignore_ascii_case text (codes ":constraints") then keyword.Constraints
    else section_of text))))))

-- the sign that a text is: `-`, `=` or else `<`
abbrev pub sign_of : List ℕ → Class
sign_of text = if str_eq_ignore_ascii_case text (codes "-") then class.Minus else (if str_eq_ignore_ascii_case text (codes "=") then class.Equal else class.Less)

-- a reserved word that the grammar leaves out
abbrev pub is_left_out : List ℕ → Bool
is_left_out text =
    str_eq_ignore_ascii_case text (codes "or") || str_eq_ignore_ascii_case text (codes "imply") || str_eq_ignore_ascii_case text (codes "exists")
    || str_eq_ignore_ascii_case text (codes "when") || str_eq_ignore_ascii_case text (codes "either") || str_eq_ignore_ascii_case text (codes "increase")
    || str_eq_ignore_ascii_case text (codes "preference")

-- the class of a name: one reserved for the grammar, one that is left out of the language, or any other
abbrev pub name_class : List ℕ → Class
name_class text =
    if str_eq_ignore_ascii_case text (codes "and") then class.And
    else (if str_eq_ignore_ascii_case text (codes "not") then class.Not
    else (if str_eq_ignore_ascii_case text (codes "forall") then class.Forall
    else (if is_left_out text then class.Reserved else class.Name)))

-- the class of a word by its kind and, for keywords, signs and names, its text
abbrev pub class_by : Kind → List ℕ → Class
class_by kind.Open text = class.Open
class_by kind.Close text = class.Close
class_by kind.Variable text = class.Variable
class_by kind.Keyword text = class.Keyword (keyword_of text)
class_by kind.Sign text = sign_of text
class_by kind.Name text = name_class text

-- the class of a word
unfoldable pub class_of : Word → Class
class_of w = class_by w.kind w.text

-- a reserved word, which is no NAME
abbrev pub is_reserved : Class → Bool
is_reserved class.And = true
is_reserved class.Not = true
is_reserved class.Forall = true
is_reserved class.Reserved = true
is_reserved _ = false
