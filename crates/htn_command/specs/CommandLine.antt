-- The command line of `htnplan`, as `clap` reads it: the values of each name, and which texts are refused.
use Rattle.std.specs.Prelude.{◌≡◌, ◌<◌, ◌^◌, ◌&&◌, ◌||◌, ℕ, Bool, true, false, List, [], ◌∷◌, Option, Some, None, codes, is_some, not, if◌then◌else◌}
use Rattle.std.specs.Str.{bytes_eq}
use Rattle.std.specs.Str.Parse.{IsNumeral, digits_value, without_leading_plus}
use Rattle.clap.specs.Kinds.{IsAmong, Kinds, or_else}
use Rattle.clap.specs.Faults.{fault_of}
use Rattle.clap.specs.Simple.{App, new_app, new_rule, on_top, subcommand_of, with_rule, with_subcommand}
use Rattle.clap.specs.Walk.{Row, Rule, Text, first_of}
use Rattle.clap.specs.declared.builder.action.ArgAction.TheVariants.{SetTrue}
use Rattle.clap.specs.declared.error.kind.ErrorKind.TheVariants.{ArgumentConflict, DisplayHelp, DisplayVersion, InvalidValue}
use Rattle.clap.specs.declared.builder.value_parser.ValueParser.TheVariants.{Unsigned}
use Rattle.diagnostics.specs.declared.format.Format.{Format}
use Rattle.diagnostics.specs.declared.format.Format.TheVariants as format
use Rattle.htn_command.specs.declared.choice.Colour.{Colour}
use Rattle.htn_command.specs.declared.choice.Colour.TheVariants as colour
use Rattle.htn_command.specs.declared.choice.Drawing.{Drawing}
use Rattle.htn_command.specs.declared.choice.Drawing.TheVariants as drawing

-- a required word: the name of a file
abbrev pub file : Text → Rule
file id = record (new_rule id) { required = true }

-- `--id N`, with N from least to most, and the text that is its default
abbrev pub number : Text → Text → ℕ → ℕ → Rule
number id default least most = record (new_rule id) {
  long = Some id;
  value_names = 1;
  defaults = default ∷ [];
  parser = Some (Unsigned least most);
}

-- `--id N` that may be left out, with N from least to most
abbrev pub number_or_none : Text → ℕ → ℕ → Rule
number_or_none id least most = record (new_rule id) { long = Some id; value_names = 1; parser = Some (Unsigned least most) }

-- an optional word: the name of a file
abbrev pub file_or_none : Text → Rule
file_or_none id = new_rule id

-- `--id WORD`, and the word that is its default
abbrev pub choice : Text → Text → Rule
choice id default = record (new_rule id) { long = Some id; value_names = 1; defaults = default ∷ [] }

-- `--id` alone; `true` stands for it where it is there, and `false` where it is left out
abbrev pub flag : Text → Rule
flag id = record (new_rule id) { long = Some id; action = Some SetTrue }

-- `plan DOMAIN PROBLEM [--nodes N] [--workers N] [--piece N] [--progress] [--seconds N]`
abbrev pub plan : App
plan =
    with_rule
    (with_rule
    (with_rule
    (with_rule
    (with_rule (with_rule (with_rule (new_app (codes "plan")) (file (codes "DOMAIN"))) (file (codes "PROBLEM")))
    (number (codes "nodes") (codes "100") 0 10000))
    (number (codes "workers") (codes "1") 1 64))
    (number (codes "piece") (codes "64") 1 1000000))
    (flag (codes "progress")))
    (number_or_none (codes "seconds") 1 31536000)

-- `verify DOMAIN PROBLEM PLAN`
abbrev pub verify : App
verify = with_rule (with_rule (with_rule (new_app (codes "verify")) (file (codes "DOMAIN"))) (file (codes "PROBLEM"))) (file (codes "PLAN"))

-- `check DOMAIN [PROBLEM] [--format FORMAT] [--limit N] [--strict] [--color WHEN]`
abbrev pub check : App
check =
    with_rule
    (with_rule
    (with_rule
    (with_rule (with_rule (with_rule (new_app (codes "check")) (file (codes "DOMAIN"))) (file_or_none (codes "PROBLEM")))
    (choice (codes "format") (codes "text")))
    (number (codes "limit") (codes "20") 0 1000000))
    (flag (codes "strict")))
    (choice (codes "color") (codes "auto"))

-- `explain DOMAIN PROBLEM PLAN [--format FORMAT] [--states] [--color WHEN]`
abbrev pub explain : App
explain =
    with_rule
    (with_rule
    (with_rule
    (with_rule (with_rule (with_rule (new_app (codes "explain")) (file (codes "DOMAIN"))) (file (codes "PROBLEM"))) (file (codes "PLAN")))
    (choice (codes "format") (codes "text")))
    (flag (codes "states")))
    (choice (codes "color") (codes "auto"))

-- `tree DOMAIN PROBLEM PLAN [--format FORMAT] [--details] [--color WHEN]`
abbrev pub tree : App
tree =
    with_rule
    (with_rule
    (with_rule
    (with_rule (with_rule (with_rule (new_app (codes "tree")) (file (codes "DOMAIN"))) (file (codes "PROBLEM"))) (file (codes "PLAN")))
    (choice (codes "format") (codes "text")))
    (flag (codes "details")))
    (choice (codes "color") (codes "auto"))

-- the program's name, and then one of its commands, or a word that asks for the version
unfoldable pub htnplan : App
htnplan =
    with_subcommand
    (with_subcommand
    (with_subcommand
    (with_subcommand
    (with_subcommand (on_top
    (λ s. record s { has_version = true; subcommand_required = true; arg_required_else_help = true })
    (new_app (codes "htnplan"))) plan.top)
    verify.top)
    check.top)
    explain.top)
    tree.top

-- the command that the words name, with the values that they give for each of its names
unfoldable pub read_by : List Text → Option (Text × List Row)
read_by words = subcommand_of htnplan words

-- the format that a word names
abbrev pub format_named : Text → Option Format
format_named word =
    if bytes_eq word (codes "text") then Some format.Text
    else (if bytes_eq word (codes "short") then Some format.Short
    else (if bytes_eq word (codes "json") then Some format.Json else None))

-- the drawing that a word names
abbrev pub drawing_named : Text → Option Drawing
drawing_named word =
    if bytes_eq word (codes "text") then Some drawing.Text
    else (if bytes_eq word (codes "ascii") then Some drawing.Ascii
    else (if bytes_eq word (codes "json") then Some drawing.Json
    else (if bytes_eq word (codes "dot") then Some drawing.Dot
    else (if bytes_eq word (codes "svg") then Some drawing.Svg
    else (if bytes_eq word (codes "html") then Some drawing.Html else None)))))

-- the times at which colours are written, by a word
abbrev pub colour_named : Text → Option Colour
colour_named word =
    if bytes_eq word (codes "auto") then Some colour.Auto
    else (if bytes_eq word (codes "always") then Some colour.Always
    else (if bytes_eq word (codes "never") then Some colour.Never else None))

-- whether a flag is set, by the word that `clap` stores for it
abbrev pub flag_named : Text → Option Bool
flag_named word = if bytes_eq word (codes "true") then Some true else (if bytes_eq word (codes "false") then Some false else None)

-- whether there is a word, and it names nothing
abbrev pub is_unknown : {X : Type 0} → (Text → Option X) → Option Text → Bool
is_unknown named None = false
is_unknown named (Some word) = not (is_some (named word))

-- whether the word is `-`, the standard input
abbrev pub is_input : Option Text → Bool
is_input None = false
is_input (Some word) = bytes_eq word (codes "-")

-- the kind of the refusal, if there is one: of a word that names nothing, and otherwise of the standard input twice
abbrev pub refused_kinds : Bool → Bool → Bool → Kinds
refused_kinds no_format no_colour two_inputs =
    if no_format then InvalidValue ∷ [] else (if no_colour then InvalidValue ∷ [] else (if two_inputs then ArgumentConflict ∷ [] else []))

-- the refusal by `check` of words that `clap` accepts: a word that names no format, one that names no time for colours,
-- or the standard input twice
abbrev pub check_fault : List Row → Kinds
check_fault rows =
    refused_kinds (is_unknown format_named (first_of (codes "format") rows)) (is_unknown colour_named (first_of (codes "color") rows))
    (is_input (first_of (codes "DOMAIN") rows) && is_input (first_of (codes "PROBLEM") rows))

-- whether at least two of three flags are true
abbrev pub are_two : Bool → Bool → Bool → Bool
are_two a b c = (a && b) || ((a || b) && c)

-- the refusal by `explain` of words that `clap` accepts: a word that names no format, one that names no time for
-- colours, or the standard input twice
abbrev pub explain_fault : List Row → Kinds
explain_fault rows =
    refused_kinds (is_unknown format_named (first_of (codes "format") rows)) (is_unknown colour_named (first_of (codes "color") rows))
    (are_two (is_input (first_of (codes "DOMAIN") rows)) (is_input (first_of (codes "PROBLEM") rows)) (is_input (first_of (codes "PLAN") rows)))

-- the refusal by `tree` of words that `clap` accepts: a word that names no drawing, one that names no time for colours,
-- or the standard input twice
abbrev pub tree_fault : List Row → Kinds
tree_fault rows =
    refused_kinds (is_unknown drawing_named (first_of (codes "format") rows)) (is_unknown colour_named (first_of (codes "color") rows))
    (are_two (is_input (first_of (codes "DOMAIN") rows)) (is_input (first_of (codes "PROBLEM") rows)) (is_input (first_of (codes "PLAN") rows)))

-- the refusal by a command of words that `clap` accepts
abbrev pub own_fault : Option (Text × List Row) → Kinds
own_fault None = []
own_fault (Some found) =
    if bytes_eq found.0 (codes "check") then check_fault found.1
    else (if bytes_eq found.0 (codes "explain") then explain_fault found.1
    else (if bytes_eq found.0 (codes "tree") then tree_fault found.1 else []))

-- the faults of the words
unfoldable pub faults : List Text → Kinds
faults words = or_else (fault_of htnplan words) (own_fault (read_by words))

-- the words ask for help where `clap` shows it
abbrev pub HelpIsDue : List Text → Type 0
HelpIsDue words = IsAmong DisplayHelp (faults words)

-- the words ask for the version where `clap` shows it
abbrev pub VersionIsDue : List Text → Type 0
VersionIsDue words = IsAmong DisplayVersion (faults words)

-- the text is of decimal digits, perhaps after a plus, and has this value
abbrev pub IsNumber : Option Text → ℕ → Type 0
IsNumber text n =
    (digits : Text) × (text ≡ Some digits) × IsNumeral 10 (without_leading_plus digits) × (digits_value 10 (without_leading_plus digits) ≡ n)

-- there is neither a text nor a number; or the text has this number, which fits 64 bits
abbrev pub IsNumberIfAny : Option Text → Option ℕ → Type 0
IsNumberIfAny text None = text ≡ None
IsNumberIfAny text (Some n) = IsNumber text n × (n < 2 ^ 64)
