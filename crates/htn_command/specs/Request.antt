-- The request for which the words of a command line ask.
use Rattle.std.specs.Prelude.{◌≡◌, ◌<◌, ◌^◌, List, [], Option, Some, codes, option_and_then, option_map}
use Rattle.clap.specs.Walk.{Row, Text, first_of, one_of}
use Rattle.word_machine.specs.Bounds.{AreInRange}
use Rattle.htn_command.specs.CommandLine.{IsNumber, IsNumberIfAny, colour_named, drawing_named, faults, flag_named, format_named, read_by}
use Rattle.htn_command.specs.declared.request.Request.{Request}
use Rattle.htn_command.specs.declared.request.Request.TheVariants.{Plan, Verify, Check, Explain, Tree}

-- the command of a request
abbrev pub command_of : Request → Text
command_of (Plan domain problem bounds seconds has_progress) = codes "plan"
command_of (Verify domain problem plan) = codes "verify"
command_of (Check domain problem format limit is_strict colour) = codes "check"
command_of (Explain domain problem plan format has_states colour) = codes "explain"
command_of (Tree domain problem plan drawing has_details colour) = codes "tree"

-- the values of the command's names are those of the request
abbrev pub IsGiven : List Row → Request → Type 0
IsGiven rows (Plan domain problem bounds seconds has_progress) =
    (first_of (codes "DOMAIN") rows ≡ Some domain.now)
    × (first_of (codes "PROBLEM") rows ≡ Some problem.now)
    × IsNumber (one_of (codes "nodes") rows) bounds.nodes
    × IsNumber (one_of (codes "workers") rows) bounds.workers
    × IsNumber (one_of (codes "piece") rows) bounds.piece
    × AreInRange bounds.nodes bounds.workers bounds.piece
    × IsNumberIfAny (one_of (codes "seconds") rows) seconds
    × (option_and_then flag_named (first_of (codes "progress") rows) ≡ Some has_progress)
IsGiven rows (Verify domain problem plan) =
    (first_of (codes "DOMAIN") rows ≡ Some domain.now)
    × (first_of (codes "PROBLEM") rows ≡ Some problem.now)
    × (first_of (codes "PLAN") rows ≡ Some plan.now)
IsGiven rows (Check domain problem format limit is_strict colour) =
    (first_of (codes "DOMAIN") rows ≡ Some domain.now)
    × (first_of (codes "PROBLEM") rows ≡ option_map (λ name. name.now) problem)
    × (option_and_then format_named (first_of (codes "format") rows) ≡ Some format)
    × IsNumber (one_of (codes "limit") rows) limit
    × (limit < 2 ^ 64)
    × (option_and_then flag_named (first_of (codes "strict") rows) ≡ Some is_strict)
    × (option_and_then colour_named (first_of (codes "color") rows) ≡ Some colour)
IsGiven rows (Explain domain problem plan format has_states colour) =
    (first_of (codes "DOMAIN") rows ≡ Some domain.now)
    × (first_of (codes "PROBLEM") rows ≡ Some problem.now)
    × (first_of (codes "PLAN") rows ≡ Some plan.now)
    × (option_and_then format_named (first_of (codes "format") rows) ≡ Some format)
    × (option_and_then flag_named (first_of (codes "states") rows) ≡ Some has_states)
    × (option_and_then colour_named (first_of (codes "color") rows) ≡ Some colour)
IsGiven rows (Tree domain problem plan drawing has_details colour) =
    (first_of (codes "DOMAIN") rows ≡ Some domain.now)
    × (first_of (codes "PROBLEM") rows ≡ Some problem.now)
    × (first_of (codes "PLAN") rows ≡ Some plan.now)
    × (option_and_then drawing_named (first_of (codes "format") rows) ≡ Some drawing)
    × (option_and_then flag_named (first_of (codes "details") rows) ≡ Some has_details)
    × (option_and_then colour_named (first_of (codes "color") rows) ≡ Some colour)

-- a command with its values is this request
abbrev pub IsOf : Option (Text × List Row) → Request → Type 0
IsOf found request = (rows : List Row) × (found ≡ Some (command_of request, rows)) × IsGiven rows request

-- a command with its values is no request
abbrev pub IsOfNothing : Option (Text × List Row) → Type 0
IsOfNothing found = (request : Request) → IsOf found request → ⊥

-- the words have no fault, and ask for this request
pub record IsAskedBy (words : List Text) (request : Request) : Type 0 where
  pub sound : faults words ≡ []
  pub given : IsOf (read_by words) request

-- no request is asked for
abbrev pub AskNothing : List Text → Type 0
AskNothing words = (request : Request) → IsAskedBy words request → ⊥

-- two requests have the same command, files, bounds and options
abbrev pub AreAlike : Request → Request → Type 0
AreAlike (Plan domain problem bounds seconds has_progress) (Plan other second limits time is_shown) =
    (domain.now ≡ other.now) × (problem.now ≡ second.now)
    × (bounds.nodes ≡ limits.nodes) × (bounds.workers ≡ limits.workers) × (bounds.piece ≡ limits.piece)
    × (seconds ≡ time) × (has_progress ≡ is_shown)
AreAlike (Verify domain problem plan) (Verify other second third) = (domain.now ≡ other.now) × (problem.now ≡ second.now) × (plan.now ≡ third.now)
AreAlike (Check domain problem format limit is_strict colour) (Check other second form most strict when) =
    (domain.now ≡ other.now) × (option_map (λ name. name.now) problem ≡ option_map (λ name. name.now) second)
    × (format ≡ form) × (limit ≡ most) × (is_strict ≡ strict) × (colour ≡ when)
AreAlike (Explain domain problem plan format has_states colour) (Explain other second third form are_shown when) =
    (domain.now ≡ other.now) × (problem.now ≡ second.now) × (plan.now ≡ third.now)
    × (format ≡ form) × (has_states ≡ are_shown) × (colour ≡ when)
AreAlike (Tree domain problem plan drawing has_details colour) (Tree other second third drawn are_shown when) =
    (domain.now ≡ other.now) × (problem.now ≡ second.now) × (plan.now ≡ third.now)
    × (drawing ≡ drawn) × (has_details ≡ are_shown) × (colour ≡ when)
AreAlike _ _ = ⊥

-- words ask for one request at most
abbrev pub RequestsAreUnique : Type 0
RequestsAreUnique = (words : List Text) (request other : Request) → IsAskedBy words request → IsAskedBy words other → AreAlike request other
