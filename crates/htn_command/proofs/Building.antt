-- Commands that are built argument by argument, and the command line that they make.
use Rattle.std.proofs.Common.{◌≡◌, ◌∙◌, ap, ap₂, ℤ, true, false, ◌||◌, Some, refl}
use Rattle.std.specs.Range.{range_inclusive_end, range_inclusive_start}
use Rattle.std.specs.declared.ops.RangeInclusive.{RangeInclusive}
use Rattle.clap.specs.Values.{NarrowsTo}
use Rattle.clap.specs.declared.builder.value_parser.ValueParser.{ValueParser}
use Rattle.clap.specs.declared.builder.value_parser.ValueParser.TheVariants.{Unsigned}
use Rattle.clap.specs.Built.{AddsArg}
use Rattle.clap.specs.Faults.{is_simple_and_free}
use Rattle.clap.specs.Simple.{App, Shape, app_of, app_of_fields, is_simple, on_top, with_rule}
use Rattle.std.specs.Borrow.{Bor}
use Rattle.clap.specs.Walk.{Rule, Text, rule_of}
use Rattle.clap.specs.declared.builder.arg.Arg.{Arg}
use Rattle.clap.specs.declared.builder.command.Command.{Command}
use Rattle.clap.specs.declared.builder.command.Command.TheOpen.{Command-F}
use Rattle.clap.specs.declared.builder.command.Command.TheViews.{out-Command}
use Rattle.clap.proofs.OnLiterals.{clap_on_literals}
use Rattle.htn_command.specs.CommandLine.{htnplan}

-- the command is this one, and has no argument that its commands share
abbrev pub Is : Command → App → Type 0
Is c app = (app_of c ≡ app) × ((out-Command c).has_globals ≡ false)

-- one more argument
pub with_one : (old new : Command) (a : Arg) (app : App) (rule : Rule) → Is old app → AddsArg old a new → rule_of a ≡ rule → a.global ≡ false
    → Is new (with_rule app rule)
with_one old new a app rule is adds rule_is local =
    (adds.shape local ∙ ap₂ with_rule is.0 rule_is, adds.globals ∙ ap₂ (λ x y. x || y) is.1 local)

-- a command that shows its version
abbrev pub versioned : Shape → Shape
versioned s = record s { has_version = true }

-- a command that has a version
pub made_versioned : (a b : Command) (text : Bor Text) (app : App) → app_of a ≡ app → out-Command b ≡ record (out-Command a) { version = Some text }
    → app_of b ≡ on_top versioned app
made_versioned a b text app is one = ap app_of_fields one ∙ ap (on_top versioned) is

-- a command that needs a subcommand, and shows help without one
abbrev pub strict : Shape → Shape
strict s = record s { subcommand_required = true; arg_required_else_help = true }

-- a command that wants one of its commands
pub made_strict : (a b c : Command) (app : App) → app_of a ≡ app → out-Command b ≡ record (out-Command a) { subcommand_required = true }
    → out-Command c ≡ record (out-Command b) { arg_required_else_help = true } → app_of c ≡ on_top strict app
made_strict a b c app is one two =
    ap app_of_fields two
    ∙ ap (λ (f : Command-F Command). app_of_fields (record f { arg_required_else_help = true })) one
    ∙ ap (on_top strict) is

-- the command line is one whose matches `clap` states
pub line_is_simple : is_simple htnplan ≡ true
unfolding htnplan clap_on_literals
line_is_simple = refl

-- and whose faults it states
pub line_is_free : is_simple_and_free htnplan ≡ true
unfolding htnplan clap_on_literals
line_is_free = refl

-- the numbers of 64 bits from the start of a range to its end
abbrev pub within : ℤ → ℤ → ValueParser → Type 0
within least most parser = NarrowsTo (Unsigned 0 18446744073709551615) (Some least) (Some most) parser

-- a parser of all 64-bit numbers that is narrowed to a range takes those of the range
pub narrowed : (all parser : ValueParser) (r : RangeInclusive ℤ) (least most : ℤ) → all ≡ Unsigned 0 18446744073709551615
    → range_inclusive_start r ≡ least → range_inclusive_end r ≡ most
    → NarrowsTo all (Some (range_inclusive_start r)) (Some (range_inclusive_end r)) parser → within least most parser
narrowed all parser r least most is start end h = rw (is, start, end) at h
