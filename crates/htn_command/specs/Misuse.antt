-- The kinds of error of what is refused of words that `clap` takes.
use Rattle.std.specs.Prelude.{[], ◌∷◌, Option, Some, None}
use Rattle.clap.specs.Kinds.{Kinds}
use Rattle.clap.specs.declared.error.kind.ErrorKind.{ErrorKind}
use Rattle.clap.specs.declared.error.kind.ErrorKind.TheVariants.{ArgumentConflict, InvalidValue}
use Rattle.htn_command.specs.declared.misuse.Misuse.{Misuse}
use Rattle.htn_command.specs.declared.misuse.Misuse.TheVariants as misuse

-- the kind of error of each
abbrev pub kind_of_misuse : Misuse → ErrorKind
kind_of_misuse misuse.Format = InvalidValue
kind_of_misuse misuse.Colour = InvalidValue
kind_of_misuse misuse.Inputs = ArgumentConflict
kind_of_misuse misuse.Drawing = InvalidValue
kind_of_misuse misuse.InputTwice = ArgumentConflict

-- the kinds of one, or of none
abbrev pub kinds_of : Option Misuse → Kinds
kinds_of None = []
kinds_of (Some m) = kind_of_misuse m ∷ []
