-- Errors by their codes.
use Rattle.std.specs.Prelude.{◌≡◌, ℕ, List}
use Rattle.diagnostics.specs.declared.diagnostic.Diagnostic.{Diagnostic}
use Rattle.diagnostics.specs.declared.diagnostic.Severity.TheVariants.{Error}

-- an error with this code
pub record IsError (kind : List ℕ) (d : Diagnostic) : Type 0 where
  pub severity : d.severity ≡ Error
  pub code : d.code.now ≡ kind
