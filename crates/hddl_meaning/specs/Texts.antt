-- What is printed.
use Rattle.std.specs.Prelude.{ℕ, List, codes}
use Rattle.hddl_meaning.specs.declared.fault.Source.{Source}
use Rattle.hddl_meaning.specs.declared.fault.Source.TheVariants as source

-- the name of a text in a fault's message
abbrev pub source_text : Source → List ℕ
source_text source.Domain = codes "domain"
source_text source.Problem = codes "problem"
