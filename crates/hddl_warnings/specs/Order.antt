-- The order of warnings: the domain's before the problem's, then by place, and at one place by kind.
use Rattle.std.specs.Prelude.{ℕ}
use Rattle.std.specs.declared.cmp.Ordering.{Ordering}
use Rattle.std.specs.Ordering.{nat_cmp, on, then_cmp}
use Rattle.hddl_meaning.specs.declared.fault.Source.{Source}
use Rattle.hddl_meaning.specs.declared.fault.Source.TheVariants as source
use Rattle.hddl_warnings.specs.declared.warning.WarningKind.{WarningKind}
use Rattle.hddl_warnings.specs.declared.warning.WarningKind.TheVariants as kind
use Rattle.hddl_warnings.specs.declared.warning.Warning.{Warning}

-- the domain comes first
abbrev pub source_number : Source → ℕ
source_number source.Domain = 0
source_number source.Problem = 1

-- the kinds in the order of their declaration
abbrev pub kind_number : WarningKind → ℕ
kind_number kind.OtherDomain = 0
kind_number kind.UnusedParameter = 1
kind_number kind.AddedAndDeleted = 2
kind_number kind.NoMethod = 3
kind_number kind.UnusedType = 4
kind_number kind.UnusedPredicate = 5
kind_number kind.UntestedPredicate = 6
kind_number kind.UnusedTask = 7
kind_number kind.UnusedAction = 8
kind_number kind.DeclaredAgain = 9

-- by place, and at one place by kind
abbrev pub place_cmp : Warning → Warning → Ordering
place_cmp = then_cmp (on (λ w. w.at.place) nat_cmp) (on (λ w. kind_number w.kind) nat_cmp)

-- by text, then by place, then by kind
abbrev pub warning_cmp : Warning → Warning → Ordering
warning_cmp = then_cmp (on (λ w. source_number w.at.source) nat_cmp) place_cmp
