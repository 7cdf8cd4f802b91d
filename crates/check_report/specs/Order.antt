-- Diagnostics in the order of the texts.
use Rattle.std.specs.Prelude.{ℕ, List, ◌++◌}
use Rattle.std.specs.declared.cmp.Ordering.{Ordering}
use Rattle.std.specs.List.Sorted.{IsPermutation, IsSorted}
use Rattle.std.specs.Ordering.{nat_cmp, on, then_cmp}
use Rattle.diagnostics.specs.declared.diagnostic.Diagnostic.{Diagnostic}
use Rattle.diagnostics.specs.declared.diagnostic.Role.{Role}
use Rattle.diagnostics.specs.declared.diagnostic.Role.TheVariants as role
use Rattle.diagnostics.specs.declared.diagnostic.Where.{Where}
use Rattle.diagnostics.specs.declared.diagnostic.Where.TheVariants.{Text, Place}

-- the domain comes before the problem
abbrev pub role_rank : Role → ℕ
role_rank role.Domain = 0
role_rank role.Problem = 1
role_rank role.Plan = 2

-- which text a diagnostic is about
abbrev pub text_rank : Where → ℕ
text_rank (Text source) = role_rank source.now.role
text_rank (Place spot) = role_rank spot.source.now.role

-- and which place of it
abbrev pub place_in : Where → ℕ
place_in (Text source) = 0
place_in (Place spot) = spot.place

-- by text, and then by place
abbrev pub place_cmp : Diagnostic → Diagnostic → Ordering
place_cmp = then_cmp (on (λ d. text_rank d.about) nat_cmp) (on (λ d. place_in d.about) nat_cmp)

-- these are all diagnostics of two lists, in the order of the texts
pub record AreByPlace (some others all : List Diagnostic) : Type 0 where
  pub same : IsPermutation (some ++ others) all
  pub order : IsSorted place_cmp all
