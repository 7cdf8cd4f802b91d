-- The faults of a schema: of its parameters, and then of what stands inside.
use Rattle.std.proofs.Common.{◌⊎◌, List, ◌∷◌, ◌++◌, inl, subst}
use Rattle.hddl_words.specs.declared.term.VariableGroup.{VariableGroup}
use Rattle.hddl_meaning.specs.Items.{most_parameters}
use Rattle.hddl_meaning.specs.Mentions.{mentions_of, typed_variables}
use Rattle.hddl_meaning.specs.Uses.{parameters_of}
use Rattle.hddl_meaning.specs.declared.fault.CheckFault.{CheckFault}
use Rattle.hddl_meaning.proofs.Listed.{at_head}
use Rattle.hddl_scope.specs.Findings.{AddsAny, AnyOf, Kept}
use Rattle.hddl_scope.proofs.Adding.{Adds-after}
use Rattle.hddl_scope.proofs.ScopeLists.{parameter_mentions}
use Rattle.hddl_uses.specs.Contexts.{Fails, PassedInside, PassedOver}
use Rattle.hddl_uses.specs.Parts.{Part, Different, Limited, type_parts}
use Rattle.hddl_uses.specs.declared.context.Context.{Context}
use Rattle.hddl_check.specs.TextParts.{parameter_parts}

-- repeats of the parameters are listed with these, so inside nothing is passed over
pub schema_added : (c : Context) (gs : List VariableGroup) (inner : List Part) {before between after : Kept}
    → AddsAny (PassedOver c) (Fails c) (parameter_parts gs) before between → AddsAny (PassedInside c (parameters_of gs)) (Fails c) inner between after
    → AddsAny (PassedOver c) (Fails c) (parameter_parts gs ++ inner) before after
schema_added c gs inner = Adds-after (PassedOver c) (Fails c) (PassedInside c (parameters_of gs)) (parameter_parts gs) inner over
  where
    over : (f : CheckFault) → AnyOf (PassedInside c (parameters_of gs)) inner f → AnyOf (Fails c) (parameter_parts gs) f ⊎ AnyOf (PassedOver c) inner f
    over f (x, at, again) =
        inl (
          Different (mentions_of (typed_variables gs)),
          at_head (Different (mentions_of (typed_variables gs))) (Limited most_parameters (mentions_of (typed_variables gs)) ∷ type_parts (typed_variables gs)),
          subst (λ ms. Fails c (Different ms) f) (parameter_mentions gs) again,
        )
