-- Variables in force, group by group.
use Rattle.std.proofs.Common.{◌≡◌, Bool, List, [], ◌∷◌, ◌++◌, map, refl, sym, ap, ◌∙◌, option_map, false, true}
use Rattle.std.specs.List.{flat_map}
use Rattle.std.proofs.lemmas.List.{map-append}
use Rattle.std.proofs.lemmas.Simd.{map-map}
use Rattle.hddl_words.specs.Names as words
use Rattle.hddl_words.specs.declared.term.VariableGroup.{VariableGroup}
use Rattle.hddl_meaning.specs.Mentions.{Typed, mention_of, mentions_of, typed_variables, variable_mention}
use Rattle.hddl_meaning.specs.Uses.{Variable, parameters_of, quantified_of}
use Rattle.hddl_meaning.specs.Items.{variable_mentions}
use Rattle.hddl_scope.specs.Scopes.{group_variables}

-- the variables that groups put in force are those of the typed list
pub scope_groups : (quantified : Bool) (gs : List VariableGroup)
    → flat_map (group_variables quantified) gs ≡ map (λ t. record { typed = t; is_quantified = quantified }) (typed_variables gs)
scope_groups quantified [] = refl
scope_groups quantified (g ∷ gs) =
    let with : Typed → Variable = λ t. record { typed = t; is_quantified = quantified } in
    let of : words.Variable → Typed = λ x. record { mention = variable_mention x; of_type = option_map mention_of g.of_type } in
    (λ i. sym (map-map with of g.variables) i ++ scope_groups quantified gs i) ∙ sym (map-append with (map of g.variables) (typed_variables gs))

-- those around a `forall` and its own, without their types
pub scope_mentions : (around : List Variable) (gs : List VariableGroup)
    → variable_mentions (around ++ quantified_of gs) ≡ variable_mentions around ++ mentions_of (typed_variables gs)
scope_mentions around gs =
    map-append (λ v. v.typed.mention) around (quantified_of gs)
    ∙ ap (λ l. variable_mentions around ++ l) (map-map (λ (v : Variable). v.typed.mention) (λ (t : Typed). record { typed = t; is_quantified = true }) (typed_variables gs))

-- the parameters of a schema, without their types
pub parameter_mentions : (gs : List VariableGroup) → variable_mentions (parameters_of gs) ≡ mentions_of (typed_variables gs)
parameter_mentions gs = map-map (λ (v : Variable). v.typed.mention) (λ (t : Typed). record { typed = t; is_quantified = false }) (typed_variables gs)
