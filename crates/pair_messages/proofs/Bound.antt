-- The variables of typed lists among those in force.
use Rattle.std.proofs.Common.{◌≡◌, ◌∙◌, List, map, option_map, subst, sym, true, false}
use Rattle.std.specs.Borrow.{Bor}
use Rattle.std.specs.List.{flat_map}
use Rattle.std.proofs.lemmas.List.{map-append}
use Rattle.hddl_words.specs.declared.term.VariableGroup.{VariableGroup}
use Rattle.hddl_meaning.specs.Mentions.{IsIn, Text, Typed, folded, mention_of, mentions_of, typed_variables, variable_mention}
use Rattle.hddl_meaning.specs.Uses.{Variable, parameters_of, quantified_of}
use Rattle.hddl_meaning.proofs.Listed.{in_flat_map, in_left, in_map, in_right}
use Rattle.pair_messages.specs.declared.stands.InForce.{InForce}
use Rattle.pair_messages.specs.Bindings.{AreAllIn, group_texts}
use Rattle.pair_messages.specs.Offers.{variable_texts}
use Rattle.pair_messages.specs.Stands.{in_force, section_parameters}
use Rattle.pair_messages.proofs.Folded.{map_map}
use Rattle.pair_messages.proofs.Nearest.{unmapped}

abbrev typed_of : VariableGroup → List Typed
typed_of g = map (λ x. record { mention = variable_mention x; of_type = option_map mention_of g.of_type }) g.variables

-- the variables of a group are those of its list
pub group_in : (groups : List VariableGroup) (g : VariableGroup) (t : Text) → IsIn g groups → IsIn t (map (λ x. folded x.text) g.variables) → IsIn t (group_texts groups)
group_in groups g t here at =
    let (x, there, is) = unmapped (λ x. folded x.text) g.variables t at in
    let typed : Typed = record { mention = variable_mention x; of_type = option_map mention_of g.of_type } in
    let one : IsIn typed (typed_variables groups) = in_flat_map typed_of g typed groups here (in_map (λ x. record { mention = variable_mention x; of_type = option_map mention_of g.of_type }) x g.variables there) in
    subst (λ (u : Text). IsIn u (group_texts groups)) is (in_map (λ m. m.text) typed.mention (mentions_of (typed_variables groups)) (in_map (λ (y : Typed). y.mention) typed (typed_variables groups) one))

parameters_same : (groups : List VariableGroup) → group_texts groups ≡ variable_texts (parameters_of groups)
parameters_same groups =
    map_map (λ m. m.text) (λ (t : Typed). t.mention) (typed_variables groups)
    ∙ sym (map_map (λ (v : Variable). v.typed.mention.text) (λ t. record { typed = t; is_quantified = false }) (typed_variables groups))

quantified_same : (groups : List VariableGroup) → group_texts groups ≡ variable_texts (quantified_of groups)
quantified_same groups =
    map_map (λ m. m.text) (λ (t : Typed). t.mention) (typed_variables groups)
    ∙ sym (map_map (λ (v : Variable). v.typed.mention.text) (λ t. record { typed = t; is_quantified = true }) (typed_variables groups))

module _ (scope : InForce) where
  abbrev own : List Variable
  own = parameters_of (section_parameters scope.section)

  abbrev quantified : List Variable
  quantified = flat_map (λ g. quantified_of g.now) scope.quantified.items

  -- parameters are in force
  pub own_in : AreAllIn (group_texts (section_parameters scope.section)) (variable_texts (in_force scope))
  own_in = λ t at.
      subst (IsIn t) (sym (map-append (λ (v : Variable). v.typed.mention.text) own quantified))
      (in_left t (variable_texts own) (variable_texts quantified) (subst (IsIn t) (parameters_same (section_parameters scope.section)) at))

  -- the variables of each `forall` are in force
  pub bound_in : (g : Bor (List VariableGroup)) → IsIn g scope.quantified.items → AreAllIn (group_texts g.now) (variable_texts (in_force scope))
  bound_in g here = λ t at.
      let (v, there, is) = unmapped (λ (v : Variable). v.typed.mention.text) (quantified_of g.now) t (subst (IsIn t) (quantified_same g.now) at) in
      subst (λ (u : Text). IsIn u (variable_texts (in_force scope))) is
      (in_map (λ (v : Variable). v.typed.mention.text) v (in_force scope)
      (in_right v own quantified (in_flat_map (λ g. quantified_of g.now) g v scope.quantified.items here there)))
