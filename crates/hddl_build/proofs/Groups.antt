-- Typed lists, group by group.
use Rattle.std.proofs.Common.{◌≡◌, List, [], ◌∷◌, ◌++◌, map, refl, ap, ap₂, ◌∙◌}
use Rattle.std.specs.List.{flat_map}
use Rattle.std.specs.Option.{option_map}
use Rattle.std.proofs.lemmas.List.{map-append}
use Rattle.hddl_words.specs.declared.term.VariableGroup.{VariableGroup}
use Rattle.hddl_meaning.specs.Mentions.{Typed, mention_of, variable_mention, typed_variables}
use Rattle.hddl_meaning.specs.Names.{number_in}
use Rattle.hddl_meaning.specs.Types.{text_or_object}
use Rattle.hddl_meaning.specs.Building as building
use Rattle.hddl_meaning.specs.Building.{types_of}

-- one function after another is both in one
pub map-map : {X Y Z : Type 0} (f : Y → Z) (g : X → Y) (xs : List X) → map f (map g xs) ≡ map (λ x. f (g x)) xs
map-map f g [] = refl
map-map f g (x ∷ xs) = ap (λ l. f (g x) ∷ l) (map-map f g xs)

-- what is made of typed variables is made group by group
pub map_typed : {X : Type 0} (f : Typed → X) (groups : List VariableGroup)
    → map f (typed_variables groups)
    ≡ flat_map (λ g. map (λ x. f (record { mention = variable_mention x; of_type = option_map mention_of g.of_type })) g.variables) groups
map_typed f [] = refl
map_typed f (g ∷ gs) =
    map-append f (map (λ x. record { mention = variable_mention x; of_type = option_map mention_of g.of_type }) g.variables) (typed_variables gs)
    ∙ ap₂ (λ a b. a ++ b) (map-map f (λ x. record { mention = variable_mention x; of_type = option_map mention_of g.of_type }) g.variables) (map_typed f gs)

-- the types of a typed list are those of its groups, one for each variable
pub types_by_group : (v : building.Vocabulary) (groups : List VariableGroup)
    → types_of v groups ≡ flat_map (λ g. map (λ _. number_in v.types (text_or_object (option_map mention_of g.of_type))) g.variables) groups
types_by_group v groups = map_typed (λ t. number_in v.types (text_or_object t.of_type)) groups
