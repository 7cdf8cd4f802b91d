-- Declared names as they are written and in lower case.
use Rattle.std.proofs.Common.{◌≡◌, List, [], ◌∷◌, ◌++◌, map, option_map, true, false, Option, None, Some, refl, sym, ap, ◌∙◌}
use Rattle.std.specs.Borrow.{Bor}
use Rattle.std.specs.List.{flat_map}
use Rattle.std.proofs.lemmas.List.{map-append}
use Rattle.hddl_words.specs.Names.{Name}
use Rattle.hddl_words.specs.declared.term.VariableGroup.{VariableGroup}
use Rattle.hddl_words.specs.declared.domain.DomainText.{DomainText}
use Rattle.hddl_words.specs.declared.network.NetworkText.{NetworkText}
use Rattle.hddl_words.specs.declared.network.SubtaskText.{SubtaskText}
use Rattle.hddl_meaning.specs.Mentions.{Typed, folded, texts, typed_variables, variable_mention, mention_of}
use Rattle.hddl_meaning.specs.Names.{optional_mention}
use Rattle.hddl_meaning.specs.Uses.{parameters_of, quantified_of}
use Rattle.hddl_meaning.specs.Items.{label_mentions}
use Rattle.pair_messages.specs.declared.stands.InForce.{InForce}
use Rattle.pair_messages.specs.declared.stands.Kind.{Kind}
use Rattle.pair_messages.specs.declared.stands.Kind.TheVariants as kind
use Rattle.pair_messages.specs.Bindings.{variables_in}
use Rattle.pair_messages.specs.Offers.{declared_of_kind, label_text, label_texts, names_of_kind, variable_texts}
use Rattle.pair_messages.specs.Stands.{in_force, section_parameters}

-- one function after the other
pub map_map : {X Y Z : Type 0} (f : Y → Z) (g : X → Y) (xs : List X) → map f (map g xs) ≡ map (λ x. f (g x)) xs
map_map f g [] = refl
map_map f g (x ∷ xs) = ap (λ l. f (g x) ∷ l) (map_map f g xs)

-- the names of a kind in lower case
pub kind_folded : (d : DomainText) (k : Kind) → map folded (names_of_kind d k) ≡ declared_of_kind d k
kind_folded d kind.Predicate = map_map folded (λ x. x.name.text) d.predicates
kind_folded d kind.Compound = map_map folded (λ x. x.name.text) d.tasks
kind_folded d kind.Task =
    map-append folded (map (λ x. x.name.text) d.tasks) (map (λ x. x.name.text) d.actions)
    ∙ (λ i. map_map folded (λ x. x.name.text) d.tasks i ++ map_map folded (λ x. x.name.text) d.actions i)

one_label : (o : Option Name) → map folded (label_text o) ≡ texts (optional_mention o)
one_label None = refl
one_label (Some x) = refl

some_labels : (ss : List SubtaskText) → map folded (flat_map (λ s. label_text s.label) ss) ≡ texts (flat_map (λ s. optional_mention s.label) ss)
some_labels [] = refl
some_labels (s ∷ ss) =
    map-append folded (label_text s.label) (flat_map (λ s. label_text s.label) ss)
    ∙ (λ i. one_label s.label i ++ some_labels ss i)
    ∙ sym (map-append (λ m. m.text) (optional_mention s.label) (flat_map (λ s. optional_mention s.label) ss))

-- the labels of a network in lower case
pub labels_folded : (n : NetworkText) → map folded (label_texts n) ≡ texts (label_mentions n)
labels_folded n = some_labels n.subtasks

-- the variables of a group, as they are declared
abbrev own : VariableGroup → List Typed
own g = map (λ x. record { mention = variable_mention x; of_type = option_map mention_of g.of_type }) g.variables

-- the variables of a typed list in lower case
pub typed_folded : (groups : List VariableGroup) → map folded (variables_in groups) ≡ map (λ t. t.mention.text) (typed_variables groups)
typed_folded [] = refl
typed_folded (g ∷ gs) =
    map-append folded (map (λ x. x.text) g.variables) (variables_in gs)
    ∙ (λ i. map_map folded (λ x. x.text) g.variables i ++ typed_folded gs i)
    ∙ (λ i. sym (map_map (λ (t : Typed). t.mention.text) (λ x. record { mention = variable_mention x; of_type = option_map mention_of g.of_type }) g.variables) i ++ map (λ t. t.mention.text) (typed_variables gs))
    ∙ sym (map-append (λ t. t.mention.text) (own g) (typed_variables gs))

-- those of parameters
pub parameters_folded : (groups : List VariableGroup) → map folded (variables_in groups) ≡ variable_texts (parameters_of groups)
parameters_folded groups = typed_folded groups ∙ sym (map_map (λ v. v.typed.mention.text) (λ t. record { typed = t; is_quantified = false }) (typed_variables groups))

-- those of a `forall`
pub quantified_folded : (groups : List VariableGroup) → map folded (variables_in groups) ≡ variable_texts (quantified_of groups)
quantified_folded groups = typed_folded groups ∙ sym (map_map (λ v. v.typed.mention.text) (λ t. record { typed = t; is_quantified = true }) (typed_variables groups))

-- those of each `forall` around
all_quantified : (gs : List (Bor (List VariableGroup))) → map folded (flat_map (λ g. variables_in g.now) gs) ≡ variable_texts (flat_map (λ g. quantified_of g.now) gs)
all_quantified [] = refl
all_quantified (g ∷ gs) =
    map-append folded (variables_in g.now) (flat_map (λ g. variables_in g.now) gs)
    ∙ (λ i. quantified_folded g.now i ++ all_quantified gs i)
    ∙ sym (map-append (λ v. v.typed.mention.text) (quantified_of g.now) (flat_map (λ g. quantified_of g.now) gs))

-- the variables in force in lower case
pub force_folded : (scope : InForce) → map folded (variables_in (section_parameters scope.section) ++ flat_map (λ g. variables_in g.now) scope.quantified.items) ≡ variable_texts (in_force scope)
force_folded scope =
    map-append folded (variables_in (section_parameters scope.section)) (flat_map (λ g. variables_in g.now) scope.quantified.items)
    ∙ (λ i. parameters_folded (section_parameters scope.section) i ++ all_quantified scope.quantified.items i)
    ∙ sym (map-append (λ v. v.typed.mention.text) (parameters_of (section_parameters scope.section)) (flat_map (λ g. quantified_of g.now) scope.quantified.items))
