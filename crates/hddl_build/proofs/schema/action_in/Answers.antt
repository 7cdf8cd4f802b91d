use Rattle.std.proofs.Common.{◌≡◌, ◌∙◌, List, not, ap, ap₂}
use Rattle.hddl_words.specs.declared.condition.Condition.{Condition}
use Rattle.hddl_words.specs.declared.condition.LiteralText.{LiteralText}
use Rattle.hddl_words.specs.declared.term.VariableGroup.{VariableGroup}
use Rattle.hddl_meaning.specs.Mentions.{Text}
use Rattle.hddl_meaning.specs.Building.{effects_of, formulas_of, types_of, variables_of}
use Rattle.hddl_build.proofs.schema.action_in.Goals as goal

pub returns : goal.returns
returns c =
    let v = c.args.vocabulary.now in
    let a = c.args.action.now in
    let scope : c.args.scope.now ≡ variables_of a.parameters = c.requires.in_force in
    let after : c.formulas_of.new.scope ≡ variables_of a.parameters = c.in_ok-precondition.ensures.kept ∙ scope in
    let parameters : c.in_ok-head.head.1.items ≡ types_of v a.parameters = c.in_ok-head.ensures.types ∙ ap (λ (l : List VariableGroup). types_of v l) c.as_slice-4.ensures in
    let precondition : c.in_ok-precondition.precondition ≡ formulas_of v (variables_of a.parameters) a.precondition =
    c.in_ok-precondition.ensures.value ∙ ap₂ (λ (names : List Text) (l : List Condition). formulas_of v names l) scope c.as_slice.ensures in
    let deletes : c.in_ok-deletes.deletes.items ≡ effects_of v (variables_of a.parameters) not a.effect =
    c.in_ok-deletes.ensures ∙ ap₂ (λ (names : List Text) (l : List LiteralText). effects_of v names not l) after c.as_slice-2.ensures in
    let adds : c.in_ok-adds.adds.items ≡ effects_of v (variables_of a.parameters) (λ b. b) a.effect =
    c.in_ok-adds.ensures ∙ ap₂ (λ (names : List Text) (l : List LiteralText). effects_of v names (λ b. b) l) after c.as_slice-3.ensures in
    c.new.ensures
    ∙ (λ i. record { name = c.in_ok-head.ensures.name i; parameters = parameters i; precondition = precondition i; deletes = deletes i; adds = adds i })
