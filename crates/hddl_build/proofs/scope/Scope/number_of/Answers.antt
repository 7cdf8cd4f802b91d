use Rattle.std.proofs.Common.{◌≡◌, ◌∙◌, List, Some, None, ap, sym}
use Rattle.std.specs.List.{position}
use Rattle.hddl_meaning.specs.Mentions.{Text, folded}
use Rattle.hddl_meaning.specs.Names.{number_in, number_or_zero}
use Rattle.hddl_scope.specs.Scopes.{has_text}
use Rattle.hddl_build.proofs.Variables.{text_number}
use Rattle.hddl_build.proofs.scope.Scope.number_of.Goals as goal

pub returns-in-Some : goal.returns-in-Some
returns-in-Some c =
    let text : Text = folded c.args.variable.now.text in
    let asked : c.as_slice.result.now ≡ text = c.as_slice.ensures ∙ c.in_ok-text.ensures ∙ ap folded c.text.ensures.value in
    let found : position (has_text text) c.self.inside.variables ≡ Some c.in-Some.position =
    ap (λ (t : Text). position (has_text t) c.self.inside.variables) (sym asked) ∙ sym c.position.ensures ∙ c.in-Some.is in
    sym (ap number_or_zero found) ∙ text_number c.self.inside.variables text ∙ ap (λ (l : List Text). number_in l text) c.self.view_is

pub returns : goal.returns
returns c =
    let text : Text = folded c.args.variable.now.text in
    let asked : c.as_slice.result.now ≡ text = c.as_slice.ensures ∙ c.in_ok-text.ensures ∙ ap folded c.text.ensures.value in
    let missing : position (has_text text) c.self.inside.variables ≡ None =
    ap (λ (t : Text). position (has_text t) c.self.inside.variables) (sym asked) ∙ sym c.position.ensures ∙ c.in-None.is in
    sym (ap number_or_zero missing) ∙ text_number c.self.inside.variables text ∙ ap (λ (l : List Text). number_in l text) c.self.view_is
