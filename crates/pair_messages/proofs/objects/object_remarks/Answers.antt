use Rattle.std.proofs.Common.{◌∙◌, ◌∷◌, [], ℕ, List, IfSome, Option, inl, inr, subst}
use Rattle.std.specs.Borrow.{Bor}
use Rattle.std.proofs.lemmas.List.Elements.{All-cons, All-nil, All-same, All-weaker}
use Rattle.hddl_meaning.specs.Names.{object_names}
use Rattle.diagnostics.specs.Offers.{offered}
use Rattle.pair_messages.specs.Offers.{IsNearest, IsVariableOf, MayBeObject}
use Rattle.pair_messages.specs.Stands.{in_force}
use Rattle.pair_messages.proofs.objects.object_remarks.Goals as goal

pub returns-in-Some : goal.returns-in-Some
returns-in-Some c =
    let word = c.args.word.now in
    let t = c.args.index.now.texts.now in
    let variables = in_force c.args.scope.now in
    let name = c.in-Some.variable.now in
    let P = MayBeObject t.domain_tree.now t.problem_tree.now variables word in
    let is = subst (λ (o : Option (Bor (List ℕ))). IfSome o (λ name. IsVariableOf variables word name.now)) c.in-Some.is c.in_ok-found.ensures in
    All-same P _ (name ∷ []) (c.in_ok-remarks.ensures ∙ c.in_ok-question.ensures) (All-cons P name [] (inr is) (All-nil P))

pub returns : goal.returns
returns c =
    let word = c.args.word.now in
    let t = c.args.index.now.texts.now in
    All-weaker (IsNearest word (object_names t.domain_tree.now t.problem_tree.now)) (MayBeObject t.domain_tree.now t.problem_tree.now (in_force c.args.scope.now) word) (λ name h. inl h)
    (offered c.in_ok-remarks-2.remarks.items) c.in_ok-remarks-2.ensures
