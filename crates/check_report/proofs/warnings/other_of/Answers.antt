use Rattle.std.proofs.Common.{◌∷◌, ◌++◌, [], subst, sym}
use Rattle.std.specs.Option.{MatchOption}
use Rattle.hddl_warnings.specs.Warnings.{IsOtherDomain}
use Rattle.hddl_warnings.specs.declared.warning.Warning.{Warning}
use Rattle.check_report.specs.Texts.{AreExactly}
use Rattle.check_report.proofs.Warned.{no_other, one_other}
use Rattle.check_report.proofs.warnings.other_of.Goals as goal

pub returns-in_default : goal.returns-in_default
returns-in_default c =
    let d = c.args.texts.now.domain_tree.now in
    let p = c.args.texts.now.problem_tree.now in
    let none : (w : Warning) → IsOtherDomain d p w → ⊥ =
    subst (λ o. MatchOption o ((w : Warning) → IsOtherDomain d p w → ⊥) (IsOtherDomain d p)) c.in_default.is c.in_ok-warning.ensures in
    subst (AreExactly (IsOtherDomain d p)) (sym c.new-warnings.ensures.items) (no_other d p none)

pub returns : goal.returns
returns c =
    let d = c.args.texts.now.domain_tree.now in
    let p = c.args.texts.now.problem_tree.now in
    let holds : IsOtherDomain d p c.in-Some.warning =
    subst (λ o. MatchOption o ((w : Warning) → IsOtherDomain d p w → ⊥) (IsOtherDomain d p)) c.in-Some.is c.in_ok-warning.ensures in
    let one = subst (λ xs. AreExactly (IsOtherDomain d p) (xs ++ c.in-Some.warning ∷ [])) (sym c.new-warnings.ensures.items) (one_other d p c.in-Some.warning holds) in
    subst (AreExactly (IsOtherDomain d p)) (sym c.in_ok-push.ensures.items) one
