use Rattle.std.proofs.Common.{◌≡◌, ◌∙◌, false, subst, sym}
use Rattle.std.proofs.lemmas.List.Folds.{list_all-map, list_all_at}
use Rattle.htn_task.specs.Literals.{literal_of}
use Rattle.htn_task.specs.declared.literal.Literal.{Literal}
use Rattle.heuristics.specs.Facts.{is_possible}
use Rattle.never_applied.specs.Fine.{facts_of}
use Rattle.never_applied.proofs.no_plan.impossible_in.Goals as goal

pub returns-then-not-is_possible : goal.returns-then-not-is_possible
returns-then-not-is_possible c = λ _.
    let test = λ (x : Literal). is_possible (facts_of c.args.facts.now) (literal_of x) in
    list_all-map (is_possible (facts_of c.args.facts.now)) literal_of c.args.literals.now
    ∙ list_all_at test c.args.literals.now c.loop-literal.literal-index c.literal-item.result c.loop-literal-test.true
    (subst (λ (x : Literal). test x ≡ false) c.literal-item.is (sym c.is_possible.ensures ∙ c.if-not-is_possible.true))
