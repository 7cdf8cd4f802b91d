use Rattle.std.proofs.Common.{◌+◌, ◌∷◌, [], ◌++◌, take, sym, ap, subst}
use Rattle.htn_task.specs.Literals.{literal_of, literals_of}
use Rattle.plan_causes.specs.Causes.{AreStandings, StandsIn}
use Rattle.plan_causes.proofs.Standings.{literal_more, stands_more}
use Rattle.plan_causes.proofs.standing.standings_in.Goals as goal

pub loop-literal-preserved : goal.loop-literal-preserved
loop-literal-preserved c =
    let stands = StandsIn c.args.turns.now c.args.gap in
    let i = c.loop-literal.literal-index in
    let literals = c.args.literals.now in
    subst (λ ss. AreStandings stands (literals_of (take (i + 1) literals)) ss) (sym c.in_ok-push.ensures.items)
    (subst (λ ls. AreStandings stands ls (c.loop-literal.standings.items ++ c.standing_in.result ∷ [])) (sym (literal_more literals i c.literal-item.result c.loop-literal-test.true c.literal-item.is))
    (stands_more stands (literals_of (take i literals)) c.loop-literal.standings.items (literal_of c.literal-item.result) c.standing_in.result c.loop-literal.invariant c.standing_in.ensures))
