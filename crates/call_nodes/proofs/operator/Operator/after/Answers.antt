use Rattle.std.proofs.Common.{◌∙◌, List, Some, false, true, ap, subst, sym, ℕ}
use Rattle.state_table.specs.Table.{state_of}
use Rattle.call_nodes.specs.Nodes.{IsOperator}
use Rattle.call_nodes.proofs.Leading.{step_leads}
use Rattle.call_nodes.proofs.operator.Operator.after.Goals as goal

pub returns-then-not-hold-clause-state : goal.returns-then-not-hold-clause-state
returns-then-not-hold-clause-state c = λ t atoms known l x table is.
    step_leads t atoms known l x (state_of atoms c.args.before.now) c.in-Step.literals false (λ ls compiled. sym c.if-not-hold.true ∙ c.hold.ensures atoms ls table compiled)
    (subst (IsOperator t atoms known l x) c.in-Step.is is)

pub returns-in_ok-same-in-Step-clause-state : goal.returns-in_ok-same-in-Step-clause-state
returns-in_ok-same-in-Step-clause-state c = λ t atoms known l x table is.
    ap (λ (w : List ℕ). Some (state_of atoms w)) c.in_ok-same-in-Step.ensures.cases
    ∙ step_leads t atoms known l x (state_of atoms c.args.before.now) c.in-Step.literals true (λ ls compiled. sym c.if-not-hold.false ∙ c.hold.ensures atoms ls table compiled)
    (subst (IsOperator t atoms known l x) c.in-Step.is is)

pub returns-in_ok-after-in-Action-clause-within : goal.returns-in_ok-after-in-Action-clause-within
returns-in_ok-after-in-Action-clause-within c = λ t atoms known l x is within.
    (let acts = subst (IsOperator t atoms known l x) c.in-Action.is is in c.in_ok-after-in-Action.ensures.within atoms acts.1 acts.4 within)
