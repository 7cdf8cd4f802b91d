use Rattle.std.proofs.Common.{sym, ◌∙◌}
use Rattle.plan_lines.proofs.Truths.{beq_other, beq_same, first_turn, last_here, later_turn}
use Rattle.plan_lines.proofs.history.last_wanted.Goals as goal

pub returns-then-is_turned-wanted : goal.returns-then-is_turned-wanted
returns-then-is_turned-wanted c =
    last_here c.args.first c.args.turns.now c.args.wanted c.args.gap c.count_passed-passed.result c.count_passed-passed.ensures
    (sym c.is_turned.ensures ∙ beq_same _ _ c.if-is_turned-wanted.true)

pub returns-then-turn-eq0 : goal.returns-then-turn-eq0
returns-then-turn-eq0 c =
    first_turn c.args.first c.args.turns.now c.args.wanted c.args.gap c.count_passed-passed.result c.requires.0 c.requires.1 c.count_passed-passed.ensures
    (λ same. beq_other _ _ c.if-is_turned-wanted.false (c.is_turned.ensures ∙ same)) c.if-passed-eq0.false c.if-turn-eq0.true

pub returns-else-turn-eq0 : goal.returns-else-turn-eq0
returns-else-turn-eq0 c =
    later_turn c.args.first c.args.turns.now c.args.wanted c.args.gap c.count_passed-passed.result c.requires.0 c.requires.1 c.count_passed-passed.ensures
    (λ same. beq_other _ _ c.if-is_turned-wanted.false (c.is_turned.ensures ∙ same)) c.if-passed-eq0.false c.if-turn-eq0.false
