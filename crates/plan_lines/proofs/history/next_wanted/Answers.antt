use Rattle.std.proofs.Common.{sym, ◌∙◌}
use Rattle.std.specs.Bool.{beq}
use Rattle.plan_lines.specs.Turns.{is_true_in}
use Rattle.plan_lines.proofs.Truths.{beq_same, beq_other, next_here, next_turn, next_up_to, no_turn, none_up_to}
use Rattle.plan_lines.proofs.history.next_wanted.Goals as goal

pub returns-then-is_turned-wanted : goal.returns-then-is_turned-wanted
returns-then-is_turned-wanted c =
    let turns = c.args.turns.now in
    next_up_to (λ k. beq (is_true_in c.args.first turns k) c.args.wanted) c.args.from c.args.last c.args.from
    (next_here c.args.first turns c.args.wanted c.args.from c.count_passed-passed.result c.count_passed-passed.ensures
    (sym c.is_turned.ensures ∙ beq_same _ _ c.if-is_turned-wanted.true)) c.requires.within

pub returns-then-turns-passed : goal.returns-then-turns-passed
returns-then-turns-passed c k after before =
    no_turn c.args.first c.args.turns.now c.args.wanted c.args.from c.count_passed-passed.result c.requires.rising.0 c.requires.rising.1 c.count_passed-passed.ensures
    (λ same. beq_other _ _ c.if-is_turned-wanted.false (c.is_turned.ensures ∙ same)) c.if-turns-passed.true k after

pub returns-then-last-turn : goal.returns-then-last-turn
returns-then-last-turn c =
    let turns = c.args.turns.now in
    none_up_to (λ k. beq (is_true_in c.args.first turns k) c.args.wanted) c.args.from c.args.last _
    (next_turn c.args.first turns c.args.wanted c.args.from c.count_passed-passed.result c.requires.rising.0 c.requires.rising.1 c.count_passed-passed.ensures
    (λ same. beq_other _ _ c.if-is_turned-wanted.false (c.is_turned.ensures ∙ same)) c.if-turns-passed.false) c.if-last-turn.true

pub returns-else-last-turn : goal.returns-else-last-turn
returns-else-last-turn c =
    let turns = c.args.turns.now in
    next_up_to (λ k. beq (is_true_in c.args.first turns k) c.args.wanted) c.args.from c.args.last _
    (next_turn c.args.first turns c.args.wanted c.args.from c.count_passed-passed.result c.requires.rising.0 c.requires.rising.1 c.count_passed-passed.ensures
    (λ same. beq_other _ _ c.if-is_turned-wanted.false (c.is_turned.ensures ∙ same)) c.if-turns-passed.false) c.if-last-turn.false
