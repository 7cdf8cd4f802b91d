use Rattle.std.proofs.Common.{sym, ◌∙◌, ◌++◌, ◌∷◌, [], subst}
use Rattle.std.proofs.lemmas.Bool.{both_ways}
use Rattle.plan_lines.specs.Turns.{IsRising, IsTurnedOver}
use Rattle.plan_lines.proofs.Truths.{turn_added, turn_undone, all_before, popped}
use Rattle.plan_lines.proofs.history.turn_over.Goals as goal

pub returns-then-is_last : goal.returns-then-is_last
returns-then-is_last c =
    let gap = c.args.gap in
    let old = c.args.turns.now.items in
    let (front, whole) = c.is_last.ensures.0 c.if-is_last.true in
    let is = sym c.deref.ensures.value ∙ whole in
    subst (λ xs. IsTurnedOver xs c.pop.new.self.items gap) (sym is)
    (subst (λ xs. IsTurnedOver (front ++ gap ∷ []) xs gap) (sym (popped front old c.pop.new.self.items gap c.args.turns.now.len is c.args.turns.now.ok.0 c.pop.ensures.rest))
    (turn_undone front gap (subst (IsRising gap) is c.requires)))

pub returns : goal.returns
returns c =
    let turns = c.args.turns.now.items in
    subst (λ new. IsTurnedOver turns new c.args.gap) (sym c.in_ok-push.ensures.items)
    (turn_added turns c.args.gap c.requires
    (all_before turns c.args.gap c.requires (λ front is. both_ways _ c.if-is_last.false (c.is_last.ensures.1 (front, c.deref.ensures.value ∙ is)))))
