use Rattle.std.proofs.Common.{sym, ap, ◌∙◌, cond, not}
use Rattle.std.proofs.lemmas.Bool.{eq-eqb, ne_eqb}
use Rattle.plan_lines.proofs.Truths.{turned_by}
use Rattle.plan_lines.proofs.history.is_turned.Goals as goal

pub returns-then-turns-eq0 : goal.returns-then-turns-eq0
returns-then-turns-eq0 c = sym (ap (λ b. cond b c.args.first (not c.args.first)) (eq-eqb _ 0 c.if-turns-eq0.true)) ∙ turned_by c.args.first c.args.turns

pub returns-else-turns-eq0 : goal.returns-else-turns-eq0
returns-else-turns-eq0 c = sym (ap (λ b. cond b c.args.first (not c.args.first)) (ne_eqb _ 0 c.if-turns-eq0.false)) ∙ turned_by c.args.first c.args.turns
