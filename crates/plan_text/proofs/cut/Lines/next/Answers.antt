use Rattle.std.proofs.Common.{sym, ◌∙◌}
use Rattle.plan_text.proofs.Cutting.{lines_next, lines_last}
use Rattle.plan_text.proofs.cut.Lines.next.Goals as goal

pub returns-in-Some : goal.returns-in-Some
returns-in-Some c = sym c.self.view_is ∙ lines_next _ _ _ _ c.if-self-eq0.false c.in-Some.ensures

pub returns-in-None : goal.returns-in-None
returns-in-None c = sym c.self.view_is ∙ lines_last _ _ _ c.if-self-eq0.false c.in-None.ensures
