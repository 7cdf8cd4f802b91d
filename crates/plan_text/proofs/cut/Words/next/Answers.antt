use Rattle.std.proofs.Common.{◌≡◌, ◌∷◌, [], sym, ◌∙◌}
use Rattle.plan_text.proofs.Cutting.{words_none, words_next, words_last}
use Rattle.plan_text.proofs.cut.Words.next.Goals as goal

pub returns-in_err-blanks : goal.returns-in_err-blanks
returns-in_err-blanks c =
    let nothing : c.args.self.now ≡ [] = sym c.self.view_is ∙ words_none c.self.inside.place c.self.inside.rest.now c.in_err-blanks.ensures in
    rw c.from_residual.ensures (nothing, nothing)

pub returns-in-Some : goal.returns-in-Some
returns-in-Some c = sym c.self.view_is ∙ words_next _ _ _ c.in_ok-blanks.ensures _ c.in-Some.ensures

pub returns-in-None : goal.returns-in-None
returns-in-None c = sym c.self.view_is ∙ words_last _ _ _ c.in_ok-blanks.ensures c.in-None.ensures
