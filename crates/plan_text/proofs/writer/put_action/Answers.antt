use Rattle.std.proofs.Common.{◌≡◌, [], ◌∷◌, ◌++◌, ◌+◌, map, take, drop, refl, sym, ap, ◌∙◌, append_assoc}
use Rattle.std.proofs.lemmas.Result.{err_from_is_err_and}
use Rattle.plan_text.proofs.Taken.{appends_none, fails_after, finishes}
use Rattle.plan_text.specs.Written.{spaced, line_of, action_words, root_words, decomposition_words}
use Rattle.plan_text.specs.Parts.{head_text, tail_text, action_text, decomposition_text}
use Rattle.std.specs.List.{flat_map}
use Rattle.std.specs.Fmt.{decimal}
use Rattle.std.specs.Prelude.{codes}
use Rattle.plan_text.proofs.writer.put_action.Goals as goal

pub returns-in_err-put_head : goal.returns-in_err-put_head
returns-in_err-put_head g c =
    let p = err_from_is_err_and c.from_residual.result c.from_residual.ensures.1 in
    let taken = rw (c.id.ensures, c.name.ensures, c.arguments.ensures) at c.in_err-put_head.ensures.0 in
    rw p.1 (fails_after _ _ _ [] (head_text c.args.line.now.id c.args.line.now.name c.args.line.now.arguments) (10 ∷ []) _ (appends_none _) taken refl, c.in_err-put_head.ensures.1)

pub returns : goal.returns
returns g c =
    let taken = rw (c.id.ensures, c.name.ensures, c.arguments.ensures) at c.in_ok-put_head.ensures.0 in
    finishes _ _ _ _ _ _ c.put_all.result (head_text c.args.line.now.id c.args.line.now.name c.args.line.now.arguments) (10 ∷ []) _ taken c.in_ok-put_head.ensures.1 c.put_all.ensures refl
