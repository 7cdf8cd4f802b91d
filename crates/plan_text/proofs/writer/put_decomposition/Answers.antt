use Rattle.std.proofs.Common.{◌≡◌, [], ◌∷◌, ◌++◌, ◌+◌, map, take, drop, refl, sym, ap, ◌∙◌, append_assoc}
use Rattle.std.proofs.lemmas.Result.{err_from_is_err_and}
use Rattle.plan_text.proofs.Taken.{appends_none, appends_more, fails_after, finishes, decomposition_is}
use Rattle.plan_text.specs.Written.{spaced, line_of, action_words, root_words, decomposition_words}
use Rattle.plan_text.specs.Parts.{head_text, tail_text, action_text, decomposition_text}
use Rattle.std.specs.List.{flat_map}
use Rattle.std.specs.Fmt.{decimal}
use Rattle.std.specs.Prelude.{codes}
use Rattle.plan_text.proofs.writer.put_decomposition.Goals as goal

pub returns-in_err-put_head : goal.returns-in_err-put_head
returns-in_err-put_head g c =
    let p = err_from_is_err_and c.from_residual.result c.from_residual.ensures.1 in
    let taken = rw (c.id.ensures, c.task.ensures, c.arguments.ensures) at c.in_err-put_head.ensures.0 in
    rw p.1 (fails_after _ _ _ [] (head_text c.args.line.now.id c.args.line.now.task c.args.line.now.arguments) (tail_text c.args.line.now.method c.args.line.now.children ++ 10 ∷ []) _ (appends_none _) taken (decomposition_is c.args.line.now ∙ append_assoc (head_text c.args.line.now.id c.args.line.now.task c.args.line.now.arguments) (tail_text c.args.line.now.method c.args.line.now.children) (10 ∷ [])), c.in_err-put_head.ensures.1)

pub returns-in_err-put_tail : goal.returns-in_err-put_tail
returns-in_err-put_tail g c =
    let p = err_from_is_err_and c.from_residual-in_err-put_tail.result c.from_residual-in_err-put_tail.ensures.1 in
    let taken = rw (c.id.ensures, c.task.ensures, c.arguments.ensures) at c.in_ok-put_head.ensures.0 in
    let more = rw (c.method.ensures, c.children.ensures) at c.in_err-put_tail.ensures.0 in
    rw p.1 (fails_after _ _ _ (head_text c.args.line.now.id c.args.line.now.task c.args.line.now.arguments) (tail_text c.args.line.now.method c.args.line.now.children) (10 ∷ []) _ taken more (decomposition_is c.args.line.now ∙ append_assoc (head_text c.args.line.now.id c.args.line.now.task c.args.line.now.arguments) (tail_text c.args.line.now.method c.args.line.now.children) (10 ∷ [])), c.in_err-put_tail.ensures.1)

pub returns : goal.returns
returns g c =
    let taken = rw (c.id.ensures, c.task.ensures, c.arguments.ensures) at c.in_ok-put_head.ensures.0 in
    let more = rw (c.method.ensures, c.children.ensures) at c.in_ok-put_tail.ensures.0 in
    finishes _ _ _ _ _ _ c.put_all.result (head_text c.args.line.now.id c.args.line.now.task c.args.line.now.arguments ++ tail_text c.args.line.now.method c.args.line.now.children) (10 ∷ []) _ (appends_more _ _ _ _ _ taken more) (c.in_ok-put_tail.ensures.1 ∙ c.in_ok-put_head.ensures.1) c.put_all.ensures (decomposition_is c.args.line.now)
