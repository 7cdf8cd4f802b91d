use Rattle.std.proofs.Common.{◌≡◌, [], ◌∷◌, ◌++◌, ◌+◌, map, take, drop, refl, sym, ap, ◌∙◌, append_assoc}
use Rattle.std.proofs.lemmas.Result.{err_from_is_err_and}
use Rattle.plan_text.proofs.Taken.{fails_after, text_at}
use Rattle.plan_text.specs.Written.{spaced, line_of, action_words, root_words, decomposition_words}
use Rattle.plan_text.specs.Parts.{head_text, tail_text, action_text, decomposition_text}
use Rattle.std.specs.List.{flat_map}
use Rattle.std.specs.Fmt.{decimal}
use Rattle.std.specs.Prelude.{codes}
use Rattle.plan_text.proofs.writer.put_actions.Goals as goal

pub returns-in_err-put_action : goal.returns-in_err-put_action
returns-in_err-put_action g c =
    let lines = c.args.lines.now in
    let i = c.loop-line.line-index in
    let line = c.line-item.result in
    let p = err_from_is_err_and c.from_residual.result c.from_residual.ensures.1 in
    rw p.1 (fails_after _ _ _ (flat_map action_text (take i lines)) (action_text line) (flat_map action_text (drop (i + 1) lines)) _ c.loop-line.invariant.taken c.in_err-put_action.ensures.0 (text_at action_text lines i line c.loop-line-test.true c.line-item.is), c.in_err-put_action.ensures.1)
