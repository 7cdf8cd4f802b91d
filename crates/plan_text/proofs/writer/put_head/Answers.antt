use Rattle.std.proofs.Common.{◌≡◌, [], ◌∷◌, ◌++◌, ◌+◌, map, take, drop, refl, sym, ap, ◌∙◌, append_assoc}
use Rattle.std.proofs.lemmas.Result.{err_from_is_err_and}
use Rattle.plan_text.proofs.Taken.{appends_none, appends_more, fails_after, finishes}
use Rattle.plan_text.specs.Written.{spaced, line_of, action_words, root_words, decomposition_words}
use Rattle.plan_text.specs.Parts.{head_text, tail_text, action_text, decomposition_text}
use Rattle.std.specs.List.{flat_map}
use Rattle.std.specs.Fmt.{decimal}
use Rattle.std.specs.Prelude.{codes}
use Rattle.plan_text.proofs.writer.put_head.Goals as goal

pub returns-in_err-put_number : goal.returns-in_err-put_number
returns-in_err-put_number g c =
    let p = err_from_is_err_and c.from_residual.result c.from_residual.ensures.1 in
    rw p.1 (fails_after _ _ _ [] (decimal c.args.id) (spaced c.args.name.now ++ flat_map spaced c.args.arguments.now) _ (appends_none _) c.in_err-put_number.ensures.0 refl, c.in_err-put_number.ensures.1)

pub returns-in_err-put_spaced : goal.returns-in_err-put_spaced
returns-in_err-put_spaced g c =
    let p = err_from_is_err_and c.from_residual-in_err-put_spaced.result c.from_residual-in_err-put_spaced.ensures.1 in
    let taken = rw c.as_bytes.ensures at c.in_err-put_spaced.ensures.0 in
    rw p.1 (fails_after _ _ _ (decimal c.args.id) (spaced c.args.name.now) (flat_map spaced c.args.arguments.now) _ c.in_ok-put_number.ensures.0 taken refl, c.in_err-put_spaced.ensures.1)

pub returns : goal.returns
returns g c =
    let taken = rw c.as_bytes.ensures at c.in_ok-put_spaced.ensures.0 in
    finishes _ _ _ _ _ _ c.put_words.result (decimal c.args.id ++ spaced c.args.name.now) (flat_map spaced c.args.arguments.now) _ (appends_more _ _ _ _ _ c.in_ok-put_number.ensures.0 taken) (c.in_ok-put_spaced.ensures.1 ∙ c.in_ok-put_number.ensures.1) c.put_words.ensures (sym (append_assoc (decimal c.args.id) (spaced c.args.name.now) (flat_map spaced c.args.arguments.now)))
