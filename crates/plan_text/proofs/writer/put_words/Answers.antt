use Rattle.std.proofs.Common.{◌≡◌, ◌+◌, get_or, [], ◌∷◌, ◌++◌, map, take, drop, refl, sym, ap, ◌∙◌, append_assoc}
use Rattle.std.proofs.lemmas.Result.{err_from_is_err_and}
use Rattle.plan_text.proofs.Taken.{fails_after, text_at}
use Rattle.plan_text.specs.Written.{spaced}
use Rattle.std.specs.List.{flat_map}
use Rattle.std.specs.Fmt.{decimal}
use Rattle.std.specs.Prelude.{codes}
use Rattle.plan_text.proofs.writer.put_words.Goals as goal

pub returns-in_err-put_spaced : goal.returns-in_err-put_spaced
returns-in_err-put_spaced g c =
    let words = c.args.words.now in
    let i = c.loop-word.word-index in
    let word = c.word-item.result in
    let p = err_from_is_err_and c.from_residual.result c.from_residual.ensures.1 in
    let taken = rw c.as_bytes.ensures at c.in_err-put_spaced.ensures.0 in
    rw p.1 (fails_after _ _ _ (flat_map spaced (take i words)) (spaced word) (flat_map spaced (drop (i + 1) words)) _ c.loop-word.invariant.taken taken (text_at spaced words i word c.loop-word-test.true c.word-item.is), c.in_err-put_spaced.ensures.1)
