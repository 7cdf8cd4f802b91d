use Rattle.std.proofs.Common.{◌≡◌, ◌+◌, get_or, [], ◌∷◌, ◌++◌, map, take, drop, refl, sym, ap, ◌∙◌, append_assoc}
use Rattle.std.proofs.lemmas.Result.{err_from_is_err_and}
use Rattle.plan_text.proofs.Taken.{fails_after, numbers_at}
use Rattle.plan_text.specs.Written.{spaced}
use Rattle.std.specs.List.{flat_map}
use Rattle.std.specs.Fmt.{decimal}
use Rattle.std.specs.Prelude.{codes}
use Rattle.plan_text.proofs.writer.put_numbers.Goals as goal

pub returns-in_err-put_spaced_number : goal.returns-in_err-put_spaced_number
returns-in_err-put_spaced_number g c =
    let numbers = c.args.numbers.now in
    let i = c.loop-number.number-index in
    let p = err_from_is_err_and c.from_residual.result c.from_residual.ensures.1 in
    rw p.1 (fails_after _ _ _ (flat_map spaced (map decimal (take i numbers))) (spaced (decimal (get_or numbers i 0))) (flat_map spaced (map decimal (drop (i + 1) numbers))) _ c.loop-number.invariant.taken c.in_err-put_spaced_number.ensures.0 (numbers_at numbers i c.loop-number-test.true), c.in_err-put_spaced_number.ensures.1)
