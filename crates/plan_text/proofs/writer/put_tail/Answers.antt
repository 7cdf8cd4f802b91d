use Rattle.std.proofs.Common.{◌≡◌, [], ◌∷◌, ◌++◌, ◌+◌, map, take, drop, refl, sym, ap, ◌∙◌, append_assoc}
use Rattle.std.proofs.lemmas.Result.{err_from_is_err_and}
use Rattle.plan_text.proofs.Taken.{appends_none, appends_more, fails_after, finishes}
use Rattle.plan_text.specs.Written.{spaced, line_of, action_words, root_words, decomposition_words}
use Rattle.plan_text.specs.Parts.{head_text, tail_text, action_text, decomposition_text}
use Rattle.std.specs.List.{flat_map}
use Rattle.std.specs.Fmt.{decimal}
use Rattle.std.specs.Prelude.{codes}
use Rattle.plan_text.proofs.writer.put_tail.Goals as goal

pub returns-in_err-put_spaced : goal.returns-in_err-put_spaced
returns-in_err-put_spaced g c =
    let p = err_from_is_err_and c.from_residual.result c.from_residual.ensures.1 in
    rw p.1 (fails_after _ _ _ [] (32 ∷ 45 ∷ 62 ∷ []) (spaced c.args.method.now ++ flat_map spaced (map decimal c.args.children.now)) _ (appends_none _) c.in_err-put_spaced.ensures.0 refl, c.in_err-put_spaced.ensures.1)

pub returns-in_err-put_spaced-2 : goal.returns-in_err-put_spaced-2
returns-in_err-put_spaced-2 g c =
    let p = err_from_is_err_and c.from_residual-in_err-put_spaced-2.result c.from_residual-in_err-put_spaced-2.ensures.1 in
    let taken = rw c.as_bytes.ensures at c.in_err-put_spaced-2.ensures.0 in
    rw p.1 (fails_after _ _ _ (32 ∷ 45 ∷ 62 ∷ []) (spaced c.args.method.now) (flat_map spaced (map decimal c.args.children.now)) _ c.in_ok-put_spaced.ensures.0 taken refl, c.in_err-put_spaced-2.ensures.1)

pub returns : goal.returns
returns g c =
    let taken = rw c.as_bytes.ensures at c.in_ok-put_spaced-2.ensures.0 in
    finishes _ _ _ _ _ _ c.put_numbers.result ((32 ∷ 45 ∷ 62 ∷ []) ++ spaced c.args.method.now) (flat_map spaced (map decimal c.args.children.now)) _ (appends_more _ _ _ _ _ c.in_ok-put_spaced.ensures.0 taken) (c.in_ok-put_spaced-2.ensures.1 ∙ c.in_ok-put_spaced.ensures.1) c.put_numbers.ensures refl
