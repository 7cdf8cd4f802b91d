use Rattle.std.proofs.Common.{◌≡◌, [], ◌∷◌, ◌++◌, ◌+◌, map, take, drop, refl, sym, ap, ◌∙◌, append_assoc}
use Rattle.std.proofs.lemmas.Result.{err_from_is_err_and}
use Rattle.plan_text.proofs.Taken.{appends_none, appends_more, fails_after, finishes}
use Rattle.plan_text.specs.Written.{spaced, line_of, action_words, root_words, decomposition_words}
use Rattle.plan_text.specs.Parts.{head_text, tail_text, action_text, decomposition_text}
use Rattle.std.specs.List.{flat_map}
use Rattle.std.specs.Fmt.{decimal}
use Rattle.std.specs.Prelude.{codes}
use Rattle.plan_text.proofs.writer.put_roots.Goals as goal

pub returns-in_err-put_all : goal.returns-in_err-put_all
returns-in_err-put_all g c =
    let p = err_from_is_err_and c.from_residual.result c.from_residual.ensures.1 in
    rw p.1 (fails_after _ _ _ [] (codes "root") (flat_map spaced (map decimal c.args.roots.now) ++ 10 ∷ []) _ (appends_none _) c.in_err-put_all.ensures.0 refl, c.in_err-put_all.ensures.1)

pub returns-in_err-put_numbers : goal.returns-in_err-put_numbers
returns-in_err-put_numbers g c =
    let p = err_from_is_err_and c.from_residual-in_err-put_numbers.result c.from_residual-in_err-put_numbers.ensures.1 in
    rw p.1 (fails_after _ _ _ (codes "root") (flat_map spaced (map decimal c.args.roots.now)) (10 ∷ []) _ c.in_ok-put_all.ensures.0 c.in_err-put_numbers.ensures.0 refl, c.in_err-put_numbers.ensures.1)

pub returns : goal.returns
returns g c =
    finishes _ _ _ _ _ _ c.put_all-2.result (codes "root" ++ flat_map spaced (map decimal c.args.roots.now)) (10 ∷ []) _ (appends_more _ _ _ _ _ c.in_ok-put_all.ensures.0 c.in_ok-put_numbers.ensures.0) (c.in_ok-put_numbers.ensures.1 ∙ c.in_ok-put_all.ensures.1) c.put_all-2.ensures refl
