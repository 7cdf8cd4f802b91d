use Rattle.std.proofs.Common.{[], ◌++◌, append_assoc, refl, sym, ◌∙◌}
use Rattle.std.specs.Prelude.{codes}
use Rattle.std.proofs.lemmas.Result.{err_from_is_err_and}
use Rattle.plan_text.proofs.Taken.{appends_none, appends_more, fails_after, finishes, grouped}
use Rattle.htn_run.specs.Lines.{place_text}
use Rattle.htn_run.proofs.fault_line.put_fault_line.Goals as goal

pub returns-in_err-put_all : goal.returns-in_err-put_all
returns-in_err-put_all g c =
    let p = err_from_is_err_and c.from_residual.result c.from_residual.ensures.1 in
    rw p.1 (fails_after _ _ _ [] c.args.of.now (c.args.name.now ++ (place_text c.args.place ++ codes "\n")) _ (appends_none _) c.in_err-put_all.ensures.0 refl, c.in_err-put_all.ensures.1)

pub returns-in_err-put_all-2 : goal.returns-in_err-put_all-2
returns-in_err-put_all-2 g c =
    let p = err_from_is_err_and c.from_residual-in_err-put_all-2.result c.from_residual-in_err-put_all-2.ensures.1 in
    rw p.1 (fails_after _ _ _ c.args.of.now c.args.name.now (place_text c.args.place ++ codes "\n") _ c.in_ok-put_all.ensures.0 c.in_err-put_all-2.ensures.0 refl, c.in_err-put_all-2.ensures.1)

pub returns-in_err-put_place : goal.returns-in_err-put_place
returns-in_err-put_place g c =
    let p = err_from_is_err_and c.from_residual-in_err-put_place.result c.from_residual-in_err-put_place.ensures.1 in
    let before = appends_more _ _ _ _ _ c.in_ok-put_all.ensures.0 c.in_ok-put_all-2.ensures.0 in
    rw p.1 (fails_after _ _ _ (c.args.of.now ++ c.args.name.now) (place_text c.args.place) (codes "\n") _ before c.in_err-put_place.ensures.0 (sym (append_assoc c.args.of.now c.args.name.now (place_text c.args.place ++ codes "\n"))), c.in_err-put_place.ensures.1)

pub returns : goal.returns
returns g c =
    let two = appends_more _ _ _ _ _ c.in_ok-put_all.ensures.0 c.in_ok-put_all-2.ensures.0 in
    finishes _ _ _ _ _ _ c.put_all-3.result (c.args.of.now ++ c.args.name.now ++ place_text c.args.place) (codes "\n") _
    (appends_more _ _ _ _ _ two c.in_ok-put_place.ensures.0)
    (c.in_ok-put_place.ensures.1 ∙ c.in_ok-put_all-2.ensures.1 ∙ c.in_ok-put_all.ensures.1) c.put_all-3.ensures
    (grouped c.args.of.now c.args.name.now (place_text c.args.place) (codes "\n"))
