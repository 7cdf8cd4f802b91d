use Rattle.std.proofs.Common.{◌≡◌, ◌∙◌, List, Some, ap, length, option_map, refl, slice_get, sym}
use Rattle.std.proofs.lemmas.Option.{slice_get-map, slice_get_read}
use Rattle.htn_model.specs.Schema.{Formula}
use Rattle.htn_task.specs.Formulas.{formula_of}
use Rattle.plan_lines.specs.Words.{Fails}
use Rattle.plan_lines.proofs.Firsts.{none_more}
use Rattle.plan_lines.proofs.action.first_failing.Goals as goal

pub loop-number-preserved : goal.loop-number-preserved
loop-number-preserved c =
    let formulas = c.args.formulas.now in
    let parts = c.as_slice-parts.result.now in
    let i = c.loop-number.number in
    let f = formula_of c.index-parts-number.result in
    let at : slice_get formulas i ≡ Some f =
    ap (λ (fs : List Formula). slice_get fs i) (sym c.as_slice-parts.ensures) ∙ slice_get-map formula_of parts i
    ∙ ap (option_map formula_of) (slice_get_read parts (length parts) i c.index-parts-number.result refl c.loop-number-test.true c.index-parts-number.is) in
    none_more (Fails c.args.values.now) formulas i f c.loop-number.invariant at (λ has. (let is = c.if-fails.ensures in absurd cc))
