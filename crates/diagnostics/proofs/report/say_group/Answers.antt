use Rattle.std.proofs.Common.{◌≡◌, ◌+◌, ◌++◌, length, get_or, drop, refl, ap, sym, ◌∙◌, map}
use Rattle.std.proofs.lemmas.List.{take_rest}
use Rattle.std.proofs.lemmas.Option.{slice_get_read}
use Rattle.diagnostics.specs.Groups.{picked}
use Rattle.diagnostics.specs.Ink.{written}
use Rattle.diagnostics.specs.Written.{group_inks, whole_inks}
use Rattle.diagnostics.proofs.Joins.{picked_more_none, picked_first, slice_get_past}
use Rattle.diagnostics.proofs.report.say_group.Goals as goal

pub returns-in-Some : goal.returns-in-Some
returns-in-Some c =
    let ds = c.args.diagnostics.now in
    let ns = c.args.indices.now in
    let k = c.loop-at.at in
    let d = c.in-Some.diagnostic.now in
    let is = slice_get_read ds (length ds) (get_or ns k 0) d refl c.in-Some.ensures.lookup.3.0 c.in-Some.ensures.lookup.1 in
    let first = picked_first ds ns k c.loop-at-test.true d c.loop-at.invariant.0 is in
    let also : c.as_slice.result.now ≡ map (λ x. x.about) (picked ds (drop (k + 1) ns)) = c.as_slice.ensures.value ∙ c.in_ok-also.ensures ∙ ap (λ l. map (λ x. x.about) (picked ds l)) (take_rest ns (k + 1)) in
    c.in_ok-say_whole.ensures ∙ ap (λ l. l ++ written c.args.colour (whole_inks d c.as_slice.result.now)) c.loop-at.invariant.1
    ∙ ap (λ l. c.args.out.now.items ++ written c.args.colour (whole_inks d l)) also
    ∙ ap (λ l. c.args.out.now.items ++ written c.args.colour (group_inks l)) (sym first)

pub loop-at-preserved : goal.loop-at-preserved
loop-at-preserved c =
    let none = slice_get_past c.args.diagnostics.now (get_or c.args.indices.now c.loop-at.at 0) c.in_default.ensures.lookup.3 in
    (picked_more_none c.args.diagnostics.now c.args.indices.now c.loop-at.at c.loop-at-test.true none ∙ c.loop-at.invariant.0, c.loop-at.invariant.1)
