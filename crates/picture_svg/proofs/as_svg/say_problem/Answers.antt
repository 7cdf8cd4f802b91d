use Rattle.std.proofs.Common.{◌≡◌, ◌++◌, codes, map, ap, ◌∙◌, subst}
use Rattle.std.specs.Result.{OnOk}
use Rattle.diagnostics.specs.Shown.{shown}
use Rattle.picture_svg.specs.Shapes.{two_lines}
use Rattle.picture_svg.proofs.as_svg.say_problem.Goals as goal

pub returns : goal.returns
returns c =
    let out = c.args.out.now.items in
    let new = c.say_two_lines.new.out.items in
    let verdict = map shown c.args.caption.now.verdict.now in
    subst (λ n. OnOk c.say_two_lines.result (new ≡ out ++ two_lines (codes "root") c.args.area n verdict)) (c.as_slice.ensures.value ∙ c.in_ok-name.ensures ∙ ap (map shown) c.as_bytes.ensures.value)
    (subst (λ v. OnOk c.say_two_lines.result (new ≡ out ++ two_lines (codes "root") c.args.area c.as_slice.result.now v)) (c.as_slice-2.ensures.value ∙ c.in_ok-verdict.ensures ∙ ap (map shown) c.as_bytes-2.ensures.value) c.say_two_lines.ensures)
