use Rattle.std.proofs.Common.{◌≡◌, option_map}
use Rattle.std.proofs.lemmas.Result.{IfOk-weaker}
use Rattle.picture_svg.specs.Svg.{IsSvgOf, svg_bytes}
use Rattle.picture_svg.proofs.as_svg.svg.Goals as goal

pub returns : goal.returns
returns c =
    let caption = c.args.caption.now in
    let details = option_map (λ d. d.now) c.args.details in
    let picture = c.args.picture.now in
    let layout = c.in_ok-layout.layout in
    IfOk-weaker c.laid_out.result (λ text. text.items ≡ svg_bytes caption details picture layout) (λ text. IsSvgOf caption details picture text.items)
    (λ text is. record { layout = layout; is_layout = c.in_ok-layout.ensures; bytes_are = is }) c.laid_out.ensures
