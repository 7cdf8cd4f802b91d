use Rattle.diagnostics.specs.Parts.{row_inks, carets_inks}
use Rattle.diagnostics.proofs.Adds.{adds}
use Rattle.diagnostics.proofs.lines.say_snippet.Goals as goal

pub returns : goal.returns
returns c =
    let spot = c.args.spot.now in
    adds c.args.colour c.args.out.now.items c.say_row.new.out.items c.say_carets_line.new.out.items (row_inks spot) (carets_inks spot c.args.style c.args.label.now) c.in_ok-say_row.ensures c.in_ok-say_carets_line.ensures
