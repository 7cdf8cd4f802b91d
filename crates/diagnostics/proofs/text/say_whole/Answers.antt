use Rattle.std.proofs.Common.{List, ◌++◌}
use Rattle.diagnostics.specs.Ink.{Ink, ended}
use Rattle.diagnostics.specs.Written.{body_inks, also_inks}
use Rattle.diagnostics.proofs.Adds.{adds}
use Rattle.diagnostics.proofs.text.say_whole.Goals as goal

pub returns : goal.returns
returns c =
    let col = c.args.colour in
    let o = c.args.out.now.items in
    let body : List Ink = body_inks c.args.diagnostic.now in
    let also : List Ink = also_inks c.args.also.now in
    let two = adds col o c.say_body.new.out.items c.say_also.new.out.items body also c.in_ok-say_body.ensures c.in_ok-say_also.ensures in
    adds col o c.say_also.new.out.items c.end_line.new.out.items (body ++ also) ended two c.in_ok-end_line.ensures
