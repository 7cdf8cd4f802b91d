use Rattle.std.proofs.Common.{◌++◌, ap, ◌∙◌}
use Rattle.diagnostics.specs.Ink.{written}
use Rattle.diagnostics.specs.Written.{also_inks}
use Rattle.diagnostics.proofs.Adds.{front_of}
use Rattle.diagnostics.proofs.text.say_also.Goals as goal

pub returns-in_ok-say_listed-in-len1-up : goal.returns-in_ok-say_listed-in-len1-up
returns-in_ok-say_listed-in-len1-up c =
    c.in_ok-say_listed-in-len1-up.ensures
    ∙ ap (λ l. c.args.out.now.items ++ written c.args.colour (also_inks l)) (front_of c.args.places.now c.first-item.result c.in-len1-up.len_at_least c.first-item.is)
