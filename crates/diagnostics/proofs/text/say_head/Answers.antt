use Rattle.std.proofs.Common.{◌≡◌, List, ◌++◌, ap, ◌∙◌}
use Rattle.diagnostics.specs.declared.ink.Style.TheVariants.{Bold}
use Rattle.diagnostics.specs.Ink.{Ink, written, opened, closed, ended}
use Rattle.diagnostics.specs.Parts.{message_inks}
use Rattle.diagnostics.specs.Written.{start_inks, code_inks}
use Rattle.diagnostics.proofs.Adds.{adds}
use Rattle.diagnostics.proofs.text.say_head.Goals as goal

pub returns : goal.returns
returns c =
    let col = c.args.colour in
    let d = c.args.diagnostic.now in
    let o = c.args.out.now.items in
    let start : List Ink = start_inks d in
    let bold : List Ink = opened Bold in
    let message : List Ink = message_inks d.message.items in
    let code : List Ink = code_inks d.code.now in
    let members_of : c.say_message.new.out.items ≡ c.open.new.out.items ++ written col message = c.in_ok-say_message.ensures ∙ ap (λ m. c.open.new.out.items ++ written col (message_inks m)) c.as_slice.ensures.value in
    let two = adds col o c.say_start.new.out.items c.open.new.out.items start bold c.in_ok-say_start.ensures c.in_ok-open.ensures in
    let three = adds col o c.open.new.out.items c.say_message.new.out.items (start ++ bold) message two members_of in
    let four = adds col o c.say_message.new.out.items c.close.new.out.items (start ++ bold ++ message) closed three c.in_ok-close.ensures in
    let five = adds col o c.close.new.out.items c.say_code.new.out.items (start ++ bold ++ message ++ closed) code four c.in_ok-say_code.ensures in
    adds col o c.say_code.new.out.items c.end_line.new.out.items (start ++ bold ++ message ++ closed ++ code) ended five c.in_ok-end_line.ensures
