use Rattle.std.proofs.Common.{◌≡◌, List, ◌++◌, ap, ◌∙◌}
use Rattle.std.specs.List.{flat_map}
use Rattle.diagnostics.specs.Ink.{Ink, written}
use Rattle.diagnostics.specs.Parts.{remark_inks, note_inks}
use Rattle.diagnostics.specs.Written.{head_inks, shown_inks}
use Rattle.diagnostics.proofs.Adds.{adds}
use Rattle.diagnostics.proofs.text.say_body.Goals as goal

pub returns : goal.returns
returns c =
    let col = c.args.colour in
    let d = c.args.diagnostic.now in
    let o = c.args.out.now.items in
    let head : List Ink = head_inks d in
    let line : List Ink = shown_inks d in
    let remarks : List Ink = flat_map remark_inks d.remarks.items in
    let notes : List Ink = flat_map note_inks d.notes.items in
    let remarked : c.say_remarks.new.out.items ≡ c.say_shown.new.out.items ++ written col remarks = c.in_ok-say_remarks.ensures ∙ ap (λ m. c.say_shown.new.out.items ++ written col (flat_map remark_inks m)) c.as_slice.ensures.value in
    let noted : c.say_notes.new.out.items ≡ c.say_remarks.new.out.items ++ written col notes = c.in_ok-say_notes.ensures ∙ ap (λ m. c.say_remarks.new.out.items ++ written col (flat_map note_inks m)) c.as_slice-2.ensures.value in
    let two = adds col o c.say_head.new.out.items c.say_shown.new.out.items head line c.in_ok-say_head.ensures c.in_ok-say_shown.ensures in
    let three = adds col o c.say_shown.new.out.items c.say_remarks.new.out.items (head ++ line) remarks two remarked in
    adds col o c.say_remarks.new.out.items c.say_notes.new.out.items (head ++ line ++ remarks) notes three noted
