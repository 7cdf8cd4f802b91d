use Rattle.std.proofs.Common.{◌≡◌, ◌-◌, List, ◌++◌, length, take, arith, ap, ◌∙◌}
use Rattle.std.specs.Prelude.{codes}
use Rattle.std.specs.List.{flat_map}
use Rattle.diagnostics.specs.declared.ink.Style.TheVariants.{Rule, Note}
use Rattle.diagnostics.specs.Ink.{Ink, written, styled, ended}
use Rattle.diagnostics.specs.Written.{where_inks, comma_inks, rest_inks}
use Rattle.diagnostics.proofs.Adds.{adds, at_most_three}
use Rattle.diagnostics.proofs.text.say_listed.Goals as goal

pub returns : goal.returns
returns c =
    let col = c.args.colour in
    let o = c.args.out.now.items in
    let xs = c.args.rest.now in
    let rule : List Ink = styled Rule (codes "      = ") in
    let at : List Ink = styled Note (codes "also at ") in
    let first : List Ink = where_inks c.args.first.now in
    let more : List Ink = flat_map comma_inks (take 3 xs) in
    let left : List Ink = rest_inks (length xs - 3) in
    let count : length xs - c.min-listed.result ≡ length xs - 3 = omega (arith, c.min-listed.ensures) in
    let listed : c.say_more_places.new.out.items ≡ c.say_where.new.out.items ++ written col more =
    c.in_ok-say_more_places.ensures ∙ ap (λ l. c.say_where.new.out.items ++ written col (flat_map comma_inks l)) (at_most_three xs c.min-listed.result c.min-listed.ensures) in
    let rest : c.say_rest.new.out.items ≡ c.say_more_places.new.out.items ++ written col left =
    c.in_ok-say_rest.ensures ∙ ap (λ n. c.say_more_places.new.out.items ++ written col (rest_inks n)) count in
    let two = adds col o c.say_in.new.out.items c.say_in-2.new.out.items rule at c.in_ok-say_in.ensures c.in_ok-say_in-2.ensures in
    let three = adds col o c.say_in-2.new.out.items c.say_where.new.out.items (rule ++ at) first two c.in_ok-say_where.ensures in
    let four = adds col o c.say_where.new.out.items c.say_more_places.new.out.items (rule ++ at ++ first) more three listed in
    let five = adds col o c.say_more_places.new.out.items c.say_rest.new.out.items (rule ++ at ++ first ++ more) left four rest in
    adds col o c.say_rest.new.out.items c.end_line.new.out.items (rule ++ at ++ first ++ more ++ left) ended five c.in_ok-end_line.ensures
