use Rattle.std.proofs.Common.{◌∙◌, ap, codes}
use Rattle.clap.specs.Matches.{found_of}
use Rattle.clap.specs.Walk.{first_of, rows_of}
use Rattle.clap.proofs.WalkLemmas.{first_value-rows}
use Rattle.htn_command.specs.CommandLine.{are_two, colour_named, drawing_named, is_input, is_unknown, refused_kinds}
use Rattle.htn_command.proofs.misuse.Misuse.of_tree.Goals as goal

pub returns : goal.returns
returns c =
    let f = found_of c.args.tree.now in
    let drawing = c.is_no_drawing-no_drawing.ensures ∙ ap (is_unknown drawing_named) (c.get_str.ensures ∙ first_value-rows f (codes "format")) in
    let colour = c.is_no_colour-no_colour.ensures ∙ ap (is_unknown colour_named) (c.get_str-2.ensures ∙ first_value-rows f (codes "color")) in
    let domain = c.is_input-domain.ensures ∙ ap is_input (c.get_str-3.ensures ∙ first_value-rows f (codes "DOMAIN")) in
    let problem = c.is_input-problem.ensures ∙ ap is_input (c.get_str-4.ensures ∙ first_value-rows f (codes "PROBLEM")) in
    let plan = c.is_input-plan.ensures ∙ ap is_input (c.get_str-5.ensures ∙ first_value-rows f (codes "PLAN")) in
    let inputs =
    c.are_two.ensures
    ∙ ap (λ b. are_two b c.is_input-problem.result c.is_input-plan.result) domain
    ∙ ap (λ b. are_two (is_input (first_of (codes "DOMAIN") (rows_of f))) b c.is_input-plan.result) problem
    ∙ ap (λ b. are_two (is_input (first_of (codes "DOMAIN") (rows_of f))) (is_input (first_of (codes "PROBLEM") (rows_of f))) b) plan in
    c.first_of_three.ensures
    ∙ ap (λ b. refused_kinds b c.is_no_colour-no_colour.result c.are_two.result) drawing
    ∙ ap (λ b. refused_kinds (is_unknown drawing_named (first_of (codes "format") (rows_of f))) b c.are_two.result) colour
    ∙ ap (λ b. refused_kinds (is_unknown drawing_named (first_of (codes "format") (rows_of f))) (is_unknown colour_named (first_of (codes "color") (rows_of f))) b) inputs
