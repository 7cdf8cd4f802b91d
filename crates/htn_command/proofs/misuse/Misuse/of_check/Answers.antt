use Rattle.std.proofs.Common.{◌∙◌, ◌&&◌, ap, codes}
use Rattle.std.specs.Prelude.{option_map}
use Rattle.clap.specs.Matches.{found_of}
use Rattle.clap.specs.Walk.{first_of, rows_of}
use Rattle.clap.proofs.WalkLemmas.{first_value-rows}
use Rattle.htn_command.specs.CommandLine.{colour_named, format_named, is_input, is_unknown, refused_kinds}
use Rattle.htn_command.proofs.misuse.Misuse.of_check.Goals as goal

pub returns : goal.returns
returns c =
    let f = found_of c.args.check.now in
    let format = c.is_no_format-no_format.ensures ∙ ap (is_unknown format_named) (c.get_str.ensures ∙ first_value-rows f (codes "format")) in
    let colour = c.is_no_colour-no_colour.ensures ∙ ap (is_unknown colour_named) (c.get_str-2.ensures ∙ first_value-rows f (codes "color")) in
    let domain = c.get_str-3.ensures ∙ first_value-rows f (codes "DOMAIN") in
    let problem = c.get_str-4.ensures ∙ first_value-rows f (codes "PROBLEM") in
    let inputs = c.are_inputs-two_inputs.ensures ∙ ap (λ w. is_input w && is_input (option_map (λ s. s.now) c.get_str-4.result)) domain ∙ ap (λ w. is_input (first_of (codes "DOMAIN") (rows_of f)) && is_input w) problem in
    c.first.ensures
    ∙ ap (λ b. refused_kinds b c.is_no_colour-no_colour.result c.are_inputs-two_inputs.result) format
    ∙ ap (λ b. refused_kinds (is_unknown format_named (first_of (codes "format") (rows_of f))) b c.are_inputs-two_inputs.result) colour
    ∙ ap (λ b. refused_kinds (is_unknown format_named (first_of (codes "format") (rows_of f))) (is_unknown colour_named (first_of (codes "color") (rows_of f))) b) inputs
