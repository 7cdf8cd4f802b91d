use Rattle.std.proofs.Common.{◌∙◌, ap, sym, refl, codes}
use Rattle.std.specs.Prelude.{option_and_then}
use Rattle.clap.specs.Walk.{rows_of}
use Rattle.clap.specs.Matches.{found_of}
use Rattle.clap.proofs.WalkLemmas.{first_value-rows}
use Rattle.htn_command.specs.CommandLine.{colour_named, drawing_named, flag_named}
use Rattle.htn_command.proofs.Matches.{lacks_details, lacks_drawing, lacks_drawn_domain, lacks_drawn_plan, lacks_drawn_problem, lacks_time}
use Rattle.htn_command.proofs.request.read_tree_words.Goals as goal

pub returns-in_err-domain-clause-none : goal.returns-in_err-domain-clause-none
returns-in_err-domain-clause-none c none request is =
    lacks_drawn_domain (found_of c.args.tree.now) request c.in_err-domain.ensures is

pub returns-in_err-problem-clause-none : goal.returns-in_err-problem-clause-none
returns-in_err-problem-clause-none c none request is =
    lacks_drawn_problem (found_of c.args.tree.now) request c.in_err-problem.ensures is

pub returns-in_err-plan-clause-none : goal.returns-in_err-plan-clause-none
returns-in_err-plan-clause-none c none request is =
    lacks_drawn_plan (found_of c.args.tree.now) request c.in_err-plan.ensures is

pub returns-in_err-get_str-clause-none : goal.returns-in_err-get_str-clause-none
returns-in_err-get_str-clause-none c none request is =
    lacks_drawing (found_of c.args.tree.now) request (ap (option_and_then drawing_named) (sym c.in_err-get_str.ensures)) is

pub returns-in_err-drawing-clause-none : goal.returns-in_err-drawing-clause-none
returns-in_err-drawing-clause-none c none request is =
    lacks_drawing (found_of c.args.tree.now) request (ap (option_and_then drawing_named) (sym c.in_ok-get_str.ensures) ∙ sym c.in_err-drawing.ensures) is

pub returns-in_err-get_str-2-clause-none : goal.returns-in_err-get_str-2-clause-none
returns-in_err-get_str-2-clause-none c none request is =
    lacks_details (found_of c.args.tree.now) request (ap (option_and_then flag_named) (sym c.in_err-get_str-2.ensures)) is

pub returns-in_err-has_details-clause-none : goal.returns-in_err-has_details-clause-none
returns-in_err-has_details-clause-none c none request is =
    lacks_details (found_of c.args.tree.now) request (ap (option_and_then flag_named) (sym c.in_ok-get_str-2.ensures) ∙ sym c.in_err-has_details.ensures) is

pub returns-in_err-get_str-3-clause-none : goal.returns-in_err-get_str-3-clause-none
returns-in_err-get_str-3-clause-none c none request is =
    lacks_time (found_of c.args.tree.now) request (ap (option_and_then colour_named) (sym c.in_err-get_str-3.ensures)) is

pub returns-in_err-colour-clause-none : goal.returns-in_err-colour-clause-none
returns-in_err-colour-clause-none c none request is =
    lacks_time (found_of c.args.tree.now) request (ap (option_and_then colour_named) (sym c.in_ok-get_str-3.ensures) ∙ sym c.in_err-colour.ensures) is

pub returns-clause-some : goal.returns-clause-some
returns-clause-some c =
    let f = found_of c.args.tree.now in (
      rows_of f,
      refl,
      (
        sym (first_value-rows f (codes "DOMAIN")) ∙ sym c.in_ok-domain.ensures,
        sym (first_value-rows f (codes "PROBLEM")) ∙ sym c.in_ok-problem.ensures,
        sym (first_value-rows f (codes "PLAN")) ∙ sym c.in_ok-plan.ensures,
        ap (option_and_then drawing_named) (sym (first_value-rows f (codes "format")) ∙ sym c.in_ok-get_str.ensures) ∙ sym c.in_ok-drawing.ensures,
        ap (option_and_then flag_named) (sym (first_value-rows f (codes "details")) ∙ sym c.in_ok-get_str-2.ensures) ∙ sym c.in_ok-has_details.ensures,
        ap (option_and_then colour_named) (sym (first_value-rows f (codes "color")) ∙ sym c.in_ok-get_str-3.ensures) ∙ sym c.in_ok-colour.ensures,
      ),
    )
