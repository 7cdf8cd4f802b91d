use Rattle.std.proofs.Common.{◌∙◌, ap, sym, refl, codes}
use Rattle.std.specs.Prelude.{option_and_then}
use Rattle.clap.specs.Walk.{rows_of}
use Rattle.clap.specs.Matches.{found_of}
use Rattle.clap.proofs.WalkLemmas.{first_value-rows}
use Rattle.htn_command.specs.CommandLine.{colour_named, flag_named, format_named}
use Rattle.htn_command.proofs.Matches.{lacks_explained_colour, lacks_explained_domain, lacks_explained_format, lacks_explained_plan, lacks_explained_problem, lacks_states}
use Rattle.htn_command.proofs.request.read_explain_words.Goals as goal

pub returns-in_err-domain-clause-none : goal.returns-in_err-domain-clause-none
returns-in_err-domain-clause-none c none request is =
    lacks_explained_domain (found_of c.args.explain.now) request c.in_err-domain.ensures is

pub returns-in_err-problem-clause-none : goal.returns-in_err-problem-clause-none
returns-in_err-problem-clause-none c none request is =
    lacks_explained_problem (found_of c.args.explain.now) request c.in_err-problem.ensures is

pub returns-in_err-plan-clause-none : goal.returns-in_err-plan-clause-none
returns-in_err-plan-clause-none c none request is =
    lacks_explained_plan (found_of c.args.explain.now) request c.in_err-plan.ensures is

pub returns-in_err-get_str-clause-none : goal.returns-in_err-get_str-clause-none
returns-in_err-get_str-clause-none c none request is =
    lacks_explained_format (found_of c.args.explain.now) request (ap (option_and_then format_named) (sym c.in_err-get_str.ensures)) is

pub returns-in_err-format-clause-none : goal.returns-in_err-format-clause-none
returns-in_err-format-clause-none c none request is =
    lacks_explained_format (found_of c.args.explain.now) request (ap (option_and_then format_named) (sym c.in_ok-get_str.ensures) ∙ sym c.in_err-format.ensures) is

pub returns-in_err-get_str-2-clause-none : goal.returns-in_err-get_str-2-clause-none
returns-in_err-get_str-2-clause-none c none request is =
    lacks_states (found_of c.args.explain.now) request (ap (option_and_then flag_named) (sym c.in_err-get_str-2.ensures)) is

pub returns-in_err-has_states-clause-none : goal.returns-in_err-has_states-clause-none
returns-in_err-has_states-clause-none c none request is =
    lacks_states (found_of c.args.explain.now) request (ap (option_and_then flag_named) (sym c.in_ok-get_str-2.ensures) ∙ sym c.in_err-has_states.ensures) is

pub returns-in_err-get_str-3-clause-none : goal.returns-in_err-get_str-3-clause-none
returns-in_err-get_str-3-clause-none c none request is =
    lacks_explained_colour (found_of c.args.explain.now) request (ap (option_and_then colour_named) (sym c.in_err-get_str-3.ensures)) is

pub returns-in_err-colour-clause-none : goal.returns-in_err-colour-clause-none
returns-in_err-colour-clause-none c none request is =
    lacks_explained_colour (found_of c.args.explain.now) request (ap (option_and_then colour_named) (sym c.in_ok-get_str-3.ensures) ∙ sym c.in_err-colour.ensures) is

pub returns-clause-some : goal.returns-clause-some
returns-clause-some c =
    let f = found_of c.args.explain.now in (
      rows_of f,
      refl,
      (
        sym (first_value-rows f (codes "DOMAIN")) ∙ sym c.in_ok-domain.ensures,
        sym (first_value-rows f (codes "PROBLEM")) ∙ sym c.in_ok-problem.ensures,
        sym (first_value-rows f (codes "PLAN")) ∙ sym c.in_ok-plan.ensures,
        ap (option_and_then format_named) (sym (first_value-rows f (codes "format")) ∙ sym c.in_ok-get_str.ensures) ∙ sym c.in_ok-format.ensures,
        ap (option_and_then flag_named) (sym (first_value-rows f (codes "states")) ∙ sym c.in_ok-get_str-2.ensures) ∙ sym c.in_ok-has_states.ensures,
        ap (option_and_then colour_named) (sym (first_value-rows f (codes "color")) ∙ sym c.in_ok-get_str-3.ensures) ∙ sym c.in_ok-colour.ensures,
      ),
    )
