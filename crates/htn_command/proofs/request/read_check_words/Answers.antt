use Rattle.std.proofs.Common.{◌∙◌, ap, sym, refl, codes}
use Rattle.std.specs.Prelude.{option_and_then}
use Rattle.clap.specs.Walk.{rows_of}
use Rattle.clap.specs.Matches.{found_of}
use Rattle.clap.proofs.WalkLemmas.{first_value-rows}
use Rattle.htn_command.specs.CommandLine.{colour_named, flag_named, format_named}
use Rattle.htn_command.proofs.Matches.{lacks_checked_domain, lacks_colour, lacks_flag, lacks_format, lacks_limit, number_fits, number_read}
use Rattle.htn_command.proofs.request.read_check_words.Goals as goal

pub returns-in_err-domain-clause-none : goal.returns-in_err-domain-clause-none
returns-in_err-domain-clause-none c none request is =
    lacks_checked_domain (found_of c.args.check.now) request c.in_err-domain.ensures is

pub returns-in_err-get_str-clause-none : goal.returns-in_err-get_str-clause-none
returns-in_err-get_str-clause-none c none request is =
    lacks_format (found_of c.args.check.now) request (ap (option_and_then format_named) (sym c.in_err-get_str.ensures)) is

pub returns-in_err-format-clause-none : goal.returns-in_err-format-clause-none
returns-in_err-format-clause-none c none request is =
    lacks_format (found_of c.args.check.now) request (ap (option_and_then format_named) (sym c.in_ok-get_str.ensures) ∙ sym c.in_err-format.ensures) is

pub returns-in_err-limit-clause-none : goal.returns-in_err-limit-clause-none
returns-in_err-limit-clause-none c none request is =
    lacks_limit (found_of c.args.check.now) request (λ t e. (c.in_err-limit.ensures.value t e).1.0) is

pub returns-in_err-get_str-2-clause-none : goal.returns-in_err-get_str-2-clause-none
returns-in_err-get_str-2-clause-none c none request is =
    lacks_flag (found_of c.args.check.now) request (ap (option_and_then flag_named) (sym c.in_err-get_str-2.ensures)) is

pub returns-in_err-is_strict-clause-none : goal.returns-in_err-is_strict-clause-none
returns-in_err-is_strict-clause-none c none request is =
    lacks_flag (found_of c.args.check.now) request (ap (option_and_then flag_named) (sym c.in_ok-get_str-2.ensures) ∙ sym c.in_err-is_strict.ensures) is

pub returns-in_err-get_str-3-clause-none : goal.returns-in_err-get_str-3-clause-none
returns-in_err-get_str-3-clause-none c none request is =
    lacks_colour (found_of c.args.check.now) request (ap (option_and_then colour_named) (sym c.in_err-get_str-3.ensures)) is

pub returns-in_err-colour-clause-none : goal.returns-in_err-colour-clause-none
returns-in_err-colour-clause-none c none request is =
    lacks_colour (found_of c.args.check.now) request (ap (option_and_then colour_named) (sym c.in_ok-get_str-3.ensures) ∙ sym c.in_err-colour.ensures) is

pub returns-clause-some : goal.returns-clause-some
returns-clause-some c =
    let f = found_of c.args.check.now in (
      rows_of f,
      refl,
      (
        sym (first_value-rows f (codes "DOMAIN")) ∙ sym c.in_ok-domain.ensures,
        sym (first_value-rows f (codes "PROBLEM")) ∙ sym c.get_str-problem.ensures,
        ap (option_and_then format_named) (sym (first_value-rows f (codes "format")) ∙ sym c.in_ok-get_str.ensures) ∙ sym c.in_ok-format.ensures,
        number_read f (codes "limit") _ _ refl c.in_ok-limit.ensures.none (λ t e. (c.in_ok-limit.ensures.value t e).0),
        number_fits f (codes "limit") _ c.in_ok-limit.ensures.none (λ t e. (c.in_ok-limit.ensures.value t e).0),
        ap (option_and_then flag_named) (sym (first_value-rows f (codes "strict")) ∙ sym c.in_ok-get_str-2.ensures) ∙ sym c.in_ok-is_strict.ensures,
        ap (option_and_then colour_named) (sym (first_value-rows f (codes "color")) ∙ sym c.in_ok-get_str-3.ensures) ∙ sym c.in_ok-colour.ensures,
      ),
    )
