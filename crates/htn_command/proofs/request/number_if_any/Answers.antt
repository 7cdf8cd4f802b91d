use Rattle.std.proofs.Common.{◌∙◌, ap, sym, refl}
use Rattle.std.specs.Prelude.{option_map}
use Rattle.clap.specs.Matches.{found_of}
use Rattle.htn_command.proofs.Matches.{no_first, number_fits, number_read, unread_number}
use Rattle.htn_command.proofs.request.number_if_any.Goals as goal

pub returns-in_default-clause-some : goal.returns-in_default-clause-some
returns-in_default-clause-some c =
    no_first (found_of c.args.matches.now) c.args.id.now (sym c.get_str.ensures ∙ ap (option_map (λ s. s.now)) c.in_default.is)

pub returns-in_err-number-clause-none : goal.returns-in_err-number-clause-none
returns-in_err-number-clause-none c none number is =
    unread_number (found_of c.args.matches.now) c.args.id.now c.in-Some._text.now
    (sym (ap (option_map (λ s. s.now)) c.in-Some.is) ∙ c.get_str.ensures)
    (λ t e. (c.in_err-number.ensures.value t e).1.0) number is

pub returns-clause-some : goal.returns-clause-some
returns-clause-some c =
    let f = found_of c.args.matches.now in
    let id = c.args.id.now in (
      number_read f id _ _ refl c.in_ok-number.ensures.none (λ t e. (c.in_ok-number.ensures.value t e).0),
      number_fits f id _ c.in_ok-number.ensures.none (λ t e. (c.in_ok-number.ensures.value t e).0),
    )
