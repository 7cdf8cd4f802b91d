use Rattle.std.proofs.Common.{rules, ◌∙◌, inl, sym, subst}
use Rattle.std.proofs.lemmas.Result.{err_from_is_err_and}
use Rattle.htn_command.specs.Misuse.{kind_of_misuse}
use Rattle.htn_command.specs.Request.{IsOf}
use Rattle.htn_command.proofs.Matches.{faulty_ask_nothing, faulty_words_ask_nothing, help_is_due, kind_is_possible, misuse_none, one_is_possible, parse_is_sound, parse_reads, version_is_due}
use Rattle.htn_command.proofs.request.read.Goals as goal

pub returns-in_err-matches-clause-refused : goal.returns-in_err-matches-clause-refused
returns-in_err-matches-clause-refused c =
    let p = err_from_is_err_and c.from_residual-in_err-matches.result c.from_residual-in_err-matches.ensures.1 in
    rw (p.1, p.2) (faulty_ask_nothing _ _ c.in_err-matches.field-0.0 c.in_ok-command.ensures c.in_err-matches.ensures.kinds)

pub returns-in_err-matches-clause-help : goal.returns-in_err-matches-clause-help
returns-in_err-matches-clause-help c =
    let p = err_from_is_err_and c.from_residual-in_err-matches.result c.from_residual-in_err-matches.ensures.1 in
    rw (p.1, p.2) (help_is_due _ _ c.in_err-matches.field-0.0 c.in_ok-command.ensures c.in_err-matches.ensures.kinds)

pub returns-in_err-matches-clause-version : goal.returns-in_err-matches-clause-version
returns-in_err-matches-clause-version c =
    let p = err_from_is_err_and c.from_residual-in_err-matches.result c.from_residual-in_err-matches.ensures.1 in
    rw (p.1, p.2) (version_is_due _ _ c.in_err-matches.field-0.0 c.in_ok-command.ensures c.in_err-matches.ensures.kinds)

pub returns-in_err-matches-clause-kind : goal.returns-in_err-matches-clause-kind
returns-in_err-matches-clause-kind c =
    let p = err_from_is_err_and c.from_residual-in_err-matches.result c.from_residual-in_err-matches.ensures.1 in
    rw (p.1, p.2) (kind_is_possible _ _ c.in_err-matches.field-0.0 c.in_ok-command.ensures c.in_err-matches.ensures.kinds)

pub returns-in-Some-clause-refused : goal.returns-in-Some-clause-refused
returns-in-Some-clause-refused c enough =
    faulty_words_ask_nothing _ (kind_of_misuse c.in-Some.misuse)
    (parse_is_sound _ _ _ c.in_ok-command.ensures c.in_ok-matches.ensures.kinds c.in_ok-matches.ensures.matches ∙ sym c.in-Some.ensures)

pub returns-in-Some-clause-kind : goal.returns-in-Some-clause-kind
returns-in-Some-clause-kind c enough =
    one_is_possible _ (kind_of_misuse c.in-Some.misuse) _
    (parse_is_sound _ _ _ c.in_ok-command.ensures c.in_ok-matches.ensures.kinds c.in_ok-matches.ensures.matches ∙ sym c.in-Some.ensures)
    (search rules)

pub returns-in-Some-read_words-clause-asked : goal.returns-in-Some-read_words-clause-asked
returns-in-Some-read_words-clause-asked c = record {
  sound = parse_is_sound _ _ _ c.in_ok-command.ensures c.in_ok-matches.ensures.kinds c.in_ok-matches.ensures.matches
      ∙ misuse_none c.of.result _ c.of.ensures c.in_default.not-Some;
  given = subst (λ found. IsOf found c.in-Some-read_words.request) (sym (parse_reads _ _ _ c.in_ok-command.ensures c.in_ok-matches.ensures.matches)) c.in-Some-read_words.ensures.some;
}

pub returns-clause-refused : goal.returns-clause-refused
returns-clause-refused c enough request asked =
    let found = parse_reads _ _ _ c.in_ok-command.ensures c.in_ok-matches.ensures.matches in
    c.in-None.ensures.none (search rules) request (subst (λ found. IsOf found request) found asked.given)

pub returns-clause-kind : goal.returns-clause-kind
returns-clause-kind c enough =
    inl
    (parse_is_sound _ _ _ c.in_ok-command.ensures c.in_ok-matches.ensures.kinds c.in_ok-matches.ensures.matches ∙ misuse_none c.of.result _ c.of.ensures c.in_default.not-Some)
