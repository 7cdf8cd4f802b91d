use Rattle.std.proofs.Common.{◌∙◌, ap, sym, refl, codes}
use Rattle.std.specs.Prelude.{option_and_then}
use Rattle.clap.specs.Walk.{rows_of}
use Rattle.clap.specs.Matches.{found_of}
use Rattle.clap.proofs.WalkLemmas.{first_value-rows}
use Rattle.htn_command.specs.CommandLine.{flag_named}
use Rattle.htn_command.proofs.Matches.{lacks_domain, lacks_nodes, lacks_piece, lacks_problem, lacks_progress, lacks_seconds, lacks_workers, number_read, out_of_range}
use Rattle.htn_command.proofs.request.read_plan_words.Goals as goal

pub returns-in_err-nodes-clause-none : goal.returns-in_err-nodes-clause-none
returns-in_err-nodes-clause-none c none request is =
    lacks_nodes (found_of c.args.plan.now) request (λ t e. (c.in_err-nodes.ensures.value t e).1.0) is

pub returns-in_err-workers-clause-none : goal.returns-in_err-workers-clause-none
returns-in_err-workers-clause-none c none request is =
    lacks_workers (found_of c.args.plan.now) request (λ t e. (c.in_err-workers.ensures.value t e).1.0) is

pub returns-in_err-piece-clause-none : goal.returns-in_err-piece-clause-none
returns-in_err-piece-clause-none c none request is =
    lacks_piece (found_of c.args.plan.now) request (λ t e. (c.in_err-piece.ensures.value t e).1.0) is

pub returns-in_err-domain-clause-none : goal.returns-in_err-domain-clause-none
returns-in_err-domain-clause-none c none request is =
    lacks_domain (found_of c.args.plan.now) request c.in_err-domain.ensures is

pub returns-in_err-problem-clause-none : goal.returns-in_err-problem-clause-none
returns-in_err-problem-clause-none c none request is =
    lacks_problem (found_of c.args.plan.now) request c.in_err-problem.ensures is

pub returns-in_err-bounds-clause-none : goal.returns-in_err-bounds-clause-none
returns-in_err-bounds-clause-none c none request is =
    let f = found_of c.args.plan.now in
    out_of_range f _ _ _ request
    (number_read f (codes "nodes") _ _ refl c.in_ok-nodes.ensures.none (λ t e. (c.in_ok-nodes.ensures.value t e).0))
    (number_read f (codes "workers") _ _ refl c.in_ok-workers.ensures.none (λ t e. (c.in_ok-workers.ensures.value t e).0))
    (number_read f (codes "piece") _ _ refl c.in_ok-piece.ensures.none (λ t e. (c.in_ok-piece.ensures.value t e).0))
    c.in_err-bounds.ensures.in_range.1
    is

pub returns-in_err-seconds-clause-none : goal.returns-in_err-seconds-clause-none
returns-in_err-seconds-clause-none c none request is =
    lacks_seconds (found_of c.args.plan.now) request (c.in_err-seconds.ensures.none refl) is

pub returns-in_err-get_str-clause-none : goal.returns-in_err-get_str-clause-none
returns-in_err-get_str-clause-none c none request is =
    lacks_progress (found_of c.args.plan.now) request (ap (option_and_then flag_named) (sym c.in_err-get_str.ensures)) is

pub returns-in_err-has_progress-clause-none : goal.returns-in_err-has_progress-clause-none
returns-in_err-has_progress-clause-none c none request is =
    lacks_progress (found_of c.args.plan.now) request (ap (option_and_then flag_named) (sym c.in_ok-get_str.ensures) ∙ sym c.in_err-has_progress.ensures) is

pub returns-clause-some : goal.returns-clause-some
returns-clause-some c =
    let f = found_of c.args.plan.now in
    let same = c.in_ok-bounds.ensures.bounds in (
      rows_of f,
      refl,
      (
        sym (first_value-rows f (codes "DOMAIN")) ∙ sym c.in_ok-domain.ensures,
        sym (first_value-rows f (codes "PROBLEM")) ∙ sym c.in_ok-problem.ensures,
        number_read f (codes "nodes") _ _ same.0 c.in_ok-nodes.ensures.none (λ t e. (c.in_ok-nodes.ensures.value t e).0),
        number_read f (codes "workers") _ _ same.1 c.in_ok-workers.ensures.none (λ t e. (c.in_ok-workers.ensures.value t e).0),
        number_read f (codes "piece") _ _ same.2 c.in_ok-piece.ensures.none (λ t e. (c.in_ok-piece.ensures.value t e).0),
        c.in_ok-bounds.bounds.in_range,
        c.in_ok-seconds.ensures.some,
        ap (option_and_then flag_named) (sym (first_value-rows f (codes "progress")) ∙ sym c.in_ok-get_str.ensures) ∙ sym c.in_ok-has_progress.ensures,
      ),
    )
