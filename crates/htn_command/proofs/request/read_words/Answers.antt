use Rattle.std.proofs.Common.{rules, ◌≡◌, subst, Some, codes}
use Rattle.clap.specs.Matches.{found_of}
use Rattle.clap.specs.Simple.{subcommand_rows_of}
use Rattle.clap.specs.Walk.{rows_of}
use Rattle.htn_command.specs.Request.{IsOf}
use Rattle.htn_command.proofs.Matches.{name_and_rows}
use Rattle.htn_command.proofs.request.read_words.Goals as goal

pub returns-in-Some-clause-none : goal.returns-in-Some-clause-none
returns-in-Some-clause-none c none request is =
    let found : subcommand_rows_of c.args.matches.now ≡ Some (codes "plan", rows_of (found_of c.in-Some.plan.now)) =
    name_and_rows _ _ _ (c.subcommand_matches.ensures.found.0 (search rules)) c.in-Some.ensures.rows in
    c.read_plan_words.ensures.none none request (subst (λ f. IsOf f request) found is)

pub returns-in-Some-subcommand_matches-clause-none : goal.returns-in-Some-subcommand_matches-clause-none
returns-in-Some-subcommand_matches-clause-none c none request is =
    let found : subcommand_rows_of c.args.matches.now ≡ Some (codes "verify", rows_of (found_of c.in-Some-subcommand_matches.verify.now)) =
    name_and_rows _ _ _ (c.subcommand_matches-2.ensures.found.0 (search rules)) c.in-Some-subcommand_matches.ensures.rows in
    c.read_verify_words.ensures.none none request (subst (λ f. IsOf f request) found is)

pub returns-in-Some-subcommand_matches-2-clause-none : goal.returns-in-Some-subcommand_matches-2-clause-none
returns-in-Some-subcommand_matches-2-clause-none c none request is =
    let found : subcommand_rows_of c.args.matches.now ≡ Some (codes "check", rows_of (found_of c.in-Some-subcommand_matches-2.check.now)) =
    name_and_rows _ _ _ (c.subcommand_matches-3.ensures.found.0 (search rules)) c.in-Some-subcommand_matches-2.ensures.rows in
    c.read_check_words.ensures.none none request (subst (λ f. IsOf f request) found is)

pub returns-in-Some-subcommand_matches-3-clause-none : goal.returns-in-Some-subcommand_matches-3-clause-none
returns-in-Some-subcommand_matches-3-clause-none c none request is =
    let found : subcommand_rows_of c.args.matches.now ≡ Some (codes "explain", rows_of (found_of c.in-Some-subcommand_matches-3.explain.now)) =
    name_and_rows _ _ _ (c.subcommand_matches-4.ensures.found.0 (search rules)) c.in-Some-subcommand_matches-3.ensures.rows in
    c.read_explain_words.ensures.none none request (subst (λ f. IsOf f request) found is)

pub returns-clause-none : goal.returns-clause-none
returns-clause-none c none request is =
    let found : subcommand_rows_of c.args.matches.now ≡ Some (codes "tree", rows_of (found_of c.in_ok-subcommand_matches.field-0.now)) =
    name_and_rows _ _ _ (c.subcommand_matches-5.ensures.found.0 (search rules)) c.in_ok-subcommand_matches.ensures.rows in
    c.read_tree_words.ensures.none none request (subst (λ f. IsOf f request) found is)
