use Rattle.std.proofs.Common.{rules, ◌≡◌, ◌∙◌, Some, ap, codes, sym}
use Rattle.clap.specs.Matches.{found_of}
use Rattle.clap.specs.Simple.{subcommand_rows_of}
use Rattle.clap.specs.Walk.{rows_of}
use Rattle.htn_command.specs.CommandLine.{own_fault}
use Rattle.htn_command.proofs.Matches.{name_and_rows, no_some}
use Rattle.htn_command.proofs.misuse.Misuse.of_other.Goals as goal

pub returns-in-None : goal.returns-in-None
returns-in-None c no_check =
    c.of_pictures.ensures no_check (λ is. no_some c.subcommand_matches.result c.in-None.is (c.subcommand_matches.ensures.found.1 is))

pub returns-in-Some : goal.returns-in-Some
returns-in-Some c no_check =
    let found : subcommand_rows_of c.args.matches.now ≡ Some (codes "explain", rows_of (found_of c.in-Some.explain.now)) =
    name_and_rows _ _ _ (c.subcommand_matches.ensures.found.0 (search rules)) c.in-Some.ensures.rows in
    c.of_explain.ensures ∙ ap own_fault (sym found)
