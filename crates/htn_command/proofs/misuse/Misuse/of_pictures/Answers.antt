use Rattle.std.proofs.Common.{rules, ◌≡◌, ◌∙◌, Some, ap, codes, sym}
use Rattle.clap.specs.Matches.{found_of}
use Rattle.clap.specs.Simple.{subcommand_rows_of}
use Rattle.clap.specs.Walk.{rows_of}
use Rattle.htn_command.specs.CommandLine.{own_fault}
use Rattle.htn_command.proofs.Matches.{name_and_rows, no_some, own_of_other}
use Rattle.htn_command.proofs.misuse.Misuse.of_pictures.Goals as goal

pub returns-in-None : goal.returns-in-None
returns-in-None c no_check no_explain =
    sym (own_of_other c.args.matches.now no_check no_explain (λ is. no_some c.subcommand_matches.result c.in-None.is (c.subcommand_matches.ensures.found.1 is)))

pub returns-in-Some : goal.returns-in-Some
returns-in-Some c no_check no_explain =
    let found : subcommand_rows_of c.args.matches.now ≡ Some (codes "tree", rows_of (found_of c.in-Some.tree.now)) =
    name_and_rows _ _ _ (c.subcommand_matches.ensures.found.0 (search rules)) c.in-Some.ensures.rows in
    c.of_tree.ensures ∙ ap own_fault (sym found)
