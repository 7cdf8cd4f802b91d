use Rattle.std.proofs.Common.{◌≡◌, ◌∙◌, ap, ap₂, codes}
use Rattle.std.proofs.lemmas.Result.{IfOk-weaker}
use Rattle.clap.specs.Simple.{App, app_of, app_of_fields, new_app, on_top, with_subcommand}
use Rattle.htn_command.specs.CommandLine.{htnplan}
use Rattle.htn_command.proofs.Building.{made_strict, made_versioned, versioned}
use Rattle.htn_command.proofs.request.command.Goals as goal

pub returns : goal.returns
unfolding htnplan
returns c =
    let with_version = made_versioned _ _ _ _ c.new.ensures.app c.version.ensures in
    let told : app_of c.after_help.result ≡ on_top versioned (new_app (codes "htnplan")) =
    ap app_of_fields c.after_help.ensures ∙ ap app_of_fields c.about.ensures ∙ with_version in
    let program = made_strict _ _ _ _ told c.subcommand_required.ensures c.arg_required_else_help-program.ensures in
    let top = λ (a : App). a.top in
    let one = c.in_ok-subcommand.ensures.shape c.in_ok-plan.ensures.1 ∙ ap₂ with_subcommand program (ap top c.in_ok-plan.ensures.0) in
    let two = c.in_ok-subcommand-2.ensures.shape c.in_ok-verify.ensures.1 ∙ ap₂ with_subcommand one (ap top c.in_ok-verify.ensures.0) in
    let three = c.in_ok-subcommand-3.ensures.shape c.in_ok-check.ensures.1 ∙ ap₂ with_subcommand two (ap top c.in_ok-check.ensures.0) in
    let four = c.in_ok-subcommand-4.ensures.shape c.in_ok-explain.ensures.1 ∙ ap₂ with_subcommand three (ap top c.in_ok-explain.ensures.0) in
    IfOk-weaker c.subcommand-5.result _ _
    (λ r adds. adds.shape c.in_ok-tree.ensures.1 ∙ ap₂ with_subcommand four (ap top c.in_ok-tree.ensures.0)) c.subcommand-5.ensures
