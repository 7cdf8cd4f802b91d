use Rattle.std.proofs.Common.{◌∙◌, ap, codes}
use Rattle.std.proofs.lemmas.Result.{IfOk-weaker}
use Rattle.clap.specs.Simple.{app_of_fields, new_app}
use Rattle.clap.specs.Walk.{rule_of}
use Rattle.clap.specs.declared.builder.arg.Arg.{Arg}
use Rattle.clap.specs.declared.builder.command.Command.{Command}
use Rattle.clap.specs.declared.builder.command.Command.TheOpen.{Command-F}
use Rattle.htn_command.proofs.Building.{Is, with_one}
use Rattle.htn_command.proofs.request.tree.Goals as goal

pub returns : goal.returns
returns c =
    let rule = λ (a : Arg). rule_of a in
    let global = λ (a : Arg). a.global in
    let start : Is c.after_help.result (new_app (codes "tree")) = (
      ap app_of_fields c.after_help.ensures ∙ ap app_of_fields c.about.ensures ∙ c.new.ensures.app,
      ap (λ (f : Command-F Command). f.has_globals) c.after_help.ensures ∙ ap (λ (f : Command-F Command). f.has_globals) c.about.ensures ∙ c.new.ensures.local,
    ) in
    let one = with_one _ _ _ _ _ start c.in_ok-arg.ensures c.file.ensures.rule c.file.ensures.local in
    let two = with_one _ _ _ _ _ one c.in_ok-arg-2.ensures c.file-2.ensures.rule c.file-2.ensures.local in
    let three = with_one _ _ _ _ _ two c.in_ok-arg-3.ensures c.file-3.ensures.rule c.file-3.ensures.local in
    let four = with_one _ _ _ _ _ three c.in_ok-arg-4.ensures (ap rule c.help.ensures ∙ c.choice.ensures.rule) (ap global c.help.ensures ∙ c.choice.ensures.local) in
    let five = with_one _ _ _ _ _ four c.in_ok-arg-5.ensures (ap rule c.help-2.ensures ∙ c.flag.ensures.rule) (ap global c.help-2.ensures ∙ c.flag.ensures.local) in
    IfOk-weaker c.arg-6.result _ _
    (λ r adds. with_one _ _ _ _ _ five adds (ap rule c.help-3.ensures ∙ c.choice-2.ensures.rule) (ap global c.help-3.ensures ∙ c.choice-2.ensures.local)) c.arg-6.ensures
