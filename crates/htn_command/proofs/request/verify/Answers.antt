use Rattle.std.proofs.Common.{rules, ◌∙◌, ap, codes}
use Rattle.std.proofs.lemmas.Result.{IfOk-weaker}
use Rattle.clap.specs.Simple.{app_of_fields, new_app}
use Rattle.htn_command.proofs.Building.{Is, with_one}
use Rattle.htn_command.proofs.request.verify.Goals as goal

pub returns : goal.returns
returns c =
    let start : Is c.after_help.result (new_app (codes "verify")) =
    (ap app_of_fields c.after_help.ensures ∙ ap app_of_fields c.about.ensures ∙ c.new.ensures.app, search rules) in
    let one = with_one _ _ _ _ _ start c.in_ok-arg.ensures c.file.ensures.rule c.file.ensures.local in
    let two = with_one _ _ _ _ _ one c.in_ok-arg-2.ensures c.file-2.ensures.rule c.file-2.ensures.local in
    IfOk-weaker c.arg-3.result _ _ (λ r adds. with_one _ _ _ _ _ two adds c.file-3.ensures.rule c.file-3.ensures.local) c.arg-3.ensures
