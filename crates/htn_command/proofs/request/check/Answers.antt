use Rattle.std.proofs.Common.{◌≡◌, ◌∙◌, ap, Some, codes, pos}
use Rattle.std.proofs.lemmas.Result.{IfOk-weaker}
use Rattle.clap.specs.Simple.{app_of_fields, new_app}
use Rattle.clap.specs.Walk.{Rule, rule_of}
use Rattle.clap.specs.declared.builder.arg.Arg.{Arg}
use Rattle.clap.specs.declared.builder.command.Command.{Command}
use Rattle.clap.specs.declared.builder.command.Command.TheOpen.{Command-F}
use Rattle.clap.specs.declared.builder.value_parser.ValueParser.{ValueParser}
use Rattle.clap.specs.declared.builder.value_parser.ValueParser.TheVariants.{Unsigned}
use Rattle.htn_command.specs.CommandLine.{number}
use Rattle.htn_command.proofs.Building.{Is, narrowed, with_one}
use Rattle.htn_command.proofs.request.check.Goals as goal

-- an argument whose values go through this parser
abbrev with_parser : Rule → ValueParser → Rule
with_parser rule parser = record rule { parser = Some parser }

pub returns : goal.returns
returns c =
    let most : c.range.result ≡ Unsigned 0 1000000 = narrowed _ _ c.new-2.result (pos 0) (pos 1000000) c.value_parser.ensures c.new-2.ensures.start c.new-2.ensures.end c.range.ensures in
    let rule = λ (a : Arg). rule_of a in
    let global = λ (a : Arg). a.global in
    let with_format = ap rule c.help.ensures ∙ c.choice.ensures.rule in
    let with_limit = ap rule c.help-2.ensures ∙ c.number.ensures.rule ∙ ap (with_parser (number (codes "limit") (codes "20") 0 0)) most in
    let with_strict = ap rule c.help-3.ensures ∙ c.flag.ensures.rule in
    let with_color = ap rule c.help-4.ensures ∙ c.choice-2.ensures.rule in
    let start : Is c.after_help.result (new_app (codes "check")) = (
      ap app_of_fields c.after_help.ensures ∙ ap app_of_fields c.about.ensures ∙ c.new.ensures.app,
      ap (λ (f : Command-F Command). f.has_globals) c.after_help.ensures ∙ ap (λ (f : Command-F Command). f.has_globals) c.about.ensures ∙ c.new.ensures.local,
    ) in
    let one = with_one _ _ _ _ _ start c.in_ok-arg.ensures c.file.ensures.rule c.file.ensures.local in
    let two = with_one _ _ _ _ _ one c.in_ok-arg-2.ensures c.file_or_none.ensures.rule c.file_or_none.ensures.local in
    let three = with_one _ _ _ _ _ two c.in_ok-arg-3.ensures with_format (ap global c.help.ensures ∙ c.choice.ensures.local) in
    let four = with_one _ _ _ _ _ three c.in_ok-arg-4.ensures with_limit (ap global c.help-2.ensures ∙ c.number.ensures.local) in
    let five = with_one _ _ _ _ _ four c.in_ok-arg-5.ensures with_strict (ap global c.help-3.ensures ∙ c.flag.ensures.local) in
    IfOk-weaker c.arg-6.result _ _
    (λ r adds. with_one _ _ _ _ _ five adds with_color (ap global c.help-4.ensures ∙ c.choice-2.ensures.local)) c.arg-6.ensures
