use Rattle.std.proofs.Common.{◌≡◌, ◌∙◌, ap, Some, codes, pos}
use Rattle.std.proofs.lemmas.Result.{IfOk-weaker}
use Rattle.clap.specs.Simple.{app_of_fields, new_app}
use Rattle.clap.specs.Walk.{Rule, rule_of}
use Rattle.clap.specs.declared.builder.arg.Arg.{Arg}
use Rattle.clap.specs.declared.builder.command.Command.{Command}
use Rattle.clap.specs.declared.builder.command.Command.TheOpen.{Command-F}
use Rattle.clap.specs.declared.builder.value_parser.ValueParser.{ValueParser}
use Rattle.clap.specs.declared.builder.value_parser.ValueParser.TheVariants.{Unsigned}
use Rattle.htn_command.specs.CommandLine.{number, number_or_none}
use Rattle.htn_command.proofs.Building.{Is, narrowed, with_one}
use Rattle.htn_command.proofs.request.plan.Goals as goal

-- an argument whose values go through this parser
abbrev with_parser : Rule → ValueParser → Rule
with_parser rule parser = record rule { parser = Some parser }

pub returns : goal.returns
returns c =
    let nodes : c.range.result ≡ Unsigned 0 10000 = narrowed _ _ c.new-2.result (pos 0) (pos 10000) c.value_parser.ensures c.new-2.ensures.start c.new-2.ensures.end c.range.ensures in
    let workers : c.range-2.result ≡ Unsigned 1 64 = narrowed _ _ c.new-3.result (pos 1) (pos 64) c.value_parser-2.ensures c.new-3.ensures.start c.new-3.ensures.end c.range-2.ensures in
    let piece : c.range-3.result ≡ Unsigned 1 1000000 = narrowed _ _ c.new-4.result (pos 1) (pos 1000000) c.value_parser-3.ensures c.new-4.ensures.start c.new-4.ensures.end c.range-3.ensures in
    let time : c.range-4.result ≡ Unsigned 1 31536000 = narrowed _ _ c.new-5.result (pos 1) (pos 31536000) c.value_parser-4.ensures c.new-5.ensures.start c.new-5.ensures.end c.range-4.ensures in
    let rule = λ (a : Arg). rule_of a in
    let global = λ (a : Arg). a.global in
    let with_nodes = ap rule c.help.ensures ∙ c.number.ensures.rule ∙ ap (with_parser (number (codes "nodes") (codes "100") 0 0)) nodes in
    let with_workers = ap rule c.help-2.ensures ∙ c.number-2.ensures.rule ∙ ap (with_parser (number (codes "workers") (codes "1") 0 0)) workers in
    let with_piece = ap rule c.help-3.ensures ∙ c.number-3.ensures.rule ∙ ap (with_parser (number (codes "piece") (codes "64") 0 0)) piece in
    let with_progress = ap rule c.help-4.ensures ∙ c.flag.ensures.rule in
    let with_seconds = ap rule c.help-5.ensures ∙ c.number_or_none.ensures.rule ∙ ap (with_parser (number_or_none (codes "seconds") 0 0)) time in
    let start : Is c.after_help.result (new_app (codes "plan")) = (
      ap app_of_fields c.after_help.ensures ∙ ap app_of_fields c.about.ensures ∙ c.new.ensures.app,
      ap (λ (f : Command-F Command). f.has_globals) c.after_help.ensures ∙ ap (λ (f : Command-F Command). f.has_globals) c.about.ensures ∙ c.new.ensures.local,
    ) in
    let one = with_one _ _ _ _ _ start c.in_ok-arg.ensures c.file.ensures.rule c.file.ensures.local in
    let two = with_one _ _ _ _ _ one c.in_ok-arg-2.ensures c.file-2.ensures.rule c.file-2.ensures.local in
    let three = with_one _ _ _ _ _ two c.in_ok-arg-3.ensures with_nodes (ap global c.help.ensures ∙ c.number.ensures.local) in
    let four = with_one _ _ _ _ _ three c.in_ok-arg-4.ensures with_workers (ap global c.help-2.ensures ∙ c.number-2.ensures.local) in
    let five = with_one _ _ _ _ _ four c.in_ok-arg-5.ensures with_piece (ap global c.help-3.ensures ∙ c.number-3.ensures.local) in
    let six = with_one _ _ _ _ _ five c.in_ok-arg-6.ensures with_progress (ap global c.help-4.ensures ∙ c.flag.ensures.local) in
    IfOk-weaker c.arg-7.result _ _
    (λ r adds. with_one _ _ _ _ _ six adds with_seconds (ap global c.help-5.ensures ∙ c.number_or_none.ensures.local)) c.arg-7.ensures
