use Rattle.std.proofs.Common.{◌≡◌, ◌∙◌, ◌++◌, ◌∷◌, [], List, ap, ap₂, map, sym}
use Rattle.std.proofs.lemmas.List.{take_all}
use Rattle.task_machine.specs.Tables.{source_of}
use Rattle.task_machine.specs.declared.listing.Source.{Source}
use Rattle.task_machine.proofs.Wider.{map_take_more}
use Rattle.task_machine.proofs.listing.sources_of.Goals as goal

pub loop-instance-preserved : goal.loop-instance-preserved
loop-instance-preserved c =
    let k = c.loop-instance.instance-index in
    let instance = c.instance-item.result in
    let same : record { method = c.method.result; values = c.in_ok-values.values } ≡ source_of instance = λ j. record { method = c.method.ensures j; values = (c.in_ok-values.ensures ∙ c.values.ensures) j } in
    c.in_ok-push.ensures.items
    ∙ ap₂ (λ (l : List Source) (s : Source). l ++ s ∷ []) c.loop-instance.invariant same
    ∙ sym (map_take_more source_of c.args.instances.now k instance c.loop-instance-test.true c.instance-item.is)

pub returns : goal.returns
returns c = c.loop-instance.invariant ∙ ap (map source_of) (take_all c.loop-instance.instance-index c.args.instances.now c.loop-instance-test.false)
