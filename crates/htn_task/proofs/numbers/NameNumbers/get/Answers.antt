use Rattle.std.proofs.Common.{◌∙◌, ap}
use Rattle.htn_task.specs.Numbers.{entry_of}
use Rattle.htn_task.proofs.Numbering.{entry_of-entries}
use Rattle.htn_task.proofs.numbers.NameNumbers.get.Goals as goal

pub returns : goal.returns
returns c =
    c.copied.ensures ∙ c.get.ensures.value ∙ entry_of-entries c.self.inside.entries.entries c.args.name.now ∙ ap (λ es. entry_of es c.args.name.now) c.self.view_is
