use Rattle.std.proofs.Common.{◌∙◌, ap}
use Rattle.hddl_meaning.specs.Mentions.{folded}
use Rattle.hddl_build.specs.Labels.{position_in}
use Rattle.hddl_build.proofs.labels.Labels.position_of.Goals as goal

pub returns : goal.returns
returns c =
    c.copied.ensures ∙ c.get.ensures.value ∙ ap (position_in c.args.self.now) (c.as_slice.ensures ∙ c.in_ok-text.ensures ∙ ap folded c.text.ensures.value)
