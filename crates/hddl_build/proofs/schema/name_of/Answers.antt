use Rattle.std.proofs.Common.{◌∙◌, ap, sym, subst}
use Rattle.htn_model.specs.PlanWord.{IsName}
use Rattle.hddl_meaning.specs.Mentions.{folded}
use Rattle.hddl_names.proofs.PlanNames.{folded_name}
use Rattle.hddl_build.proofs.schema.name_of.Goals as goal

pub new-requires : goal.new-requires
new-requires c =
    subst IsName (sym (c.as_slice.ensures ∙ c.in_ok-text.ensures ∙ ap folded c.text.ensures.value)) (folded_name c.args.name.now.text c.text.ensures.name)
