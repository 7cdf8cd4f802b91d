use Rattle.std.proofs.Common.{◌∙◌, ap, sym, subst}
use Rattle.htn_model.specs.PlanWord.{IsName}
use Rattle.hddl_meaning.specs.Mentions.{folded}
use Rattle.hddl_names.proofs.PlanNames.{folded_name}
use Rattle.pair_messages.proofs.summary.add_name.Goals as goal

pub declare-requires : goal.declare-requires
declare-requires c = subst IsName (sym (c.in_ok-text.ensures ∙ ap folded c.text.ensures.value)) (folded_name c.args.name.now.text c.text.ensures.name)
