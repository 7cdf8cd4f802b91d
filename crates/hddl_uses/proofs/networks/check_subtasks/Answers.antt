use Rattle.std.proofs.Common.{◌≡◌, ◌≤◌, ◌∙◌, List, Some, ap, arith, length, map, refl, subst, sym}
use Rattle.std.proofs.lemmas.List.{length-map}
use Rattle.hddl_words.specs.Places.{place_of}
use Rattle.hddl_words.specs.declared.network.SubtaskText.{SubtaskText}
use Rattle.hddl_meaning.specs.Mentions.{Mention, folded}
use Rattle.hddl_meaning.specs.Items.{most_subtasks, subtask_mentions, IsPast}
use Rattle.hddl_meaning.specs.declared.fault.CheckFault.TheVariants.{TooMany}
use Rattle.hddl_scope.specs.Findings.{Finds}
use Rattle.hddl_scope.proofs.Adding.{added_at, added_nowhere}
use Rattle.hddl_scope.proofs.Cuts.{none_past, past_mapped, past_once}
use Rattle.hddl_uses.proofs.networks.check_subtasks.Goals as goal

pub returns-in_ok-push : goal.returns-in_ok-push
returns-in_ok-push c =
    let looked = c.in-Some.ensures.lookup in
    let mention : SubtaskText → Mention = λ s. record { text = folded s.task.name.text; place = place_of s } in
    let past : Finds (IsPast most_subtasks (subtask_mentions c.args.network.now)) (Some c.place.result) =
    subst (λ (ss : List SubtaskText). Finds (IsPast most_subtasks (map mention ss)) (Some c.place.result)) c.as_slice.ensures
    (past_mapped most_subtasks mention c.as_slice.result.now c.in-Some.subtask.now c.place.result looked.3.0 looked.1 c.place.ensures) in
    added_at TooMany c.args.context.now.source c.place.result c.at.result past.sound
    (λ other h. past_once most_subtasks (subtask_mentions c.args.network.now) c.place.result other past.sound h) c.at.ensures c.in_ok-push.ensures

pub returns-in_default : goal.returns-in_default
returns-in_default c =
    let mention : SubtaskText → Mention = λ s. record { text = folded s.task.name.text; place = place_of s } in
    let looked : length c.as_slice.result.now ≤ most_subtasks = c.in_default.ensures.lookup.3 in
    let long : length (subtask_mentions c.args.network.now) ≡ length c.as_slice.result.now =
    length-map c.args.network.now.subtasks mention ∙ ap (λ (l : List SubtaskText). length l) (sym c.as_slice.ensures) in
    added_nowhere TooMany c.args.context.now.source (λ place h. none_past most_subtasks (subtask_mentions c.args.network.now) place (omega (arith, looked, long)) h) refl
