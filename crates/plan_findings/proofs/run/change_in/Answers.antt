use Rattle.std.proofs.Common.{◌∙◌, Bool, List, ap, map, subst}
use Rattle.htn_model.specs.Atom.{Atom}
use Rattle.plan_lines.specs.Turns.{truth}
use Rattle.plan_findings.specs.Runs.{AreFacts}
use Rattle.plan_findings.proofs.Differing.{added_are, deleted_are}
use Rattle.plan_findings.proofs.run.change_in.Goals as goal

pub returns : goal.returns
returns c = λ before same.
    let t = c.args.task.now in
    let h = c.args.turns.now in
    let action = c.args.action.now in
    let was : Atom → Bool = λ a. truth h a c.args.gap in
    record {
      added = subst (λ (atoms : List Atom). AreFacts t atoms c.in_ok-added.added.items)
          (ap (map (λ a. a.now)) c.as_slice.ensures.value ∙ c.in_ok-new.ensures ∙ added_are before action was same) c.in_ok-added.ensures;
      deleted = subst (λ (atoms : List Atom). AreFacts t atoms c.in_ok-deleted.deleted.items)
          (ap (map (λ a. a.now)) c.as_slice-2.ensures.value ∙ c.in_ok-old.ensures ∙ deleted_are before action was same) c.in_ok-deleted.ensures;
    }
