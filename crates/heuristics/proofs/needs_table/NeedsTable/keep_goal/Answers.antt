use Rattle.std.proofs.Common.{◌∙◌, List, ap, arith, length, subst, sym}
use Rattle.std.proofs.lemmas.List.{length-map}
use Rattle.htn_model.specs.Literal.{Literal}
use Rattle.htn_task.specs.Literals.{literal_of}
use Rattle.state_table.proofs.States.{later_itself}
use Rattle.heuristics.specs.StoredNeeds.{AreWants}
use Rattle.heuristics.proofs.NotedNeeds.{all_wants}
use Rattle.heuristics.proofs.needs_table.NeedsTable.keep_goal.Goals as goal

pub returns-then-known-wanted-clause-later : goal.returns-then-known-wanted-clause-later
returns-then-known-wanted-clause-later c = later_itself c.args.atoms.now c.len-count.ensures.table

pub returns-then-known-wanted-clause-goals : goal.returns-then-known-wanted-clause-goals
returns-then-known-wanted-clause-goals c =
    let s = c.args.self.now in
    let count = sym (length-map c.as_slice-goal.result.now literal_of) ∙ ap length c.as_slice-goal.ensures in
    let all = c.len-known.ensures ∙ s.goals.ok.0 in
    all_wants c.args.needs.now c.args.atoms.now s.goals.items s.goal (omega (arith, count, all, c.if-known-wanted.true)) c.requires

pub returns-clause-goals : goal.returns-clause-goals
returns-clause-goals c =
    subst (λ (l : List Literal). AreWants c.args.needs.now c.wants_of.new.atoms c.in_ok-wants.wants.items l) c.as_slice-goal.ensures c.in_ok-wants.ensures.wants
