use Rattle.std.proofs.Common.{◌≡◌, ◌∙◌, ◌+◌, suc, All, IsSome, take, get_or, ap, sym, subst, arith}
use Rattle.std.proofs.Math.Seq.{take-suc}
use Rattle.std.proofs.lemmas.List.{take_all}
use Rattle.std.proofs.lemmas.List.Elements.{All-push}
use Rattle.state_table.proofs.States.{later_more}
use Rattle.network_table.specs.declared.expansion.Removal.{Removal}
use Rattle.network_table.proofs.Expanding.{all_more}
use Rattle.task_machine.specs.Tables.{slot}
use Rattle.task_machine.proofs.performer.prepare_nodes.Goals as goal

pub loop-removal-preserved : goal.loop-removal-preserved
loop-removal-preserved c =
    let i = c.loop-removal.invariant in
    let removals = c.args.removals.now in
    let k = c.loop-removal.removal-index in
    let no : Removal = record { node = 0; network = 0 } in
    let did = c.in_ok-prepare_node.ensures in
    let before : Removal → Type 0 = λ r. IsSome (slot c.loop-removal.performers.items r.node) in
    let after : Removal → Type 0 = λ r. IsSome (slot c.prepare_node.new.performers.items r.node) in
    let e : k + 1 ≡ suc k = omega arith in record {
      later = later_more c.args.atoms.now c.loop-removal.atoms c.prepare_node.new.atoms i.later did.later;
      performers = did.performers;
      kept = λ n has. did.kept n (i.kept n has);
      there = subst (All after) (sym (ap (λ j. take j removals) e ∙ take-suc removals k no c.loop-removal-test.true))
          (All-push after (take k removals) (get_or removals k no) (all_more before after (λ r has. did.kept r.node has) (take k removals) i.there) did.there);
    }

pub returns-clause-there : goal.returns-clause-there
returns-clause-there c =
    let there : Removal → Type 0 = λ r. IsSome (slot c.loop-removal.performers.items r.node) in
    subst (All there) (take_all c.loop-removal.removal-index c.args.removals.now (omega (arith, c.loop-removal-test.false))) c.loop-removal.invariant.there
