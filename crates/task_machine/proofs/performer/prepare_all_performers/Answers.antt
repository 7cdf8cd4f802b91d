use Rattle.std.proofs.Common.{◌≡◌, ℕ, All, Some, take, subst, arith}
use Rattle.std.proofs.lemmas.List.{take_all}
use Rattle.std.proofs.lemmas.List.Elements.{All-more}
use Rattle.state_table.proofs.States.{later_more}
use Rattle.network_table.specs.Networks.{expansion_at}
use Rattle.network_table.specs.declared.expansion.Expansion.{Expansion}
use Rattle.network_table.proofs.Expanding.{all_more}
use Rattle.task_machine.specs.Tables.{HasPerformers}
use Rattle.task_machine.proofs.Owned.{atoms_later, has_more}
use Rattle.task_machine.proofs.performer.prepare_all_performers.Goals as goal

pub prepare_performers-requires-clause-atoms : goal.prepare_performers-requires-clause-atoms
prepare_performers-requires-clause-atoms c = atoms_later c.args.task.now c.args.atoms.now c.loop-network.atoms c.loop-network.invariant.later c.requires.atoms

pub prepare_performers-requires-clause-known : goal.prepare_performers-requires-clause-known
prepare_performers-requires-clause-known c = c.requires.known c.loop-network.network-index 0 c.loop-network-test.true

pub prepare_performers-requires-clause-nodes : goal.prepare_performers-requires-clause-nodes
prepare_performers-requires-clause-nodes c = c.requires.nodes c.loop-network.network-index 0 c.loop-network-test.true

pub loop-network-preserved : goal.loop-network-preserved
loop-network-preserved c =
    let i = c.loop-network.invariant in
    let networks = c.args.networks.now in
    let block = c.args.block.now in
    let k = c.loop-network.network-index in
    let old = c.loop-network.performers.items in
    let new = c.prepare_performers.new.performers.items in
    let did = c.in_ok-prepare_performers.ensures in
    let before : ℕ → Type 0 = λ n. (e : Expansion) → expansion_at networks n ≡ Some e → HasPerformers old e in
    let after : ℕ → Type 0 = λ n. (e : Expansion) → expansion_at networks n ≡ Some e → HasPerformers new e in
    record {
      later = later_more c.args.atoms.now c.loop-network.atoms c.prepare_performers.new.atoms i.later did.later;
      performers = did.performers;
      kept = λ n has. did.kept n (i.kept n has);
      there = All-more after block k 0 c.loop-network-test.true
          (all_more before after (λ n has e is. has_more old new did.kept e (has e is)) (take k block) i.there) did.there;
    }

pub returns-clause-there : goal.returns-clause-there
returns-clause-there c =
    let there : ℕ → Type 0 = λ n. (e : Expansion) → expansion_at c.args.networks.now n ≡ Some e → HasPerformers c.loop-network.performers.items e in
    subst (All there) (take_all c.loop-network.network-index c.args.block.now (omega (arith, c.loop-network-test.false))) c.loop-network.invariant.there
