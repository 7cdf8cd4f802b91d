use Rattle.std.proofs.Common.{get_or}
use Rattle.htn_model.specs.Grounding.{problem_of}
use Rattle.state_table.proofs.States.{later_set}
use Rattle.task_machine.specs.Steps.{live_networks}
use Rattle.task_machine.proofs.Blocks.{all_known_later}
use Rattle.task_machine.proofs.Owned.{atoms_later, known_expansion, literals_later, performed_all}
use Rattle.task_machine.proofs.tables.Tables.prepare_block.Goals as goal

pub prepare_all_performers-requires-clause-known : goal.prepare_all_performers-requires-clause-known
prepare_all_performers-requires-clause-known g c =
    all_known_later c.args.self.now.networks c.expand_block.new.self.networks c.requires.own.networks c.in_ok-expand_block.ensures.later.networks c.args.block.now c.requires.known

pub prepare_all_performers-requires-clause-nodes : goal.prepare_all_performers-requires-clause-nodes
prepare_all_performers-requires-clause-nodes g c = λ k d inside e is.
    let t = c.args.task.now in
    let u = c.expand_block.new.self in
    let did = c.in_ok-expand_block.ensures in
    let block = c.args.block.now in
    let n = get_or block k d in
    let known = all_known_later c.args.self.now.networks u.networks c.requires.own.networks did.later.networks block c.requires.known k d inside in
    known_expansion (live_networks t) u.networks n e (did.expanded.sound n e known is)

pub returns-clause-owned : goal.returns-clause-owned
returns-clause-owned g c =
    let t = c.args.task.now in
    let u = c.expand_block.new.self in
    let own = c.in_ok-expand_block.ensures.expanded in
    let did = c.in_ok-prepare_all_performers.ensures in
    let atoms = c.prepare_all_performers.new.atoms in
    let new = c.prepare_all_performers.new.performers.items in
    record {
      atoms = atoms_later t u.atoms atoms did.later own.atoms;
      numbering = own.numbering;
      sets = λ i words at. later_set u.atoms atoms did.later words (own.sets i words at);
      networks = own.networks;
      sound = own.sound;
      goal = literals_later t u.atoms atoms did.later u.goal (problem_of t).goal own.goal;
      performers = did.performers;
      performed = performed_all u.networks c.args.block.now u.performers.items new own.performed did.kept did.there;
      instances = own.instances;
    }
