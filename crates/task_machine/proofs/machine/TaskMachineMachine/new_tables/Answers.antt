use Rattle.std.proofs.Common.{◌∙◌, ap, length, sym}
use Rattle.heuristics.specs.Prospects.{outlook_by}
use Rattle.heuristics.proofs.StoredNeeds.{keeps_none}
use Rattle.heuristics.proofs.NotedNeeds.{noted_none}
use Rattle.task_machine.proofs.machine.TaskMachineMachine.new_tables.Goals as goal

pub returns : goal.returns
returns c =
    let m = c.args.self.now in
    let did = c.in_ok-tables.ensures in
    let found = c.in_ok-tables.tables in
    record {
      tables = did.own;
      sized = did.sized m.sizes;
      goal = did.goal;
      needed = record {
        kept = keeps_none (outlook_by m.prospects) found.needs.goal found.atoms found.networks found.needs.needs.items did.none.0;
        all = ap length did.none.0 ∙ sym (ap length did.none.1);
      };
      noted = noted_none m.prospects found.atoms found.networks found.needs did.nothing_noted.0 did.nothing_noted.1 did.none.0 did.nothing_noted.2;
    }
