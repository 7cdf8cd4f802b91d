use Rattle.std.proofs.Common.{◌≡◌, ◌∙◌, List, [], append-nil, ap, map, sym, subst}
use Rattle.htn_model.specs.Instance.{Instance}
use Rattle.htn_model.specs.Choice.{child_of}
use Rattle.htn_model.specs.Problem.{GroundTask, Network, task}
use Rattle.network_table.specs.Networks.{children}
use Rattle.state_table.proofs.States.{later_itself}
use Rattle.task_machine.specs.Growing.{StandFor}
use Rattle.task_machine.specs.Tables.{source_of}
use Rattle.task_machine.specs.declared.listing.Listing.{Listing}
use Rattle.task_machine.proofs.Owned.{later_tables_itself, listings_put, networks_listed, put_keeps, with_networks}
use Rattle.task_machine.proofs.Wider.{node_stays}
use Rattle.task_machine.proofs.tables.Tables.prepare_instances.Goals as goal

pub returns-then-is_taken-clause-later : goal.returns-then-is_taken-clause-later
returns-then-is_taken-clause-later c = later_tables_itself c.args.task.now c.args.self.now c.requires.own

pub returns-clause-owned : goal.returns-clause-owned
returns-clause-owned c =
    let t = c.args.task.now in
    let s = c.args.self.now in
    let u = c.number_networks.new.networks in
    let listing : Listing = record { networks = c.in_ok-networks.networks; sources = c.in_ok-sources.sources } in
    let wider = c.in_ok-networks.ensures.wider in
    let base = with_networks t s u wider c.requires.own in
    let stays = node_stays s.networks u wider.grown c.args.node c.requires.known in
    let found = λ (g : GroundTask) (stands : child_of (children u) c.args.node ≡ task g). c.in_ok-found.ensures.listed g (c.child.ensures ∙ sym stays.1 ∙ stands) in
    record {
      atoms = base.atoms;
      numbering = base.numbering;
      sets = base.sets;
      networks = base.networks;
      sound = base.sound;
      goal = base.goal;
      performers = base.performers;
      performed = base.performed;
      instances = listings_put t u s.instances.items c.put.new.slots.items c.args.node listing c.in_ok-put.ensures.here c.in_ok-put.ensures.others stays.0
          (λ g stands. record {
            networks = subst (λ (l : List Network). StandFor u c.in_ok-networks.networks.items l)
                (ap (map (λ (i : Instance). i.network)) (c.deref-2.ensures.value ∙ found g stands) ∙ networks_listed t g)
                c.in_ok-networks.ensures.networks;
            sources = c.in_ok-sources.ensures ∙ ap (map source_of) (c.deref-3.ensures.value ∙ found g stands);
          }) base.instances;
    }

pub returns-clause-later : goal.returns-clause-later
returns-clause-later c =
    let s = c.args.self.now in
    record {
      atoms = later_itself s.atoms c.requires.own.atoms.table;
      states = ([], sym (append-nil s.states));
      networks = c.in_ok-networks.ensures.wider.grown;
    }

pub returns-clause-kept : goal.returns-clause-kept
returns-clause-kept c =
    let old = c.args.self.now.instances.items in
    let new = c.put.new.slots.items in
    put_keeps old new c.args.node (record { networks = c.in_ok-networks.networks; sources = c.in_ok-sources.sources }) c.in_ok-put.ensures.here c.in_ok-put.ensures.others
