use Rattle.std.proofs.Common.{◌≡◌, ◌∙◌, List, ap, arith, subst, sym}
use Rattle.network_table.proofs.Expanding.{grown_itself}
use Rattle.state_table.specs.Table.{IsLater}
use Rattle.state_table.proofs.States.{later_more}
use Rattle.heuristics.specs.StoredNeeds.{AreKept, AreNodes, AreWants}
use Rattle.heuristics.specs.ListedNeeds.{AreChainsOf}
use Rattle.heuristics.specs.Prospects.{outlook_by}
use Rattle.heuristics.specs.declared.node.Node.{Node}
use Rattle.heuristics.specs.declared.needs_table.NeedsTable.{NeedsTable}
use Rattle.heuristics.proofs.FoundNeeds.{known_then}
use Rattle.heuristics.proofs.StoredNeeds.{keeps_later}
use Rattle.heuristics.proofs.NotedNeeds.{chains_grown, first_wants, nodes_more_atoms, wants_later}
use Rattle.heuristics.proofs.needs_table.NeedsTable.keep_up_all.Goals as goal

pub keep_goal-requires : goal.keep_goal-requires
keep_goal-requires g c = c.requires.noted.goals

pub keep_nodes-requires : goal.keep_nodes-requires
keep_nodes-requires g c =
    let n = c.args.prospects.now in
    let t = c.args.networks.now in
    let did = c.in_ok-keep_goal.ensures in
    subst (λ (ns : List Node). AreNodes n c.keep_goal.new.atoms t ns) (ap (λ (x : NeedsTable). x.nodes.items) (sym did.rest))
    (nodes_more_atoms n c.args.atoms.now c.keep_goal.new.atoms t c.args.self.now.nodes.items did.later c.requires.noted.nodes)

pub returns-clause-later : goal.returns-clause-later
returns-clause-later g c = later_more c.args.atoms.now c.keep_goal.new.atoms c.keep_nodes.new.atoms c.in_ok-keep_goal.ensures.later c.in_ok-keep_nodes.ensures.later

pub returns-clause-kept : goal.returns-clause-kept
returns-clause-kept g c =
    let p = c.args.prospects.now in
    let o = outlook_by p in
    let t = c.args.networks.now in
    let s = c.args.self.now in
    let u = c.keep_nodes.new.self in
    let atoms = c.keep_nodes.new.atoms in
    let did = c.in_ok-keep_goal.ensures in
    let then = c.in_ok-keep_nodes.ensures in
    let grown : IsLater c.args.atoms.now atoms = later_more c.args.atoms.now c.keep_goal.new.atoms atoms did.later then.later in
    let are : u ≡ record s { goals = c.keep_goal.new.self.goals; nodes = u.nodes } = then.rest ∙ ap (λ (x : NeedsTable). record x { nodes = u.nodes }) did.rest in
    let before : AreKept o atoms t u =
    subst (AreKept o atoms t) (sym are) (keeps_later o s.goal c.args.atoms.now atoms t t s.needs.items grown c.requires.whole (grown_itself t) c.requires.kept) in
    let first = chains_grown p c.args.atoms.now atoms t t s grown c.requires.whole (grown_itself t) c.requires.kept.within c.requires.noted.chains in
    let chains : AreChainsOf p atoms t u = subst (AreChainsOf p atoms t) (sym are) (record { as_many = first.as_many; each = first.each }) in
    let wanted : AreWants p.needs atoms u.goals.items u.goal =
    subst (λ (x : NeedsTable). AreWants p.needs atoms x.goals.items x.goal) (sym are)
    (wants_later p.needs c.keep_goal.new.atoms atoms c.keep_goal.new.self.goals.items s.goal then.later did.goals) in
    let now = c.in_ok-keep_networks_all.ensures.followed.right atoms c.len-count.ensures.table then.nodes wanted before chains in
    record {
      kept = now.0;
      all = (let low = now.0.within in let high = c.in_ok-keep_networks_all.ensures.count in omega (arith, low, high));
    }

pub returns-clause-noted : goal.returns-clause-noted
returns-clause-noted g c =
    let p = c.args.prospects.now in
    let o = outlook_by p in
    let t = c.args.networks.now in
    let s = c.args.self.now in
    let u = c.keep_nodes.new.self in
    let v = c.keep_networks_all.new.self in
    let atoms = c.keep_nodes.new.atoms in
    let did = c.in_ok-keep_goal.ensures in
    let then = c.in_ok-keep_nodes.ensures in
    let grown : IsLater c.args.atoms.now atoms = later_more c.args.atoms.now c.keep_goal.new.atoms atoms did.later then.later in
    let are : u ≡ record s { goals = c.keep_goal.new.self.goals; nodes = u.nodes } = then.rest ∙ ap (λ (x : NeedsTable). record x { nodes = u.nodes }) did.rest in
    let before : AreKept o atoms t u =
    subst (AreKept o atoms t) (sym are) (keeps_later o s.goal c.args.atoms.now atoms t t s.needs.items grown c.requires.whole (grown_itself t) c.requires.kept) in
    let first = chains_grown p c.args.atoms.now atoms t t s grown c.requires.whole (grown_itself t) c.requires.kept.within c.requires.noted.chains in
    let chains : AreChainsOf p atoms t u = subst (AreChainsOf p atoms t) (sym are) (record { as_many = first.as_many; each = first.each }) in
    let wanted : AreWants p.needs atoms u.goals.items u.goal =
    subst (λ (x : NeedsTable). AreWants p.needs atoms x.goals.items x.goal) (sym are)
    (wants_later p.needs c.keep_goal.new.atoms atoms c.keep_goal.new.self.goals.items s.goal then.later did.goals) in
    let followed = c.in_ok-keep_networks_all.ensures.followed in
    let known = known_then p t u v atoms followed then.nodes wanted in
    record {
      nodes = known.0;
      goals = first_wants p.needs atoms v.goals.items v.goal known.1;
      chains = (followed.right atoms c.len-count.ensures.table then.nodes wanted before chains).1;
    }

pub returns-clause-goal : goal.returns-clause-goal
returns-clause-goal g c =
    c.in_ok-keep_networks_all.ensures.followed.goal ∙ ap (λ (x : NeedsTable). x.goal) c.in_ok-keep_nodes.ensures.rest ∙ ap (λ (x : NeedsTable). x.goal) c.in_ok-keep_goal.ensures.rest
