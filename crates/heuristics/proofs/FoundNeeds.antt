-- What workers find of networks, put down.
use Rattle.std.proofs.Common.{◌≡◌, ◌<◌, ◌∙◌, ◌∷◌, ◌++◌, [], Bool, List, None, Option, ap, get_or, length, sym, subst, true, ℕ}
use Rattle.htn_model.specs.Literal.{Literal}
use Rattle.htn_model.specs.Problem.{Network}
use Rattle.state_table.specs.declared.compiled.CompiledLiterals.{CompiledLiterals}
use Rattle.state_table.proofs.States.{later_itself}
use Rattle.heuristics.specs.declared.want_table.WantTable.{WantTable}
use Rattle.heuristics.proofs.StoredNeeds.{keeps_push}
use Rattle.heuristics.proofs.ListedNeeds.{listed_grown}
use Rattle.network_table.specs.Networks.{network_at}
use Rattle.network_table.specs.declared.table.NetworkTable.{NetworkTable}
use Rattle.state_table.specs.Table.{IsTable, Table}
use Rattle.heuristics.specs.FoundNeeds.{IsFound}
use Rattle.heuristics.specs.StoredNeeds.{AreNodes, AreWants, IsKept, Keeps}
use Rattle.heuristics.specs.ListedNeeds.{AreChainsListed, AreChainsOf, AreFollowed, AreMoreWants, IsListed, chain_at, list_at}
use Rattle.heuristics.specs.Prospects.{outlook_by}
use Rattle.heuristics.specs.declared.keep_up_all.Found.{Found}
use Rattle.heuristics.specs.declared.node.Node.{Node}
use Rattle.heuristics.specs.declared.prospects.Prospects.{Prospects}
use Rattle.heuristics.specs.declared.needs_table.NeedsTable.{NeedsTable}
use Rattle.heuristics.specs.declared.wants.Want.{Want}

-- what is known of nodes and the goal is known after more is kept
pub known_then : (p : Prospects) (networks : NetworkTable) (s t : NeedsTable) (atoms : Table) → AreFollowed p networks s t → AreNodes p atoms networks s.nodes.items
    → AreWants p.needs atoms s.goals.items s.goal → AreNodes p atoms networks t.nodes.items × AreWants p.needs atoms t.goals.items t.goal
known_then p networks s t atoms first nodes goals = (
  subst (λ (ns : List Node). AreNodes p atoms networks ns) (ap (λ v. v.items) (sym first.nodes)) nodes,
  subst (λ (l : List Literal). AreWants p.needs atoms t.goals.items l) (sym first.goal)
      (subst (λ (ws : List Want). AreWants p.needs atoms ws s.goal) (ap (λ v. v.items) (sym first.goals)) goals),
)

-- nothing more is kept at first
pub followed_itself : (p : Prospects) (networks : NetworkTable) (t : NeedsTable) → AreFollowed p networks t t
followed_itself p networks t = record { goal = λ i. t.goal; goals = λ i. t.goals; nodes = λ i. t.nodes; right = λ atoms table nodes goals kept chains. (kept, chains) }

-- more is kept, and then more
pub followed_then : (p : Prospects) (networks : NetworkTable) (s t u : NeedsTable) → AreFollowed p networks s t → AreFollowed p networks t u → AreFollowed p networks s u
followed_then p networks s t u first second = record {
  goal = second.goal ∙ first.goal;
  goals = second.goals ∙ first.goals;
  nodes = second.nodes ∙ first.nodes;
  right = λ atoms table nodes goals kept chains.
      (let now = first.right atoms table nodes goals kept chains in
      let known = known_then p networks s t atoms first nodes goals in
      second.right atoms table known.0 known.1 now.0 now.1);
}

-- what chains need by ids stays right as more wants get ids
chains_more : (p : Prospects) (atoms : Table) (is_chain : ℕ → Bool) (network : ℕ → Network) (t : NeedsTable) (wanted : WantTable) → IsTable atoms
    → AreMoreWants t.wanted.wants.items wanted.wants.items → AreChainsListed p atoms is_chain network t → AreChainsListed p atoms is_chain network (record t { wanted = wanted })
chains_more p atoms is_chain network t wanted table more are = record {
  as_many = are.as_many;
  each = λ number low chained.
      listed_grown p t.goal atoms atoms t.wanted.wants.items wanted.wants.items (network number) (get_or t.needs.items number None) (list_at t number) (later_itself atoms table) more
      (are.each number low chained);
}

-- what the next network needs is kept
module _ (p : Prospects) (networks : NetworkTable) (s u v : NeedsTable) (number : ℕ) (needed : Option CompiledLiterals) (ids : List ℕ) (next : number ≡ length s.needs.items)
    (low : number < length networks.networks) (more : AreMoreWants s.wanted.wants.items u.wanted.wants.items) (u_is : u ≡ record s { wanted = u.wanted })
    (pushed : v.needs.items ≡ u.needs.items ++ needed ∷ [])
    (chains : (known : Prospects) (atoms : Table) (is_chain : ℕ → Bool) (network : ℕ → Network) → IsTable atoms
    → (is_chain (length u.needs.items) ≡ true → IsListed known u.goal atoms u.wanted.wants.items (network (length u.needs.items)) needed ids)
    → AreChainsListed known atoms is_chain network u → AreChainsListed known atoms is_chain network v)
    (v_is : v ≡ record u { needs = v.needs; lists = v.lists })
    (kept : (atoms : Table) → AreNodes p atoms networks s.nodes.items → AreWants p.needs atoms s.goals.items s.goal → AreChainsOf p atoms networks s
    → IsKept (outlook_by p) s.goal atoms (network_at networks number) needed)
    (listed : (atoms : Table) → AreNodes p atoms networks s.nodes.items → AreWants p.needs atoms s.goals.items s.goal → AreChainsOf p atoms networks s → chain_at networks number ≡ true
    → IsListed p s.goal atoms u.wanted.wants.items (network_at networks number) needed ids) where
  pub followed_next : AreFollowed p networks s v
  followed_next = record {
    goal = ap (λ (t : NeedsTable). t.goal) v_is ∙ ap (λ (t : NeedsTable). t.goal) u_is;
    goals = ap (λ (t : NeedsTable). t.goals) v_is ∙ ap (λ (t : NeedsTable). t.goals) u_is;
    nodes = ap (λ (t : NeedsTable). t.nodes) v_is ∙ ap (λ (t : NeedsTable). t.nodes) u_is;
    right = λ atoms table nodes goals is_kept are.
        (let o = outlook_by p in
        let needs_are : u.needs.items ≡ s.needs.items = ap (λ (t : NeedsTable). t.needs.items) u_is in
        let goal_is : u.goal ≡ s.goal = ap (λ (t : NeedsTable). t.goal) u_is in
        let goal_too : v.goal ≡ s.goal = ap (λ (t : NeedsTable). t.goal) v_is ∙ goal_is in
        let here = kept atoms nodes goals are in
        let at : number ≡ length u.needs.items = next ∙ ap length (sym needs_are) in
        let all =
        keeps_push o s.goal atoms networks s.needs.items v.needs.items needed (subst (λ k. k < length networks.networks) next low)
        (subst (λ k. IsKept o s.goal atoms (network_at networks k) needed) next here) (pushed ∙ ap (λ l. l ++ needed ∷ []) needs_are) is_kept in
        let before =
        subst (AreChainsListed p atoms (chain_at networks) (network_at networks)) (sym u_is) (chains_more p atoms (chain_at networks) (network_at networks) s u.wanted table more are) in (
          subst (λ (g : List Literal). Keeps o g atoms networks v.needs.items) (sym goal_too) all,
          chains p atoms (chain_at networks) (network_at networks) table (λ told.
              subst (λ (g : List Literal). IsListed p g atoms u.wanted.wants.items (network_at networks (length u.needs.items)) needed ids) (sym goal_is)
              (subst (λ k. IsListed p s.goal atoms u.wanted.wants.items (network_at networks k) needed ids) at (listed atoms nodes goals are (ap (chain_at networks) at ∙ told)))) before,
        ));
  }

-- what was found is right where more is kept
pub found_then : (p : Prospects) (networks : NetworkTable) (s t : NeedsTable) (found : Found) → AreFollowed p networks s t → IsFound p s networks found → IsFound p t networks found
found_then p networks s t found first is = record {
  known = is.known;
  other = is.other;
  right = λ atoms nodes goals.
      (let back = subst (λ (ns : List Node). AreNodes p atoms networks ns) (ap (λ v. v.items) first.nodes) nodes in
      let wants =
      subst (λ (ws : List Want). AreWants p.needs atoms ws s.goal) (ap (λ v. v.items) first.goals)
      (subst (λ (l : List Literal). AreWants p.needs atoms t.goals.items l) first.goal goals) in
      subst (λ (l : List Literal). IsKept (outlook_by p) l atoms (network_at networks found.number) found.needed) (sym first.goal) (is.right atoms back wants));
}
