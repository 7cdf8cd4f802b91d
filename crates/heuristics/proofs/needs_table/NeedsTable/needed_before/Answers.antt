use Rattle.std.proofs.Common.{◌∙◌, ◌≡◌, List, Option, None, ℕ, ap, ap₂, get_or, false, true, subst, sym}
use Rattle.std.specs.Prelude.{is_some}
use Rattle.htn_model.specs.Choice.{child_of}
use Rattle.heuristics.specs.Chains.{led_by}
use Rattle.heuristics.specs.Places.{all_needed}
use Rattle.network_table.specs.Networks.{children}
use Rattle.state_table.specs.Compiled.{is_met}
use Rattle.state_table.specs.declared.compiled.CompiledLiterals.{CompiledLiterals}
use Rattle.heuristics.specs.ListedNeeds.{AreListed, IsListed, all_pass, list_at}
use Rattle.heuristics.specs.Prospects.{outlook_by}
use Rattle.heuristics.specs.declared.wants.Want.{Want}
use Rattle.heuristics.proofs.ListedNeeds.{first_blocked, listed_led, rest_blocked}
use Rattle.heuristics.proofs.NotedNeeds.{node_at}
use Rattle.heuristics.proofs.needs_table.NeedsTable.needed_before.Goals as goal

pub returns-then-node-clause-listed : goal.returns-then-node-clause-listed
returns-then-node-clause-listed c = λ atoms networks n chained nodes kept.
    let p = c.args.prospects.now in
    let t = c.args.self.now in
    let x = child_of (children networks) c.args.first in
    let is = node_at p atoms networks t.nodes.items c.args.first c.index-node.result.now c.requires c.index-node.ensures nodes in
    subst (λ (needed : Option CompiledLiterals). IsListed p t.goal atoms t.wanted.wants.items (led_by x n) needed c.never.result.ids.items) (sym c.never.ensures)
    (first_blocked p t.goal atoms x n c.index-node.result.now is c.if-node.true)

pub returns-then-not-has_needs-clause-listed : goal.returns-then-not-has_needs-clause-listed
returns-then-not-has_needs-clause-listed c = λ atoms networks n chained nodes kept.
    let p = c.args.prospects.now in
    let t = c.args.self.now in
    let x = child_of (children networks) c.args.first in
    let rest = c.args.rest in
    let none : is_some (get_or t.needs.items rest None) ≡ false =
    ap (λ (l : List (Option CompiledLiterals)). is_some (get_or l rest None)) (sym c.as_slice.ensures.value) ∙ sym c.has_needs.ensures ∙ c.if-not-has_needs.true in
    subst (λ (needed : Option CompiledLiterals). IsListed p t.goal atoms t.wanted.wants.items (led_by x n) needed c.never-then-not-has_needs.result.ids.items) (sym c.never-then-not-has_needs.ensures)
    (rest_blocked p t.goal atoms x n t.wanted.wants.items (get_or t.needs.items rest None) (list_at t rest) none kept)

pub returns-clause-listed : goal.returns-clause-listed
returns-clause-listed c = λ atoms networks n chained nodes kept.
    let p = c.args.prospects.now in
    let t = c.args.self.now in
    let x = child_of (children networks) c.args.first in
    let rest = c.args.rest in
    let node = c.index-node.result.now in
    let is = node_at p atoms networks t.nodes.items c.args.first node c.requires c.index-node.ensures nodes in
    let old = t.wanted.wants.items in
    let new = c.needed_before.new.table.wants.items in
    let there : is_some (get_or t.needs.items rest None) ≡ true =
    ap (λ (l : List (Option CompiledLiterals)). is_some (get_or l rest None)) (sym c.as_slice.ensures.value) ∙ sym c.has_needs.ensures ∙ c.if-not-has_needs.false in
    let ids_are : c.ids_at-kept.result.now ≡ list_at t rest = rw c.as_slice-2.ensures.value at c.ids_at-kept.ensures in
    listed_led p t.goal atoms x n old new node (get_or t.needs.items rest None) (list_at t rest) c.in_ok-needed.needed c.in_ok-ids.ids.items is c.if-node.false there kept
    (λ given. c.in_ok-ids.ensures.listed t.goal atoms x n is chained
    (subst (λ (ids : List ℕ). AreListed p.needs atoms old ids (all_needed (outlook_by p) t.goal n)) (sym ids_are) given))
    (λ words. c.in_ok-needed.ensures words ∙ ap₂ (all_pass (λ (w : Want). is_met words w.literal)) c.as_slice-3.ensures.value c.as_slice-4.ensures.value)
