use Rattle.std.proofs.Common.{◌≡◌, ◌<◌, ◌++◌, ◌+◌, ◌∷◌, [], ℕ, suc, length, None, get_or, take, ap, ap₂, refl, sym, subst, ◌∙◌, arith}
use Rattle.std.proofs.Math.Seq.{take-suc}
use Rattle.htn_model.specs.Problem.{is_before}
use Rattle.htn_model.specs.Choice.{is_free}
use Rattle.network_table.specs.Numbered.{Numbered, nothing}
use Rattle.network_table.specs.Networks.{children, numbered_at}
use Rattle.network_table.specs.Expansions.{AreRemovals}
use Rattle.network_table.specs.declared.expansion.Removal.{Removal}
use Rattle.network_table.proofs.Drafting.{known_there}
use Rattle.network_table.proofs.Expanding.{removals_push, within_at, free_within}
use Rattle.network_table.proofs.table.NetworkTable.noted_removals.Goals as goal

pub node_at-node-requires-clause-placed : goal.node_at-node-requires-clause-placed
node_at-node-requires-clause-placed c =
    let free = c.deref-position-items.result.now in
    let n = numbered_at c.args.self.now c.args.job.network in
    free_within (length n.nodes) (is_free (length n.nodes) (is_before n.order)) free (c.deref-position-items.ensures.value ∙ c.in_ok-free.ensures) c.loop-position.position-index c.loop-position-test.true

pub loop-position-preserved : goal.loop-position-preserved
loop-position-preserved c =
    let t = c.args.self.now in
    let job = c.args.job in
    let n = numbered_at t job.network in
    let free = c.deref-position-items.result.now in
    let k = c.loop-position.position-index in
    let i = get_or free k 0 in
    let x : Removal = record { node = c.node_at-node.result; network = c.in-Some.network } in
    let found = c.in-Some.ensures in
    let number =
    known_there t job c.args.notes _ c.in-Some.network (record { job = c.args.notes.job; position = i; instance = None }) found.0 nothing c.requires.noted found.1 found.2 found.3 refl refl in
    let placed =
    free_within (length n.nodes) (is_free (length n.nodes) (is_before n.order)) free (c.deref-position-items.ensures.value ∙ c.in_ok-free.ensures) k c.loop-position-test.true in
    let within = within_at t job.network c.requires.whole c.requires.known i 0 placed in
    let inside : c.node_at-node.result < length (children t) = omega (arith, within, c.node_at-node.ensures) in
    let before = take k free in
    let longer : take (k + 1) free ≡ before ++ i ∷ [] = (let e : k + 1 ≡ suc k = omega arith in ap (λ j. take j free) e ∙ take-suc free k 0 c.loop-position-test.true) in
    subst (λ ys. AreRemovals t n (take (k + 1) free) ys) (sym c.in_ok-push.ensures.items)
    (subst (λ ps. AreRemovals t n ps (c.loop-position.removals.items ++ x ∷ [])) (sym longer)
    (removals_push t n before c.loop-position.removals.items i x c.loop-position.invariant (number.0, inside) (ap₂ (λ (id : ℕ) (m : Numbered). (id, m)) c.node_at-node.ensures number.1)))
