use Rattle.std.proofs.Common.{ℕ, ◌<◌, List, length, subst, sym}
use Rattle.call_proof.proofs.Ruled.{IsListed, listed_rules}
use Rattle.call_proof.proofs.rules.are_rules_at.Goals as goal

pub returns-in-Task : goal.returns-in-Task
returns-in-Task c = λ instances t own.
    (let n = c.args.nodes.now in
    let i = c.args.site.now.state in
    let j = c.args.site.now.number in
    let found = c.in-Some.ensures.some t own in
    let inside : i < length n.states = subst (λ (ss : List (List ℕ)). i < length ss) c.states.ensures c.if-site-states.false in
    listed_rules t n i j c.args.rules.now found.0 c.in-Some.operator.now c.as_slice.result.now inside found.1 found.2
    (subst (λ o. IsListed o c.as_slice.result.now) (sym c.in-Task.is) (sym c.as_slice.ensures.value)) (c.are_instances.ensures instances))
