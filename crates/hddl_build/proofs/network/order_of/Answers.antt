use Rattle.std.proofs.Common.{◌++◌, ◌∙◌, List, ℕ, ap₂, sym, subst}
use Rattle.htn_order.specs.Closure.{IsAcyclic, successors}
use Rattle.hddl_build.proofs.Pairs.{ordered_pairs, unordered_pairs}
use Rattle.hddl_build.proofs.network.order_of.Goals as goal

pub chain_of-chain-requires-clause-acyclic : goal.chain_of-chain-requires-clause-acyclic
chain_of-chain-requires-clause-acyclic c =
    subst IsAcyclic
    (ordered_pairs c.args.network.now c.if-network.true
    ∙ ap₂ (λ (n : ℕ) (l : List (ℕ × ℕ)). successors n ++ l) (sym c.len-size.ensures) (sym (c.deref.ensures.value ∙ c.in_ok-pairs.ensures)))
    c.requires

pub closure_of-requires-clause-acyclic : goal.closure_of-requires-clause-acyclic
closure_of-requires-clause-acyclic c =
    subst IsAcyclic (unordered_pairs c.args.network.now c.if-network.false ∙ sym (c.deref-2.ensures.value ∙ c.in_ok-pairs.ensures)) c.requires
