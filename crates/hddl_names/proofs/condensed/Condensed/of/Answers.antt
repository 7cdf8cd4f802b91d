use Rattle.std.proofs.Common.{◌∙◌, ℕ, List, Option, IfSome, sym, subst, length}
use Rattle.htn_order.specs.Closure.{AreBelow}
use Rattle.hddl_names.specs.Closures.{Closure, Tells}
use Rattle.hddl_names.specs.Heads.{AreHeads, TellsAll, head_pairs}
use Rattle.hddl_names.proofs.Heads.{level_below, level_heads, tells_heads, tells_own}
use Rattle.hddl_names.proofs.condensed.Condensed.of.Goals as goal

pub returns-in-Some : goal.returns-in-Some
returns-in-Some c =
    let n = length c.args.parents.now in
    subst (λ (hs : List ℕ). TellsAll c.args.pairs.now n (record { heads = hs; closure = c.in-Some.closure })) (sym c.new-heads.ensures.items)
    (tells_own c.args.pairs.now n c.in-Some.closure c.requires.root (subst (λ (o : Option Closure). IfSome o (Tells c.args.pairs.now n)) c.in-Some.is c.in_ok-closure.ensures))

pub heads_of-requires : goal.heads_of-requires
heads_of-requires c =
    let n = length c.args.parents.now in
    subst (λ m. AreBelow m c.deref-2.result.now) (sym c.len.ensures)
    (subst (AreBelow n) (sym (c.deref-2.ensures.value ∙ c.in_ok-level.ensures)) (level_below n c.deref.result.now c.args.pairs.now c.requires.below))

pub returns-in-Some-2 : goal.returns-in-Some-2
returns-in-Some-2 c =
    let n = length c.args.parents.now in
    let pairs = c.args.pairs.now in
    let heads = c.in_ok-heads.heads.items in
    let closure = c.in-Some-2.closure in
    let told = subst (λ (o : Option Closure). IfSome o (Tells (head_pairs c.deref-3.result.now pairs) c.len-2.result)) c.in-Some-2.is c.in_ok-closure-2.ensures in
    tells_heads pairs n heads closure
    (level_heads pairs n c.deref.result.now heads
    (subst (λ (ps : List (ℕ × ℕ)). AreHeads ps n heads) (c.deref-2.ensures.value ∙ c.in_ok-level.ensures)
    (subst (λ m. AreHeads c.deref-2.result.now m heads) c.len.ensures c.in_ok-heads.ensures)))
    c.requires.root
    (subst (λ (hs : List ℕ). Tells (head_pairs hs pairs) n closure) c.deref-3.ensures.value
    (subst (λ m. Tells (head_pairs c.deref-3.result.now pairs) m closure) c.len-2.ensures told))
