use Rattle.std.proofs.Common.{◌≡◌, ◌∙◌, ℕ, List, sym, subst, length, IfSome}
use Rattle.hddl_names.specs.Closures.{along_lines, AreCarried, HaveOwn}
use Rattle.hddl_names.specs.Intervals.{Tell, AreTops}
use Rattle.hddl_names.proofs.Junctions.{tells}
use Rattle.hddl_names.proofs.Nested.{none}
use Rattle.hddl_names.proofs.closure.Closure.of.Goals as goal

pub returns : goal.returns
returns c =
    let n = length c.args.parents.now in
    let junctions = c.in_ok-junctions.junctions.keys in
    let lines = along_lines junctions c.args.pairs.now in
    let sets = c.in_ok-sets.sets.items in
    tells c.args.pairs.now c.args.parents.now c.args.children.now n
    (record { junctions = junctions; intervals = c.in-Some.lines.intervals.items; tops = c.in-Some.lines.tops.items; sets = sets })
    c.requires.below
    (sym c.row_or_empty.ensures ∙ none c.row_or_empty.result.now (sym c.is_empty.ensures ∙ c.if-not-is_empty.false))
    c.requires.parents c.requires.children
    (subst (λ o. IfSome o (λ x. length x.intervals.items ≡ c.len.result)) c.in-Some.is c.in_ok-lines.ensures.len ∙ c.len.ensures)
    (subst (λ o. IfSome o (λ x. Tell lines x.intervals.items)) c.in-Some.is c.in_ok-lines.ensures.tell)
    (subst (λ m. AreTops lines m c.in-Some.lines.tops.items) c.len.ensures (subst (λ o. IfSome o (λ x. AreTops lines c.len.result x.tops.items)) c.in-Some.is c.in_ok-lines.ensures.tops))
    (c.in_ok-sets.ensures c.args.pairs.now c.requires.children)
    (subst (λ (js : List ℕ). HaveOwn js sets) c.as_slice-else-len-2.ensures.keys (subst (λ (xs : List (List ℕ)). HaveOwn c.as_slice-else-len-2.result.now xs) c.as_slice-else-len.ensures.value (c.have_own.ensures.0 c.if-not-have_own.false)))
    (subst (λ (xs : List (List ℕ)). AreCarried c.args.children.now xs) c.as_slice-else-not-have_own.ensures.value (c.are_carried.ensures.0 c.if-not-are_carried.false))
