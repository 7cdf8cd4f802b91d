use Rattle.std.proofs.Common.{◌∙◌, Bool, List, ℕ, subst}
use Rattle.call_table.specs.Estimates.{AreEstimates}
use Rattle.call_table.specs.Lists.{Lists}
use Rattle.call_proof.specs.Ways.{IsBoundedWord}
use Rattle.call_proof.specs.Parts.{masks_of}
use Rattle.call_proof.proofs.Words.{least_in}
use Rattle.call_proof.proofs.least.is_least.Goals as goal

pub returns : goal.returns
returns c = λ is bound within.
    (let t = c.args.task.now in
    let n = c.args.nodes.now in
    let p = c.args.proposal.now in
    let starts = c.args.starts.now in
    let own = c.requires.nodes in
    let framed = c.in_ok-are_framed.ensures c.if-not-branch.false in
    let same = c.in_ok-ends.ensures t own in
    let typed = c.objects-typed.ensures.typed in
    let most : List Bool → Type 0 = λ es. AreEstimates n.lists p.whole.table es 4294967295 p.whole.values in
    let are = subst most (c.deref.ensures.value ∙ same)
    (subst (λ (l : Lists). AreEstimates l p.whole.table c.deref.result.now 4294967295 p.whole.values) c.lists-lists.ensures.value (c.are_estimates.ensures c.if-not-are_estimates.false)) in
    let word : List ℕ → List Bool → Type 0 = λ w es. IsBoundedWord n.lists p.whole.table p.whole.values es starts w in
    let shown = subst (word p.whole.word.items) (c.deref-2.ensures.value ∙ same)
    (subst (λ w. word w c.deref-2.result.now) c.deref-3.ensures.value (c.in_ok-is_least.ensures is)) in
    least_in t n (masks_of c.args.frames.now) p.table p.whole.table p.whole.values 4294967295 starts typed own framed
    c.requires.starts are p.whole.word.items shown bound within)
