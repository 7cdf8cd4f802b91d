use Rattle.std.proofs.Common.{◌≡◌, ◌∙◌, IfSome, Some, ap, slice_get, subst, sym}
use Rattle.hddl_meaning.specs.declared.fault.CheckFault.{CheckFault}
use Rattle.hddl_scope.specs.Findings.{Adds, Finds, Kept}
use Rattle.hddl_check.specs.Faults.{IsFirst, IsNamed, PairFails}
use Rattle.hddl_check.proofs.Gathering.{first_comes_first, first_finds, some_of}
use Rattle.hddl_check.proofs.Whole.{named_is_first}
use Rattle.hddl_check.proofs.pair.fault_of.Goals as goal

pub returns : goal.returns
returns c =
    let d = c.args.domain.now in
    let p = c.args.problem.now in
    let after = c.find_faults.new.found in
    let O : CheckFault → Type 0 = λ _. ⊥ in
    let start = subst (λ (k : Kept). Adds O (PairFails d p) k after) c.first-found.ensures c.in_ok-find_faults.ensures.added in
    let is = c.copied.ensures ∙ c.first.ensures.value ∙ ap (λ l. slice_get l 0) c.faults.ensures in
    let finds = first_finds O (PairFails d p) after start in
    let named : (f : CheckFault) → slice_get after.faults 0 ≡ Some f → IsNamed d p f = λ f e.
    (subst (λ o. IfSome o (PairFails d p)) e finds.sound, first_comes_first O (PairFails d p) after f e start) in
    record {
      finds = subst (Finds (PairFails d p)) (sym is) finds;
      first = subst (λ o. IfSome o (IsFirst d p)) (sym is) (some_of (slice_get after.faults 0) (λ f e. named_is_first d p c.in_ok-find_faults.ensures.known f (named f e)));
      named = subst (λ o. IfSome o (IsNamed d p)) (sym is) (some_of (slice_get after.faults 0) named);
    }
