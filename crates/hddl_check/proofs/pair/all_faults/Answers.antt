use Rattle.std.proofs.Common.{◌≡◌, ◌⊎◌, ◌∙◌, [], List, Some, true, ap, inl, inr, slice_get, subst, sym}
use Rattle.std.proofs.lemmas.Option.{slice_get_within}
use Rattle.hddl_words.specs.declared.domain.DomainText.{DomainText}
use Rattle.hddl_meaning.specs.Mentions.{IsIn}
use Rattle.hddl_meaning.specs.Items.{FailsAt}
use Rattle.hddl_meaning.specs.declared.fault.CheckFault.{CheckFault}
use Rattle.hddl_meaning.proofs.Listed.{in_nothing}
use Rattle.hddl_uses.specs.Known.{AreKnown}
use Rattle.hddl_scope.specs.Findings.{Adds, Kept}
use Rattle.hddl_scope.specs.Ranks.{comes_before}
use Rattle.hddl_scope.proofs.Least.{first_in_order}
use Rattle.hddl_check.specs.Faults.{IsLeftOut, PairFails}
use Rattle.hddl_check.proofs.Gathering.{all_complete, all_none, all_sound, first_in, nothing_in, some_of}
use Rattle.hddl_check.proofs.Whole.{are_known, faults_decided, faults_sound, pair_is_well_typed}
use Rattle.hddl_check.proofs.pair.all_faults.Goals as goal

pub returns : goal.returns
returns c =
    let d = c.args.domain.now in
    let p = c.args.problem.now in
    let O : CheckFault → Type 0 = λ _. ⊥ in
    let P = PairFails d p in
    let after = c.in_ok-found.found in
    let start = c.in_ok-found.ensures.added in
    let known = c.in_ok-found.ensures.known in
    let all = c.in_ok-faults.faults.items in
    let to : (f : CheckFault) → IsIn f all → IsIn f after.faults = λ f at. subst (IsIn f) c.faults.ensures ((c.in_ok-faults.ensures.same f).0 at) in
    let back : (f : CheckFault) → IsIn f after.faults → IsIn f all = λ f at. (c.in_ok-faults.ensures.same f).1 (subst (IsIn f) (sym c.faults.ensures) at) in
    let holds : (f : CheckFault) → IsIn f all → FailsAt d p f = λ f at. faults_sound d p f (all_sound O P after start f (to f at)) in
    let found : (f : CheckFault) → IsIn f all → P f = λ f at. all_sound O P after start f (to f at) in
    let listed : (f : CheckFault) → P f → IsIn f all = λ f q.
    elim (all_complete O P after start f q) [ inl at ↦ back f at | inr gone ↦ absurd gone ] in
    let least : (f : CheckFault) → slice_get all 0 ≡ Some f → (g : CheckFault) → P g → comes_before g f ≡ true → ⊥ = λ f e g q.
    first_in_order all c.in_ok-faults.ensures.order f e g (listed g q) in
    let complete : (f : CheckFault) → FailsAt d p f → IsIn f all ⊎ IsLeftOut d p f = λ f h.
    elim (faults_decided d p known f h) [ inl q ↦ inl (listed f q) | inr out ↦ inr out ] in
    record {
      sound = holds;
      complete = complete;
      none = (
        λ e.
            let none : (f : CheckFault) → P f → ⊥ = all_none O P after start (λ f at. in_nothing f (subst (IsIn f) e (back f at))) in
            pair_is_well_typed d p none (are_known d p none),
        λ fits. nothing_in all (λ f at. fits f (holds f at)),
      );
      order = c.in_ok-faults.ensures.order;
      first = some_of (slice_get all 0) (λ f e g h before.
          elim (complete g h) [ inl at ↦ absurd (first_in_order all c.in_ok-faults.ensures.order f e g at before) | inr out ↦ out ]);
      found = λ f. (found f, listed f);
      named = some_of (slice_get all 0) (λ f e. (found f (first_in all f e), least f e));
    }
