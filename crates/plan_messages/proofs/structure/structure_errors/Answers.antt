use Rattle.std.proofs.Common.{◌∙◌, ◌++◌, ap, subst, sym}
use Rattle.std.specs.List.{AllZip}
use Rattle.htn_model.specs.PlanFile.{IsWithoutRepeats}
use Rattle.plan_messages.specs.Explanation.{IsNumberError}
use Rattle.plan_messages.specs.Mentions.{defined_at, listed_at}
use Rattle.plan_messages.proofs.structure.structure_errors.Goals as goal

pub defined_errors-requires : goal.defined_errors-requires
defined_errors-requires c = subst IsWithoutRepeats (sym c.as_slice.ensures.value) c.requires.defined_twice

pub listed_errors-requires : goal.listed_errors-requires
listed_errors-requires c = subst IsWithoutRepeats (sym c.as_slice-2.ensures.value) c.requires.listed_twice

pub listed_errors-requires-2 : goal.listed_errors-requires-2
listed_errors-requires-2 c = subst IsWithoutRepeats (sym c.as_slice-3.ensures.value) c.requires.undefined

pub defined_errors-requires-2 : goal.defined_errors-requires-2
defined_errors-requires-2 c = subst IsWithoutRepeats (sym c.as_slice-4.ensures.value) c.requires.unlisted

pub returns : goal.returns
returns c =
    let p = c.args.plan.now in
    let a = c.in_ok-errors.errors.items in
    let b = c.in_ok-listed.listed.items in
    let u = c.in_ok-undefined.undefined.items in
    let d = c.in_ok-unlisted.unlisted.items in
    let e = c.in_ok-last.last.items in
    record {
      defined_twice = a;
      listed_twice = b;
      undefined = u;
      unlisted = d;
      last = e;
      whole = c.in_ok-append-4.ensures.items ∙ ap (λ l. l ++ e) (c.in_ok-append-3.ensures.items ∙ ap (λ l. l ++ d) (c.in_ok-append-2.ensures.items ∙ ap (λ l. l ++ u) c.in_ok-append.ensures.items));
      of_defined_twice = subst (λ xs. AllZip (IsNumberError p (defined_at p)) xs a) c.as_slice.ensures.value c.in_ok-errors.ensures;
      of_listed_twice = subst (λ xs. AllZip (IsNumberError p (listed_at p)) xs b) c.as_slice-2.ensures.value c.in_ok-listed.ensures;
      of_undefined = subst (λ xs. AllZip (IsNumberError p (listed_at p)) xs u) c.as_slice-3.ensures.value c.in_ok-undefined.ensures;
      of_unlisted = subst (λ xs. AllZip (IsNumberError p (defined_at p)) xs d) c.as_slice-4.ensures.value c.in_ok-unlisted.ensures;
      of_unreached = c.in_ok-last.ensures;
    }
