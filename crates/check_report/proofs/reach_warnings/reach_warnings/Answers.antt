use Rattle.std.proofs.Common.{◌∙◌, ◌++◌, ap, map, subst}
use Rattle.std.specs.List.{AllZip}
use Rattle.check_report.specs.ReachWarnings.{AreNoPlanWarnings, IsNeverAppliedWarning, causes}
use Rattle.check_report.proofs.reach_warnings.reach_warnings.Goals as goal

pub returns : goal.returns
returns c =
    let tells = IsNeverAppliedWarning c.args.texts.now in
    let ms = c.in_ok-warnings.warnings.items in
    let acts = c.in_ok-more.more.items in
    let last = c.in_ok-last.last.items in
    record {
      methods = ms;
      actions = acts;
      last = last;
      whole = c.in_ok-append-2.ensures.items ∙ ap (λ xs. xs ++ last) c.in_ok-append.ensures.items;
      of_methods = subst (λ xs. AllZip tells (causes (map (λ m. m.name.place) xs) c.args.findings.now.methods.items) ms) c.as_slice.ensures
          (subst (λ us. AllZip tells (causes (map (λ m. m.name.place) c.as_slice.result.now) us) ms) c.as_slice-3.ensures.value c.in_ok-warnings.ensures);
      of_actions = subst (λ xs. AllZip tells (causes (map (λ a. a.name.place) xs) c.args.findings.now.actions.items) acts) c.as_slice-2.ensures
          (subst (λ us. AllZip tells (causes (map (λ a. a.name.place) c.as_slice-2.result.now) us) acts) c.as_slice-4.ensures.value c.in_ok-more.ensures);
      of_problem = c.in_ok-last.ensures;
    }
