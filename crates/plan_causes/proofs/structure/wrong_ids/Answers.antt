use Rattle.std.proofs.Common.{subst}
use Rattle.htn_model.specs.PlanFile.{defined_ids, listed_ids}
use Rattle.plan_causes.specs.Structure.{AreExactly, IsMissing}
use Rattle.plan_causes.proofs.Sets.{missing_of}
use Rattle.plan_causes.proofs.structure.wrong_ids.Goals as goal

pub returns : goal.returns
returns c =
    let file = c.args.file.now in
    let defined = c.defined_twice.new.met.keys in
    let listed = c.listed_twice.new.met.keys in
    let are_defined = c.in_ok-defined_twice.ensures.met in
    let are_listed = c.in_ok-listed_twice.ensures.met in
    record {
      defined_twice = c.in_ok-defined_twice.ensures.repeated;
      listed_twice = c.in_ok-listed_twice.ensures.repeated;
      undefined = missing_of (defined_ids file) (listed_ids file) defined listed c.in_ok-missing.field-0.items are_defined are_listed
          (subst (λ ids. AreExactly (IsMissing defined ids) c.in_ok-missing.field-0.items) c.as_slice.ensures.keys c.in_ok-missing.ensures);
      unlisted = missing_of (listed_ids file) (defined_ids file) listed defined c.in_ok-missing-2.field-0.items are_listed are_defined
          (subst (λ ids. AreExactly (IsMissing listed ids) c.in_ok-missing-2.field-0.items) c.as_slice-2.ensures.keys c.in_ok-missing-2.ensures);
    }
