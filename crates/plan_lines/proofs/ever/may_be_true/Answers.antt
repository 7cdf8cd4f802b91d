use Rattle.std.proofs.Common.{◌≡◌, Bor, List, map, subst, ℕ}
use Rattle.htn_model.specs.Atom.{Atom}
use Rattle.htn_model.specs.Instances.{ground_atom}
use Rattle.htn_model.specs.PlanFile.{IsIn}
use Rattle.htn_model.specs.Schema.{AtomSchema}
use Rattle.htn_task.specs.declared.term.AtomSchema as declared
use Rattle.plan_lines.specs.Turns.{IsEverTrue}
use Rattle.plan_lines.specs.Given.{Extends}
use Rattle.plan_lines.proofs.Gathering.{in_mapped}
use Rattle.plan_lines.proofs.Searched.{if_some}
use Rattle.plan_lines.proofs.ever.may_be_true.Goals as goal

abbrev at : Bor declared.AtomSchema → AtomSchema
at r = r.now

pub returns-then-not-has : goal.returns-then-not-has
returns-then-not-has c e values h ever =
    let schema = c.schema-item.result.now in
    let same : ground_atom values schema ≡ c.in-Some.atom =
    if_some (λ (a : Atom). (v : List ℕ) → Extends v c.args.given.now → ground_atom v schema ≡ a) c.in_ok-atom.field-0 c.in-Some.atom c.in-Some.is c.in_ok-atom.ensures values h in
    let there : IsIn schema (map at c.args.atoms.now) = in_mapped at c.args.atoms.now c.loop-schema.schema-index c.schema-item.result c.loop-schema-test.true c.schema-item.is in
    let clash = c.if-not-has.ensures.1 (subst (IsEverTrue c.args.ever.now) same (ever schema there)) in
    absurd cc
