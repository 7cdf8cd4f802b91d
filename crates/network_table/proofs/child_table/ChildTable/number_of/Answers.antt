use Rattle.std.proofs.Common.{◌∙◌, ◌≤◌, sym, [], Some, ap, arith}
use Rattle.std.specs.Ordering.{on}
use Rattle.htn_model.specs.Problem.{child_eq}
use Rattle.htn_model.specs.Equality.{child_eq-decides}
use Rattle.htn_ground.specs.Views.{child_view}
use Rattle.htn_ground.specs.declared.child.Child.TheVariants.{Precondition}
use Rattle.network_table.proofs.Keys.{absent_view, found_view, late_view, none_either}
use Rattle.network_table.proofs.child_table.ChildTable.number_of.Goals as goal

pub returns-in_err-place-clause-none : goal.returns-in_err-place-clause-none
returns-in_err-place-clause-none c =
    none_either c.from_residual.result
    (λ id low at. absent_view (on child_view child_eq) child_view (λ a b. child_eq-decides (child_view a) (child_view b)) (Precondition []) c.args.child.now c.args.self.now.children.keys
    (sym c.in_err-place.ensures.index) id at.0 at.1)

pub returns-in_default-clause-none : goal.returns-in_default-clause-none
returns-in_default-clause-none c = λ id low at.
    let far : 4294967296 ≤ c.in_ok-place.place = omega (arith, c.in_default.ensures) in
    late_view (on child_view child_eq) child_view (λ a b. child_eq-decides (child_view a) (child_view b)) (Precondition []) c.args.child.now c.args.self.now.children.keys
    c.in_ok-place.place (sym c.in_ok-place.ensures.index) id (omega (arith, low, far)) at.0 at.1

pub returns-clause-some : goal.returns-clause-some
returns-clause-some c =
    found_view (on child_view child_eq) child_view (λ a b. child_eq-decides (child_view a) (child_view b)) (Precondition []) c.args.child.now c.args.self.now.children.keys
    c.in-Ok.id (sym c.in_ok-place.ensures.index ∙ ap Some (sym c.in-Ok.ensures.1))
