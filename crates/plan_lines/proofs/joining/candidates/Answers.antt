use Rattle.std.proofs.Common.{◌≡◌, ◌∙◌, List, Some, ap, map, slice_get, sym, ℕ}
use Rattle.htn_model.specs.Instances.{ground_atom, value_of}
use Rattle.htn_model.specs.Schema.{Term}
use Rattle.htn_task.specs.declared.term.Term.TheVariants.{Parameter}
use Rattle.plan_lines.proofs.Joined.{argument_is}
use Rattle.plan_lines.proofs.joining.candidates.Goals as goal
use Rattle.plan_lines.proofs.joining.candidates.Goals.{in-Some+then-listed-fewest, in-Some+else-listed-fewest, in_default}

pub loop-place-init : goal.loop-place-init
loop-place-init c values h ever = c.with_predicate-fewest.ensures (ground_atom values c.args.schema.now) ever (sym c.predicate-predicate.ensures)

pub loop-place-preserved : goal.loop-place-preserved
loop-place-preserved c =
    let place = c.loop-place.place in
    let terms = c.arguments-term-items.result.now in
    let schema = c.args.schema.now in
    elim c.match-object_of.branch [
      | in-Some+then-listed-fewest w ↦
          rw w.fewest-is
          (λ values h ever.
          let at : slice_get (ground_atom values schema).arguments place ≡ Some w.in-Some.object =
          ap (λ (ts : List Term). slice_get (map (value_of values) ts) place) (sym c.arguments-term-items.ensures)
          ∙ argument_is c.args.given.now values terms place (Parameter 0) w.in-Some.object c.loop-place-test.true (sym w.in-Some.ensures) h in
          w.with_argument-listed.ensures (ground_atom values schema) ever (sym c.predicate-predicate.ensures) at)
      | in-Some+else-listed-fewest w ↦ rw w.fewest-is c.loop-place.invariant
      | in_default w ↦ rw w.fewest-is c.loop-place.invariant
    ]
