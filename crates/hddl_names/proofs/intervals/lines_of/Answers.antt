use Rattle.std.proofs.Common.{ℕ, sym, ap, ◌∙◌, subst, List, length}
use Rattle.hddl_names.specs.Intervals.{AreTiled, StandAtPlaces, HaveTops}
use Rattle.hddl_names.specs.declared.intervals.Interval.{Interval}
use Rattle.hddl_names.proofs.Nested.{none, told}
use Rattle.hddl_names.proofs.intervals.lines_of.Goals as goal

pub returns : goal.returns
returns c =
    let intervals = c.as_slice-intervals.ensures.value in
    told c.args.parents.now c.args.children.now c.in_ok-walk.walk.intervals.items c.in_ok-walk.walk.tops.items c.as_slice.result.now c.requires
    (sym c.row_or_empty.ensures ∙ none c.row_or_empty.result.now (sym c.is_empty.ensures ∙ c.if-not-is_empty.false))
    (ap length (sym intervals) ∙ c.if-intervals-len.false ∙ c.len.ensures)
    (subst (λ (xs : List Interval). AreTiled xs c.args.children.now) intervals (c.are_tiled.ensures.0 c.if-not-are_tiled.false))
    (subst (λ (xs : List Interval). StandAtPlaces xs c.as_slice.result.now) intervals (c.stand_at_places.ensures.0 c.if-not-stand_at_places.false))
    (subst (λ (xs : List Interval). HaveTops xs c.in_ok-walk.walk.tops.items c.args.parents.now) intervals
    (subst (λ (ts : List ℕ). HaveTops c.as_slice-intervals.result.now ts c.args.parents.now) c.as_slice-else-not-stand_at_places.ensures.value (c.have_tops.ensures.0 c.if-not-have_tops.false)))
