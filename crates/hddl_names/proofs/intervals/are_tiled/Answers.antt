use Rattle.std.proofs.Common.{◌≡◌, ◌<◌, ◌∙◌, suc, [], sym, ap, subst, arith, get_or}
use Rattle.std.proofs.lemmas.Bool.{true≢false}
use Rattle.hddl_names.specs.Intervals.{AreTiled, start_of, end_of}
use Rattle.hddl_names.specs.declared.intervals.Interval.{Interval}
use Rattle.hddl_names.proofs.Nested.{tile_rises, tile_own}
use Rattle.hddl_names.proofs.intervals.are_tiled.Goals as goal
use Rattle.hddl_names.proofs.intervals.are_tiled.Goals.{then-own-via-then-own, then-own-via-else-own+then-not-tile}

pub returns-then-own : goal.returns-then-own
returns-then-own c =
    let number = c.loop-number.number in
    let row = get_or c.args.children.now number [] in
    let own = c.interval_of-own.ensures in
    let refused : AreTiled c.args.intervals.now c.args.children.now → ⊥ = λ tiled.
    let tile = tiled number c.loop-number.auto.number (subst (λ n. number < n) c.len-number-end.ensures c.loop-number-test.true) in
    elim c.then-own.branch [
      | then-own-via-then-own w ↦
          let rises = tile_rises c.args.intervals.now row (suc (start_of c.args.intervals.now number)) (end_of c.args.intervals.now number) tile in
          let empty = w.if-own.true in
          let starts : c.interval_of-own.result.start ≡ start_of c.args.intervals.now number = ap (λ (i : Interval). i.start) own in
          let ends : c.interval_of-own.result.end ≡ end_of c.args.intervals.now number = ap (λ (i : Interval). i.end) own in
          omega (arith, rises, empty, starts, ends)
      | then-own-via-else-own+then-not-tile w ↦
          true≢false (sym (w.tile.ensures.1 ((tile_own c.args.intervals.now c.args.children.now number w.row.result.now c.interval_of-own.result own w.row.ensures.value).1 tile)) ∙ w.if-not-tile.true)
    ] in
    (λ e. absurd (true≢false (sym e)), λ tiled. absurd (refused tiled))
