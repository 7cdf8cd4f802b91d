use Rattle.std.proofs.Common.{◌+◌, subst, sym, take}
use Rattle.std.proofs.lemmas.List.{take_all}
use Rattle.hddl_scope.specs.Findings.{Adds, Kept}
use Rattle.hddl_uses.specs.Contexts.{AnyArgumentFails}
use Rattle.hddl_uses.proofs.Arguing.{next_placed, next_unplaced, no_arguments}
use Rattle.hddl_uses.proofs.arguments.check_arguments.Goals as goal
use Rattle.hddl_uses.proofs.arguments.check_arguments.Goals.{in-Some+in_ok-check_argument-in-Some, in-None+in_ok-check_term-in-None}

pub loop-index-init : goal.loop-index-init
loop-index-init c = no_arguments c.args.context.now c.args.scope.now c.args.places.now

pub loop-index-preserved : goal.loop-index-preserved
loop-index-preserved c =
    let context = c.args.context.now in
    let w = c.args.scope.now in
    let terms = c.args.arguments.now in
    let places = c.args.places.now in
    let k = c.loop-index.index in
    let x = c.index-arguments-index.result in
    let Next = λ (kept : Kept). Adds (λ _. ⊥) (AnyArgumentFails context w (take (k + 1) terms) places) c.args.found.now kept in
    elim c.match-get.branch [
      | in-Some+in_ok-check_argument-in-Some b ↦
          let looked = b.in-Some.ensures.lookup in
          subst Next (sym b.found-is)
          (next_placed context w terms places k x c.loop-index-test.true c.index-arguments-index.is b.in-Some.place.now looked.3.0 looked.1 c.loop-index.invariant
          b.in_ok-check_argument-in-Some.ensures)
      | in-None+in_ok-check_term-in-None b ↦
          let looked = b.in-None.ensures.lookup in
          subst Next (sym b.found-is)
          (next_unplaced context w terms places k x c.loop-index-test.true c.index-arguments-index.is looked.3 c.loop-index.invariant b.in_ok-check_term-in-None.ensures)
    ]

pub returns : goal.returns
returns c =
    subst (λ l. Adds (λ _. ⊥) (AnyArgumentFails c.args.context.now c.args.scope.now l c.args.places.now) c.args.found.now c.loop-index.found)
    (take_all c.loop-index.index c.args.arguments.now c.loop-index-test.false) c.loop-index.invariant
