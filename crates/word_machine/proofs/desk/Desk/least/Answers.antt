use Rattle.std.proofs.Common.{◌≡◌, ℕ, ◌+◌, ◌<◌, ◌≤◌, false, cond, ltb, subst, arith, ap, ap₂, ◌∙◌}
use Rattle.std.proofs.lemmas.Bool.Decides.{nat_tests}
use Rattle.std.proofs.lemmas.Option.{IfSome_then}
use Rattle.atomic_table.specs.Table.{Me}
use Rattle.atomic_table.specs.Seated.{TableId}
use Rattle.word_machine.specs.declared.view.View.{View}
use Rattle.word_machine.specs.Desk.{PassState, times}
use Rattle.word_machine.specs.Views.{no_place, state_of, saw}
use Rattle.word_machine.proofs.Keeps.{looks_keep}
use Rattle.word_machine.proofs.Passes.{table_same, empty_of_times, all_of_times, none_then}
use Rattle.word_machine.proofs.desk.Desk.least.Goals as goal
use Rattle.word_machine.proofs.desk.Desk.least.Goals.{After-place_of}

pub load-place-requires : goal.load-place-requires
load-place-requires c =
    let seat = c.pass.inside.seat in
    let table = c.self.inside.table.shared in
    let words = c.self.invariant.0 in (
      table_same c.args.pass.now c.args.self.now seat.me.0 seat.table_id table.table_id c.pass.inside.ended c.self.inside.size c.pass.view_is c.requires.own c.self.view_is,
      omega arith,
      looks_keep table.key table.table_id.slots seat.id seat.me c.pass.invariant.1,
    )

-- no place that the pass reported or saw is below the word
not_below : (c : After-place_of) (x : ℕ) → 0 < times x c.args.pass.now.reported + times x c.args.pass.now.seen → (c.load-place.result ≤ x) × (x < no_place)
not_below c x = subst (λ (p : PassState). 0 < times x p.reported + times x p.seen → (c.load-place.result ≤ x) × (x < no_place)) c.pass.view_is (c.load-place.ensures.2.1 x)

pub returns-clause-none : goal.returns-clause-none
returns-clause-none c =
    let me : Me (Unit {0}) View = c.pass.inside.seat.me in
    let found : ℕ = c.load-place.result in
    none_then c.place_of.result c.place_of.ensures.none (λ e.
    let test : ltb found no_place ≡ false = grind (arith, nat_tests) in
    let is = c.load-place.ensures.2.0 ∙ ap (λ b. let m : Me (Unit {0}) View = (cond b (saw me.0 found) me.0, me.1) in m) test in (
      ap₂ (λ (id : TableId) (m : Me (Unit {0}) View). state_of id m.0 c.pass.inside.ended) c.load-place.ensures.0 is ∙ c.pass.view_is,
      empty_of_times c.args.pass.now.reported (λ x h. let t = not_below c x (omega arith) in omega arith),
      empty_of_times c.args.pass.now.seen (λ x h. let t = not_below c x (omega arith) in omega arith),
    ))

pub returns-clause-lowest : goal.returns-clause-lowest
returns-clause-lowest c =
    IfSome_then c.place_of.result c.place_of.ensures.some (λ x h. (
      all_of_times (λ y. x ≤ y) c.args.pass.now.reported (λ y k. let t = not_below c y (omega arith) in omega arith),
      all_of_times (λ y. x ≤ y) c.args.pass.now.seen (λ y k. let t = not_below c y (omega arith) in omega arith),
    ))
