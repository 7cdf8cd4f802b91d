use Rattle.std.proofs.Common.{◌≡◌, ℕ, true, false, cond, ltb, ◌+◌, ◌<◌, ◌++◌, [], ◌∷◌, sym, ap, ap₂, ◌∙◌, subst, arith}
use Rattle.std.proofs.lemmas.Bool.Decides.{nat_tests}
use Rattle.atomic_table.specs.Table.{Me}
use Rattle.atomic_table.specs.Seated.{TableId}
use Rattle.word_machine.specs.declared.view.View.{View}
use Rattle.word_machine.specs.Desk.{DeskState, PassState, times}
use Rattle.word_machine.specs.Views.{state_of, desk_of, drew, ended_view}
use Rattle.word_machine.proofs.Keeps.{draws_keep}
use Rattle.word_machine.proofs.Passes.{pieces_same, all_of_times}
use Rattle.word_machine.proofs.desk.Desk.claim.Goals as goal
use Rattle.word_machine.proofs.desk.Desk.claim.Goals.{Then-number-self, After-pass-1, After-fetch_add-arg-1}

pub fetch_add-number-requires : goal.fetch_add-number-requires
fetch_add-number-requires c =
    let seat = c.pass.inside.seat in
    let table = c.self.inside.table.shared in
    let same : desk_of seat ≡ record { id = table.table_id; pieces = c.self.inside.size.pieces; seats = c.self.inside.size.seats } = ap (λ (p : PassState). p.desk) c.pass.view_is ∙ (c.requires.own ∙ sym c.self.view_is) in
    let words = c.self.invariant.0 in
    let running : c.pass.inside.ended ≡ false = ap (λ (p : PassState). p.ended) c.pass.view_is ∙ c.requires.not_ended in
    (ap (λ (d : DeskState). d.id) same, omega arith, draws_keep table.key table.table_id.slots seat.id seat.me c.pass.invariant.1 (c.pass.invariant.2 ∙ ap (λ b. cond b 1 0) running))

-- the seat's view after a draw that got a number
drew_is : (c : Then-number-self) → c.fetch_add-number.new.seat.me ≡ (drew c.pass.inside.seat.me.0 c.fetch_add-number.result, c.pass.inside.seat.me.1)
drew_is c =
    let me : Me (Unit {0}) View = c.pass.inside.seat.me in
    let n : ℕ = c.fetch_add-number.result in
    let same : me.0.size.pieces ≡ c.self.inside.size.pieces = pieces_same c.args.pass.now c.args.self.now me.0 _ _ c.pass.inside.ended c.self.inside.size c.pass.view_is c.requires.own c.self.view_is in
    let below = c.if-number-self.true in
    let test : ltb n me.0.size.pieces ≡ true = grind (arith, nat_tests) in
    c.fetch_add-number.ensures.2.0 ∙ ap (λ b. let m : Me (Unit {0}) View = (cond b (drew me.0 n) (ended_view me.0), me.1) in m) test

-- the seat's view after a draw that found the end
ended_is : (c : After-pass-1) → c.fetch_add-number.new.seat.me ≡ (ended_view c.pass.inside.seat.me.0, c.pass.inside.seat.me.1)
ended_is c =
    let me : Me (Unit {0}) View = c.pass.inside.seat.me in
    let n : ℕ = c.fetch_add-number.result in
    let same : me.0.size.pieces ≡ c.self.inside.size.pieces = pieces_same c.args.pass.now c.args.self.now me.0 _ _ c.pass.inside.ended c.self.inside.size c.pass.view_is c.requires.own c.self.view_is in
    let past = c.if-number-self.false in
    let test : ltb n me.0.size.pieces ≡ false = grind (arith, nat_tests) in
    c.fetch_add-number.ensures.2.0 ∙ ap (λ b. let m : Me (Unit {0}) View = (cond b (drew me.0 n) (ended_view me.0), me.1) in m) test

pub invariant_of-pass : goal.invariant_of-pass
invariant_of-pass c =
    let is = drew_is c in let kept = c.pass.invariant in
    (ap (λ (m : Me (Unit {0}) View). m.1) is ∙ kept.0, ap (λ (m : Me (Unit {0}) View). m.0.seats) is ∙ kept.1, ap (λ (m : Me (Unit {0}) View). m.0.ended) is ∙ kept.2)

pub invariant_of-pass-else-number-self : goal.invariant_of-pass-else-number-self
invariant_of-pass-else-number-self c =
    let is = ended_is c in let kept = c.pass.invariant in
    let running : c.pass.inside.ended ≡ false = ap (λ (p : PassState). p.ended) c.pass.view_is ∙ c.requires.not_ended in
    let none : c.pass.inside.seat.me.0.ended ≡ 0 = kept.2 ∙ ap (λ b. cond b 1 0) running in
    (ap (λ (m : Me (Unit {0}) View). m.1) is ∙ kept.0, ap (λ (m : Me (Unit {0}) View). m.0.seats) is ∙ kept.1, ap (λ (m : Me (Unit {0}) View). m.0.ended) is ∙ ap (λ (k : ℕ). k + 1) none)

pub returns-then-number-self-clause-some : goal.returns-then-number-self-clause-some
returns-then-number-self-clause-some c =
    let n : ℕ = c.fetch_add-number.result in
    let below = c.if-number-self.true in
    let pieces : c.self.inside.size.pieces ≡ c.args.self.now.pieces = ap (λ (d : DeskState). d.pieces) c.self.view_is in (
      omega arith,
      ap₂ (λ (id : TableId) (m : Me (Unit {0}) View). state_of id m.0 c.pass.inside.ended) c.fetch_add-number.ensures.0 (drew_is c)
          ∙ ap (λ (p : PassState). let q : PassState = record p { drawn = p.drawn ++ n ∷ [] } in q) c.pass.view_is,
    )

pub returns-else-number-self-clause-none : goal.returns-else-number-self-clause-none
returns-else-number-self-clause-none c =
    ap₂ (λ (id : TableId) (m : Me (Unit {0}) View). state_of id m.0 true) c.fetch_add-number.ensures.0 (ended_is c)
    ∙ ap (λ (p : PassState). let q : PassState = record p { ended = true } in q) c.pass.view_is

pub returns-then-number-self-clause-rising : goal.returns-then-number-self-clause-rising
returns-then-number-self-clause-rising c =
    all_of_times (λ x. x < c.fetch_add-number.result) c.args.pass.now.drawn
    (λ x h. c.fetch_add-number.ensures.2.1 x (subst (λ (p : PassState). 0 < times x p.drawn) (sym c.pass.view_is) h))
