use Rattle.std.proofs.Common.{◌≡◌, ◌+◌, ◌-◌, ◌++◌, [], ◌∷◌, sym, ap, ◌∙◌, arith}
use Rattle.word_machine.specs.declared.view.View.{View}
use Rattle.atomic_table.specs.Table.{Me}
use Rattle.word_machine.specs.Desk.{DeskState, new_pass}
use Rattle.word_machine.specs.Views.{desk_of}
use Rattle.word_machine.proofs.Keeps.{splits}
use Rattle.word_machine.proofs.Passes.{cut_left, desk_stays, replicate-push}
use Rattle.word_machine.proofs.desk.Desk.deal.Goals as goal

pub split_seat-one-requires : goal.split_seat-one-requires
split_seat-one-requires c =
    let table = c.self.inside.table.shared in
    let words = c.self.invariant.0 in
    let seats : c.self.inside.size.seats ≡ c.args.self.now.seats = ap (λ (d : DeskState). d.seats) c.self.view_is in
    let more = c.loop-test.true in
    let some_left : c.loop.seat.me.0.seats ≡ c.args.self.now.seats + 1 - c.loop.counter = ap (λ (m : Me (Unit {0}) View). m.0.seats) c.loop.invariant.left in (
      ap (λ (d : DeskState). d.id) (c.loop.invariant.of_desk ∙ sym c.self.view_is),
      omega arith,
      splits table.key c.loop.seat.id c.loop.seat.me.0 (omega arith) (ap (λ (m : Me (Unit {0}) View). m.0.ended) c.loop.invariant.left),
    )

pub loop-preserved : goal.loop-preserved
loop-preserved c =
    let before = c.loop.seat in
    let kept = c.split_seat-one.new.seat in
    let one = c.split_seat-one.result in
    let told = c.split_seat-one.ensures in
    let counts = c.loop.auto.counter in record {
      of_desk = desk_stays before.table_id kept.table_id before.me kept.me c.args.self.now told.0 (ap (λ (m : Me (Unit {0}) View). m.0.size) told.2) c.loop.invariant.of_desk;
      left = cut_left before.me kept.me _ _ c.loop.invariant.left told.2 (omega arith);
      dealt =
          let of_desk : desk_of one ≡ c.args.self.now = desk_stays before.table_id one.table_id before.me one.me c.args.self.now told.3 (ap (λ (m : Me (Unit {0}) View). m.0.size) told.4) c.loop.invariant.of_desk in
          c.in_ok-push.ensures.items
          ∙ (ap (λ l. l ++ c.new.result ∷ []) c.loop.invariant.dealt
          ∙ replicate-push (c.loop.counter - 1) _ (new_pass c.args.self.now) c.new.result (c.new.ensures ∙ ap new_pass of_desk) (omega arith));
    }

pub returns : goal.returns
returns c =
    let counts = c.loop.auto.counter in
    let ends = c.loop.auto.counter-end in
    let past = c.loop-test.false in
    let some_seat = c.self.invariant.3 in
    let seats : c.self.inside.size.seats ≡ c.args.self.now.seats = ap (λ (d : DeskState). d.seats) c.self.view_is in
    c.in_ok-push-2.ensures.items
    ∙ (ap (λ l. l ++ c.new-2.result ∷ []) c.loop.invariant.dealt
    ∙ replicate-push (c.loop.counter - 1) _ (new_pass c.args.self.now) c.new-2.result (c.new-2.ensures ∙ ap new_pass c.loop.invariant.of_desk) (omega arith))
