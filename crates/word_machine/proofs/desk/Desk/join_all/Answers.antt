use Rattle.std.proofs.Common.{◌≡◌, ℕ, ◌+◌, List, ◌++◌, sum_by, All, Some, if◌then◌else◌, sym, ap, ◌∙◌, arith}
use Rattle.std.proofs.lemmas.List.Elements.{All-pop}
use Rattle.atomic_table.specs.Table.{Me}
use Rattle.word_machine.specs.declared.view.View.{View}
use Rattle.word_machine.specs.Desk.{DeskState, PassState, all_drawn, all_reported, all_seen}
use Rattle.word_machine.proofs.Keeps.{joins}
use Rattle.word_machine.proofs.Passes.{desk_stays, flat_map-taken, sum_by-taken, length-taken}
use Rattle.word_machine.proofs.desk.Desk.join_all.Goals as goal
use Rattle.word_machine.proofs.desk.Desk.join_all.Goals.{After-into_seat}

-- the passes that are left, and the one that was taken, are of this desk
owned : (c : After-into_seat) → All (λ (p : PassState). p.desk ≡ c.args.self.now) c.pop-in-loop-pass.new.self.items × (c.in-Some-pop.pass.desk ≡ c.args.self.now)
owned c = All-pop (λ (p : PassState). p.desk ≡ c.args.self.now) c.loop-pass.passes.items c.pop-in-loop-pass.new.self.items (Some c.in-Some-pop.pass) c.in-Some-pop.ensures.items c.loop-pass.invariant.own

-- how many of the passes ended
abbrev ended_of : List PassState → ℕ
ended_of passes = sum_by (λ p. if p.ended then 1 else 0) passes

pub join_seat-requires : goal.join_seat-requires
join_seat-requires c =
    let table = c.self.inside.table.shared in
    let words = c.self.invariant.0 in
    let mine = c.into_seat.ensures in
    let one = mine.2 in (
      ap (λ (d : DeskState). d.id) (c.loop-pass.invariant.of_desk ∙ sym c.self.view_is),
      ap (λ (d : DeskState). d.id) (mine.0 ∙ ((owned c).1 ∙ sym c.self.view_is)),
      mine.1,
      omega arith,
      joins table.key c.loop-pass.seat.id c.loop-pass.seat.me.0 c.into_seat.result.id c.into_seat.result.me.0 c.loop-pass.invariant.some_seat (omega arith),
    )

pub loop-pass-preserved : goal.loop-pass-preserved
loop-pass-preserved c =
    let taken = c.in-Some-pop.ensures.items in
    let mine = c.into_seat.ensures in
    let told = c.join_seat.ensures in
    let other = c.into_seat.result in
    let after = c.join_seat.new.seat in
    let kept = c.loop-pass.invariant in
    let own = owned (goal.at.loop-pass-preserved c).After-into_seat in
    let one = mine.2 in
    let some_seat = kept.some_seat in
    let seats_is = ap (λ (m : Me (Unit {0}) View). m.0.seats) told.2 in
    let ended_is = ap (λ (m : Me (Unit {0}) View). m.0.ended) told.2 in
    let all = c.loop-pass.passes.items in
    let items = c.pop-in-loop-pass.new.self.items in
    let before : View = c.loop-pass.seat.me.0 in
    let table_is = told.0 ∙ (ap (λ (d : DeskState). d.id) kept.of_desk ∙ sym (ap (λ (d : DeskState). d.id) (mine.0 ∙ own.1))) in record {
      own = own.0;
      of_desk = desk_stays other.table_id after.table_id other.me after.me c.args.self.now table_is (ap (λ (m : Me (Unit {0}) View). m.0.size) told.2) (mine.0 ∙ own.1);
      no_slot = ap (λ (m : Me (Unit {0}) View). m.1) told.2 ∙ kept.no_slot;
      some_seat = omega arith;
      seats = let taken_one = length-taken all items c.in-Some-pop.pass before.seats _ taken kept.seats in omega arith;
      ended = ap (λ (n : ℕ). ended_of items + n) ended_is ∙ sum_by-taken (λ (p : PassState). if p.ended then 1 else 0) all items c.in-Some-pop.pass before.ended _ other.me.0.ended taken mine.3 kept.ended;
      drawn = ap (λ (m : Me (Unit {0}) View). all_drawn items ++ m.0.drawn) told.2 ∙ flat_map-taken (λ (p : PassState). p.drawn) all items c.in-Some-pop.pass before.drawn _ other.me.0.drawn taken mine.4 kept.drawn;
      reported = ap (λ (m : Me (Unit {0}) View). all_reported items ++ m.0.reported) told.2 ∙ flat_map-taken (λ (p : PassState). p.reported) all items c.in-Some-pop.pass before.reported _ other.me.0.reported taken mine.5 kept.reported;
      seen = ap (λ (m : Me (Unit {0}) View). all_seen items ++ m.0.seen) told.2 ∙ flat_map-taken (λ (p : PassState). p.seen) all items c.in-Some-pop.pass before.seen _ other.me.0.seen taken mine.6 kept.seen;
    }
