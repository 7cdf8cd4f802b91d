use Rattle.std.proofs.Common.{◌≡◌, ℕ, List, get_or, sym, ap, ◌∙◌, subst, arith}
use Rattle.std.proofs.lemmas.Option.{IfSome_then}
use Rattle.word_machine.specs.declared.view.Size.{Size}
use Rattle.word_machine.specs.Desk.{DeskState, all_reported, once_below, IsLeast}
use Rattle.word_machine.proofs.Keeps.{IsLast, closes}
use Rattle.word_machine.proofs.Passes.{get_or_of_at, match_option, none_then, drawn_of_last, ended_of_last, empty_of_last, least_of_last, seen_of_last}
use Rattle.word_machine.proofs.desk.Desk.close.Goals as goal
use Rattle.word_machine.proofs.desk.Desk.close.Goals.{After-place_of-least}

pub free-requires : goal.free-requires
free-requires c k below =
    let slots = c.self.invariant.1 in
    let counts = c.close_with-closed.ensures.counts.1 in
    absurd (omega arith)

-- what the two words and the seat of all passes say at the end
last : (c : After-place_of-least) → IsLast c.self.inside.size c.word.result c.word-2.result c.join_all-seat.result.me.0
last c =
    let table = c.self.inside.table.shared in
    let seat = c.join_all-seat.result in
    let final = c.close_with-closed.ensures.values.2 in
    let size_is : table.key ≡ c.self.inside.size = c.self.invariant.2 in
    let seats_is : seat.me.0.seats ≡ c.self.inside.size.seats = c.join_all-seat.ensures.2 ∙ (sym c.args.passes.ok.0 ∙ (c.requires.all ∙ sym (ap (λ (d : DeskState). d.seats) c.self.view_is))) in
    let at_key = closes table.key final.0 seat.id seat.me.0 final.1.0 final.1.1 (seats_is ∙ sym (ap (λ (s : Size). s.seats) size_is)) in
    let draw_is : get_or final.0.words 0 0 ≡ c.word.result = ap (λ (ws : List ℕ). get_or ws 0 0) final.2 ∙ get_or_of_at _ 0 c.word.result c.word.ensures in
    let least_is : get_or final.0.words 1 0 ≡ c.word-2.result = ap (λ (ws : List ℕ). get_or ws 1 0) final.2 ∙ get_or_of_at _ 1 c.word-2.result c.word-2.ensures in
    subst (λ (z : Size × ℕ × ℕ). IsLast z.0 z.1 z.2 seat.me.0) (λ i. (size_is i, draw_is i, least_is i)) at_key

pub returns-clause-drawn : goal.returns-clause-drawn
returns-clause-drawn c =
    let l = last (goal.at.returns-clause-drawn c).After-place_of-least in
    λ x. drawn_of_last c.self.inside.size c.word.result c.word-2.result c.join_all-seat.result.me.0 _ l c.join_all-seat.ensures.4 x ∙ ap (once_below x) (sym c.min-drawn.ensures)

pub returns-clause-ended : goal.returns-clause-ended
returns-clause-ended c some_ended =
    let l = last (goal.at.returns-clause-ended c).After-place_of-least in
    c.min-drawn.ensures
    ∙ (ended_of_last c.self.inside.size c.word.result c.word-2.result c.join_all-seat.result.me.0 c.args.passes.items l c.join_all-seat.ensures.3 some_ended
    ∙ ap (λ (d : DeskState). d.pieces) c.self.view_is)

pub returns-clause-least : goal.returns-clause-least
returns-clause-least c =
    let size = c.self.inside.size in
    let v = c.join_all-seat.result.me.0 in
    let reported = c.join_all-seat.ensures.5 in
    let l = last (goal.at.returns-clause-least c).After-place_of-least in
    match_option c.place_of-least.result _ _
    (none_then c.place_of-least.result c.place_of-least.ensures.none (empty_of_last size c.word.result c.word-2.result v _ l reported))
    (IfSome_then c.place_of-least.result c.place_of-least.ensures.some (λ place h. subst (IsLeast (all_reported c.args.passes.items)) (sym h.0) (least_of_last size c.word.result c.word-2.result v _ l reported h.1)))

pub returns-clause-seen : goal.returns-clause-seen
returns-clause-seen c =
    let l = last (goal.at.returns-clause-seen c).After-place_of-least in
    let all = seen_of_last c.self.inside.size c.word.result c.word-2.result c.join_all-seat.result.me.0 _ _ l c.join_all-seat.ensures.6 c.join_all-seat.ensures.5 in
    λ k d below. (all k d below).0

pub returns-clause-not_below : goal.returns-clause-not_below
returns-clause-not_below c =
    let l = last (goal.at.returns-clause-not_below c).After-place_of-least in
    let all = seen_of_last c.self.inside.size c.word.result c.word-2.result c.join_all-seat.result.me.0 _ _ l c.join_all-seat.ensures.6 c.join_all-seat.ensures.5 in
    IfSome_then c.place_of-least.result c.place_of-least.ensures.some (λ place h k d below. let t = (all k d below).1 in let is = h.0 in omega arith)
