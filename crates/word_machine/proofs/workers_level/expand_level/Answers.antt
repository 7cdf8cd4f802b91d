use Rattle.std.proofs.Common.{◌≡◌, ℕ, ◌≤◌, true, Some, Option, IfSome, All, Contains, length, sym, ap, ◌∙◌, subst, arith}
use Rattle.std.proofs.lemmas.Option.{MatchOption-at_some, MatchOption-at_none}
use Rattle.word_machine.specs.Desk.{PassState, new_pass, HasEachBelow, IsLeast, all_drawn, all_reported, all_seen}
use Rattle.std.proofs.lemmas.List.{length-replicate}
use Rattle.word_machine.proofs.Home.{done_level, whole_pieces, each_piece, any_of_all, numbers_below}
use Rattle.word_machine.proofs.workers_level.expand_level.Goals as goal
use Rattle.word_machine.proofs.workers_level.expand_level.Goals.{After-least}
use Rattle.word_machine.proofs.workers_level.expand_level.Given.{Over}

-- all numbers of pieces were drawn, each once
each_drawn : (g : Over) (c : After-least g) → HasEachBelow c.pieces_of-count.result (all_drawn c.in_ok-passes.passes.items)
each_drawn g c =
    let passes = c.in_ok-passes.passes.items in
    let home_len = c.in_ok-home.ensures.len in
    let passes_len = c.in_ok-passes.ensures.len in
    let long = c.in_ok-passes.passes.ok.0 in
    let long_before = c.in_ok-desk.passes.ok.0 in
    let some_seat = c.max.ensures in
    let dealt = ap length c.in_ok-desk.ensures.passes ∙ length-replicate c.max.result (new_pass c.in_ok-desk.desk) in
    let ended = any_of_all (λ (p : PassState). p.ended ≡ true) passes (omega arith) c.in_ok-passes.ensures.own.1 in
    subst (λ (n : ℕ). HasEachBelow n (all_drawn passes)) (c.close-closed.ensures.ended ended ∙ c.in_ok-desk.ensures.desk.0) c.close-closed.ensures.drawn

-- the least place that the desk tells is the least that any pass reported
least_reported : (g : Over) (c : After-least g) (place : ℕ) → c.least.result ≡ Some place → IsLeast (all_reported c.in_ok-passes.passes.items) place
least_reported g c place is = MatchOption-at_some _ _ place (sym c.least.ensures ∙ is) c.close-closed.ensures.least

pub put_together-requires-clause-whole : goal.put_together-requires-clause-whole
put_together-requires-clause-whole g c κs lives =
    let level = c.args.level in
    let passes = c.in_ok-passes.passes.items in
    whole_pieces (g.W.Expand.has_successors level.work.now) (g.W.Expand.finishes level.work.now) level.first level.last c.piece_size-piece.result
    (all_drawn passes) (all_reported passes) (all_seen passes) c.in_ok-passes.pieces.items
    (MatchOption-at_none _ _ (sym c.least.ensures ∙ c.in-None.is) c.close-closed.ensures.least) c.close-closed.ensures.seen c.in_ok-passes.ensures.brings

pub put_together-requires-clause-below : goal.put_together-requires-clause-below
put_together-requires-clause-below g c κs lives =
    numbers_below c.pieces_of-count.result (all_drawn c.in_ok-passes.passes.items) c.in_ok-passes.pieces.items (each_drawn g (goal.at.put_together-requires-clause-below g c).After-least) c.in_ok-passes.ensures.brings.numbers

pub put_together-requires-clause-each : goal.put_together-requires-clause-each
put_together-requires-clause-each g c κs lives =
    each_piece c.pieces_of-count.result (all_drawn c.in_ok-passes.passes.items) c.in_ok-passes.pieces.items (each_drawn g (goal.at.put_together-requires-clause-each g c).After-least) c.in_ok-passes.ensures.brings.numbers

pub finish_at-requires : goal.finish_at-requires
finish_at-requires g c =
    let is = least_reported g (goal.at.finish_at-requires g c).After-least c.in-Some.place c.in-Some.is in
    subst (λ l. Contains l c.in-Some.place) (sym c.in_ok-passes.ensures.brings.places) is.0

pub returns-in-Some-clause-expanded : goal.returns-in-Some-clause-expanded
returns-in-Some-clause-expanded g c =
    let level = c.args.level in
    let passes = c.in_ok-passes.passes.items in
    let after = (goal.at.returns-in-Some-clause-expanded g c).After-least in
    let is : c.close-closed.result.least ≡ Some c.in-Some.place = sym c.least.ensures ∙ c.in-Some.is in
    let seen = subst (λ (o : Option ℕ). IfSome o (λ m. All (λ x. m ≤ x) (all_seen passes))) is c.close-closed.ensures.not_below in
    let cover = c.pieces_of-count.ensures.cover in
    done_level (g.W.Expand.has_successors level.work.now) (g.W.Expand.finishes level.work.now) level.first level.last c.piece_size-piece.result c.pieces_of-count.result c.in-Some.place c.finish_at.result
    (all_drawn passes) (all_reported passes) (all_seen passes) c.in_ok-passes.pieces.items c.piece_size-piece.ensures.some (let o = c.requires.ordered in omega arith) (each_drawn g after) (least_reported g after c.in-Some.place c.in-Some.is) seen c.in_ok-passes.ensures.brings c.finish_at.ensures
