use Rattle.std.proofs.Common.{ℕ, ◌∷◌, ◌++◌, [], Contains, flat_map, ap, sym, ◌∙◌, subst, ⊎_elim, append_assoc}
use Rattle.std.proofs.lemmas.List.Elements.{Contains-append_cases}
use Rattle.std.specs.Vec.Iter.{into_iter_items}
use Rattle.word_machine.specs.declared.piece.Piece.{Piece}
use Rattle.word_machine.specs.Workers.{places_of}
use Rattle.word_machine.proofs.Pieces.{stands_between}
use Rattle.word_machine.proofs.level_merge.finish_at.Goals as goal

pub returns-in-Some-finish_of : goal.returns-in-Some-finish_of
returns-in-Some-finish_of g c =
    let piece : Piece g.row.S.Denot g.row.F.Denot = c.in-Some.piece in
    let number : ℕ = piece.number in
    let stands = stands_between c.loop-piece.yielded (into_iter_items c.loop-piece.piece-iterator) (into_iter_items c.next.new.self) c.args.pieces.items piece c.loop-piece.invariant.whole c.in-Some.ensures.steps.0 in (
      number,
      subst (λ o. Contains c.args.pieces.items (record { number = number; outcome = o })) c.in-Some-finish_of.ensures.some stands,
    )

pub loop-piece-preserved : goal.loop-piece-preserved
loop-piece-preserved g c =
    let piece : Piece g.row.S.Denot g.row.F.Denot = c.in-Some.piece in
    let rest = into_iter_items c.next.new.self in
    let step = c.in-Some.ensures.steps.0 in
    let places = λ (p : Piece g.row.S.Denot g.row.F.Denot). places_of p.outcome in
    let was = c.loop-piece.invariant in record {
      left = ⊎_elim (λ here. absurd (c.in_default.ensures.none here)) (λ later. later)
          (Contains-append_cases (places piece) (flat_map places rest) c.args.place (subst (λ l. Contains (flat_map places l) c.args.place) step was.left));
      whole = append_assoc c.loop-piece.yielded (piece ∷ []) rest ∙ (ap (λ l. c.loop-piece.yielded ++ l) (sym step) ∙ was.whole);
    }
