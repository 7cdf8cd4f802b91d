use Rattle.std.proofs.Common.{◌∙◌, ◌∷◌, [], ◌++◌, ◌&&◌, Bool, List, cond, get_or, ℕ, not, ap, ap₂, sym}
use Rattle.std.proofs.lemmas.List.Elements.{filter_more}
use Rattle.heuristics.specs.Places.{row_at}
use Rattle.heuristics.specs.Rows.{gives_by}
use Rattle.heuristics.specs.ListedNeeds.{is_in, want_at}
use Rattle.heuristics.specs.declared.wants.Want.{Want}
use Rattle.heuristics.proofs.chained.ungiven.Goals as goal

pub loop-id-preserved : goal.loop-id-preserved
loop-id-preserved c =
    let i = c.loop-id.id-index in
    let ids = c.args.ids.now in
    let own = c.args.own.now in
    let id = get_or ids i 0 in
    let row = row_at c.args.needs.now c.args.place.spot in
    let test : ℕ → Bool = λ id. not (gives_by row (want_at c.args.wants.now id).number) && not (is_in own id) in
    c.in_ok-push_if.ensures
    ∙ ap₂ (λ (l : List ℕ) (b : Bool). l ++ cond b (id ∷ []) []) c.loop-id.invariant
    (c.is_left-is_kept.ensures ∙ ap (λ (w : Want). not (gives_by row w.number) && not (is_in own id)) c.want_at.ensures)
    ∙ sym (filter_more test ids i 0 c.loop-id-test.true)
