use Rattle.std.proofs.Common.{◌∙◌, ◌||◌, Bool, ap, ap₂, sym}
use Rattle.std.proofs.lemmas.List.{take_all}
use Rattle.std.proofs.lemmas.List.Folds.{list_any_more}
use Rattle.heuristics.specs.Places.{is_given_by, row_at}
use Rattle.heuristics.specs.Rows.{gives_by, is_marked, literal_number}
use Rattle.heuristics.specs.declared.places.Place.{Place}
use Rattle.heuristics.proofs.MarkWords.{none_marked}
use Rattle.heuristics.proofs.RowsThere.{given_there, nowhere}
use Rattle.heuristics.proofs.needs.Needs.given_at.Goals as goal

pub loop-place-init : goal.loop-place-init
loop-place-init c = λ number. ap (λ marks. is_marked marks number) c.new.ensures.items ∙ none_marked number

pub loop-place-preserved : goal.loop-place-preserved
loop-place-preserved c = λ number.
    let needs = c.args.self.now in
    let places = c.args.places.now in
    let i = c.loop-place.place-index in
    let test : Place → Bool = λ p. gives_by (row_at needs p.spot) number in
    c.in_ok-add.ensures number
    ∙ ap₂ (λ b o. b || gives_by o number) (c.loop-place.invariant number) c.row_at.ensures
    ∙ sym (list_any_more test places i nowhere c.loop-place-test.true)

pub returns : goal.returns
returns c = λ n are l.
    let needs = c.args.self.now in
    let places = c.args.places.now in
    let number = literal_number needs l in
    c.loop-place.invariant number
    ∙ ap (λ ps. is_given_by needs ps number) (take_all c.loop-place.place-index places c.loop-place-test.false)
    ∙ given_there needs places n are number
