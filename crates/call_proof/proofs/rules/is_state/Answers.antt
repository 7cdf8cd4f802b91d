use Rattle.std.proofs.Common.{◌≡◌, ◌∙◌, Some, slice_get, sym, ap}
use Rattle.std.proofs.lemmas.Option.{slice_get-get_or}
use Rattle.state_table.specs.Bits.{words_eq-decides}
use Rattle.call_proof.proofs.rules.is_state.Goals as goal

pub returns-in-Some : goal.returns-in-Some
returns-in-Some c = λ same.
    (let look = c.in-Some.ensures.lookup in
    let known = c.in-Some.known.now in
    let at : slice_get c.states.result.now c.args.number ≡ Some known = slice_get-get_or c.states.result.now c.args.number known look.3.0 ∙ ap Some (sym look.1) in
    ap (λ ss. slice_get ss c.args.number) (sym c.states.ensures) ∙ at
    ∙ ap Some ((words_eq-decides known c.args.state.now).0 (sym c.eq.ensures ∙ same)))
