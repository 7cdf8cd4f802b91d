use Rattle.std.proofs.Common.{◌≡◌, ℕ, List, slice_get, Some, subst, sym}
use Rattle.state_table.specs.Bits.{words_eq, words_eq-decides}
use Rattle.state_table.proofs.Keys.{absent, found, none_anyway}
use Rattle.state_table.proofs.numbering.StateTable.number_of.Goals as goal

pub returns-in_err-place-clause-none : goal.returns-in_err-place-clause-none
returns-in_err-place-clause-none c =
    none_anyway c.from_residual.result
    (subst (λ (l : List (List ℕ)). (n : ℕ) → slice_get l n ≡ Some c.args.state.now → ⊥) c.self.view_is
    (absent words_eq words_eq-decides c.args.state.now c.self.inside.states.keys (sym c.in_err-place.ensures.index)))

pub returns-clause-some : goal.returns-clause-some
returns-clause-some c =
    subst (λ (l : List (List ℕ)). slice_get l c.in_ok-place.place ≡ Some c.args.state.now) c.self.view_is
    (found words_eq words_eq-decides c.args.state.now c.self.inside.states.keys c.in_ok-place.place (sym c.in_ok-place.ensures.index))
