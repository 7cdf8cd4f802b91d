use Rattle.std.proofs.Common.{rules, ◌<◌, ◌^◌, ◌∙◌, inl, inr, ℕ, List, length, slice_get, subst, sym, ap}
use Rattle.state_table.specs.Bits.{words_eq, words_eq-decides}
use Rattle.state_table.specs.Numberings.{IsNumbering}
use Rattle.state_table.proofs.Keys.{numbering_inserted, others_inserted}
use Rattle.state_table.proofs.numbering.StateTable.keep.Goals as goal

-- there is a number left
room : (c : goal.In_ok-place) → length c.self.inside.states.keys < 2 ^ 32
room c = search rules

-- no state has two numbers
numbering : (c : goal.In_ok-place) → IsNumbering c.insert_full.new.self.keys
numbering c =
    subst (λ (l : List (List ℕ)). IsNumbering l) (sym c.in_ok-place.ensures.keys)
    (numbering_inserted words_eq words_eq-decides c.args.state c.self.inside.states.keys c.self.invariant (room c))

pub invariant_of-self-2 : goal.invariant_of-self-2
invariant_of-self-2 c = numbering c

pub returns-clause-numbering : goal.returns-clause-numbering
returns-clause-numbering c = numbering c

pub returns-clause-others : goal.returns-clause-others
returns-clause-others c = λ n other at. elim (others_inserted words_eq words_eq-decides c.args.state c.self.inside.states.keys n other
    (ap (λ (l : List (List ℕ)). slice_get l n) (sym c.in_ok-place.ensures.keys) ∙ at)) [
      | inl before ↦ inl (ap (λ (l : List (List ℕ)). slice_get l n) (sym c.self.view_is) ∙ before)
      | inr here ↦ inr here
    ]
