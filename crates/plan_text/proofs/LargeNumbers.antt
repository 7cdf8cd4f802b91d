-- The faults of a line's numbers.
use Rattle.std.proofs.Common.{◌≡◌, ℕ, true, false, List, [], ◌∷◌, ◌++◌, refl, ap, ◌∙◌}
use Rattle.plan_text.specs.declared.fault.PlanFault.{PlanFault}
use Rattle.plan_text.specs.declared.fault.PlanFault.TheVariants.{NoStart, NoEnd, BadLine, TwoRoots, NoRoot, NumberTooLarge, NotAscii, TooLong, OutOfMemory}
use Rattle.plan_text.specs.Piece.{Piece}
use Rattle.plan_text.specs.Line.{LineKind, numbers_of, is_small}
use Rattle.plan_text.specs.Fault.{IsFirstLarge}
use Rattle.plan_text.specs.Adding.{IsKindFault, IsNumberFault}

module _ (line_place : ℕ) (root_lists : List (List ℕ)) (kind : LineKind) (id : Piece) (rest : List Piece) (numbers : numbers_of kind ≡ id ∷ rest) where
  -- the id is too large
  pub large_id : (fault : PlanFault) → fault ≡ NumberTooLarge id.place → is_small id ≡ false → IsKindFault fault line_place root_lists kind
  large_id fault is large = rw is (record { front = []; word = id; back = rest; whole = numbers; small = refl; large = large; place_is = refl })

  -- a number after the id is
  pub large_rest : (fault : PlanFault) → is_small id ≡ true → IsNumberFault fault rest → IsKindFault fault line_place root_lists kind
  large_rest NoStart small h = absurd h
  large_rest NoEnd small h = absurd h
  large_rest (BadLine place) small h = absurd h
  large_rest (TwoRoots place) small h = absurd h
  large_rest NoRoot small h = absurd h
  large_rest (NumberTooLarge place) small h = record {
    front = id ∷ h.front;
    word = h.word;
    back = h.back;
    whole = numbers ∙ ap (λ ns. id ∷ ns) h.whole;
    small = rw small h.small;
    large = h.large;
    place_is = h.place_is;
  }
  large_rest (NotAscii place) small h = absurd h
  large_rest (TooLong place) small h = absurd h
  large_rest OutOfMemory small h = tt
