-- The faults of one line.
use Rattle.std.proofs.Common.{◌≡◌, ℕ, ◌+◌, ◌<◌, Bool, true, false, not, ◌&&◌, List, [], ◌∷◌, ◌++◌, length, Some, None, Option, Ok, Err, Result, refl, sym, ap, ◌∙◌}
use Rattle.std.specs.List.{position, list_all}
use Rattle.std.specs.Result.{OnOk}
use Rattle.plan_text.specs.declared.fault.PlanFault.{PlanFault}
use Rattle.plan_text.specs.declared.fault.PlanFault.TheVariants.{NoStart, NoEnd, BadLine, TwoRoots, NoRoot, NumberTooLarge, NotAscii, TooLong, OutOfMemory}
use Rattle.plan_text.specs.Piece.{Piece, words}
use Rattle.plan_text.specs.Line.{LineKind, roots, IsOfKind, IsLegal, is_legal, numbers_of}
use Rattle.plan_text.specs.Fault.{IsFaultOf, HasIllegalByte, IsFirstLarge}
use Rattle.plan_text.specs.Adding.{IsKindFault, IsByteFault}
use Rattle.plan_text.proofs.Cases.{when}
use Rattle.plan_text.proofs.Found.{found_at, not_found}

-- what holds of an Ok follows from two clauses on it
pub both_ok : {T E A B C : Type 0} (r : Result T E) → OnOk r A → OnOk r B → (A → B → C) → OnOk r C
both_ok (Ok x) a b joined = joined a b
both_ok (Err e) a b joined = tt

-- what doesn't fail holds
not_not : (b : Bool) → not (not b) ≡ b
not_not true = refl
not_not false = refl

-- tests that agree pass the same lists
pub list_all_same : {X : Type 0} (p q : X → Bool) → ((x : X) → p x ≡ q x) → (xs : List X) → list_all p xs ≡ list_all q xs
list_all_same p q same [] = refl
list_all_same p q same (x ∷ xs) = rw (same x, list_all_same p q same xs)

-- where no byte is illegal, all are legal
all_legal : (bytes : List ℕ) → list_all (λ b. not (not (is_legal b))) bytes ≡ true → list_all is_legal bytes ≡ true
all_legal bytes all = sym (list_all_same (λ b. not (not (is_legal b))) is_legal (λ b. not_not (is_legal b)) bytes) ∙ all

-- the byte that is found is illegal
pub illegal_here : (line : Piece) (n : ℕ) → Some n ≡ position (λ b. not (is_legal b)) line.bytes → HasIllegalByte (line.place + n) line
illegal_here line n found =
    let at = found_at (λ b. not (is_legal b)) line.bytes n found in
    record {
      front = at.front;
      byte = at.item;
      back = at.back;
      whole = at.whole;
      legal = all_legal at.front at.clear;
      illegal = sym (not_not (is_legal at.item)) ∙ ap not at.passes;
      place_is = ap (λ len. line.place + len) at.len;
    }

-- a line in which none is found is legal
pub legal_line : (line : Piece) → None ≡ position (λ b. not (is_legal b)) line.bytes → IsLegal line
legal_line line found = all_legal line.bytes (not_found (λ b. not (is_legal b)) line.bytes found)

-- a fault of a byte is one of the line
pub byte_fault : (fault : PlanFault) (root_lists : List (List ℕ)) (line : Piece) → IsByteFault fault line → IsFaultOf fault root_lists line
byte_fault NoStart root_lists line h = absurd h
byte_fault NoEnd root_lists line h = absurd h
byte_fault (BadLine place) root_lists line h = absurd h
byte_fault (TwoRoots place) root_lists line h = absurd h
byte_fault NoRoot root_lists line h = absurd h
byte_fault (NumberTooLarge place) root_lists line h = absurd h
byte_fault (NotAscii place) root_lists line h = h
byte_fault (TooLong place) root_lists line h = absurd h
byte_fault OutOfMemory root_lists line h = absurd h

module _ (root_lists : List (List ℕ)) (line : Piece) (kind : LineKind) (legal : IsLegal line) (is : IsOfKind (words line) kind) where
  -- a fault of a kind is one of the line
  pub kind_fault : (fault : PlanFault) → IsKindFault fault line.place root_lists kind → IsFaultOf fault root_lists line
  kind_fault NoStart h = absurd h
  kind_fault NoEnd h = absurd h
  kind_fault (BadLine place) h = absurd h
  kind_fault (TwoRoots place) h = record {
    legal = legal;
    numbers = h.numbers;
    of_kind = rw h.roots_again at is;
    before = h.before;
    place_is = h.place_is;
  }
  kind_fault NoRoot h = absurd h
  kind_fault (NumberTooLarge place) h = record { legal = legal; kind = kind; of_kind = is; large = h }
  kind_fault (NotAscii place) h = absurd h
  kind_fault (TooLong place) h = absurd h
  kind_fault OutOfMemory h = tt
