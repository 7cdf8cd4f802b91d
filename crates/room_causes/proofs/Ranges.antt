-- Gaps in which literals hold, and in which they don't.
use Rattle.std.proofs.Common.{◌≡◌, ℕ, ◌≤◌, ◌<◌, Bool, true, false, ◌&&◌, List, [], ◌∷◌, length, get_or, Option, Some, None, option_map, slice_get, sym, refl, ap, subst, ◌∙◌, arith}
use Rattle.std.specs.Option.{MatchOption, is_some}
use Rattle.std.specs.Prelude.{⊤}
use Rattle.std.proofs.lemmas.Bool.{both_ways}
use Rattle.std.proofs.lemmas.Option.{slice_get-map, slice_get_read}
use Rattle.htn_model.specs.Literal.{Literal, holds, literal_holds}
use Rattle.htn_model.specs.State.{State}
use Rattle.htn_task.specs.Literals.{literal_of, literals_of}
use Rattle.htn_task.specs.declared.literal.Literal.{Literal as Read}
use Rattle.plan_room.specs.Lines.{Lines, IsNextGap}
use Rattle.room_causes.specs.Nodes.{IsFalseLiteral}

-- before the next gap literals don't hold
pub not_before : (l : Lines) (literals : List Literal) (r : Option ℕ) → IsNextGap l.states l.actions literals 0 r
    → MatchOption r ⊤ (λ gap. ((k : ℕ) → k < gap → holds (l.states k) literals ≡ false) × (gap ≤ l.actions))
not_before l literals None none = tt
not_before l literals (Some gap) (from, within, there, before) = ((λ k less. before k (omega arith) less), within)

-- a literal alone holds where it does
alone_false : (state : State) (literal : Literal) → holds state (literal ∷ []) ≡ false → literal_holds state literal ≡ false
alone_false state literal is = by (literal_holds state literal) refl
  where
    by : (b : Bool) → literal_holds state literal ≡ b → literal_holds state literal ≡ false
    by false e = e
    by true e = absurd (both_ways (holds state (literal ∷ [])) is (ap (λ b. b && true) e))

-- a literal that holds in no gap of a range alone is false in each
pub false_there : (l : Lines) (list : List Read) (literals single : List Literal) (place from until : ℕ) (v : Read) (r : Option ℕ) → literals_of list ≡ literals → place < length list → v ≡ get_or list place v
    → single ≡ literal_of v ∷ [] → IsNextGap l.states until single from r → is_some r ≡ false → IsFalseLiteral l literals from until place
false_there l list literals single place from until v None e low is alone none nowhere = (
  literal_of v,
  subst (λ ls. slice_get ls place ≡ Some (literal_of v)) e (slice_get-map literal_of list place ∙ ap (option_map literal_of) (slice_get_read list (length list) place v refl low is)),
  λ k above below. alone_false (l.states k) (literal_of v) (ap (holds (l.states k)) (sym alone) ∙ none k above below),
)
false_there l list literals single place from until v (Some gap) e low is alone next nowhere = absurd (both_ways true nowhere refl)
