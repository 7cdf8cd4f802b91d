-- The first free compound task, found by going from one free position to the next.
use Rattle.std.proofs.Common.{◌≡◌, ℕ, ◌<◌, inl, inr, Bool, true, false, ◌&&◌, List, length, Some, None, refl, sym, ap, ◌∙◌, arith}
use Rattle.std.proofs.lemmas.Bool.{cases_lt, and_from}
use Rattle.htn_model.specs.Problem.{Child, GroundTask, task, is_compound, Order, is_before}
use Rattle.htn_model.specs.Choice.{child_of, is_free, first_free_compound}
use Rattle.htn_order.specs.Free.{IsFirstFree, HasNoneFree}
use Rattle.htn_order.proofs.Free.{first_passing, none_passing}

-- anything and false
and_false : (p : Bool) → (p && false) ≡ false
and_false true = refl
and_false false = refl

-- a free compound task stands at the position
abbrev pub is_free_task : List Child → Order → ℕ → Bool
is_free_task nodes order j = is_compound (child_of nodes j) && is_free (length nodes) (is_before order) j

-- a position that is not free has no free compound task
not_free : (nodes : List Child) (order : Order) (j : ℕ) → length order ≡ length nodes → is_free (length order) (is_before order) j ≡ false → is_free_task nodes order j ≡ false
not_free nodes order j whole h =
    ap (λ b. is_compound (child_of nodes j) && b) (ap (λ n. is_free n (is_before order) j) (sym whole) ∙ h) ∙ and_false (is_compound (child_of nodes j))

-- the first free position with a compound task is that of the first free one
pub first_task : (nodes : List Child) (order : Order) (from i : ℕ) (t : GroundTask) → length order ≡ length nodes → ((j : ℕ) → j < from → is_free_task nodes order j ≡ false)
    → IsFirstFree order from i → child_of nodes i ≡ task t → Some i ≡ first_free_compound nodes (is_before order)
first_task nodes order from i t whole none first stands =
    let high = first.high in
    sym (first_passing (is_free_task nodes order) (length nodes) i (omega arith)
    (and_from _ _ (ap is_compound stands) (ap (λ n. is_free n (is_before order) i) (sym whole) ∙ first.free))
    (λ j low. elim (cases_lt j from) [
      | inl before ↦ none j before
      | inr on ↦ not_free nodes order j whole (first.first j on low)
    ]))

-- where no position on is free there is none
pub no_task : (nodes : List Child) (order : Order) (from : ℕ) → length order ≡ length nodes → ((j : ℕ) → j < from → is_free_task nodes order j ≡ false)
    → HasNoneFree order from → None ≡ first_free_compound nodes (is_before order)
no_task nodes order from whole none free =
    sym (none_passing (is_free_task nodes order) (length nodes) (λ j low. elim (cases_lt j from) [
      | inl before ↦ none j before
      | inr on ↦ not_free nodes order j whole (free j on (omega arith))
    ]))
