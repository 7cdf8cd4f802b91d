-- The first free compound task, found by going from one free position to the next.
use Rattle.std.proofs.Common.{◌≡◌, ℕ, ◌<◌, inl, inr, Bool, true, false, ◌&&◌, List, length, get_or, [], Some, None, refl, sym, ap, ◌∙◌, arith}
use Rattle.std.proofs.lemmas.Bool.{cases_lt, and_from}
use Rattle.std.proofs.lemmas.List.{length-map, get_or-map}
use Rattle.htn_ground.specs.declared.child.Child.{Child as Node}
use Rattle.htn_ground.specs.Views.{child_view, children_of}
use Rattle.htn_model.specs.Problem.{Child, precondition, GroundTask, task, is_compound, Order, is_before}
use Rattle.htn_model.specs.Choice.{child_of, is_free, first_free_compound}
use Rattle.htn_order.specs.Free.{IsFirstFree, HasNoneFree}
use Rattle.htn_order.proofs.Free.{first_passing, none_passing}

-- nothing and no
and_false : (p : Bool) → (p && false) ≡ false
and_false true = refl
and_false false = refl

-- a free compound task stands at the position
abbrev pub is_free_task : List Child → Order → ℕ → Bool
is_free_task nodes order j = is_compound (child_of nodes j) && is_free (length nodes) (is_before order) j

-- what isn't free is no free task
not_free : (nodes : List Child) (order : Order) (j : ℕ) → length order ≡ length nodes → is_free (length order) (is_before order) j ≡ false → is_free_task nodes order j ≡ false
not_free nodes order j whole h =
    ap (λ b. is_compound (child_of nodes j) && b) (ap (λ n. is_free n (is_before order) j) (sym whole) ∙ h) ∙ and_false (is_compound (child_of nodes j))

-- a task at the first free position from one on, before which no task is free, is the first free one
pub first_task : (nodes : List Child) (order : Order) (from i : ℕ) (t : GroundTask) → length order ≡ length nodes → ((j : ℕ) → j < from → is_free_task nodes order j ≡ false)
    → IsFirstFree order from i → child_of nodes i ≡ task t → Some i ≡ first_free_compound nodes (is_before order)
first_task nodes order from i t whole none first stands =
    let high = first.high in
    sym (first_passing (is_free_task nodes order) (length nodes) i (omega arith)
    (and_from _ _ (ap is_compound stands) (ap (λ n. is_free n (is_before order) i) (sym whole) ∙ first.free))
    (λ j low. elim (cases_lt j from) [
      | inl before ↦ none j before
      | inr on ↦ not_free nodes order j whole (first.first j on low)
    ]))

-- where no position from one on is free, and no task before it, there is no free task
pub no_task : (nodes : List Child) (order : Order) (from : ℕ) → length order ≡ length nodes → ((j : ℕ) → j < from → is_free_task nodes order j ≡ false)
    → HasNoneFree order from → None ≡ first_free_compound nodes (is_before order)
no_task nodes order from whole none free =
    sym (none_passing (is_free_task nodes order) (length nodes) (λ j low. elim (cases_lt j from) [
      | inl before ↦ none j before
      | inr on ↦ not_free nodes order j whole (free j on (omega arith))
    ]))

-- the node that stands at a position of a list
pub child_seen : (seen : List Node) (nodes : List Child) (i : ℕ) (x : Node) → children_of seen ≡ nodes → i < length nodes → x ≡ get_or seen i x → child_of nodes i ≡ child_view x
child_seen seen nodes i x same inside is =
    let long : length seen ≡ length nodes = sym (length-map seen child_view) ∙ ap length same in
    ap (λ l. child_of l i) (sym same) ∙ get_or-map child_view seen i x (precondition []) (omega arith) ∙ ap child_view (sym is)
