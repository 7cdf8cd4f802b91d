-- Lists with each task as many times are rearrangements of each other.
use Rattle.std.proofs.Common.{◌≡◌, ◌+◌, ◌<◌, ◌++◌, ◌∷◌, Bool, true, false, List, [], ap, arith, inl, inr, refl, subst, sym}
use Rattle.htn_model.specs.Equality.{ground_task_eq-decides}
use Rattle.htn_model.specs.PlanFile.{IsRearrangementOf, IsIn}
use Rattle.htn_model.specs.Problem.{GroundTask, ground_task_eq}
use Rattle.htn_model.proofs.Rearranged.{split_in}
use Rattle.plan_lines.specs.Left.{once, times}

-- how often a task stands in two lists
pub times-append : (g : GroundTask) (xs ys : List GroundTask) → times g (xs ++ ys) ≡ times g xs + times g ys
times-append g [] ys = omega arith
times-append g (x ∷ xs) ys = let e = times-append g xs ys in omega (arith, e)

-- one more in the middle counts as in front
pub times-middle : (g x : GroundTask) (xs ys : List GroundTask) → times g (xs ++ x ∷ ys) ≡ times g (x ∷ (xs ++ ys))
times-middle g x xs ys =
    let a = times-append g xs (x ∷ ys) in
    let b = times-append g xs ys in
    omega (arith, a, b)

-- a task is equal to itself
pub counts_itself : (g : GroundTask) → ground_task_eq g g ≡ true
counts_itself g = (ground_task_eq-decides g g).1 refl

-- the first task of a list stands in it
pub times_itself : (g : GroundTask) (xs : List GroundTask) → 0 < times g (g ∷ xs)
times_itself g xs = let e : times g (g ∷ xs) ≡ 1 + times g xs = ap (λ b. once b + times g xs) (counts_itself g) in omega (arith, e)

-- what counts is there
pub counted_in : (g : GroundTask) (xs : List GroundTask) → 0 < times g xs → IsIn g xs
counted_in g [] h = absurd (omega arith)
counted_in g (x ∷ xs) h = by (ground_task_eq g x) refl (counted_in g xs)
  where
    by : (b : Bool) → ground_task_eq g x ≡ b → (0 < times g xs → IsIn g xs) → IsIn g (x ∷ xs)
    by true e more = inl ((ground_task_eq-decides g x).0 e)
    by false e more = inr (more (let same : times g (x ∷ xs) ≡ 0 + times g xs = ap (λ b. once b + times g xs) e in omega (arith, same, h)))

-- a member stands there at least once
pub in_counted : (g : GroundTask) (xs : List GroundTask) → IsIn g xs → 0 < times g xs
in_counted g [] i = absurd i
in_counted g (x ∷ xs) (inl e) = let h = times_itself g xs in subst (λ y. 0 < times g (y ∷ xs)) e h
in_counted g (x ∷ xs) (inr i) = let h = in_counted g xs i in omega (arith, h)

-- in a rearrangement each task stands as often
pub times_rearranged : (xs ys : List GroundTask) → IsRearrangementOf xs ys → (g : GroundTask) → times g xs ≡ times g ys
times_rearranged [] ys r g = ap (times g) (sym r)
times_rearranged (x ∷ xs) ys (left, right, e, r) g =
    let below = times_rearranged xs (left ++ right) r g in
    let middle = times-middle g x left right in
    let whole = ap (times g) e in
    omega (arith, below, middle, whole)

-- a list in which no task stands is empty
none_there : (ys : List GroundTask) → ((g : GroundTask) → 0 ≡ times g ys) → ys ≡ []
none_there [] same = refl
none_there (y ∷ ys) same = let h = times_itself y ys in let e = same y in absurd (omega (arith, h, e))

-- lists in which each task stands as often are rearrangements
pub rearranged_times : (xs ys : List GroundTask) → ((g : GroundTask) → times g xs ≡ times g ys) → IsRearrangementOf xs ys
rearranged_times [] ys same = none_there ys same
rearranged_times (x ∷ xs) ys same =
    let s = split_in x ys (counted_in x ys (let h = times_itself x xs in let e = same x in omega (arith, h, e))) in (
      s.left,
      s.right,
      s.is,
      rearranged_times xs (s.left ++ s.right) (λ g.
          let e = same g in
          let middle = times-middle g x s.left s.right in
          let whole = ap (times g) s.is in
          omega (arith, e, middle, whole)),
    )
