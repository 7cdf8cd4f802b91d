-- The words of a plan file name what they stand for, since the names of a task differ.
use Rattle.std.proofs.Common.{◌≡◌, ℕ, zero, suc, ◌+◌, ◌<◌, Bool, true, false, cond, nat_lt, List, [], ◌∷◌, length, map, get_or, Option, Some, None, option_and_then, inl, inr, bytes_eq, not, rules, refl, ap, ap₂, subst, ◌∙◌, arith}
use Rattle.std.specs.List.{AllByRecursion, position_or_len}
use Rattle.std.proofs.lemmas.Slice.Eq.{bytes_eq-Decides}
use Rattle.htn_model.specs.Grounding.{problem_of}
use Rattle.htn_model.specs.Numbered.{NamesNodes, task_at}
use Rattle.htn_model.specs.PlanFile.{IsIn, IsWithoutRepeats, Word}
use Rattle.htn_model.specs.Problem.{GroundTask}
use Rattle.htn_model.specs.Shadow.{HasId}
use Rattle.htn_model.specs.Task.{HasDistinctNames, IsWellTyped, Task, task_names}
use Rattle.htn_model.specs.Tree.{IsSolution, Node, leaf, step, compound, Solution, node_at}
use Rattle.htn_ground.specs.Naming.{naming_of, object_name, objects_named, task_name, task_named, unnamed}
use Rattle.htn_task.specs.Numbers.{number_of}
use Rattle.htn_plan.proofs.Lists.{length_join, length_map}
use Rattle.htn_plan.proofs.Ranges.{IsInRange, node_fits}

-- the member at a position is in the list
is_in : {X : Type 0} (xs : List X) (n : ℕ) (d : X) → n < length xs → IsIn (get_or xs n d) xs
is_in [] n d h = absurd (omega arith)
is_in (x ∷ xs) zero d h = inl refl
is_in (x ∷ xs) (suc n) d h = inr (is_in xs n d (omega arith))

-- a name is found at its own position, as it stands nowhere before
first_there : (names : List Word) (n : ℕ) → IsWithoutRepeats names → n < length names → position_or_len (bytes_eq (get_or names n unnamed)) names ≡ n
first_there [] n apart h = absurd (omega arith)
first_there (x ∷ names) zero apart h = ap (λ b. cond (not b) (1 + position_or_len (bytes_eq x) names) 0) ((bytes_eq-Decides x x).1 refl)
first_there (x ∷ names) (suc n) apart h = by (bytes_eq (get_or names n unnamed) x) refl (first_there names n apart.1 (omega arith))
  where
    by : (b : Bool) → bytes_eq (get_or names n unnamed) x ≡ b → position_or_len (bytes_eq (get_or names n unnamed)) names ≡ n
        → cond (not b) (1 + position_or_len (bytes_eq (get_or names n unnamed)) names) 0 ≡ suc n
    by true e more = absurd (apart.0 (subst (λ w. IsIn w names) ((bytes_eq-Decides (get_or names n unnamed) x).0 e) (is_in names n unnamed (omega arith))))
    by false e more = omega (arith, more)

-- a smaller number, as a test
below : (n m : ℕ) → n < m → nat_lt n m ≡ true
below n m h = search (rules, h)

-- a name has the number at which it stands
number_found : (names : List Word) (n : ℕ) → IsWithoutRepeats names → n < length names → number_of names (get_or names n unnamed) ≡ Some n
number_found names n apart h =
    ap (λ k. cond (nat_lt k (length names)) (Some k) None) (first_there names n apart h) ∙ ap (λ b. cond b (Some n) None) (below n (length names) h)

-- the names of objects name these
objects_found : (t : Task) → IsWithoutRepeats t.objects → (os : List ℕ) → AllByRecursion (λ o. o < length t.objects) os → objects_named t (map (object_name t) os) ≡ Some os
objects_found t apart [] h = refl
objects_found t apart (o ∷ os) h =
    ap₂ (λ x y. option_and_then (λ n. option_and_then (λ ns. Some (n ∷ ns)) y) x) (number_found t.objects o apart h.0) (objects_found t apart os h.1)

-- the words of a ground task name it
task_found : (t : Task) → HasDistinctNames t → (g : GroundTask) → IsInRange t g → task_named t (task_name t g.name) (map (object_name t) g.arguments) ≡ Some g
task_found t apart g (within, fit) =
    ap₂ (λ x y. option_and_then (λ n. option_and_then (λ ns. Some (record { name = n; arguments = ns })) y) x)
    (number_found (task_names t) g.name apart.tasks (let e = long in omega (arith, e, within))) (objects_found t apart.objects g.arguments fit)
  where
    long : length (task_names t) ≡ length t.tasks + length t.actions
    long = length_join (map (λ d. d.name) t.tasks) (map (λ a. a.name) t.actions) ∙ ap₂ ◌+◌ (length_map (λ d. d.name) t.tasks) (length_map (λ a. a.name) t.actions)

-- the words of a solution's nodes name them
pub names_nodes : (t : Task) (s : Solution) → IsWellTyped t → IsSolution (problem_of t) s → NamesNodes (naming_of t) s
names_nodes t s typed solves p has = by (node_at s.trees p) refl has
  where
    by : (n : Option Node) → node_at s.trees p ≡ n → HasId n → task_named t (task_name t (task_at n).name) (map (object_name t) (task_at n).arguments) ≡ Some (task_at n)
    by None e h = absurd h
    by (Some (leaf g)) e h = task_found t typed.names g (node_fits t typed s.trees solves.are_trees p (leaf g) e)
    by (Some (step literals)) e h = absurd h
    by (Some (compound g number nodes)) e h = task_found t typed.names g (node_fits t typed s.trees solves.are_trees p (compound g number nodes) e)
