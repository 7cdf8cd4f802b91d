-- The actions of a solution, one place after the other.
use Rattle.std.proofs.Common.{◌≡◌, ℕ, suc, ◌+◌, true, false, cond, nat_eq, List, [], ◌∷◌, ◌++◌, length, map, take, drop, filter, Some, ap, sym, ◌∙◌, append-nil, arith}
use Rattle.std.specs.Prelude.{unwrap_or}
use Rattle.std.specs.Cmp.Lexicographic.{pointwise}
use Rattle.htn_model.specs.Numbered.{action_line_at, action_places, id_in, is_leaf, task_at}
use Rattle.htn_model.specs.PlanFile.{ActionLine}
use Rattle.htn_model.specs.Problem.{GroundTask}
use Rattle.htn_model.specs.Task.{Task}
use Rattle.htn_model.specs.Tree.{leaf, Place, Solution, node_at}
use Rattle.plan_text.specs.PlanFile.{IsActionLine}
use Rattle.htn_plan.specs.declared.ids.ActionIds.{ActionIds}
use Rattle.htn_plan.specs.Ids.{AreNumbered, IsNumbered, first_actions, id_among}
use Rattle.htn_ground.specs.Naming.{naming_of, task_name, object_name}
use Rattle.htn_plan.proofs.Lists.{all_join, filter_join, map_join, length_map, take_one, take_drop}
use Rattle.htn_plan.proofs.Positions.{id_next, ids_next}

-- the action line of a ground task
abbrev pub line_with : Task → ℕ → GroundTask → ActionLine
line_with t id g = record { id = id; name = task_name t g.name; arguments = map (object_name t) g.arguments }

module _ (s : Solution) (k : ℕ) (q : Place) (rest : List Place) (here : drop k s.linearisation ≡ q ∷ rest) where
  -- the places at which actions stand
  abbrev leaves : List Place → List Place
  leaves = filter (λ p. is_leaf (node_at s.trees p))

  -- the actions among one place more
  one_more : first_actions s (suc k) ≡ first_actions s k ++ leaves (q ∷ [])
  one_more = ap leaves (take_one k s.linearisation q rest here) ∙ filter_join (λ p. is_leaf (node_at s.trees p)) (take k s.linearisation) (q ∷ [])

  -- there is one more where an action stands there
  with_leaf : is_leaf (node_at s.trees q) ≡ true → first_actions s (suc k) ≡ first_actions s k ++ q ∷ []
  with_leaf h = one_more ∙ ap (λ b. first_actions s k ++ cond b (q ∷ []) []) h

  -- and none more where a step does
  pub without_leaf : is_leaf (node_at s.trees q) ≡ false → first_actions s (suc k) ≡ first_actions s k
  without_leaf h = one_more ∙ ap (λ b. first_actions s k ++ cond b (q ∷ []) []) h ∙ append-nil (first_actions s k)

  -- all actions, where one stands at the place
  whole : is_leaf (node_at s.trees q) ≡ true → action_places s ≡ first_actions s k ++ q ∷ leaves rest
  whole h =
      ap leaves (sym (take_drop k s.linearisation) ∙ ap (λ xs. take k s.linearisation ++ xs) here)
      ∙ filter_join (λ p. is_leaf (node_at s.trees p)) (take k s.linearisation) (q ∷ rest)
      ∙ ap (λ b. first_actions s k ++ cond b (q ∷ leaves rest) (leaves rest)) h

  -- a step adds no line
  pub nothing_added : (t : Task) (lines : List ActionLine) (ids : ActionIds) → is_leaf (node_at s.trees q) ≡ false
      → AreNumbered t s k lines ids → AreNumbered t s (k + 1) lines ids
  nothing_added t lines ids h (are, each, known) =
      let one : k + 1 ≡ suc k = omega arith in
      let e : first_actions s (k + 1) ≡ first_actions s k = ap (first_actions s) one ∙ without_leaf h in (
        are ∙ sym (ap (map (action_line_at (naming_of t) s)) e),
        each,
        λ p. known p ∙ sym (ap (λ places. id_among s places p) e),
      )

  -- an action adds its line and its id
  pub action_added : (t : Task) (g : GroundTask) (lines : List ActionLine) (ids new : ActionIds) (id : ℕ) (line : ActionLine)
      → node_at s.trees q ≡ Some (leaf g) → AreNumbered t s k lines ids → IsNumbered ids new q (length lines) id
      → line ≡ line_with t id g → IsActionLine line
      → AreNumbered t s (k + 1) (lines ++ line ∷ []) new
  action_added t g lines ids new id line stands (are, each, known) (id_is, others) line_is is_line = (
    ap (λ xs. xs ++ line ∷ []) are
        ∙ ap (λ x. map (action_line_at (naming_of t) s) (first_actions s k) ++ x ∷ []) the_line
        ∙ sym (map_join (action_line_at (naming_of t) s) (first_actions s k) (q ∷ []))
        ∙ sym (ap (map (action_line_at (naming_of t) s)) e),
    all_join IsActionLine lines (line ∷ []) each (is_line, tt),
    λ p.
        others p
        ∙ ap (λ x. cond (pointwise nat_eq q p) (Some id) x) (known p)
        ∙ ap (λ x. cond (pointwise nat_eq q p) (Some x) (id_among s (first_actions s k) p)) the_id
        ∙ ids_next s (first_actions s k) q p
        ∙ sym (ap (λ places. id_among s places p) e),
  )
    where
      is : is_leaf (node_at s.trees q) ≡ true
      is = ap is_leaf stands

      e : first_actions s (k + 1) ≡ first_actions s k ++ q ∷ []
      e = let one : k + 1 ≡ suc k = omega arith in ap (first_actions s) one ∙ with_leaf is

      long : length lines ≡ length (first_actions s k)
      long = ap length are ∙ length_map (action_line_at (naming_of t) s) (first_actions s k)

      the_id : id ≡ id_in s q
      the_id = id_is ∙ ap (λ x. unwrap_or x (length lines)) (known q) ∙ id_next s (first_actions s k) (leaves rest) q (length lines) (whole is) long

      the_line : line ≡ action_line_at (naming_of t) s q
      the_line = line_is ∙ ap (λ x. line_with t x g) the_id ∙ sym (ap (λ n. line_with t (id_in s q) (task_at n)) stands)
