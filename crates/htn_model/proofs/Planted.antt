-- The lines of a forest are plan trees: from the roots down, no line is met twice on the way.
use Rattle.std.proofs.Common.{◌≡◌, ℕ, zero, suc, ◌+◌, ◌≤◌, List, [], ◌∷◌, ◌++◌, length, Some, ◌⊎◌, inl, inr, sym, refl, ap, ◌∙◌, subst, arith}
use Rattle.std.proofs.lemmas.List.{length-append}
use Rattle.htn_model.specs.Problem.{GroundTask}
use Rattle.htn_model.specs.PlanFile.{ActionLine, DecompositionLine, PlanFile, Naming, IsIn, IsWithoutRepeats, action_ids, decomposition_ids, all_children, defined_ids, listed_ids, IsForest}
use Rattle.htn_model.specs.Fits.{PlanTree, action_at, decomposition, PlanTrees, no_plans, plan}
use Rattle.htn_model.specs.Shown.{ShowsTree, ShowTrees}
use Rattle.htn_model.proofs.Ascending.{in_left, in_right, in_split, in_at}
use Rattle.htn_model.proofs.Rearranged.{in_arranged, in_narrower, split_in, distinct_rearranged, distinct_right, distinct_apart}
use Rattle.htn_model.proofs.Marked.{child_listed, one_parent}

-- a list without repeats is no longer than one that has its members
pub no_longer : (xs ys : List ℕ) → IsWithoutRepeats xs → ((x : ℕ) → IsIn x xs → IsIn x ys) → length xs ≤ length ys
no_longer [] ys d within = omega arith
no_longer (x ∷ xs) ys d within =
    let s = split_in x ys (within x (inl refl)) in
    let more = no_longer xs (s.left ++ s.right) d.1 (λ y i. elim (in_narrower y x s.left s.right (subst (IsIn y) s.is (within y (inr i)))) [
      | inl same ↦ absurd (d.0 (subst (λ z. IsIn z xs) same i))
      | inr there ↦ there
    ]) in
    let whole : length ys ≡ length s.left + suc (length s.right) = ap length s.is ∙ length-append s.left (x ∷ s.right) in
    let parts = length-append s.left s.right in
    omega arith

-- as many ids as lines
as_many_ids : (lines : List DecompositionLine) → length (decomposition_ids lines) ≡ length lines
as_many_ids [] = refl
as_many_ids (l ∷ lines) = ap suc (as_many_ids lines)

-- the action line with an id
pub action_of_id : (id : ℕ) (lines : List ActionLine) → IsIn id (action_ids lines) → (line : ActionLine) × IsIn line lines × (line.id ≡ id)
action_of_id id [] i = absurd i
action_of_id id (l ∷ lines) (inl same) = (l, inl refl, sym same)
action_of_id id (l ∷ lines) (inr i) = let (line, there, is) = action_of_id id lines i in (line, inr there, is)

-- the decomposition line with an id
pub decomposition_of_id : (id : ℕ) (lines : List DecompositionLine) → IsIn id (decomposition_ids lines) → (line : DecompositionLine) × IsIn line lines × (line.id ≡ id)
decomposition_of_id id [] i = absurd i
decomposition_of_id id (l ∷ lines) (inl same) = (l, inl refl, sym same)
decomposition_of_id id (l ∷ lines) (inr i) = let (line, there, is) = decomposition_of_id id lines i in (line, inr there, is)

-- each line's words name a task
pub record AreNamedLines (naming : Naming) (file : PlanFile) : Type 0 where
  pub actions : (line : ActionLine) → IsIn line file.actions → (g : GroundTask) × (naming.named line.name line.arguments ≡ Some g)
  pub decompositions : (line : DecompositionLine) → IsIn line file.decompositions → (t : GroundTask) × (naming.named line.task line.arguments ≡ Some t)

-- ## Depth

abbrev mutual
  -- no decomposition stands deeper than so many
  pub IsWithin : ℕ → PlanTree → Type 0
  IsWithin depth (action_at g i) = Unit {0}
  IsWithin zero (decomposition t method plans) = ⊥
  IsWithin (suc depth) (decomposition t method plans) = AreWithin depth plans

  -- all of the plans are within the depth
  pub AreWithin : ℕ → PlanTrees → Type 0
  AreWithin depth no_plans = Unit {0}
  AreWithin depth (plan p plans) = IsWithin depth p × AreWithin depth plans

-- ## Ways down from the roots

module _ (file : PlanFile) (forest : IsForest file) where
  -- the id stands below the first of the way, or is a root's
  abbrev Next : ℕ → List ℕ → Type 0
  Next id [] = IsIn id file.roots
  Next id (above ∷ way) = (line : DecompositionLine) × IsIn line file.decompositions × (line.id ≡ above) × IsIn id line.children

  -- each line of the way is a child of the next
  abbrev IsWay : List ℕ → Type 0
  IsWay [] = Unit {0}
  IsWay (id ∷ way) = Next id way × IsWay way

  -- the way without its first line
  abbrev past_first : List ℕ → List ℕ
  past_first [] = []
  past_first (x ∷ xs) = xs

  -- what is past the first is in the list
  in_past_first : (z : ℕ) (xs : List ℕ) → IsIn z (past_first xs) → IsIn z xs
  in_past_first z [] i = absurd i
  in_past_first z (x ∷ xs) i = inr i

  -- no id is listed twice
  listed_distinct : IsWithoutRepeats (listed_ids file)
  listed_distinct = distinct_rearranged (defined_ids file) (listed_ids file) forest.listed_once forest.defined_once

  -- a child stands nowhere above its parent
  not_again : (id above : ℕ) (rest : List ℕ) (line : DecompositionLine) → IsIn line file.decompositions → line.id ≡ above → IsIn id line.children → (IsIn above rest → ⊥)
      → (way : List ℕ) → IsWay way → ((z : ℕ) → IsIn z (past_first way) → IsIn z rest) → IsIn id way → ⊥
  not_again id above rest line there is below new [] ways within i = i
  not_again id above rest line there is below new (x ∷ []) ways within (inl same) =
      distinct_apart id file.roots (all_children file.decompositions) listed_distinct (subst (λ y. IsIn y file.roots) (sym same) ways.0)
      (child_listed id line file.decompositions there below)
  not_again id above rest line there is below new (x ∷ z ∷ way) ways within (inl same) =
      let (other, stands, is_other, child) = ways.0 in
      let lines : line ≡ other = one_parent id line other file.decompositions (distinct_right file.roots (all_children file.decompositions) listed_distinct) there stands below
      (subst (λ y. IsIn y other.children) (sym same) child) in
      new (subst (λ y. IsIn y rest) (sym is_other ∙ ap (λ l. l.id) (sym lines) ∙ is) (within z (inl refl)))
  not_again id above rest line there is below new (x ∷ way) ways within (inr i) =
      not_again id above rest line there is below new way ways.1 (λ z j. within z (in_past_first z way j)) i

  -- an id at the end of a way is not on it
  next_new : (id : ℕ) (way : List ℕ) → Next id way → IsWay way → IsWithoutRepeats way → IsIn id way → ⊥
  next_new id [] next ways d i = i
  next_new id (above ∷ way) (line, there, is, below) ways d i = not_again id above way line there is below d.0 (above ∷ way) ways (λ z j. j) i

  -- and is defined
  next_defined : (id : ℕ) (way : List ℕ) → Next id way → IsIn id (defined_ids file)
  next_defined id [] next = in_arranged id (defined_ids file) (listed_ids file) forest.listed_once (in_left id file.roots (all_children file.decompositions) next)
  next_defined id (above ∷ way) (line, there, is, below) =
      in_arranged id (defined_ids file) (listed_ids file) forest.listed_once
      (in_right id file.roots (all_children file.decompositions) (child_listed id line file.decompositions there below))

  -- ## Trees

  module _ (naming : Naming) (named : AreNamedLines naming file) where
    -- the lines with these ids are plan trees of no more than this depth
    record Trees (ids : List ℕ) (depth : ℕ) : Type 0 where
      plans : PlanTrees
      show : ShowTrees naming file ids plans
      within : AreWithin depth plans

    -- the plan tree of a line, of at most that depth
    pub record Tree (id depth : ℕ) : Type 0 where
      pub tree : PlanTree
      pub shows : ShowsTree naming file id tree
      pub within : IsWithin depth tree

    -- a tree for each id gives those of a list
    each_tree : (ids : List ℕ) (depth : ℕ) → ((id : ℕ) → IsIn id ids → Tree id depth) → Trees ids depth
    each_tree [] depth each = record { plans = no_plans; show = refl; within = tt }
    each_tree (id ∷ ids) depth each =
        let first = each id (inl refl) in
        let others = each_tree ids depth (λ x i. each x (inr i)) in
        record { plans = plan first.tree others.plans; show = (first.shows, others.show); within = (first.within, others.within) }

    -- an action line is a tree
    action_tree : (id depth : ℕ) → IsIn id (action_ids file.actions) → Tree id depth
    action_tree id depth i =
        let (line, there, is) = action_of_id id file.actions i in
        let (g, names) = named.actions line there in
        let (index, stands) = in_at line file.actions there in
        record { tree = action_at g index; shows = (line, stands, is, names); within = tt }

    -- a way down that meets no line twice
    record Way (way : List ℕ) (left : ℕ) : Type 0 where
      ways : IsWay way
      distinct : IsWithoutRepeats way
      within : (x : ℕ) → IsIn x way → IsIn x (decomposition_ids file.decompositions)
      long : length way + left ≡ length file.decompositions

    -- a way goes on to a line that it hasn't met
    longer : (way : List ℕ) (left id : ℕ) → Way way (suc left) → Next id way → IsIn id (decomposition_ids file.decompositions) → Way (id ∷ way) left
    longer way left id w next i = record {
      ways = (next, w.ways);
      distinct = (next_new id way next w.ways w.distinct, w.distinct);
      within = λ x j. elim j [ inl same ↦ subst (λ y. IsIn y (decomposition_ids file.decompositions)) (sym same) i | inr k ↦ w.within x k ];
      long = (let l = w.long in omega arith);
    }

    -- a way that has met all lines goes on to none
    at_end : (way : List ℕ) (id : ℕ) → Way way 0 → Next id way → IsIn id (decomposition_ids file.decompositions) → ⊥
    at_end way id w next i =
        let many = no_longer (id ∷ way) (decomposition_ids file.decompositions) (next_new id way next w.ways w.distinct, w.distinct)
        (λ x j. elim j [ inl same ↦ subst (λ y. IsIn y (decomposition_ids file.decompositions)) (sym same) i | inr k ↦ w.within x k ]) in
        let ids = as_many_ids file.decompositions in
        let l = w.long in
        omega arith

    -- the line at the end of a way is a tree that is no deeper than the lines that are left
    tree_of : (left : ℕ) (way : List ℕ) → Way way left → (id : ℕ) → Next id way → Tree id left
    tree_of zero way w id next = elim (in_split id (action_ids file.actions) (decomposition_ids file.decompositions) (next_defined id way next)) [
      | inl i ↦ action_tree id zero i
      | inr i ↦ absurd (at_end way id w next i)
    ]
    tree_of (suc left) way w id next =
        by (in_split id (action_ids file.actions) (decomposition_ids file.decompositions) (next_defined id way next)) (λ v. tree_of left (id ∷ way) v)
      where
        by : IsIn id (action_ids file.actions) ⊎ IsIn id (decomposition_ids file.decompositions) → (Way (id ∷ way) left → (x : ℕ) → Next x (id ∷ way) → Tree x left) → Tree id (suc left)
        by (inl i) deeper = action_tree id (suc left) i
        by (inr i) deeper =
            let (line, there, is) = decomposition_of_id id file.decompositions i in
            let (t, names) = named.decompositions line there in
            let below = each_tree line.children left (λ x j. deeper (longer way left id w next i) x (line, there, is, j)) in
            record { tree = decomposition t line.method below.plans; shows = (line, there, is, names, refl, below.show); within = below.within }

    -- the tree of a root
    pub root_tree : (id : ℕ) → IsIn id file.roots → Tree id (length file.decompositions)
    root_tree id i = tree_of (length file.decompositions) [] (record { ways = tt; distinct = tt; within = λ x j. absurd j; long = (omega arith) }) id i

    -- the lines of a forest are plan trees
    pub forest_planted : (plans : PlanTrees) × ShowTrees naming file file.roots plans
    forest_planted = let trees = each_tree file.roots (length file.decompositions) root_tree in (trees.plans, trees.show)
