-- A file's lines are a forest where no id stands twice, each listed one is defined, and each line is reached by its
-- number.
use Rattle.std.proofs.Common.{◌≡◌, ℕ, zero, suc, ◌+◌, ◌-◌, ◌<◌, ◌≤◌, cond, List, [], ◌∷◌, length, get_or, Option, Some, slice_get, ◌⊎◌, inl, inr, sym, refl, ap, ◌∙◌, subst, arith}
use Rattle.std.proofs.lemmas.Bool.{cases_lt, lt-ltb, le-ltb}
use Rattle.std.proofs.lemmas.List.{length-append}
use Rattle.std.proofs.lemmas.Option.{slice_get_within}
use Rattle.htn_model.specs.PlanFile.{DecompositionLine, PlanFile, IsIn, IsWithoutRepeats, action_ids, decomposition_ids, all_children, defined_ids, listed_ids, IsForest, IsReached, from_root, from_parent}
use Rattle.htn_model.proofs.Ascending.{in_left, in_right, in_split, in_at, at_in}
use Rattle.htn_model.proofs.Marked.{child_listed}
use Rattle.htn_model.proofs.Proper.{same_members}
use Rattle.htn_model.proofs.Rearranged.{in_arranged, distinct_rearranged}
use Rattle.plan_text.specs.Numbers.{AreNumbersOf, AreNumbersOfChildren, IsUnknown}
use Rattle.plan_text.specs.Reached.{children_at, IsReachedFrom, a_root, a_child}
use Rattle.plan_text.proofs.Listed.{at_number, of_number, one_number, children_numbers, line_there, decomposition_id_at, past_actions, as_many_action_ids, as_many_decomposition_ids}

-- a forest lists no id twice
pub forest_lists_once : (file : PlanFile) → IsForest file → IsWithoutRepeats (listed_ids file)
forest_lists_once file forest = distinct_rearranged (defined_ids file) (listed_ids file) forest.listed_once forest.defined_once

-- and none that isn't defined
pub forest_knows : (file : PlanFile) (listed : List ℕ) → IsForest file → ((id : ℕ) → IsIn id listed → IsIn id (listed_ids file)) → IsUnknown (defined_ids file) listed → ⊥
forest_knows file listed forest within (id, there, unknown) = unknown (in_arranged id (defined_ids file) (listed_ids file) forest.listed_once (within id there))

-- roots are listed
pub root_is_listed : (file : PlanFile) (id : ℕ) → IsIn id file.roots → IsIn id (listed_ids file)
root_is_listed file id i = in_left id file.roots (all_children file.decompositions) i

-- and so are children
pub child_is_listed : (file : PlanFile) (id : ℕ) → IsIn id (all_children file.decompositions) → IsIn id (listed_ids file)
child_is_listed file id i = in_right id file.roots (all_children file.decompositions) i

-- the line that lists a child
parent_line : (id : ℕ) (lines : List DecompositionLine) → IsIn id (all_children lines) → (line : DecompositionLine) × IsIn line lines × IsIn id line.children
parent_line id [] i = absurd i
parent_line id (l ∷ lines) i = by (in_split id l.children (all_children lines) i) (parent_line id lines)
  where
    by : IsIn id l.children ⊎ IsIn id (all_children lines) → (IsIn id (all_children lines) → (line : DecompositionLine) × IsIn line lines × IsIn id line.children)
        → (line : DecompositionLine) × IsIn line (l ∷ lines) × IsIn id line.children
    by (inl j) more = (l, inl refl, j)
    by (inr j) more = let (line, there, below) = more j in (line, inr there, below)

-- one option holds one value
some_is : {X : Type 0} (o : Option X) (x y : X) → o ≡ Some x → o ≡ Some y → x ≡ y
some_is o x y e h = cc

-- as many ids as lines
pub line_count : (file : PlanFile) → length (defined_ids file) ≡ length file.actions + length file.decompositions
line_count file =
    let a = as_many_action_ids file.actions in let d = as_many_decomposition_ids file.decompositions in
    let l = length-append (action_ids file.actions) (decomposition_ids file.decompositions) in
    omega arith

module _ (file : PlanFile) (once : IsWithoutRepeats (defined_ids file)) (roots : List ℕ) (children : List (List ℕ)) (are_roots : AreNumbersOf (defined_ids file) roots file.roots)
    (are_children : AreNumbersOfChildren (defined_ids file) children file.decompositions) where
  -- the ids of the lines, by their numbers
  abbrev ids : List ℕ
  ids = defined_ids file

  -- how many action lines there are
  abbrev actions : ℕ
  actions = length file.actions

  -- the children of a decomposition line
  past : (j : ℕ) → children_at actions children (actions + j) ≡ get_or children j []
  past j =
      let high : actions ≤ actions + j = omega arith in
      let off : actions + j - actions ≡ j = omega arith in
      ap (λ b. cond b [] (get_or children (actions + j - actions) [])) (le-ltb (actions + j) actions high) ∙ ap (λ k. get_or children k []) off

  -- a decomposition line's number
  number_of_line : (j : ℕ) (line : DecompositionLine) → slice_get file.decompositions j ≡ Some line → slice_get ids (actions + j) ≡ Some line.id
  number_of_line j line h = past_actions file.actions (decomposition_ids file.decompositions) j ∙ decomposition_id_at file.decompositions j line h

  -- a line that is reached is reached by its number
  to_number : (id : ℕ) → IsReached file id → (l : ℕ) → slice_get ids l ≡ Some id → IsReachedFrom actions roots children l
  to_number id (from_root _ i) l h =
      let (m, there, is) = at_number ids roots file.roots are_roots id i in
      a_root l (subst (λ k. IsIn k roots) (one_number ids once m l id is h) there)
  to_number id (from_parent _ line stands above below) l h =
      let (j, at) = in_at line file.decompositions stands in
      let (m, there, is) = at_number ids (get_or children j []) line.children (children_numbers ids children file.decompositions are_children j line at) id below in
      a_child (actions + j) l (to_number line.id above (actions + j) (number_of_line j line at))
      (subst (IsIn l) (sym (past j)) (subst (λ k. IsIn k (get_or children j [])) (one_number ids once m l id is h) there))

  -- the line has an id that is reached
  record HasReachedId (l : ℕ) : Type 0 where
    id : ℕ
    is : slice_get ids l ≡ Some id
    reached : IsReached file id

  -- and the other way round
  to_id : (l : ℕ) → IsReachedFrom actions roots children l → HasReachedId l
  to_id l (a_root _ i) = let (id, there, is) = of_number ids roots file.roots are_roots l i in record { id = id; is = is; reached = from_root id there }
  to_id l (a_child parent _ above i) = by (cases_lt parent actions) (to_id parent above)
    where
      by : (parent < actions) ⊎ (actions ≤ parent) → HasReachedId parent → HasReachedId l
      by (inl low) has =
          let none : children_at actions children parent ≡ [] = ap (λ b. cond b [] (get_or children (parent - actions) [])) (lt-ltb parent actions low) in
          absurd (subst (IsIn l) none i)
      by (inr high) has =
          let all = line_count file in
          let within = slice_get_within ids parent has.id has.is in
          let (line, at) = line_there file.decompositions (parent - actions) (omega arith) in
          let whole : actions + (parent - actions) ≡ parent = omega arith in
          let same : has.id ≡ line.id =
          some_is (slice_get ids parent) has.id line.id has.is (subst (λ k. slice_get ids k ≡ Some line.id) whole (number_of_line (parent - actions) line at)) in
          let inside : IsIn l (get_or children (parent - actions) []) = subst (IsIn l) (ap (children_at actions children) (sym whole) ∙ past (parent - actions)) i in
          let (id, there, is) =
          of_number ids (get_or children (parent - actions) []) line.children
          (children_numbers ids children file.decompositions are_children (parent - actions) line at) l inside in
          record { id = id; is = is; reached = from_parent id line (at_in line file.decompositions (parent - actions) at) (subst (IsReached file) same has.reached) there }

  -- each line is reached
  abbrev pub AllReached : Type 0
  AllReached = (l : ℕ) → l < length (defined_ids file) → IsReachedFrom (length file.actions) roots children l

  -- an id stands at each place below the count
  id_there : (xs : List ℕ) (l : ℕ) → l < length xs → (id : ℕ) × (slice_get xs l ≡ Some id)
  id_there [] l h = absurd (omega arith)
  id_there (x ∷ xs) zero h = (x, refl)
  id_there (x ∷ xs) (suc l) h = id_there xs l (omega arith)

  -- the numbers of a forest are reached
  pub forest_reaches : IsForest file → AllReached
  forest_reaches forest l h =
      let (id, is) = id_there ids l h in
      to_number id (forest.reached id (at_in id ids l is)) l is

  module _ (lists_once : IsWithoutRepeats (listed_ids file)) (all : AllReached) where
    -- each defined id is reached
    reached : (id : ℕ) → IsIn id ids → IsReached file id
    reached id i =
        let (l, is) = in_at id ids i in
        let has = to_id l (all l (slice_get_within ids l id is)) in
        subst (IsReached file) (some_is (slice_get ids l) has.id id has.is is) has.reached

    -- what is reached is listed
    reached_listed : (id : ℕ) → IsReached file id → IsIn id (listed_ids file)
    reached_listed id (from_root _ i) = root_is_listed file id i
    reached_listed id (from_parent _ line stands above below) = child_is_listed file id (child_listed id line file.decompositions stands below)

    -- what is listed is defined
    listed_defined : (id : ℕ) → IsIn id (listed_ids file) → IsIn id ids
    listed_defined id i = elim (in_split id file.roots (all_children file.decompositions) i) [
      | inl r ↦ (let (l, there, is) = at_number ids roots file.roots are_roots id r in at_in id ids l is)
      | inr c ↦ (let (line, stands, below) = parent_line id file.decompositions c in
          let (j, at) = in_at line file.decompositions stands in
          let (l, there, is) = at_number ids (get_or children j []) line.children (children_numbers ids children file.decompositions are_children j line at) id below in
          at_in id ids l is)
    ]

    -- so the lines are a forest
    pub is_forest : IsForest file
    is_forest = record {
      defined_once = once;
      listed_once = same_members ids (listed_ids file) once lists_once (λ id i. reached_listed id (reached id i)) listed_defined;
      reached = reached;
    }
