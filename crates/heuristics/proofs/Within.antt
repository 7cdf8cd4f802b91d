-- What the checks of one row and one network tell.
use Rattle.std.proofs.Common.{◌≡◌, ℕ, ◌+◌, ◌<◌, true, false, not, ◌||◌, List, [], ◌∷◌, All, Contains, length, get_or, Option, Some, None, slice_get, inl, inr, refl, sym, ap, ap₂, ◌∙◌, subst, arith, zero-add}
use Rattle.std.specs.List.{list_any, range_with_len}
use Rattle.std.proofs.lemmas.Bool.{and_parts, cases_Bool, cases_lt}
use Rattle.std.proofs.lemmas.Option.{none-some, same_Some, slice_get-get_or}
use Rattle.std.proofs.lemmas.List.{length-map, get_or-map}
use Rattle.std.proofs.lemmas.List.Folds.{list_any_at}
use Rattle.std.proofs.lemmas.List.FromFn.{get_or-range_with_len, length-range_with_len}
use Rattle.std.proofs.lemmas.List.Elements.{All-contains, All-map}
use Rattle.htn_model.specs.Choice.{child_of}
use Rattle.htn_model.specs.Atom.{Atom}
use Rattle.htn_model.specs.State.{State, atoms_of, contains}
use Rattle.htn_model.proofs.Sets.{set_of-Contains, set_of-atoms_of}
use Rattle.htn_model.specs.Literal.{Literal, Action, atom, literal_eq}
use Rattle.htn_model.specs.Equality.{ground_task_eq-decides, literal_eq-decides}
use Rattle.htn_model.specs.Problem.{Child, precondition, GroundTask, ground_task_eq, Network, Order}
use Rattle.htn_task.specs.Literals.{literal_of, literals_of}
use Rattle.htn_task.specs.declared.literal.Literal.{Literal as Written}
use Rattle.htn_ground.specs.Views.{child_view, children_of}
use Rattle.htn_ground.specs.declared.child.Child.{Child as Node}
use Rattle.task_graph.specs.Graph.{network_of, task_at}
use Rattle.task_graph.specs.declared.decomposition.Decomposition.{Decomposition}
use Rattle.task_graph.specs.declared.graph.TaskGraph.{TaskGraph}
use Rattle.heuristics.specs.CheckedNeeds.{GivesWithin, IsActionRight, IsAllowed}
use Rattle.heuristics.specs.Needs.{IsNeededAt, IsUngiven, IsWithin, is_ungiven, may_give}
use Rattle.heuristics.specs.Rows.{blocked_by, gives_by, is_marked, literal_number, outlook_of, row_of, task_row, wants_by}
use Rattle.heuristics.specs.declared.needs.Needs.{Needs}
use Rattle.heuristics.specs.declared.rows.Row.{Row}
use Rattle.heuristics.proofs.NeedsLasting.{is_needed, ungiven_at}
use Rattle.heuristics.proofs.MarkLists.{contains_first, contains_later, contains_none, in_range, none_from}

-- a network as the code has it
abbrev pub seen : List Node → Order → Network
seen children order = record { children = children_of children; order = order }

-- the node at a position
pub node_at : (xs : List Node) (i : ℕ) (x : Node) → i < length xs → x ≡ get_or xs i x → child_of (children_of xs) i ≡ child_view x
node_at xs i x low is = get_or-map child_view xs i x (precondition _) low ∙ ap child_view (sym is)

-- one that equals an element is an element
pub contains_equal : (ls : List Literal) (l : Literal) → list_any (literal_eq l) ls ≡ true → Contains ls l
contains_equal [] l passes = absurd cc
contains_equal (m ∷ ls) l passes = elim (cases_Bool (literal_eq l m)) [
  | inl same ↦ contains_first m ls l (sym ((literal_eq-decides l m).0 same))
  | inr differs ↦ contains_later m ls l (contains_equal ls l (sym (ap (λ b. b || list_any (literal_eq l) ls) differs) ∙ passes))
]

-- what holds of each written literal holds of each literal
pub each_literal : (P : Literal → Type 0) (xs : List Written) → All (λ x. P (literal_of x)) xs → (l : Literal) → Contains (literals_of xs) l → P l
each_literal P xs all l at = All-contains P (literals_of xs) l (All-map P literal_of xs all) at

-- a node whose row's marks a row has gives within it
pub gives_from : (n : Needs) (x : Child) (inner r : Row) → row_of n x ≡ Some inner → ((number : Option ℕ) → is_marked inner.gives.items number ≡ true → is_marked r.gives.items number ≡ true)
    → GivesWithin n x r
gives_from n x inner r is h = λ number on. h number (sym (ap (λ o. gives_by o number) is) ∙ on)

-- where no node may give a literal it is not given
pub ungiven_of_none : (n : Needs) (children : List Node) (order : Order) (l : Literal) (i : ℕ)
    → ((j : ℕ) → j < length children → may_give (outlook_of n) (seen children order) l i j ≡ false) → is_ungiven (outlook_of n) (seen children order) i l ≡ true
ungiven_of_none n children order l i none =
    ap not (none_from (may_give (outlook_of n) (seen children order) l i) (range_with_len 0 (length (children_of children)))
    (λ j at. (let low = in_range 0 (length (children_of children)) j at in none j (omega (arith, low, length-map children child_view)))))

-- where one may it is
pub given_by : (n : Needs) (children : List Node) (order : Order) (l : Literal) (i j : ℕ) → j < length children → may_give (outlook_of n) (seen children order) l i j ≡ true
    → is_ungiven (outlook_of n) (seen children order) i l ≡ false
given_by n children order l i j low gives =
    let test = may_give (outlook_of n) (seen children order) l i in
    let numbers = range_with_len 0 (length (children_of children)) in
    let long : length (children_of children) ≡ length children = length-map children child_view in
    let high : j < length (children_of children) = omega arith in
    let place : get_or numbers j 0 ≡ j = get_or-range_with_len 0 (length (children_of children)) j 0 high ∙ zero-add j in
    ap not (list_any_at test numbers j 0 (let count = length-range_with_len 0 (length (children_of children)) in omega (arith, count, high)) (ap test place ∙ gives))

-- what isn't given by any other is not given
pub ungiven_parts : (n : Needs) (children : List Node) (order : Order) (l : Literal) (i : ℕ) → is_ungiven (outlook_of n) (seen children order) i l ≡ true
    → IsUngiven (outlook_of n) (seen children order) l i
ungiven_parts n children order l i none = λ j low other before. ungiven_at (outlook_of n) (seen children order) l i j none low other before

-- a task without a row is within each network
pub without_row : (n : Needs) (g : GroundTask) (network : Network) → task_row n g ≡ None → IsWithin (outlook_of n) g network
without_row n g network none = record {
  ends = ap blocked_by none;
  wants = λ l at. absurd (contains_none l (subst (λ o. Contains (wants_by o) l) none at));
  gives = λ l x there given. ap (λ o. gives_by o (literal_number n l)) none;
}

-- one with a row that was checked is within the network
pub with_row : (n : Needs) (g : GroundTask) (children : List Node) (order : Order) (r : Row) → task_row n g ≡ Some r → r.is_blocked ≡ false
    → All (λ x. (i : ℕ) × IsNeededAt (outlook_of n) (seen children order) (literal_of x) i) r.wants.items → All (λ x. GivesWithin n (child_view x) r) children
    → IsWithin (outlook_of n) g (seen children order)
with_row n g children order r is ends needs gives = record {
  ends = ap blocked_by is ∙ ends;
  wants = λ l at.
      (let found = each_literal (λ l. (i : ℕ) × IsNeededAt (outlook_of n) (seen children order) l i) r.wants.items needs l (subst (λ o. Contains (wants_by o) l) is at) in
      is_needed (outlook_of n) (seen children order) l found.0 found.1);
  gives = λ l x there given.
      (ap (λ o. gives_by o (literal_number n l)) is
      ∙ All-contains (λ y. GivesWithin n y r) (children_of children) x (All-map (λ y. GivesWithin n y r) child_view children gives) there (literal_number n l) given);
}

-- an atom that is true is one of the true atoms
contains_atom : (s : State) (x : Atom) → contains s x ≡ true → Contains (atoms_of s) x
contains_atom s x has = (set_of-Contains (atoms_of s) x).0 (ap (λ (t : State). contains t x) (set_of-atoms_of s) ∙ has)

-- the row of an action is right where each part is
pub action_right : (n : Needs) (a : Action) (r : Row) (wants pre : List Written) (adds deletes : List Atom) → wants ≡ r.wants.items → literals_of pre ≡ a.precondition → adds ≡ atoms_of a.adds
    → deletes ≡ atoms_of a.deletes → All (λ l. Contains (literals_of pre) (literal_of l)) wants → All (λ x. is_marked r.gives.items (literal_number n (atom true x)) ≡ true) adds
    → All (λ x. is_marked r.gives.items (literal_number n (atom false x)) ≡ true) deletes → IsActionRight n a r
action_right n a r wants pre adds deletes wants_are pre_is adds_are deletes_are among added deleted = record {
  wants = λ l at.
      subst (λ ls. Contains ls l) pre_is
      (each_literal (λ m. Contains (literals_of pre) m) wants among l (subst (λ (ls : List Written). Contains (literals_of ls) l) (sym wants_are) at));
  adds = λ x has. All-contains (λ y. is_marked r.gives.items (literal_number n (atom true y)) ≡ true) adds x added (subst (λ ys. Contains ys x) (sym adds_are) (contains_atom a.adds x has));
  deletes = λ x has. All-contains (λ y. is_marked r.gives.items (literal_number n (atom false y)) ≡ true) deletes x deleted (subst (λ ys. Contains ys x) (sym deletes_are) (contains_atom a.deletes x has));
}

-- those before a place are allowed
abbrev pub AllowedBelow : Needs → TaskGraph → ℕ → Type 0
AllowedBelow n g i = (j : ℕ) (d : Decomposition) (h : GroundTask) → j < i → slice_get g.decompositions.items j ≡ Some d → task_at g d.task.index ≡ Some h → IsAllowed n h (network_of d)

-- one more of them
pub allowed_more : (n : Needs) (g : TaskGraph) (i : ℕ) (item : Decomposition) (goal : GroundTask) → i < length g.decompositions.items → item ≡ get_or g.decompositions.items i item
    → task_at g item.task.index ≡ Some goal → AllowedBelow n g i → IsAllowed n goal (network_of item) → AllowedBelow n g (i + 1)
allowed_more n g i item goal low is named before here j d h less at at_goal = elim (cases_lt j i) [
  | inl less ↦ before j d h less at at_goal
  | inr past ↦
      (let place : j ≡ i = omega arith in
      let same : d ≡ item = same_Some d item (sym at ∙ ap (slice_get g.decompositions.items) place ∙ slice_get-get_or g.decompositions.items i item low ∙ ap Some (sym is)) in
      let goal_is : h ≡ goal = same_Some h goal (sym at_goal ∙ ap (λ (e : Decomposition). task_at g e.task.index) same ∙ named) in
      subst (λ (e : Decomposition). IsAllowed n h (network_of e)) (sym same) (subst (λ (k : GroundTask). IsAllowed n k (network_of item)) (sym goal_is) here))
]

-- one that is no compound task's is passed over
pub allowed_skip : (n : Needs) (g : TaskGraph) (i : ℕ) (item : Decomposition) → i < length g.decompositions.items → item ≡ get_or g.decompositions.items i item → task_at g item.task.index ≡ None
    → AllowedBelow n g i → AllowedBelow n g (i + 1)
allowed_skip n g i item low is none before j d h less at at_goal = elim (cases_lt j i) [
  | inl less ↦ before j d h less at at_goal
  | inr past ↦
      (let place : j ≡ i = omega arith in
      let same : d ≡ item = same_Some d item (sym at ∙ ap (slice_get g.decompositions.items) place ∙ slice_get-get_or g.decompositions.items i item low ∙ ap Some (sym is)) in
      absurd (none-some h (sym none ∙ ap (λ (e : Decomposition). task_at g e.task.index) (sym same) ∙ at_goal)))
]
