-- Instances with their numbers, method by method.
use Rattle.std.proofs.Common.{◌≡◌, ◌+◌, ◌<◌, ◌∙◌, ◌++◌, ◌∷◌, ◌&&◌, ◌||◌, Bool, List, [], ap, append-nil, arith, cond, drop, false, get_or, length, length-append, length-take-le, map, not, refl, None, Option, Some, append_assoc, subst, suc, sym, take, true, zero, ℕ}
use Rattle.std.specs.List.{All, enumerate_from, flat_map, list_all, list_any}
use Rattle.std.proofs.lemmas.List.{get_or-map, length-map, map-append, take_more}
use Rattle.std.proofs.lemmas.List.Concat.{flat_map-append}
use Rattle.std.proofs.lemmas.List.Elements.{All-cons, All-contains, All-get_or, All-head, All-nil, All-tail, filter-append}
use Rattle.std.proofs.lemmas.List.Folds.{list_any-append}
use Rattle.htn_model.specs.State.{State}
use Rattle.htn_model.specs.Literal.{Literal, atom}
use Rattle.htn_model.specs.Schema.{AtomSchema, Formula, Term, equation, for_all, literal}
use Rattle.htn_model.specs.Instance.{Instance}
use Rattle.htn_model.specs.Task.{IsAtomSchema, IsFormula, IsMethodSchema, IsTerm, IsWellTyped, MethodSchema, Task}
use Rattle.htn_task.specs.Views.{terms_of}
use Rattle.htn_model.specs.Problem.{GroundTask, precondition}
use Rattle.htn_model.specs.Instances.{child_of, ground_atom, ground_task, has_step, instances_of_method, is_among, literals_in, literals_of, method_instance, state_formulas}
use Rattle.htn_model.specs.Exhaustion.{is_dead, is_dead_child, is_dead_literal}
use Rattle.htn_model.specs.Grounding.{is_changed, problem_of}
use Rattle.htn_ground.specs.declared.fixed.FixedLiteral.{FixedLiteral}
use Rattle.htn_ground.specs.Counted.{counted, fitted}
use Rattle.htn_ground.specs.Fixed.{IsFixed, schema_of}
use Rattle.htn_ground.specs.Methods.{instances_for, live_instances, numbered_instances}
use Rattle.htn_ground.specs.Search.{AreLiteralsOf, fixed_holds, is_bound, is_ruled_out, live_from}
use Rattle.htn_ground.proofs.Fitting.{fitting_some}
use Rattle.htn_ground.proofs.Pinned.{among_term}

-- ## Numbers

-- numbers of two lists go on
pub enumerate-append : {X : Type 0} (n : ℕ) (xs ys : List X) → enumerate_from n (xs ++ ys) ≡ enumerate_from n xs ++ enumerate_from (n + length xs) ys
enumerate-append n [] ys = let e : n ≡ n + 0 = omega arith in ap (λ m. enumerate_from m ys) e
enumerate-append n (x ∷ xs) ys =
    let e : (n + 1) + length xs ≡ n + length (x ∷ xs) = omega arith in
    ap (λ l. (n, x) ∷ l) (enumerate-append (n + 1) xs ys ∙ ap (λ m. enumerate_from (n + 1) xs ++ enumerate_from m ys) e)

-- all values, where no literal is asked
pub all_live : {Y : Type 0} (state : State) (f : List ℕ → Y) (n : ℕ) (vs : List (List ℕ)) → map (λ (p : Option ℕ × List ℕ). f p.1) (map fitted (live_from state [] n vs)) ≡ map f vs
all_live state f n [] = refl
all_live state f n (v ∷ vs) = ap (λ l. f v ∷ l) (all_live state f (n + 1) vs)

-- one more method
pub method_more : {X Y : Type 0} (f : ℕ × X → List Y) (xs : List X) (i : ℕ) (x : X) → i < length xs → x ≡ get_or xs i x
    → flat_map f (enumerate_from 0 (take (i + 1) xs)) ≡ flat_map f (enumerate_from 0 (take i xs)) ++ f (i, x)
method_more f xs i x below is =
    let long : 0 + length (take i xs) ≡ i = taken xs i below in
    ap (λ l. flat_map f (enumerate_from 0 l)) (take_more xs i x below ∙ ap (λ y. take i xs ++ y ∷ []) (sym is))
    ∙ ap (flat_map f) (enumerate-append 0 (take i xs) (x ∷ []))
    ∙ flat_map-append f (enumerate_from 0 (take i xs)) ((0 + length (take i xs), x) ∷ [])
    ∙ ap (λ l. flat_map f (enumerate_from 0 (take i xs)) ++ l) (append-nil (f (0 + length (take i xs), x)) ∙ ap (λ (k : ℕ). f (k, x)) long)
  where
    taken : {X : Type 0} (xs : List X) (i : ℕ) → i < length xs → 0 + length (take i xs) ≡ i
    taken xs i h = omega (arith, length-take-le i xs (omega arith))

-- ## Live instances

module _ (t : Task) (number : ℕ) (m : MethodSchema) where
  -- where what literals rule out is dead, the live ones are those of what is left
  pub live_same : (literals : List FixedLiteral)
      → ((v : List ℕ) → is_ruled_out t.initial_atoms literals v ≡ true → is_dead (problem_of t) (method_instance t number m v).network ≡ true)
      → (n : ℕ) (vs : List (List ℕ))
      → live_instances t (numbered_instances t number m (live_from t.initial_atoms literals n vs)) ≡ live_instances t (enumerate_from n (map (method_instance t number m) vs))
  live_same literals dead n [] = refl
  live_same literals dead n (v ∷ vs) =
      let rest = live_instances t (enumerate_from (n + 1) (map (method_instance t number m) vs)) in
      let here = method_instance t number m v in
      elim (is_ruled_out t.initial_atoms literals v) as (λ b. is_ruled_out t.initial_atoms literals v ≡ b
      → live_instances t (numbered_instances t number m (cond (not b) ((n, v) ∷ live_from t.initial_atoms literals (n + 1) vs) (live_from t.initial_atoms literals (n + 1) vs)))
      ≡ cond (not (is_dead (problem_of t) here.network)) ((n, here) ∷ rest) rest) [
        | true ↦ λ e. live_same literals dead (n + 1) vs ∙ sym (ap (λ b. cond (not b) ((n, here) ∷ rest) rest) (dead v e))
        | false ↦ λ e. ap (λ l. cond (not (is_dead (problem_of t) here.network)) ((n, here) ∷ l) l) (live_same literals dead (n + 1) vs)
      ] refl

-- the live instances of two lists
pub live-append : (t : Task) (xs ys : List (ℕ × Instance)) → live_instances t (xs ++ ys) ≡ live_instances t xs ++ live_instances t ys
live-append t xs ys = filter-append (λ (p : ℕ × Instance). not (is_dead (problem_of t) p.1.network)) xs ys

-- one more method: what is found so far, and its live instances
pub live_more : (t : Task) (all more : List Instance) (n : ℕ) → n ≡ length all
    → live_instances t (enumerate_from 0 (all ++ more)) ≡ live_instances t (enumerate_from 0 all) ++ live_instances t (enumerate_from n more)
live_more t all more n long =
    ap (live_instances t) (enumerate-append 0 all more)
    ∙ live-append t (enumerate_from 0 all) (enumerate_from (0 + length all) more)
    ∙ ap (λ k. live_instances t (enumerate_from 0 all) ++ live_instances t (enumerate_from k more)) (let e : 0 + length all ≡ n = omega arith in e)

-- ## A loop over numbered values

-- the next of them
next_fitted : (items : List (Option ℕ × List ℕ)) (xs : List (ℕ × List ℕ)) (i : ℕ) (p : Option ℕ × List ℕ) (d : ℕ × List ℕ) → i < length items → p ≡ get_or items i p → items ≡ map fitted xs
    → (i < length xs) × (p ≡ fitted (get_or xs i d))
next_fitted items xs i p d below is are =
    let short : i < length xs = omega (arith, below, ap length are, length-map xs fitted) in
    (short, is ∙ ap (λ l. get_or l i p) are ∙ get_or-map fitted xs i d p short)

module _ (t : Task) (number : ℕ) (m : MethodSchema) where
  -- the instance of numbered values, with its number
  abbrev here : ℕ × List ℕ → ℕ × Instance
  here p = (p.0, method_instance t number m p.1)

  -- the live ones of one more
  live_next : (xs : List (ℕ × List ℕ)) (i : ℕ) (d : ℕ × List ℕ) → i < length xs
      → live_instances t (numbered_instances t number m (take (i + 1) xs)) ≡ live_instances t (numbered_instances t number m (take i xs)) ++ live_instances t (here (get_or xs i d) ∷ [])
  live_next xs i d short =
      ap (λ l. live_instances t (numbered_instances t number m l)) (take_more xs i d short)
      ∙ ap (live_instances t) (map-append here (take i xs) (get_or xs i d ∷ []))
      ∙ live-append t (numbered_instances t number m (take i xs)) (here (get_or xs i d) ∷ [])

  -- a dead one is passed over
  pub dead_passed : (items : List (Option ℕ × List ℕ)) (xs : List (ℕ × List ℕ)) (i : ℕ) (p : Option ℕ × List ℕ) (start done : List (Option ℕ × Instance))
      → i < length items → p ≡ get_or items i p → items ≡ map fitted xs → is_dead (problem_of t) (method_instance t number m p.1).network ≡ true
      → done ≡ start ++ map counted (live_instances t (numbered_instances t number m (take i xs)))
      → done ≡ start ++ map counted (live_instances t (numbered_instances t number m (take (i + 1) xs)))
  dead_passed items xs i p start done below is are dead so_far =
      let d : ℕ × List ℕ = (0, []) in
      let next = next_fitted items xs i p d below is are in
      let one : live_instances t (here (get_or xs i d) ∷ []) ≡ [] =
      ap (λ b. cond (not b) (here (get_or xs i d) ∷ []) []) (ap (λ (q : Option ℕ × List ℕ). is_dead (problem_of t) (method_instance t number m q.1).network) (sym next.1) ∙ dead) in
      so_far ∙ ap (λ l. start ++ map counted l) (sym (append-nil _) ∙ ap (λ l. live_instances t (numbered_instances t number m (take i xs)) ++ l) (sym one) ∙ sym (live_next xs i d next.0))

  -- one that is not is kept, with its number
  pub live_kept : (items : List (Option ℕ × List ℕ)) (xs : List (ℕ × List ℕ)) (i : ℕ) (p : Option ℕ × List ℕ) (start done new : List (Option ℕ × Instance))
      → i < length items → p ≡ get_or items i p → items ≡ map fitted xs → is_dead (problem_of t) (method_instance t number m p.1).network ≡ false
      → done ≡ start ++ map counted (live_instances t (numbered_instances t number m (take i xs))) → new ≡ done ++ (p.0, method_instance t number m p.1) ∷ []
      → new ≡ start ++ map counted (live_instances t (numbered_instances t number m (take (i + 1) xs)))
  live_kept items xs i p start done new below is are live so_far pushed =
      let d : ℕ × List ℕ = (0, []) in
      let next = next_fitted items xs i p d below is are in
      let before = live_instances t (numbered_instances t number m (take i xs)) in
      let same : (p.0, method_instance t number m p.1) ≡ counted (here (get_or xs i d)) = (λ k. ((next.1 k).0, method_instance t number m (next.1 k).1)) in
      let one : live_instances t (here (get_or xs i d) ∷ []) ≡ here (get_or xs i d) ∷ [] =
      ap (λ b. cond (not b) (here (get_or xs i d) ∷ []) []) (ap (λ (q : Option ℕ × List ℕ). is_dead (problem_of t) (method_instance t number m q.1).network) (sym next.1) ∙ live) in
      pushed ∙ (λ k. so_far k ++ same k ∷ []) ∙ append_assoc start _ _
      ∙ ap (λ l. start ++ l) (sym (map-append counted before (here (get_or xs i d) ∷ []))
      ∙ ap (map counted) (ap (λ l. before ++ l) (sym one) ∙ sym (live_next xs i d next.0)))

-- what is known of all numbers, where each of them fits
pub all_known : (found live : List (ℕ × Instance)) → map (λ (p : ℕ × Instance). (Some p.0, p.1)) found ≡ map counted live → found ≡ live
all_known [] [] e = refl
all_known [] (q ∷ live) e = absurd cc
all_known (p ∷ found) [] e = absurd cc
all_known (p ∷ found) (q ∷ live) e =
    let d : Option ℕ × Instance = (None, p.1) in
    let first : (Some p.0, p.1) ≡ counted q = ap (λ (l : List (Option ℕ × Instance)). get_or l 0 d) e in
    let rest = all_known found live (ap (λ (l : List (Option ℕ × Instance)). drop 1 l) e) in
    let number : p.0 ≡ q.0 = fitting_some p.0 q.0 (ap (λ (x : Option ℕ × Instance). x.0) first) in
    (λ k. (number k, (first k).1) ∷ rest k)

-- ## What a fixed literal rules out is dead

-- one of two, by the first
or_left : (a b : Bool) → a ≡ true → (a || b) ≡ true
or_left a b h = ap (λ x. x || b) h

-- one of two, by the second
or_right : (a b : Bool) → b ≡ true → (a || b) ≡ true
or_right true b h = refl
or_right false b h = h

-- the ground literal of one that stands in a conjunction is among those of the step
abbrev any_literal : Task → (Literal → Bool) → List ℕ → List Formula → Bool
any_literal t test v formulas = list_any test (literals_of t v (state_formulas formulas))

-- a literal that passes stands in the longer list too
any_later : (t : Task) (test : Literal → Bool) (v : List ℕ) (f : Formula) (formulas : List Formula) → any_literal t test v formulas ≡ true → any_literal t test v (f ∷ formulas) ≡ true
any_later t test v (literal p a) formulas h = or_right _ _ h
any_later t test v (equation e) formulas h = h
any_later t test v (for_all types body) formulas h = list_any-append test (literals_in t v (for_all types body)) (literals_of t v (state_formulas formulas)) ∙ or_right _ _ h

-- what makes a step makes one with more formulas
step_later : (f : Formula) (formulas : List Formula) → has_step formulas ≡ true → has_step (f ∷ formulas) ≡ true
step_later f formulas h = or_right _ _ h

-- a literal that stands in the list makes a step, which has it
stands_step : (formulas : List Formula) (p : Bool) (a : AtomSchema) (k : ℕ) → k < length formulas → get_or formulas k (literal p a) ≡ literal p a
    → (has_step formulas ≡ true) × ((t : Task) (test : Literal → Bool) (v : List ℕ) → test (atom p (ground_atom v a)) ≡ true → any_literal t test v formulas ≡ true)
stands_step [] p a k below is = absurd (omega arith)
stands_step (f ∷ formulas) p a zero below is = (
  ap (λ g. has_step (g ∷ formulas)) is,
  λ t test v h. ap (λ g. any_literal t test v (g ∷ formulas)) is ∙ or_left _ _ h,
)
stands_step (f ∷ formulas) p a (suc k) below is =
    let later = stands_step formulas p a k (omega arith) is in
    (step_later f formulas later.0, λ t test v h. any_later t test v f formulas (later.1 t test v h))

-- a dead literal makes the network dead
dead_network : (t : Task) (number : ℕ) (m : MethodSchema) (v : List ℕ) → has_step m.precondition ≡ true
    → any_literal t (is_dead_literal (problem_of t)) v m.precondition ≡ true → is_dead (problem_of t) (method_instance t number m v).network ≡ true
dead_network t number m v step dead =
    ap (λ b. list_any (is_dead_child (problem_of t)) (cond b (precondition (literals_of t v (state_formulas m.precondition)) ∷ []) [] ++ map (λ s. child_of t (ground_task v s)) m.network.subtasks)) step
    ∙ or_left _ _ dead

-- a fixed literal that is false at first is dead
dead_literal : (t : Task) (v : List ℕ) (l : FixedLiteral) → is_changed t l.predicate ≡ false → fixed_holds t.initial_atoms v l ≡ false
    → is_dead_literal (problem_of t) (atom l.is_positive (ground_atom v (schema_of l))) ≡ true
dead_literal t v l unchanged fails = λ i. not (unchanged i) && not (fails i)

-- what isn't so is false
not_false : (b : Bool) → not b ≡ true → b ≡ false
not_false true h = absurd cc
not_false false h = refl

-- values that are ruled out make a dead network
pub ruled_out_dead : (t : Task) (number : ℕ) (m : MethodSchema) (literals : List FixedLiteral) → All (IsFixed t m.precondition) literals
    → (v : List ℕ) → is_ruled_out t.initial_atoms literals v ≡ true → is_dead (problem_of t) (method_instance t number m v).network ≡ true
ruled_out_dead t number m [] fixed v h = absurd cc
ruled_out_dead t number m (l ∷ literals) fixed v h =
    elim (fixed_holds t.initial_atoms v l) as (λ b. fixed_holds t.initial_atoms v l ≡ b → (not b || is_ruled_out t.initial_atoms literals v) ≡ true
    → is_dead (problem_of t) (method_instance t number m v).network ≡ true) [
      | true ↦ λ e later. ruled_out_dead t number m literals (All-tail (IsFixed t m.precondition) l literals fixed) v later
      | false ↦ λ e _.
          let is = All-head (IsFixed t m.precondition) l literals fixed in
          let found = stands_step m.precondition l.is_positive (schema_of l) is.stands.0 is.stands.1 is.stands.2 in
          dead_network t number m v found.0 (found.1 t (is_dead_literal (problem_of t)) v (dead_literal t v l is.unchanged e))
    ] refl h

-- ## The literals of a method name its parameters

-- terms of a schema are objects and its parameters
terms_among : (t : Task) (n : ℕ) (terms : List Term) → All (IsTerm t n) terms → list_all (is_among n) terms ≡ true
terms_among t n [] h = refl
terms_among t n (x ∷ terms) h = λ i. among_term t n x (All-head (IsTerm t n) x terms h) i && terms_among t n terms (All-tail (IsTerm t n) x terms h) i

-- and so are those of its fixed literals
pub literals_bound : (t : Task) (m : MethodSchema) → IsMethodSchema t m → (literals : List FixedLiteral) → All (IsFixed t m.precondition) literals → AreLiteralsOf literals (length m.parameters)
literals_bound t m typed [] fixed = All-nil (λ l. is_bound (length m.parameters) l ≡ true)
literals_bound t m typed (l ∷ literals) fixed =
    let n = length m.parameters in
    let is = All-head (IsFixed t m.precondition) l literals fixed in
    let schema : IsAtomSchema t n (schema_of l) = All-contains (IsFormula t n) m.precondition (literal l.is_positive (schema_of l)) typed.precondition is.stands in
    All-cons (λ k. is_bound n k ≡ true) l literals (terms_among t n (terms_of l.arguments.items) schema.arguments) (literals_bound t m typed literals (All-tail (IsFixed t m.precondition) l literals fixed))

-- the method at a place of the task's list is typed
pub method_at : (t : Task) (methods : List MethodSchema) (i : ℕ) (m : MethodSchema) → methods ≡ t.methods → IsWellTyped t → i < length methods → m ≡ get_or methods i m → IsMethodSchema t m
method_at t methods i m are typed below is =
    let all : All (IsMethodSchema t) methods = subst (λ (l : List MethodSchema). All (IsMethodSchema t) l) (sym are) typed.methods in
    subst (IsMethodSchema t) (sym is) (All-get_or (IsMethodSchema t) methods i m below all)

-- ## A loop's step

-- the live instances of one method more
pub live_step : (t : Task) (g : GroundTask) (methods : List MethodSchema) (i : ℕ) (m : MethodSchema) (number first next : ℕ) (literals : List FixedLiteral)
    (found new : List (Option ℕ × Instance)) (values : List (ℕ × List ℕ)) → i < length methods → m ≡ get_or methods i m → number ≡ i → All (IsFixed t m.precondition) literals
    → found ≡ map counted (live_instances t (enumerate_from 0 (flat_map (λ p. instances_of_method t g p.0 p.1) (enumerate_from 0 (take i methods)))))
    → first ≡ length (flat_map (λ p. instances_of_method t g p.0 p.1) (enumerate_from 0 (take i methods)))
    → values ≡ live_from t.initial_atoms literals first (instances_for t g m)
    → new ≡ found ++ map counted (live_instances t (numbered_instances t number m values))
    → next ≡ first + length (instances_for t g m)
    → (new ≡ map counted (live_instances t (enumerate_from 0 (flat_map (λ p. instances_of_method t g p.0 p.1) (enumerate_from 0 (take (i + 1) methods))))))
    × (next ≡ length (flat_map (λ p. instances_of_method t g p.0 p.1) (enumerate_from 0 (take (i + 1) methods))))
live_step t g methods i m number first next literals found new values below is named fixed so_far long made pushed summed =
    let piece : ℕ × MethodSchema → List Instance = λ (p : ℕ × MethodSchema). instances_of_method t g p.0 p.1 in
    let before = flat_map piece (enumerate_from 0 (take i methods)) in
    let whole : flat_map piece (enumerate_from 0 (take (i + 1) methods)) ≡ before ++ piece (i, m) = method_more piece methods i m below is in
    let size : length (before ++ piece (i, m)) ≡ length before + length (instances_for t g m) =
    length-append before (piece (i, m)) ∙ ap (λ n. length before + n) (length-map (instances_for t g m) (method_instance t i m)) in (
      pushed
          ∙ (λ k. so_far k ++ map counted (live_instances t (numbered_instances t number m (made k))))
          ∙ ap (λ l. map counted (live_instances t (enumerate_from 0 before)) ++ map counted l)
          (live_same t number m literals (ruled_out_dead t number m literals fixed) first (instances_for t g m)
          ∙ ap (λ n. live_instances t (enumerate_from first (map (method_instance t n m) (instances_for t g m)))) named)
          ∙ sym (map-append counted (live_instances t (enumerate_from 0 before)) (live_instances t (enumerate_from first (piece (i, m)))))
          ∙ ap (map counted) (sym (live_more t before (piece (i, m)) first long) ∙ ap (λ l. live_instances t (enumerate_from 0 l)) (sym whole)),
      let total : length (flat_map piece (enumerate_from 0 (take (i + 1) methods))) ≡ length (before ++ piece (i, m)) = ap length whole in
          summed ∙ ap (λ n. n + length (instances_for t g m)) long ∙ sym size ∙ sym total,
    )
