-- A parameter that is not shown does not change the network.
use Rattle.std.proofs.Common.{◌≡◌, ◌∙◌, ◌++◌, ◌<◌, ◌≤◌, ◌∷◌, ◌||◌, Bool, List, [], ap, append_assoc, cond, eqb, false, get_or, length, ltb, map, not, refl, suc, sym, true, true≢false, zero, ℕ}
use Rattle.std.specs.List.{All, flat_map, list_any}
use Rattle.std.proofs.lemmas.Bool.Decides.{nat_tests}
use Rattle.std.proofs.Common.{arith}
use Rattle.htn_model.specs.Literal.{Literal, atom, equality}
use Rattle.htn_model.specs.Problem.{precondition}
use Rattle.htn_model.specs.Schema.{AtomSchema, EqualitySchema, Formula, Formulas, NetworkSchema, TaskSchema, Term, equation, for_all, formula, literal, no_formulas, object, parameter}
use Rattle.htn_model.specs.Task.{MethodSchema, Task}
use Rattle.htn_model.specs.Instances.{assignments, child_of, domains_of, ground_atom, ground_equality, ground_task, has_step, initial_instance, literals_in, literals_in_all, literals_of, method_instance, network_of, order_with_step, state_formulas, value_of}
use Rattle.htn_ground.specs.declared.fixed.FixedLiteral.{FixedLiteral}
use Rattle.htn_ground.specs.Distinct.{any_network, is_live}
use Rattle.htn_ground.specs.Fixed.{IsFixed}
use Rattle.htn_ground.specs.Shown.{AreShown, Ignores, is_parameter, is_shown, stands_in, stands_in_any, stands_in_task}
use Rattle.htn_ground.proofs.Numbered.{ruled_out_dead}

-- neither of two
or_false : (a b : Bool) → (a || b) ≡ false → (a ≡ false) × (b ≡ false)
or_false true b e = absurd (true≢false e)
or_false false b e = (refl, e)

-- numbers that differ are not the same
differs : (m n : ℕ) → eqb m n ≡ false → m ≡ n → ⊥
differs m n e is = grind (arith, nat_tests)

-- another value is read alike
at_other : (values more : List ℕ) (o x k : ℕ) → (k ≡ length values → ⊥) → get_or (values ++ o ∷ more) k 0 ≡ get_or (values ++ x ∷ more) k 0
at_other [] more o x zero other = absurd (other refl)
at_other [] more o x (suc k) other = refl
at_other (v ∷ values) more o x zero other = refl
at_other (v ∷ values) more o x (suc k) other = at_other values more o x k (λ e. other (ap suc e))

module _ (t : Task) (values : List ℕ) (o x : ℕ) where
  -- the parameter that gets another object
  abbrev here : ℕ
  here = length values

  -- values with one object there
  abbrev left : List ℕ → List ℕ
  left more = values ++ o ∷ more

  -- and with the other
  abbrev right : List ℕ → List ℕ
  right more = values ++ x ∷ more

  -- another term has one value in both
  value_same : (more : List ℕ) (a : Term) → is_parameter here a ≡ false → value_of (left more) a ≡ value_of (right more) a
  value_same more (parameter p) apart = at_other values more o x p (differs p here apart)
  value_same more (object b) apart = refl

  -- so have terms without the parameter
  values_same : (more : List ℕ) (terms : List Term) → list_any (is_parameter here) terms ≡ false → map (value_of (left more)) terms ≡ map (value_of (right more)) terms
  values_same more [] apart = refl
  values_same more (a ∷ terms) apart =
      let parts = or_false (is_parameter here a) (list_any (is_parameter here) terms) apart in
      λ i. value_same more a parts.0 i ∷ values_same more terms parts.1 i

  -- an atom without it is one
  atom_same : (more : List ℕ) (a : AtomSchema) → list_any (is_parameter here) a.arguments ≡ false → ground_atom (left more) a ≡ ground_atom (right more) a
  atom_same more a apart = λ i. record { predicate = a.predicate; arguments = values_same more a.arguments apart i }

  -- a task without it is one
  task_same : (more : List ℕ) (s : TaskSchema) → stands_in_task here s ≡ false → ground_task (left more) s ≡ ground_task (right more) s
  task_same more s apart = λ i. record { name = s.name; arguments = values_same more s.arguments apart i }

  -- an equality without it is one
  equality_same : (more : List ℕ) (e : EqualitySchema) → (is_parameter here e.left || is_parameter here e.right) ≡ false → ground_equality (left more) e ≡ ground_equality (right more) e
  equality_same more e apart =
      let parts = or_false (is_parameter here e.left) (is_parameter here e.right) apart in
      λ i. equality e.is_positive (value_same more e.left parts.0 i) (value_same more e.right parts.1 i)

  -- values that grow at their end
  longer : (more choice : List ℕ) (y : ℕ) → (values ++ y ∷ more) ++ choice ≡ values ++ y ∷ (more ++ choice)
  longer more choice y = append_assoc values (y ∷ more) choice

  -- what is gathered of equal pieces is equal
  pieces_same : (f g : List ℕ → List Literal) → ((c : List ℕ) → f c ≡ g c) → (choices : List (List ℕ)) → flat_map f choices ≡ flat_map g choices
  pieces_same f g same [] = refl
  pieces_same f g same (c ∷ choices) = λ i. same c i ++ pieces_same f g same choices i

  mutual
    -- a formula without it has the same literals
    literals_same : (more : List ℕ) (f : Formula) → stands_in here f ≡ false → literals_in t (left more) f ≡ literals_in t (right more) f
    literals_same more (literal positive a) apart = λ i. atom positive (atom_same more a apart i) ∷ []
    literals_same more (equation e) apart = λ i. equality_same more e apart i ∷ []
    literals_same more (for_all types body) apart =
        pieces_same (λ choice. literals_in_all t (left more ++ choice) body) (λ choice. literals_in_all t (right more ++ choice) body)
        (λ choice. ap (λ (v : List ℕ). literals_in_all t v body) (longer more choice o) ∙ body_same (more ++ choice) body apart ∙ sym (ap (λ (v : List ℕ). literals_in_all t v body) (longer more choice x)))
        (assignments (domains_of t types))

    -- and so has the body of a `forall`
    body_same : (more : List ℕ) (fs : Formulas) → stands_in_any here fs ≡ false → literals_in_all t (left more) fs ≡ literals_in_all t (right more) fs
    body_same more no_formulas apart = refl
    body_same more (formula f fs) apart =
        let parts = or_false (stands_in here f) (stands_in_any here fs) apart in
        λ i. literals_same more f parts.0 i ++ body_same more fs parts.1 i

  -- and a list of formulas
  all_same : (more : List ℕ) (fs : List Formula) → list_any (stands_in here) fs ≡ false → literals_of t (left more) fs ≡ literals_of t (right more) fs
  all_same more [] apart = refl
  all_same more (f ∷ fs) apart =
      let parts = or_false (stands_in here f) (list_any (stands_in here) fs) apart in
      λ i. literals_same more f parts.0 i ++ all_same more fs parts.1 i

  -- subtasks without it are the same
  tasks_same : (more : List ℕ) (subtasks : List TaskSchema) → list_any (stands_in_task here) subtasks ≡ false
      → map (λ s. child_of t (ground_task (left more) s)) subtasks ≡ map (λ s. child_of t (ground_task (right more) s)) subtasks
  tasks_same more [] apart = refl
  tasks_same more (s ∷ subtasks) apart =
      let parts = or_false (stands_in_task here s) (list_any (stands_in_task here) subtasks) apart in
      λ i. child_of t (task_same more s parts.0 i) ∷ tasks_same more subtasks parts.1 i

  -- values that differ at a parameter that is not shown give one network
  pub network_same : (more : List ℕ) (fs : List Formula) (n : NetworkSchema) → is_shown fs n.subtasks here ≡ false → network_of t (left more) fs n ≡ network_of t (right more) fs n
  network_same more fs n apart =
      let parts = or_false (list_any (stands_in here) (state_formulas fs)) (list_any (stands_in_task here) n.subtasks) apart in
      λ i. record {
        children = cond (has_step fs) (precondition (all_same more (state_formulas fs) parts.0 i) ∷ []) [] ++ tasks_same more n.subtasks parts.1 i;
        order = order_with_step fs n.order;
      }

-- ## What the instances of a schema ignore

-- what stands past the flags is shown
past_true : (shown : List Bool) (k : ℕ) → length shown ≤ k → get_or shown k true ≡ true
past_true [] k past = refl
past_true (b ∷ shown) zero past = absurd (omega arith)
past_true (b ∷ shown) (suc k) past = past_true shown k (omega arith)

-- a flag that is down tells that the parameter is not shown
hidden_at : (pre : List Formula) (subtasks : List TaskSchema) (count : ℕ) (shown : List Bool) → AreShown pre subtasks count shown → (k : ℕ) → get_or shown k true ≡ false
    → is_shown pre subtasks k ≡ false
hidden_at pre subtasks count shown are k hidden = elim (ltb k count) as (λ b. ltb k count ≡ b → is_shown pre subtasks k ≡ false) [
  | true ↦ λ e. sym (are.each k (below k count e)) ∙ hidden
  | false ↦ λ e. absurd (true≢false (sym (past_true shown k (long k e)) ∙ hidden))
] refl
  where
    below : (m n : ℕ) → ltb m n ≡ true → m < n
    below m n e = grind (arith, nat_tests)

    above : (m n : ℕ) → ltb m n ≡ false → n ≤ m
    above m n e = grind (arith, nat_tests)

    long : (k : ℕ) → ltb k count ≡ false → length shown ≤ k
    long k e = let past : count ≤ k = above k count e in omega (arith, are.long, past)

-- a method's network and literals don't look at parameters that are not shown
pub method_ignores : (t : Task) (number : ℕ) (m : MethodSchema) (literals : List FixedLiteral) (shown : List Bool) → All (IsFixed t m.precondition) literals
    → AreShown m.precondition m.network.subtasks (length m.parameters) shown → Ignores t.initial_atoms literals shown (is_live t) (method_instance t number m)
method_ignores t number m literals shown fixed are = record {
  hidden = λ values more o x h. network_same t values o x more m.precondition m.network (hidden_at m.precondition m.network.subtasks (length m.parameters) shown are (length values) h);
  ruled_out = λ values h. ap not (ruled_out_dead t number m literals fixed values h);
}

-- and neither does an initial network
pub initial_ignores : (t : Task) (count : ℕ) (shown : List Bool) → AreShown [] t.initial_network.network.subtasks count shown → Ignores t.initial_atoms [] shown any_network (initial_instance t)
initial_ignores t count shown are = record {
  hidden = λ values more o x h. network_same t values o x more [] t.initial_network.network (hidden_at [] t.initial_network.network.subtasks count shown are (length values) h);
  ruled_out = λ values h. absurd (true≢false (sym h));
}
