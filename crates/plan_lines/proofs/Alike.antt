-- What an instance's network says: the same at values that are alike, and which atoms its step asks for.
use Rattle.std.proofs.Common.{◌≡◌, ◌∙◌, ◌+◌, ◌++◌, ◌∷◌, ◌||◌, Bool, List, [], ap, append_assoc, arith, cond, false, get_or, inl, inr, length, map, not, refl, subst, suc, sym, true, ℕ}
use Rattle.std.specs.List.{All, list_any}
use Rattle.htn_model.specs.Instances.{child_of, ground_atom, ground_task, has_step, is_equation, literals_in, literals_of, network_of, state_formulas}
use Rattle.htn_model.specs.Literal.{Literal, atom}
use Rattle.htn_model.specs.PlanFile.{IsIn}
use Rattle.htn_model.specs.Problem.{Child, precondition}
use Rattle.htn_model.specs.Schema.{AtomSchema, Formula, NetworkSchema, literal}
use Rattle.htn_model.specs.Task.{Task}
use Rattle.htn_ground.specs.Shown.{AreShown}
use Rattle.htn_ground.proofs.Unshown.{network_same}
use Rattle.plan_lines.specs.Turns.{History}
use Rattle.plan_lines.specs.Fitting.{MayHold, StepsMayHold}
use Rattle.plan_lines.specs.Found.{AreAlike, AreEverTrue}
use Rattle.plan_lines.proofs.Left.{length_push}
use Rattle.plan_lines.proofs.Shown.{filter_in, pieces_in}

module _ (t : Task) (fs : List Formula) (n : NetworkSchema) (shown : List Bool) (count : ℕ) (are : AreShown fs n.subtasks count shown) where
  -- networks at values that agree on what is shown, from a parameter on
  same_from : (before values others : List ℕ) → length before + length values ≡ count → length values ≡ length others
      → ((k : ℕ) → get_or shown (length before + k) true ≡ true → get_or values k 0 ≡ get_or others k 0)
      → network_of t (before ++ values) fs n ≡ network_of t (before ++ others) fs n
  same_from before [] [] long many same = refl
  same_from before [] (y ∷ others) long many same = absurd (omega (arith, many))
  same_from before (x ∷ values) [] long many same = absurd (omega (arith, many))
  same_from before (x ∷ values) (y ∷ others) long many same =
      let p = length_push before y in
      let here : length before + 0 ≡ length before = omega arith in
      by (get_or shown (length before) true) refl (ap (λ k. get_or shown k true) here)
      ∙ ap (λ (l : List ℕ). network_of t l fs n) (sym (append_assoc before (y ∷ []) values))
      ∙ same_from (before ++ y ∷ []) values others (omega (arith, p, long)) (omega (arith, many))
      (λ k s. same (suc k) (ap (λ j. get_or shown j true) (let e : length before + suc k ≡ length (before ++ y ∷ []) + k = omega (arith, p) in e) ∙ s))
      ∙ ap (λ (l : List ℕ). network_of t l fs n) (append_assoc before (y ∷ []) others)
    where
      by : (b : Bool) → get_or shown (length before) true ≡ b → get_or shown (length before + 0) true ≡ get_or shown (length before) true
          → network_of t (before ++ x ∷ values) fs n ≡ network_of t (before ++ y ∷ values) fs n
      by true e f = ap (λ (z : ℕ). network_of t (before ++ z ∷ values) fs n) (same 0 (f ∙ e))
      by false e f = network_same t before x y values fs n (sym (are.each (length before) (omega (arith, long))) ∙ e)

  -- values that are alike give one network
  pub alike_network : (values others : List ℕ) → length values ≡ count → AreAlike shown values others → network_of t values fs n ≡ network_of t others fs n
  alike_network values others long alike = same_from [] values others (let none : length {A = ℕ} [] ≡ 0 = refl in omega (arith, none, long)) alike.long (λ k s. alike.same k (ap (λ j. get_or shown j true) (let e : k ≡ length {A = ℕ} [] + k = omega arith in e) ∙ s))

-- ## Steps

-- what all members have, each has
in_all : {X : Type 0} (P : X → Type 0) (x : X) (xs : List X) → IsIn x xs → All P xs → P x
in_all P x [] i all = absurd i
in_all P x (z ∷ xs) (inl e) all = subst P (sym e) (all 0 z (omega arith))
in_all P x (z ∷ xs) (inr i) all = in_all P x xs i (λ k d below. all (suc k) d (omega (arith, below)))

-- some member passes where this one does
any_in : {X : Type 0} (p : X → Bool) (x : X) (xs : List X) → IsIn x xs → p x ≡ true → list_any p xs ≡ true
any_in p x [] i h = absurd i
any_in p x (z ∷ xs) (inl e) h = ap (λ b. b || list_any p xs) (sym (ap p e) ∙ h)
any_in p x (z ∷ xs) (inr i) h = or_true (p z) (list_any p xs) (any_in p x xs i h)
  where
    or_true : (a b : Bool) → b ≡ true → (a || b) ≡ true
    or_true true b e = refl
    or_true false b e = e

-- the atoms of a step that may hold are ever true
pub steps_ever : (t : Task) (h : History) (pre : List Formula) (n : NetworkSchema) (values : List ℕ) (atoms : List AtomSchema) → ((a : AtomSchema) → IsIn a atoms → IsIn (literal true a) pre)
    → StepsMayHold h (network_of t values pre n).children → AreEverTrue h atoms values
steps_ever t h pre n values atoms inside may a i =
    let there : IsIn (literal true a) pre = inside a i in
    let literals : List Literal = literals_of t values (state_formulas pre) in
    let held : IsIn (atom true (ground_atom values a)) literals =
    pieces_in (literals_in t values) (atom true (ground_atom values a)) (literal true a) (state_formulas pre) (filter_in (λ f. not (is_equation f)) (literal true a) pre there refl) (inl refl) in
    let has : has_step pre ≡ true = any_in (λ f. not (is_equation f)) (literal true a) pre there refl in
    let rest : List Child = map (λ s. child_of t (ground_task values s)) n.subtasks in
    let step : IsIn (precondition literals) (cond (has_step pre) (precondition literals ∷ []) [] ++ rest) =
    subst (λ b. IsIn (precondition literals) (cond b (precondition literals ∷ []) [] ++ rest)) (sym has) (inl refl) in
    in_all (MayHold h) (atom true (ground_atom values a)) literals held (may literals step)
