-- The list of one parameter without the objects that a literal rules out.
use Rattle.std.proofs.Common.{◌≡◌, ◌∙◌, ◌+◌, ◌<◌, ◌∷◌, ◌&&◌, ◌||◌, Bool, List, [], ap, arith, cond, eqb, false, get_or, length, map, not, refl, set, suc, sym, true, zero, ℕ}
use Rattle.std.specs.Prelude.{nat_eq}
use Rattle.std.specs.List.{filter, flat_map, list_any}
use Rattle.std.proofs.lemmas.Bool.Decides.{nat_tests}
use Rattle.std.proofs.lemmas.List.Folds.{list_any_at}
use Rattle.indexmap.specs.IndexSet.{insert_all}
use Rattle.htn_model.specs.Instance.{Instance}
use Rattle.htn_model.specs.Instances.{assignments}
use Rattle.htn_model.specs.Problem.{Network}
use Rattle.htn_model.specs.State.{State, contains}
use Rattle.htn_ground.specs.declared.fixed.FixedLiteral.{FixedLiteral}
use Rattle.htn_ground.specs.Distinct.{gathered, same_network}
use Rattle.htn_ground.specs.Narrow.{Narrows, is_choice}
use Rattle.htn_ground.specs.Search.{each_passes, fixed_atom, fixed_holds, is_ruled_out, matches, narrowed, relations_hold}
use Rattle.htn_ground.specs.Shown.{Ignores}
use Rattle.htn_ground.proofs.Gathered.{Each, Each-append}
use Rattle.htn_ground.proofs.Moved.{positive_holds}
use Rattle.htn_ground.proofs.Narrowing.{filter-assignments}

-- one of two, by the first
or_first : (a b : Bool) → a ≡ true → (a || b) ≡ true
or_first a b e = ap (λ c. c || b) e

-- one of two, by the second
or_last : (a b : Bool) → b ≡ true → (a || b) ≡ true
or_last true b e = refl
or_last false b e = e

-- one of two, of which the second is not
or_only : (a : Bool) → (a || false) ≡ true → a ≡ true
or_only true e = refl
or_only false e = e

-- a number is itself
itself : (n : ℕ) → eqb n n ≡ true
itself n = grind (arith, nat_tests)

-- a greater number is another
differs : (m n : ℕ) → n < m → eqb m n ≡ false
differs m n h = grind (arith, nat_tests)

-- all stay where all pass
all_pass : (p : ℕ → Bool) (xs : List ℕ) → ((o : ℕ) → p o ≡ true) → filter p xs ≡ xs
all_pass p [] all = refl
all_pass p (x ∷ xs) all = ap (λ b. cond b (x ∷ filter p xs) (filter p xs)) (all x) ∙ ap (λ l. x ∷ l) (all_pass p xs all)

-- ## A test of one parameter

module _ (t : ℕ → Bool) (n : ℕ) where
  -- the test at that parameter alone
  abbrev pub at_one : ℕ → ℕ → Bool
  at_one k o = not (nat_eq k n) || t o

  -- a later parameter passes
  later : (k o : ℕ) → n < k → at_one k o ≡ true
  later k o h = ap (λ b. not b || t o) (differs k n h)

  -- and an earlier one
  earlier : (k o : ℕ) → k < n → at_one k o ≡ true
  earlier k o h = ap (λ b. not b || t o) (before k n h)
    where
      before : (m n : ℕ) → m < n → eqb m n ≡ false
      before m n h = grind (arith, nat_tests)

  -- the parameter itself passes by the test
  here : (k o : ℕ) → n ≡ k → at_one k o ≡ t o
  here k o e = ap (λ b. not b || t o) (alike k n e)
    where
      alike : (m n : ℕ) → n ≡ m → eqb m n ≡ true
      alike m n e = grind (arith, nat_tests)

  filter_alike : (p q : ℕ → Bool) → ((o : ℕ) → p o ≡ q o) → (xs : List ℕ) → filter p xs ≡ filter q xs
  filter_alike p q same [] = refl
  filter_alike p q same (x ∷ xs) = λ i. cond (same x i) (x ∷ filter_alike p q same xs i) (filter_alike p q same xs i)

  later_lists : (j : ℕ) (domains : List (List ℕ)) → n < j → narrowed at_one j domains ≡ domains
  later_lists j [] h = refl
  later_lists j (objects ∷ domains) h =
      (λ i. all_pass (at_one j) objects (λ o. later j o h) i ∷ later_lists (j + 1) domains (omega arith) i)

  -- one list is filtered
  pub narrowed_one : (j p : ℕ) (domains : List (List ℕ)) → n ≡ j + p → narrowed at_one j domains ≡ set domains p (filter t (get_or domains p []))
  narrowed_one j zero [] e = refl
  narrowed_one j (suc p) [] e = refl
  narrowed_one j zero (objects ∷ domains) e =
      let same : n ≡ j = omega arith in
      (λ i. filter_alike (at_one j) t (λ o. here j o same) objects i ∷ later_lists (j + 1) domains (omega arith) i)
  narrowed_one j (suc p) (objects ∷ domains) e =
      let below : j < n = omega arith in
      (λ i. all_pass (at_one j) objects (λ o. earlier j o below) i ∷ narrowed_one (j + 1) p domains (omega arith) i)

  later_pass : (j : ℕ) (values : List ℕ) → n < j → each_passes at_one j values ≡ true
  later_pass j [] h = refl
  later_pass j (o ∷ values) h = λ i. later j o h i && later_pass (j + 1) values (omega arith) i

  -- a choice passes by its object there
  pub passes_one : (j p : ℕ) (values : List ℕ) → n ≡ j + p → t (get_or values p 0) ≡ true → each_passes at_one j values ≡ true
  passes_one j p [] e h = refl
  passes_one j zero (o ∷ values) e h =
      let same : n ≡ j = omega arith in
      (λ i. (here j o same ∙ h) i && later_pass (j + 1) values (omega arith) i)
  passes_one j (suc p) (o ∷ values) e h =
      let below : j < n = omega arith in
      (λ i. earlier j o below i && passes_one (j + 1) p values (omega arith) h i)

-- ## Choices

module _ (passes : Network → Bool) (make : List ℕ → Instance) where
  with_first : (all : List ℕ) (domains : List (List ℕ)) (o : ℕ) → list_any (nat_eq o) all ≡ true → (rests : List (List ℕ)) → Each passes make (λ v. is_choice domains v ≡ true) rests
      → Each passes make (λ v. is_choice (all ∷ domains) v ≡ true) (map (λ r. o ∷ r) rests)
  with_first all domains o e [] are = tt
  with_first all domains o e (r ∷ rests) are = ((λ i. e i && are.0 i), with_first all domains o e rests are.1)

  with_each : (all : List ℕ) (domains : List (List ℕ)) (rests : List (List ℕ)) → Each passes make (λ v. is_choice domains v ≡ true) rests
      → (run : List ℕ) → ((o : ℕ) → list_any (nat_eq o) run ≡ true → list_any (nat_eq o) all ≡ true)
      → Each passes make (λ v. is_choice (all ∷ domains) v ≡ true) (flat_map (λ o. map (λ r. o ∷ r) rests) run)
  with_each all domains rests are [] within = tt
  with_each all domains rests are (o ∷ run) within =
      Each-append passes make (λ v. is_choice (all ∷ domains) v ≡ true) (map (λ r. o ∷ r) rests) (flat_map (λ q. map (λ r. q ∷ r) rests) run)
      (with_first all domains o (within o (or_first _ _ (itself o))) rests are)
      (with_each all domains rests are run (λ q e. within q (or_last _ _ e)))

  -- assignments are choices
  pub all_choices : (domains : List (List ℕ)) → Each passes make (λ v. is_choice domains v ≡ true) (assignments domains)
  all_choices [] = (refl, tt)
  all_choices (objects ∷ domains) = with_each objects domains (assignments domains) (all_choices domains) objects (λ o e. e)

  abbrev of : List (List ℕ) → List Instance
  of values = filter (λ i. passes i.network) (map make values)

  -- what does not pass may be left out before
  pub left_out_before : (r q : List ℕ → Bool) (xs : List (List ℕ)) → Each passes make (λ x. q x ≡ false → passes (make x).network ≡ false) xs → of (filter r (filter q xs)) ≡ of (filter r xs)
  left_out_before r q [] all = refl
  left_out_before r q (x ∷ xs) all =
      let more : of (filter r (filter q xs)) ≡ of (filter r xs) = left_out_before r q xs all.1 in
      elim (q x) as (λ b. q x ≡ b → of (filter r (cond b (x ∷ filter q xs) (filter q xs))) ≡ of (cond (r x) (x ∷ filter r xs) (filter r xs))) [
        | true ↦ λ e. elim (r x) as (λ b. of (cond b (x ∷ filter r (filter q xs)) (filter r (filter q xs))) ≡ of (cond b (x ∷ filter r xs) (filter r xs))) [
          | true ↦ ap (λ (l : List Instance). cond (passes (make x).network) (make x ∷ l) l) more
          | false ↦ more
        ]
        | false ↦ λ e. elim (r x) as (λ b. of (filter r (filter q xs)) ≡ of (cond b (x ∷ filter r xs) (filter r xs))) [
          | true ↦ more ∙ sym (ap (λ b. cond b (make x ∷ of (filter r xs)) (of (filter r xs))) (all.0 e))
          | false ↦ more
        ]
      ] refl

-- an object of each list is the only one where there is no other
pub only_choice : (domains : List (List ℕ)) (values : List ℕ) (p o : ℕ) → is_choice domains values ≡ true → p < length domains → get_or domains p [] ≡ o ∷ [] → get_or values p 0 ≡ o
only_choice [] values p o is below only = absurd (omega arith)
only_choice (objects ∷ domains) [] p o is below only = absurd cc
only_choice (objects ∷ domains) (v ∷ values) zero o is below only =
    alike v o (or_only _ (ap (λ (l : List ℕ). list_any (nat_eq v) l) (sym only) ∙ both_first _ _ is))
  where
    alike : (m n : ℕ) → eqb m n ≡ true → m ≡ n
    alike m n e = grind (arith, nat_tests)

    both_first : (a b : Bool) → (a && b) ≡ true → a ≡ true
    both_first true b e = refl
    both_first false b e = e
only_choice (objects ∷ domains) (v ∷ values) (suc p) o is below only = only_choice domains values p o (both_last _ _ is) (omega arith) only
  where
    both_last : (a b : Bool) → (a && b) ≡ true → b ≡ true
    both_last true b e = e
    both_last false b e = absurd cc

-- ## Narrowing

-- the list of a parameter without objects with which a literal is false
pub narrow_step : (state : State) (l : FixedLiteral) (domains : List (List ℕ)) (p : ℕ) (t : ℕ → Bool) → l.is_positive ≡ true
    → ((values : List ℕ) → is_choice domains values ≡ true → contains state (fixed_atom values l) ≡ true → t (get_or values p 0) ≡ true)
    → Narrows state (l ∷ []) domains (set domains p (filter t (get_or domains p [])))
narrow_step state l domains p t positive hold relations shown passes make ignores kept =
    ap (λ (ds : List (List ℕ)). gathered passes make kept (matches ds relations)) (sym (narrowed_one t p 0 p domains (omega arith)))
    ∙ ap (λ (xs : List (List ℕ)). gathered passes make kept (filter (relations_hold relations) xs)) (sym (filter-assignments (at_one t p) 0 domains))
    ∙ ap (insert_all same_network kept) (left_out_before passes make (relations_hold relations) (each_passes (at_one t p) 0) (assignments domains) (dead (assignments domains) (all_choices passes make domains)))
  where
    ruled : (x : List ℕ) → is_choice domains x ≡ true → each_passes (at_one t p) 0 x ≡ false → is_ruled_out state (l ∷ []) x ≡ true
    ruled x is fails =
        elim (contains state (fixed_atom x l)) as (λ b. contains state (fixed_atom x l) ≡ b → is_ruled_out state (l ∷ []) x ≡ true) [
          | true ↦ λ e. absurd (let passed : each_passes (at_one t p) 0 x ≡ true = passes_one t p 0 p x (omega arith) (hold x is e) in cc)
          | false ↦ λ e. ap (λ b. not b || false) (positive_holds state l.is_positive (fixed_atom x l) positive ∙ e)
        ] refl

    dead : (xs : List (List ℕ)) → Each passes make (λ v. is_choice domains v ≡ true) xs → Each passes make (λ x. each_passes (at_one t p) 0 x ≡ false → passes (make x).network ≡ false) xs
    dead [] are = tt
    dead (x ∷ xs) are = (λ fails. ignores.ruled_out x (ruled x are.0 fails), dead xs are.1)

-- a loop's step: one more of the literals
pub narrows_more : (state : State) (literals : List FixedLiteral) (i : ℕ) (l : FixedLiteral) (domains some less : List (List ℕ)) → i < length literals → l ≡ get_or literals i l
    → Narrows state literals domains some → Narrows state (l ∷ []) some less → Narrows state literals domains less
narrows_more state literals i l domains some less inside is first second relations shown passes make ignores kept =
    second relations shown passes make one kept ∙ first relations shown passes make ignores kept
  where
    one : Ignores state (l ∷ []) shown passes make
    one = record {
      hidden = ignores.hidden;
      ruled_out = λ values e. ignores.ruled_out values
          (list_any_at (λ (m : FixedLiteral). not (fixed_holds state values m)) literals i l inside
          (ap (λ (m : FixedLiteral). not (fixed_holds state values m)) (sym is) ∙ or_only _ e));
    }
