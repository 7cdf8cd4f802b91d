-- Words that name a task.
use Rattle.std.proofs.Common.{◌≡◌, ◌∙◌, ℕ, zero, suc, Bool, true, false, List, [], ◌∷◌, length, Option, Some, None, option_and_then, slice_get, refl, ap, ap₂, subst, ◌&&◌, arith}
use Rattle.std.specs.List.{zip}
use Rattle.htn_ground.specs.Naming.{objects_named, task_named}
use Rattle.htn_model.specs.Instances.{have_types}
use Rattle.htn_model.specs.PlanFile.{Word}
use Rattle.htn_model.specs.Problem.{GroundTask}
use Rattle.htn_model.specs.Task.{Task, has_type, task_names}
use Rattle.htn_task.specs.Numbers.{number_of}
use Rattle.plan_lines.specs.First.{HasNone}
use Rattle.plan_lines.specs.Words.{HasForm, IsCounted, IsOtherType, NamesNoObject}
use Rattle.plan_lines.proofs.Firsts.{same_one}

-- words each of which names an object name as many
pub record AreNamed (t : Task) (words : List Word) : Type 0 where
  pub objects : List ℕ
  pub named : objects_named t words ≡ Some objects
  pub count : length objects ≡ length words

-- so where none names no object
pub all_named : (t : Task) (words : List Word) → HasNone (NamesNoObject t) words → AreNamed t words
all_named t [] none = record { objects = []; named = refl; count = refl }
all_named t (w ∷ words) none = by (number_of t.objects w) refl (all_named t words (λ k x low at has. none (suc k) x (omega (arith, low)) at has))
  where
    by : (o : Option ℕ) → number_of t.objects w ≡ o → AreNamed t words → AreNamed t (w ∷ words)
    by None e more = absurd (none zero w (omega arith) refl e)
    by (Some o) e more = record {
      objects = o ∷ more.objects;
      named =
          ap (option_and_then (λ o. option_and_then (λ os. Some (o ∷ os)) (objects_named t words))) e
          ∙ ap (option_and_then (λ os. Some (o ∷ os))) more.named;
      count = ap suc more.count;
    }

-- so they name a task, where their first names one
pub names_some : (t : Task) (name : Word) (arguments : List Word) (number : ℕ) → number_of (task_names t) name ≡ Some number → (all : AreNamed t arguments)
    → task_named t name arguments ≡ Some (record { name = number; arguments = all.objects })
names_some t name arguments number e all =
    ap (option_and_then (λ n. option_and_then (λ os. Some (record { name = n; arguments = os })) (objects_named t arguments))) e
    ∙ ap (option_and_then (λ os. Some (record { name = number; arguments = os }))) all.named

-- and not none
pub not_none : (t : Task) (name : Word) (arguments : List Word) (number : ℕ) → number_of (task_names t) name ≡ Some number → HasNone (NamesNoObject t) arguments
    → task_named t name arguments ≡ None → ⊥
not_none t name arguments number e none n = let some = names_some t name arguments number e (all_named t arguments none) in absurd cc

-- words of a task's form name one
pub form_names : (t : Task) (compound : Bool) (name : Word) (arguments : List Word) → HasForm t compound name arguments → (g : GroundTask) × IsCounted t compound name arguments g
form_names t compound name arguments (counted, none) =
    let all = all_named t arguments none in (
      record { name = counted.number; arguments = all.objects },
      record { named = names_some t name arguments counted.number counted.kind.0 all; kind = counted.kind.1; count = all.count ∙ counted.count },
    )

-- the task that they name is this one
pub form_is : (t : Task) (compound : Bool) (name : Word) (arguments : List Word) (g : GroundTask) → HasForm t compound name arguments → task_named t name arguments ≡ Some g
    → IsCounted t compound name arguments g
form_is t compound name arguments g form named =
    let (h, counted) = form_names t compound name arguments form in
    subst (IsCounted t compound name arguments) (same_one (task_named t name arguments) h g counted.named named) counted

-- the objects at the places of types, where none has another type, have them
pub all_typed : (t : Task) (types objects : List ℕ) → length objects ≡ length types → HasNone (IsOtherType t) (zip types objects) → have_types t types objects ≡ true
all_typed t [] [] long none = refl
all_typed t [] (o ∷ objects) long none = absurd (omega (arith, long))
all_typed t (type ∷ types) [] long none = absurd (omega (arith, long))
all_typed t (type ∷ types) (o ∷ objects) long none = by (has_type t type o) refl (all_typed t types objects (omega (arith, long)) (λ k x low at has. none (suc k) x (omega (arith, low)) at has))
  where
    by : (b : Bool) → has_type t type o ≡ b → have_types t types objects ≡ true → (has_type t type o && have_types t types objects) ≡ true
    by true e more = ap₂ ◌&&◌ e more
    by false e more = absurd (none zero (type, o) (omega arith) refl e)

-- the member of a zip at a place
pub zip_at : {X Y : Type 0} (xs : List X) (ys : List Y) (k : ℕ) (x : X) (y : Y) → slice_get xs k ≡ Some x → slice_get ys k ≡ Some y → slice_get (zip xs ys) k ≡ Some (x, y)
zip_at [] ys k x y e f = absurd cc
zip_at (a ∷ xs) [] k x y e f = absurd cc
zip_at (a ∷ xs) (b ∷ ys) zero x y e f = (let same : a ≡ x = cc in let so : b ≡ y = cc in ap₂ (λ u v. Some (u, v)) same so)
zip_at (a ∷ xs) (b ∷ ys) (suc k) x y e f = zip_at xs ys k x y e f

-- a zip of as many is as long
pub zip_long : {X Y : Type 0} (xs : List X) (ys : List Y) → length xs ≡ length ys → length (zip xs ys) ≡ length xs
zip_long [] ys e = refl
zip_long (x ∷ xs) [] e = absurd (omega (arith, e))
zip_long (x ∷ xs) (y ∷ ys) e = ap suc (zip_long xs ys (omega (arith, e)))

-- what holds of a task and two lists holds of equal ones
pub moved : (P : Task → List ℕ → List ℕ → Type 0) (t u : Task) (types others objects these : List ℕ) → t ≡ u → types ≡ others → objects ≡ these → P t types objects → P u others these
moved P t u types others objects these e f g h =
    subst (λ (x : Task). P x others these) e (subst (λ (l : List ℕ). P t l these) f (subst (λ (l : List ℕ). P t types l) g h))
