-- The numbers of instances and of ranks.
use Rattle.std.proofs.Common.{◌≡◌, ℕ, zero, suc, ◌+◌, Bool, true, false, true≢false, not, cond, List, [], ◌∷◌, filter, get_or, map, slice_get, All, Option, Some, inl, inr, refl, sym, ap, ◌∙◌, subst, arith, option_and_then, option_map, unwrap_or}
use Rattle.std.specs.List.{enumerate_from}
use Rattle.std.proofs.lemmas.Option.{none-some, same_Some, slice_get-map, slice_get_within, get_or_from_slice_get}
use Rattle.htn_model.specs.Choice.{child_of}
use Rattle.htn_model.specs.Equality.{instance_eq-decides}
use Rattle.htn_model.specs.Exhaustion.{is_dead}
use Rattle.htn_model.specs.Grounding.{problem_of}
use Rattle.htn_model.specs.Instance.{Instance, instance_eq}
use Rattle.htn_model.specs.Instances.{methods_of}
use Rattle.htn_model.specs.Machine.{Config, Choice, choose}
use Rattle.htn_model.specs.Problem.{GroundTask, is_compound, task}
use Rattle.htn_model.specs.Task.{Task, IsWellTyped}
use Rattle.htn_model.proofs.Steps.{chosen}
use Rattle.word_machine.specs.Machine.{IsStep}
use Rattle.htn_walk.specs.Fewer.{numbers_from}
use Rattle.htn_walk.specs.Machine.{machine_of}
use Rattle.htn_walk.proofs.Words.{slice_get-map_back}
use Rattle.htn_ground.specs.Counted.{counted}
use Rattle.htn_ground.proofs.Fitting.{fitting_some}
use Rattle.htn_walk.specs.Choices.{IsChosen, IsNumberOf, chosen_of, network_of}
use Rattle.htn_walk.specs.declared.change.Change.{Change}
use Rattle.htn_walk.specs.declared.change.Change.TheVariants.{Decomposed}
use Rattle.htn_walk.specs.Listed.{choose_listed, initial_of, listing_machine, number_at, number_by, number_of}
use Rattle.htn_walk.specs.Live.{live_methods}
use Rattle.htn_walk.proofs.Listed.{numbered}
use Rattle.htn_net.proofs.Offered.{numbered_at}
use Rattle.htn_walk.proofs.Once.{In, at-In, one_place}
use Rattle.htn_walk.proofs.OnceInstances.{methods_once}
use Rattle.htn_walk.specs.Told.{FinishesListed, told}

-- ## Where an instance stands

-- what passes stands among the numbered ones that pass
kept : {X : Type 0} (passes : X → Bool) (a : ℕ) (xs : List X) (n : ℕ) (x : X) → slice_get xs n ≡ Some x → passes x ≡ true
    → (p : ℕ × X) × In p (filter (λ (r : ℕ × X). passes r.1) (enumerate_from a xs)) × (p.1 ≡ x)
kept passes a [] n x at pass = absurd (none-some x at)
kept {X} passes a (y ∷ xs) n x at pass = by (passes y) refl n at (λ k e. kept passes (a + 1) xs k x e pass)
  where
    rest : List (ℕ × X)
    rest = filter (λ (r : ℕ × X). passes r.1) (enumerate_from (a + 1) xs)

    Found : List (ℕ × X) → Type 0
    Found l = (p : ℕ × X) × In p l × (p.1 ≡ x)

    by : (b : Bool) → passes y ≡ b → (n : ℕ) → slice_get (y ∷ xs) n ≡ Some x → ((k : ℕ) → slice_get xs k ≡ Some x → Found rest) → Found (cond b ((a, y) ∷ rest) rest)
    by true is zero at later = ((a, y), inl refl, same_Some y x at)
    by true is (suc k) at later = let f = later k at in (f.0, inr f.1, f.2)
    by false is zero at later = absurd (true≢false (sym pass ∙ ap passes (sym (same_Some y x at)) ∙ is))
    by false is (suc k) at later = later k at

-- an instance that stands in a list is the same as one of it
pub met : (xs : List Instance) (n : ℕ) (x : Instance) → slice_get xs n ≡ Some x → All (λ i. instance_eq i x ≡ false) xs → ⊥
met xs n x at none =
    let inside = slice_get_within xs n x at in
    let is : get_or xs n x ≡ x = get_or_from_slice_get xs n x x at in
    true≢false (sym ((instance_eq-decides (get_or xs n x) x).1 is) ∙ none n x inside)

module _ (t : Task) (g : GroundTask) (live : List (Option ℕ × Instance)) (all : live ≡ map counted (live_methods t g)) where
  -- instances that are not dead are listed with their numbers, so far as these fit
  pub live_number : (k : ℕ) (p : Option ℕ × Instance) → slice_get live k ≡ Some p → (n : ℕ) → p.0 ≡ Some n → slice_get (methods_of t g) n ≡ Some p.1
  live_number k p at n fits =
      let q = slice_get-map_back counted (live_methods t g) k p (ap (λ l. slice_get l k) (sym all) ∙ at) in
      let found = numbered_at (λ (x : ℕ × Instance). not (is_dead (problem_of t) x.1.network)) 0 (methods_of t g) k q.0 q.1 in
      let same : n ≡ q.0.0 = fitting_some n q.0.0 (sym (ap (λ (x : Option ℕ × Instance). x.0) q.2 ∙ fits)) in
      let stands = found.1 in
      let number : found.0 ≡ n = omega arith in
      ap (slice_get (methods_of t g)) (sym number) ∙ found.2 ∙ ap (λ (x : Option ℕ × Instance). Some x.1) q.2

  -- and all of them are
  pub live_met : (i : Instance) (n : ℕ) → slice_get (methods_of t g) n ≡ Some i → is_dead (problem_of t) i.network ≡ false
      → All (λ (p : Option ℕ × Instance). instance_eq p.1 i ≡ false) live → ⊥
  live_met i n at alive none =
      let f = kept (λ (x : Instance). not (is_dead (problem_of t) x.network)) 0 (methods_of t g) n i at (ap not alive) in
      let k = at-In (live_methods t g) f.0 f.1 in
      let p : Option ℕ × Instance = counted f.0 in
      let stands : slice_get live k.0 ≡ Some p = ap (λ l. slice_get l k.0) all ∙ slice_get-map counted (live_methods t g) k.0 ∙ ap (option_map counted) k.1 in
      let is : (get_or live k.0 p).1 ≡ i = ap (λ (x : Option ℕ × Instance). x.1) (get_or_from_slice_get live k.0 p p stands) ∙ f.2 in
      true≢false (sym ((instance_eq-decides (get_or live k.0 p).1 i).1 is) ∙ none k.0 p (slice_get_within live k.0 p stands))

-- ## The number of a rank

module _ (t : Task) (c : Config) (rank number : ℕ) (is : number_at t c rank ≡ Some number) where
  -- the rank has this number
  pub has_number : number_of t c rank ≡ number
  has_number = ap (λ o. unwrap_or o 0) is

  -- what the number chooses the rank chooses
  pub rank_chooses : (x : ℕ × Change) → IsChosen t c number x → choose_listed t c rank ≡ Some (chosen_of c x)
  rank_chooses x chooses = ap (option_and_then (choose (problem_of t) c)) is ∙ chooses.0

  -- and that is not dead
  pub chosen_alive : (x : ℕ × Change) → IsChosen t c number x → is_dead (problem_of t) (network_of x.1) ≡ false
  chosen_alive x chooses = (numbered t c rank (chosen_of c x) (rank_chooses x chooses)).alive

  -- the number of an instance that it chooses
  pub instance_number_is : IsWellTyped t → (g : GroundTask) (i : Instance) (n : ℕ) → slice_get (methods_of t g) number ≡ Some i → slice_get (methods_of t g) n ≡ Some i → n ≡ number_of t c rank
  instance_number_is typed g i n own other = one_place (methods_of t g) (methods_once t typed g) n number i other own ∙ sym has_number

-- the instance of a number is one of the task that stands at the position
pub same_task : (t : Task) (c : Config) (number position : ℕ) (i : Instance) (g : GroundTask) → IsNumberOf t c number (position, Decomposed i) → child_of c.open_nodes position ≡ task g
    → slice_get (methods_of t g) number ≡ Some i
same_task t c number position i g own stands =
    let same : own.0 ≡ g = (let e : task own.0 ≡ task g = sym own.1 ∙ stands in cc) in
    subst (λ h. slice_get (methods_of t h) number ≡ Some i) same own.2

-- a step or an action has the number of its rank
pub carried_out : (t : Task) (c : Config) (rank number : ℕ) (choice : Choice) → choose (problem_of t) c number ≡ Some choice → is_compound (child_of c.open_nodes choice.position) ≡ false → rank ≡ number_of t c rank
carried_out t c rank number choice chooses primitive =
    elim (chosen (problem_of t) c number choice chooses) [
      | inl d ↦ absurd (true≢false (sym (ap is_compound d.is_task) ∙ primitive))
      | inr e ↦ sym (ap (λ o. unwrap_or (number_by t c rank o) 0) e.none)
    ]

-- where a rank leads the others finish, and have the other numbers
pub led_on : (t : Task) (c next : Config) (rank : ℕ) (ranks : List ℕ) → FinishesListed t c (rank ∷ ranks) → IsStep (listing_machine t) c rank next
    → (told t c (rank ∷ ranks) ≡ number_of t c rank ∷ told t next ranks) × FinishesListed t next ranks
led_on t c next rank ranks h step =
    let same : h.1.0 ≡ next = same_Some h.1.0 next (sym h.1.1 ∙ step) in (
      ap (λ o. number_of t c rank ∷ numbers_from (machine_of (problem_of t)) (listing_machine t) (initial_of t) (number_of t) o ranks) step,
      subst (λ x. FinishesListed t x ranks) same (h.0, h.1.2, h.2),
    )
