-- The choices of a compound task's instances.
use Rattle.std.proofs.Common.{◌≡◌, ℕ, zero, suc, ◌+◌, Bool, true, false, cond, List, [], ◌∷◌, filter, map, get_or, slice_get, Some, not, All, sym, ap, ◌∙◌, subst, arith}
use Rattle.std.specs.List.{enumerate_from}
use Rattle.std.proofs.lemmas.Option.{slice_get-get_or}
use Rattle.std.proofs.lemmas.Simd.{map-map}
use Rattle.htn_model.specs.Choice.{child_of, first_free_compound}
use Rattle.htn_model.specs.Exhaustion.{is_dead}
use Rattle.htn_model.specs.Grounding.{problem_of}
use Rattle.htn_model.specs.Instance.{Instance}
use Rattle.htn_model.specs.Instances.{methods_of}
use Rattle.htn_model.specs.Machine.{Config, choose}
use Rattle.htn_model.specs.Problem.{GroundTask, is_before, task}
use Rattle.htn_model.specs.Task.{Task}
use Rattle.htn_net.specs.Choices.{IsChoice, decomposed_choices}
use Rattle.htn_walk.specs.declared.change.Change.TheVariants as chosen
use Rattle.htn_net.specs.declared.choice.Choice.{Choice}
use Rattle.htn_walk.specs.Live.{live_methods}
use Rattle.std.proofs.lemmas.List.Elements.{All-map}
use Rattle.htn_walk.proofs.Numbers.{all_kept, choose_instance}

-- what stands among numbered elements stands in the list at its number
pub numbered_at : {X : Type 0} (q : ℕ × X → Bool) (a : ℕ) (xs : List X) (k : ℕ) (p : ℕ × X) → slice_get (filter q (enumerate_from a xs)) k ≡ Some p
    → (j : ℕ) × (a + j ≡ p.0) × (slice_get xs j ≡ Some p.1)
numbered_at q a [] k p h = absurd cc
numbered_at {X} q a (x ∷ xs) k p h = by (q (a, x)) k (λ l e. numbered_at q (a + 1) xs l p e) h
  where
    rest : List (ℕ × X)
    rest = filter q (enumerate_from (a + 1) xs)

    Further : ℕ → Type 0
    Further l = slice_get rest l ≡ Some p → (j : ℕ) × (a + 1 + j ≡ p.0) × (slice_get xs j ≡ Some p.1)

    later : (l : ℕ) → Further l → slice_get rest l ≡ Some p → (j : ℕ) × (a + j ≡ p.0) × (slice_get (x ∷ xs) j ≡ Some p.1)
    later l further e = let at = further e in let same = at.1 in (suc at.0, omega arith, at.2)

    by : (b : Bool) (l : ℕ) → ((m : ℕ) → Further m) → slice_get (cond b ((a, x) ∷ rest) rest) l ≡ Some p → (j : ℕ) × (a + j ≡ p.0) × (slice_get (x ∷ xs) j ≡ Some p.1)
    by true zero further e = let same : (a, x) ≡ p = cc in (0, (let z : a + 0 ≡ a = omega arith in z ∙ ap (λ (y : ℕ × X). y.0) same), ap (λ (y : ℕ × X). Some y.1) same)
    by true (suc l) further e = later l (further l) e
    by false l further e = later l (further l) e

module _ (t : Task) (c : Config) (i : ℕ) (g : GroundTask) (first : first_free_compound c.open_nodes (is_before c.order) ≡ Some i) (stands : child_of c.open_nodes i ≡ task g) where
  -- numbered instances are chosen by their numbers
  pub numbered_chosen : (q : ℕ × Instance → Bool) → All (λ (p : ℕ × Instance). choose (problem_of t) c p.0 ≡ Some (record { position = i; network = p.1.network; state = c.state })) (filter q (enumerate_from 0 (methods_of t g)))
  numbered_chosen q k d inside =
      let found = filter q (enumerate_from 0 (methods_of t g)) in
      let p = get_or found k d in
      let at = numbered_at q 0 (methods_of t g) k p (slice_get-get_or found k d inside) in
      let same = at.1 in
      let number : at.0 ≡ p.0 = omega arith in
      choose_instance t c i g first stands p.0 p.1 (ap (slice_get (methods_of t g)) (sym number) ∙ at.2)

  -- the numbers of all instances are choices of the definitions
  pub instances_chosen : All (IsChoice (problem_of t) c) (decomposed_choices i (enumerate_from 0 (methods_of t g)))
  instances_chosen =
      All-map (IsChoice (problem_of t) c) (λ (p : ℕ × Instance). record { number = p.0; position = i; change = chosen.Decomposed p.1 }) (enumerate_from 0 (methods_of t g))
      (subst (λ (l : List (ℕ × Instance)). All (λ (p : ℕ × Instance). choose (problem_of t) c p.0 ≡ Some (record { position = i; network = p.1.network; state = c.state })) l)
      (all_kept (enumerate_from 0 (methods_of t g))) (numbered_chosen (λ (p : ℕ × Instance). true)))

  -- and so are those of the live ones
  pub live_instances_chosen : All (IsChoice (problem_of t) c) (decomposed_choices i (live_methods t g))
  live_instances_chosen =
      All-map (IsChoice (problem_of t) c) (λ (p : ℕ × Instance). record { number = p.0; position = i; change = chosen.Decomposed p.1 }) (live_methods t g)
      (numbered_chosen (λ (p : ℕ × Instance). not (is_dead (problem_of t) p.1.network)))

-- the numbers of the choices of numbered instances
pub numbers_of : (i : ℕ) (found : List (ℕ × Instance)) → map (λ (x : Choice). x.number) (decomposed_choices i found) ≡ map (λ (p : ℕ × Instance). p.0) found
numbers_of i found = map-map (λ (x : Choice). x.number) (λ (p : ℕ × Instance). record { number = p.0; position = i; change = chosen.Decomposed p.1 }) found
