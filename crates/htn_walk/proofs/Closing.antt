-- The node that a choice closes, and the number of its instance.
use Rattle.std.proofs.Common.{◌≡◌, ℕ, true, false, true≢false, Some, IsSome, slice_get, refl, sym, ap, ◌∙◌}
use Rattle.htn_model.specs.Choice.{child_of}
use Rattle.htn_model.specs.Instance.{Instance}
use Rattle.htn_model.specs.Instances.{initials, methods_of}
use Rattle.htn_model.specs.Machine.{Config}
use Rattle.htn_model.specs.Problem.{Child, precondition, action, task, GroundTask, is_compound}
use Rattle.htn_model.specs.Task.{Task, IsWellTyped}
use Rattle.htn_model.specs.Tree.{compound, no_nodes}
use Rattle.htn_ground.specs.Trees.{initial_number_of, number_of}
use Rattle.htn_ground.proofs.Numbers.{stands_at_place}
use Rattle.htn_walk.specs.Choices.{IsNumberOf}
use Rattle.htn_walk.specs.declared.change.Change.{Change}
use Rattle.htn_walk.specs.declared.change.Change.TheVariants.{Decomposed, Performed}
use Rattle.htn_walk.proofs.Once.{one_place}
use Rattle.htn_walk.proofs.OnceInstances.{initials_once, methods_once}
use Rattle.htn_walk.specs.Trail.{bare, decomposed_by, number_by}

module _ (t : Task) where
  -- a compound task is closed by an instance
  pub closes : (c : Config) (number position : ℕ) (change : Change) → IsNumberOf t c number (position, change) → is_compound (child_of c.open_nodes position) ≡ true → IsSome (decomposed_by change)
  closes c number position (Decomposed instance) of whole = refl
  closes c number position (Performed after) of whole = absurd (true≢false (sym whole ∙ of))

  module _ (typed : IsWellTyped t) where
    -- an instance stands at one place, so this is its number
    pub number_is : (g : GroundTask) (i : Instance) (n : ℕ) → slice_get (methods_of t g) n ≡ Some i → number_of t g i ≡ n
    number_is g i n at = one_place (methods_of t g) (methods_once t typed g) (number_of t g i) n i (stands_at_place i (methods_of t g) n at) at

    -- the number of an initial instance
    pub initial_number_is : (i : Instance) (n : ℕ) → slice_get (initials t) n ≡ Some i → initial_number_of t i ≡ n
    initial_number_is i n at = one_place (initials t) (initials_once t typed) (initial_number_of t i) n i (stands_at_place i (initials t) n at) at

    -- the number makes no difference to an action or a step
    primitive_bare : (child : Child) (m n : ℕ) → is_compound child ≡ false → bare child m ≡ bare child n
    primitive_bare (precondition literals) m n primitive = refl
    primitive_bare (action g) m n primitive = refl
    primitive_bare (task g) m n primitive = absurd (true≢false primitive)

    -- the node that is closed has the number that was chosen
    pub same_bare : (c : Config) (number position : ℕ) (change : Change) → IsNumberOf t c number (position, change)
        → bare (child_of c.open_nodes position) (number_by (number_of t) (child_of c.open_nodes position) (decomposed_by change)) ≡ bare (child_of c.open_nodes position) number
    same_bare c number position (Decomposed i) (g, stands, at) =
        ap (λ x. bare x (number_by (number_of t) x (Some i))) stands
        ∙ ap (λ n. compound g n no_nodes) (number_is g i number at)
        ∙ sym (ap (λ x. bare x number) stands)
    same_bare c number position (Performed after) primitive = primitive_bare (child_of c.open_nodes position) _ number primitive
