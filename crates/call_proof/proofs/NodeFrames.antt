-- Frames that have all that nodes read or write.
use Rattle.std.proofs.Common.{◌≡◌, ◌∙◌, ℕ, ◌+◌, ◌<◌, true, false, not, ◌||◌, List, map, slice_get, option_map, Some, inl, inr, sym, ap, subst, true≢false, arith}
use Rattle.std.specs.FinMap.{contains_key-keys}
use Rattle.std.specs.List.{list_all, list_any}
use Rattle.std.proofs.lemmas.Bool.{cases_lt, false_from_ne_true}
use Rattle.std.proofs.lemmas.List.Folds.{Any-from_list_any}
use Rattle.std.proofs.lemmas.List.Sums.{AllPass-from_list_all}
use Rattle.std.proofs.lemmas.Option.{same_Some, slice_get-map}
use Rattle.htn_model.specs.Atom.{Atom}
use Rattle.htn_model.specs.Problem.{Child, Problem}
use Rattle.htn_model.specs.State.{State, contains, atoms_of}
use Rattle.htn_model.proofs.Sets.{is_same, same_as}
use Rattle.call_rules.specs.Frame.{Frame}
use Rattle.call_rules.specs.Local.{AreIn, IsFrameOf}
use Rattle.htn_ground.specs.Views.{child_view}
use Rattle.htn_ground.specs.declared.child.Child.{Child as Node}
use Rattle.state_table.specs.Table.{Table, IsTable, is_fluent, state_of}
use Rattle.state_table.proofs.States.{unnumbered_is}
use Rattle.call_proof.specs.Masks.{frame_of}

-- ## Atoms

-- a static atom is in each frame
pub static_in : (t : Table) (mask : List ℕ) (a : Atom) → is_fluent t a ≡ false → true ≡ frame_of t mask a
static_in t mask a static = sym (ap (λ b. not b || contains (state_of t mask) a) static)

-- a fluent one that has no number is in none
pub none_in : (t : Table) → IsTable t → (mask : List ℕ) (a : Atom) → is_fluent t a ≡ true
    → ((k : ℕ) → slice_get t.atoms k ≡ Some a → ⊥) → false ≡ frame_of t mask a
none_in t table mask a fluent none =
    sym (ap (λ b. not b || contains (state_of t mask) a) fluent ∙ unnumbered_is t table mask a none
    ∙ false_from_ne_true (contains t.statics a) (λ is. true≢false (sym fluent ∙ table.static a is)))

-- all atoms of a state are in a frame where the list of them is
pub all_in : (frame : Frame) (s : State) (atoms : List Atom) → atoms ≡ atoms_of s → list_all frame atoms ≡ true
    → AreIn frame s
all_in frame s atoms are all a inside =
    let any : list_any (is_same a) (atoms_of s) ≡ true = sym (contains_key-keys s a) ∙ inside in
    let found = Any-from_list_any (is_same a) (atoms_of s) any in
    let here : a ≡ found.1 = same_as a found.1 found.4 in
    let each : list_all frame (atoms_of s) ≡ true = ap (list_all frame) (sym are) ∙ all in
    ap frame here ∙ sym (ap frame found.3) ∙ AllPass-from_list_all frame (atoms_of s) each found.0 found.1 found.2

-- ## Nodes

-- all before a node, and the node, read and write in their frames
pub one_more_in : (problem : Problem) (nodes : List Node) (frame : ℕ → Frame) (k : ℕ) (node : Node)
    → slice_get nodes k ≡ Some node → IsFrameOf problem (child_view node) (frame k)
    → ((j : ℕ) (x : Child) → j < k → slice_get (map child_view nodes) j ≡ Some x → IsFrameOf problem x (frame j))
    → (j : ℕ) (x : Child) → j < k + 1 → slice_get (map child_view nodes) j ≡ Some x → IsFrameOf problem x (frame j)
one_more_in problem nodes frame k node at here before j x less is = elim (cases_lt j k) [
  | inl earlier ↦ before j x earlier is
  | inr later ↦
      (let same : j ≡ k = omega arith in
      let there : Some (child_view node) ≡ Some x =
      sym (slice_get-map child_view nodes k ∙ ap (option_map child_view) at)
      ∙ ap (slice_get (map child_view nodes)) (sym same) ∙ is in
      subst (λ i. IsFrameOf problem x (frame i)) (sym same)
      (subst (λ y. IsFrameOf problem y (frame k)) (same_Some (child_view node) x there) here))
]
