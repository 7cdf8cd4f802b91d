-- The word machine of a sketched problem, with lists of atoms for states, so that it computes.
use Rattle.std.proofs.Common.{◌≡◌, ℕ, Bool, true, false, not, cond, ◌&&◌, ◌||◌, nat_eq, List, [], ◌∷◌, ◌++◌, filter, length, Option, Some, None, option_map, option_and_then, refl, sym, ap, ap₂, ◌∙◌, subst}
use Rattle.std.specs.List.{list_any, list_all}
use Rattle.htn_model.specs.Atom.{Atom}
use Rattle.htn_model.specs.State.{set_of}
use Rattle.htn_model.specs.Literal.{Literal, atom, equality, literal_holds, holds, after}
use Rattle.htn_model.specs.Problem.{Child, precondition, action, task, Order, is_before, Network, perform_action, perform}
use Rattle.htn_model.specs.Tree.{Node, Nodes, Place, root, node_at, perform_at, run}
use Rattle.htn_model.specs.Choice.{is_empty, nth_free, first_free_compound, child_of}
use Rattle.htn_model.specs.Machine.{Config, replaced, no_network, network_at, choose_from, result_of, step_by}
use Rattle.htn_model.specs.Exhaustion.{is_dead_literal, is_dead_child, is_dead}
use Rattle.htn_model.specs.Levels.{is_done}
use Rattle.htn_model.specs.Sketch.{SketchAction, Sketch, look_up, drawn, sketched}
use Rattle.htn_model.specs.AtomOrder.{same_state}
use Rattle.htn_model.proofs.Sets.{is_same, same_as, contains-set_of, contains-after}

-- ## What holds

-- whether a literal holds, by a list of atoms
abbrev pub shown_literal : List Atom → Literal → Bool
shown_literal atoms (atom true a) = list_any (is_same a) atoms
shown_literal atoms (atom false a) = not (list_any (is_same a) atoms)
shown_literal atoms (equality true x y) = nat_eq x y
shown_literal atoms (equality false x y) = not (nat_eq x y)

-- whether literals hold, by a list of atoms
abbrev pub shown_holds : List Atom → List Literal → Bool
shown_holds atoms literals = list_all (shown_literal atoms) literals

-- so it is in the set of the list
literal_shown : (atoms : List Atom) (l : Literal) → literal_holds (set_of atoms) l ≡ shown_literal atoms l
literal_shown atoms (atom true a) = contains-set_of atoms a
literal_shown atoms (atom false a) = ap not (contains-set_of atoms a)
literal_shown atoms (equality true x y) = refl
literal_shown atoms (equality false x y) = refl

-- so it is in the set of the list
pub holds_shown : (atoms : List Atom) (literals : List Literal) → holds (set_of atoms) literals ≡ shown_holds atoms literals
holds_shown atoms [] = refl
holds_shown atoms (l ∷ ls) = ap₂ ◌&&◌ (literal_shown atoms l) (holds_shown atoms ls)

-- ## What an action leaves

-- the atoms after an action
abbrev pub shown_after : List Atom → SketchAction → List Atom
shown_after atoms a = a.adds ++ filter (λ x. not (list_any (is_same x) a.deletes)) atoms

-- one is found in joined lists where it is in the first or in the second
any_join : (q : Atom) (xs ys : List Atom) → list_any (is_same q) (xs ++ ys) ≡ (list_any (is_same q) xs || list_any (is_same q) ys)
any_join q [] ys = refl
any_join q (x ∷ xs) ys = ap (λ b. is_same q x || b) (any_join q xs ys) ∙ regroup (is_same q x) _ _
  where
    regroup : (a b c : Bool) → (a || (b || c)) ≡ ((a || b) || c)
    regroup true b c = refl
    regroup false b c = refl

-- a filtered list has an atom where the list has it and it is kept
filter_members : (keep : Atom → Bool) (q : Atom) (xs : List Atom) → list_any (is_same q) (filter keep xs) ≡ (list_any (is_same q) xs && keep q)
filter_members keep q [] = refl
filter_members keep q (x ∷ xs) =
    elim (keep x) as (λ b. keep x ≡ b → list_any (is_same q) (cond b (x ∷ filter keep xs) (filter keep xs)) ≡ ((is_same q x || list_any (is_same q) xs) && keep q)) [
      | true ↦ λ kept. ap (λ b. is_same q x || b) (filter_members keep q xs) ∙ kept_one (is_same q x) (list_any (is_same q) xs) (keep q) (λ e. ap keep (same_as q x e) ∙ kept)
      | false ↦ λ dropped. filter_members keep q xs ∙ dropped_one (is_same q x) (list_any (is_same q) xs) (keep q) (λ e. ap keep (same_as q x e) ∙ dropped)
    ] refl
  where
    kept_one : (a b k : Bool) → (a ≡ true → k ≡ true) → (a || (b && k)) ≡ ((a || b) && k)
    kept_one true b k h = sym (h refl)
    kept_one false b k h = refl

    dropped_one : (a b k : Bool) → (a ≡ true → k ≡ false) → (b && k) ≡ ((a || b) && k)
    dropped_one true b k h = subst (λ v. (b && v) ≡ v) (sym (h refl)) (and-false b)
      where
        and-false : (b : Bool) → (b && false) ≡ false
        and-false true = refl
        and-false false = refl
    dropped_one false b k h = refl

-- they make the set after the action
pub after_shown : (atoms : List Atom) (a : SketchAction) → after (set_of atoms) (drawn a) ≡ set_of (shown_after atoms a)
after_shown atoms a =
    same_state _ _ (λ q.
    contains-after (set_of atoms) (drawn a) q
    ∙ ap₂ ◌||◌ (contains-set_of a.adds q) (ap₂ (λ x y. x && not y) (contains-set_of atoms q) (contains-set_of a.deletes q))
    ∙ sym (contains-set_of (shown_after atoms a) q ∙ any_join q a.adds (filter (λ x. not (list_any (is_same x) a.deletes)) atoms)
    ∙ ap (λ b. list_any (is_same q) a.adds || b) (filter_members (λ x. not (list_any (is_same x) a.deletes)) q atoms)))

-- the atoms after an action that may be there
abbrev pub shown_action : List Atom → Option SketchAction → Option (List Atom)
shown_action atoms None = None
shown_action atoms (Some a) = cond (shown_holds atoms a.precondition) (Some (shown_after atoms a)) None

-- the atoms after a node is carried out
abbrev pub shown_perform : Sketch → List Atom → Child → Option (List Atom)
shown_perform k atoms (precondition literals) = cond (shown_holds atoms literals) (Some atoms) None
shown_perform k atoms (action g) = shown_action atoms (look_up k.actions g)
shown_perform k atoms (task t) = None

-- a set that is there only if a test holds is that of a list that is
if_holds : (b : Bool) (atoms : List Atom) → cond b (Some (set_of atoms)) None ≡ option_map set_of (cond b (Some atoms) None)
if_holds true atoms = refl
if_holds false atoms = refl

-- an action over a set is one over its list
pub action_shown : (atoms : List Atom) (o : Option SketchAction) → perform_action (set_of atoms) (option_map drawn o) ≡ option_map set_of (shown_action atoms o)
action_shown atoms None = refl
action_shown atoms (Some a) = ap₂ (λ b s. cond b (Some s) None) (holds_shown atoms a.precondition) (after_shown atoms a) ∙ if_holds (shown_holds atoms a.precondition) (shown_after atoms a)

-- they make the state after it
pub perform_shown : (k : Sketch) (atoms : List Atom) (x : Child) → perform (sketched k) (set_of atoms) x ≡ option_map set_of (shown_perform k atoms x)
perform_shown k atoms (precondition literals) = ap (λ b. cond b (Some (set_of atoms)) None) (holds_shown atoms literals) ∙ if_holds (shown_holds atoms literals) atoms
perform_shown k atoms (action g) = action_shown atoms (look_up k.actions g)
perform_shown k atoms (task t) = refl

-- ## What a linearisation leaves

-- the atoms after the node at a place
abbrev shown_at : Sketch → List Atom → Option Node → Option (List Atom)
shown_at k atoms None = None
shown_at k atoms (Some n) = shown_perform k atoms (root n)

-- the atoms after the nodes at these places
abbrev pub shown_run : Sketch → Nodes → List Atom → List Place → Option (List Atom)
shown_run k trees atoms [] = Some atoms
shown_run k trees atoms (p ∷ ps) = option_and_then (λ next. shown_run k trees next ps) (shown_at k atoms (node_at trees p))

-- they make the state after it
at_shown : (k : Sketch) (atoms : List Atom) (o : Option Node) → perform_at (sketched k) (set_of atoms) o ≡ option_map set_of (shown_at k atoms o)
at_shown k atoms None = refl
at_shown k atoms (Some n) = perform_shown k atoms (root n)

-- they make the state after the run
pub run_shown : (k : Sketch) (trees : Nodes) (atoms : List Atom) (ps : List Place) → run (sketched k) trees (set_of atoms) ps ≡ option_map set_of (shown_run k trees atoms ps)
run_shown k trees atoms [] = refl
run_shown k trees atoms (p ∷ ps) =
    ap (option_and_then (λ next. run (sketched k) trees next ps)) (at_shown k atoms (node_at trees p)) ∙ by (shown_at k atoms (node_at trees p)) (λ next. run_shown k trees next ps)
  where
    by : (o : Option (List Atom)) → ((next : List Atom) → run (sketched k) trees (set_of next) ps ≡ option_map set_of (shown_run k trees next ps))
        → option_and_then (λ next. run (sketched k) trees next ps) (option_map set_of o) ≡ option_map set_of (option_and_then (λ next. shown_run k trees next ps) o)
    by None later = refl
    by (Some next) later = later next

-- ## Configurations

-- a configuration with a list of atoms for its state
pub record Draft : Type 0 where
  pub atoms : List Atom
  pub open_nodes : List Child
  pub order : Order

-- the configuration of a draft
abbrev pub config_of : Draft → Config
config_of d = record { state = set_of d.atoms; open_nodes = d.open_nodes; order = d.order }

-- the node at i replaced by a network, with these atoms true
abbrev pub respliced : Draft → ℕ → Network → List Atom → Draft
respliced d i network atoms =
    let c = replaced (config_of d) i network (set_of []) in record { atoms = atoms; open_nodes = c.open_nodes; order = c.order }

-- the draft after a number, by the first free compound task
abbrev shown_from : Sketch → Draft → ℕ → Option ℕ → Option Draft
shown_from k d number (Some i) = option_map (λ network. respliced d i network d.atoms) (network_at (sketched k) (child_of d.open_nodes i) number)
shown_from k d number None =
    option_and_then (λ i. option_map (respliced d i no_network) (shown_perform k d.atoms (child_of d.open_nodes i))) (nth_free (length d.open_nodes) (is_before d.order) number)

-- the draft after a number
abbrev pub shown_step : Sketch → Draft → ℕ → Option Draft
shown_step k d number = shown_from k d number (first_free_compound d.open_nodes (is_before d.order))

-- it is of the configuration after the step
pub step_shown : (k : Sketch) (d : Draft) (number : ℕ) → step_by (sketched k) (config_of d) number ≡ option_map config_of (shown_step k d number)
step_shown k d number = by (first_free_compound d.open_nodes (is_before d.order))
  where
    taken : (i : ℕ) (o : Option Network)
        → option_map (result_of (config_of d)) (option_map (λ network. record { position = i; network = network; state = set_of d.atoms }) o)
        ≡ option_map config_of (option_map (λ network. respliced d i network d.atoms) o)
    taken i None = refl
    taken i (Some network) = refl

    carried : (i : ℕ) (o : Option (List Atom))
        → option_map (result_of (config_of d)) (option_map (λ state. record { position = i; network = no_network; state = state }) (option_map set_of o))
        ≡ option_map config_of (option_map (respliced d i no_network) o)
    carried i None = refl
    carried i (Some atoms) = refl

    executed : (o : Option ℕ)
        → option_map (result_of (config_of d)) (option_and_then (λ i. option_map (λ state. record { position = i; network = no_network; state = state }) (perform (sketched k) (set_of d.atoms) (child_of d.open_nodes i))) o)
        ≡ option_map config_of (option_and_then (λ i. option_map (respliced d i no_network) (shown_perform k d.atoms (child_of d.open_nodes i))) o)
    executed None = refl
    executed (Some i) =
        ap (λ s. option_map (result_of (config_of d)) (option_map (λ state. record { position = i; network = no_network; state = state }) s)) (perform_shown k d.atoms (child_of d.open_nodes i))
        ∙ carried i (shown_perform k d.atoms (child_of d.open_nodes i))

    by : (o : Option ℕ) → option_map (result_of (config_of d)) (choose_from (sketched k) (config_of d) number o) ≡ option_map config_of (shown_from k d number o)
    by (Some i) = taken i (network_at (sketched k) (child_of d.open_nodes i) number)
    by None = executed (nth_free (length d.open_nodes) (is_before d.order) number)

-- whether a draft is done
abbrev pub shown_done : Sketch → Draft → Bool
shown_done k d = is_empty d.open_nodes && shown_holds d.atoms k.goal

-- so it is of the configuration
pub done_shown : (k : Sketch) (d : Draft) → is_done (sketched k) (config_of d) ≡ shown_done k d
done_shown k d = ap (λ b. is_empty d.open_nodes && b) (holds_shown d.atoms k.goal)

-- ## Dead numbers

-- whether a literal is dead, by a list of atoms
abbrev shown_dead_literal : Sketch → Literal → Bool
shown_dead_literal k (atom positive a) = not (list_any (nat_eq a.predicate) k.changed) && not (shown_literal k.initial_atoms (atom positive a))
shown_dead_literal k (equality positive x y) = not (shown_literal k.initial_atoms (equality positive x y))

-- whether a node is dead, by a list of atoms
abbrev shown_dead_child : Sketch → Child → Bool
shown_dead_child k (precondition literals) = list_any (shown_dead_literal k) literals
shown_dead_child k (action g) = false
shown_dead_child k (task t) = false

-- whether an instance is dead, by a list of atoms
abbrev pub shown_dead : Sketch → Network → Bool
shown_dead k network = list_any (shown_dead_child k) network.children

-- tests that agree pass in the same lists
any_alike : {X : Type 0} (f g : X → Bool) (xs : List X) → ((x : X) → f x ≡ g x) → list_any f xs ≡ list_any g xs
any_alike f g [] h = refl
any_alike f g (x ∷ xs) h = ap₂ ◌||◌ (h x) (any_alike f g xs h)

-- so it is of the literal
dead_literal_shown : (k : Sketch) (l : Literal) → is_dead_literal (sketched k) l ≡ shown_dead_literal k l
dead_literal_shown k (atom positive a) = ap (λ b. not (list_any (nat_eq a.predicate) k.changed) && not b) (literal_shown k.initial_atoms (atom positive a))
dead_literal_shown k (equality positive x y) = ap not (literal_shown k.initial_atoms (equality positive x y))

-- so it is of the node
dead_child_shown : (k : Sketch) (x : Child) → is_dead_child (sketched k) x ≡ shown_dead_child k x
dead_child_shown k (precondition literals) = any_alike (is_dead_literal (sketched k)) (shown_dead_literal k) literals (dead_literal_shown k)
dead_child_shown k (action g) = refl
dead_child_shown k (task t) = refl

-- so it is of the instance
pub dead_shown : (k : Sketch) (network : Network) → is_dead (sketched k) network ≡ shown_dead k network
dead_shown k network = any_alike (is_dead_child (sketched k)) (shown_dead_child k) network.children (dead_child_shown k)
