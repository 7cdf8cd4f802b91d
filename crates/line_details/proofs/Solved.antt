-- The trees of a certificate are a solution whose shadow the file is, with its details.
use Rattle.std.proofs.Common.{◌≡◌, ℕ, ◌+◌, Bool, List, [], ◌∷◌, ◌++◌, length, map, Option, Some, None, slice_get, option_and_then, sym, refl, ap, ◌∙◌, subst, arith}
use Rattle.std.specs.List.{AllByRecursion}
use Rattle.htn_model.specs.State.{State}
use Rattle.htn_model.specs.Literal.{Literal}
use Rattle.htn_model.specs.Problem.{GroundTask, Problem, IsGrounded, Network, perform_action}
use Rattle.htn_model.specs.Tree.{Node, leaf, step, compound, Nodes, roots, Place, node_at, primitives_from, before, order_of_network, IsRearrangement, Respects, Solution, IsSolution, run}
use Rattle.htn_model.specs.PlanFile.{ActionLine, DecompositionLine, PlanFile, Naming, IsRearrangementOf, IsIn, action_ids, decomposition_ids, IsForest}
use Rattle.htn_model.specs.Shadow.{compounds_from, IsDecompositionLine, HasId, IsShadow}
use Rattle.htn_model.specs.Verdict.{perform_line}
use Rattle.htn_model.specs.Fits.{subtask_positions}
use Rattle.htn_model.specs.Placement.{IsPrimitive}
use Rattle.htn_model.specs.Decoupling.{ForestKeeps}
use Rattle.htn_model.specs.Shown.{LinesRun}
use Rattle.htn_model.proofs.Ascending.{all_in, all_from, in_at}
use Rattle.htn_model.proofs.Pending.{all_map}
use Rattle.htn_model.proofs.Forests.{networks_decouple}
use Rattle.htn_model.proofs.Numbered.{IsCompound, primitives_from_stand, compounds_from_stand, top, in_primitives, in_compounds, in_arranged}
use Rattle.htn_model.proofs.Rearranged.{distinct_arranged, distinct_right}
use Rattle.htn_model.proofs.Apart.{all_primitives_distinct, all_compounds_distinct}
use Rattle.htn_model.proofs.Sorted.{sorted, sorted_rearranged, sorted_all, sorted_respects}
use Rattle.htn_model.proofs.Laid.{id_below, Forest}
use Rattle.htn_model.proofs.Marked.{compound_line, one_to_one, leaf_of, one_leaf, compound_of, at_child}
use Rattle.htn_model.proofs.Executed.{precedes, precedes_irreflexive, precedes_transitive, respects_order, Waits, Executes, executes}
use Rattle.htn_model.proofs.Accepted.{shown_ids, lines_of_places}
use Rattle.htn_model.proofs.Planted.{AreNamedLines, forest_planted}
use Rattle.htn_model.proofs.Fitted.{accepted_fits}
use Rattle.line_details.specs.Details.{actions_before, Details, AreDetails}
use Rattle.line_details.specs.Certificate.{AllSpans, IsCertificate, CertificatesFit}
use Rattle.line_details.proofs.Grown.{Agree, grown_roots}
use Rattle.line_details.proofs.Timely.{step_in_turn}

module _ (naming : Naming) (problem : Problem) (grounded : IsGrounded problem) (file : PlanFile) (is_forest : IsForest file) (states : ℕ → State)
    (runs : LinesRun naming problem file states) (details : Details) (network : Network) (is_initial : slice_get problem.initials details.initial ≡ Some network)
    (start finish : ℕ → ℕ) (laid : Forest naming problem file states network.children file.roots start finish)
    (agree : Agree details laid.slots laid.ids laid.nodes)
    (keeps : ForestKeeps problem states laid.slots network.order laid.nodes (length file.actions)) where
  -- the trees
  abbrev trees : Nodes
  trees = laid.nodes

  -- which place comes before which: by its key, and among equal keys by the inherited order
  abbrev earlier : Place → Place → Bool
  earlier = precedes problem network.order trees laid.slots

  -- the places of leaves and steps
  abbrev places : List Place
  places = primitives_from [] 0 trees

  -- these places in sequence
  abbrev list : List Place
  list = sorted earlier places

  -- each place has a leaf or a step
  stand : AllByRecursion (λ p. IsPrimitive (node_at trees p)) places
  stand = all_map _ _ _ (top IsPrimitive trees) (primitives_from_stand [] 0 trees)

  -- the sorted places are all places
  rearranged : IsRearrangement list places
  rearranged = sorted_rearranged earlier places

  -- each leaf and step is among them
  there : (p : Place) → IsPrimitive (node_at trees p) → IsIn p list
  there p h = in_arranged p list places rearranged (in_primitives trees p h)

  -- and in order
  in_order : Respects earlier list
  in_order = sorted_respects earlier (λ p. IsPrimitive (node_at trees p)) (precedes_irreflexive problem network.order trees laid.slots)
      (precedes_transitive problem network.order trees laid.slots grounded (grounded.initials details.initial network is_initial).closed states (length file.actions) keeps)
      places stand

  -- the roots are the ids of the trees
  listed : IsRearrangementOf file.roots (map (id_below laid.ids) (subtask_positions 0 (roots trees)))
  listed = subst (λ c. IsRearrangementOf file.roots (map (id_below laid.ids) (subtask_positions 0 c))) (sym laid.laid.are_roots) laid.listed

  -- the sorted places wait for the lines
  waits : Waits naming problem file states runs network.order trees laid.slots laid.ids laid.laid.marks keeps
      (leaf_of naming file laid.slots laid.ids trees laid.laid.marks is_forest listed)
      (one_leaf naming file laid.slots laid.ids trees laid.laid.marks is_forest listed) 0 file.actions list
  waits = record {
    are_lines = λ k. ap (slice_get file.actions) (let e : k ≡ 0 + k = omega arith in e);
    up_to = omega arith;
    stand = sorted_all earlier (λ p. IsPrimitive (node_at trees p)) places stand;
    sorted = in_order;
    distinct = distinct_arranged list places rearranged (all_primitives_distinct [] 0 trees);
    low = all_from _ list (λ q i. omega arith);
    complete = λ p g e up. there p (subst IsPrimitive (sym e) tt);
  }

  -- and are carried out with them
  executed : Executes naming problem file states runs network.order trees laid.slots laid.ids laid.laid.marks keeps
      (leaf_of naming file laid.slots laid.ids trees laid.laid.marks is_forest listed)
      (one_leaf naming file laid.slots laid.ids trees laid.laid.marks is_forest listed) 0 file.actions list
  executed = executes naming problem file states runs network.order trees laid.slots laid.ids laid.laid.marks keeps
      (leaf_of naming file laid.slots laid.ids trees laid.laid.marks is_forest listed)
      (one_leaf naming file laid.slots laid.ids trees laid.laid.marks is_forest listed) list 0 file.actions waits

  -- the trees with that sequence
  abbrev solution : Solution
  solution = record { number = details.initial; trees = trees; linearisation = list }

  -- that is a solution
  solves : IsSolution problem solution
  solves = record {
    network = network;
    is_initial = is_initial;
    are_roots = laid.laid.are_roots;
    are_trees = laid.laid.trees;
    is_rearrangement = rearranged;
    respects = subst (λ o. Respects (before problem o trees) list) (ap order_of_network (sym is_initial))
        (respects_order problem network.order trees laid.slots list in_order);
    reaches_goal = (states (length file.actions), subst (λ s. run problem trees s list ≡ Some (states (length file.actions))) runs.starts executed.ends, runs.ends);
  }

  -- the node at a place has a decomposition line
  abbrev HasLine : Place → Type 0
  HasLine p = (line : DecompositionLine) × IsIn line file.decompositions × IsDecompositionLine naming trees laid.ids p line

  -- each compound node has its line
  line_of : (p : Place) → IsIn p (compounds_from [] 0 trees) → HasLine p
  line_of p i = by (node_at trees p) refl (all_in _ p _ (all_map _ _ _ (top IsCompound trees) (compounds_from_stand [] 0 trees)) i)
    where
      by : (m : Option Node) → node_at trees p ≡ m → IsCompound m → HasLine p
      by None e h = absurd h
      by (Some (leaf g)) e h = absurd h
      by (Some (step literals)) e h = absurd h
      by (Some (compound t k nodes)) e h =
          let c = compound_line naming file laid.slots laid.ids trees laid.laid.marks p t k nodes e in (
            c.line,
            c.stands,
            record {
              task = t;
              number = k;
              nodes = nodes;
              stands = e;
              id = c.is;
              named = c.named;
              method = c.method;
              children = subst (IsRearrangementOf c.line.children) (sym (shown_ids laid.ids p 0 nodes)) c.children;
            },
          )

  -- and each line a compound node
  onto : (line : DecompositionLine) → IsIn line file.decompositions → (p : Place) × IsIn p (compounds_from [] 0 trees) × (laid.ids p ≡ line.id)
  onto line i =
      let (p, t, k, nodes, e, same) = compound_of naming file laid.slots laid.ids trees laid.laid.marks is_forest listed line i in
      (p, in_compounds trees p (subst IsCompound (sym e) tt), same)

  -- a compound node has an id
  has_id : (p : Place) → IsIn p (compounds_from [] 0 trees) → HasId (node_at trees p)
  has_id p i = let (line, stands, is) = line_of p i in subst HasId (sym is.stands) tt

  -- the file is its shadow
  shadow : IsShadow naming file solution
  shadow = record {
    id_at = laid.ids;
    one_to_one = one_to_one naming file laid.slots laid.ids trees laid.laid.marks is_forest listed;
    actions = executed.shown;
    roots = subst (IsRearrangementOf file.roots) (sym (shown_ids laid.ids [] 0 trees)) listed;
    decompositions = lines_of_places naming trees laid.ids (compounds_from [] 0 trees) file.decompositions (all_compounds_distinct [] 0 trees)
        (distinct_right (action_ids file.actions) (decomposition_ids file.decompositions) is_forest.defined_once)
        line_of onto (λ p q i j. one_to_one naming file laid.slots laid.ids trees laid.laid.marks is_forest listed p q (has_id p i) (has_id q j));
  }

  -- a step comes after as many actions as its slot says
  step_comes : (p : Place) (literals : List Literal) → node_at trees p ≡ Some (step literals) → actions_before trees list p ≡ laid.slots p
  step_comes = step_in_turn naming problem file is_forest states runs network.order trees laid.slots laid.ids laid.laid.marks keeps
      (leaf_of naming file laid.slots laid.ids trees laid.laid.marks is_forest listed) list there in_order executed.shown

  -- with these details
  pub are_details : AreDetails naming problem file details
  unfolding shadow
  are_details = record {
    solution = solution;
    solves = solves;
    shadow = shadow;
    initial = refl;
    each = λ p t n nodes e. (let x = agree p t n nodes e in record {
      number = x.number;
      gap = λ a literals is. x.gap a literals is ∙ sym (step_comes (p ++ a ∷ []) literals (at_child trees p t n nodes a e ∙ is));
    });
  }

module _ (naming : Naming) (problem : Problem) (file : PlanFile) (states : ℕ → State) (details : Details) (all_spans : AllSpans) (runs : LinesRun naming problem file states)
    (certificate : IsCertificate naming problem file states details all_spans) where
  -- a line that is carried out names an action
  named_action : (i : ℕ) (line : ActionLine) → slice_get file.actions i ≡ Some line → (g : GroundTask) × (naming.named line.name line.arguments ≡ Some g)
  named_action i line there = by (naming.named line.name line.arguments) refl
    where
      by : (o : Option GroundTask) → naming.named line.name line.arguments ≡ o → (g : GroundTask) × (naming.named line.name line.arguments ≡ Some g)
      by None e =
          let does = runs.performs i line there in
          let none : perform_line naming problem (states i) line ≡ None = ap (λ n. perform_action (states i) (option_and_then problem.action_of n)) e in
          absurd cc
      by (Some g) e = (g, e)

  -- so each line names its task
  named_lines : AreNamedLines naming file
  named_lines = record {
    actions = λ line i. (let (k, stands) = in_at line file.actions i in named_action k line stands);
    decompositions = λ line i. (let l = certificate.lines line i in (l.t, l.named));
  }

-- what has a certificate is the details of a solution whose shadow the file is
pub certified_details : (naming : Naming) (problem : Problem) → IsGrounded problem → (file : PlanFile) (states : ℕ → State) (details : Details) (all_spans : AllSpans)
    → IsForest file → LinesRun naming problem file states → IsCertificate naming problem file states details all_spans → AreDetails naming problem file details
certified_details naming problem grounded file states details all_spans is_forest runs certificate =
    let (plans, shows) = forest_planted file is_forest naming (named_lines naming problem file states details all_spans runs certificate) in
    let grown = grown_roots naming problem file states details all_spans is_forest runs certificate plans shows in
    let f = grown.forest in
    let network = certificate.network in
    let places = certificate.roots in
    let root = all_spans.root in
    let whole = certificate.whole in
    are_details naming problem grounded file is_forest states runs details network certificate.is_initial root.start root.finish f grown.agree
    ((networks_decouple problem grounded).keeps states f.slots network.order f.nodes (length file.actions) (
      root.start,
      root.finish,
      record {
        from = λ a. omega arith;
        to = λ a. (let to = places.spans.to a in omega arith);
        forward = places.spans.forward;
        ordered = places.spans.ordered;
      },
      f.laid.sit,
    ))

-- so its lines have room
pub certificates_fit : (naming : Naming) (problem : Problem) → IsGrounded problem → CertificatesFit naming problem
certificates_fit naming problem grounded file states plans details all_spans is_forest runs shows certificate =
    let all = certified_details naming problem grounded file states details all_spans is_forest runs certificate in
    accepted_fits naming problem grounded file states plans is_forest runs shows (record { solution = all.solution; solves = all.solves; shadow = all.shadow })
