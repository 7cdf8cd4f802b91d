-- The details of a file have a certificate: its solution's nodes have spans, and its steps stand in their gaps.
use Rattle.std.proofs.Common.{◌≡◌, ℕ, ◌+◌, ◌≤◌, List, [], ◌∷◌, ◌++◌, length, map, Option, Some, None, true, slice_get, inl, inr, sym, refl, ap, ◌∙◌, subst, arith}
use Rattle.htn_model.specs.State.{State}
use Rattle.htn_model.specs.Literal.{holds}
use Rattle.htn_model.specs.Problem.{GroundTask, Problem, IsGrounded, Network, Child, action, task}
use Rattle.htn_model.specs.Tree.{Node, leaf, step, compound, Nodes, Place, node_at, child_at, roots, before, order_of_network, Respects, run}
use Rattle.htn_model.specs.PlanFile.{ActionLine, DecompositionLine, PlanFile, Naming, IsRearrangementOf, IsIn, IsForest}
use Rattle.htn_model.specs.Fits.{AreSpans, subtask_positions}
use Rattle.htn_model.specs.Placement.{Slots, IsPrimitive, AllSit}
use Rattle.htn_model.specs.Shadow.{compounds_from, IsDecompositionLine, HasId}
use Rattle.htn_model.specs.Shown.{LinesRun}
use Rattle.htn_model.proofs.Accepted.{shown_ids}
use Rattle.htn_model.proofs.Decoupled.{sits_child}
use Rattle.htn_model.proofs.Fitted.{compound_has_line}
use Rattle.htn_model.proofs.Forests.{networks_decouple}
use Rattle.htn_model.proofs.Marked.{at_child, decompositions_distinct, has_id_at, root_of_child}
use Rattle.htn_model.proofs.Numbered.{IsCompound, in_primitives, in_compounds, in_arranged}
use Rattle.htn_model.proofs.Proper.{tree_of_place}
use Rattle.htn_model.proofs.Rearranged.{in_rearranged, unmapped}
use Rattle.htn_model.proofs.Timed.{slot_in, line_of_leaf, list_keeps}
use Rattle.line_details.specs.Details.{actions_before, Details, AreDetails}
use Rattle.line_details.specs.Certificate.{Spans, AllSpans, IsPlaced, ArePlaced, HasRoomBy, LineHasRoomBy, IsCertificate, CertificatesDecide}
use Rattle.line_details.proofs.Detailed.{place_of_line, step_there}
use Rattle.line_details.proofs.Picked.{pick}
use Rattle.line_details.proofs.Solved.{certified_details}
use Rattle.line_details.proofs.Spread.{Span, IsBetween, span_at, own_at, inner_at, root_at}
use Rattle.line_details.proofs.Timely.{slot_before}

-- ## Steps in their gaps

-- a gap of the node at a position: a step's slot, or else the one that is given
abbrev narrowed : Option Node → ℕ → ℕ → ℕ
narrowed None slot x = x
narrowed (Some (leaf g)) slot x = x
narrowed (Some (step literals)) slot x = slot
narrowed (Some (compound t number nodes)) slot x = x

-- it is no earlier than the start, and no later than the finish
record IsNarrowed (o : Option Node) (slot x y : ℕ) : Type 0 where
  low : x ≤ narrowed o slot x
  forward : narrowed o slot x ≤ narrowed o slot y
  high : narrowed o slot y ≤ y

-- where the node sits between them
narrow : (problem : Problem) (states : ℕ → State) (slots : Slots) (nodes : Nodes) (start finish : ℕ → ℕ) → AllSit problem states slots 0 nodes start finish
    → (a : ℕ) → start a ≤ finish a → IsNarrowed (child_at nodes a) (slots (a ∷ [])) (start a) (finish a)
narrow problem states slots nodes start finish sit a forward = by (child_at nodes a) refl
  where
    by : (o : Option Node) → child_at nodes a ≡ o → IsNarrowed o (slots (a ∷ [])) (start a) (finish a)
    by None e = record { low = omega arith; forward = forward; high = omega arith }
    by (Some (leaf g)) e = record { low = omega arith; forward = forward; high = omega arith }
    by (Some (step literals)) e =
        let sits = sits_child problem states slots nodes start finish a (step literals) sit e in
        record { low = sits.0; forward = omega arith; high = sits.1 }
    by (Some (compound t number nodes)) e = record { low = omega arith; forward = forward; high = omega arith }

-- a compound node has an id
compound_id : (o : Option Node) → IsCompound o → HasId o
compound_id None h = absurd h
compound_id (Some (leaf g)) h = absurd h
compound_id (Some (step literals)) h = absurd h
compound_id (Some (compound t number nodes)) h = tt

module _ (naming : Naming) (problem : Problem) (file : PlanFile) (states : ℕ → State) (trees : Nodes) (id_at : Place → ℕ) (slots : Slots)
    (leaf_line : (p : Place) (g : GroundTask) → node_at trees p ≡ Some (leaf g)
    → (line : ActionLine) × (slice_get file.actions (slots p) ≡ Some line) × (line.id ≡ id_at p) × (naming.named line.name line.arguments ≡ Some g))
    (compound_line : (p : Place) → IsCompound (node_at trees p) → (line : DecompositionLine) × IsIn line file.decompositions × IsDecompositionLine naming trees id_at p line)
    (start finish : ℕ → ℕ) (all : AllSit problem states slots 0 trees start finish) where
  -- the span of a place
  abbrev span_of : Place → Span
  span_of = span_at problem states trees slots start finish all

  -- the id of the child at a position
  abbrev child_id : Place → ℕ → ℕ
  child_id p a = id_at (p ++ a ∷ [])

  -- the spans of a node with this span, its steps in their gaps
  abbrev spans_by : Span → Place → Nodes → List ℕ → Spans
  spans_by span p nodes positions = record {
    from = span.from;
    to = span.to;
    positions = positions;
    start = λ a. narrowed (child_at nodes a) (slots (p ++ a ∷ [])) (span.start a);
    finish = λ a. narrowed (child_at nodes a) (slots (p ++ a ∷ [])) (span.finish a);
  }

  -- the children of a place, or the roots, with their spans
  record AreSpread (p : Place) (nodes : Nodes) (span : Span) (network : Network) : Type 0 where
    finds : (a : ℕ) → node_at trees (p ++ a ∷ []) ≡ child_at nodes a
    are_roots : roots nodes ≡ network.children
    spans : AreSpans network.order span.start span.finish span.from span.to
    sit : AllSit problem states (λ r. slots (p ++ r)) 0 nodes span.start span.finish
    inner : (a : ℕ) (c : Node) → child_at nodes a ≡ Some c → IsCompound (Some c) → IsBetween problem states (span_of (p ++ a ∷ [])) (span.start a) (span.finish a)

  module _ (details : Details) (all_spans : AllSpans)
      (known : (q : Place) → IsCompound (node_at trees q) → ((all_spans.line (id_at q)).from ≡ (span_of q).from) × ((all_spans.line (id_at q)).to ≡ (span_of q).to)) where
    -- a line is placed as the child at a position
    abbrev PlacedAt : List Child → Spans → ℕ → ℕ → Type 0
    PlacedAt children l id a = (child : Child) × (slice_get children a ≡ Some child) × IsPlaced naming problem file states details all_spans child id (l.start a) (l.finish a)

    -- the line of a child is
    child_placed : (p : Place) (nodes : Nodes) (span : Span) (network : Network) (positions : List ℕ) → AreSpread p nodes span network → (a : ℕ) → HasId (child_at nodes a)
        → PlacedAt network.children (spans_by span p nodes positions) (child_id p a) a
    child_placed p nodes span network positions s a h = by (child_at nodes a) refl h
      where
        by : (o : Option Node) → child_at nodes a ≡ o → HasId o → PlacedAt network.children (spans_by span p nodes positions) (child_id p a) a
        by None e h = absurd h
        by (Some (leaf g)) e h =
            let (line, stands, is, named) = leaf_line (p ++ a ∷ []) g (s.finds a ∙ e) in
            let (low, high) = sits_child problem states (λ r. slots (p ++ r)) nodes span.start span.finish a (leaf g) s.sit e in
            let first = ap (λ o. narrowed o (slots (p ++ a ∷ [])) (span.start a)) e in
            let last = ap (λ o. narrowed o (slots (p ++ a ∷ [])) (span.finish a)) e in (
              action g,
              subst (λ cs. slice_get cs a ≡ Some (action g)) s.are_roots (root_of_child nodes a (leaf g) e),
              (slots (p ++ a ∷ []), line, stands, is, named, omega arith, omega arith),
            )
        by (Some (step literals)) e h = absurd h
        by (Some (compound t number ns)) e h =
            let compound_there : IsCompound (node_at trees (p ++ a ∷ [])) = subst IsCompound (sym (s.finds a ∙ e)) tt in
            let (line, listed, is) = compound_line (p ++ a ∷ []) compound_there in
            let both : Some (compound t number ns) ≡ Some (compound is.task is.number is.nodes) = sym (s.finds a ∙ e) ∙ is.stands in
            let same : is.task ≡ t = cc in
            let between = s.inner a (compound t number ns) e tt in
            let from = between.from in
            let to = between.to in
            let (own_from, own_to) = known (p ++ a ∷ []) compound_there in
            let first = ap (λ o. narrowed o (slots (p ++ a ∷ [])) (span.start a)) e in
            let last = ap (λ o. narrowed o (slots (p ++ a ∷ [])) (span.finish a)) e in (
              task t,
              subst (λ cs. slice_get cs a ≡ Some (task t)) s.are_roots (root_of_child nodes a (compound t number ns) e),
              (line, listed, is.id, is.named ∙ ap Some same, omega arith, omega arith),
            )

    -- so are lines at all positions
    all_placed : (children : List Child) (l : Spans) (f : ℕ → ℕ) (positions ids : List ℕ) → ids ≡ map f positions → ((a : ℕ) → IsIn a positions → PlacedAt children l (f a) a)
        → ArePlaced naming problem file states details all_spans children l positions ids
    all_placed children l f [] [] e each = refl
    all_placed children l f [] (id ∷ ids) e each = absurd cc
    all_placed children l f (a ∷ positions) [] e each = absurd cc
    all_placed children l f (a ∷ positions) (id ∷ ids) e each =
        let heads : f a ≡ id = cc in
        let tails : ids ≡ map f positions = cc in
        (subst (λ k. PlacedAt children l k a) heads (each a (inl refl)), all_placed children l f positions ids tails (λ b i. each b (inr i)))

    -- the children of a place have room by these
    has_room_by : (p : Place) (nodes : Nodes) (span : Span) (network : Network) (positions ids : List ℕ) → AreSpread p nodes span network
        → ids ≡ map (child_id p) positions → IsRearrangementOf positions (subtask_positions 0 (roots nodes))
        → HasRoomBy naming problem file states details all_spans network ids (spans_by span p nodes positions)
    has_room_by p nodes span network positions ids s listed arranged =
        let fits : (a : ℕ) → IsNarrowed (child_at nodes a) (slots (p ++ a ∷ [])) (span.start a) (span.finish a) = λ a. narrow problem states (λ r. slots (p ++ r)) nodes span.start span.finish s.sit a (s.spans.forward a) in
        let l = spans_by span p nodes positions in
        record {
          each_once = subst (λ cs. IsRearrangementOf positions (subtask_positions 0 cs)) s.are_roots arranged;
          children = all_placed network.children l (child_id p) positions ids listed (λ a i. child_placed p nodes span network positions s a (has_id_at nodes a (in_rearranged a positions _ arranged i)));
          spans = record {
            from = λ a. (let from = s.spans.from a in let low = (fits a).low in omega arith);
            to = λ a. (let to = s.spans.to a in let high = (fits a).high in omega arith);
            forward = λ a. (fits a).forward;
            ordered = λ a b e. (let order = s.spans.ordered a b e in let high = (fits a).high in let low = (fits b).low in omega arith);
          };
          steps = λ a literals e.
              let child = step_there nodes a literals (ap (λ cs. slice_get cs a) s.are_roots ∙ e) in
              let sits = sits_child problem states (λ r. slots (p ++ r)) nodes span.start span.finish a (step literals) s.sit child in
              let first : l.start a ≡ slots (p ++ a ∷ []) = ap (λ o. narrowed o (slots (p ++ a ∷ [])) (span.start a)) child in
              let last : l.finish a ≡ slots (p ++ a ∷ []) = ap (λ o. narrowed o (slots (p ++ a ∷ [])) (span.finish a)) child in
              (first ∙ sym last, subst (λ k. holds (states k) literals ≡ true) (sym first) sits.2);
        }

  -- ## The all_spans of lines

  -- the spans of a line are those of its node
  record AreSpansOf (line : DecompositionLine) (l : Spans) : Type 0 where
    place : Place
    is : IsDecompositionLine naming trees id_at place line
    positions : List ℕ
    ids : line.children ≡ map (child_id place) positions
    arranged : IsRearrangementOf positions (subtask_positions 0 (roots is.nodes))
    are : l ≡ spans_by (span_of place) place is.nodes positions

  -- the node of a line gives it one
  spans_of_place : (line : DecompositionLine) (p : Place) → IsDecompositionLine naming trees id_at p line → (l : Spans) × AreSpansOf line l
  spans_of_place line p is =
      let (positions, ids, arranged) = unmapped (child_id p) line.children (subtask_positions 0 (roots is.nodes))
      (subst (IsRearrangementOf line.children) (shown_ids id_at p 0 is.nodes) is.children) in
      (spans_by (span_of p) p is.nodes positions, record { place = p; is = is; positions = positions; ids = ids; arranged = arranged; are = refl })

-- ## The certificate

module _ (naming : Naming) (problem : Problem) (file : PlanFile) (states : ℕ → State) (details : Details) (is_forest : IsForest file)
    (runs : LinesRun naming problem file states) (of_file : AreDetails naming problem file details)
    (start finish : ℕ → ℕ) (spans : AreSpans of_file.solves.network.order start finish 0 (length file.actions))
    (all : AllSit problem states (slot_in of_file.solution.trees 0 of_file.solution.linearisation) 0 of_file.solution.trees start finish) where
  -- the trees of the solution
  abbrev trees : Nodes
  trees = of_file.solution.trees

  -- the places of its leaves and steps in sequence
  abbrev list : List Place
  list = of_file.solution.linearisation

  -- a leaf's place among the action lines, a step's gap
  abbrev slots : Slots
  slots = slot_in trees 0 list

  -- the id of a node
  abbrev id_at : Place → ℕ
  id_at = of_file.shadow.id_at

  -- the line of a leaf
  leaf_line : (p : Place) (g : GroundTask) → node_at trees p ≡ Some (leaf g)
      → (line : ActionLine) × (slice_get file.actions (slots p) ≡ Some line) × (line.id ≡ id_at p) × (naming.named line.name line.arguments ≡ Some g)
  leaf_line p g e =
      let from : (k : ℕ) → slice_get file.actions k ≡ slice_get file.actions (0 + k) = λ k. ap (slice_get file.actions) (let w : k ≡ 0 + k = omega arith in w) in
      let there = in_arranged p list _ of_file.solves.is_rearrangement (in_primitives trees p (subst IsPrimitive (sym e) tt)) in
      let l = line_of_leaf naming problem file states runs trees id_at list file.actions of_file.shadow.actions 0 from p g there e in
      (l.line, l.stands, l.is, l.named)

  -- the line of a compound node
  compound_line : (p : Place) → IsCompound (node_at trees p) → (line : DecompositionLine) × IsIn line file.decompositions × IsDecompositionLine naming trees id_at p line
  compound_line p h = compound_has_line naming trees id_at (compounds_from [] 0 trees) file.decompositions of_file.shadow.decompositions p (in_compounds trees p h)

  -- spans are those of a line
  abbrev IsOf : DecompositionLine → Spans → Type 0
  IsOf = AreSpansOf naming problem file states trees id_at slots leaf_line compound_line start finish all

  -- the span of a place
  abbrev span_there : Place → Span
  span_there = span_at problem states trees slots start finish all

  -- each line has some
  each_spans : (line : DecompositionLine) → IsIn line file.decompositions → (l : Spans) × IsOf line l
  each_spans line i =
      let (p, is) = place_of_line naming trees id_at (compounds_from [] 0 trees) file.decompositions of_file.shadow.decompositions line i in
      spans_of_place naming problem file states trees id_at slots leaf_line compound_line start finish all line p is

  -- by the lines' ids
  spans_by_id : (f : ℕ → Spans) × ((line : DecompositionLine) → IsIn line file.decompositions → IsOf line (f line.id))
  spans_by_id = pick IsOf (record { from = 0; to = 0; positions = []; start = λ a. 0; finish = λ a. 0 }) file.decompositions (decompositions_distinct file is_forest) each_spans

  -- the span of the roots
  abbrev whole : Span
  whole = record { from = 0; to = length file.actions; start = start; finish = finish }

  -- their positions
  root_positions : (positions : List ℕ) × (file.roots ≡ map (λ a. id_at ([] ++ a ∷ [])) positions) × IsRearrangementOf positions (subtask_positions 0 (roots trees))
  root_positions = unmapped (λ a. id_at ([] ++ a ∷ [])) file.roots (subtask_positions 0 (roots trees))
      (subst (IsRearrangementOf file.roots) (shown_ids id_at [] 0 trees) of_file.shadow.roots)

  -- all all_spans
  abbrev all_spans : AllSpans
  all_spans = record {
    root = spans_by naming problem file states trees id_at slots leaf_line compound_line start finish all whole [] trees root_positions.0;
    line = spans_by_id.0;
  }

  -- a compound node's line has its span
  known : (q : Place) → IsCompound (node_at trees q) → ((all_spans.line (id_at q)).from ≡ (span_there q).from) × ((all_spans.line (id_at q)).to ≡ (span_there q).to)
  known q h =
      let (line, listed, is) = compound_line q h in
      let g = spans_by_id.1 line listed in
      let same : g.place ≡ q = of_file.shadow.one_to_one g.place q (subst HasId (sym g.is.stands) tt) (compound_id (node_at trees q) h) (sym g.is.id ∙ is.id) in (
        ap (λ id. (all_spans.line id).from) (sym is.id) ∙ ap (λ l. l.from) g.are ∙ ap (λ r. (span_there r).from) same,
        ap (λ id. (all_spans.line id).to) (sym is.id) ∙ ap (λ l. l.to) g.are ∙ ap (λ r. (span_there r).to) same,
      )

  -- the roots have room in the whole plan
  roots_have_room : HasRoomBy naming problem file states details all_spans of_file.solves.network file.roots all_spans.root
  roots_have_room =
      has_room_by naming problem file states trees id_at slots leaf_line compound_line start finish all details all_spans known [] trees whole of_file.solves.network root_positions.0 file.roots
      (record {
        finds = λ a. refl;
        are_roots = of_file.solves.are_roots;
        spans = spans;
        sit = all;
        inner = λ a c e h. root_at problem states trees slots start finish all a c e h;
      })
      root_positions.1 root_positions.2

  -- and each line in its node's span
  line_has_room : (line : DecompositionLine) → IsIn line file.decompositions → LineHasRoomBy naming problem file states details all_spans line
  line_has_room line i =
      let g = spans_by_id.1 line i in
      let p = g.place in
      let is = g.is in
      let m : Node = compound is.task is.number is.nodes in
      let (network, there, children, below) = tree_of_place problem trees p m of_file.solves.are_trees is.stands in
      let own = own_at problem states trees slots start finish all p m is.stands tt in
      let here = of_file.each p is.task is.number is.nodes is.stands in
      let number : details.number line.id ≡ is.number = ap details.number is.id ∙ here.number in
      record {
        t = is.task;
        network = network;
        named = is.named;
        is_instance = ap (slice_get (problem.methods_of is.task)) number ∙ there;
        method = is.method ∙ ap (naming.method_name is.task) (sym number);
        children = subst (HasRoomBy naming problem file states details all_spans network line.children) (sym g.are)
            (has_room_by naming problem file states trees id_at slots leaf_line compound_line start finish all details all_spans known p is.nodes (span_there p) network g.positions line.children
            (record {
              finds = λ a. at_child trees p is.task is.number is.nodes a is.stands;
              are_roots = children;
              spans = subst (λ o. AreSpans o (span_there p).start (span_there p).finish (span_there p).from (span_there p).to) (ap order_of_network there) own.spans;
              sit = own.sit;
              inner = λ a c e h. inner_at problem states trees slots start finish all p m a c is.stands e tt h;
            })
            g.ids g.arranged);
        gaps = λ a literals e.
            let child = step_there is.nodes a literals (ap (λ cs. slice_get cs a) children ∙ e) in
            let gap : details.gap line.id a ≡ actions_before trees list (p ++ a ∷ []) = ap (λ id. details.gap id a) is.id ∙ here.gap a literals child in
            let counted : slots (p ++ a ∷ []) ≡ 0 + actions_before trees list (p ++ a ∷ []) = slot_before trees 0 list (p ++ a ∷ []) in
            let starts : (all_spans.line line.id).start a ≡ slots (p ++ a ∷ []) =
            ap (λ l. l.start a) g.are ∙ ap (λ o. narrowed o (slots (p ++ a ∷ [])) ((span_there p).start a)) child in
            omega arith;
      }

  -- so they are a certificate
  certificate : IsCertificate naming problem file states details all_spans
  certificate = record {
    network = of_file.solves.network;
    is_initial = ap (slice_get problem.initials) of_file.initial ∙ of_file.solves.is_initial;
    whole = omega arith;
    roots = roots_have_room;
    lines = line_has_room;
  }

  -- there is one
  certified : (all_spans : AllSpans) × IsCertificate naming problem file states details all_spans
  certified = (all_spans, certificate)

-- details of a solution have one
details_certified : (naming : Naming) (problem : Problem) → IsGrounded problem → (file : PlanFile) (states : ℕ → State) (details : Details)
    → IsForest file → LinesRun naming problem file states → AreDetails naming problem file details
    → (all_spans : AllSpans) × IsCertificate naming problem file states details all_spans
details_certified naming problem grounded file states details is_forest runs of_file =
    let s = of_file.solution in
    let solves = of_file.solves in
    let shadow = of_file.shadow in
    let respects : Respects (before problem solves.network.order s.trees) s.linearisation =
    subst (λ o. Respects (before problem o s.trees) s.linearisation) (ap order_of_network solves.is_initial) solves.respects in
    let keeps = list_keeps naming problem file states runs s.trees shadow.id_at solves.network.order s.linearisation solves.reaches_goal.0 solves.is_rearrangement respects shadow.actions
    (subst (λ x. run problem s.trees x s.linearisation ≡ Some solves.reaches_goal.0) (sym runs.starts) solves.reaches_goal.1) in
    let (start, finish, spans, all) = (networks_decouple problem grounded).sits states (slot_in s.trees 0 s.linearisation) solves.network.order s.trees (length file.actions)
    (grounded.initials s.number solves.network solves.is_initial).closed keeps in
    certified naming problem file states details is_forest runs of_file start finish spans all

-- so certificates decide
pub certificates_decide : (naming : Naming) (problem : Problem) → IsGrounded problem → CertificatesDecide naming problem
certificates_decide naming problem grounded file states details is_forest runs = (
  (λ c. certified_details naming problem grounded file states details c.0 is_forest runs c.1),
  (λ all. details_certified naming problem grounded file states details is_forest runs all),
)
