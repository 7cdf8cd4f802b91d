-- Entries by which all lines have room, each with an instance of its line's method, are those of details of the file.
use Rattle.std.proofs.Common.{◌≡◌, ℕ, zero, suc, ◌+◌, ◌-◌, ◌≤◌, ◌<◌, inl, inr, cond, List, [], ◌∷◌, length, map, get_or, Some, slice_get, option_map, refl, sym, ap, ◌∙◌, subst, arith}
use Rattle.std.proofs.lemmas.Bool.{cases_lt, le-ltb}
use Rattle.std.proofs.lemmas.List.{get_or-map, nil_from_length}
use Rattle.std.proofs.lemmas.Option.{slice_get-get_or, slice_get-map, slice_get_within}
use Rattle.htn_ground.specs.Naming.{naming_of}
use Rattle.htn_model.specs.Fits.{child_of}
use Rattle.htn_model.specs.Grounding.{problem_of}
use Rattle.htn_model.specs.Instance.{Instance}
use Rattle.htn_model.specs.Instances.{initials, methods_of}
use Rattle.htn_model.specs.PlanFile.{DecompositionLine, IsIn, PlanFile, decomposition_ids, defined_ids}
use Rattle.htn_model.specs.Problem.{Child, GroundTask, IsGrounded, precondition}
use Rattle.htn_model.specs.Shown.{LinesRun}
use Rattle.htn_model.specs.State.{State}
use Rattle.htn_model.specs.Task.{Task}
use Rattle.htn_model.proofs.Ascending.{at_in, in_at}
use Rattle.htn_model.proofs.Marked.{decompositions_distinct}
use Rattle.line_details.specs.Certificate.{AllSpans, ArePlaced, HasRoomBy, IsCertificate, IsPlaced, LineHasRoomBy, Spans}
use Rattle.line_details.specs.Details.{Details}
use Rattle.line_details.proofs.Decided.{certificates_decide}
use Rattle.line_details.proofs.Picked.{pick}
use Rattle.plan_text.specs.Forest.{Forest, IsForestOf}
use Rattle.plan_text.specs.Numbers.{AreNumbersOf}
use Rattle.plan_text.specs.Plans.{AreTasks, AreTrees}
use Rattle.plan_text.specs.Reached.{children_at}
use Rattle.plan_text.proofs.Listed.{action_id_at, children_numbers, decomposition_id_at, line_there, one_number, past_actions}
use Rattle.plan_text.proofs.Bridged.{line_count}
use Rattle.plan_text.proofs.Planting.{forests_are_trees}
use Rattle.plan_room.specs.Lines.{AreLines, Lines, task_of}
use Rattle.line_details.specs.Entries.{AllHaveRoom, HasRoomIn, IsPlacedIn, IsSeatedAt, no_spans, spans_of}
use Rattle.line_details.specs.Found.{AreFound, AreLinesOf, HaveInstances, IsNumbered, forest_lines}
use Rattle.line_details.specs.declared.entry.Entry.{Entry}
use Rattle.line_details.proofs.Seen.{one_value}

-- an item stands at each place below the count
item_there : {X : Type 0} (xs : List X) (k : ℕ) → k < length xs → (x : X) × (slice_get xs k ≡ Some x)
item_there [] k h = absurd (omega arith)
item_there (x ∷ xs) zero h = (x, refl)
item_there (x ∷ xs) (suc k) h = item_there xs k (omega arith)

-- the spans of the entry at a place
spans_there : (entries : List Entry) (k : ℕ) (e : Entry) → slice_get entries k ≡ Some e → get_or (map spans_of entries) k no_spans ≡ spans_of e
spans_there entries k e at =
    let low = slice_get_within entries k e at in
    get_or-map spans_of entries k e no_spans low ∙ ap spans_of (one_value (slice_get entries k) (get_or entries k e) e (slice_get-get_or entries k e low) at)

module _ (t : Task) (file : PlanFile) (forest : Forest) (task_at : ℕ → GroundTask) (states : ℕ → State) (is : IsForestOf file forest) (named : AreTasks (naming_of t) file task_at)
    (root : Entry) (entries : List Entry) where
  -- the file's lines
  abbrev l : Lines
  l = forest_lines (naming_of t) (problem_of t) file forest task_at states

  -- how many action lines there are
  abbrev actions : ℕ
  actions = length file.actions

  -- their trees
  trees : AreTrees (naming_of t) file forest task_at
  trees = forests_are_trees (naming_of t) file forest task_at is named

  -- an entry and a number are those of a line
  abbrev AreOf : DecompositionLine → Entry × ℕ → Type 0
  AreOf line f = (j : ℕ) → slice_get file.decompositions j ≡ Some line → (slice_get entries j ≡ Some f.0) × IsNumbered t (task_at (actions + j)) line.method f.1 f.0.instance

  module _ (initial : ℕ) (f : ℕ → Entry × ℕ) (of : (line : DecompositionLine) → IsIn line file.decompositions → AreOf line (f line.id)) where
    -- the details
    abbrev details : Details
    details = record { initial = initial; number = λ id. (f id).1; gap = λ id a. (spans_of (f id).0).start a }

    -- the spans of all lines
    abbrev all_spans : AllSpans
    all_spans = record { root = spans_of root; line = λ id. spans_of (f id).0 }

    -- lines are placed by these
    abbrev Placed : Child → ℕ → ℕ → ℕ → Type 0
    Placed = IsPlaced (naming_of t) (problem_of t) file states details all_spans

    -- an action line is placed where it stands
    action_placed : (c id g h : ℕ) → c < actions → slice_get (defined_ids file) c ≡ Some id → IsPlacedIn l entries c g h → Placed (child_of (l.plan_of c)) id g h
    action_placed c id g h low at placed =
        let (line, there) = item_there file.actions c low in
        let here = action_id_at file.actions (decomposition_ids file.decompositions) c line there in
        let within = placed.0 low in
        subst (λ p. Placed (child_of p) id g h) (sym (trees.action c low))
        (c, line, there, one_value (slice_get (defined_ids file) c) line.id id here at, named.actions c line there, within.0, within.1)

    -- a decomposition line is placed as its entry says
    task_placed : (c id g h : ℕ) → actions ≤ c → c < l.count → slice_get (defined_ids file) c ≡ Some id → IsPlacedIn l entries c g h → Placed (child_of (l.plan_of c)) id g h
    task_placed c id g h high low at placed =
        let (line, there) = line_there file.decompositions (c - actions) (omega arith) in
        let whole : actions + (c - actions) ≡ c = omega arith in
        let here = past_actions file.actions (decomposition_ids file.decompositions) (c - actions) ∙ decomposition_id_at file.decompositions (c - actions) line there in
        let id_is : line.id ≡ id = one_value (slice_get (defined_ids file) c) line.id id (subst (λ k. slice_get (defined_ids file) k ≡ Some line.id) whole here) at in
        let listed = at_in line file.decompositions (c - actions) there in
        let s = spans_there entries (c - actions) (f line.id).0 (of line listed (c - actions) there).0 ∙ ap (λ k. spans_of (f k).0) id_is in
        let within = placed.1 high in
        subst (λ p. Placed (child_of p) id g h) (sym (trees.decomposition c high low)) (
          line,
          listed,
          id_is,
          subst (λ k. (naming_of t).named line.task line.arguments ≡ Some (task_at k)) whole (named.decompositions (c - actions) line there),
          subst (λ x. g ≤ x.from) s within.0,
          subst (λ x. x.to ≤ h) s within.1,
        )

    -- either is
    line_placed : (c id g h : ℕ) → slice_get (defined_ids file) c ≡ Some id → IsPlacedIn l entries c g h → Placed (child_of (l.plan_of c)) id g h
    line_placed c id g h at placed = elim (cases_lt c actions) [
      | inl low ↦ action_placed c id g h low at placed
      | inr high ↦ (let within = slice_get_within (defined_ids file) c id at in let all = line_count file in task_placed c id g h high (omega arith) at placed)
    ]

    -- so are all children
    all_placed : (nodes : List Child) (s : Spans) (positions numbers ids : List ℕ) → AreNumbersOf (defined_ids file) numbers ids → length positions ≡ length numbers
        → ((k : ℕ) → k < length numbers → IsSeatedAt l entries nodes s (get_or positions k 0) (get_or numbers k 0))
        → ArePlaced (naming_of t) (problem_of t) file states details all_spans nodes s positions ids
    all_placed nodes s positions [] [] are many each = nil_from_length positions many
    all_placed nodes s positions (n ∷ numbers) [] are many each = absurd cc
    all_placed nodes s positions [] (id ∷ ids) are many each = absurd cc
    all_placed nodes s [] (n ∷ numbers) (id ∷ ids) are many each = absurd (omega arith)
    all_placed nodes s (a ∷ positions) (n ∷ numbers) (id ∷ ids) are many each =
        let head : slice_get (defined_ids file) n ≡ Some id = cc in
        let tail : AreNumbersOf (defined_ids file) numbers ids = cc in
        let (at, placed) = each 0 (omega arith) in (
          (child_of (l.plan_of n), at, line_placed n id (s.start a) (s.finish a) head placed),
          all_placed nodes s positions numbers ids tail (omega arith) (λ k low. each (suc k) (omega arith)),
        )

    -- children that have room by an entry have it by its spans
    room_by : (e : Entry) (numbers ids : List ℕ) → AreNumbersOf (defined_ids file) numbers ids → HasRoomIn l entries e numbers
        → HasRoomBy (naming_of t) (problem_of t) file states details all_spans e.instance.network ids (spans_of e)
    room_by e numbers ids are r = record {
      each_once = r.each_once;
      children = all_placed e.instance.network.children (spans_of e) e.positions.items numbers ids are r.children.many r.children.each;
      spans = r.spans;
      steps = λ a literals at. r.steps a (precondition literals) at;
    }

    -- the numbers of a line's children
    children_are : (j : ℕ) (line : DecompositionLine) → slice_get file.decompositions j ≡ Some line → AreNumbersOf (defined_ids file) (l.children (actions + j)) line.children
    children_are j line at =
        let high : actions ≤ actions + j = omega arith in
        let off : actions + j - actions ≡ j = omega arith in
        let same : children_at actions forest.children (actions + j) ≡ get_or forest.children j [] =
        ap (λ b. cond b [] (get_or forest.children (actions + j - actions) [])) (le-ltb (actions + j) actions high) ∙ ap (λ k. get_or forest.children k []) off in
        subst (λ xs. AreNumbersOf (defined_ids file) xs line.children) (sym same) (children_numbers (defined_ids file) forest.children file.decompositions is.children j line at)

    -- a line has room by its entry
    line_has_room : AllHaveRoom l root entries → (line : DecompositionLine) → IsIn line file.decompositions
        → LineHasRoomBy (naming_of t) (problem_of t) file states details all_spans line
    line_has_room all line listed =
        let (j, at) = in_at line file.decompositions listed in
        let (there, numbered) = of line listed j at in
        let e = (f line.id).0 in
        record {
          t = task_at (actions + j);
          network = e.instance.network;
          named = named.decompositions j line at;
          is_instance =
              slice_get-map (λ (i : Instance). i.network) (methods_of t (task_at (actions + j))) (f line.id).1 ∙ ap (option_map (λ (i : Instance). i.network)) numbered.0;
          method = numbered.1;
          children = room_by e (l.children (actions + j)) line.children (children_are j line at) (all.lines j e there);
          gaps = λ a literals h. refl;
        }

    -- so the entries are a certificate
    certificate : slice_get (initials t) initial ≡ Some root.instance → AllHaveRoom l root entries
        → IsCertificate (naming_of t) (problem_of t) file states details all_spans
    certificate first all = record {
      network = root.instance.network;
      is_initial = slice_get-map (λ (i : Instance). i.network) (initials t) initial ∙ ap (option_map (λ (i : Instance). i.network)) first;
      whole = all.whole;
      roots = room_by root forest.roots file.roots is.roots all.roots;
      lines = line_has_room all;
    }

    -- of details of the file
    found : IsGrounded (problem_of t) → LinesRun (naming_of t) (problem_of t) file states → slice_get (initials t) initial ≡ Some root.instance → AllHaveRoom l root entries
        → AreFound t file root entries
    found grounded runs first all = record {
      details = details;
      are = (certificates_decide (naming_of t) (problem_of t) grounded file states details is.is_forest runs).0 (all_spans, certificate first all);
      initial = first;
      many = (let many = all.many in omega arith);
      each = λ j line e at there.
          (let (mine, numbered) = of line (at_in line file.decompositions j at) j at in
          let same : (f line.id).0 ≡ e = one_value (slice_get entries j) (f line.id).0 e mine there in
          record {
            g = task_at (actions + j);
            named = named.decompositions j line at;
            instance = subst (λ x. IsNumbered t (task_at (actions + j)) line.method (f line.id).1 x.instance) same numbered;
            gaps = λ a literals h. ap (λ x. (spans_of x).start a) same;
          });
    }

  -- the entries' instances are those of the lines' methods
  abbrev AreInstances : Type 0
  AreInstances = (j : ℕ) (line : DecompositionLine) (e : Entry) → slice_get file.decompositions j ≡ Some line → slice_get entries j ≡ Some e
      → (n : ℕ) × IsNumbered t (task_at (actions + j)) line.method n e.instance

  -- each line has an entry with a number
  line_entry : length entries ≡ length file.decompositions → AreInstances → (line : DecompositionLine) → IsIn line file.decompositions → (y : Entry × ℕ) × AreOf line y
  line_entry many instances line listed =
      let (j, at) = in_at line file.decompositions listed in
      let low = slice_get_within file.decompositions j line at in
      let (e, there) = item_there entries j (omega arith) in
      let (n, numbered) = instances j line e at there in (
        (e, n),
        λ k other.
            let same : j ≡ k = one_number (decomposition_ids file.decompositions) (decompositions_distinct file is.is_forest) j k line.id
            (decomposition_id_at file.decompositions j line at) (decomposition_id_at file.decompositions k line other) in
            subst (λ m. (slice_get entries m ≡ Some e) × IsNumbered t (task_at (actions + m)) line.method n e.instance) same (there, numbered),
      )

  -- where they are so by the lines' trees they are so by their tasks
  by_tasks : HaveInstances t l file.decompositions entries → AreInstances
  by_tasks have j line e at there =
      let (n, numbered) = have j line e at there in
      let low = slice_get_within file.decompositions j line at in
      let tree = trees.decomposition (actions + j) (omega arith) (omega arith) in
      (n, subst (λ g. IsNumbered t g line.method n e.instance) (ap task_of tree) numbered)

  -- so entries by which all lines have room are found
  pub entries_are_found : IsGrounded (problem_of t) → LinesRun (naming_of t) (problem_of t) file states → (initial : ℕ) → slice_get (initials t) initial ≡ Some root.instance
      → HaveInstances t l file.decompositions entries → AllHaveRoom l root entries → AreFound t file root entries
  entries_are_found grounded runs initial first instances all =
      let many : length entries ≡ length file.decompositions = let m = all.many in omega arith in
      let (f, of) = pick AreOf (root, 0) file.decompositions (decompositions_distinct file is.is_forest) (line_entry many (by_tasks instances)) in
      found initial f of grounded runs first all

-- so they are where the lines are those of the file
pub certified : (t : Task) (file : PlanFile) (l : Lines) (root : Entry) (entries : List Entry) → AreLines l → AreLinesOf t file l
    → (initial : ℕ) × (slice_get (initials t) initial ≡ Some root.instance) → HaveInstances t l file.decompositions entries → AllHaveRoom l root entries
    → AreFound t file root entries
certified t file l root entries lines of (initial, first) instances all =
    entries_are_found t file of.forest of.task_at l.states of.is_forest of.named root entries (subst (λ x. IsGrounded x.problem) of.are lines.grounded) of.runs initial first
    (subst (λ x. HaveInstances t x file.decompositions entries) of.are instances) (subst (λ x. AllHaveRoom x root entries) of.are all)
