-- Numbers that are checked have an admissible bound that is no less than their values.
use Rattle.std.proofs.Common.{◌≡◌, ℕ, ◌≤◌, Bool, true, List, map, sym, ap, ◌∙◌, arith}
use Rattle.std.specs.List.{sum_by}
use Rattle.std.proofs.lemmas.Simd.{map-map}
use Rattle.htn_model.specs.Grounding.{problem_of}
use Rattle.htn_model.specs.Problem.{Child, Network}
use Rattle.htn_model.specs.State.{State}
use Rattle.htn_model.specs.Task.{Task}
use Rattle.htn_calls.specs.Calls.{Rules, Table}
use Rattle.htn_calls.specs.Numbered.{IsNumbering}
use Rattle.htn_calls.specs.Series.{opened}
use Rattle.htn_calls.specs.Bounds.{is_goal}
use Rattle.htn_calls.proofs.Numbered.{numbers_close}
use Rattle.htn_calls.specs.Ordered.{ordered, lone}
use Rattle.call_rules.specs.Lone.{lone_rules}
use Rattle.call_rules.specs.Bounds.{IsKept, IsStepSize, size_sum, IsSound, estimate_by}
use Rattle.call_rules.specs.Tables.{table_of}
use Rattle.call_rules.specs.Numbers.{AreNumbersChecked, bound_by_numbers, HaveBound}
use Rattle.call_rules.proofs.Lone.{lone_are_nodes}
use Rattle.call_rules.proofs.Tables.{tables_stand}
use Rattle.call_rules.proofs.Values.{values_are_below, numbers_are_below}
use Rattle.call_rules.proofs.Within.{sizes_are_bounds, closed_are_checked, bounds_are_below, bounds_of_ordered}

module _ (t : Task) (passes : State → Bool) (size : Child → ℕ) (state : ℕ → State) (node : ℕ → Child)
    (numbers : Rules ℕ ℕ) (listing : Table ℕ ℕ) (sites : List (ℕ × ℕ)) (total : List ℕ → ℕ) (cap : ℕ)
    (value : List ℕ → ℕ → ℕ)
    (checked : AreNumbersChecked t passes size state node numbers listing sites total cap value) where
  -- the block of a number, and the table of what the numbers stand for
  abbrev block : ℕ → Network
  block j = lone (node j)

  abbrev table : Table State Network
  table = table_of state block listing sites

  -- blocks by number are nodes, each alone
  blocks_are : (blocks : List ℕ) → map block blocks ≡ map lone (map node blocks)
  blocks_are blocks = sym (map-map lone node blocks)

  -- their nodes have at least the sizes that are counted
  counted : (blocks : List ℕ) → total blocks ≤ size_sum size (map block blocks)
  counted blocks =
      let same : size_sum size (map block blocks) ≡ sum_by size (map node blocks) =
      ap (size_sum size) (blocks_are blocks) ∙ (bounds_of_ordered t).size size (map node blocks) in
      let least = checked.counted blocks in
      omega arith

  -- the numbers stand for a table over the rules of lone nodes
  numbering : IsNumbering state block numbers (lone_rules t) listing table (λ i. total) (λ s. size_sum size) total
      (size_sum size)
  numbering =
      let stands = tables_stand state block listing sites checked.at_sites in
      record {
        ruled = λ i j rs known. lone_are_nodes t (state i) (node j) ∙ checked.ruled i j rs known;
        listed = stands.listed;
        only = stands.only;
        lower = λ i blocks. counted blocks;
        fewer = counted;
      }

  module _ (lowers : IsStepSize t passes size) where
    -- that is sound
    sound : IsSound t passes table (λ s. size_sum size) (size_sum size)
    sound = record {
      bounds = sizes_are_bounds t passes size lowers;
      checked =
          closed_are_checked t table (λ s. size_sum size) (size_sum size)
          (numbers_close state block numbers (lone_rules t) listing table (λ i. total) (λ s. size_sum size) total
          (size_sum size) numbering checked.closed);
    }

    -- and its bound is no less than the values
    above_values : (i : ℕ) (blocks : List ℕ) → passes (state i) ≡ true
        → value blocks i
        ≤ bound_by_numbers t passes size state node numbers listing sites total cap value
        (opened (state i) (ordered (map node blocks)))
    above_values i blocks passed =
        let least =
        values_are_below listing (λ k. total) total (λ k. is_goal (problem_of t) (state k)) cap value checked.valued
        blocks i in
        let more =
        numbers_are_below state block numbers (lone_rules t) listing table (λ k. total) (λ s. size_sum size) total
        (size_sum size) (is_goal (problem_of t)) cap numbering blocks i in
        let same =
        ap (λ bs. estimate_by t passes table (λ s. size_sum size) (size_sum size) cap bs (state i))
        (blocks_are blocks) in
        let at =
        (bounds_of_ordered t).bound passes table (λ s. size_sum size) (size_sum size) cap (state i) (map node blocks)
        passed in
        omega arith

    -- so the numbers have their bound
    pub have_bound : IsKept t passes
        → HaveBound t passes size state node numbers listing sites total cap value
    have_bound kept = record {
      below = bounds_are_below t passes table (λ s. size_sum size) (size_sum size) cap kept sound;
      above_values = above_values;
    }
