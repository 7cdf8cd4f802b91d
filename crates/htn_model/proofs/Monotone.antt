-- More room is enough room.
use Rattle.std.proofs.Common.{◌≡◌, ℕ, ◌≤◌, arith}
use Rattle.htn_model.specs.State.{State}
use Rattle.htn_model.specs.Problem.{Problem, Order, Network}
use Rattle.htn_model.specs.PlanFile.{Naming}
use Rattle.htn_model.specs.Fits.{PlanTree, action_at, decomposition, PlanTrees, AreSpans, Fits, NetworkFits, IsEarliest}

-- spans are so between wider gaps
pub wider : (order : Order) (start finish : ℕ → ℕ) (g h g' h' : ℕ) → g' ≤ g → h ≤ h' → AreSpans order start finish g h → AreSpans order start finish g' h'
wider order start finish g h g' h' low high spans = record {
  from = λ a. let f = spans.from a in omega arith;
  to = λ a. let f = spans.to a in omega arith;
  forward = spans.forward;
  ordered = spans.ordered;
}

module _ (naming : Naming) (problem : Problem) (states : ℕ → State) where
  -- plans that have room have it between wider gaps
  pub network_monotone : (network : Network) (plans : PlanTrees) (g h g' h' : ℕ) → g' ≤ g → h ≤ h'
      → NetworkFits naming problem states network plans g h → NetworkFits naming problem states network plans g' h'
  network_monotone network plans g h g' h' low high (positions, matching, start, finish, spans, steps, all) =
      (positions, matching, start, finish, wider network.order start finish g h g' h' low high spans, steps, all)

  -- from an earlier gap to a later one
  pub fits_monotone : (p : PlanTree) (g h g' h' : ℕ) → g' ≤ g → h ≤ h' → Fits naming problem states p g h → Fits naming problem states p g' h'
  fits_monotone (action_at named i) g h g' h' low high (from, to) = (omega arith, omega arith)
  fits_monotone (decomposition t method plans) g h g' h' low high (number, network, is, name, fits) =
      (number, network, is, name, network_monotone network plans g h g' h' low high fits)

  -- the earliest finish doesn't fall where the start moves on
  pub earliest_monotone : (p : PlanTree) (g g' h h' : ℕ) → g' ≤ g → IsEarliest naming problem states p g h → IsEarliest naming problem states p g' h' → h' ≤ h
  earliest_monotone p g g' h h' low late early = early.least h (fits_monotone p g h g' h low (let e : h ≤ h = omega arith in e) late.fits)

  -- and it is all that a line shows: it has room exactly from there on
  pub earliest_decides : (p : PlanTree) (g h k : ℕ) → IsEarliest naming problem states p g h → h ≤ k → Fits naming problem states p g k
  earliest_decides p g h k earliest high = fits_monotone p g h g k (let e : g ≤ g = omega arith in e) high earliest.fits

  -- a line has one earliest finish from a gap on
  pub one_earliest : (p : PlanTree) (g h k : ℕ) → IsEarliest naming problem states p g h → IsEarliest naming problem states p g k → h ≡ k
  one_earliest p g h k first second = let a = first.least k second.fits in let b = second.least h first.fits in omega arith
