-- Networks that may have room between two gaps, and gaps that better the best so far.
use Rattle.std.proofs.Common.{◌≡◌, ℕ, ◌+◌, ◌≤◌, ◌<◌, ◌↔◌, inl, inr, Bool, true, false, cond, ltb, List, length, get_or, Option, Some, None, slice_get, refl, sym, subst, arith}
use Rattle.std.proofs.lemmas.Bool.{both_ways, cases_eq, lt-ltb, ltb-true, ltb-false}
use Rattle.std.proofs.lemmas.Option.{slice_get_within}
use Rattle.std.specs.Option.{is_some}
use Rattle.htn_model.specs.State.{State}
use Rattle.htn_model.specs.Literal.{Literal, holds}
use Rattle.htn_model.specs.Problem.{Network, Child, precondition, action, task}
use Rattle.htn_model.specs.Fits.{Fits, StepFits}
use Rattle.htn_ground.specs.Views.{child_view, children_of}
use Rattle.htn_ground.specs.declared.child.Child.{Child as Read}
use Rattle.plan_room.specs.Bound.{AllEnd}
use Rattle.plan_room.specs.Frames.{NetworkHasRoom}
use Rattle.plan_room.specs.Lines.{Lines, AreLines, IsNextGap}
use Rattle.plan_room.specs.Matching.{IsBeaten, IsFound}
use Rattle.plan_room.specs.Placing.{IsFinish, IsFirst}
use Rattle.plan_room.specs.Trials.{IsAsked}
use Rattle.plan_room.specs.Windows.{HoldsWithin, StepsHold, up_to, finish_of, IsLastBetter}
use Rattle.plan_room.specs.declared.rooms.Finish.{Finish}
use Rattle.plan_room.specs.declared.rooms.Finish.TheVariants.{Unknown, Never, At}
use Rattle.plan_room.specs.declared.rooms.Question.{Question}
use Rattle.plan_room.proofs.Suited.{looked}

-- ## Steps

-- literals hold in a window exactly where there is a next gap in it
pub hold_found : (states : ℕ → State) (first last : ℕ) (literals : List Literal) (r : Option ℕ) (b : Bool) → IsNextGap states last literals first r → b ≡ is_some r
    → (b ≡ true) ↔ StepFits states literals first last
hold_found states first last literals None b none is = (
  (λ yes. absurd (both_ways b is yes)),
  (λ fits. absurd (both_ways (holds (states fits.0) literals) (none fits.0 fits.1 fits.2) fits.3)),
)
hold_found states first last literals (Some gap) b (from, to, there, before) is = (
  (λ yes. (gap, from, to, there)),
  (λ fits. is),
)

module _ (states : ℕ → State) (first last : ℕ) (nodes : List Child) where
  -- the nodes before a place hold where they are steps
  abbrev pub HoldBefore : ℕ → Type 0
  HoldBefore i = (a : ℕ) → a < i → (node : Child) → slice_get nodes a ≡ Some node → HoldsWithin states first last node

  -- one more does
  pub hold_more : (i : ℕ) (node : Child) → slice_get nodes i ≡ Some node → HoldsWithin states first last node → HoldBefore i → HoldBefore (i + 1)
  hold_more i node at here before a low other there = elim (cases_eq a i) [
    | inl same ↦ (let e : slice_get nodes i ≡ Some other = subst (λ j. slice_get nodes j ≡ Some other) same there in
        let f : node ≡ other = cc in subst (HoldsWithin states first last) f here)
    | inr less ↦ before a (omega arith) other there
  ]

  -- all do
  pub hold_all : (i : ℕ) → length nodes ≤ i → HoldBefore i → StepsHold states first last nodes
  hold_all i past before a node there = before a (let w = slice_get_within nodes a node there in omega arith) node there

-- a node at a place of those that are read
pub node_at : (xs : List Read) (nodes : List Child) (i : ℕ) (v : Read) → children_of xs ≡ nodes → i < length xs → v ≡ get_or xs i v → slice_get nodes i ≡ Some (child_view v)
node_at xs nodes i v e low is = looked xs nodes i v e (sym (lt-ltb i (length xs) low)) is

-- where a network has room its steps hold
pub room_holds : (l : Lines) (children : List ℕ) (network : Network) (g h last : ℕ) → NetworkHasRoom l children network g h → h ≤ last → StepsHold l.states g last network.children
room_holds l children network g h last fits low a (precondition literals) there =
    let (gap, from, to, true_there) = fits.5 a literals there in
    (gap, (let s = fits.4.from a in omega arith), (let t = fits.4.to a in omega arith), true_there)
room_holds l children network g h last fits low a (action t) there = tt
room_holds l children network g h last fits low a (task t) there = tt

-- ## Finishes

-- a first gap that is past the last one is none up to that
pub finish_up_to : (P : ℕ → Type 0) (n last : ℕ) (f : Finish) → last ≤ n → IsFinish P n f → IsFinish P last (up_to f last)
finish_up_to P n last (Unknown q) low is = tt
finish_up_to P n last Never low is = λ k small room. is k (omega arith) room
finish_up_to P n last (At h) low is = by (ltb last h) refl
  where
    by : (b : Bool) → ltb last h ≡ b → IsFinish P last (cond b Never (At h))
    by true e = λ k small room. (let past = ltb-true last h e in let least = is.least k room in omega arith)
    by false e = record { within = ltb-false last h e; fits = is.fits; least = is.least }

-- and what is asked stays so
pub asked_up_to : (A : Question → Type 0) (f : Finish) (last : ℕ) → IsAsked A f → IsAsked A (up_to f last)
asked_up_to A (Unknown q) last is = is
asked_up_to A Never last is = tt
asked_up_to A (At h) last is = by (ltb last h)
  where
    by : (b : Bool) → IsAsked A (cond b Never (At h))
    by true = tt
    by false = tt

-- the best so far asks nothing
pub asked_best : (A : Question → Type 0) (best : Option ℕ) → IsAsked A (finish_of best)
asked_best A None = tt
asked_best A (Some h) = tt

-- a first gap up to a last one is so up to a later one
pub first_wider : (P : ℕ → Type 0) (n last end : ℕ) → last ≤ n → IsFirst P last end → IsFirst P n end
first_wider P n last end low first = record { within = (let w = first.within in omega arith); fits = first.fits; least = first.least }

-- ## Gaps that are better

-- they are up to one of the n gaps
pub better_low : (P : ℕ → Type 0) (n least last : ℕ) (best : Option ℕ) → IsFound P n best → IsLastBetter best least n (Some last) → last ≤ n
better_low P n least last None found is = omega arith
better_low P n least last (Some end) found is = (let low = found.0 in let e = is.1 in omega arith)

-- the best so far beats none of them
pub not_beaten : (n least last end : ℕ) (best : Option ℕ) → IsLastBetter best least n (Some last) → end ≤ last → IsBeaten best end → ⊥
not_beaten n least last end None is low beaten = beaten
not_beaten n least last end (Some best) is low beaten = (let e = is.1 in omega arith)

-- and each later one
pub beaten_past : (n least last h : ℕ) (best : Option ℕ) → IsLastBetter best least n (Some last) → h ≤ n → last < h → IsBeaten best h
beaten_past n least last h None is low past = absurd (omega arith)
beaten_past n least last h (Some best) is low past = (let e = is.1 in omega arith)

-- ## A gap before which none can have finished

-- an action line among the children
pub action_past : (l : Lines) → AreLines l → (children : List ℕ) (gap i : ℕ) → i < length children → get_or children i 0 < l.actions → (h : ℕ) → AllEnd l children gap h
    → get_or children i 0 < h
action_past l are children gap i inside low h all =
    let fits = subst (λ p. Fits l.naming l.problem l.states p gap h) (are.action_lines (get_or children i 0) low) (all.1 i inside) in fits.1
