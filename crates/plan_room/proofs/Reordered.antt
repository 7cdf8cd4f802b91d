-- Children in another order have room where the listed ones have.
use Rattle.std.proofs.Common.{◌≡◌, ℕ, ◌+◌, ◌-◌, ◌≤◌, ◌<◌, inl, inr, true, List, length, get_or, swap, IsPermutation, Some, sym, ap, ◌∙◌, subst, arith}
use Rattle.std.proofs.lemmas.Bool.{cases_lt}
use Rattle.std.proofs.lemmas.Bool.Decides.{nat_tests}
use Rattle.std.proofs.lemmas.List.Edits.{length-swap}
use Rattle.std.proofs.lemmas.List.Sorted.{IsPermutation-keeps, IsPermutation-sym, length_permutation}
use Rattle.indexmap.proofs.ReorderLemmas.{exchange, exchange-within, exchange-twice, get_or-swap}
use Rattle.htn_model.specs.Problem.{Network, IsSquare}
use Rattle.htn_model.specs.Fits.{child_of, Fits, NetworkFits}
use Rattle.htn_model.proofs.Monotone.{fits_monotone}
use Rattle.plan_room.specs.Matching.{Seating, HasMatchedRoom}
use Rattle.plan_room.specs.Lines.{Lines, plans_of}
use Rattle.plan_room.specs.Bound.{AllEnd, IsLower}
use Rattle.plan_room.specs.Memo.{IsMemo, IsOpenBelow}
use Rattle.plan_room.specs.Seats.{suits_at, StepRoom, ChoiceRoom, seating_of, AreAsMany, AreBelow}
use Rattle.plan_room.specs.Links.{AreLinked}
use Rattle.plan_room.specs.Trials.{IsAsked}
use Rattle.plan_room.specs.declared.links.Links.{Links}
use Rattle.plan_room.specs.declared.rooms.Finish.{Finish}
use Rattle.plan_room.specs.declared.rooms.Finish.TheVariants.{Unknown, Never, At}
use Rattle.plan_room.specs.declared.memo.Memo.{Memo}
use Rattle.plan_room.specs.declared.rooms.Question.{Question}
use Rattle.plan_room.proofs.Joined.{suited, suited_child, suited_step, to_fits, from_fits, fits_at}

-- a place past the list is exchanged with none
exchange_past : (n i j c : ℕ) → i < n → j < n → n ≤ c → exchange i j c ≡ c
exchange_past n i j c p q past = grind (arith, nat_tests)

-- ## What each member of a list, or one, has is so in another order

-- of each
pub each_kept : (Q : ℕ → Type 0) (xs ys : List ℕ) → IsPermutation xs ys → ((c : ℕ) → c < length xs → Q (get_or xs c 0)) → (c : ℕ) → c < length ys → Q (get_or ys c 0)
each_kept Q xs ys same each = IsPermutation-keeps xs (λ zs. (c : ℕ) → c < length zs → Q (get_or zs c 0)) each
    (λ zs i j p q h c low. subst Q (sym (get_or-swap zs i j 0 p q c)) (h (exchange i j c) (exchange-within i j (length zs) c p q (let e = length-swap zs i j in omega arith)))) ys same

-- of one
pub one_kept : (x : ℕ) (xs ys : List ℕ) → IsPermutation xs ys → (c : ℕ) × (c < length xs) × (get_or xs c 0 ≡ x) → (c : ℕ) × (c < length ys) × (get_or ys c 0 ≡ x)
one_kept x xs ys same one = IsPermutation-keeps xs (λ zs. (c : ℕ) × (c < length zs) × (get_or zs c 0 ≡ x)) one
    (λ zs i j p q h. let (c, low, is) = h in (
      exchange i j c,
      (let e = length-swap zs i j in let w = exchange-within i j (length zs) c p q low in omega arith),
      get_or-swap zs i j 0 p q (exchange i j c) ∙ ap (λ k. get_or zs k 0) (exchange-twice i j c) ∙ is,
    )) ys same

-- ## Two children exchanged

module _ (l : Lines) (network : Network) (sequence : List ℕ) (gap : ℕ) (zs : List ℕ) (i j : ℕ) (p : i < length zs) (q : j < length zs) where
  -- the children, two of them exchanged
  abbrev ys : List ℕ
  ys = swap zs i j

  -- there are as many
  same_size : length ys ≡ length zs
  same_size = length-swap zs i j

  -- what stood at a place stands at the exchanged one
  there : (c : ℕ) → get_or ys (exchange i j c) 0 ≡ get_or zs c 0
  there c = get_or-swap zs i j 0 p q (exchange i j c) ∙ ap (λ k. get_or zs k 0) (exchange-twice i j c)

  -- it suits the same positions
  suited_there : (a c : ℕ) → suits_at l zs network a c ≡ true → suits_at l ys network a (exchange i j c) ≡ true
  suited_there a c is = elim (suited l zs network sequence gap a c is) [
    | inl child ↦ suited_child l ys network sequence gap a (exchange i j c) (
      (let e = same_size in let w = exchange-within i j (length zs) c p q child.0 in omega arith),
      child.1 ∙ ap (λ x. Some (child_of (l.plan_of x))) (sym (there c)),
    )
    | inr step ↦ suited_step l ys network sequence gap a (exchange i j c) (
      (let e = same_size in let f = step.0 in let w = exchange_past (length zs) i j c p q (omega arith) in omega arith),
      step.1,
    )
  ]

  -- and has room where it had
  room_there : (c x y : ℕ) → ChoiceRoom l zs network c x y → ChoiceRoom l ys network (exchange i j c) x y
  room_there c x y room = elim (cases_lt c (length zs)) [
    | inl low ↦ (
      (λ inside. subst (λ z. Fits l.naming l.problem l.states (l.plan_of z) x y) (sym (there c)) (room.0 low)),
      (λ past. absurd (let e = same_size in let w = exchange-within i j (length zs) c p q low in omega arith)),
    )
    | inr high ↦ subst (λ d. ChoiceRoom l ys network d x y) (sym (exchange_past (length zs) i j c p q high)) (
      (λ inside. absurd (let e = same_size in omega arith)),
      (λ past. subst (λ n. StepRoom l zs network (c - n) x y) (sym same_size) (room.1 high)),
    )
  ]

  -- choices stay within their number
  low_there : (c : ℕ) → c < length zs + length network.children → exchange i j c < length ys + length network.children
  low_there c low = elim (cases_lt c (length zs)) [
    | inl small ↦ (let e = same_size in let w = exchange-within i j (length zs) c p q small in omega arith)
    | inr high ↦ (let e = same_size in let w = exchange_past (length zs) i j c p q high in omega arith)
  ]

  -- what has room with the one has it with the other
  matched_there : (h : ℕ) → HasMatchedRoom (seating_of l zs network sequence gap) h → HasMatchedRoom (seating_of l ys network sequence gap) h
  matched_there h (m, seated, have) = (
    (λ a. exchange i j (m a)),
    record {
      low = λ a low. low_there (m a) (seated.low a low);
      suited = λ a low. suited_there a (m a) (seated.suited a low);
      apart = λ a b la lb e. seated.apart a b la lb (sym (exchange-twice i j (m a)) ∙ ap (exchange i j) e ∙ exchange-twice i j (m b));
    },
    (have.0, have.1, record { spans = have.2.spans; rooms = λ a low. room_there (m a) (have.0 a) (have.1 a) (have.2.rooms a low) }),
  )

-- ## Children in another order

module _ (l : Lines) (network : Network) (sequence : List ℕ) (gap : ℕ) (xs ys : List ℕ) (same : IsPermutation xs ys) where
  -- they have room in a matching where the listed ones have
  pub matched_kept : (h : ℕ) → HasMatchedRoom (seating_of l xs network sequence gap) h → HasMatchedRoom (seating_of l ys network sequence gap) h
  matched_kept h room = IsPermutation-keeps xs (λ zs. HasMatchedRoom (seating_of l zs network sequence gap) h) room (λ zs i j p q r. matched_there l network sequence gap zs i j p q h r) ys same

-- as many as the subtasks
pub many_kept : (l : Lines) (network : Network) (xs ys : List ℕ) → IsPermutation xs ys → AreAsMany l xs network → AreAsMany l ys network
many_kept l network xs ys same many = many ∙ sym (length_permutation xs ys same)

-- what is open below the reordered is so below the listed
pub open_kept : (l : Lines) (memo : Memo) (xs ys : List ℕ) → IsPermutation xs ys → (q : Question) → IsOpenBelow l memo ys q → IsOpenBelow l memo xs q
open_kept l memo xs ys same q is_open =
    let (c, low, is) = one_kept q.line ys xs (IsPermutation-sym xs ys same) (is_open.place, is_open.low, is_open.is) in
    record { place = c; low = low; is = is; no_action = is_open.no_action; within = is_open.within; unknown = is_open.unknown }

-- ## The bound

-- where a network has room each child alone has
pub all_end : (l : Lines) (children : List ℕ) (network : Network) (g h : ℕ) → NetworkFits l.naming l.problem l.states network (plans_of l.plan_of children) g h → AllEnd l children g h
all_end l children network g h fits = (
  (let f = fits.4.from 0 in let e = fits.4.forward 0 in let t = fits.4.to 0 in omega arith),
  (λ c low. let at = get_or fits.0 c 0 in
      fits_monotone l.naming l.problem l.states (l.plan_of (get_or children c 0)) (fits.2 at) (fits.3 at) g h (fits.4.from at) (fits.4.to at)
      (fits_at l network fits.2 fits.3 children fits.0 fits.6 c low)),
)

module _ (l : Lines) (network : Network) (sequence : List ℕ) (gap : ℕ) (xs ys : List ℕ) (same : IsPermutation xs ys) (square : IsSquare (length network.children) network.order) (many : AreAsMany l ys network) where
  -- the reordered have room in a matching: the listed ones have in the network
  pub network_fits : (h : ℕ) → HasMatchedRoom (seating_of l ys network sequence gap) h → NetworkFits l.naming l.problem l.states network (plans_of l.plan_of xs) gap h
  network_fits h room =
      let (m, seated, have) = matched_kept l network sequence gap ys xs (IsPermutation-sym xs ys same) h room in
      to_fits l xs network sequence gap square (many_kept l network ys xs (IsPermutation-sym xs ys same) many) m seated h have.0 have.1 have.2

  -- and the other way round
  pub matched : (h : ℕ) → NetworkFits l.naming l.problem l.states network (plans_of l.plan_of xs) gap h → HasMatchedRoom (seating_of l ys network sequence gap) h
  matched h fits = matched_kept l network sequence gap xs ys same h (from_fits l xs network sequence gap square h fits)

  -- a bound of the children bounds the matchings
  pub bounded : (end : ℕ) → IsLower l xs gap end → (h : ℕ) → HasMatchedRoom (seating_of l ys network sequence gap) h → end ≤ h
  bounded end lower h room = lower h (all_end l xs network gap h (network_fits h room))

-- no matching ends before the network's start
pub from_gap : (w : Seating) (h : ℕ) → HasMatchedRoom w h → w.gap ≤ h
from_gap w h room = let spans = room.2.2.spans in let f = spans.from 0 in let e = spans.forward 0 in let t = spans.to 0 in omega arith

-- ## What is asked, and what a search takes as given

-- what is asked is so of more
pub asked_so : (A B : Question → Type 0) (f : Finish) → ((q : Question) → A q → B q) → IsAsked A f → IsAsked B f
asked_so A B (Unknown q) to is = to q is
asked_so A B Never to is = tt
asked_so A B (At h) to is = tt

-- the children and their links are as a search takes them, and the network can't have finished before the bound
abbrev pub IsSound : Lines → Memo → List ℕ → Network → List ℕ → ℕ → Links → ℕ → Type 0
IsSound l memo children network sequence gap links bound = AreBelow l children network × IsMemo l memo
    × AreLinked (seating_of l children network sequence gap) (length children) links
    × ((h : ℕ) → HasMatchedRoom (seating_of l children network sequence gap) h → bound ≤ h)
