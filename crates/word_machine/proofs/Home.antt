-- From what all workers bring home, and from what the closed desk says, to the whole level.
use Rattle.std.proofs.Common.{◌≡◌, ℕ, zero, suc, ◌+◌, ◌-◌, ◌*◌, ◌/◌, ◌%◌, ◌<◌, ◌≤◌, List, [], ◌∷◌, length, get_or, map, flat_map, All, Any, Contains, refl, sym, ap, subst, arith, ⊎_elim, div-add-mod', mod-lt, div-lt_iff_lt-mul}
use Rattle.std.proofs.lemmas.Bool.Decides.{nat_tests}
use Rattle.std.proofs.lemmas.List.Elements.{All-contains, Contains-append_left, Contains-append_right, Contains-append_cases, Contains-get_or}
use Rattle.word_machine.specs.Desk.{once_below, HasEachBelow, IsLeast}
use Rattle.word_machine.proofs.Passes.{contains_of_times, times_of_contains}
use Rattle.word_machine.specs.declared.in_order.Expanded.TheVariants.{Whole, Done}
use Rattle.word_machine.specs.declared.piece.Outcome.{Outcome}
use Rattle.word_machine.specs.declared.piece.Outcome.TheVariants.{Ran, Skipped}
use Rattle.word_machine.specs.declared.piece.Piece.{Piece}
use Rattle.word_machine.specs.Level.{IsFirstDone}
use Rattle.word_machine.specs.Workers.{piece_first, piece_last, places_of, IsOutcome, Brings, IsWholeOutcome, IsWhole, HasEachPiece}
use Rattle.word_machine.proofs.PieceRanks.{of_each}

-- ---- what stands in lists

-- a value of the joined lists is in one of them
pub found_in_flat_map : {X A : Type 0} (f : X → List A) (xs : List X) (a : A) → Contains (flat_map f xs) a → (x : X) × Contains xs x × Contains (f x) a
found_in_flat_map f [] a h = absurd (omega arith)
found_in_flat_map f (x ∷ xs) a h =
    ⊎_elim (λ here. (x, (0, omega arith, refl), here))
    (λ later. let r = found_in_flat_map f xs a later in (r.0, (suc r.1.0, omega arith, r.1.2), r.2))
    (Contains-append_cases (f x) (flat_map f xs) a h)

-- a value of one of the lists is in the joined ones
pub stands_in_flat_map : {X A : Type 0} (f : X → List A) (xs : List X) (x : X) (a : A) → Contains xs x → Contains (f x) a → Contains (flat_map f xs) a
stands_in_flat_map f [] x a h k = absurd (omega arith)
stands_in_flat_map f (y ∷ ys) x a (zero, below, is) k = Contains-append_left (f y) (flat_map f ys) a (subst (λ z. Contains (f z) a) (sym is) k)
stands_in_flat_map f (y ∷ ys) x a (suc n, below, is) k = Contains-append_right (f y) (flat_map f ys) a (stands_in_flat_map f ys x a (n, omega arith, is) k)

-- a value of the mapped list is that of one of the list
pub found_in_map : {X A : Type 0} (f : X → A) (xs : List X) (a : A) → Contains (map f xs) a → (x : X) × Contains xs x × (f x ≡ a)
found_in_map f [] a h = absurd (omega arith)
found_in_map f (x ∷ xs) a (zero, below, is) = (x, (0, omega arith, refl), is)
found_in_map f (x ∷ xs) a (suc n, below, is) = let r = found_in_map f xs a (n, omega arith, is) in (r.0, (suc r.1.0, omega arith, r.1.2), r.2)

-- ---- the piece of a rank

-- the piece in which a rank lies
pub record Located (first last size count rank : ℕ) : Type 0 where
  pub number : ℕ
  pub number_below : number < count
  pub from : piece_first first size number ≤ rank
  pub below : rank < piece_last first last size number

-- each rank of a level lies in one of the pieces
pub located : (first last size count rank : ℕ) → 0 < size → last ≤ first + count * size → first ≤ rank → rank < last → Located first last size count rank
located first last size count rank some_size cover from below =
    let place : ℕ = rank - first in
    let whole = div-add-mod' place size in
    let rest : place % size < size = mod-lt place some_size in
    let n : ℕ = place / size in record {
      number = n;
      number_below = (div-lt_iff_lt-mul {k = size} {x = place} {y = count} some_size).1 (omega arith);
      from = omega arith;
      below = omega arith;
    }

-- ---- what the level was, by what came home

module _ {S F : Type 0} (has_successors : ℕ → List S → Type 0) (finishes : ℕ → F → Type 0) (first last size : ℕ) where
  -- the places that a piece reported
  abbrev places_in : Piece S F → List ℕ
  places_in p = places_of p.outcome

  -- what a worker brought home: the numbers it drew, what it reported and saw, and its pieces
  abbrev Home : List ℕ → List ℕ → List ℕ → List (Piece S F) → Type 0
  Home drawn reported seen pieces = Brings has_successors finishes first last size drawn reported seen pieces

  -- a piece is right by what was seen
  abbrev RightAt : List ℕ → Piece S F → Type 0
  RightAt seen p = IsOutcome has_successors finishes first last size p.number seen p.outcome

  -- each number that was drawn has a piece
  pub piece_at : (count : ℕ) (drawn reported seen : List ℕ) (pieces : List (Piece S F)) → HasEachBelow count drawn → Home drawn reported seen pieces → (n : ℕ) → n < count → (p : Piece S F) × Contains pieces p × (p.number ≡ n)
  piece_at count drawn reported seen pieces each home n below =
      let one : once_below n count ≡ 1 = grind (arith, nat_tests) in
      let often = each n in
      let stands : Contains drawn n = contains_of_times drawn n (omega arith) in
      found_in_map (λ (p : Piece S F). p.number) pieces n (subst (λ l. Contains l n) (sym home.numbers) stands)

  -- a rank below the least report was expanded, without a done successor
  expanded_by : (number rank least : ℕ) (seen : List ℕ) (o : Outcome S F) → piece_first first size number ≤ rank → rank < piece_last first last size number → rank < least
      → ((x : ℕ) → Contains (places_of o) x → least ≤ x) → ((x : ℕ) → Contains seen x → least ≤ x) → IsOutcome has_successors finishes first last size number seen o
      → (xs : List S) × has_successors rank xs
  expanded_by number rank least seen (Ran (Whole made)) from below under mine looks right = of_each has_successors (piece_first first size number) (piece_last first last size number) made.items right rank from below
  expanded_by number rank least seen (Ran (Done found finish)) from below under mine looks right = let at_least = mine found (0, omega arith, refl) in right.before rank from (omega arith)
  expanded_by number rank least seen (Skipped skip) from below under mine looks right =
      let at_least = looks skip.seen right.0 in
      let above = skip.above in
      let start = right.1 in
      absurd (omega arith)

  -- where a place was reported and all numbers drawn, the piece of the least ended there, the first of the level
  pub done_level : (count least : ℕ) (finish : F) (drawn reported seen : List ℕ) (pieces : List (Piece S F)) → 0 < size → last ≤ first + count * size → HasEachBelow count drawn → IsLeast reported least → All (λ x. least ≤ x) seen → Home drawn reported seen pieces
      → (number : ℕ) × Contains pieces (record { number = number; outcome = Ran (Done least finish) }) → IsFirstDone has_successors finishes first last least finish
  done_level count least finish drawn reported seen pieces some_size cover each is_least not_below home named =
      let number : ℕ = named.0 in
      let piece : Piece S F = record { number = number; outcome = Ran (Done least finish) } in
      let here : IsFirstDone has_successors finishes (piece_first first size number) (piece_last first last size number) least finish = All-contains (RightAt seen) pieces piece home.outcomes named.1 in
      let from = here.from_first in
      let below = here.before_last in record {
        from_first = omega arith;
        before_last = omega arith;
        finishes_so = here.finishes_so;
        before = λ rank after under.
            let at = located first last size count rank some_size cover after (omega arith) in
            let p = piece_at count drawn reported seen pieces each home at.number at.number_below in
            expanded_by at.number rank least seen p.0.outcome at.from at.below under
            (λ x stands. All-contains (λ y. least ≤ y) reported x is_least.1 (subst (λ l. Contains l x) home.places (stands_in_flat_map places_in pieces p.0 x p.1 stands)))
            (λ x stands. All-contains (λ y. least ≤ y) seen x not_below stands)
            (subst (λ n. IsOutcome has_successors finishes first last size n seen p.0.outcome) p.2 (All-contains (RightAt seen) pieces p.0 home.outcomes p.1));
      }

  -- where nothing was reported, no piece was cut short or skipped
  whole_by : (number : ℕ) (seen : List ℕ) (o : Outcome S F) → ((x : ℕ) → Contains (places_of o) x → ⊥) → ((x : ℕ) → Contains seen x → ⊥) → IsOutcome has_successors finishes first last size number seen o → IsWholeOutcome has_successors first last size number o
  whole_by number seen (Ran (Whole made)) none looks right = right
  whole_by number seen (Ran (Done rank finish)) none looks right = absurd (none rank (0, omega arith, refl))
  whole_by number seen (Skipped skip) none looks right = absurd (looks skip.seen right.0)

  -- an empty list contains nothing
  no_member : (xs : List ℕ) (x : ℕ) → xs ≡ [] → Contains xs x → ⊥
  no_member xs x is h = let e = ap length is in let b = h.1 in omega arith

  -- where nothing was reported, each piece was expanded to its end
  pub whole_pieces : (drawn reported seen : List ℕ) (pieces : List (Piece S F)) → reported ≡ [] → All (Contains reported) seen → Home drawn reported seen pieces → All (IsWhole has_successors first last size) pieces
  whole_pieces drawn reported seen pieces none looks home k d below =
      let p = get_or pieces k d in
      let stands = Contains-get_or pieces k d below in
      whole_by p.number seen p.outcome
      (λ x h. no_member reported x none (subst (λ l. Contains l x) home.places (stands_in_flat_map places_in pieces p x stands h)))
      (λ x h. no_member reported x none (All-contains (Contains reported) seen x looks h))
      (home.outcomes k d below)

-- ---- the desk is closed

-- what holds of all of some values holds of one
pub any_of_all : {X : Type 0} (P : X → Type 0) (xs : List X) → 0 < length xs → All P xs → Any P xs
any_of_all P [] some_one all = absurd (omega arith)
any_of_all P (x ∷ xs) some_one all = (0, x, omega arith, refl, all 0 x (omega arith))

-- every number of a piece is below the number of pieces
pub numbers_below : {S F : Type 0} (count : ℕ) (drawn : List ℕ) (pieces : List (Piece S F)) → HasEachBelow count drawn → map (λ p. p.number) pieces ≡ drawn → All (λ p. p.number < count) pieces
numbers_below count drawn pieces each is k d below =
    let n : ℕ = (get_or pieces k d).number in
    let stands : Contains (map (λ p. p.number) pieces) n = stands_in_map (λ p. p.number) pieces (get_or pieces k d) (Contains-get_or pieces k d below) in
    let often = times_of_contains drawn n (subst (λ l. Contains l n) is stands) in
    let once = each n in
    below_of_once n count (omega arith)
  where
    below_of_once : (x n : ℕ) → 0 < once_below x n → x < n
    below_of_once x n h = grind (arith, nat_tests)

    stands_in_map : {X : Type 0} (f : X → ℕ) (xs : List X) (x : X) → Contains xs x → Contains (map f xs) (f x)
    stands_in_map f [] x h = absurd (omega (arith, h.1))
    stands_in_map f (y ∷ ys) x (zero, b, is) = (0, omega arith, ap f is)
    stands_in_map f (y ∷ ys) x (suc k, b, is) = let r = stands_in_map f ys x (k, omega arith, is) in (suc r.0, omega arith, r.2)

-- for each number below the number of pieces there is a piece
pub each_piece : {S F : Type 0} (count : ℕ) (drawn : List ℕ) (pieces : List (Piece S F)) → HasEachBelow count drawn → map (λ p. p.number) pieces ≡ drawn → HasEachPiece count pieces
each_piece count drawn pieces each is n below =
    let one = once_of_below n count below in
    let often = each n in
    subst (λ l. Contains l n) (sym is) (contains_of_times drawn n (omega arith))
  where
    once_of_below : (x n : ℕ) → x < n → once_below x n ≡ 1
    once_of_below x n h = grind (arith, nat_tests)
