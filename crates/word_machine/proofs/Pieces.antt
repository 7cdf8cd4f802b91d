-- Lists of numbers that rise, and what stays true of pieces while a pass goes on.
use Rattle.std.proofs.Common.{◌≡◌, ℕ, suc, ◌+◌, ◌-◌, ◌<◌, ◌≤◌, max, Bool, true, false, if◌then◌else◌, List, [], ◌∷◌, ◌++◌, map, flat_map, All, Contains, refl, sym, ap, ap₂, ◌∙◌, subst, arith}
use mathlib.Core.List.{append-nil, map-append}
use Rattle.std.proofs.lemmas.List.Elements.{All-push, All-head, All-rest, All-append, All-weaker, Contains-append_left, Contains-append_right}
use Rattle.std.proofs.lemmas.List.Concat.{flat_map-append}
use Rattle.std.specs.declared.thread.PromisedHandle.{PromisedHandle}
use Rattle.word_machine.specs.Desk.{PassState, all_drawn, all_reported, all_seen}
use Rattle.word_machine.specs.declared.piece.Outcome.{Outcome}
use Rattle.word_machine.specs.declared.piece.Outcome.TheVariants.{Ran, Skipped}
use Rattle.word_machine.specs.declared.piece.Piece.{Piece}
use Rattle.word_machine.specs.Workers.{IsOutcome, places_of, TakesPiece, Brings}

-- one more than the greatest of the numbers
abbrev pub above : List ℕ → ℕ
above [] = 0
above (x ∷ xs) = max (x + 1) (above xs)

-- what is below a bound has its end at the bound or before
pub above-le : (xs : List ℕ) (n : ℕ) → All (λ m. m < n) xs → above xs ≤ n
above-le [] n h = omega arith
above-le (x ∷ xs) n h = let a : x < n = h 0 x (omega arith) in let b = above-le xs n (λ k d l. h (suc k) d (omega arith)) in omega arith

-- a number at the end of a list is below the list's end
pub above-push : (xs : List ℕ) (n : ℕ) → n < above (xs ++ n ∷ [])
above-push [] n = omega arith
above-push (x ∷ xs) n = let r = above-push xs n in omega arith

-- the numbers left fall with each that is drawn
pub left_falls : (drawn drawn' : List ℕ) (n pieces : ℕ) → All (λ m. m < n) drawn → n < pieces → drawn' ≡ drawn ++ n ∷ [] → pieces - above drawn' < pieces - above drawn
left_falls drawn drawn' n pieces rising below is = let a = above-le drawn n rising in let b = above-push drawn n in let e = ap above is in omega arith

-- ---- lists that grow by one, and lose their first

-- what holds of a list and of one more value holds of both
pub all_pushed : {X : Type 0} (P : X → Type 0) (xs ys : List X) (x : X) → ys ≡ xs ++ x ∷ [] → All P xs → P x → All P ys
all_pushed P xs ys x is all one = subst (All P) (sym is) (All-push P xs x all one)

-- the same where the value is added only if a test holds
pub all_pushed_or_not : {X : Type 0} (P : X → Type 0) (xs ys : List X) (x : X) (b : Bool) → ys ≡ (if b then xs ++ x ∷ [] else xs) → All P xs → P x → All P ys
all_pushed_or_not P xs ys x true is all one = all_pushed P xs ys x is all one
all_pushed_or_not P xs ys x false is all one = subst (All P) (sym is) all

-- what holds of a list holds of its first value and of the rest
pub all_rest : {X : Type 0} (P : X → Type 0) (x : X) (xs ys : List X) → ys ≡ x ∷ xs → All P ys → P x × All P xs
all_rest P x xs ys is all = (All-head P x xs (subst (All P) is all), All-rest P x xs ys is all)

-- the value that was added last is in the list
pub stands_last : (xs ys : List ℕ) (x : ℕ) → ys ≡ xs ++ x ∷ [] → Contains ys x
stands_last xs ys x is = subst (λ l. Contains l x) (sym is) (Contains-append_right xs (x ∷ []) x (0, omega arith, refl))

-- the first of the rest is in the whole
pub stands_between : {X : Type 0} (before rest after all : List X) (x : X) → before ++ rest ≡ all → rest ≡ x ∷ after → Contains all x
stands_between before rest after all x whole is = subst (λ l. Contains l x) whole (Contains-append_right before rest x (subst (λ l. Contains l x) (sym is) (0, omega arith, refl)))

-- ---- threads

-- handles that promise one job, and one more that does, all promise it
pub promised_more : {T P : Type 0} (job : P) (xs ys : List (PromisedHandle T P)) (x : PromisedHandle T P) → ys ≡ xs ++ x ∷ [] → All (λ h. h.promise ≡ job) xs → x.promise ≡ job → All (λ h. h.promise ≡ job) ys
promised_more job xs ys x is all one = subst (All (λ h. h.promise ≡ job)) (sym is) (All-push (λ h. h.promise ≡ job) xs x all one)

-- ---- what comes home

module _ {S F : Type 0} (has_successors : ℕ → List S → Type 0) (finishes : ℕ → F → Type 0) (first last size : ℕ) where
  -- the number of a piece
  abbrev pub number_of : Piece S F → ℕ
  number_of p = p.number

  -- the places that a piece reported
  abbrev pub places_in : Piece S F → List ℕ
  places_in p = places_of p.outcome

  -- a piece is right by what was seen
  abbrev pub RightAt : List ℕ → Piece S F → Type 0
  RightAt seen p = IsOutcome has_successors finishes first last size p.number seen p.outcome

  -- what a worker brought home: the numbers it drew, what it reported and saw, and its pieces
  abbrev pub Home : List ℕ → List ℕ → List ℕ → List (Piece S F) → Type 0
  Home drawn reported seen pieces = Brings has_successors finishes first last size drawn reported seen pieces

  -- an outcome stays one when the pass sees more
  pub outcome_stays : (number : ℕ) (seen more : List ℕ) (o : Outcome S F) → IsOutcome has_successors finishes first last size number seen o → IsOutcome has_successors finishes first last size number (seen ++ more) o
  outcome_stays number seen more (Ran e) h = h
  outcome_stays number seen more (Skipped s) h = (Contains-append_left seen more s.seen h.0, h.1)

  -- an outcome stays right when more was seen before
  pub outcome_after : (number : ℕ) (seen before : List ℕ) (o : Outcome S F) → IsOutcome has_successors finishes first last size number seen o → IsOutcome has_successors finishes first last size number (before ++ seen) o
  outcome_after number seen before (Ran e) h = h
  outcome_after number seen before (Skipped s) h = (Contains-append_right before seen s.seen h.0, h.1)

  -- an outcome is right by equal lists of what was seen
  pub seen_same : (number : ℕ) (seen seen' : List ℕ) (o : Outcome S F) → seen ≡ seen' → IsOutcome has_successors finishes first last size number seen o → IsOutcome has_successors finishes first last size number seen' o
  seen_same number seen seen' o is h = subst (λ l. IsOutcome has_successors finishes first last size number l o) is h

  -- pieces stay right when more was seen after
  pub right_on : (seen more : List ℕ) (pieces : List (Piece S F)) → All (RightAt seen) pieces → All (RightAt (seen ++ more)) pieces
  right_on seen more pieces all = All-weaker (RightAt seen) (RightAt (seen ++ more)) (λ p h. outcome_stays p.number seen more p.outcome h) pieces all

  -- two homecomings are one
  pub brings_both : (d r s d' r' s' : List ℕ) (ps ps' : List (Piece S F)) → Home d r s ps → Home d' r' s' ps' → Home (d ++ d') (r ++ r') (s ++ s') (ps ++ ps')
  brings_both d r s d' r' s' ps ps' one two = record {
    numbers = map-append number_of ps ps' ∙ ap₂ (λ x y. x ++ y) one.numbers two.numbers;
    places = flat_map-append places_in ps ps' ∙ ap₂ (λ x y. x ++ y) one.places two.places;
    outcomes = All-append (RightAt (s ++ s')) ps ps' (right_on s s' ps one.outcomes)
        (All-weaker (RightAt s') (RightAt (s ++ s')) (λ p h. outcome_after p.number s' s p.outcome h) ps' two.outcomes);
  }

  -- one more piece, after a claim and what was done with it
  pub brings_more : (pass pass' pass'' : PassState) (n : ℕ) (outcome : Outcome S F) (pieces pieces' : List (Piece S F)) → Home pass.drawn pass.reported pass.seen pieces
      → pass' ≡ record pass { drawn = pass.drawn ++ n ∷ [] } → TakesPiece pass' pass'' outcome → IsOutcome has_successors finishes first last size n pass''.seen outcome
      → pieces' ≡ pieces ++ record { number = n; outcome = outcome } ∷ [] → Home pass''.drawn pass''.reported pass''.seen pieces'
  brings_more pass pass' pass'' n outcome pieces pieces' kept claimed taken is_outcome pushed =
      let piece : Piece S F = record { number = n; outcome = outcome } in
      let seen_is : pass''.seen ≡ pass.seen ++ taken.seen.0 = taken.seen.1 ∙ ap (λ (p : PassState). p.seen ++ taken.seen.0) claimed in
      let older : All (RightAt pass''.seen) pieces = subst (λ l. All (RightAt l) pieces) (sym seen_is) (right_on pass.seen taken.seen.0 pieces kept.outcomes) in
      let drawn_is : pass''.drawn ≡ pass.drawn ++ n ∷ [] = taken.drawn ∙ ap (λ (p : PassState). p.drawn) claimed in
      let reported_is : pass''.reported ≡ pass.reported ++ places_of outcome = taken.reported ∙ ap (λ (p : PassState). p.reported ++ places_of outcome) claimed in record {
        numbers = ap (map number_of) pushed ∙ (map-append number_of pieces (piece ∷ []) ∙ (ap (λ l. l ++ n ∷ []) kept.numbers ∙ sym drawn_is));
        places = ap (flat_map places_in) pushed ∙ (flat_map-append places_in pieces (piece ∷ []) ∙ (ap (λ l. flat_map places_in pieces ++ l) (append-nil (places_of outcome))
            ∙ (ap (λ l. l ++ places_of outcome) kept.places ∙ sym reported_is)));
        outcomes = subst (All (RightAt pass''.seen)) (sym pushed) (All-push (RightAt pass''.seen) pieces piece older is_outcome);
      }

  -- one more pass with its pieces comes home
  pub brings_joined : (passes passes' : List PassState) (pass : PassState) (pieces pieces' more : List (Piece S F)) → passes' ≡ passes ++ pass ∷ [] → pieces' ≡ pieces ++ more
      → Home (all_drawn passes) (all_reported passes) (all_seen passes) pieces → Home pass.drawn pass.reported pass.seen more → Home (all_drawn passes') (all_reported passes') (all_seen passes') pieces'
  brings_joined passes passes' pass pieces pieces' more is is' home one =
      let both = brings_both (all_drawn passes) (all_reported passes) (all_seen passes) pass.drawn pass.reported pass.seen pieces more home one in
      subst (λ (z : List ℕ × List ℕ × List ℕ × List (Piece S F)). Home z.0 z.1 z.2 z.3)
      (λ i. (flat_map-pushed (λ p. p.drawn) passes passes' pass is i, flat_map-pushed (λ p. p.reported) passes passes' pass is i, flat_map-pushed (λ p. p.seen) passes passes' pass is i, sym is' i)) both
    where
      flat_map-pushed : (f : PassState → List ℕ) (ps ps' : List PassState) (p : PassState) → ps' ≡ ps ++ p ∷ [] → flat_map f ps ++ f p ≡ flat_map f ps'
      flat_map-pushed f ps ps' p e = ap (λ l. flat_map f ps ++ l) (sym (append-nil (f p))) ∙ (sym (flat_map-append f ps (p ∷ [])) ∙ ap (flat_map f) (sym e))
