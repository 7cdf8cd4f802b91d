-- What rows at places say of the nodes of a network.
use Rattle.std.proofs.Common.{◌≡◌, ℕ, ◌<◌, Bool, true, false, not, ◌&&◌, ◌||◌, List, [], ◌∷◌, map, length, get_or, Option, None, eqb, refl, sym, ap, ap₂, ◌∙◌, arith, zero-add}
use Rattle.std.specs.List.{list_any, range_with_len}
use Rattle.std.proofs.lemmas.List.{get_or_default, get_or-map, length-map}
use Rattle.std.proofs.lemmas.List.Folds.{list_any_at}
use Rattle.std.proofs.lemmas.List.FromFn.{get_or-range_with_len, length-range_with_len}
use Rattle.htn_model.specs.Choice.{child_of}
use Rattle.htn_model.specs.Literal.{Literal}
use Rattle.htn_model.specs.Problem.{Child, precondition, Network, Order, is_before}
use Rattle.heuristics.specs.Needs.{is_ungiven, may_give, Outlook}
use Rattle.heuristics.specs.Places.{ArePlaces, is_given_by, may_give_by, place_at, row_at}
use Rattle.heuristics.specs.Rows.{gives_by, literal_number, outlook_of, row_of}
use Rattle.heuristics.specs.declared.needs.Needs.{Needs}
use Rattle.heuristics.specs.declared.places.Place.{Place}
use Rattle.heuristics.specs.declared.places.Spot.TheVariants.{Nowhere}
use Rattle.heuristics.specs.declared.rows.Row.{Row}
use Rattle.heuristics.proofs.MarkLists.{in_range, none_from, none_passes}

-- a test of some passes where it passes what they are mapped to
any_map : {X Y : Type 0} (test : Y → Bool) (f : X → Y) (xs : List X) → list_any (λ x. test (f x)) xs ≡ list_any test (map f xs)
any_map test f [] = refl
any_map test f (x ∷ xs) = ap (λ b. test (f x) || b) (any_map test f xs)

-- the place of a node without a row
abbrev pub nowhere : Place
nowhere = record { spot = Nowhere; is_blocked = false }

module _ (n : Needs) (places : List Place) (network : Network) (are : ArePlaces n places network) where
  -- there is one for each node
  pub as_many : length places ≡ length network.children
  as_many = sym (length-map places (λ (p : Place). row_at n p.spot)) ∙ ap length are.rows ∙ length-map network.children (row_of n)

  -- the row at a position is that of the node
  pub row_there : (j : ℕ) → j < length places → row_at n (place_at places j).spot ≡ row_of n (child_of network.children j)
  row_there j low =
      let count = as_many in
      let low_too : j < length network.children = omega (arith, count, low) in
      sym (get_or-map (λ (p : Place). row_at n p.spot) places j nowhere None low)
      ∙ ap (λ (rows : List (Option Row)). get_or rows j None) are.rows
      ∙ get_or-map (row_of n) network.children j (precondition []) None low_too

  -- whether one gives the literal of a number
  pub given_there : (number : Option ℕ) → is_given_by n places number ≡ list_any (λ (x : Child). gives_by (row_of n x) number) network.children
  given_there number =
      any_map (λ (r : Option Row). gives_by r number) (λ (p : Place). row_at n p.spot) places
      ∙ ap (list_any (λ (r : Option Row). gives_by r number)) are.rows
      ∙ sym (any_map (λ (r : Option Row). gives_by r number) (row_of n) network.children)

  -- whether the one at a position may give a literal
  pub may_give_there : (order : Order) (number : Option ℕ) (l : Literal) (i j : ℕ) → order ≡ network.order → number ≡ literal_number n l → j < length places
      → may_give_by n places order number i j ≡ may_give (outlook_of n) network l i j
  may_give_there order number l i j orders numbers low =
      ap₂ (λ (b g : Bool). not (eqb i j) && (not b && g)) (ap (λ (o : Order). is_before o i j) orders) (ap₂ gives_by (row_there j low) numbers)

-- where no node may give a literal it is not given
pub not_given : (o : Outlook) (network : Network) (l : Literal) (i : ℕ) → ((j : ℕ) → j < length network.children → may_give o network l i j ≡ false) → is_ungiven o network i l ≡ true
not_given o network l i none =
    ap not (none_from (may_give o network l i) (range_with_len 0 (length network.children))
    (λ j at. (let low = in_range 0 (length network.children) j at in none j (omega (arith, low)))))

-- with what fails in the end, all fails
last_fails : (a b : Bool) → (a && (b && false)) ≡ false
last_fails true true = refl
last_fails true false = refl
last_fails false b = refl

-- what no node gives is not given for any of them
pub given_by_none : (o : Outlook) (network : Network) (l : Literal) (i : ℕ) → list_any (λ x. o.gives x l) network.children ≡ false → is_ungiven o network i l ≡ true
given_by_none o network l i none =
    not_given o network l i
    (λ j low.
    (let x = child_of network.children j in
    let gives : o.gives x l ≡ false = none_passes (λ y. o.gives y l) network.children x none (j, low, get_or_default network.children j x (precondition []) low) in
    ap (λ b. not (eqb i j) && (not (is_before network.order i j) && b)) gives ∙ last_fails (not (eqb i j)) (not (is_before network.order i j))))

-- where one may it is
pub given : (o : Outlook) (network : Network) (l : Literal) (i j : ℕ) → j < length network.children → may_give o network l i j ≡ true → is_ungiven o network i l ≡ false
given o network l i j low gives =
    let test = may_give o network l i in
    let numbers = range_with_len 0 (length network.children) in
    let place : get_or numbers j 0 ≡ j = get_or-range_with_len 0 (length network.children) j 0 low ∙ zero-add j in
    ap not (list_any_at test numbers j 0 (let count = length-range_with_len 0 (length network.children) in omega (arith, count, low)) (ap test place ∙ gives))
