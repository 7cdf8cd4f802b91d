-- The places of children, one after the other.
use Rattle.std.specs.Global.{Vec}
use Rattle.std.proofs.Common.{◌≡◌, ℕ, zero, suc, ◌+◌, ◌-◌, ◌<◌, List, [], ◌∷◌, ◌++◌, length, take, drop, get_or, reverse, sym, ap, ap₂, ◌∙◌, arith}
use Rattle.std.proofs.lemmas.List.{map-append, get_or-map, get_or-reverse, get_or-take, length-reverse, reverse-reverse}
use Rattle.std.specs.List.{remove}
use Rattle.htn_model.specs.Tree.{Place}
use Rattle.htn_model.specs.Choice.{splice}
use Rattle.htn_walk.specs.Places.{places_view, open_places, child_places}
use Rattle.htn_walk.proofs.Reversed.{map_splice, removed, spliced}

-- one child more
children_more : (place : Place) (position count : ℕ) → child_places place position (suc count) ≡ child_places place position count ++ (place ++ (position + count) ∷ []) ∷ []
children_more place position zero = ap (λ k. (place ++ k ∷ []) ∷ []) (let e : position ≡ position + 0 = omega arith in e)
children_more place position (suc count) =
    ap (λ l. (place ++ position ∷ []) ∷ l) (children_more place (suc position) count
    ∙ ap (λ k. child_places place (suc position) count ++ (place ++ k ∷ []) ∷ []) (let e : suc position + count ≡ position + suc count = omega arith in e))

-- one child more
pub one_more : (places out : List (Vec ℕ)) (new : Vec ℕ) (place : Place) (count : ℕ) → places_view places ≡ child_places place 0 count
    → out ≡ places ++ new ∷ [] → new.items ≡ place ++ count ∷ [] → places_view out ≡ child_places place 0 (count + 1)
one_more places out new place count h o n =
    ap places_view o ∙ map-append (λ v. v.items) places (new ∷ [])
    ∙ ap₂ (λ l p. l ++ p ∷ []) h (n ∙ ap (λ k. place ++ k ∷ []) (let e : count ≡ 0 + count = omega arith in e))
    ∙ sym (children_more place 0 count)
    ∙ ap (child_places place 0) (let e : suc count ≡ count + 1 = omega arith in e)

-- what is kept from the last to the first is seen in its order
pub seen_in_order : (places out : List (Vec ℕ)) → out ≡ reverse places → open_places out ≡ places_view places
seen_in_order places out o = ap places_view (ap reverse o ∙ reverse-reverse places)

-- the place of an open node
pub place_seen : (old : List (Vec ℕ)) (place : Vec ℕ) (at position : ℕ) → suc at + position ≡ length old → place ≡ get_or old at place
    → place.items ≡ get_or (open_places old) position []
place_seen old place at position long found =
    let within : position < length old = omega arith in
    let same : at ≡ length old - 1 - position = omega arith in
    ap (λ v. v.items) (found ∙ ap (λ k. get_or old k place) same ∙ sym (get_or-reverse old position place within))
    ∙ sym (get_or-map (λ v. v.items) (reverse old) position place [] (let e = length-reverse old in omega arith))

-- the places of children stand in that of their parent's
pub put_children : (old left earlier out children : List (Vec ℕ)) (place : Vec ℕ) (at position count : ℕ) → suc at + position ≡ length old
    → left ≡ take (suc at) old → earlier ≡ drop (suc at) old
    → place ≡ get_or left at place
    → open_places children ≡ child_places place.items 0 count
    → out ≡ (remove left at ++ children) ++ earlier
    → open_places out ≡ splice position (child_places (get_or (open_places old) position []) 0 count) (open_places old)
put_children old left earlier out children place at position count long l e p c o =
    let found : place ≡ get_or old at place = p ∙ ap (λ xs. get_or xs at place) l ∙ get_or-take (suc at) old at place (omega arith) in
    ap places_view (spliced old left earlier out children at position long l e o)
    ∙ map_splice (λ v. v.items) position (reverse children) (reverse old)
    ∙ ap (λ xs. splice position xs (open_places old)) (c ∙ ap (λ q. child_places q 0 count) (place_seen old place at position long found))

-- a place is taken out
pub place_removed : (old out : List (Vec ℕ)) (at position : ℕ) → suc at + position ≡ length old → out ≡ remove old at → open_places out ≡ splice {X = Place} position [] (open_places old)
place_removed old out at position long o = ap places_view (ap reverse o ∙ removed old at position long) ∙ map_splice (λ v. v.items) position [] (reverse old)
