-- The elements at some indices.
use Rattle.std.proofs.Common.{◌≡◌, ℕ, zero, suc, ◌+◌, ◌<◌, ◌≤◌, Some, None, List, [], ◌∷◌, ◌++◌, length, get_or, take, map, filter_map, option_map, slice_get, refl, ap, ◌∙◌, arith}
use Rattle.std.proofs.lemmas.List.{take_more, append-nil}
use Rattle.std.proofs.lemmas.List.Elements.{filter_map-append}
use Rattle.std.specs.List.{cons_option}

-- an element of what a function makes of a list
pub slice_get_mapped : {X Y : Type 0} (f : X → Y) (xs : List X) (i : ℕ) → slice_get (map f xs) i ≡ option_map f (slice_get xs i)
slice_get_mapped f [] i = refl
slice_get_mapped f (x ∷ xs) zero = refl
slice_get_mapped f (x ∷ xs) (suc i) = slice_get_mapped f xs i

-- past the end there is none
pub slice_get_past : {X : Type 0} (xs : List X) (i : ℕ) → length xs ≤ i → slice_get xs i ≡ None
slice_get_past [] i h = refl
slice_get_past (x ∷ xs) zero h = absurd (omega arith)
slice_get_past (x ∷ xs) (suc i) h = slice_get_past xs i (omega arith)

module _ {X : Type 0} (xs : List X) (ns : List ℕ) (k : ℕ) (h : k < length ns) where
  -- one index more
  picks_more : filter_map (slice_get xs) (take (k + 1) ns) ≡ filter_map (slice_get xs) (take k ns) ++ cons_option (slice_get xs (get_or ns k 0)) []
  picks_more = ap (filter_map (slice_get xs)) (take_more ns k 0 h) ∙ filter_map-append (slice_get xs) (take k ns) (get_or ns k 0 ∷ [])

  pub picks_more_some : (x : X) → slice_get xs (get_or ns k 0) ≡ Some x → filter_map (slice_get xs) (take (k + 1) ns) ≡ filter_map (slice_get xs) (take k ns) ++ x ∷ []
  picks_more_some x is = picks_more ∙ ap (λ o. filter_map (slice_get xs) (take k ns) ++ cons_option o []) is

  pub picks_more_none : slice_get xs (get_or ns k 0) ≡ None → filter_map (slice_get xs) (take (k + 1) ns) ≡ filter_map (slice_get xs) (take k ns)
  picks_more_none is = picks_more ∙ ap (λ o. filter_map (slice_get xs) (take k ns) ++ cons_option o []) is ∙ append-nil (filter_map (slice_get xs) (take k ns))
