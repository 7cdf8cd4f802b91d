-- Tables of declarations: how they grow, and what they find.
use Rattle.std.proofs.Common.{◌≡◌, ℕ, ◌+◌, ◌<◌, ◌≤◌, min, Bool, true, cond, List, [], ◌∷◌, ◌++◌, length, map, take, drop, get_or, slice_get, Vec, Some, None, option_map, sym, ap, subst, ◌∙◌, arith, append_assoc}
use Rattle.std.specs.List.{list_any, position, position_or_len}
use Rattle.std.proofs.lemmas.Bool.Decides.{Decides-ltb}
use Rattle.std.proofs.lemmas.List.{take_more, take-append-drop, length-take, length-map, map-append, get_or-take}
use Rattle.std.proofs.lemmas.List.Elements.{All-contains_itself}
use Rattle.std.proofs.lemmas.List.Folds.{find_at}
use Rattle.std.proofs.lemmas.List.Quantifiers.{position-Some}
use Rattle.std.proofs.lemmas.Option.{slice_get-get_or, slice_get-map}
use Rattle.hddl_meaning.specs.Mentions.{Text, IsIn}
use Rattle.hddl_meaning.specs.Names.{is_same_text}
use Rattle.hddl_meaning.specs.Uses.{Variable}
use Rattle.hddl_meaning.specs.Items.{Signature}
use Rattle.hddl_meaning.proofs.Listed.{texts_decide, in_map, found}
use Rattle.hddl_meaning.proofs.Numbers.{any_mapped, first_within}
use Rattle.hddl_scope.specs.Numbers.{number_at}
use Rattle.hddl_uses.specs.Tables.{HasPlaces, IsAmong, IsTableOf, as_parameter, has_name, lists_of}
use Rattle.hddl_uses.specs.declared.signatures.Signatures.{Signatures}
use Rattle.hddl_scope.proofs.Positions.{first_is, next_number, numbers_more}

-- ## One more declaration

-- a table has as many rows as there are declarations
same_length : {X A : Type 0} (f : Signature → List X) (vectors : List (Vec X A)) (signatures : List Signature) → lists_of vectors ≡ map f signatures
    → length vectors ≡ length signatures
same_length f vectors signatures e = sym (length-map vectors (λ v. v.items)) ∙ ap length e ∙ length-map signatures f

-- the table of one more declaration
pub one_more : (signatures : List Signature) (s : Signature) (old new : Signatures) (n : ℕ) → n ≡ length old.places.items
    → ((t : Text) → number_at new.numbers t ≡ next_number old.numbers s.name n t)
    → lists_of new.places.items ≡ lists_of old.places.items ++ map as_parameter s.places ∷ []
    → IsTableOf signatures old → IsTableOf (signatures ++ s ∷ []) new
one_more signatures s old new n long step more table = record {
  numbers = numbers_more (λ (s : Signature). s.name) signatures s old.numbers n (number_at new.numbers)
      (long ∙ same_length (λ s. map as_parameter s.places) old.places.items signatures table.places) step table.numbers;
  places = more ∙ ap (λ l. l ++ map as_parameter s.places ∷ []) table.places ∙ sym (map-append (λ s. map as_parameter s.places) signatures (s ∷ []));
}

-- the step of a loop over declarations
pub next_row : {X : Type 0} (of : X → Signature) (signatures : List Signature) (xs : List X) (k : ℕ) (x : X) → k < length xs → x ≡ get_or xs k x
    → (signatures ++ map of (take k xs)) ++ of x ∷ [] ≡ signatures ++ map of (take (k + 1) xs)
next_row of signatures xs k x lt is =
    append_assoc signatures (map of (take k xs)) (of x ∷ [])
    ∙ ap (λ l. signatures ++ l) (sym (ap (map of) (take_more xs k x lt ∙ ap (λ y. take k xs ++ y ∷ []) (sym is)) ∙ map-append of (take k xs) (x ∷ [])))

-- ## What is found

-- a declaration that stands where there is none
nobody : Signature
nobody = record { name = []; places = [] }

-- a name among the first ones has its number among theirs
among_first : (signatures : List Signature) (count : ℕ) (text : Text) → IsAmong (take count signatures) text
    → (k : ℕ) × (position (has_name text) signatures ≡ Some k) × (k < count) × (k < length signatures)
among_first signatures count text among =
    let p : Signature → Bool = has_name text in
    let front : List Signature = take count signatures in
    let first : ℕ = position_or_len p signatures in
    let whole : front ++ drop count signatures ≡ signatures = take-append-drop count signatures in
    let some : list_any p front ≡ true = sym (any_mapped (is_same_text text) (λ s. s.name) front) ∙ found text (map (λ s. s.name) front) among in
    let below : first < length front = subst (λ l. position_or_len p l < length front) whole (first_within p front (drop count signatures) some) in
    let long : length front ≡ min count (length signatures) = length-take count signatures in
    let within : first < length signatures = omega (arith, below, long) in
    let early : first < count = omega (arith, below, long) in
    (first, ap (λ b. cond b (Some first) None) ((Decides-ltb first (length signatures)).1 within), early, within)

-- the places in a row are those of the declaration at its position
places_at : (signatures : List Signature) (k : ℕ) → k < length signatures
    → slice_get (map (λ s. map as_parameter s.places) signatures) k ≡ Some (map as_parameter (get_or signatures k nobody).places)
places_at signatures k lt =
    slice_get-map (λ s. map as_parameter s.places) signatures k ∙ ap (option_map (λ s. map as_parameter s.places)) (slice_get-get_or signatures k nobody lt)

module _ (signatures : List Signature) (table : Signatures) (count : ℕ) (text : Text) (is : IsTableOf signatures table) where
  -- a name without a number isn't declared
  pub absent : number_at table.numbers text ≡ None → IsAmong (take count signatures) text → ⊥
  absent none among =
      let (k, at, early, within) = among_first signatures count text among in
      let clash : None ≡ Some k = sym none ∙ (is.numbers text ∙ at) in cc

  -- a name with a number that is not below the count isn't among the first ones
  pub later : (number : ℕ) → number_at table.numbers text ≡ Some number → count ≤ number → IsAmong (take count signatures) text → ⊥
  later number some late among =
      let (k, at, early, within) = among_first signatures count text among in
      let same : Some k ≡ Some number = sym at ∙ (sym (is.numbers text) ∙ some) in
      let number_is : k ≡ number = cc in
      let below : number < count = subst (λ n. n < count) number_is early in omega (arith, below, late)

  -- what stands at the number of a name among the first ones is its first declaration
  pub row : (number : ℕ) (places : List Variable) → number_at table.numbers text ≡ Some number → number < count
      → option_map (λ v. v.items) (slice_get table.places.items number) ≡ Some places → IsAmong (take count signatures) text × HasPlaces signatures text places
  row number places some early at =
      let p : Signature → Bool = has_name text in
      let first : position p signatures ≡ Some number = sym (is.numbers text) ∙ some in
      let (within, passes, before) = position-Some p signatures number nobody first in
      let s : Signature = get_or signatures number nobody in
      let front : List Signature = take count signatures in
      let long : length front ≡ min count (length signatures) = length-take count signatures in
      let below : number < length front = omega (arith, long, within, early) in
      let inside : IsIn s front = subst (λ x. IsIn x front) (get_or-take count signatures number nobody early) (All-contains_itself front number nobody below) in
      let same : text ≡ s.name = (texts_decide text s.name).0 passes in
      let among : IsIn text (map (λ s. s.name) front) = subst (λ t. IsIn t (map (λ s. s.name) front)) (sym same) (in_map (λ s. s.name) s front inside) in
      let whole : Some places ≡ Some (map as_parameter s.places) =
      sym at ∙ (sym (slice_get-map (λ v. v.items) table.places.items number) ∙ (ap (λ l. slice_get l number) is.places ∙ places_at signatures number within)) in
      let are : places ≡ map as_parameter s.places = cc in
      (among, (s, find_at p signatures ∙ ap (slice_get signatures) (first_is p signatures number first) ∙ slice_get-get_or signatures number nobody within, are))
