-- What numbers stand for, as tables grow.
use Rattle.std.proofs.Common.{◌≡◌, ℕ, List, [], ◌∷◌, ◌++◌, length, map, refl, sym, ap, subst, ◌∙◌, arith, slice_get, Some, get_or, All, suc, zero, flat_map}
use Rattle.std.specs.Prelude.{Option, None, IfNone, IfSome}
use Rattle.std.proofs.lemmas.List.{map-append, length-map}
use Rattle.std.proofs.lemmas.List.Elements.{All-head, All-tail, All-cons}
use Rattle.std.proofs.lemmas.Option.{none-some, same_Some, slice_get_within, slice_get-get_or, get_or_from_slice_get}
use Rattle.word_machine.specs.declared.closed.Measured.{Measured}
use Rattle.word_machine.specs.Meaning.{Meaning, AreMeasured, IsGrown}
use Rattle.word_machine.specs.Ranks.{IsOwned}

module _ {X Y : Type 0} (f : X → Y) where
  -- the image at a place
  pub slice_get-map : (xs : List X) (k : ℕ) (x : X) → slice_get xs k ≡ Some x → slice_get (map f xs) k ≡ Some (f x)
  slice_get-map [] k x at = absurd (none-some x at)
  slice_get-map (y ∷ xs) zero x at = ap (λ z. Some (f z)) (same_Some y x at)
  slice_get-map (y ∷ xs) (suc k) x at = slice_get-map xs k x at

  -- what the image at a place is the image of
  pub slice_get-map_back : (xs : List X) (k : ℕ) (y : Y) → slice_get (map f xs) k ≡ Some y → (x : X) × (slice_get xs k ≡ Some x) × (f x ≡ y)
  slice_get-map_back [] k y at = absurd (none-some y at)
  slice_get-map_back (x ∷ xs) zero y at = (x, refl, same_Some (f x) y at)
  slice_get-map_back (x ∷ xs) (suc k) y at = slice_get-map_back xs k y at

  -- images of joined lists
  pub map-flat_map : (lists : List (List X)) → map f (flat_map (λ xs. xs) lists) ≡ flat_map (λ xs. xs) (map (map f) lists)
  map-flat_map [] = refl
  map-flat_map (xs ∷ lists) = map-append f xs (flat_map (λ xs. xs) lists) ∙ ap (λ l. map f xs ++ l) (map-flat_map lists)

-- two functions that agree on the elements
pub map_same : {X Y : Type 0} (f g : X → Y) (P : X → Type 0) → ((x : X) → P x → f x ≡ g x) → (xs : List X) → All P xs → map f xs ≡ map g xs
map_same f g P agree [] each = refl
map_same f g P agree (x ∷ xs) each =
    ap (λ y. y ∷ map f xs) (agree x (All-head P x xs each)) ∙ ap (λ l. g x ∷ l) (map_same f g P agree xs (All-tail P x xs each))

-- what holds of the images holds of what they are images of
pub all_of_map : {X Y : Type 0} (f : X → Y) (P : Y → Type 0) (xs : List X) → All P (map f xs) → All (λ x. P (f x)) xs
all_of_map f P xs each k d inside =
    let many : length (map f xs) ≡ length xs = length-map xs f in
    let at = slice_get-map f xs k (get_or xs k d) (slice_get-get_or xs k d inside) in
    subst P (get_or_from_slice_get (map f xs) k (f (get_or xs k d)) (f d) at) (each k (f d) (omega arith))

-- and the other way round
pub all_map : {X Y : Type 0} (f : X → Y) (P : Y → Type 0) (xs : List X) → All (λ x. P (f x)) xs → All P (map f xs)
all_map f P [] each = λ k d inside. absurd (omega arith)
all_map f P (x ∷ xs) each = All-cons P (f x) (map f xs) (All-head (λ x. P (f x)) x xs each) (all_map f P xs (All-tail (λ x. P (f x)) x xs each))

-- what holds of each element, by the place
pub all_at : {X : Type 0} (P : X → Type 0) (xs : List X) → All P xs → (k : ℕ) (x : X) → slice_get xs k ≡ Some x → P x
all_at P xs each k x at = subst P (get_or_from_slice_get xs k x x at) (each k x (slice_get_within xs k x at))

-- what follows for each
pub all_by : {X : Type 0} (P Q : X → Type 0) → ((x : X) → P x → Q x) → (xs : List X) → All P xs → All Q xs
all_by P Q implies xs each = λ k d inside. implies (get_or xs k d) (each k d inside)

module _ {C R P : Type 0} where
  -- nothing has changed
  pub grown_none : (m : Meaning C R P) → IsGrown m m
  grown_none m = record { known = λ c own. own; same = λ c own. refl; allowed = λ r own. own; same_reached = λ r own. refl }

  -- growth after growth
  pub grown_more : (a b c : Meaning C R P) → IsGrown a b → IsGrown b c → IsGrown a c
  grown_more a b c g h = record {
    known = λ x own. h.known x (g.known x own);
    same = λ x own. h.same x (g.known x own) ∙ g.same x own;
    allowed = λ r own. h.allowed r (g.allowed r own);
    same_reached = λ r own. h.same_reached r (g.allowed r own) ∙ g.same_reached r own;
  }

  module _ (a b : Meaning C R P) (g : IsGrown a b) where
    -- what was known is known
    pub known_still : (keys : List C) → All a.knows keys → All b.knows keys
    known_still keys each = all_by a.knows b.knows g.known keys each

    -- and stands for the same
    pub same_points : (keys : List C) → All a.knows keys → map b.point keys ≡ map a.point keys
    same_points keys each = map_same b.point a.point a.knows g.same keys each

    -- what was measured is so as well
    pub measured_still : (measure : P → ℕ) (measured : List (Measured R))
        → All (λ (s : Measured R). a.allows s.successor.configuration) measured
        → AreMeasured measure a measured → AreMeasured measure b measured
    measured_still measure measured allowed each k d inside =
        each k d inside ∙ ap measure (sym (g.same_reached (get_or measured k d).successor.configuration (allowed k d inside)))

    -- the machine's own stay so
    pub owned_still : (belongs : P → Type 0) (c : C) → IsOwned a belongs c → IsOwned b belongs c
    owned_still belongs c own = (g.known c own.0, subst belongs (sym (g.same c own.0)) own.1)

  -- configurations that are numbered, of points that belong
  pub all_owned : (m : Meaning C R P) (belongs : P → Type 0) (keys : List C) → All m.knows keys → All belongs (map m.point keys) → All (IsOwned m belongs) keys
  all_owned m belongs keys known own = λ k d inside. (known k d inside, all_of_map m.point belongs keys own k d inside)

-- what follows where there is none
pub IfNone-weaker : {X : Type 0} (o : Option X) {A B : Type 0} → (A → B) → IfNone o A → IfNone o B
IfNone-weaker None f a = f a
IfNone-weaker (Some x) f a = a

-- and where there is one
pub IfSome-weaker : {X : Type 0} (o : Option X) (P Q : X → Type 0) → ((x : X) → P x → Q x) → IfSome o P → IfSome o Q
IfSome-weaker None P Q f p = p
IfSome-weaker (Some x) P Q f p = f x p
