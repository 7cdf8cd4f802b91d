-- Lists that grow by one piece, and choices by one object.
use Rattle.std.proofs.Common.{◌≡◌, ◌+◌, ◌<◌, ◌∙◌, ◌++◌, ◌∷◌, List, [], ap, append-nil, append_assoc, get_or, length, map, refl, sym, take, ℕ}
use Rattle.std.specs.List.{flat_map}
use Rattle.std.proofs.lemmas.List.{map-append, take_more}
use Rattle.std.proofs.lemmas.List.Concat.{flat_map-append}
use Rattle.htn_model.specs.Task.{Task, objects_of}
use Rattle.htn_model.specs.Instances.{assignments, domains_of}
use Rattle.htn_ground.specs.Assigned.{lengthened}

-- one more piece
pub flat_map_more : {X Y : Type 0} (f : X → List Y) (xs : List X) (i : ℕ) (x : X) → i < length xs → x ≡ get_or xs i x
    → flat_map f (take (i + 1) xs) ≡ flat_map f (take i xs) ++ f x
flat_map_more f xs i x below is =
    ap (flat_map f) (take_more xs i x below)
    ∙ flat_map-append f (take i xs) (get_or xs i x ∷ [])
    ∙ ap (λ l. flat_map f (take i xs) ++ l) (append-nil (f (get_or xs i x)) ∙ ap f (sym is))

-- a loop's step: what is found so far and one more piece
pub pieces_more : {X Y : Type 0} (f : X → List Y) (xs : List X) (i : ℕ) (x : X) (start done next : List Y) → i < length xs → x ≡ get_or xs i x
    → done ≡ start ++ flat_map f (take i xs) → next ≡ done ++ f x → next ≡ start ++ flat_map f (take (i + 1) xs)
pieces_more f xs i x start done next below is so_far pushed =
    pushed ∙ ap (λ l. l ++ f x) so_far ∙ append_assoc start (flat_map f (take i xs)) (f x) ∙ ap (λ l. start ++ l) (sym (flat_map_more f xs i x below is))

-- ## Choices by their last object

-- choices of one object
single_choices : (objects : List ℕ) → flat_map (λ o. map (λ rest. o ∷ rest) ([] ∷ [])) objects ≡ lengthened ([] ∷ []) objects
single_choices objects = singles objects ∙ sym (append-nil (map (λ o. o ∷ []) objects))
  where
    singles : (objects : List ℕ) → flat_map (λ o. map (λ rest. o ∷ rest) ([] ∷ [])) objects ≡ map (λ o. o ∷ []) objects
    singles [] = refl
    singles (o ∷ objects) = ap (λ l. (o ∷ []) ∷ l) (singles objects)

-- an object in front of a choice that grows at its end
longer_first : (x : ℕ) (choice : List ℕ) (objects : List ℕ) → map (λ o. (x ∷ choice) ++ o ∷ []) objects ≡ map (λ rest. x ∷ rest) (map (λ o. choice ++ o ∷ []) objects)
longer_first x choice [] = refl
longer_first x choice (o ∷ objects) = ap (λ l. (x ∷ (choice ++ o ∷ [])) ∷ l) (longer_first x choice objects)

-- the same of all choices
lengthened-first : (x : ℕ) (objects : List ℕ) (choices : List (List ℕ)) → lengthened (map (λ rest. x ∷ rest) choices) objects ≡ map (λ rest. x ∷ rest) (lengthened choices objects)
lengthened-first x objects [] = refl
lengthened-first x objects (choice ∷ choices) =
    (λ i. longer_first x choice objects i ++ lengthened-first x objects choices i)
    ∙ sym (map-append (λ rest. x ∷ rest) (map (λ o. choice ++ o ∷ []) objects) (lengthened choices objects))

-- the same for each of some objects
lengthened-pieces : (objects : List ℕ) (choices : List (List ℕ)) (xs : List ℕ)
    → flat_map (λ x. map (λ rest. x ∷ rest) (lengthened choices objects)) xs ≡ lengthened (flat_map (λ x. map (λ rest. x ∷ rest) choices) xs) objects
lengthened-pieces objects choices [] = refl
lengthened-pieces objects choices (x ∷ xs) =
    (λ i. sym (lengthened-first x objects choices) i ++ lengthened-pieces objects choices xs i)
    ∙ sym (flat_map-append (λ choice. map (λ o. choice ++ o ∷ []) objects) (map (λ rest. x ∷ rest) choices) (flat_map (λ y. map (λ rest. y ∷ rest) choices) xs))

-- assignments with one parameter more
pub assignments-last : (domains : List (List ℕ)) (objects : List ℕ) → assignments (domains ++ objects ∷ []) ≡ lengthened (assignments domains) objects
assignments-last [] objects = single_choices objects
assignments-last (domain ∷ domains) objects =
    ap (λ (choices : List (List ℕ)). flat_map (λ x. map (λ rest. x ∷ rest) choices) domain) (assignments-last domains objects)
    ∙ lengthened-pieces objects (assignments domains) domain

-- assignments to the types up to the next one
pub assignments_more : (t : Task) (types : List ℕ) (i : ℕ) → i < length types
    → assignments (domains_of t (take (i + 1) types)) ≡ lengthened (assignments (domains_of t (take i types))) (objects_of t (get_or types i 0))
assignments_more t types i below =
    ap (λ (l : List ℕ). assignments (domains_of t l)) (take_more types i 0 below)
    ∙ ap assignments (map-append (objects_of t) (take i types) (get_or types i 0 ∷ []))
    ∙ assignments-last (domains_of t (take i types)) (objects_of t (get_or types i 0))
