-- Places of lines by their kinds.
use Rattle.std.proofs.Common.{◌≡◌, ℕ, Bool, true, false, if◌then◌else◌, List, [], ◌∷◌, ◌++◌, Option, None, Some, IfNone, IfSome, refl, sym, ap, ◌∙◌, subst}
use Rattle.htn_model.specs.PlanFile.{PlanFile}
use Rattle.plan_text.specs.FileText.{FileText, body}
use Rattle.plan_text.specs.Line.{AreLines, IsOfKind, LineKind, contents_of}
use Rattle.plan_text.specs.Piece.{Piece, words}
use Rattle.plan_text.specs.Places.{AreFound, AreKindPlaces, AreKinds, ArePlaces, is_action, is_decomposition, is_roots, place_if, places_of}
use Rattle.plan_text.specs.declared.places.LinePlaces.{LinePlaces}
use Rattle.plan_text.proofs.KindLaws.{one_kind}

-- one line more
pub kinds_more : (front : List Piece) (kinds : List LineKind) (line : Piece) (kind : LineKind) → AreKinds front kinds → IsOfKind (words line) kind
    → AreKinds (front ++ line ∷ []) (kinds ++ kind ∷ [])
kinds_more [] [] line kind are is = (is, tt)
kinds_more [] (k ∷ kinds) line kind are is = absurd are
kinds_more (l ∷ front) [] line kind are is = absurd are
kinds_more (l ∷ front) (k ∷ kinds) line kind are is = (are.0, kinds_more front kinds line kind are.1 is)

-- its place comes last
pub places_more : (is_one : LineKind → Bool) (front : List Piece) (kinds : List LineKind) (line : Piece) (kind : LineKind) → AreKinds front kinds
    → places_of is_one (front ++ line ∷ []) (kinds ++ kind ∷ []) ≡ places_of is_one front kinds ++ place_if is_one line.place kind
places_more is_one [] [] line kind are = refl
places_more is_one [] (k ∷ kinds) line kind are = absurd are
places_more is_one (l ∷ front) [] line kind are = absurd are
places_more is_one (l ∷ front) (k ∷ kinds) line kind are = by (is_one k) (places_more is_one front kinds line kind are.1)
  where
    by : (b : Bool) → places_of is_one (front ++ line ∷ []) (kinds ++ kind ∷ []) ≡ places_of is_one front kinds ++ place_if is_one line.place kind
        → (if b then l.place ∷ places_of is_one (front ++ line ∷ []) (kinds ++ kind ∷ []) else places_of is_one (front ++ line ∷ []) (kinds ++ kind ∷ []))
        ≡ (if b then l.place ∷ places_of is_one front kinds else places_of is_one front kinds) ++ place_if is_one line.place kind
    by true same = ap (λ ps. l.place ∷ ps) same
    by false same = same

-- what was found of the first lines, and of one more
pub found_more : (front : List Piece) (old new : LinePlaces) (line : Piece) (kind : LineKind) → AreFound front old → IsOfKind (words line) kind
    → new.actions.items ≡ old.actions.items ++ place_if is_action line.place kind → new.roots.items ≡ old.roots.items ++ place_if is_roots line.place kind
    → new.decompositions.items ≡ old.decompositions.items ++ place_if is_decomposition line.place kind → AreFound (front ++ line ∷ []) new
found_more front old new line kind found is actions roots decompositions = record {
  kinds = found.kinds ++ kind ∷ [];
  are = kinds_more front found.kinds line kind found.are is;
  places = record {
    actions = actions ∙ ap (λ ps. ps ++ place_if is_action line.place kind) found.places.actions ∙ sym (places_more is_action front found.kinds line kind found.are);
    roots = roots ∙ ap (λ ps. ps ++ place_if is_roots line.place kind) found.places.roots ∙ sym (places_more is_roots front found.kinds line kind found.are);
    decompositions = decompositions ∙ ap (λ ps. ps ++ place_if is_decomposition line.place kind) found.places.decompositions
        ∙ sym (places_more is_decomposition front found.kinds line kind found.are);
  };
}

-- a line of no kind among others
pub no_kinds : (front : List Piece) (line : Piece) (rest : List Piece) → ((kind : LineKind) → IsOfKind (words line) kind → ⊥) → (kinds : List LineKind)
    → AreKinds (front ++ line ∷ rest) kinds → ⊥
no_kinds [] line rest none [] are = are
no_kinds [] line rest none (kind ∷ kinds) are = none kind are.0
no_kinds (l ∷ front) line rest none [] are = are
no_kinds (l ∷ front) line rest none (kind ∷ kinds) are = no_kinds front line rest none kinds are.1

-- lines of kinds are of these kinds by their words
pub kinds_of_lines : (between : List Piece) (kinds : List LineKind) → AreLines between kinds → AreKinds between kinds
kinds_of_lines [] [] are = tt
kinds_of_lines [] (k ∷ kinds) are = absurd are
kinds_of_lines (l ∷ between) [] are = absurd are
kinds_of_lines (l ∷ between) (k ∷ kinds) are = (are.0.of_kind, kinds_of_lines between kinds are.1)

-- and of no others
pub one_kinds : (between : List Piece) (ks ls : List LineKind) → AreKinds between ks → AreKinds between ls → ks ≡ ls
one_kinds [] [] [] a b = refl
one_kinds [] [] (l ∷ ls) a b = absurd b
one_kinds [] (k ∷ ks) ls a b = absurd a
one_kinds (x ∷ between) [] ls a b = absurd a
one_kinds (x ∷ between) (k ∷ ks) [] a b = absurd b
one_kinds (x ∷ between) (k ∷ ks) (l ∷ ls) a b =
    let head = one_kind (words x) k l a.0 b.0 in
    ap (λ y. y ∷ ks) head ∙ ap (λ ys. l ∷ ys) (one_kinds between ks ls a.1 b.1)

-- what was found of the lines between the markers are the places of the file
pub file_places : (text : List ℕ) (between : List Piece) (p : LinePlaces) → body text ≡ Some between → AreFound between p → (file : PlanFile) → FileText file text
    → ArePlaces file text p
file_places text between p is found file held =
    let same : held.between ≡ between = some_same held.between between (sym held.body_is ∙ is) in
    let are : AreKinds between held.holds.kinds = subst (λ ls. AreKinds ls held.holds.kinds) same (kinds_of_lines held.between held.holds.kinds held.holds.each) in
    let kinds : held.holds.kinds ≡ found.kinds = one_kinds between held.holds.kinds found.kinds are found.are in
    record {
      between = between;
      kinds = found.kinds;
      body_is = is;
      each = subst (λ ks. AreLines between ks) kinds (subst (λ ls. AreLines ls held.holds.kinds) same held.holds.each);
      contents = ap contents_of (sym kinds) ∙ held.holds.contents;
      places = found.places;
    }
  where
    some_same : (xs ys : List Piece) → Some xs ≡ Some ys → xs ≡ ys
    some_same xs ys e = cc

-- lines of no kinds hold no file
pub no_file : (text : List ℕ) (between : List Piece) → body text ≡ Some between → ((kinds : List LineKind) → AreKinds between kinds → ⊥) → (file : PlanFile) → FileText file text → ⊥
no_file text between is none file held =
    let same : held.between ≡ between = some_same held.between between (sym held.body_is ∙ is) in
    none held.holds.kinds (subst (λ ls. AreKinds ls held.holds.kinds) same (kinds_of_lines held.between held.holds.kinds held.holds.each))
  where
    some_same : (xs ys : List Piece) → Some xs ≡ Some ys → xs ≡ ys
    some_same xs ys e = cc

-- the same of what may have been found
pub if_file_places : (text : List ℕ) (between : List Piece) (found : Option LinePlaces) → body text ≡ Some between → IfSome found (AreFound between)
    → IfSome found (λ p. (file : PlanFile) → FileText file text → ArePlaces file text p)
if_file_places text between None is found = found
if_file_places text between (Some p) is found = file_places text between p is found

pub if_no_file : (text : List ℕ) (between : List Piece) (found : Option LinePlaces) → body text ≡ Some between → IfNone found ((kinds : List LineKind) → AreKinds between kinds → ⊥)
    → IfNone found ((file : PlanFile) → FileText file text → ⊥)
if_no_file text between None is none = no_file text between is none
if_no_file text between (Some p) is none = none
