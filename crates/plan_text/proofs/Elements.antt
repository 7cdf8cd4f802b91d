-- One element of a list among the others.
use Rattle.std.proofs.Common.{◌≡◌, ℕ, suc, ◌+◌, ◌<◌, Bool, true, false, ◌&&◌, List, [], ◌∷◌, ◌++◌, length, map, take, drop, drop-cons, get_or, add-one, refl, sym, ap, ◌∙◌, arith}
use Rattle.std.specs.List.{list_all}
use Rattle.std.proofs.lemmas.List.{take-append-drop, map-append}
use Rattle.std.proofs.lemmas.List.Folds.{list_all-append}
use Rattle.plan_text.specs.declared.piece.Piece.{Piece as RustPiece}
use Rattle.plan_text.specs.declared.fault.PlanFault.{PlanFault}
use Rattle.plan_text.specs.declared.fault.PlanFault.TheVariants.{NumberTooLarge}
use Rattle.plan_text.specs.Piece.{Piece}
use Rattle.plan_text.specs.Line.{is_small}
use Rattle.plan_text.specs.Fault.{IsFirstLarge}
use Rattle.plan_text.specs.Adding.{IsNumberFault}
use Rattle.plan_text.specs.Seen.{seen, seen_all}
use Rattle.plan_text.proofs.KindLaws.{first_all}

-- a list is what stands before a place, the value there, and what stands after it
pub split_at : {X : Type 0} (xs : List X) (i : ℕ) (x : X) → i < length xs → x ≡ get_or xs i x → xs ≡ take i xs ++ x ∷ drop (i + 1) xs
split_at xs i x inside is =
    let back : drop i xs ≡ x ∷ drop (i + 1) xs = rw add-one (drop-cons xs i x inside ∙ ap (λ y. y ∷ drop (suc i) xs) (sym is)) in
    sym (take-append-drop i xs) ∙ ap (λ ys. take i xs ++ ys) back

-- what holds of all words holds of one
pub holds_at : (p : Piece → Bool) (ws : List RustPiece) (i : ℕ) (w : RustPiece) → i < length ws → w ≡ get_or ws i w → list_all p (seen_all ws) ≡ true → p (seen w) ≡ true
holds_at p ws i w inside is all =
    let whole : seen_all ws ≡ seen_all (take i ws) ++ seen w ∷ seen_all (drop (i + 1) ws) = ap seen_all (split_at ws i w inside is) ∙ map-append seen (take i ws) (w ∷ drop (i + 1) ws) in
    let parts : (list_all p (seen_all (take i ws)) && list_all p (seen w ∷ seen_all (drop (i + 1) ws))) ≡ true =
    sym (list_all-append p (seen_all (take i ws)) (seen w ∷ seen_all (drop (i + 1) ws))) ∙ ap (list_all p) (sym whole) ∙ all in
    (first_all p (seen w) (seen_all (drop (i + 1) ws)) (second_of (list_all p (seen_all (take i ws))) (list_all p (seen w ∷ seen_all (drop (i + 1) ws))) parts)).0
  where
    second_of : (a b : Bool) → (a && b) ≡ true → b ≡ true
    second_of true b h = h
    second_of false b h = absurd (let e : false ≡ true = h in cc)

-- the first word that is too large
pub first_large : (ws : List RustPiece) (i : ℕ) (w : RustPiece) (fault : PlanFault) → i < length ws → w ≡ get_or ws i w → list_all is_small (seen_all (take i ws)) ≡ true → fault ≡ NumberTooLarge w.place → is_small (seen w) ≡ false → IsNumberFault fault (seen_all ws)
first_large ws i w fault inside is small fault_is large =
    rw fault_is (record {
      front = seen_all (take i ws);
      word = seen w;
      back = seen_all (drop (i + 1) ws);
      whole = ap seen_all (split_at ws i w inside is) ∙ map-append seen (take i ws) (w ∷ drop (i + 1) ws);
      small = small;
      large = large;
      place_is = refl;
    })
