-- The kind that is found is the kind of the words.
use Rattle.std.proofs.Common.{◌≡◌, ℕ, zero, suc, ◌+◌, ◌-◌, ◌<◌, ◌≤◌, Bool, true, false, not, List, [], ◌∷◌, ◌++◌, length, map, take, drop, get_or, Some, None, Option, refl, sym, ap, ◌∙◌, arith, add-one}
use Rattle.std.specs.List.{position, position_or_len, list_all}
use Rattle.std.proofs.lemmas.List.{take-map, drop-map}
use Rattle.plan_text.specs.declared.piece.Piece.{Piece as RustPiece}
use Rattle.plan_text.specs.Piece.{Piece}
use Rattle.plan_text.specs.Line.{LineKind, is_arrow, is_no_arrow, is_number}
use Rattle.plan_text.specs.Reading.{named_kind, cut_kind, decomposition_kind}
use Rattle.plan_text.specs.Seen.{seen, seen_all}
use Rattle.plan_text.proofs.Cutting.{rest_of}

-- a line with an arrow, as the code cuts it
pub named_cut : (id : Piece) (words : List RustPiece) (name : RustPiece) (n : ℕ) → name ≡ get_or words 0 name → 1 ≤ length words → false ≡ is_arrow (seen name) → let rest : List RustPiece = take (length words - 1) (drop 1 words) in Some n ≡ position is_arrow (seen_all rest) → named_kind id (seen_all words) ≡ decomposition_kind id (seen name) (seen_all (take n rest)) (seen_all (take (length rest - (n + 1)) (drop (n + 1) rest)))
named_cut id [] name n is some no_arrow found = absurd (omega arith)
named_cut id (first ∷ words) name n is some no_arrow found =
    let rest : take (length (first ∷ words) - 1) (drop 1 (first ∷ words)) ≡ words = rest_of (first ∷ words) 1 in
    let clear : is_arrow (seen first) ≡ false = rw is at (sym no_arrow) in
    let at : position is_arrow (seen_all words) ≡ Some n = rw rest at (sym found) in
    let same : seen first ≡ seen name = ap seen (sym is) in
    let front : take n (seen_all words) ≡ seen_all (take n words) = take-map seen n words in
    let back : drop (n + 1) (seen_all words) ≡ seen_all (drop (n + 1) words) = drop-map seen (n + 1) words in
    rw (rest, rest_of words (n + 1), clear, at, front, back, same)
