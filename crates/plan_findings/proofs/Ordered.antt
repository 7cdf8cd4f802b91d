-- Facts in the order of their words.
use Rattle.std.proofs.Common.{◌≡◌, ◌∙◌, ℕ, ◌+◌, ◌<◌, List, [], ◌∷◌, ap, ap₂, arith, get_or, length, map, sym}
use Rattle.std.specs.List.Sorted.{IsSorted}
use Rattle.std.specs.Ordering.{is_lt}
use Rattle.std.specs.declared.cmp.Ordering.{Ordering}
use Rattle.std.proofs.lemmas.List.{get_or-map, length-map}
use Rattle.plan_findings.specs.Runs.{words_cmp}
use Rattle.plan_causes.specs.Facts.{words_of}
use Rattle.plan_causes.specs.declared.run.Fact.{Fact}

-- facts that are sorted by an order are sorted by the same order of their words
pub sorted_words : (cmp : Fact → Fact → Ordering) → ((f g : Fact) → cmp f g ≡ words_cmp (words_of f) (words_of g)) → (facts : List Fact) → IsSorted cmp facts → IsSorted words_cmp (map words_of facts)
sorted_words cmp same [] sorted = λ k d low high. absurd (omega arith)
sorted_words cmp same (f ∷ facts) sorted = λ k d low high.
    let many : length (map words_of (f ∷ facts)) ≡ length (f ∷ facts) = length-map (f ∷ facts) words_of in
    let less : k + 1 < length (f ∷ facts) = omega arith in
    let later : get_or (map words_of (f ∷ facts)) (k + 1) d ≡ words_of (get_or (f ∷ facts) (k + 1) f) = get_or-map words_of (f ∷ facts) (k + 1) f d less in
    let earlier : get_or (map words_of (f ∷ facts)) k d ≡ words_of (get_or (f ∷ facts) k f) = get_or-map words_of (f ∷ facts) k f d (omega arith) in
    ap is_lt (ap₂ words_cmp later earlier) ∙ ap is_lt (sym (same (get_or (f ∷ facts) (k + 1) f) (get_or (f ∷ facts) k f))) ∙ sorted k f low less
