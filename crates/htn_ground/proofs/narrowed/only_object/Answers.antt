use Rattle.std.proofs.Common.{List, [], arith, get_or, length, ltb, refl, sym, true, ◌<◌, ◌≡◌, ◌∙◌, ◌∷◌, ℕ}
use Rattle.std.proofs.lemmas.Bool.Decides.{nat_tests}
use Rattle.std.proofs.lemmas.List.{get_or_default}
use Rattle.htn_ground.proofs.NarrowedBy.{only_choice}
use Rattle.htn_ground.proofs.narrowed.only_object.Goals as goal

inner : (m n : ℕ) → true ≡ ltb m n → m < n
inner m n e = grind (arith, nat_tests)

single : (xs : List ℕ) → length xs ≡ 1 → xs ≡ get_or xs 0 0 ∷ []
single [] e = absurd (omega arith)
single (x ∷ []) e = refl
single (x ∷ y ∷ xs) e = absurd (omega arith)

pub returns-then-objects-eq1 : goal.returns-then-objects-eq1
returns-then-objects-eq1 c values is =
    let domains = c.args.domains.now in
    let p = c.args.parameter in
    let list = c.in-Some.list.now in
    let objects = c.as_slice-objects.result.now in
    let inside : p < length domains = inner p (length domains) c.in-Some.ensures.lookup.0 in
    let at : get_or domains p [] ≡ get_or objects 0 0 ∷ [] =
    get_or_default domains p [] list inside ∙ sym c.in-Some.ensures.lookup.1 ∙ sym c.as_slice-objects.ensures ∙ single objects c.if-objects-eq1.true in
    only_choice domains values p (get_or objects 0 0) is inside at
