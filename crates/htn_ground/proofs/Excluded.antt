-- Objects that are left out are ruled out.
use Rattle.std.proofs.Common.{◌≡◌, ℕ, Bool, true, false, not, ◌&&◌, List, [], ◌∷◌, ◌++◌, length, get_or, ◌+◌, ◌<◌, refl, sym, ap, subst, ◌∙◌, arith, eqb, length-append}
use Rattle.std.specs.Prelude.{nat_eq}
use Rattle.std.specs.List.{All}
use Rattle.std.proofs.lemmas.Bool.Decides.{nat_tests}
use Rattle.std.proofs.lemmas.List.Folds.{Any-from_list_any, list_any_at}
use Rattle.htn_model.specs.State.{State}
use Rattle.htn_ground.specs.declared.candidates.Candidates.{Candidates}
use Rattle.htn_ground.specs.declared.fixed.FixedLiteral.{FixedLiteral}
use Rattle.htn_ground.specs.Candidates.{AgreesWith, Excludes, is_excluded, is_left_out}
use Rattle.htn_ground.specs.Search.{fixed_holds, is_bound, is_ruled_out_so_far}

-- what agrees with one of the literals excludes for all
pub excludes_from : (state : State) (literals : List FixedLiteral) (i depth : ℕ) (l : FixedLiteral) (c : Candidates) → i < length literals → l ≡ get_or literals i l
    → c.depth ≡ depth → is_bound (depth + 1) l ≡ true → AgreesWith state l c → Excludes state literals c
excludes_from state literals i depth l c inside is at bound agrees values o long e =
    let all = values ++ o ∷ [] in
    let count : length all ≡ depth + 1 = omega (arith, length-append values (o ∷ []), long, at) in
    let binds : is_bound (length all) l ≡ true = ap (λ n. is_bound n l) count ∙ bound in
    list_any_at (λ m. is_bound (length all) m && not (fixed_holds state all m)) literals i l inside
    (ap (λ (m : FixedLiteral). is_bound (length all) m && not (fixed_holds state all m)) (sym is) ∙ (λ j. binds j && not (agrees values o e j)))

-- the first of both
and_first : (a b : Bool) → (a && b) ≡ true → a ≡ true
and_first true b e = refl
and_first false b e = cc

-- the second of both
and_second : (a b : Bool) → (a && b) ≡ true → b ≡ true
and_second true b e = e
and_second false b e = cc

-- an object that some literal leaves out is ruled out
pub left_out : (state : State) (literals : List FixedLiteral) (all : List Candidates) (values : List ℕ) (o : ℕ) → All (Excludes state literals) all → is_left_out state all values o ≡ true
    → is_ruled_out_so_far state literals (values ++ o ∷ []) ≡ true
left_out state literals all values o excludes is =
    let found = Any-from_list_any (λ (c : Candidates). nat_eq c.depth (length values) && is_excluded state c values o) all is in
    let c = found.1 in
    let one : Excludes state literals c = subst (λ (d : Candidates). Excludes state literals d) found.3 (excludes found.0 c found.2) in
    one values o (same c.depth (length values) (and_first _ _ found.4)) (and_second _ _ found.4)
  where
    same : (m n : ℕ) → eqb m n ≡ true → n ≡ m
    same m n e = grind (arith, nat_tests)

-- the literals at a place of the list leave out what they exclude
pub left_out_at : (state : State) (all : List Candidates) (i : ℕ) (c : Candidates) (values : List ℕ) (o : ℕ) → i < length all → c ≡ get_or all i c → c.depth ≡ length values → is_excluded state c values o ≡ true
    → is_left_out state all values o ≡ true
left_out_at state all i c values o inside is at excluded =
    list_any_at (λ (d : Candidates). nat_eq d.depth (length values) && is_excluded state d values o) all i c inside
    (ap (λ (d : Candidates). nat_eq d.depth (length values) && is_excluded state d values o) (sym is) ∙ (λ j. same c.depth (length values) at j && excluded j))
  where
    same : (m n : ℕ) → m ≡ n → eqb m n ≡ true
    same m n e = grind (arith, nat_tests)
