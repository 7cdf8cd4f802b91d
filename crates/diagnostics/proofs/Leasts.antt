-- The least score is that of the nearest candidates.
use Rattle.std.specs.Prelude.{◌≡◌, ℕ, ◌+◌, Bool, true, false, not, ◌&&◌, if◌then◌else◌, nat_lt, nat_le, min, List, [], ◌∷◌, map, fold, Option, Some, None, refl}
use Rattle.std.specs.List.{list_all}
use Rattle.std.proofs.Common.{arith, sym, ◌∙◌, ap}
use Rattle.std.proofs.Math.Bool.{and-true}
use Rattle.std.proofs.lemmas.Bool.{le-leb, and_parts}
use Rattle.diagnostics.specs.Near.{distance_of, may_be_meant, is_nearer, is_nearest, indices_from, score_of, lesser, least_of, is_score}

-- whether a distance is no more than a score, if there is one
abbrev is_within : ℕ → Option ℕ → Bool
is_within d None = true
is_within d (Some m) = nat_le d m

le-min : (d m k : ℕ) → nat_le d (min m k) ≡ nat_le d m && nat_le d k
le-min d m k = grind arith

within-lesser : (d : ℕ) (a b : Option ℕ) → is_within d (lesser a b) ≡ is_within d a && is_within d b
within-lesser d None b = refl
within-lesser d (Some m) None = sym (and-true (nat_le d m))
within-lesser d (Some m) (Some k) = le-min d m k

within-choice : (b : Bool) (e d : ℕ) → is_within d (if b then Some e else None) ≡ not (b && nat_lt e d)
within-choice true e d = grind arith
within-choice false e d = refl

and-assoc : (a b c : Bool) → (a && b) && c ≡ a && (b && c)
and-assoc true b c = refl
and-assoc false b c = refl

-- whether no candidate is nearer than a distance
abbrev none_nearer : List ℕ → ℕ → List (List ℕ) → Bool
none_nearer name d candidates = list_all (λ other. not (is_nearer name d other)) candidates

within-fold : (name : List ℕ) (d : ℕ) (first : Option ℕ) (cs : List (List ℕ)) → is_within d (fold lesser first (map (score_of name) cs)) ≡ is_within d first && none_nearer name d cs
within-fold name d first [] = sym (and-true (is_within d first))
within-fold name d first (c ∷ cs) =
    within-fold name d (lesser first (score_of name c)) cs
    ∙ ap (λ b. b && none_nearer name d cs) (within-lesser d first (score_of name c) ∙ ap (λ b. is_within d first && b) (within-choice (may_be_meant name c) (distance_of name c) d))
    ∙ and-assoc (is_within d first) (not (is_nearer name d c)) (none_nearer name d cs)

within-least : (name : List ℕ) (d : ℕ) (cs : List (List ℕ)) → is_within d (least_of (map (score_of name) cs)) ≡ none_nearer name d cs
within-least name d cs = within-fold name d None cs

-- a score is the least exactly where it is within the least, which is within every score
score-choice : (least : Option ℕ) (b : Bool) (e : ℕ) → ((d : ℕ) → is_within d least ≡ true → not (b && nat_lt e d) ≡ true) → is_score least (if b then Some e else None) ≡ b && is_within e least
score-choice None false e bound = refl
score-choice (Some m) false e bound = refl
score-choice None true e bound = grind (arith, bound (e + 1) refl)
score-choice (Some m) true e bound = grind (arith, bound m (le-leb m m (omega arith)))

same-choice : (index : ℕ) (b c : Bool) (xs ys : List ℕ) → b ≡ c → xs ≡ ys → (if b then index ∷ xs else xs) ≡ (if c then index ∷ ys else ys)
same-choice index b c xs ys e f = cc

indices-scores : (name : List ℕ) (all : List (List ℕ)) (index : ℕ) (cs : List (List ℕ)) → ((d : ℕ) → is_within d (least_of (map (score_of name) all)) ≡ true → none_nearer name d cs ≡ true)
    → indices_from (is_score (least_of (map (score_of name) all))) index (map (score_of name) cs) ≡ indices_from (is_nearest name all) index cs
indices-scores name all index [] bound = refl
indices-scores name all index (c ∷ cs) bound =
    let least = least_of (map (score_of name) all) in
    let here = score-choice least (may_be_meant name c) (distance_of name c) (λ d within. (and_parts (not (is_nearer name d c)) (none_nearer name d cs) (bound d within)).0) in
    let same = here ∙ ap (λ b. may_be_meant name c && b) (within-least name (distance_of name c) all) in
    let rest = indices-scores name all (index + 1) cs (λ d within. (and_parts (not (is_nearer name d c)) (none_nearer name d cs) (bound d within)).1) in
    same-choice index _ _ _ _ same rest

-- the indices of the least scores are those of the nearest candidates
pub indices-least : (name : List ℕ) (cs : List (List ℕ)) → indices_from (is_score (least_of (map (score_of name) cs))) 0 (map (score_of name) cs) ≡ indices_from (is_nearest name cs) 0 cs
indices-least name cs = indices-scores name cs 0 cs (λ d within. sym (within-least name d cs) ∙ within)
