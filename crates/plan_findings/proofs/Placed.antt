-- Places of literals, of one condition more.
use Rattle.std.proofs.Common.{rules, ◌≡◌, ◌∙◌, ◌⊎◌, ℕ, ◌+◌, ◌<◌, List, [], ◌∷◌, ◌++◌, ap, append-nil, append_assoc, get_or, inl, inr, length, map, subst, sym, take}
use Rattle.std.specs.List.{flat_map}
use Rattle.std.proofs.lemmas.Grind.{flat_map-append}
use Rattle.std.proofs.lemmas.List.{map_more}
use Rattle.hddl_words.specs.declared.condition.Condition.{Condition, Forall, the_lemmas}
use Rattle.hddl_words.specs.declared.term.VariableGroup.{VariableGroup}
use Rattle.htn_model.specs.PlanFile.{IsIn}
use Rattle.htn_model.proofs.Ascending.{in_left, in_right, in_split}
use Rattle.plan_findings.specs.Conditions.{AddsAmong, AreAmong, places_in, places_of}

-- no places are among any
pub none_among : (all : List ℕ) → AreAmong [] all
none_among all = record { each = λ place i. absurd i }

-- places are among themselves
pub themselves : (all : List ℕ) → AreAmong all all
themselves all = record { each = λ place i. i }

-- places that are among some, which are among others
pub among_wider : (places all others : List ℕ) → AreAmong places all → AreAmong all others → AreAmong places others
among_wider places all others are wider = record { each = λ place i. wider.each place (are.each place i) }

-- some are among these with more
pub among_left : (all more : List ℕ) → AreAmong all (all ++ more)
among_left all more = record { each = λ place i. in_left place all more i }

-- the others too
pub among_right : (all more : List ℕ) → AreAmong more (all ++ more)
among_right all more = record { each = λ place i. in_right place all more i }

-- what is added to places that are among some
pub among_added : (old new all : List ℕ) → AreAmong old all → AddsAmong old new all → AreAmong new all
among_added old new all are adds =
    subst (λ (l : List ℕ). AreAmong l all) (sym adds.is) (record { each = λ place i. by place (in_split place old adds.added i) })
  where
    by : (place : ℕ) → IsIn place old ⊎ IsIn place adds.added → IsIn place all
    by place (inl i) = are.each place i
    by place (inr i) = adds.among.each place i

-- nothing is added
pub none_added : (old all : List ℕ) → AddsAmong old old all
none_added old all = record { added = []; is = sym (append-nil old); among = none_among all }

-- some are added after others
pub more_added : (old new more part all : List ℕ) → AddsAmong old new all → more ≡ new ++ part → AreAmong part all → AddsAmong old more all
more_added old new more part all are is among = record {
  added = are.added ++ part;
  is = is ∙ ap (λ l. l ++ part) are.is ∙ append_assoc old are.added part;
  among = among_added are.added (are.added ++ part) all are.among (record { added = part; is = (λ i. are.added ++ part); among = among });
}

-- what is added is among others
pub wider_added : (old new all others : List ℕ) → AddsAmong old new all → AreAmong all others → AddsAmong old new others
wider_added old new all others are wider = record { added = are.added; is = are.is; among = among_wider are.added all others are.among wider }

-- a `forall` has the places of its body
pub places_of_forall : (groups : List VariableGroup) (body : List Condition) → places_in (Forall groups body) ≡ places_of body
places_of_forall groups body = search (rules, the_lemmas)

-- the places of one condition more
pub places_more : (xs : List Condition) (i : ℕ) (x : Condition) → i < length xs → x ≡ get_or xs i x → places_of (take (i + 1) xs) ≡ places_of (take i xs) ++ places_in x
places_more xs i x less is =
    ap (flat_map (λ places. places)) (map_more places_in xs i x less)
    ∙ flat_map-append (λ places. places) (map places_in (take i xs)) (places_in (get_or xs i x) ∷ [])
    ∙ ap (λ l. places_of (take i xs) ++ l) (append-nil (places_in (get_or xs i x)) ∙ ap places_in (sym is))

-- the places of the conditions so far, and of one more
pub among_more : (xs : List Condition) (i : ℕ) (x : Condition) (old new : List ℕ) → i < length xs → x ≡ get_or xs i x
    → AreAmong old (places_of (take i xs)) → AddsAmong old new (places_in x) → AreAmong new (places_of (take (i + 1) xs))
among_more xs i x old new less is are adds =
    let front = places_of (take i xs) in
    subst (λ (l : List ℕ). AreAmong new l) (sym (places_more xs i x less is))
    (among_added old new (front ++ places_in x)
    (among_wider old front (front ++ places_in x) are (among_left front (places_in x)))
    (wider_added old new (places_in x) (front ++ places_in x) adds (among_right front (places_in x))))
