-- What contracts see of a pass, and the seat that it is made of.
use Rattle.std.proofs.Common.{◌≡◌, ℕ, zero, suc, ◌+◌, ◌-◌, ◌<◌, ◌≤◌, Bool, cond, eqb, List, [], ◌∷◌, ◌++◌, length, get_or, replicate, flat_map, sum_by, All, Contains, Any, Option, Some, None, IfNone, IfSome, MatchOption, min, true, if◌then◌else◌, refl, sym, ap, ap₂, ◌∙◌, subst, arith, length-append}
use mathlib.Core.Logic.{dite}
use mathlib.Core.Option.{some, some-injective, some-ne-none}
use lib.ListN.{get_elem?}
use native.Mathlib.Decide.{ℕ_discrete}
use mathlib.Core.List.{append-nil, append_assoc}
use Rattle.std.proofs.lemmas.List.Sums.{sum_by-cons, sum_by_push, get_or-le-sum_by}
use Rattle.std.proofs.lemmas.List.Concat.{flat_map-append}
use Rattle.atomic_table.specs.Seated.{TableId}
use Rattle.word_machine.specs.declared.view.Size.{Size}
use Rattle.word_machine.specs.declared.view.View.{View}
use Rattle.word_machine.specs.Desk.{DeskState, PassState, times, once_below, HasEachBelow, IsLeast}
use Rattle.std.proofs.lemmas.List.{replicate-append-replicate}
use Rattle.atomic_table.specs.Table.{Me}
use Rattle.word_machine.specs.Views.{state_of, whole, without_one, no_place}
use Rattle.word_machine.proofs.Keeps.{once-same, once-other, IsLast}

-- the pieces of a pass's desk are those of the desk that it is called at, and so is its table
pub pieces_same : (p : PassState) (d : DeskState) (v : View) (id id' : TableId) (b : Bool) (size : Size) → state_of id v b ≡ p → p.desk ≡ d → record { id = id'; pieces = size.pieces; seats = size.seats } ≡ d → v.size.pieces ≡ size.pieces
pieces_same p d v id id' b size e own f = ap (λ (q : PassState). q.desk.pieces) e ∙ (ap (λ (q : DeskState). q.pieces) own ∙ sym (ap (λ (q : DeskState). q.pieces) f))

-- passes at one desk have seats of one table
pub table_same : (p : PassState) (d : DeskState) (v : View) (id id' : TableId) (b : Bool) (size : Size) → state_of id v b ≡ p → p.desk ≡ d → record { id = id'; pieces = size.pieces; seats = size.seats } ≡ d → id ≡ id'
table_same p d v id id' b size e own f = ap (λ (q : PassState). q.desk.id) e ∙ (ap (λ (q : DeskState). q.id) own ∙ sym (ap (λ (q : DeskState). q.id) f))

-- ---- how often, and whether

-- how often a number stands in a list with one more in front
times-cons : (x y : ℕ) (xs : List ℕ) → times x (y ∷ xs) ≡ cond (eqb y x) 1 0 + times x xs
times-cons x y xs = sum_by-cons (λ (z : ℕ). cond (eqb z x) 1 0) y xs

-- what is at a place stands there
pub times_at : (xs : List ℕ) (k d : ℕ) → k < length xs → 0 < times (get_or xs k d) xs
times_at [] k d h = absurd (omega arith)
times_at (x ∷ xs) zero d h = let c = times-cons x x xs in let one = once-same x in omega arith
times_at (x ∷ xs) (suc k) d h = let c = times-cons (get_or xs k d) x xs in let r = times_at xs k d (omega arith) in omega arith

-- what stands in the list is at some place
pub contains_of_times : (xs : List ℕ) (x : ℕ) → 0 < times x xs → Contains xs x
contains_of_times [] x h = absurd (omega arith)
contains_of_times (y ∷ ys) x h = dite (ℕ_discrete y x)
    (λ e. (0, omega arith, e))
    (λ apart. let c = times-cons x y ys in let none = once-other y x apart in let r = contains_of_times ys x (omega arith) in (suc r.0, omega arith, r.2))

-- a number in a list stands there at least once
pub times_of_contains : (xs : List ℕ) (x : ℕ) → Contains xs x → 0 < times x xs
times_of_contains xs x h = subst (λ y. 0 < times y xs) h.2 (times_at xs h.0 x h.1)

-- a list in which no number stands is empty
pub empty_of_times : (xs : List ℕ) → ((x : ℕ) → 0 < times x xs → ⊥) → xs ≡ []
empty_of_times [] h = refl
empty_of_times (x ∷ xs) h = absurd (h x (times_at (x ∷ xs) 0 0 (omega arith)))

-- what holds of each number that stands in a list holds of all of it
pub all_of_times : (P : ℕ → Type 0) (xs : List ℕ) → ((x : ℕ) → 0 < times x xs → P x) → All P xs
all_of_times P xs h k d l = h (get_or xs k d) (times_at xs k d l)

-- what follows where there is none follows from it there
pub none_then : {X : Type 0} (o : Option X) {P Q : Type 0} → IfNone o P → (P → Q) → IfNone o Q
none_then None h f = f h
none_then (Some x) h f = tt

-- ---- the seat that is cut into passes

-- the view of a pass together with the table of all
abbrev Sat : Type 0
Sat = Me (Unit {0}) View

-- a seat that stands for this many, and has done nothing
abbrev pub fresh : Size → ℕ → Sat
fresh size seats = (record (whole size) { seats = seats }, [])

-- after a seat is given away, a fresh view is fresh with one seat less
pub cut_left : (m m' : Sat) (k k' : ℕ) → m ≡ fresh m.0.size k → m' ≡ (without_one m.0, m.1) → k' ≡ k - 1 → m' ≡ fresh m'.0.size k'
cut_left m m' k k' e e' is =
    let same : m'.0.size ≡ m.0.size = ap (λ (n : Sat). n.0.size) e' in
    let cut : m' ≡ fresh m.0.size (k - 1) = e' ∙ ap (λ (n : Sat). let l : Sat = (without_one n.0, n.1) in l) e in
    cut ∙ ap₂ fresh (sym same) (sym is)

-- a pass of the same table and size stays at its desk
pub desk_stays : (id id' : TableId) (m m' : Sat) (desk : DeskState) → id' ≡ id → m'.0.size ≡ m.0.size → record { id = id; pieces = m.0.size.pieces; seats = m.0.size.seats } ≡ desk
    → record { id = id'; pieces = m'.0.size.pieces; seats = m'.0.size.seats } ≡ desk
desk_stays id id' m m' desk e is was = ap₂ (λ (i : TableId) (z : Size). let d : DeskState = record { id = i; pieces = z.pieces; seats = z.seats } in d) e is ∙ was

-- one more of the same makes a list of so many
pub replicate-push : (n k : ℕ) (x y : PassState) → y ≡ x → k ≡ n + 1 → replicate n x ++ y ∷ [] ≡ replicate k x
replicate-push n k x y e is = ap (λ (z : PassState). replicate n x ++ z ∷ []) e ∙ (replicate-append-replicate n 1 x ∙ ap (λ (j : ℕ). replicate j x) (sym is))

-- ---- passes that are taken off a list, from its end

-- the last of a list may be taken off and its part put before the rest
pub flat_map-taken : (f : PassState → List ℕ) (all items : List PassState) (p : PassState) (old whole q : List ℕ) → all ≡ items ++ p ∷ [] → q ≡ f p → flat_map f all ++ old ≡ whole → flat_map f items ++ (q ++ old) ≡ whole
flat_map-taken f all items p old whole q is same was =
    ap (λ r. flat_map f items ++ (r ++ old)) same
    ∙ (sym (append_assoc (flat_map f items) (f p) old)
    ∙ (ap (λ l. l ++ old) (sym (ap (flat_map f) is ∙ (flat_map-append f items (p ∷ []) ∙ ap (λ l. flat_map f items ++ l) (append-nil (f p)))))
    ∙ was))

-- the same for sums
pub sum_by-taken : {X : Type 0} (f : X → ℕ) (all items : List X) (p : X) (old whole q : ℕ) → all ≡ items ++ p ∷ [] → q ≡ f p → sum_by f all + old ≡ whole → sum_by f items + (q + old) ≡ whole
sum_by-taken f all items p old whole q is same was = let e : sum_by f all ≡ sum_by f items + f p = ap (sum_by f) is ∙ sum_by_push f items p in omega arith

-- the same for lengths
pub length-taken : {X : Type 0} (all items : List X) (p : X) (old whole : ℕ) → all ≡ items ++ p ∷ [] → length all + old ≡ whole → length items + (1 + old) ≡ whole
length-taken all items p old whole is was = let e : length all ≡ length items + 1 = ap length is ∙ length-append items (p ∷ []) in omega arith

-- ---- the end

-- what stands at a place is what is read there
pub get_or_of_at : (xs : List ℕ) (i a : ℕ) → get_elem? xs i ≡ some a → get_or xs i 0 ≡ a
get_or_of_at [] i a e = absurd (some-ne-none a (sym e))
get_or_of_at (x ∷ xs) zero a e = some-injective x a e
get_or_of_at (x ∷ xs) (suc i) a e = get_or_of_at xs i a e

-- what holds of none and of some holds of the case at hand
pub match_option : {X : Type 0} (o : Option X) (P : Type 0) (Q : X → Type 0) → IfNone o P → IfSome o Q → MatchOption o P Q
match_option None P Q h k = h
match_option (Some x) P Q h k = k

-- the view of a seat that stands for all passes says what all passes did
pub drawn_of_last : (size : Size) (draw least : ℕ) (v : View) (all : List ℕ) → IsLast size draw least v → v.drawn ≡ all → HasEachBelow (min draw size.pieces) all
drawn_of_last size draw least v all last is x = subst (λ xs. times x xs ≡ once_below x (min draw size.pieces)) is (last.drawn x)

-- where all seats are one and a pass ended, all numbers were drawn
pub ended_of_last : (size : Size) (draw least : ℕ) (v : View) (passes : List PassState) → IsLast size draw least v → v.ended ≡ sum_by (λ p. if p.ended then 1 else 0) passes → Any (λ p. p.ended ≡ true) passes → min draw size.pieces ≡ size.pieces
ended_of_last size draw least v passes last is some_ended =
    let f : PassState → ℕ = λ p. if p.ended then 1 else 0 in
    let at = get_or-le-sum_by f passes some_ended.0 some_ended.1 some_ended.2 in
    let one : f (get_or passes some_ended.0 some_ended.1) ≡ 1 = ap f some_ended.3 ∙ ap (λ (b : Bool). cond b 1 0) some_ended.4 in
    let counted = last.counted in omega arith

-- where no least place stands, nothing was reported
pub empty_of_last : (size : Size) (draw least : ℕ) (v : View) (all : List ℕ) → IsLast size draw least v → v.reported ≡ all → least ≡ no_place → all ≡ []
empty_of_last size draw least v all last is none_reported = sym is ∙ empty_of_times v.reported (λ x h. let t = last.lowest x h in omega arith)

-- where a least place stands, it is the least that was reported
pub least_of_last : (size : Size) (draw least : ℕ) (v : View) (all : List ℕ) → IsLast size draw least v → v.reported ≡ all → least < no_place → IsLeast all least
least_of_last size draw least v all last is below =
    subst (λ xs. IsLeast xs least) is (contains_of_times v.reported least (last.reached below), all_of_times (λ x. least ≤ x) v.reported (λ x h. (last.lowest x h).0))

-- all that was seen was reported, and is no less than the least
pub seen_of_last : (size : Size) (draw least : ℕ) (v : View) (all places : List ℕ) → IsLast size draw least v → v.seen ≡ all → v.reported ≡ places → All (λ x. Contains places x × (least ≤ x)) all
seen_of_last size draw least v all places last is reported =
    subst (λ (z : List ℕ × List ℕ). All (λ x. Contains z.1 x × (least ≤ x)) z.0) (λ i. (is i, reported i))
    (all_of_times (λ x. Contains v.reported x × (least ≤ x)) v.seen (λ x h. let t = last.seen x h in (contains_of_times v.reported x t.1, t.0)))
