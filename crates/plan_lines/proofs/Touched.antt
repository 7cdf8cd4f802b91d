-- Atoms that are touched, and their places.
use Rattle.std.proofs.Common.{◌≡◌, ℕ, zero, suc, ◌+◌, ◌<◌, ◌≤◌, Bool, true, false, not, cond, eqb, ltb, List, [], ◌∷◌, ◌++◌, length, get_or, set, map, Some, None, Vec, position, if◌then◌else◌, ◌⊎◌, inl, inr, refl, sym, ap, ap₂, ◌∙◌, subst, arith}
use Rattle.std.specs.List.{list_any, position_or_len}
use Rattle.std.proofs.lemmas.Bool.{cases_eq, cases_lt, eqb-true, eq-eqb, le-ltb, ltb-true, ltb-false}
use Rattle.std.proofs.lemmas.List.{length-append, length-set, get_or_past, get_or-set_same, get_or-set_other, set_past}
use Rattle.std.proofs.lemmas.List.Folds.{position_or_len_push}
use Rattle.std.proofs.lemmas.List.Sums.{passes_at_first, prefix_len-le-length}
use Rattle.indexmap.specs.IndexSet.{insert_key}
use Rattle.htn_model.specs.Atom.{Atom, atom_eq}
use Rattle.htn_model.specs.AtomOrder.{atom_eq-decides}
use Rattle.htn_model.specs.State.{atoms_of, contains}
use Rattle.plan_lines.specs.Turns.{History, IsHistory, IsRising}

-- equal atoms are the same
pub same_atom : (a b : Atom) → atom_eq a b ≡ true → a ≡ b
same_atom a b h = (atom_eq-decides a b).0 h

-- an atom is the same as itself
pub atom_itself : (a : Atom) → atom_eq a a ≡ true
atom_itself a = (atom_eq-decides a a).1 refl

-- ## Places

-- two cases of a test
when : {P : Type 0} (b : Bool) → (b ≡ true → P) → (b ≡ false → P) → P
when true yes_case no_case = yes_case refl
when false yes_case no_case = no_case refl

-- a place that is found is the first one
pub some_place : {X : Type 0} (p : X → Bool) (xs : List X) (n : ℕ) → position p xs ≡ Some n → (n ≡ position_or_len p xs) × (n < length xs)
some_place p xs n found = when (ltb (position_or_len p xs) (length xs))
    (λ inside.
    let same : n ≡ position_or_len p xs = (let e = rw inside at found in cc) in
    let within : position_or_len p xs < length xs = ltb-true (position_or_len p xs) (length xs) inside in
    (same, omega arith))
    (λ outside. let e = rw outside at found in cc)

-- what isn't found has its place past the end
pub no_place : {X : Type 0} (p : X → Bool) (xs : List X) → position p xs ≡ None → position_or_len p xs ≡ length xs
no_place p xs found = when (ltb (position_or_len p xs) (length xs))
    (λ inside. let e = rw inside at found in cc)
    (λ outside. let most = prefix_len-le-length (λ x. not (p x)) xs in let least = ltb-false (position_or_len p xs) (length xs) outside in omega arith)

-- a list of lists with an empty one more is the same at every place
pub one_empty : {Y : Type 0} (lists : List (List Y)) (i : ℕ) → get_or (lists ++ [] ∷ []) i [] ≡ get_or lists i []
one_empty [] zero = refl
one_empty [] (suc i) = refl
one_empty (ts ∷ lists) zero = refl
one_empty (ts ∷ lists) (suc i) = one_empty lists i

-- past the end there is nothing
past : {Y : Type 0} (lists : List (List Y)) (i j : ℕ) → length lists ≤ i → length lists ≤ j → get_or lists i [] ≡ get_or lists j []
past lists i j h l = get_or_past lists i [] h ∙ sym (get_or_past lists j [] l)

-- a key more, with an empty list, changes no key's list
pub grown_same : {X Y : Type 0} (eq : X → X → Bool) (keys : List X) (lists : List (List Y)) (a b : X) → length lists ≡ length keys
    → get_or (lists ++ [] ∷ []) (position_or_len (eq b) (keys ++ a ∷ [])) [] ≡ get_or lists (position_or_len (eq b) keys) []
grown_same eq keys lists a b long =
    one_empty lists (position_or_len (eq b) (keys ++ a ∷ [])) ∙ ap (λ i. get_or lists i []) (position_or_len_push (eq b) keys a)
    ∙ by (eqb (position_or_len (eq b) keys) (length keys)) refl
  where
    by : (e : Bool) → eqb (position_or_len (eq b) keys) (length keys) ≡ e
        → get_or lists (cond e (length keys + cond (eq b a) 0 1) (position_or_len (eq b) keys)) [] ≡ get_or lists (position_or_len (eq b) keys) []
    by true h = let same = eqb-true (position_or_len (eq b) keys) (length keys) h in past lists _ _ (omega arith) (omega arith)
    by false h = refl

-- an atom more, with no turns, changes no atom's turns
pub touched_same : (atoms : List Atom) (lists : List (List ℕ)) (a b : Atom) → length lists ≡ length atoms
    → get_or (lists ++ [] ∷ []) (position_or_len (atom_eq b) (atoms ++ a ∷ [])) [] ≡ get_or lists (position_or_len (atom_eq b) atoms) []
touched_same atoms lists a b long = grown_same atom_eq atoms lists a b long

-- which atoms come among the first so many stays
first_same : (atoms : List Atom) (a b : Atom) (n : ℕ) → n ≤ length atoms → ltb (position_or_len (atom_eq b) (atoms ++ a ∷ [])) n ≡ ltb (position_or_len (atom_eq b) atoms) n
first_same atoms a b n few = ap (λ k. ltb k n) (position_or_len_push (atom_eq b) atoms a) ∙ by (eqb (position_or_len (atom_eq b) atoms) (length atoms)) refl
  where
    by : (e : Bool) → eqb (position_or_len (atom_eq b) atoms) (length atoms) ≡ e
        → ltb (cond e (length atoms + cond (atom_eq b a) 0 1) (position_or_len (atom_eq b) atoms)) n ≡ ltb (position_or_len (atom_eq b) atoms) n
    by true h =
        let same = eqb-true (position_or_len (atom_eq b) atoms) (length atoms) h in
        le-ltb (length atoms + cond (atom_eq b a) 0 1) n (omega (arith, few)) ∙ sym (le-ltb (position_or_len (atom_eq b) atoms) n (omega (arith, few, same)))
    by false h = refl

-- and its place is the end
pub touched_place : (atoms : List Atom) (a : Atom) → position_or_len (atom_eq a) atoms ≡ length atoms → position_or_len (atom_eq a) (atoms ++ a ∷ []) ≡ length atoms
touched_place atoms a none =
    position_or_len_push (atom_eq a) atoms a
    ∙ ap (λ e. cond e (length atoms + cond (atom_eq a a) 0 1) (position_or_len (atom_eq a) atoms)) (eq-eqb (position_or_len (atom_eq a) atoms) (length atoms) none)
    ∙ ap (λ e. length atoms + cond e 0 1) (atom_itself a) ∙ (let e : length atoms + 0 ≡ length atoms = omega arith in e)

-- ## Turns at a place

-- the atom at a place below the end is the one that has it
at_place : (atoms : List Atom) (a b : Atom) → position_or_len (atom_eq a) atoms < length atoms → position_or_len (atom_eq b) atoms ≡ position_or_len (atom_eq a) atoms → a ≡ b
at_place atoms a b low same =
    let d = a in
    let here = passes_at_first (atom_eq a) atoms d low in
    let there = passes_at_first (atom_eq b) atoms d (subst (λ n. n < length atoms) (sym same) low) in
    same_atom a _ here ∙ ap (λ n. get_or atoms n d) (sym same) ∙ sym (same_atom b _ there)

-- its turns are those that are put there
pub set_here : (atoms : List Atom) (lists : List (List ℕ)) (a : Atom) (turns : List ℕ) → position_or_len (atom_eq a) atoms < length lists
    → get_or (set lists (position_or_len (atom_eq a) atoms) turns) (position_or_len (atom_eq a) atoms) [] ≡ turns
set_here atoms lists a turns low = get_or-set_same lists (position_or_len (atom_eq a) atoms) turns [] low

-- and those of other atoms stay
pub set_there : (atoms : List Atom) (lists : List (List ℕ)) (a b : Atom) (turns : List ℕ) → length lists ≡ length atoms → position_or_len (atom_eq a) atoms < length lists → (a ≡ b → ⊥)
    → get_or (set lists (position_or_len (atom_eq a) atoms) turns) (position_or_len (atom_eq b) atoms) [] ≡ get_or lists (position_or_len (atom_eq b) atoms) []
set_there atoms lists a b turns long low other =
    get_or-set_other lists (position_or_len (atom_eq a) atoms) (position_or_len (atom_eq b) atoms) turns []
    (λ same. other (at_place atoms a b (omega arith) same))

-- ## Histories

-- a touched atom more
pub touched_history : (old new : History) (a : Atom) → IsHistory old → new.initial ≡ old.initial → new.last ≡ old.last → new.atoms ≡ old.atoms ++ a ∷ [] → new.turns ≡ old.turns ++ [] ∷ []
    → IsHistory new
touched_history old new a is initial last atoms turns = record {
  as_many = ap length turns ∙ length-append old.turns ([] ∷ []) ∙ ap (λ n. n + 1) is.as_many ∙ sym (ap length atoms ∙ length-append old.atoms (a ∷ []));
  rising = λ i. subst (λ n. IsRising n (get_or new.turns i [])) (sym last) (subst (IsRising old.last) (sym (ap (λ ls. get_or ls i []) turns ∙ one_empty old.turns i)) (is.rising i));
  many = (let m = is.many in let n = ap (λ s. length (atoms_of s)) initial in let k = ap length atoms ∙ length-append old.atoms (a ∷ []) in omega (arith, m, n, k));
  first = λ b. ap (λ s. contains s b) initial ∙ is.first b ∙ sym (first_same old.atoms a b (length (atoms_of old.initial)) is.many)
      ∙ sym (ap₂ (λ xs s. ltb (position_or_len (atom_eq b) xs) (length (atoms_of s))) atoms initial);
}

-- other turns at a place
pub set_history : (old new : History) (place : ℕ) (turns : List ℕ) → IsHistory old → new.initial ≡ old.initial → new.last ≡ old.last → new.atoms ≡ old.atoms → new.turns ≡ set old.turns place turns
    → IsRising old.last turns → IsHistory new
set_history old new place turns is initial last atoms are rising = record {
  as_many = ap length are ∙ length-set old.turns place turns ∙ is.as_many ∙ sym (ap length atoms);
  many = (let m = is.many in let n = ap (λ s. length (atoms_of s)) initial in let k = ap length atoms in omega (arith, m, n, k));
  first = λ b. ap (λ s. contains s b) initial ∙ is.first b ∙ sym (ap₂ (λ xs s. ltb (position_or_len (atom_eq b) xs) (length (atoms_of s))) atoms initial);
  rising = λ i. subst (λ n. IsRising n (get_or new.turns i [])) (sym last) (subst (IsRising old.last) (sym (ap (λ ls. get_or ls i []) are)) (by i (cases_eq i place)));
}
  where
    by : (i : ℕ) → (i ≡ place) ⊎ (i ≡ place → ⊥) → IsRising old.last (get_or (set old.turns place turns) i [])
    by i (inl same) = elim (cases_lt place (length old.turns)) [
      | inl low ↦ subst (IsRising old.last) (sym (ap (λ k. get_or (set old.turns place turns) k []) same ∙ get_or-set_same old.turns place turns [] low)) rising
      | inr high ↦ subst (IsRising old.last) (sym (ap (λ ls. get_or ls i []) (set_past old.turns place turns high))) (is.rising i)
    ]
    by i (inr other) = subst (IsRising old.last) (sym (get_or-set_other old.turns place i turns [] other)) (is.rising i)

-- an atom that wasn't there is put at the end
pub touched_end : (keys new : List Atom) (a clone : Atom) (n : ℕ) → clone ≡ a → new ≡ insert_key atom_eq keys clone → false ≡ list_any (atom_eq a) keys → None ≡ position (atom_eq a) keys
    → n ≡ length keys → n ≡ position_or_len (atom_eq a) new
touched_end keys new a clone n same is missing none many =
    let whole : new ≡ keys ++ a ∷ [] =
    is ∙ ap (insert_key atom_eq keys) same ∙ ap (λ (b : Bool). if b then keys else keys ++ a ∷ []) (sym missing) in
    many ∙ sym (ap (position_or_len (atom_eq a)) whole ∙ touched_place keys a (no_place (atom_eq a) keys (sym none)))

-- the items at a place, as a list of lists
pub items_at : {A : Type 0} (vectors : List (Vec ℕ A)) (i : ℕ) (v : Vec ℕ A) → i < length vectors → v ≡ get_or vectors i v → v.items ≡ get_or (map (λ w. w.items) vectors) i []
items_at [] i v h is = absurd (omega arith)
items_at (w ∷ vectors) zero v h is = ap (λ x. x.items) is
items_at (w ∷ vectors) (suc i) v h is = items_at vectors i v (omega arith) is
