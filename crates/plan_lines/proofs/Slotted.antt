-- Atoms that are listed at slots.
use Rattle.std.proofs.Common.{◌≡◌, ◌∙◌, ◌+◌, ◌<◌, ◌≤◌, ◌++◌, ◌∷◌, Bool, List, Some, [], ap, ap₂, arith, cond, eqb, false, get_or, if◌then◌else◌, inl, inr, length, map, refl, set, slice_get, subst, suc, sym, true, zero, ℕ}
use Rattle.std.specs.List.{list_any, position_or_len}
use Rattle.std.proofs.lemmas.Bool.{cases_eq, eqb-true}
use Rattle.std.proofs.lemmas.List.{get_or-set_other, get_or-set_same, length-append, length-set}
use Rattle.std.proofs.lemmas.List.Folds.{position_or_len_push}
use Rattle.std.proofs.lemmas.Option.{slice_get-get_or}
use Rattle.indexmap.specs.IndexSet.{insert_key}
use Rattle.htn_model.specs.Atom.{Atom}
use Rattle.htn_model.specs.PlanFile.{IsIn}
use Rattle.plan_lines.specs.EverTrue.{AreMore, IsListed, listed, slot_eq}
use Rattle.plan_lines.specs.Slots.{slot_eq-decides}
use Rattle.plan_lines.specs.Turns.{History, IsEverTrue}
use Rattle.plan_lines.specs.declared.ever_true.Lists.{Lists}
use Rattle.plan_lines.specs.declared.ever_true.Slot.{Slot}
use Rattle.plan_lines.specs.declared.ever_true.Slot.TheVariants.{Argument, Predicate}
use Rattle.plan_lines.proofs.Listing.{in_back, in_front}
use Rattle.plan_lines.proofs.Touched.{grown_same}

-- ## Lists at a place

-- what a list is seen as at a place
pub viewed_at : {A B : Type 0} (f : A → List B) (xs : List A) (i : ℕ) (v : A) → i < length xs → v ≡ get_or xs i v → f v ≡ get_or (map f xs) i []
viewed_at f [] i v below is = absurd (omega (arith, below))
viewed_at f (x ∷ xs) zero v below is = ap f is
viewed_at f (x ∷ xs) (suc i) v below is = viewed_at f xs i v (omega (arith, below)) is

-- the list of a slot
abbrev pub list_at : List Slot → List (List Atom) → Slot → List Atom
list_at slots lists slot = get_or lists (position_or_len (slot_eq slot) slots) []

-- an atom more at a place leaves what was listed
pub put_kept : (slots : List Slot) (lists : List (List Atom)) (place : ℕ) (a : Atom) → place < length lists → (slot : Slot) (b : Atom) → IsIn b (list_at slots lists slot)
    → IsIn b (list_at slots (set lists place (get_or lists place [] ++ a ∷ [])) slot)
put_kept slots lists place a below slot b i = elim (cases_eq (position_or_len (slot_eq slot) slots) place) [
  | inl same ↦
      subst (λ (l : List Atom). IsIn b l)
      (sym (ap (λ k. get_or (set lists place (get_or lists place [] ++ a ∷ [])) k []) same ∙ get_or-set_same lists place (get_or lists place [] ++ a ∷ []) [] below))
      (in_front b (get_or lists place []) (a ∷ []) (subst (λ k. IsIn b (get_or lists k [])) same i))
  | inr other ↦ subst (λ (l : List Atom). IsIn b l) (sym (get_or-set_other lists place (position_or_len (slot_eq slot) slots) (get_or lists place [] ++ a ∷ []) [] other)) i
]

-- and is there itself
pub put_there : (slots : List Slot) (lists : List (List Atom)) (a : Atom) (slot : Slot) → position_or_len (slot_eq slot) slots < length lists
    → IsIn a (list_at slots (set lists (position_or_len (slot_eq slot) slots) (list_at slots lists slot ++ a ∷ [])) slot)
put_there slots lists a slot below =
    subst (λ (l : List Atom). IsIn a l) (sym (get_or-set_same lists (position_or_len (slot_eq slot) slots) (list_at slots lists slot ++ a ∷ []) [] below))
    (in_back a (list_at slots lists slot) (a ∷ []) (inl refl))

-- a slot's place is where it comes if it is put at the end
place_same : (slots : List Slot) (slot : Slot) → position_or_len (slot_eq slot) (slots ++ slot ∷ []) ≡ position_or_len (slot_eq slot) slots
place_same slots slot = position_or_len_push (slot_eq slot) slots slot ∙ by (eqb (position_or_len (slot_eq slot) slots) (length slots)) refl
  where
    by : (e : Bool) → eqb (position_or_len (slot_eq slot) slots) (length slots) ≡ e
        → cond e (length slots + cond (slot_eq slot slot) 0 1) (position_or_len (slot_eq slot) slots) ≡ position_or_len (slot_eq slot) slots
    by true h =
        let itself : slot_eq slot slot ≡ true = (slot_eq-decides slot slot).1 refl in
        let zero_more : ℕ = 0 in let none : cond (slot_eq slot slot) 0 1 ≡ zero_more = ap (λ b. cond b zero_more 1) itself in
        let same = eqb-true (position_or_len (slot_eq slot) slots) (length slots) h in
        omega (arith, none, same)
    by false h = refl

-- what is known once an atom is put at a slot
pub record IsPut (slots keys : List Slot) (lists done : List (List Atom)) (slot : Slot) (a : Atom) : Type 0 where
  pub as_many : length done ≡ length keys
  pub kept : (s : Slot) (b : Atom) → IsIn b (list_at slots lists s) → IsIn b (list_at keys done s)
  pub there : IsIn a (list_at keys done slot)

-- it is so where each slot has its list
put_in : (slots keys : List Slot) (lists mid done : List (List Atom)) (slot : Slot) (a : Atom) (place : ℕ) → length mid ≡ length keys
    → ((s : Slot) → list_at keys mid s ≡ list_at slots lists s) → place ≡ position_or_len (slot_eq slot) keys → place < length keys
    → (place < length mid → done ≡ set mid place (get_or mid place [] ++ a ∷ [])) → IsPut slots keys lists done slot a
put_in slots keys lists mid done slot a place many same at below put = let is = put (omega (arith, below, many)) in record {
  as_many = ap length is ∙ length-set mid place (get_or mid place [] ++ a ∷ []) ∙ many;
  kept = λ s b i. subst (λ (d : List (List Atom)). IsIn b (list_at keys d s)) (sym is)
      (put_kept keys mid place a (omega (arith, below, many)) s b (subst (λ (l : List Atom). IsIn b l) (sym (same s)) i));
  there = subst (λ (d : List (List Atom)). IsIn a (list_at keys d slot)) (sym (is ∙ ap (λ k. set mid k (get_or mid k [] ++ a ∷ [])) at))
      (put_there keys mid a slot (omega (arith, below, many, at)));
}

-- a slot that was there
pub put_old : (slots keys : List Slot) (lists mid done : List (List Atom)) (slot : Slot) (a : Atom) (place : ℕ) → length lists ≡ length slots → keys ≡ insert_key slot_eq slots slot
    → list_any (slot_eq slot) slots ≡ true → mid ≡ lists → place ≡ position_or_len (slot_eq slot) slots → place < length keys
    → (place < length mid → done ≡ set mid place (get_or mid place [] ++ a ∷ [])) → IsPut slots keys lists done slot a
put_old slots keys lists mid done slot a place many put found mids at below is =
    let same : keys ≡ slots = put ∙ ap (λ (b : Bool). if b then slots else slots ++ slot ∷ []) found in
    put_in slots keys lists mid done slot a place (ap length mids ∙ many ∙ sym (ap length same))
    (λ s. ap₂ (λ ks ls. list_at ks ls s) same mids) (at ∙ sym (ap (position_or_len (slot_eq slot)) same)) below is

-- a new one
pub put_new : (slots keys : List Slot) (lists mid done : List (List Atom)) (slot : Slot) (a : Atom) (place : ℕ) → length lists ≡ length slots → keys ≡ insert_key slot_eq slots slot
    → list_any (slot_eq slot) slots ≡ false → mid ≡ lists ++ [] ∷ [] → place ≡ position_or_len (slot_eq slot) slots → place < length keys
    → (place < length mid → done ≡ set mid place (get_or mid place [] ++ a ∷ [])) → IsPut slots keys lists done slot a
put_new slots keys lists mid done slot a place many put found mids at below is =
    let same : keys ≡ slots ++ slot ∷ [] = put ∙ ap (λ (b : Bool). if b then slots else slots ++ slot ∷ []) found in
    put_in slots keys lists mid done slot a place
    (ap length mids ∙ length-append lists ([] ∷ []) ∙ ap (λ n. n + 1) many ∙ sym (ap length same ∙ length-append slots (slot ∷ [])))
    (λ s. ap₂ (λ ks ls. list_at ks ls s) same mids ∙ grown_same slot_eq slots lists slot s many)
    (at ∙ sym (ap (position_or_len (slot_eq slot)) same ∙ place_same slots slot)) below is

-- ## Slot by slot

-- what is added twice
pub more_more : (old mid new : Lists) → AreMore old mid → AreMore mid new → AreMore old new
more_more old mid new first second = record { as_many = second.as_many; kept = λ slot a i. second.kept slot a (first.kept slot a i) }

-- an atom is listed at one argument more
pub argument_more : (lists : Lists) (a : Atom) (p n : ℕ) (items : List ℕ) → items ≡ a.arguments → n < length items → IsIn a (listed lists (Argument p n (get_or items n 0)))
    → ((k o : ℕ) → k < n → slice_get a.arguments k ≡ Some o → IsIn a (listed lists (Argument p k o)))
    → (k o : ℕ) → k < n + 1 → slice_get a.arguments k ≡ Some o → IsIn a (listed lists (Argument p k o))
argument_more lists a p n items are within here before k o below at = elim (cases_eq k n) [
  | inl same ↦
      let some : Some (get_or items n 0) ≡ Some o = sym (slice_get-get_or items n 0 within) ∙ ap₂ (λ l i. slice_get l i) are (sym same) ∙ at in
      let one : get_or items n 0 ≡ o = cc in
      subst (λ i. IsIn a (listed lists (Argument p i o))) (sym same) (subst (λ x. IsIn a (listed lists (Argument p n x))) one here)
  | inr other ↦ before k o (omega (arith, below, other)) at
]

-- what has a place is below the end
below_end : (xs : List ℕ) (k o : ℕ) → slice_get xs k ≡ Some o → k < length xs
below_end [] k o at = absurd cc
below_end (x ∷ xs) zero o at = omega arith
below_end (x ∷ xs) (suc k) o at = let below = below_end xs k o at in omega (arith, below)

-- and so at all slots
pub all_slots : (lists : Lists) (a : Atom) (p n : ℕ) (items : List ℕ) → items ≡ a.arguments → length items ≤ n → p ≡ a.predicate → IsIn a (listed lists (Predicate p))
    → ((k o : ℕ) → k < n → slice_get a.arguments k ≡ Some o → IsIn a (listed lists (Argument p k o))) → IsListed lists a
all_slots lists a p n items are end same here each (Predicate q) has = subst (λ x. IsIn a (listed lists (Predicate x))) (same ∙ has) here
all_slots lists a p n items are end same here each (Argument q k o) has =
    let below = below_end a.arguments k o has.1 in
    let long = ap length are in
    subst (λ x. IsIn a (listed lists (Argument x k o))) (same ∙ has.0) (each k o (omega (arith, below, long, end)) has.1)

-- ## Atom by atom

-- one atom more, if it is ever true
pub each_more : (h : History) (keys : List Atom) (n : ℕ) (x : Atom) (P : Atom → Type 0) → slice_get keys n ≡ Some x
    → ((k : ℕ) (a : Atom) → k < n → slice_get keys k ≡ Some a → IsEverTrue h a → P a) → (IsEverTrue h x → P x)
    → (k : ℕ) (a : Atom) → k < n + 1 → slice_get keys k ≡ Some a → IsEverTrue h a → P a
each_more h keys n x P is before here k a below at ever = elim (cases_eq k n) [
  | inl same ↦
      let some : Some x ≡ Some a = sym is ∙ ap (slice_get keys) (sym same) ∙ at in
      let one : x ≡ a = cc in
      subst P one (here (subst (IsEverTrue h) (sym one) ever))
  | inr other ↦ before k a (omega (arith, below, other)) at ever
]
