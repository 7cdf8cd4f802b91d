-- Effects by the numbers of their atoms.
use Rattle.std.proofs.Common.{◌≡◌, ℕ, ◌+◌, ◌<◌, eqb, Bool, true, false, cond, not, ◌||◌, ◌&&◌, ◌⊎◌, inl, inr, List, [], ◌∷◌, ◌++◌, Some, Option, length, map, filter, take, get_or, slice_get, refl, sym, ap, ap₂, subst, ◌∙◌, arith}
use Rattle.std.specs.List.{list_any}
use Rattle.std.specs.FinMap.{contains_key-keys}
use Rattle.std.specs.Cmp.{both_ways, tied_itself}
use Rattle.std.specs.Ordering.{is_eq}
use Rattle.std.proofs.lemmas.Bool.{true≢false, eqb-true, eq-eqb}
use Rattle.std.proofs.lemmas.List.{map-append, take_more}
use Rattle.std.proofs.lemmas.List.Elements.{filter_more}
use Rattle.std.proofs.lemmas.Option.{slice_get-get_or, slice_get_within}
use Rattle.htn_model.specs.Problem.{AreChanged}
use Rattle.htn_model.proofs.Ascending.{any_in, at_in}
use Rattle.htn_model.specs.Atom.{Atom}
use Rattle.htn_model.specs.AtomOrder.{atom_cmp-total, same_state}
use Rattle.htn_model.specs.State.{State, contains, atoms_of}
use Rattle.htn_model.specs.Literal.{Action, after}
use Rattle.htn_model.proofs.Sets.{is_same, same_as, contains-after}
use Rattle.state_table.specs.Bits.{has, has_changed, IsBits}
use Rattle.state_table.specs.Table.{Table, IsTable, IsLater, IsSetOf, is_changed, is_fluent, is_fluent_by, state_of}
use Rattle.state_table.specs.Compiled.{AreNumbers}
use Rattle.state_table.proofs.Keys.{some_same, not_true, one_place, slice_get-append}
use Rattle.state_table.proofs.States.{is_itself, numbered, numbered_is, unnumbered_is, filter_any}
use Rattle.state_table.proofs.Words.{past_has}

-- equal lists have equal heads
heads : {A : Type 0} (x y : A) (xs ys : List A) → x ∷ xs ≡ y ∷ ys → x ≡ y
heads x y xs ys e = cc

-- and equal tails
tails : {A : Type 0} (x y : A) (xs ys : List A) → x ∷ xs ≡ y ∷ ys → xs ≡ ys
tails x y xs ys e = cc

-- the empty list has no head
no_cons : {A : Type 0} (x : A) (xs : List A) → [] ≡ x ∷ xs → ⊥
no_cons x xs e = cc

-- and a list with a head is not empty
no_nil : {A : Type 0} (x : A) (xs : List A) → x ∷ xs ≡ [] → ⊥
no_nil x xs e = cc

-- numbers stay in a longer list
still : (table more : List Atom) (numbers : List ℕ) (atoms : List Atom) → map (slice_get table) numbers ≡ map Some atoms → map (slice_get (table ++ more)) numbers ≡ map Some atoms
still table more [] [] e = refl
still table more [] (a ∷ atoms) e = absurd (no_cons _ _ e)
still table more (n ∷ numbers) [] e = absurd (no_nil _ _ e)
still table more (n ∷ numbers) (a ∷ atoms) e =
    ap₂ (λ x xs. x ∷ xs) (slice_get-append table more n a (heads _ _ _ _ e)) (still table more numbers atoms (tails _ _ _ _ e))

-- numbers stay in tables that grow
pub numbers_later : (t later : Table) → IsLater t later → (numbers : List ℕ) (atoms : List Atom) → AreNumbers t numbers atoms → AreNumbers later numbers atoms
numbers_later t later grown numbers atoms are =
    ap (λ l. map (slice_get l) numbers) grown.atoms ∙ still t.atoms grown.more numbers atoms are

-- one more number, of one more atom
pub numbers_push : (t : Table) (numbers : List ℕ) (n : ℕ) (atoms : List Atom) (a : Atom) → AreNumbers t numbers atoms → slice_get t.atoms n ≡ Some a → AreNumbers t (numbers ++ n ∷ []) (atoms ++ a ∷ [])
numbers_push t numbers n atoms a are at =
    map-append (slice_get t.atoms) numbers (n ∷ [])
    ∙ ap₂ (λ (l : List (Option Atom)) o. l ++ o ∷ []) are at
    ∙ sym (map-append Some atoms (a ∷ []))

-- the number of the next atom
pub numbers_more : (t : Table) (numbers : List ℕ) (n : ℕ) (atoms : List Atom) (i : ℕ) (a : Atom) → i < length atoms → AreNumbers t numbers (take i atoms) → slice_get t.atoms n ≡ Some (get_or atoms i a)
    → AreNumbers t (numbers ++ n ∷ []) (take (i + 1) atoms)
numbers_more t numbers n atoms i a less are at =
    numbers_push t numbers n (take i atoms) (get_or atoms i a) are at ∙ ap (map Some) (sym (take_more atoms i a less))

module _ (t : Table) where
  -- a number is among those of some atoms where its atom is among them
  pub numbers_any : IsTable t → (q : Atom) (k : ℕ) → slice_get t.atoms k ≡ Some q → (numbers : List ℕ) (atoms : List Atom) → AreNumbers t numbers atoms
      → list_any (eqb k) numbers ≡ list_any (is_same q) atoms
  numbers_any table q k at [] [] e = refl
  numbers_any table q k at [] (a ∷ atoms) e = absurd (no_cons _ _ e)
  numbers_any table q k at (n ∷ numbers) [] e = absurd (no_nil _ _ e)
  numbers_any table q k at (n ∷ numbers) (a ∷ atoms) e =
      let here : slice_get t.atoms n ≡ Some a = heads _ _ _ _ e in
      ap₂ (λ x y. x || y)
      (both_ways (eqb k n) (is_same q a)
      (λ same. ap (is_same q) (some_same a q (sym here ∙ ap (slice_get t.atoms) (sym (eqb-true k n same)) ∙ at)) ∙ ap is_eq (tied_itself atom_cmp-total q))
      (λ same. eq-eqb k n (one_place t.atoms table.numbering.distinct k n q at (here ∙ ap Some (sym (same_as q a same))))))
      (numbers_any table q k at numbers atoms (tails _ _ _ _ e))

  -- an atom without a number is not among them
  pub unnumbered_any : (q : Atom) → ((k : ℕ) → slice_get t.atoms k ≡ Some q → ⊥) → (numbers : List ℕ) (atoms : List Atom) → AreNumbers t numbers atoms → list_any (is_same q) atoms ≡ false
  unnumbered_any q none [] [] e = refl
  unnumbered_any q none [] (a ∷ atoms) e = absurd (no_cons _ _ e)
  unnumbered_any q none (n ∷ numbers) [] e = absurd (no_nil _ _ e)
  unnumbered_any q none (n ∷ numbers) (a ∷ atoms) e =
      ap₂ (λ x y. x || y)
      (not_true (is_same q a) (λ same. none n (heads _ _ _ _ e ∙ ap Some (sym (same_as q a same)))))
      (unnumbered_any q none numbers atoms (tails _ _ _ _ e))

  -- numbers of atoms are below the count
  pub numbers_within : (x : ℕ) (numbers : List ℕ) (atoms : List Atom) → AreNumbers t numbers atoms → list_any (eqb x) numbers ≡ true → x < length t.atoms
  numbers_within x [] atoms e any = absurd (true≢false (sym any))
  numbers_within x (n ∷ numbers) [] e any = absurd (no_nil _ _ e)
  numbers_within x (n ∷ numbers) (a ∷ atoms) e any =
      elim (eqb x n) as (λ b. eqb x n ≡ b → (b || list_any (eqb x) numbers) ≡ true → x < length t.atoms) [
        | true ↦ λ same _. subst (λ k. k < length t.atoms) (sym (eqb-true x n same)) (slice_get_within t.atoms n a (heads _ _ _ _ e))
        | false ↦ λ _ any. numbers_within x numbers atoms (tails _ _ _ _ e) any
      ] refl any

  module _ (words next deletes adds : List ℕ) (action : Action) (are_deletes : AreNumbers t deletes (atoms_of action.deletes)) (are_adds : AreNumbers t adds (atoms_of action.adds))
      (is : (x : ℕ) → has next x ≡ has_changed words deletes adds x) where
    -- the effects on bits are those on the state
    pub after_is : IsTable t → state_of t next ≡ after (state_of t words) action
    after_is table = same_state _ _ (λ q. by q (numbered q t.atoms))
      where
        turned : (a b : Bool) → (a || b) ≡ (b || a)
        turned true true = refl
        turned true false = refl
        turned false true = refl
        turned false false = refl

        and_true : (b : Bool) → b ≡ (b && true)
        and_true true = refl
        and_true false = refl

        by : (q : Atom) → ((k : ℕ) × (slice_get t.atoms k ≡ Some q)) ⊎ ((k : ℕ) → slice_get t.atoms k ≡ Some q → ⊥) → contains (state_of t next) q ≡ contains (after (state_of t words) action) q
        by q (inl (k, at)) =
            numbered_is t table next q k at ∙ is k ∙ turned (has words k && not (list_any (eqb k) deletes)) (list_any (eqb k) adds)
            ∙ ap₂ (λ x y. x || (y && not (list_any (eqb k) deletes))) (numbers_any table q k at adds (atoms_of action.adds) are_adds ∙ sym (contains_key-keys action.adds q)) (sym (numbered_is t table words q k at))
            ∙ ap (λ z. contains action.adds q || (contains (state_of t words) q && not z)) (numbers_any table q k at deletes (atoms_of action.deletes) are_deletes ∙ sym (contains_key-keys action.deletes q))
            ∙ sym (contains-after (state_of t words) action q)
        by q (inr none) =
            unnumbered_is t table next q none ∙ sym (unnumbered_is t table words q none) ∙ and_true (contains (state_of t words) q)
            ∙ ap₂ (λ x z. x || (contains (state_of t words) q && not z))
            (sym (contains_key-keys action.adds q ∙ unnumbered_any q none adds (atoms_of action.adds) are_adds))
            (sym (contains_key-keys action.deletes q ∙ unnumbered_any q none deletes (atoms_of action.deletes) are_deletes))
            ∙ sym (contains-after (state_of t words) action q)

    -- the numbers stay within the table
    pub after_within : IsBits next → IsSetOf t words → IsSetOf t next
    after_within bits set = record {
      bits = bits;
      within = λ x h. either x (has words x) (list_any (eqb x) deletes) (list_any (eqb x) adds) refl refl (sym (is x) ∙ h);
    }
      where
        either : (x : ℕ) (a b d : Bool) → has words x ≡ a → list_any (eqb x) adds ≡ d → ((a && not b) || d) ≡ true → x < length t.atoms
        either x true b d old new h = set.within x old
        either x false b d old new h = numbers_within x adds (atoms_of action.adds) are_adds (new ∙ h)

  -- the set of the numbers of a state's fluent atoms stands for it, where the others are the table's static ones
  module _ (initial : State) (fluents : List Bool) (is_fluents : t.fluents ≡ fluents) (statics : (a : Atom) → contains t.statics a ≡ (contains initial a && not (is_fluent_by fluents a)))
      (numbers next : List ℕ) (are : AreNumbers t numbers (filter (is_fluent_by fluents) (atoms_of initial))) (is : (x : ℕ) → has next x ≡ has_changed [] [] numbers x) where
    -- its numbers are those that were put in
    put : (x : ℕ) → has next x ≡ list_any (eqb x) numbers
    put x = is x ∙ ap (λ b. (b && true) || list_any (eqb x) numbers) (past_has [] x (omega arith))

    -- it stands for the initial state
    pub initial_is : IsTable t → state_of t next ≡ initial
    initial_is table = same_state _ initial (λ q. by q (numbered q t.atoms))
      where
        and_true : (b : Bool) → (b && true) ≡ b
        and_true true = refl
        and_true false = refl

        static_one : (b f : Bool) → (b && f) ≡ false → (b && not f) ≡ b
        static_one true true e = absurd (true≢false e)
        static_one true false e = refl
        static_one false f e = refl

        any : (q : Atom) → list_any (is_same q) (filter (is_fluent_by fluents) (atoms_of initial)) ≡ (contains initial q && is_fluent_by fluents q)
        any q = filter_any (is_fluent_by fluents) q (atoms_of initial) ∙ ap (λ b. b && is_fluent_by fluents q) (sym (contains_key-keys initial q))

        by : (q : Atom) → ((k : ℕ) × (slice_get t.atoms k ≡ Some q)) ⊎ ((k : ℕ) → slice_get t.atoms k ≡ Some q → ⊥) → contains (state_of t next) q ≡ contains initial q
        by q (inl (k, at)) =
            numbered_is t table next q k at ∙ put k ∙ numbers_any table q k at numbers _ are ∙ any q
            ∙ ap (λ b. contains initial q && b) (ap (λ (l : List Bool). is_fluent_by l q) (sym is_fluents) ∙ table.fluent k q at)
            ∙ and_true (contains initial q)
        by q (inr none) =
            unnumbered_is t table next q none ∙ statics q
            ∙ static_one (contains initial q) (is_fluent_by fluents q) (sym (any q) ∙ unnumbered_any q none numbers _ are)

    -- its numbers are within the table
    pub initial_within : IsBits next → IsSetOf t next
    initial_within bits = record {
      bits = bits;
      within = λ x h. numbers_within x numbers (filter (is_fluent_by fluents) (atoms_of initial)) are (sym (put x) ∙ h);
    }

-- one more of those that pass
pub numbers_kept : (t : Table) (keep : Atom → Bool) (numbers : List ℕ) (n : ℕ) (atoms : List Atom) (i : ℕ) (a : Atom) → i < length atoms → keep (get_or atoms i a) ≡ true
    → AreNumbers t numbers (filter keep (take i atoms)) → slice_get t.atoms n ≡ Some (get_or atoms i a)
    → AreNumbers t (numbers ++ n ∷ []) (filter keep (take (i + 1) atoms))
numbers_kept t keep numbers n atoms i a less passes are at =
    numbers_push t numbers n (filter keep (take i atoms)) (get_or atoms i a) are at
    ∙ ap (map Some) (sym (filter_more keep atoms i a less ∙ ap (λ b. filter keep (take i atoms) ++ cond b (get_or atoms i a ∷ []) []) passes))

-- the atoms of a set whose predicates are changed are fluent, in this table and later ones
pub fluent_effects : (t later : Table) (effects : State) (atoms : List Atom) → later.fluents ≡ t.fluents → atoms ≡ atoms_of effects → AreChanged (is_changed t.fluents) effects
    → (k : ℕ) (d : Atom) → k < length atoms → is_fluent later (get_or atoms k d) ≡ true
fluent_effects t later effects atoms same listed changed k d less =
    ap (λ (l : List Bool). is_fluent_by l (get_or atoms k d)) same
    ∙ changed (get_or atoms k d) (contains_key-keys effects (get_or atoms k d) ∙ ap (list_any (is_same (get_or atoms k d))) (sym listed)
    ∙ any_in (is_same (get_or atoms k d)) (get_or atoms k d) atoms (at_in (get_or atoms k d) atoms k (slice_get-get_or atoms k d less)) (is_itself (get_or atoms k d)))
