-- Values that are given narrow step by step.
use Rattle.std.proofs.Common.{◌≡◌, ◌∙◌, ◌+◌, ◌<◌, ◌≤◌, ◌++◌, ◌∷◌, ◌==◌, ℕ, zero, suc, Bool, true, false, List, [], Option, Some, None, ap, arith, get_or, length, map, nat_eq, nat_lt, refl, replicate, set, subst, sym, take}
use Rattle.std.specs.Cmp.{unsigned_Decides}
use Rattle.std.proofs.lemmas.List.{get_or-set_same, get_or-set_other, length-set, map-append, take_more, get_or-take, take-take, take_all, length-replicate, get_or-replicate}
use Rattle.std.proofs.lemmas.Bool.Decides.{nat_tests}
use Rattle.htn_model.specs.Instances.{value_of}
use Rattle.htn_model.specs.Schema.{Term, parameter, object}
use Rattle.htn_task.specs.Views.{term_of, terms_of}
use Rattle.htn_task.specs.declared.term.Term.{Term as RustTerm}
use Rattle.plan_lines.proofs.Left.{past}
use Rattle.plan_lines.specs.Given.{Extends, Narrows, object_of}

-- a term with an object stands for it
pub stands_for : (values : List ℕ) (given : List (Option ℕ)) (x : Term) (o : ℕ) → Extends values given → object_of given x ≡ Some o → value_of values x ≡ o
stands_for values given (parameter p) o e is = e.has p o is
stands_for values given (object x) o e is = cc

-- a term with an object has that and no other
pub bound : (given : List (Option ℕ)) (x : Term) (y o : ℕ) → object_of given x ≡ Some y → Narrows (λ values. value_of values x ≡ o) given given (y == o)
bound given x y o is = by (y == o) refl
  where
    by : (b : Bool) → (y == o) ≡ b → Narrows (λ values. value_of values x ≡ o) given given b
    by true e = λ values. (λ h. (h, stands_for values given x y h is ∙ (unsigned_Decides y o).0 e), λ h. h.0)
    by false e = λ values h same.
        let yes : (y == o) ≡ true = (unsigned_Decides y o).1 (sym (stands_for values given x y h is) ∙ same) in absurd cc

-- a value that is given is that of its parameter
set_is : (given : List (Option ℕ)) (p q : ℕ) (o x : ℕ) → p < length given → (q ≡ p → o ≡ x) → ((q ≡ p → ⊥) → get_or given q (Some 0) ≡ Some x) → get_or (set given p (Some o)) q (Some 0) ≡ Some x
set_is given p q o x within here other = by (nat_eq q p) refl
  where
    by : (b : Bool) → nat_eq q p ≡ b → get_or (set given p (Some o)) q (Some 0) ≡ Some x
    by true e =
        let same : q ≡ p = (unsigned_Decides q p).0 e in
        ap (λ k. get_or (set given p (Some o)) k (Some 0)) same ∙ get_or-set_same given p (Some o) (Some 0) within ∙ ap Some (here same)
    by false e =
        let apart : q ≡ p → ⊥ = λ same. let yes : nat_eq q p ≡ true = (unsigned_Decides q p).1 same in absurd cc in
        get_or-set_other given p q (Some o) (Some 0) apart ∙ other apart

-- an open parameter gets an object
pub opened : (given : List (Option ℕ)) (p o : ℕ) → p < length given → get_or given p (Some 0) ≡ None
    → Narrows (λ values. get_or values p 0 ≡ o) given (set given p (Some o)) true
opened given p o within none values = (λ h. (back h, h.has p o (get_or-set_same given p (Some o) (Some 0) within)), λ h. forth h.0 h.1)
  where
    back : Extends values (set given p (Some o)) → Extends values given
    back h = record {
      long = h.long ∙ length-set given p (Some o);
      has = λ q x is. h.has q x (get_or-set_other given p q (Some o) (Some 0)
          (λ same. let clash : None ≡ Some x = sym none ∙ ap (λ k. get_or given k (Some 0)) (sym same) ∙ is in absurd cc) ∙ is);
    }

    forth : Extends values given → get_or values p 0 ≡ o → Extends values (set given p (Some o))
    forth h is = record {
      long = h.long ∙ sym (length-set given p (Some o));
      has = λ q x at. by q x at (nat_eq q p) refl;
    }
      where
        by : (q x : ℕ) → get_or (set given p (Some o)) q (Some 0) ≡ Some x → (b : Bool) → nat_eq q p ≡ b → get_or values q 0 ≡ x
        by q x at true e =
            let same : q ≡ p = (unsigned_Decides q p).0 e in
            let some : Some o ≡ Some x = sym (get_or-set_same given p (Some o) (Some 0) within) ∙ ap (λ k. get_or (set given p (Some o)) k (Some 0)) (sym same) ∙ at in
            let equal : o ≡ x = cc in
            ap (λ k. get_or values k 0) same ∙ is ∙ equal
        by q x at false e =
            let apart : q ≡ p → ⊥ = λ same. let yes : nat_eq q p ≡ true = (unsigned_Decides q p).1 same in absurd cc in
            h.has q x (sym (get_or-set_other given p q (Some o) (Some 0) apart) ∙ at)

-- ## Lists that agree so far

-- lists that agree so far agree on one more
pub agree_more : (xs ys : List ℕ) (i : ℕ) → i < length xs → i < length ys → take i xs ≡ take i ys → get_or xs i 0 ≡ get_or ys i 0 → take (i + 1) xs ≡ take (i + 1) ys
agree_more xs ys i h g before here =
    take_more xs i 0 h ∙ ap (λ l. l ++ get_or xs i 0 ∷ []) before ∙ ap (λ y. take i ys ++ y ∷ []) here ∙ sym (take_more ys i 0 g)

-- and on one less
pub agree_less : (xs ys : List ℕ) (i : ℕ) → take (i + 1) xs ≡ take (i + 1) ys → (take i xs ≡ take i ys) × (get_or xs i 0 ≡ get_or ys i 0)
agree_less xs ys i e = (
  sym (take-take i (i + 1) xs (omega arith)) ∙ ap (take i) e ∙ take-take i (i + 1) ys (omega arith),
  sym (get_or-take (i + 1) xs i 0 (omega arith)) ∙ ap (λ l. get_or l i 0) e ∙ get_or-take (i + 1) ys i 0 (omega arith),
)

-- one more condition
pub narrows_more : (Before Here After : List ℕ → Type 0) (a b c : List (Option ℕ)) → Narrows Before a b true → Narrows Here b c true
    → ((values : List ℕ) → Before values → Here values → After values) → ((values : List ℕ) → After values → Before values × Here values) → Narrows After a c true
narrows_more Before Here After a b c first second both parts values = (
  λ h. let s = (second values).0 h in let f = (first values).0 s.0 in (f.0, both values f.1 s.1),
  λ h. let p = parts values h.1 in (second values).1 ((first values).1 (h.0, p.0), p.1),
)

-- what narrows to nothing after another narrows to nothing
pub narrows_none : (Before Here After : List ℕ → Type 0) (a b c : List (Option ℕ)) → Narrows Before a b true → Narrows Here b c false
    → ((values : List ℕ) → After values → Before values × Here values) → Narrows After a c false
narrows_none Before Here After a b c first second parts values h after = let p = parts values after in second values ((first values).1 (h, p.0)) p.1

-- ## Terms with the objects beside them

-- the value of the term at a position
pub mapped_at : (values : List ℕ) (terms : List RustTerm) (i : ℕ) (d : RustTerm) → i < length terms → get_or (map (value_of values) (terms_of terms)) i 0 ≡ value_of values (term_of (get_or terms i d))
mapped_at values [] i d h = absurd (omega arith)
mapped_at values (x ∷ terms) zero d h = refl
mapped_at values (x ∷ terms) (suc i) d h = mapped_at values terms i d (omega arith)

-- there are as many images
pub mapped_long : {X Y : Type 0} (f : X → Y) (xs : List X) → length (map f xs) ≡ length xs
mapped_long f [] = refl
mapped_long f (x ∷ xs) = ap suc (mapped_long f xs)

module _ (terms : List RustTerm) (objects : List ℕ) (a b : List (Option ℕ)) (i : ℕ) where
  -- what the terms stand for
  abbrev Stand : List ℕ → List ℕ
  Stand values = map (value_of values) (terms_of terms)

  -- as many as there are terms
  stand_long : (values : List ℕ) → length (Stand values) ≡ length terms
  stand_long values = let e = mapped_long (value_of values) (terms_of terms) in let f = mapped_long term_of terms in omega (arith, e, f)

  -- one more term stands for its object
  pub bound_more : (c : List (Option ℕ)) (d : RustTerm) → i < length terms → i < length objects → Narrows (λ values. take i (Stand values) ≡ take i objects) a b true
      → Narrows (λ values. value_of values (term_of (get_or terms i d)) ≡ get_or objects i 0) b c true → Narrows (λ values. take (i + 1) (Stand values) ≡ take (i + 1) objects) a c true
  bound_more c d below within before here =
      narrows_more (λ values. take i (Stand values) ≡ take i objects) (λ values. value_of values (term_of (get_or terms i d)) ≡ get_or objects i 0)
      (λ values. take (i + 1) (Stand values) ≡ take (i + 1) objects) a b c before here
      (λ values f g. agree_more (Stand values) objects i (let e = stand_long values in omega (arith, e, below)) within f (mapped_at values terms i d below ∙ g))
      (λ values f. let p = agree_less (Stand values) objects i f in (p.0, sym (mapped_at values terms i d below) ∙ p.1))

  -- one more can't stand for its object
  pub bound_none : (c : List (Option ℕ)) (d : RustTerm) → i < length terms → i < length objects → Narrows (λ values. take i (Stand values) ≡ take i objects) a b true
      → Narrows (λ values. value_of values (term_of (get_or terms i d)) ≡ get_or objects i 0) b c false → Narrows (λ values. Stand values ≡ objects) a c false
  bound_none c d below within before here =
      narrows_none (λ values. take i (Stand values) ≡ take i objects) (λ values. value_of values (term_of (get_or terms i d)) ≡ get_or objects i 0)
      (λ values. Stand values ≡ objects) a b c before here
      (λ values f. (ap (take i) f, sym (mapped_at values terms i d below) ∙ ap (λ l. get_or l i 0) f))

  -- all terms stand for their objects
  pub bound_all : length terms ≤ i → length terms ≡ length objects → Narrows (λ values. take i (Stand values) ≡ take i objects) a b true → Narrows (λ values. Stand values ≡ objects) a b true
  bound_all above long before values =
      let e = stand_long values in
      let whole : take i (Stand values) ≡ Stand values = take_all i (Stand values) (omega (arith, above, e)) in
      let others : take i objects ≡ objects = take_all i objects (omega (arith, above, long)) in
      (λ h. let r = (before values).0 h in (r.0, sym whole ∙ r.1 ∙ others), λ h. (before values).1 (h.0, whole ∙ h.1 ∙ sym others))

-- one more argument with an object
pub stand_more : (values : List ℕ) (terms : List RustTerm) (i : ℕ) (d : RustTerm) (done next : List ℕ) (o : ℕ) → i < length terms → map (value_of values) (terms_of (take i terms)) ≡ done
    → value_of values (term_of (get_or terms i d)) ≡ o → next ≡ done ++ o ∷ [] → map (value_of values) (terms_of (take (i + 1) terms)) ≡ next
stand_more values terms i d done next o below before here pushed =
    ap (λ l. map (value_of values) (terms_of l)) (take_more terms i d below) ∙ ap (map (value_of values)) (map-append term_of (take i terms) (get_or terms i d ∷ []))
    ∙ map-append (value_of values) (terms_of (take i terms)) (term_of (get_or terms i d) ∷ []) ∙ ap (λ l. l ++ value_of values (term_of (get_or terms i d)) ∷ []) before
    ∙ ap (λ y. done ++ y ∷ []) here ∙ sym pushed

-- no value is given
pub nothing_given : (values : List ℕ) (n : ℕ) → length values ≡ n → Extends values (replicate n None)
nothing_given values n long = record { long = long ∙ sym (length-replicate n None); has = λ p o is. by p o is (nat_lt p n) refl }
  where
    by : (p o : ℕ) → get_or (replicate n None) p (Some 0) ≡ Some o → (b : Bool) → nat_lt p n ≡ b → get_or values p 0 ≡ o
    by p o is true e =
        let below : p < n = grind (arith, nat_tests) in
        let clash : None ≡ Some o = sym (get_or-replicate n p None (Some 0) below) ∙ is in absurd cc
    by p o is false e =
        let above : n ≤ p = grind (arith, nat_tests) in
        let length_is = length-replicate {A = Option ℕ} n None in
        let zero_is : Some 0 ≡ Some o = sym (past (replicate n None) p (Some 0) (omega (arith, above, length_is))) ∙ is in
        let same : 0 ≡ o = cc in
        past values p 0 (omega (arith, above, long)) ∙ same

-- the same of equal terms and objects
pub narrows_same : (terms others : List Term) (objects these : List ℕ) (old given new : List (Option ℕ)) (b : Bool) → terms ≡ others → objects ≡ these → old ≡ given
    → Narrows (λ values. map (value_of values) terms ≡ objects) old new b → Narrows (λ values. map (value_of values) others ≡ these) given new b
narrows_same terms others objects these old given new b e f g h =
    subst (λ (l : List (Option ℕ)). Narrows (λ values. map (value_of values) others ≡ these) l new b) g
    (subst (λ (l : List ℕ). Narrows (λ values. map (value_of values) others ≡ l) old new b) f (subst (λ (l : List Term). Narrows (λ values. map (value_of values) l ≡ objects) old new b) e h))
