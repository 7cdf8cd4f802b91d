-- What a search finds, choice by choice.
use Rattle.std.proofs.Common.{◌≡◌, ◌∙◌, ◌+◌, ◌<◌, ◌≤◌, ◌⊎◌, ◌++◌, ◌∷◌, Bool, List, MatchOption, None, Option, Some, [], ap, arith, false, get_or, inl, inr, length, map, nat_eq, nat_lt, refl, set, subst, suc, sym, true, zero, ℕ}
use Rattle.std.specs.Cmp.{unsigned_Decides}
use Rattle.std.specs.List.{list_any}
use Rattle.std.proofs.lemmas.List.{get_or-set_same, get_or-set_other, map-append}
use Rattle.std.proofs.lemmas.Bool.Decides.{nat_tests}
use Rattle.htn_model.specs.Instances.{Conditions}
use Rattle.htn_model.specs.PlanFile.{IsIn}
use Rattle.htn_model.specs.Schema.{AtomSchema}
use Rattle.htn_model.specs.Task.{Task, objects_of}
use Rattle.plan_lines.specs.Turns.{History}
use Rattle.plan_lines.specs.Allowed.{HasInstanceWith, IsInstanceWith}
use Rattle.plan_lines.specs.Found.{AreAlike, AreFound, AreShownFilled, MayFit}
use Rattle.plan_lines.specs.Given.{Extends}
use Rattle.plan_lines.proofs.Exchanged.{any_at, has_object}
use Rattle.plan_lines.proofs.Left.{past}
use Rattle.plan_lines.proofs.Narrowed.{opened}
use Rattle.plan_lines.proofs.Shown.{in_either, in_join_left, in_join_right}

-- wanted, and of one of the first so many choices
abbrev pub Tried : (List ℕ → Type 0) → (List ℕ → ℕ → Type 0) → ℕ → List ℕ → Type 0
Tried W At n values = W values × ((j : ℕ) × (j < n) × At values j)

module _ (Alike : List ℕ → List ℕ → Type 0) (A W : List ℕ → Type 0) where
  -- none is wanted
  pub found_none : (old : List (List ℕ)) → ((values : List ℕ) → W values → ⊥) → AreFound Alike A W old old
  found_none old none = record { kept = λ values i. i; each = λ values i. inl i; all = λ values w. absurd (none values w) }

  -- one is added that is like all
  pub found_one : (old new : List (List ℕ)) (v : List ℕ) → new ≡ old ++ v ∷ [] → A v → ((values : List ℕ) → W values → Alike values v) → AreFound Alike A W old new
  found_one old new v is allowed alike =
      subst (λ (l : List (List ℕ)). AreFound Alike A W old l) (sym is)
      (record {
        kept = λ values i. in_join_left values old (v ∷ []) i;
        each = λ values i. one values (in_either values old (v ∷ []) i);
        all = λ values w. (v, in_join_right v old (v ∷ []) (inl refl), alike values w);
      })
    where
      one : (values : List ℕ) → IsIn values old ⊎ IsIn values (v ∷ []) → IsIn values old ⊎ A values
      one values (inl i) = inl i
      one values (inr (inl e)) = inr (subst A (sym e) allowed)
      one values (inr (inr i)) = absurd i

  -- the same of fewer values that are wanted
  pub found_as : (B V : List ℕ → Type 0) (old new : List (List ℕ)) → AreFound Alike B V old new → ((values : List ℕ) → B values → A values) → ((values : List ℕ) → W values → V values)
      → AreFound Alike A W old new
  found_as B V old new f allowed wanted = record {
    kept = f.kept;
    each = λ values i. elim (f.each values i) [ inl a ↦ inl a | inr b ↦ inr (allowed values b) ];
    all = λ values w. f.all values (wanted values w);
  }

  module _ (At : List ℕ → ℕ → Type 0) where
    -- with nothing tried nothing is to be found
    pub tried_none : (old : List (List ℕ)) → AreFound Alike A (Tried W At 0) old old
    tried_none old = record { kept = λ values i. i; each = λ values i. inl i; all = λ values w. absurd (let below : w.1.0 < 0 = w.1.1 in omega (arith, below)) }

    -- a choice with which none is wanted
    pub tried_skip : (n : ℕ) (old new : List (List ℕ)) → AreFound Alike A (Tried W At n) old new → ((values : List ℕ) → W values → At values n → ⊥) → AreFound Alike A (Tried W At (n + 1)) old new
    tried_skip n old new f none = record { kept = f.kept; each = f.each; all = λ values w. by values w.0 w.1.0 w.1.1 w.1.2 (nat_eq w.1.0 n) refl }
      where
        by : (values : List ℕ) → W values → (j : ℕ) → j < n + 1 → At values j → (b : Bool) → nat_eq j n ≡ b → (v : List ℕ) × IsIn v new × Alike values v
        by values w j below at true e = absurd (none values w (subst (At values) ((unsigned_Decides j n).0 e) at))
        by values w j below at false e =
            let apart : j ≡ n → ⊥ = λ same. let yes : nat_eq j n ≡ true = (unsigned_Decides j n).1 same in absurd cc in
            f.all values (w, (j, (omega (arith, below, apart)), at))

    -- one choice more
    pub tried_more : (B V : List ℕ → Type 0) (n : ℕ) (old mid new : List (List ℕ)) → AreFound Alike A (Tried W At n) old mid → AreFound Alike B V mid new → ((values : List ℕ) → B values → A values)
        → ((values : List ℕ) → W values → At values n → V values) → AreFound Alike A (Tried W At (n + 1)) old new
    tried_more B V n old mid new f g allowed wanted = record {
      kept = λ values i. g.kept values (f.kept values i);
      each = λ values i. elim (g.each values i) [ inl a ↦ f.each values a | inr b ↦ inr (allowed values b) ];
      all = λ values w. by values w.0 w.1.0 w.1.1 w.1.2 (nat_eq w.1.0 n) refl;
    }
      where
        by : (values : List ℕ) → W values → (j : ℕ) → j < n + 1 → At values j → (b : Bool) → nat_eq j n ≡ b → (v : List ℕ) × IsIn v new × Alike values v
        by values w j below at true e = g.all values (wanted values w (subst (At values) ((unsigned_Decides j n).0 e) at))
        by values w j below at false e =
            let apart : j ≡ n → ⊥ = λ same. let yes : nat_eq j n ≡ true = (unsigned_Decides j n).1 same in absurd cc in
            let m = f.all values (w, (j, (omega (arith, below, apart)), at)) in
            (m.0, g.kept m.0 m.1, m.2)

    -- all choices
    pub tried_all : (n : ℕ) (old new : List (List ℕ)) → AreFound Alike A (Tried W At n) old new → ((values : List ℕ) → W values → (j : ℕ) × (j < n) × At values j) → AreFound Alike A W old new
    tried_all n old new f there = record { kept = f.kept; each = f.each; all = λ values w. f.all values (w, there values w) }

  -- likeness in other words, which follows for what is wanted
  pub found_like : (Like : List ℕ → List ℕ → Type 0) (B V : List ℕ → Type 0) (old new : List (List ℕ)) → AreFound Like B V old new → ((values : List ℕ) → B values → A values)
      → ((values : List ℕ) → W values → V values) → ((values others : List ℕ) → W values → Like values others → Alike values others) → AreFound Alike A W old new
  found_like Like B V old new f allowed wanted like = record {
    kept = f.kept;
    each = λ values i. elim (f.each values i) [ inl a ↦ inl a | inr b ↦ inr (allowed values b) ];
    all = λ values w. let m = f.all values (wanted values w) in (m.0, m.1, like values m.0 w m.2);
  }

-- ## Parameters that are shown

-- something is not nothing
some_none : (o : ℕ) → Some o ≡ None → ⊥
some_none o e = cc

-- values with those that are given are alike, where all that are shown are given
pub alike_filled : (shown : List Bool) (given : List (Option ℕ)) (values others : List ℕ) → AreShownFilled shown given (length given) → Extends values given → Extends others given
    → AreAlike shown values others
alike_filled shown given values others filled h g = record { long = h.long ∙ sym g.long; same = λ p s. by p s (get_or given p (Some 0)) refl }
  where
    within : (p : ℕ) → get_or given p (Some 0) ≡ None → (b : Bool) → nat_lt p (length given) ≡ b → p < length given
    within p is true e = grind (arith, nat_tests)
    within p is false e =
        let above : length given ≤ p = grind (arith, nat_tests) in
        absurd (some_none 0 (sym (past given p (Some 0) above) ∙ is))

    by : (p : ℕ) → get_or shown p true ≡ true → (o : Option ℕ) → get_or given p (Some 0) ≡ o → get_or values p 0 ≡ get_or others p 0
    by p s None is = absurd (filled p (within p is (nat_lt p (length given)) refl) s is)
    by p s (Some o) is = h.has p o is ∙ sym (g.has p o is)

-- one parameter more that has a value or isn't shown
pub shown_more : (shown : List Bool) (given : List (Option ℕ)) (n : ℕ) → AreShownFilled shown given n → (get_or shown n true ≡ true → get_or given n (Some 0) ≡ None → ⊥) → AreShownFilled shown given (n + 1)
shown_more shown given n filled here p below s none = by (nat_eq p n) refl
  where
    by : (b : Bool) → nat_eq p n ≡ b → ⊥
    by true e =
        let same : p ≡ n = (unsigned_Decides p n).0 e in
        here (ap (λ k. get_or shown k true) (sym same) ∙ s) (ap (λ k. get_or given k (Some 0)) (sym same) ∙ none)
    by false e = filled p (let apart : p ≡ n → ⊥ = λ same. let yes : nat_eq p n ≡ true = (unsigned_Decides p n).1 same in absurd cc in omega (arith, below, apart)) s none

-- with one more value all shown parameters before the next have values
pub shown_set : (shown : List Bool) (given : List (Option ℕ)) (n o : ℕ) → n < length given → AreShownFilled shown given n → AreShownFilled shown (set given n (Some o)) (n + 1)
shown_set shown given n o within filled =
    shown_more shown (set given n (Some o)) n
    (λ p below s none. filled p below s (sym (get_or-set_other given n p (Some o) (Some 0) (λ same. absurd (omega (arith, same, below)))) ∙ none))
    (λ s none. let clash : Some o ≡ None = sym (get_or-set_same given n (Some o) (Some 0) within) ∙ none in absurd cc)

module _ (t : Task) (c : Conditions) (h : History) (atoms : List AtomSchema) (given : List (Option ℕ)) where
  -- one more value
  pub fit_more : (p o : ℕ) (values : List ℕ) → p < length given → get_or given p (Some 0) ≡ None → MayFit t c h atoms given values → get_or values p 0 ≡ o → MayFit t c h atoms (set given p (Some o)) values
  fit_more p o values within none ((e, is), ever) at = (((opened given p o within none values).1 (e, at), is), ever)

  -- an instance with one value more is one with those before
  pub with_fewer : (p o : ℕ) (values : List ℕ) → p < length given → get_or given p (Some 0) ≡ None → IsInstanceWith t c (set given p (Some o)) values → IsInstanceWith t c given values
  with_fewer p o values within none (e, is) = (((opened given p o within none values).0 e).0, is)

  -- the object of a parameter is one of its type
  pub object_there : (p : ℕ) (objects values : List ℕ) → length given ≡ length c.parameters → p < length given → objects ≡ objects_of t (get_or c.parameters p 0) → MayFit t c h atoms given values
      → (j : ℕ) × (j < length objects) × (get_or values p 0 ≡ get_or objects j 0)
  object_there p objects values long within are ((e, is), ever) =
      let found = any_at (get_or values p 0) objects (ap (list_any (nat_eq (get_or values p 0))) are ∙ has_object t c given p long within values e is) in
      (found.0, found.1, sym found.2)

  -- all parameters that are shown are given: one instance is like all
  pub found_last : (shown : List Bool) (n : ℕ) (old new : List (List ℕ)) (v : List ℕ) → n ≡ length given → AreShownFilled shown given n → IsInstanceWith t c given v → new ≡ old ++ v ∷ []
      → AreFound (AreAlike shown) (IsInstanceWith t c given) (MayFit t c h atoms given) old new
  found_last shown n old new v end filled allowed is =
      found_one (AreAlike shown) (IsInstanceWith t c given) (MayFit t c h atoms given) old new v is allowed
      (λ values w. alike_filled shown given values v (subst (λ (k : ℕ). AreShownFilled shown given k) end filled) w.0.0 allowed.0)

  -- where there is no instance nothing is to be found
  pub found_no_instance : (shown : List Bool) (old : List (List ℕ)) → (HasInstanceWith t c given → ⊥) → AreFound (AreAlike shown) (IsInstanceWith t c given) (MayFit t c h atoms given) old old
  found_no_instance shown old none = found_none (AreAlike shown) (IsInstanceWith t c given) (MayFit t c h atoms given) old (λ values w. none (values, w.0))

-- ## Lists of references

-- the image of a member is among the images
pub in_mapped : {X Y : Type 0} (f : X → Y) (xs : List X) (i : ℕ) (x : X) → i < length xs → x ≡ get_or xs i x → IsIn (f x) (map f xs)
in_mapped f [] i x below is = absurd (omega (arith, below))
in_mapped f (y ∷ xs) zero x below is = inl (ap f is)
in_mapped f (y ∷ xs) (suc i) x below is = inr (in_mapped f xs i x (omega (arith, below)) is)

-- what holds of what is there
pub match_some : {X : Type 0} (P : Type 0) (Q : X → Type 0) (o : Option X) (x : X) → o ≡ Some x → MatchOption o P Q → Q x
match_some P Q o x e h = subst (λ p. MatchOption p P Q) e h

-- what holds of all and of one more
pub pushed_in : {X Y : Type 0} (f : X → Y) (xs new : List X) (x : X) (P : Y → Type 0) → new ≡ xs ++ x ∷ [] → ((y : Y) → IsIn y (map f xs) → P y) → P (f x) → (y : Y) → IsIn y (map f new) → P y
pushed_in {Y = Y} f xs new x P is before here y i = by (in_either y (map f xs) (f x ∷ []) (subst (IsIn y) (ap (map f) is ∙ map-append f xs (x ∷ [])) i))
  where
    by : IsIn y (map f xs) ⊎ IsIn y (f x ∷ []) → P y
    by (inl there) = before y there
    by (inr (inl e)) = subst P (sym e) here
    by (inr (inr none)) = absurd none
