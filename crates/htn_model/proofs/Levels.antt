-- The search by levels finds the least word.
use Rattle.std.proofs.Common.{◌≡◌, ℕ, Bool, true, false, cond, List, [], ◌∷◌, ◌++◌, map, filter, flat_map, ◌⊎◌, inl, inr, sym, refl, ap, ◌∙◌, subst}
use Rattle.std.specs.List.{AllByRecursion, list_any}
use Rattle.htn_model.specs.Machine.{Config}
use Rattle.htn_model.specs.Levels.{Reached, keep_new}
use Rattle.htn_model.proofs.Ascending.{Less, In, all_in, any_some}

-- what holds of two lists holds of both joined
pub all_join : {X : Type 0} (P : X → Type 0) (xs ys : List X) → AllByRecursion P xs → AllByRecursion P ys → AllByRecursion P (xs ++ ys)
all_join P [] ys h g = g
all_join P (x ∷ xs) ys h g = (h.0, all_join P xs ys h.1 g)

-- what follows of each image holds of the mapped list
pub all_map : {X Y : Type 0} (P : X → Type 0) (Q : Y → Type 0) (f : X → Y) (xs : List X) → ((x : X) → P x → Q (f x)) → AllByRecursion P xs → AllByRecursion Q (map f xs)
all_map P Q f [] each h = tt
all_map P Q f (x ∷ xs) each h = (each x h.0, all_map P Q f xs each h.1)

-- what follows of each value holds of the list
pub all_weaken : {X : Type 0} (P Q : X → Type 0) (xs : List X) → ((x : X) → P x → Q x) → AllByRecursion P xs → AllByRecursion Q xs
all_weaken P Q [] each h = tt
all_weaken P Q (x ∷ xs) each h = (each x h.0, all_weaken P Q xs each h.1)

-- what holds of each part holds of the joined parts
pub all_flat_map : {X Y : Type 0} (P : Y → Type 0) (Q : X → Type 0) (f : X → List Y) (xs : List X) → ((x : X) → Q x → AllByRecursion P (f x)) → AllByRecursion Q xs → AllByRecursion P (flat_map f xs)
all_flat_map P Q f [] each h = tt
all_flat_map P Q f (x ∷ xs) each h = all_join P (f x) (flat_map f xs) (each x h.0) (all_flat_map P Q f xs each h.1)

-- what holds of a list holds of the filtered one
pub all_filter : {X : Type 0} (P : X → Type 0) (test : X → Bool) (xs : List X) → AllByRecursion P xs → AllByRecursion P (filter test xs)
all_filter P test [] h = tt
all_filter P test (x ∷ xs) h = by (test x) (all_filter P test xs h.1)
  where
    by : (b : Bool) → AllByRecursion P (filter test xs) → AllByRecursion P (cond b (x ∷ filter test xs) (filter test xs))
    by true more = (h.0, more)
    by false more = more

-- what holds of a list holds of what is new in it
pub all_keep : (P : Reached → Type 0) (same : Config → Config → Bool) (seen : List Config) (rs : List Reached) → AllByRecursion P rs → AllByRecursion P (keep_new same seen rs)
all_keep P same seen [] h = tt
all_keep P same seen (r ∷ rs) h = by (list_any (same r.config) seen) (all_keep P same seen rs h.1) (all_keep P same (r.config ∷ seen) rs h.1)
  where
    by : (b : Bool) → AllByRecursion P (keep_new same seen rs) → AllByRecursion P (keep_new same (r.config ∷ seen) rs)
        → AllByRecursion P (cond b (keep_new same seen rs) (r ∷ keep_new same (r.config ∷ seen) rs))
    by true dropped kept = dropped
    by false dropped kept = (h.0, kept)

-- ## Levels ascend

-- a word comes before that of what was reached
abbrev pub Below : List ℕ → Reached → Type 0
Below word r = Less word r.word

-- what was reached comes in the order of its words
abbrev pub Ascends : List Reached → Type 0
Ascends [] = Unit {0}
Ascends (r ∷ rs) = AllByRecursion (Below r.word) rs × Ascends rs

-- two lists in order, one before the other, are so joined
pub ascends_join : (rs ss : List Reached) → Ascends rs → Ascends ss → AllByRecursion (λ r. AllByRecursion (Below r.word) ss) rs → Ascends (rs ++ ss)
ascends_join [] ss h g across = g
ascends_join (r ∷ rs) ss h g across = (all_join (Below r.word) rs ss h.0 across.0, ascends_join rs ss h.1 g across.1)

-- a filtered list is in order
pub ascends_filter : (test : Reached → Bool) (rs : List Reached) → Ascends rs → Ascends (filter test rs)
ascends_filter test [] h = tt
ascends_filter test (r ∷ rs) h = by (test r) (ascends_filter test rs h.1)
  where
    by : (b : Bool) → Ascends (filter test rs) → Ascends (cond b (r ∷ filter test rs) (filter test rs))
    by true more = (all_filter (Below r.word) test rs h.0, more)
    by false more = more

-- what is new is in order
pub ascends_keep : (same : Config → Config → Bool) (seen : List Config) (rs : List Reached) → Ascends rs → Ascends (keep_new same seen rs)
ascends_keep same seen [] h = tt
ascends_keep same seen (r ∷ rs) h = by (list_any (same r.config) seen) (ascends_keep same seen rs h.1) (ascends_keep same (r.config ∷ seen) rs h.1)
  where
    by : (b : Bool) → Ascends (keep_new same seen rs) → Ascends (keep_new same (r.config ∷ seen) rs) → Ascends (cond b (keep_new same seen rs) (r ∷ keep_new same (r.config ∷ seen) rs))
    by true dropped kept = dropped
    by false dropped kept = (all_keep (Below r.word) same (r.config ∷ seen) rs h.0, kept)

-- ## What is dropped was seen, or stands earlier

-- a value is among what is new, or equals one that is or that was seen, by no later word
abbrev pub Kept : (Config → Config → Bool) → List Config → List Reached → Reached → Type 0
Kept same seen rs r =
    In r (keep_new same seen rs)
    ⊎ (((c : Config) × In c seen × (same r.config c ≡ true)) ⊎ ((s : Reached) × In s rs × Below s.word r × (same r.config s.config ≡ true)))

-- so is the first of a list
kept_here : (same : Config → Config → Bool) (seen : List Config) (r : Reached) (rs : List Reached) (b : Bool) → list_any (same r.config) seen ≡ b
    → In r (cond b (keep_new same seen rs) (r ∷ keep_new same (r.config ∷ seen) rs)) ⊎ ((c : Config) × In c seen × (same r.config c ≡ true))
kept_here same seen r rs true e = inr (any_some (same r.config) seen e)
kept_here same seen r rs false e = inl (inl refl)

-- so is what comes later
kept_later : (same : Config → Config → Bool) (seen : List Config) (s : Reached) (rs : List Reached) (r : Reached) (b : Bool) → Below s.word r
    → Kept same seen rs r → Kept same (s.config ∷ seen) rs r
    → In r (cond b (keep_new same seen rs) (s ∷ keep_new same (s.config ∷ seen) rs))
    ⊎ (((c : Config) × In c seen × (same r.config c ≡ true)) ⊎ ((t : Reached) × In t (s ∷ rs) × Below t.word r × (same r.config t.config ≡ true)))
kept_later same seen s rs r true low (inl i) kept = inl i
kept_later same seen s rs r true low (inr (inl c)) kept = inr (inl c)
kept_later same seen s rs r true low (inr (inr t)) kept = inr (inr (t.0, inr t.1, t.2, t.3))
kept_later same seen s rs r false low dropped (inl i) = inl (inr i)
kept_later same seen s rs r false low dropped (inr (inr t)) = inr (inr (t.0, inr t.1, t.2, t.3))
kept_later same seen s rs r false low dropped (inr (inl c)) = by c.1
  where
    by : In c.0 (s.config ∷ seen)
        → In r (s ∷ keep_new same (s.config ∷ seen) rs) ⊎ (((c : Config) × In c seen × (same r.config c ≡ true)) ⊎ ((t : Reached) × In t (s ∷ rs) × Below t.word r × (same r.config t.config ≡ true)))
    by (inl e) = inr (inr (s, inl refl, low, ap (same r.config) (sym e) ∙ c.2))
    by (inr i) = inr (inl (c.0, i, c.2))

-- so is each value of the list
pub kept : (same : Config → Config → Bool) (seen : List Config) (rs : List Reached) (r : Reached) → Ascends rs → In r rs → Kept same seen rs r
kept same seen [] r up i = absurd i
kept same seen (s ∷ rs) r up (inl e) = by (kept_here same seen s rs (list_any (same s.config) seen) refl)
  where
    by : In s (keep_new same seen (s ∷ rs)) ⊎ ((c : Config) × In c seen × (same s.config c ≡ true)) → Kept same seen (s ∷ rs) r
    by (inl j) = subst (Kept same seen (s ∷ rs)) (sym e) (inl j)
    by (inr c) = subst (Kept same seen (s ∷ rs)) (sym e) (inr (inl c))
kept same seen (s ∷ rs) r up (inr i) =
    kept_later same seen s rs r (list_any (same s.config) seen) (all_in (Below s.word) r rs up.0 i) (kept same seen rs r up.1 i) (kept same (s.config ∷ seen) rs r up.1 i)
