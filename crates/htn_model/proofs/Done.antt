-- Done configurations, and the first of a level.
use Rattle.std.proofs.Common.{◌≡◌, Bool, true, false, cond, List, [], ◌∷◌, Some, None, ◌⊎◌, inl, inr, sym, refl, ap, ◌∙◌, subst}
use Rattle.std.proofs.lemmas.Bool.{both_ways, and_parts, and_from}
use Rattle.htn_model.specs.Problem.{Problem}
use Rattle.htn_model.specs.Choice.{is_empty}
use Rattle.htn_model.specs.Machine.{Config, IsDone}
use Rattle.htn_model.specs.Levels.{Reached, is_done, first_done}
use Rattle.htn_model.proofs.Ascending.{In, all_in}
use Rattle.htn_model.proofs.Levels.{Below, Ascends}

module _ (problem : Problem) where
  -- a list that tests as empty is empty
  empty_nothing : {X : Type 0} (xs : List X) → is_empty xs ≡ true → xs ≡ []
  empty_nothing [] h = refl
  empty_nothing (x ∷ xs) h = absurd cc

  -- a configuration that tests as done is done
  pub done_is : (c : Config) → is_done problem c ≡ true → IsDone problem c
  done_is c h = let parts = and_parts _ _ h in (empty_nothing c.open_nodes parts.0, parts.1)

  -- a configuration that is done tests as done
  pub is_done_from : (c : Config) → IsDone problem c → is_done problem c ≡ true
  is_done_from c h = and_from _ _ (ap is_empty h.0) h.1

  -- the first that is done is in the list, and is done
  pub first_in : (rs : List Reached) (r : Reached) → first_done problem rs ≡ Some r → In r rs × (is_done problem r.config ≡ true)
  first_in [] r h = absurd cc
  first_in (s ∷ rs) r h = by (is_done problem s.config) refl (first_in rs r) h
    where
      by : (b : Bool) → is_done problem s.config ≡ b → (first_done problem rs ≡ Some r → In r rs × (is_done problem r.config ≡ true))
          → cond b (Some s) (first_done problem rs) ≡ Some r → In r (s ∷ rs) × (is_done problem r.config ≡ true)
      by true e deeper h = let same : s ≡ r = cc in (inl (sym same), ap (λ t. is_done problem t.config) (sym same) ∙ e)
      by false e deeper h = let found = deeper h in (inr found.0, found.1)

  -- where none is found, none in the list is done
  pub none_done : (rs : List Reached) (r : Reached) → first_done problem rs ≡ None → In r rs → is_done problem r.config ≡ true → ⊥
  none_done [] r h i d = i
  none_done (s ∷ rs) r h i d = by (is_done problem s.config) refl (none_done rs r) h i
    where
      by : (b : Bool) → is_done problem s.config ≡ b → (first_done problem rs ≡ None → In r rs → is_done problem r.config ≡ true → ⊥)
          → cond b (Some s) (first_done problem rs) ≡ None → In r (s ∷ rs) → ⊥
      by true e deeper h i = absurd cc
      by false e deeper h (inl same) = both_ways _ (ap (λ t. is_done problem t.config) same ∙ e) d
      by false e deeper h (inr i) = deeper h i d

  -- the first done one has the least word of those that are done
  pub first_least : (rs : List Reached) (r s : Reached) → Ascends rs → first_done problem rs ≡ Some r → In s rs → is_done problem s.config ≡ true → (r.word ≡ s.word) ⊎ Below r.word s
  first_least [] r s up h i d = absurd i
  first_least (t ∷ rs) r s up h i d = by (is_done problem t.config) refl (first_least rs r s up.1) h i
    where
      by : (b : Bool) → is_done problem t.config ≡ b → (first_done problem rs ≡ Some r → In s rs → is_done problem s.config ≡ true → (r.word ≡ s.word) ⊎ Below r.word s)
          → cond b (Some t) (first_done problem rs) ≡ Some r → In s (t ∷ rs) → (r.word ≡ s.word) ⊎ Below r.word s
      by true e deeper h (inl same) = let first : t ≡ r = cc in inl (ap (λ x. x.word) (sym first ∙ sym same))
      by true e deeper h (inr j) = let first : t ≡ r = cc in inr (subst (λ x. Below x.word s) first (all_in (Below t.word) s rs up.0 j))
      by false e deeper h (inl same) = absurd (both_ways _ (ap (λ x. is_done problem x.config) same ∙ e) d)
      by false e deeper h (inr j) = deeper h j d
