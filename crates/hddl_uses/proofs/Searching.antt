-- Names and variables that are among others.
use Rattle.std.proofs.Common.{◌≡◌, ◌||◌, ◌↔◌, Bool, true, false, cond, List, [], ◌∷◌, map, Option, Some, None, is_some, option_map, refl, sym, subst, ◌∙◌, inl, inr, true≢false}
use Rattle.std.specs.List.{list_any, position}
use Rattle.hddl_meaning.specs.Mentions.{Text, IsIn}
use Rattle.hddl_meaning.specs.Names.{is_same_text}
use Rattle.hddl_meaning.specs.Uses.{Variable}
use Rattle.hddl_meaning.specs.Items.{variable_in}
use Rattle.hddl_meaning.proofs.Listed.{at_head, at_tail, in_cases, in_nothing, texts_decide, found}
use Rattle.hddl_scope.proofs.Positions.{has_position}

-- a text that a search finds is among those that were searched
pub among : (t : Text) (ts : List Text) → list_any (is_same_text t) ts ≡ true → IsIn t ts
among t [] h = cc
among t (u ∷ ts) h = by (is_same_text t u) refl (among t ts) h
  where
    by : (b : Bool) → is_same_text t u ≡ b → (list_any (is_same_text t) ts ≡ true → IsIn t ts) → (b || list_any (is_same_text t) ts) ≡ true → IsIn t (u ∷ ts)
    by true e rest h = subst (λ z. IsIn z (u ∷ ts)) (sym ((texts_decide t u).0 e)) (at_head u ts)
    by false e rest h = at_tail u t ts (rest h)

-- a name has a position exactly where it is among the names
pub named : (ts : List Text) (t : Text) → (is_some (position (is_same_text t) ts) ≡ true) ↔ IsIn t ts
named ts t = (λ h. among t ts (sym (has_position (is_same_text t) ts) ∙ h), λ at. has_position (is_same_text t) ts ∙ found t ts at)

-- the texts of variables in force
abbrev pub variable_texts : List Variable → List Text
variable_texts vs = map (λ v. v.typed.mention.text) vs

-- a variable is found exactly where one has the text
pub in_force_to : (vs : List Variable) (t : Text) → is_some (variable_in vs t) ≡ true → IsIn t (variable_texts vs)
in_force_to [] t h = cc
in_force_to (v ∷ vs) t h = by (is_same_text t v.typed.mention.text) refl (in_force_to vs t) h
  where
    by : (b : Bool) → is_same_text t v.typed.mention.text ≡ b → (is_some (variable_in vs t) ≡ true → IsIn t (variable_texts vs))
        → is_some (cond b (Some v) (variable_in vs t)) ≡ true → IsIn t (variable_texts (v ∷ vs))
    by true e rest h = subst (λ z. IsIn z (variable_texts (v ∷ vs))) (sym ((texts_decide t v.typed.mention.text).0 e)) (at_head v.typed.mention.text (variable_texts vs))
    by false e rest h = at_tail v.typed.mention.text t (variable_texts vs) (rest h)

-- a variable whose text is among those in force is found
pub in_force_from : (vs : List Variable) (t : Text) → IsIn t (variable_texts vs) → is_some (variable_in vs t) ≡ true
in_force_from [] t at = absurd (in_nothing t at)
in_force_from (v ∷ vs) t at = by (is_same_text t v.typed.mention.text) refl (in_force_from vs t)
  where
    by : (b : Bool) → is_same_text t v.typed.mention.text ≡ b → (IsIn t (variable_texts vs) → is_some (variable_in vs t) ≡ true)
        → is_some (cond b (Some v) (variable_in vs t)) ≡ true
    by true e rest = refl
    by false e rest = elim (in_cases v.typed.mention.text t (variable_texts vs) at) [
      | inl is ↦ absurd (true≢false (sym ((texts_decide t v.typed.mention.text).1 (sym is)) ∙ e))
      | inr later ↦ rest later
    ]

-- a value is there mapped exactly where it is there
pub some_mapped : {X Y : Type 0} (f : X → Y) (o : Option X) → is_some (option_map f o) ≡ is_some o
some_mapped f None = refl
some_mapped f (Some x) = refl
