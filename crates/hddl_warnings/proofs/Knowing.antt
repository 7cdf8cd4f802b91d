-- Texts that are known.
use Rattle.std.proofs.Common.{◌≡◌, ◌⊎◌, ℕ, ◌+◌, ◌<◌, Bool, true, false, true≢false, List, [], ◌∷◌, ◌++◌, map, Option, Some, None, is_some, cond, inl, inr, refl, sym, ap, ◌∙◌, subst, take, get_or, length}
use Rattle.std.proofs.lemmas.List.{map-append}
use Rattle.std.proofs.lemmas.List.Elements.{Contains-push, Contains-push_cases}
use Rattle.hddl_meaning.specs.Mentions.{Text, IsIn}
use Rattle.hddl_meaning.specs.Names.{is_same_text}
use Rattle.hddl_meaning.proofs.Listed.{in_left, in_nothing, texts_decide}
use Rattle.hddl_scope.specs.Numbers.{Entries, number_at}
use Rattle.hddl_warnings.specs.Known.{Knows, Learns}
use Rattle.hddl_warnings.proofs.Members.{map_grown}

-- no texts are known at first
pub Knows-none : Knows [] []
Knows-none = record { known = λ t e. cc; unknown = λ t e h. in_nothing t h }

-- a text that is learned is known
pub Knows-more : (old new : Entries) (ts : List Text) (t : Text) → Knows old ts → Learns old new t → Knows new (ts ++ t ∷ [])
Knows-more old new ts t k l = record {
  known = λ u e. elim (l.known u e) [
    | inl before ↦ in_left u ts (t ∷ []) (k.known u before)
    | inr is ↦ subst (λ x. IsIn x (ts ++ t ∷ [])) (sym is) (Contains-push ts t)
  ];
  unknown = λ u e h.
      let r = l.unknown u e in
      elim (Contains-push_cases ts t u h) [ inl before ↦ k.unknown u r.0 before | inr is ↦ r.1 (sym is) ];
}

-- an entry at the end is of one text more
pub learned : (es : Entries) (t : Text) (n : ℕ) → Learns es (es ++ (t, n) ∷ []) t
learned es t n = record { known = more es; unknown = less es }
  where
    more : (es : Entries) (u : Text) → is_some (number_at (es ++ (t, n) ∷ []) u) ≡ true → (is_some (number_at es u) ≡ true) ⊎ (u ≡ t)
    more [] u e = last (is_same_text u t) refl e
      where
        last : (b : Bool) → is_same_text u t ≡ b → is_some (cond b (Some n) None) ≡ true → (is_some (number_at [] u) ≡ true) ⊎ (u ≡ t)
        last true same e = inr ((texts_decide u t).0 same)
        last false same e = cc
    more (f ∷ es) u e = step (is_same_text u f.0) (more es u) e
      where
        step : (b : Bool) → (is_some (number_at (es ++ (t, n) ∷ []) u) ≡ true → (is_some (number_at es u) ≡ true) ⊎ (u ≡ t))
            → is_some (cond b (Some f.1) (number_at (es ++ (t, n) ∷ []) u)) ≡ true → (is_some (cond b (Some f.1) (number_at es u)) ≡ true) ⊎ (u ≡ t)
        step true rest e = inl refl
        step false rest e = rest e

    less : (es : Entries) (u : Text) → number_at (es ++ (t, n) ∷ []) u ≡ None → (number_at es u ≡ None) × (u ≡ t → ⊥)
    less [] u e = last (is_same_text u t) refl e
      where
        last : (b : Bool) → is_same_text u t ≡ b → cond b (Some n) None ≡ None → (number_at [] u ≡ None) × (u ≡ t → ⊥)
        last true same e = cc
        last false same e = (refl, λ q. true≢false (sym ((texts_decide u t).1 q) ∙ same))
    less (f ∷ es) u e = step (is_same_text u f.0) (less es u) e
      where
        step : (b : Bool) → (number_at (es ++ (t, n) ∷ []) u ≡ None → (number_at es u ≡ None) × (u ≡ t → ⊥))
            → cond b (Some f.1) (number_at (es ++ (t, n) ∷ []) u) ≡ None → (cond b (Some f.1) (number_at es u) ≡ None) × (u ≡ t → ⊥)
        step true rest e = cc
        step false rest e = rest e

module _ {X : Type 0} (f : X → Text) (xs : List X) (k : ℕ) (x : X) (old new : Entries) where
  -- the step of a loop that learns the text of each item
  pub Knows-next : k < length xs → x ≡ get_or xs k x → Knows old (map f (take k xs)) → Learns old new (f x) → Knows new (map f (take (k + 1) xs))
  Knows-next lt is h l = subst (λ ts. Knows new ts) (sym (map_grown f xs k x lt is)) (Knows-more old new (map f (take k xs)) (f x) h l)

module _ {X Y : Type 0} (f : Y → Text) (g : X → Y) (xs : List X) (k : ℕ) (x : X) (old new : Entries) where
  -- the same where each item is seen as a value that has the text
  pub Knows-next-seen : k < length xs → x ≡ get_or xs k x → Knows old (map f (map g (take k xs))) → Learns old new (f (g x))
      → Knows new (map f (map g (take (k + 1) xs)))
  Knows-next-seen lt is h l =
      subst (λ ts. Knows new ts) (sym (ap (map f) (map_grown g xs k x lt is) ∙ map-append f (map g (take k xs)) (g x ∷ [])))
      (Knows-more old new (map f (map g (take k xs))) (f (g x)) h l)

-- what isn't there is nothing
pub nothing_there : {X : Type 0} (o : Option X) → (is_some o ≡ true → ⊥) → o ≡ None
nothing_there None h = refl
nothing_there (Some x) h = absurd (h refl)

-- a text that isn't among the known ones has no number
pub not_known : (es : Entries) (ts : List Text) (t : Text) → Knows es ts → (IsIn t ts → ⊥) → number_at es t ≡ None
not_known es ts t k f = nothing_there (number_at es t) (λ e. f (k.known t e))

-- a text among the known ones has a number
pub is_known : (es : Entries) (ts : List Text) (t : Text) → Knows es ts → IsIn t ts → is_some (number_at es t) ≡ true
is_known es ts t k h = by (number_at es t) refl
  where
    by : (o : Option ℕ) → number_at es t ≡ o → is_some o ≡ true
    by None e = absurd (k.unknown t e h)
    by (Some n) e = refl
