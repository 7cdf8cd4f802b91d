-- The first word like another one in its list, found from the end.
use Rattle.std.proofs.Common.{◌≡◌, ◌⊎◌, inl, inr, ℕ, zero, suc, ◌-◌, ◌<◌, ◌≤◌, true, false, List, [], ◌∷◌, ◌++◌, length, drop, Option, Some, None, IfSome, slice_get, refl, sym, ap, subst, ◌∙◌, arith}
use Rattle.std.specs.Str.{str_eq_ignore_ascii_case}
use Rattle.std.proofs.lemmas.Option.{same_Some, slice_get_past}
use Rattle.hddl_words.specs.declared.token.Kind.TheVariants as kind
use Rattle.hddl_words.specs.Faults.{Leads, LeadsBy}
use Rattle.hddl_words.specs.Words.{Word}
use Rattle.text_messages.specs.Notes.{HasTwins, IsFirstTwin, IsTwin}
use Rattle.text_messages.proofs.Leading.{lead_map, leads_cut, leads_none}

-- the words from an index on begin with the one there
pub from_here : (ws : List Word) (k : ℕ) (w : Word) → slice_get ws k ≡ Some w → drop k ws ≡ w ∷ drop (suc k) ws
from_here [] k w is = absurd cc
from_here (v ∷ ws) zero w is = let e : v ≡ w = cc in ap (λ x. x ∷ ws) e
from_here (v ∷ ws) (suc k) w is = from_here ws k w is

-- those from an earlier index on end with those from a later one on
earlier_drop : (ws : List Word) (j k : ℕ) → j ≤ k → (front : List Word) × (drop j ws ≡ front ++ drop k ws)
earlier_drop ws zero zero le = ([], refl)
earlier_drop [] zero (suc k) le = ([], refl)
earlier_drop (w ∷ ws) zero (suc k) le = let (front, e) = earlier_drop ws zero k (omega arith) in (w ∷ front, ap (λ l. w ∷ l) e)
earlier_drop ws (suc j) zero le = absurd (omega arith)
earlier_drop [] (suc j) (suc k) le = ([], refl)
earlier_drop (w ∷ ws) (suc j) (suc k) le = earlier_drop ws j k (omega arith)

module _ (ws : List Word) (text : List ℕ) where
  -- before an opening bracket of the list no word is in it
  pub outside : (k : ℕ) (w : Word) → slice_get ws k ≡ Some w → w.kind ≡ kind.Open → Leads 0 (drop (suc k) ws) 0 → (j : ℕ) → j ≤ k → IsTwin ws text j → ⊥
  outside k w is opens later j le twin =
      let (front, e) = earlier_drop ws j k le in
      let (n, h) = leads_cut front (drop k ws) 0 0 (subst (λ l. Leads 0 l 0) e twin.1) in
      let here : LeadsBy w.kind n (λ m. Leads m (drop (suc k) ws) 0) = subst (λ l. Leads n l 0) (from_here ws k w is) h in
      let more : Leads (suc n) (drop (suc k) ws) 0 = subst (λ o. LeadsBy o n (λ m. Leads m (drop (suc k) ws) 0)) opens here in
      let none : suc n ≡ 0 = leads_none (drop (suc k) ws) (suc n) later more in
      absurd (omega (arith, none))

  -- a word in a list of its own is none
  pub inner : (k depth : ℕ) → Leads (suc depth) (drop k ws) 0 → IsTwin ws text k → ⊥
  inner k depth h twin =
      let none : suc depth ≡ 0 = leads_none (drop k ws) (suc depth) twin.1 h in
      absurd (omega (arith, none))

  -- from one index less on
  cases : (j k : ℕ) → k ≤ j → (j ≡ k) ⊎ (suc k ≤ j)
  cases zero zero le = inl refl
  cases zero (suc k) le = absurd (omega arith)
  cases (suc j) zero le = inr (omega arith)
  cases (suc j) (suc k) le = elim (cases j k (omega arith)) [ inl e ↦ inl (ap suc e) | inr h ↦ inr (omega (arith, h)) ]

  -- no other word there
  pub kept : (k : ℕ) (found : Option ℕ) → (IsTwin ws text k → ⊥) → HasTwins ws text (suc k) found → HasTwins ws text k found
  kept k None here later = λ j le twin. elim (cases j k le) [ inl e ↦ here (subst (IsTwin ws text) e twin) | inr h ↦ later j h twin ]
  kept k (Some f) here later =
      (later.0, λ j le lt twin. elim (cases j k le) [ inl e ↦ here (subst (IsTwin ws text) e twin) | inr h ↦ later.1 j h lt twin ])

  -- the word there
  pub found_here : (k : ℕ) → IsTwin ws text k → HasTwins ws text k (Some k)
  found_here k twin = (twin, λ j le lt other. absurd (omega arith))

  -- one word more, before which brackets are open
  pub step_out : (k depth : ℕ) (found : Option ℕ) → 0 < depth → Leads depth (drop k ws) 0 → HasTwins ws text (suc k) found → HasTwins ws text k found
  step_out k zero found lt h later = absurd (omega (arith, lt))
  step_out k (suc depth) found lt h later = kept k found (inner k depth h) later

  -- one with this text
  pub step_same : (k depth : ℕ) (w : Word) → depth ≤ 0 → slice_get ws k ≡ Some w → str_eq_ignore_ascii_case w.text text ≡ true → Leads depth (drop k ws) 0
      → HasTwins ws text k (Some k)
  step_same k depth w none is same h =
      let e : depth ≡ 0 = omega (arith, none) in
      found_here k ((w, is, same), subst (λ n. Leads n (drop k ws) 0) e h)

  -- one with another text
  pub step_other : (k : ℕ) (w : Word) (found : Option ℕ) → slice_get ws k ≡ Some w → str_eq_ignore_ascii_case w.text text ≡ false → HasTwins ws text (suc k) found
      → HasTwins ws text k found
  step_other k w found is other later =
      kept k found (λ twin.
      let one : twin.0.0 ≡ w = same_Some twin.0.0 w (sym twin.0.1 ∙ is) in
      let e : true ≡ false = sym twin.0.2 ∙ ap (λ (v : Word). str_eq_ignore_ascii_case v.text text) one ∙ other in
      absurd cc) later

  -- the first of all
  pub first_of_all : (k : ℕ) (found : Option ℕ) → ((j : ℕ) → j < k → IsTwin ws text j → ⊥) → HasTwins ws text k found → IfSome found (IsFirstTwin ws text)
  first_of_all k None before h = tt
  first_of_all k (Some f) before h = (h.0, λ j lt twin. elim (cases_at j k) [ inl less ↦ before j less twin | inr more ↦ h.1 j more lt twin ])
    where
      cases_at : (j k : ℕ) → (j < k) ⊎ (k ≤ j)
      cases_at j zero = inr (omega arith)
      cases_at zero (suc k) = inl (omega arith)
      cases_at (suc j) (suc k) = elim (cases_at j k) [ inl h ↦ inl (omega (arith, h)) | inr h ↦ inr (omega (arith, h)) ]

  -- past the end there is none
  pub none_past : (k : ℕ) → length ws ≤ k → HasTwins ws text k None
  none_past k past j le twin = let e : None ≡ Some twin.0.0 = sym (slice_get_past ws j (omega arith)) ∙ twin.0.1 in absurd cc

  -- the word before, by how many brackets are open
  pub back_step : (k : ℕ) (w : Word) (before depth : ℕ) → slice_get ws k ≡ Some w → LeadsBy w.kind before (λ n. n ≡ depth) → Leads depth (drop (suc k) ws) 0 → Leads before (drop k ws) 0
  back_step k w before depth is step h =
      subst (λ l. Leads before l 0) (sym (from_here ws k w is))
      (lead_map w.kind before (λ n. n ≡ depth) (λ n. Leads n (drop (suc k) ws) 0) (λ n e. subst (λ n. Leads n (drop (suc k) ws) 0) (sym e) h) step)

  -- the word before, where the index is that of the one after it
  pub back_to : (index : ℕ) (w : Word) (before depth : ℕ) → 0 < index → slice_get ws (index - 1) ≡ Some w → LeadsBy w.kind before (λ n. n ≡ depth) → Leads depth (drop index ws) 0
      → Leads before (drop (index - 1) ws) 0
  back_to index w before depth lt is step h =
      let e : index ≡ suc (index - 1) = omega (arith, lt) in
      back_step (index - 1) w before depth is step (subst (λ i. Leads depth (drop i ws) 0) e h)

  -- where that word opens the list, those that are found are all
  pub none_open : (index : ℕ) (w : Word) (depth : ℕ) (found : Option ℕ) → 0 < index → slice_get ws (index - 1) ≡ Some w → w.kind ≡ kind.Open → depth ≡ 0
      → Leads depth (drop index ws) 0 → HasTwins ws text index found → IfSome found (IsFirstTwin ws text)
  none_open index w depth found lt is opens none leads twins =
      let e : index ≡ suc (index - 1) = omega (arith, lt) in
      let later : Leads 0 (drop (suc (index - 1)) ws) 0 = subst (λ i. Leads 0 (drop i ws) 0) e (subst (λ d. Leads d (drop index ws) 0) none leads) in
      first_of_all index found (λ j less twin. outside (index - 1) w is opens later j (omega (arith, less, lt)) twin) twins
