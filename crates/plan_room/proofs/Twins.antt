-- Two positions that are ordered alike may change their choices, and the room stays.
use Rattle.std.proofs.Common.{◌≡◌, ℕ, ◌<◌, ◌⊎◌, inl, inr, true, cond, eqb, length, sym, refl, ap, ◌∙◌, subst}
use Rattle.std.proofs.lemmas.Bool.{cases_eq, eq-eqb, ne_eqb}
use Rattle.htn_model.specs.Problem.{Order, is_before}
use Rattle.plan_room.specs.Matching.{Seating, IsSeating, IsSeated, HasRoomWith, AreTwins}

-- ## Two positions changed

module _ (p b : ℕ) where
  -- the two positions exchanged, all others as they are
  swap : ℕ → ℕ
  swap x = cond (eqb x p) b (cond (eqb x b) p x)

  -- the first gives the second
  swap_first : (x : ℕ) → x ≡ p → swap x ≡ b
  unfolding swap
  swap_first x e = ap (λ t. cond t b (cond (eqb x b) p x)) (eq-eqb x p e)

  -- the second gives the first
  swap_second : (x : ℕ) → (x ≡ p → ⊥) → x ≡ b → swap x ≡ p
  unfolding swap
  swap_second x o e = ap (λ t. cond t b (cond (eqb x b) p x)) (ne_eqb x p o) ∙ ap (λ t. cond t p x) (eq-eqb x b e)

  -- each other one gives itself
  swap_other : (x : ℕ) → (x ≡ p → ⊥) → (x ≡ b → ⊥) → swap x ≡ x
  unfolding swap
  swap_other x o n = ap (λ t. cond t b (cond (eqb x b) p x)) (ne_eqb x p o) ∙ ap (λ t. cond t p x) (ne_eqb x b n)

  -- what holds of both and of what is neither
  by_swap : (x : ℕ) (Holds : ℕ → Type 0) → (x ≡ p → Holds b) → (x ≡ b → Holds p) → ((x ≡ p → ⊥) → (x ≡ b → ⊥) → Holds x) → Holds (swap x)
  by_swap x Holds first second other = elim (cases_eq x p) [
    | inl e ↦ subst Holds (sym (swap_first x e)) (first e)
    | inr o ↦ elim (cases_eq x b) [
      | inl e ↦ subst Holds (sym (swap_second x o e)) (second e)
      | inr n ↦ subst Holds (sym (swap_other x o n)) (other o n)
    ]
  ]

  -- exchanged twice they are as they were
  swap_swap : (x : ℕ) → swap (swap x) ≡ x
  swap_swap x = by_swap x (λ y. swap y ≡ x) (λ e. back e (cases_eq b p)) (λ e. swap_first p refl ∙ sym e) (λ o n. swap_other x o n)
    where
      back : x ≡ p → (b ≡ p) ⊎ (b ≡ p → ⊥) → swap b ≡ x
      back e (inl same) = swap_first b same ∙ same ∙ sym e
      back e (inr other) = swap_second b other refl ∙ sym e

  module _ (order : Order) (twins : AreTwins order p b) where
    -- what is before another is before it, exchanged
    before_left : (x y : ℕ) → is_before order (swap x) y ≡ is_before order x y
    before_left x y = by_swap x (λ z. is_before order z y ≡ is_before order x y)
        (λ e. sym (twins.1 y) ∙ ap (λ z. is_before order z y) (sym e)) (λ e. twins.1 y ∙ ap (λ z. is_before order z y) (sym e)) (λ o n. refl)

    -- and what is behind it is behind it
    before_right : (x y : ℕ) → is_before order x (swap y) ≡ is_before order x y
    before_right x y = by_swap y (λ z. is_before order x z ≡ is_before order x y)
        (λ e. sym (twins.0 x) ∙ ap (λ z. is_before order x z) (sym e)) (λ e. twins.0 x ∙ ap (λ z. is_before order x z) (sym e)) (λ o n. refl)

-- ## A matching with the choices of two positions changed

module _ (w : Seating) (is_seating : IsSeating w) (p b : ℕ) (twins : AreTwins w.order p b) (p_low : p < length w.order) (b_low : b < length w.order)
    (m : ℕ → ℕ) (seated : IsSeated w m) (c : ℕ) (suits_first : w.suits p c ≡ true) (takes : m b ≡ c) where
  -- the matching with the two choices exchanged
  pub changed : ℕ → ℕ
  changed x = m (swap p b x)

  -- positions stay within their number
  low_so : (a : ℕ) → a < length w.order → swap p b a < length w.order
  low_so a low = by_swap p b a (λ x. x < length w.order) (λ e. b_low) (λ e. p_low) (λ o n. low)

  -- the choice suits the second position
  suits_second : w.suits b c ≡ true
  suits_second = subst (λ d. w.suits b d ≡ true) takes (seated.suited b b_low)

  -- so the changed one is a matching
  pub changed_seated : IsSeated w changed
  unfolding changed
  changed_seated = record {
    low = λ a low. seated.low (swap p b a) (low_so a low);
    suited = λ a low. by_swap p b a (λ x. w.suits a (m x) ≡ true)
        (λ e. subst (λ x. w.suits x (m b) ≡ true) (sym e) (subst (λ d. w.suits p d ≡ true) (sym takes) suits_first))
        (λ e. subst (λ x. w.suits x (m p) ≡ true) (sym e) (is_seating.alike p b c (m p) suits_first suits_second (seated.suited p p_low)))
        (λ o n. seated.suited a low);
    apart = λ x y lx ly same. sym (swap_swap p b x) ∙ ap (swap p b) (seated.apart (swap p b x) (swap p b y) (low_so x lx) (low_so y ly) same) ∙ swap_swap p b y;
  }

  -- and has room where the first has
  pub changed_room : (h : ℕ) → HasRoomWith w m h → HasRoomWith w changed h
  unfolding changed
  changed_room h (start, finish, have) = (
    (λ x. start (swap p b x)),
    (λ x. finish (swap p b x)),
    record {
      spans = record {
        from = λ a. have.spans.from (swap p b a);
        to = λ a. have.spans.to (swap p b a);
        forward = λ a. have.spans.forward (swap p b a);
        ordered = λ x y before. have.spans.ordered (swap p b x) (swap p b y)
            (before_left p b w.order twins x (swap p b y) ∙ before_right p b w.order twins x y ∙ before);
      };
      rooms = λ a low. have.rooms (swap p b a) (low_so a low);
    },
  )

  -- the first position has the second's choice
  pub changed_first : changed p ≡ c
  unfolding changed
  changed_first = ap m (swap_first p b p refl) ∙ takes

  -- each other position keeps its own
  pub changed_other : (x : ℕ) → (x ≡ p → ⊥) → (x ≡ b → ⊥) → changed x ≡ m x
  unfolding changed
  changed_other x o n = ap m (swap_other p b x o n)
