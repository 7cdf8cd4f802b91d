-- What an error of a number is about.
use Rattle.std.proofs.Common.{◌≡◌, ◌∙◌, ℕ, zero, suc, ◌<◌, Bool, true, false, List, [], ◌∷◌, Option, Some, None, ap, arith, get_or, inl, inr, length, map, nat_eq, cond, refl, subst, sym}
use Rattle.std.specs.List.{AllZip, filter}
use Rattle.std.proofs.lemmas.Bool.{eq-eqb, eqb-true}
use Rattle.htn_model.specs.PlanFile.{IsIn}
use Rattle.diagnostics.specs.declared.diagnostic.Where.{Where}
use Rattle.diagnostics.specs.declared.diagnostic.Where.TheVariants.{Text, Place}
use Rattle.plan_messages.specs.Mentions.{IsMention}
use Rattle.plan_messages.specs.Sightings.{places_of, seen_of, sighting_of}
use Rattle.plan_messages.specs.Spots.{IsOnLine}
use Rattle.plan_messages.specs.declared.mentions.Mention.{Mention}
use Rattle.plan_messages.specs.declared.placed_plan.PlacedPlan.{PlacedPlan}
use Rattle.plan_messages.proofs.OneLine.{on_through}
use Rattle.plan_messages.specs.Numbers.{HasSightings, IsSightingOf}
use Rattle.plan_messages.specs.Places.{IsOnLineOf, IsOnLineWith, IsPlaceOf}

-- a word from the place of a number on
pub placed_about : (p : PlacedPlan) (lines : List (ℕ × ℕ)) (id : ℕ) (place : Option ℕ) (w : Where) → IsPlaceOf p lines id place → IsOnLineOf p place w → IsOnLineWith p lines id w
placed_about p lines id None (Text source) none same = (same, none)
placed_about p lines id None (Place spot) none same = absurd same
placed_about p lines id (Some at) (Text source) on word = absurd word
placed_about p lines id (Some at) (Place spot) on word =
    (on.0, on.1, (word.0, on_through p.text.now.lines on.0 at spot.place on.2 word.1))

module _ (p : PlacedPlan) (id : ℕ) where
  -- each of these places is on a line of the number
  abbrev AllOn : List (ℕ × ℕ) → List ℕ → Type 0
  AllOn lines places = (place : ℕ) → IsIn place places → IsPlaceOf p lines id (Some place)

  more_lines : (e : ℕ × ℕ) (lines : List (ℕ × ℕ)) (place : ℕ) → IsPlaceOf p lines id (Some place) → IsPlaceOf p (e ∷ lines) id (Some place)
  more_lines e lines place on = (on.0, inr on.1, on.2)

  -- the places of a number's mentions are on its lines
  all_on : (lines : List (ℕ × ℕ)) (ms : List Mention) → AllZip (IsMention p.text.now.lines) lines ms → AllOn lines (places_of id ms)
  all_on [] [] all place i = absurd i
  all_on [] (m ∷ ms) all place i = absurd all
  all_on (e ∷ lines) [] all place i = absurd all
  all_on (e ∷ lines) (m ∷ ms) all place i = by (nat_eq m.id id) refl i (λ j. more_lines e lines place (all_on lines ms all.1 place j))
    where
      same_line : m.id ≡ id → e ≡ (id, e.1)
      same_line is = ap (λ n. (n, e.1)) (sym all.0.0 ∙ is)

      by : (b : Bool) → (nat_eq m.id id) ≡ b → IsIn place (map (λ x. x.place) (cond b (m ∷ filter (λ x. nat_eq x.id id) ms) (filter (λ x. nat_eq x.id id) ms)))
          → (IsIn place (places_of id ms) → IsPlaceOf p (e ∷ lines) id (Some place)) → IsPlaceOf p (e ∷ lines) id (Some place)
      by true is (inl here) rest = (e.1, inl (sym (same_line (eqb-true m.id id is))), subst (IsOnLine p.text.now.lines e.1) (sym here) all.0.1)
      by true is (inr later) rest = rest later
      by false is later rest = rest later

  -- a number without mentions has no line
  none_on : (lines : List (ℕ × ℕ)) (ms : List Mention) → AllZip (IsMention p.text.now.lines) lines ms → places_of id ms ≡ [] → IsPlaceOf p lines id None
  none_on [] [] all none line i = absurd i
  none_on [] (m ∷ ms) all none line i = absurd all
  none_on (e ∷ lines) [] all none line i = absurd all
  none_on (e ∷ lines) (m ∷ ms) all none line i = by (nat_eq m.id id) refl none i (λ n. none_on lines ms all.1 n)
    where
      by : (b : Bool) → (nat_eq m.id id) ≡ b → map (λ x. x.place) (cond b (m ∷ filter (λ x. nat_eq x.id id) ms) (filter (λ x. nat_eq x.id id) ms)) ≡ []
          → IsIn (id, line) (e ∷ lines) → (places_of id ms ≡ [] → IsPlaceOf p lines id None) → ⊥
      by true is n j rest = absurd (cc)
      by false is n (inl here) rest = let f = eq-eqb m.id id (all.0.0 ∙ ap (λ x. x.0) (sym here)) in absurd (cc)
      by false is n (inr later) rest = rest n line later

  sighted : (lines : List (ℕ × ℕ)) (places : List ℕ) → AllOn lines places → (places ≡ [] → IsPlaceOf p lines id None) → IsSightingOf p lines id (sighting_of places)
  sighted lines [] on none = none refl
  sighted lines (x ∷ []) on none = (on x (inl refl), λ place e. absurd (cc))
  sighted lines (x ∷ y ∷ places) on none = (on x (inl refl), λ place e. (let same : y ≡ place = cc in on place (inr (inl (sym same)))))

-- what is seen of numbers is on their lines
pub all_sighted : (p : PlacedPlan) (lines : List (ℕ × ℕ)) (ms : List Mention) (ids : List ℕ) → AllZip (IsMention p.text.now.lines) lines ms → HasSightings p lines ids (seen_of ids ms)
all_sighted p lines ms [] all = tt
all_sighted p lines ms (id ∷ ids) all =
    (sighted p id lines (places_of id ms) (all_on p id lines ms all) (none_on p id lines ms all), all_sighted p lines ms ids all)

-- at an index
pub all_at : {A B : Type 0} (R : A → B → Type 0) (xs : List A) (ys : List B) (i : ℕ) (d : A) (e : B) → AllZip R xs ys → i < length xs → R (get_or xs i d) (get_or ys i e)
all_at R [] ys i d e all less = absurd (omega arith)
all_at R (x ∷ xs) [] i d e all less = absurd all
all_at R (x ∷ xs) (y ∷ ys) zero d e all less = all.0
all_at R (x ∷ xs) (y ∷ ys) (suc i) d e all less = all_at R xs ys i d e all.1 (omega arith)
