-- What is checked of calls.
use Rattle.std.proofs.Common.{◌≡◌, ℕ, ◌+◌, ◌<◌, ◌≤◌, List, length, get_or, slice_get, take, All, Contains, IfSome, Some, inl, inr, nat_eq, refl, sym, ◌∙◌, subst}
use Rattle.std.proofs.lemmas.Bool.{cases_lt}
use Rattle.std.proofs.lemmas.List.{take_all}
use Rattle.std.proofs.lemmas.Option.{none-some, slice_get-get_or, slice_get_past}
use Rattle.std.proofs.lemmas.List.Elements.{All-more}
use Rattle.indexmap.specs.IndexMap.{IndexMap, get}
use Rattle.htn_calls.specs.Calls.{Covers}
use Rattle.htn_calls.proofs.Numbered.{mapped_in}
use Rattle.call_table.specs.Lists.{Lists, list_at}
use Rattle.call_table.specs.Sites.{site_eq}
use Rattle.call_table.specs.Views.{exit_view, place_view, summary_view, IsMetAt, ArePlaces, AreExits}
use Rattle.call_table.specs.declared.call.Exit.{Exit}
use Rattle.call_table.specs.declared.call.Place.{Place}
use Rattle.call_table.specs.declared.call.Call.{Call}
use Rattle.call_table.specs.declared.site.Site.{Site}

-- an element stands in its list
pub stands : {X : Type 0} (xs ys : List X) (i : ℕ) (x : X) → xs ≡ ys → i < length xs → x ≡ get_or xs i x → Contains ys x
stands xs ys i x same low is = subst (λ l. Contains l x) same (i, low, sym is)

-- one more passes
pub all_more : {X : Type 0} (P : X → Type 0) (xs : List X) (i : ℕ) (x : X) → i < length xs → x ≡ get_or xs i x → All P (take i xs) → P x → All P (take (i + 1) xs)
all_more P xs i x low is all here = All-more P xs i x low all (subst P is here)

-- one more that stands at its place passes
pub entry_more : {X : Type 0} (P : X → Type 0) (xs : List X) (i : ℕ) (x : X) → Some x ≡ slice_get xs i → All P (take i xs) → P x → All P (take (i + 1) xs)
entry_more P xs i x is all here = elim (cases_lt i (length xs)) [
  | inl low ↦ (let both : Some x ≡ Some (get_or xs i x) = is ∙ slice_get-get_or xs i x low in
      let same : x ≡ get_or xs i x = cc in
      all_more P xs i x low same all here)
  | inr past ↦ absurd (none-some x (sym (is ∙ slice_get_past xs i past)))
]

-- all pass once all were taken
pub all_taken : {X : Type 0} (P : X → Type 0) (xs ys : List X) (i : ℕ) → xs ≡ ys → length xs ≤ i → All P (take i xs) → All P ys
all_taken P xs ys i same past all = subst (All P) same (subst (All P) (take_all i xs past) all)

-- an exit that is looked up covers
pub exit_covers : {S : Type 0} (call : Call) (m : IndexMap ℕ ℕ S) (s cost steps : ℕ) → AreExits call m → Some cost ≡ get nat_eq m s → cost ≤ steps → Covers (summary_view call) s steps
exit_covers call m s cost steps exits is within =
    let exit : Exit = record { state = s; cost = cost } in
    let listed : Contains call.exits.items exit = subst (λ o. IfSome o (λ c. Contains call.exits.items (record { state = s; cost = c }))) (sym is) (exits s) in
    inr (exit_view exit, mapped_in exit_view exit call.exits.items listed, refl, within)

module _ (l : Lists) where
  -- a place that is looked up meets
  pub place_meets : {S : Type 0} (call : Call) (m : IndexMap Site ℕ S) (q : Site) (distance steps : ℕ) → ArePlaces call m → Some distance ≡ get site_eq m q → distance ≤ steps
      → IsMetAt l call q.state (list_at l q.number) steps
  place_meets call m q distance steps places is within =
      let place : Place = record { state = q.state; blocks = q.number; distance = distance } in
      let listed : Contains call.places.items place =
      subst (λ o. IfSome o (λ d. Contains call.places.items (record { state = q.state; blocks = q.number; distance = d }))) (sym is) (places q) in
      inr (place_view l place, mapped_in (place_view l) place call.places.items listed, refl, refl, within)
