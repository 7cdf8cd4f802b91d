-- Places and exits that are looked up.
use Rattle.std.proofs.Common.{◌≡◌, ℕ, Bool, true, false, cond, Contains, IfSome, Some, nat_eq, refl, sym, ap, subst, ◌∙◌}
use Rattle.std.specs.Map.{lookup}
use Rattle.std.proofs.lemmas.Bool.{eqb-true}
use Rattle.indexmap.specs.IndexMap.{IndexMap, get, IsEmpty}
use Rattle.call_table.specs.Sites.{site_eq, site_eq-decides}
use Rattle.call_table.specs.Views.{ArePlaces, AreExits}
use Rattle.call_table.specs.declared.call.Exit.{Exit}
use Rattle.call_table.specs.declared.call.Place.{Place}
use Rattle.call_table.specs.declared.call.Call.{Call}
use Rattle.call_table.specs.declared.site.Site.{Site}

module _ {S : Type 0} (c : Call) where
  -- nothing is looked up in an empty map
  pub no_places : (m : IndexMap Site ℕ S) → IsEmpty m → ArePlaces c m
  no_places m none q =
      subst (λ es. IfSome (lookup (site_eq q) es) (λ d. Contains c.places.items (record { state = q.state; blocks = q.number; distance = d }))) (sym none) tt

  pub no_exits : (m : IndexMap ℕ ℕ S) → IsEmpty m → AreExits c m
  no_exits m none s =
      subst (λ es. IfSome (lookup (nat_eq s) es) (λ cost. Contains c.exits.items (record { state = s; cost = cost }))) (sym none) tt

  -- one place more
  pub place_more : (m n : IndexMap Site ℕ S) (p : Place) → Contains c.places.items p → ArePlaces c m
      → ((q : Site) → get site_eq n q ≡ cond (site_eq (record { state = p.state; number = p.blocks }) q) (Some p.distance) (get site_eq m q)) → ArePlaces c n
  place_more m n p stands places put q = by (site_eq (record { state = p.state; number = p.blocks }) q) refl
    where
      by : (b : Bool) → site_eq (record { state = p.state; number = p.blocks }) q ≡ b
          → IfSome (get site_eq n q) (λ d. Contains c.places.items (record { state = q.state; blocks = q.number; distance = d }))
      by true e =
          let same : record { state = p.state; number = p.blocks } ≡ q = (site_eq-decides (record { state = p.state; number = p.blocks }) q).0 e in
          subst (λ o. IfSome o (λ d. Contains c.places.items (record { state = q.state; blocks = q.number; distance = d })))
          (sym (put q ∙ ap (λ b. cond b (Some p.distance) (get site_eq m q)) e))
          (subst (λ (x : Site). Contains c.places.items (record { state = x.state; blocks = x.number; distance = p.distance })) same stands)
      by false e =
          subst (λ o. IfSome o (λ d. Contains c.places.items (record { state = q.state; blocks = q.number; distance = d })))
          (sym (put q ∙ ap (λ b. cond b (Some p.distance) (get site_eq m q)) e)) (places q)

  -- one exit more
  pub exit_more : (m n : IndexMap ℕ ℕ S) (x : Exit) → Contains c.exits.items x → AreExits c m
      → ((s : ℕ) → get nat_eq n s ≡ cond (nat_eq x.state s) (Some x.cost) (get nat_eq m s)) → AreExits c n
  exit_more m n x stands exits put s = by (nat_eq x.state s) refl
    where
      by : (b : Bool) → nat_eq x.state s ≡ b → IfSome (get nat_eq n s) (λ cost. Contains c.exits.items (record { state = s; cost = cost }))
      by true e =
          let same : x.state ≡ s = eqb-true x.state s e in
          subst (λ o. IfSome o (λ cost. Contains c.exits.items (record { state = s; cost = cost })))
          (sym (put s ∙ ap (λ b. cond b (Some x.cost) (get nat_eq m s)) e))
          (subst (λ k. Contains c.exits.items (record { state = k; cost = x.cost })) same stands)
      by false e =
          subst (λ o. IfSome o (λ cost. Contains c.exits.items (record { state = s; cost = cost })))
          (sym (put s ∙ ap (λ b. cond b (Some x.cost) (get nat_eq m s)) e)) (exits s)
