-- What is offered by numbers is offered by points.
use Rattle.std.proofs.Common.{◌≡◌, ℕ, suc, zero, ◌-◌, ◌<◌, ◌≤◌, ◌⊎◌, Bool, true, false, true≢false, ◌||◌, if◌then◌else◌, List, [], ◌∷◌, ◌++◌, map, refl, sym, ap, subst, ◌∙◌, inl, inr, arith, slice_get, Some, All}
use Rattle.std.specs.Prelude.{nat_le}
use Rattle.std.proofs.lemmas.Bool.Decides.{leb_tells}
use Rattle.std.specs.List.{list_any}
use Rattle.std.proofs.lemmas.List.{map-append}
use Rattle.std.proofs.lemmas.List.Elements.{All-head, All-tail, All-append, All-cons, All-nil}
use Rattle.std.proofs.lemmas.Option.{none-some, same_Some}
use Rattle.word_machine.specs.declared.closed.Measured.{Measured}
use Rattle.word_machine.specs.declared.closed.Successor.{Successor}
use Rattle.word_machine.specs.Contents.{Contents, cut_more, offer, offer_all, IsOffered, AreOffered}
use Rattle.word_machine.specs.Meaning.{Meaning, IsGrown, successor_at, successors_of, contents_at}
use Rattle.word_machine.proofs.Meanings.{slice_get-map, slice_get-map_back, all_at, same_points}

-- true beside anything
or_true : (b : Bool) → (b || true) ≡ true
or_true true = refl
or_true false = refl

module _ {C P : Type 0} (eq : C → C → Bool) (same : (c d : C) → eq c d ≡ true → c ≡ d) (reflexive : (c : C) → eq c c ≡ true)
    (knows : C → Type 0) (point : C → P) (one_to_one : (c d : C) → knows c → knows d → point c ≡ point d → c ≡ d) where
  -- a key that is among those of the list has a place
  pub found : (ks : List C) (k : C) → list_any (eq k) ks ≡ true → (r : ℕ) × (slice_get ks r ≡ Some k)
  found [] k h = absurd (true≢false (sym h))
  found (x ∷ xs) k h = by (eq k x) refl (λ later. found xs k later)
    where
      by : (b : Bool) → eq k x ≡ b → (list_any (eq k) xs ≡ true → (r : ℕ) × (slice_get xs r ≡ Some k)) → (r : ℕ) × (slice_get (x ∷ xs) r ≡ Some k)
      by true e rest = (0, ap Some (sym (same k x e)))
      by false e rest = let later = rest (sym (ap (λ b. b || list_any (eq k) xs) e) ∙ h) in (suc later.0, later.1)

  -- one that has a place is among them
  present : (ks : List C) (k : C) (r : ℕ) → slice_get ks r ≡ Some k → list_any (eq k) ks ≡ true
  present [] k r at = absurd (none-some k at)
  present (x ∷ xs) k zero at = ap (λ b. b || list_any (eq k) xs) (subst (λ y. eq k y ≡ true) (sym (same_Some x k at)) (reflexive k))
  present (x ∷ xs) k (suc r) at = ap (λ b. eq k x || b) (present xs k r at) ∙ or_true (eq k x)

  -- a point that stands among those of the list has its number there
  pub known_point : (ks : List C) (c : C) → All knows ks → knows c → (r : ℕ) → slice_get (map point ks) r ≡ Some (point c) → list_any (eq c) ks ≡ true
  known_point ks c known own r at =
      let back = slice_get-map_back point ks r (point c) at in
      let alike : back.0 ≡ c = one_to_one back.0 c (all_at knows ks known r back.0 back.1) own back.2 in
      present ks c r (back.1 ∙ ap Some alike)

  -- one offer, by points
  pub offer_point : (contents : Contents C) (s : Successor C) (left room : ℕ) → All knows contents.keys → knows s.configuration
      → IsOffered (contents_at point contents) (successor_at point s) left room (contents_at point (offer eq contents s left room))
  offer_point contents s left room known own = by (list_any (eq s.configuration) contents.keys) refl
    where
      pushed : map point (contents.keys ++ s.configuration ∷ []) ≡ map point contents.keys ++ point s.configuration ∷ []
      pushed = map-append point contents.keys (s.configuration ∷ [])

      fitting : (fits : Bool) → contents_at point (if fits then record { keys = contents.keys ++ s.configuration ∷ []; origins = contents.origins ++ s.origin ∷ []; cut = contents.cut }
          else record { keys = contents.keys; origins = contents.origins; cut = cut_more contents.cut (left - room) })
          ≡ (if fits then record { keys = map point contents.keys ++ point s.configuration ∷ []; origins = contents.origins ++ s.origin ∷ []; cut = contents.cut }
          else record { keys = map point contents.keys; origins = contents.origins; cut = cut_more contents.cut (left - room) })
      fitting true = ap (λ l. record { keys = l; origins = contents.origins ++ s.origin ∷ []; cut = contents.cut }) pushed
      fitting false = refl

      by : (there : Bool) → list_any (eq s.configuration) contents.keys ≡ there
          → IsOffered (contents_at point contents) (successor_at point s) left room (contents_at point (if there then contents
          else if nat_le left room then record { keys = contents.keys ++ s.configuration ∷ []; origins = contents.origins ++ s.origin ∷ []; cut = contents.cut }
          else record { keys = contents.keys; origins = contents.origins; cut = cut_more contents.cut (left - room) }))
      by true is = let at = found contents.keys s.configuration is in inl (at.0, slice_get-map point contents.keys at.0 s.configuration at.1, refl)
      by false is = inr (inl ((λ r at. true≢false (sym (known_point contents.keys s.configuration known own r at) ∙ is)), fitting (nat_le left room)))

  -- all that is kept is known
  offer_known : (contents : Contents C) (s : Successor C) (left room : ℕ) → All knows contents.keys → knows s.configuration → All knows (offer eq contents s left room).keys
  offer_known contents s left room known own = by (list_any (eq s.configuration) contents.keys) (nat_le left room)
    where
      by : (there fits : Bool) → All knows (if there then contents
          else if fits then record { keys = contents.keys ++ s.configuration ∷ []; origins = contents.origins ++ s.origin ∷ []; cut = contents.cut }
          else record { keys = contents.keys; origins = contents.origins; cut = cut_more contents.cut (left - room) }).keys
      by true fits = known
      by false true = All-append knows contents.keys (s.configuration ∷ []) known (All-cons knows s.configuration [] own (All-nil knows))
      by false false = known

  -- all offers, by points
  pub offers : (measure : P → ℕ) (room : ℕ) (contents : Contents C) (batch : List (Successor C)) → All knows contents.keys → All (λ (s : Successor C). knows s.configuration) batch
      → AreOffered measure room (contents_at point contents) (map (successor_at point) batch) (contents_at point (offer_all eq (λ c. measure (point c)) room contents batch))
      × All knows (offer_all eq (λ c. measure (point c)) room contents batch).keys
  offers measure room contents [] known own = (refl, known)
  offers measure room contents (s ∷ batch) known own =
      let P = λ (s : Successor C). knows s.configuration in
      let left = measure (point s.configuration) in
      let next = offer eq contents s left room in
      let rest = offers measure room next batch (offer_known contents s left room known (All-head P s batch own)) (All-tail P s batch own) in
      ((contents_at point next, offer_point contents s left room known (All-head P s batch own), rest.0), rest.1)

module _ {P : Type 0} (measure : P → ℕ) (room : ℕ) where
  -- one more is offered
  offered_push : (old middle new : Contents P) (batch : List (Successor P)) (s : Successor P) → AreOffered measure room old batch middle
      → IsOffered middle s (measure s.configuration) room new → AreOffered measure room old (batch ++ s ∷ []) new
  offered_push old middle new [] s before own = (new, subst (λ (c : Contents P). IsOffered c s (measure s.configuration) room new) before own, refl)
  offered_push old middle new (x ∷ batch) s before own = (before.0, before.1, offered_push before.0 middle new batch s before.2 own)

-- what is past the room and not in the list is cut off
pub offered_past : {P : Type 0} (contents : Contents P) (s : Successor P) (left room : ℕ) → ((r : ℕ) → slice_get contents.keys r ≡ Some s.configuration → ⊥) → room < left
    → IsOffered contents s left room (record { keys = contents.keys; origins = contents.origins; cut = cut_more contents.cut (left - room) })
offered_past {P} contents s left room absent over = inr (inl (absent, by (nat_le left room) (leb_tells left room)))
  where
    by : (fits : Bool) → ((fits ≡ true) × (left ≤ room)) ⊎ ((fits ≡ false) × (room < left))
        → ◌≡◌ {A = Contents P} (record { keys = contents.keys; origins = contents.origins; cut = cut_more contents.cut (left - room) })
        (if fits then record { keys = contents.keys ++ s.configuration ∷ []; origins = contents.origins ++ s.origin ∷ []; cut = contents.cut }
        else record { keys = contents.keys; origins = contents.origins; cut = cut_more contents.cut (left - room) })
    by true (inl tells) = absurd (let fits : left ≤ room = tells.1 in omega arith)
    by true (inr tells) = absurd (true≢false tells.0)
    by false tells = refl

module _ {C R P : Type 0} (measure : P → ℕ) (room : ℕ) where
  -- a list stands for the same as the tables grow
  contents_same : (a b : Meaning C R P) → IsGrown a b → (contents : Contents C) → All a.knows contents.keys → contents_at a.point contents ≡ contents_at b.point contents
  contents_same a b g contents known = ap (λ l. record { keys = l; origins = contents.origins; cut = contents.cut }) (sym (same_points a b g contents.keys known))

  -- and so what was offered to it
  pub offered_still : (a b : Meaning C R P) → IsGrown a b → (old new : Contents C) (batch : List (Successor P)) → All a.knows old.keys → All a.knows new.keys
      → AreOffered measure room (contents_at a.point old) batch (contents_at a.point new) → AreOffered measure room (contents_at b.point old) batch (contents_at b.point new)
  offered_still a b g old new batch known known' offered =
      subst (λ c. AreOffered measure room c batch (contents_at b.point new)) (contents_same a b g old known)
      (subst (λ c. AreOffered measure room (contents_at a.point old) batch c) (contents_same a b g new known') offered)

  -- one more that a worker reached
  module _ (a b : Meaning C R P) (g : IsGrown a b) (point_of : R → P) (old now : Contents C) (done : List (Measured R)) (one : Measured R)
      (known : All a.knows old.keys) (known' : All a.knows now.keys)
      (before : AreOffered measure room (contents_at a.point old) (map (successor_at point_of) (successors_of done)) (contents_at a.point now)) where
    -- the offers so far, and one more
    pub offered_more : (new : Contents C)
        → IsOffered (contents_at b.point now) (successor_at point_of one.successor) (measure (point_of one.successor.configuration)) room (contents_at b.point new)
        → AreOffered measure room (contents_at b.point old) (map (successor_at point_of) (successors_of (done ++ one ∷ []))) (contents_at b.point new)
    offered_more new own =
        let view = successor_at point_of in
        let alone = λ (s : Measured R). s.successor in
        let joined : map view (successors_of (done ++ one ∷ [])) ≡ map view (successors_of done) ++ view one.successor ∷ [] =
        ap (map view) (map-append alone done (one ∷ [])) ∙ map-append view (successors_of done) (one.successor ∷ []) in
        subst (λ l. AreOffered measure room (contents_at b.point old) l (contents_at b.point new)) (sym joined)
        (offered_push measure room (contents_at b.point old) (contents_at b.point now) (contents_at b.point new) (map view (successors_of done)) (view one.successor)
        (offered_still a b g old now (map view (successors_of done)) known known' before) own)
