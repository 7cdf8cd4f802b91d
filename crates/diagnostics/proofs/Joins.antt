-- Diagnostics join those that say the same.
use Rattle.std.proofs.Common.{◌≡◌, ℕ, zero, suc, ◌+◌, ◌<◌, ◌≤◌, ◌||◌, Bool, true, false, not, cond, nat_eq, Some, None, List, [], ◌∷◌, ◌++◌, length, get_or, set, take, drop, map, refl, sym, ap, ◌∙◌, ⊎_elim, arith}
use Rattle.std.specs.declared.vec.Vec.{Vec}
use Rattle.std.proofs.lemmas.Bool.{cases_Bool, and_parts, eqb-true, false≢true}
use Rattle.std.proofs.lemmas.List.{length-map, map_push, take_more, drop_more, take-append-drop, append-nil}
use Rattle.std.proofs.lemmas.List.Sums.{fold_more}
use Rattle.std.proofs.lemmas.Option.{get_or_from_slice_get, slice_get-get_or}
use Rattle.std.specs.List.{position_or_len, list_any}
use Rattle.std.specs.Cmp.Lexicographic.{pointwise}
use Rattle.diagnostics.specs.declared.diagnostic.Diagnostic.{Diagnostic}
use Rattle.std.specs.declared.alloc.Global.{Global}
use Rattle.std.specs.Prelude.{slice_get}
use Rattle.std.specs.List.{cons_option}
use Rattle.std.proofs.lemmas.List.Elements.{filter_map-append}
use Rattle.diagnostics.specs.Groups.{first_saying, joined, folded, members_of, picked, with_one, JoinsAt}
use Rattle.diagnostics.specs.Written.{saying}

-- ---- the first element that passes

-- by what is taken of each element
pub position-map : {X : Type 0} (f : X → List ℕ) (t : List ℕ → Bool) (xs : List X) → position_or_len (λ x. t (f x)) xs ≡ position_or_len t (map f xs)
position-map f t [] = refl
position-map f t (x ∷ xs) = ap (λ n. cond (not (t (f x))) (1 + n) 0) (position-map f t xs)

-- there is one, or there is none
pub any_below : {X : Type 0} (t : X → Bool) (xs : List X) → position_or_len t xs < length xs → list_any t xs ≡ true
any_below t [] h = absurd (omega arith)
any_below t (x ∷ xs) h =
    ⊎_elim (λ yes. rw yes refl)
    (λ no. let e : position_or_len t (x ∷ xs) ≡ 1 + position_or_len t xs = rw no refl in ap (λ b. b || list_any t xs) no ∙ any_below t xs (omega (arith, e)))
    (cases_Bool (t x))

pub any_none : {X : Type 0} (t : X → Bool) (xs : List X) → length xs ≤ position_or_len t xs → list_any t xs ≡ false
any_none t [] h = refl
any_none t (x ∷ xs) h =
    ⊎_elim (λ yes. let e : position_or_len t (x ∷ xs) ≡ 0 = rw yes refl in absurd (omega (arith, e)))
    (λ no. let e : position_or_len t (x ∷ xs) ≡ 1 + position_or_len t xs = rw no refl in ap (λ b. b || list_any t xs) no ∙ any_none t xs (omega (arith, e)))
    (cases_Bool (t x))

-- ---- joining

-- a text that is the same as another
same_text : (a b : List ℕ) → pointwise nat_eq a b ≡ true → a ≡ b
same_text [] [] is = refl
same_text [] (y ∷ b) is = absurd (false≢true is)
same_text (x ∷ a) [] is = absurd (false≢true is)
same_text (x ∷ a) (y ∷ b) is =
    let parts = and_parts (nat_eq x y) (pointwise nat_eq a b) is in
    ap (λ z. z ∷ a) (eqb-true x y parts.0) ∙ ap (λ l. y ∷ l) (same_text a b parts.1)

module _ (d : Diagnostic) where
  -- whether a group says the same
  abbrev says : List Diagnostic → Bool
  says g = pointwise nat_eq (saying d) (first_saying saying g)

  -- the group that says the same has one more
  pub joined_below : (gs : List (List Diagnostic)) (n : ℕ) → n ≡ position_or_len says gs → n < length gs → joined saying d gs ≡ with_one n d gs
  joined_below [] n e h = absurd (omega arith)
  joined_below (g ∷ gs) n e h =
      let with : List (List Diagnostic) = (g ++ d ∷ []) ∷ gs in
      let rest : List (List Diagnostic) = g ∷ joined saying d gs in
      let m : ℕ = position_or_len says gs in
      let at : n ≡ cond (not (says g)) (1 + m) 0 = e in
      ⊎_elim
      (λ yes. let here : n ≡ 0 = at ∙ ap (λ t. cond (not t) (1 + m) 0) yes in ap (λ t. cond t with rest) yes ∙ ap (λ k. with_one k d (g ∷ gs)) (sym here))
      (λ no.
      let later : n ≡ 1 + m = at ∙ ap (λ t. cond (not t) (1 + m) 0) no in
      let len : n ≡ suc m = omega (arith, later) in
      ap (λ t. cond t with rest) no ∙ ap (λ l. g ∷ l) (joined_below gs m refl (omega arith)) ∙ ap (λ k. with_one k d (g ∷ gs)) (sym len))
      (cases_Bool (says g))

  -- where none does, there is one group more
  pub joined_end : (gs : List (List Diagnostic)) (n : ℕ) → n ≡ position_or_len says gs → length gs ≤ n → joined saying d gs ≡ gs ++ (d ∷ []) ∷ []
  joined_end [] n e h = refl
  joined_end (g ∷ gs) n e h =
      let with : List (List Diagnostic) = (g ++ d ∷ []) ∷ gs in
      let rest : List (List Diagnostic) = g ∷ joined saying d gs in
      let m : ℕ = position_or_len says gs in
      let at : n ≡ cond (not (says g)) (1 + m) 0 = e in
      ⊎_elim
      (λ yes. let here : n ≡ 0 = at ∙ ap (λ t. cond (not t) (1 + m) 0) yes in absurd (omega (arith, here)))
      (λ no.
      let later : n ≡ 1 + m = at ∙ ap (λ t. cond (not t) (1 + m) 0) no in
      ap (λ t. cond t with rest) no ∙ ap (λ l. g ∷ l) (joined_end gs m refl (omega (arith, later))))
      (cases_Bool (says g))

  -- one more says what the group said
  first_stays : (g : List Diagnostic) → says g ≡ true → first_saying saying (g ++ d ∷ []) ≡ first_saying saying g
  first_stays [] is = same_text (saying d) [] is
  first_stays (e ∷ g) is = refl

  -- so the groups say what they said
  pub sayings_stay : (gs : List (List Diagnostic)) (n : ℕ) → n ≡ position_or_len says gs → n < length gs → map (first_saying saying) (with_one n d gs) ≡ map (first_saying saying) gs
  sayings_stay [] n e h = absurd (omega arith)
  sayings_stay (g ∷ gs) n e h =
      let m : ℕ = position_or_len says gs in
      let at : n ≡ cond (not (says g)) (1 + m) 0 = e in
      ⊎_elim
      (λ yes. let here : n ≡ 0 = at ∙ ap (λ t. cond (not t) (1 + m) 0) yes in
      ap (λ k. map (first_saying saying) (with_one k d (g ∷ gs))) here ∙ ap (λ t. t ∷ map (first_saying saying) gs) (first_stays g yes))
      (λ no.
      let later : n ≡ 1 + m = at ∙ ap (λ t. cond (not t) (1 + m) 0) no in
      let len : n ≡ suc m = omega (arith, later) in
      ap (λ k. map (first_saying saying) (with_one k d (g ∷ gs))) len ∙ ap (λ l. first_saying saying g ∷ l) (sayings_stay gs m refl (omega arith)))
      (cases_Bool (says g))

-- ---- keys

-- where a diagnostic joins, by the keys of the groups
pub joins_by_keys : {A : Type 0} (keys : List (Vec ℕ A)) (key : Vec ℕ A) (gs : List (List Diagnostic)) (d : Diagnostic) (n : ℕ) → map (λ v. v.items) keys ≡ map (first_saying saying) gs → key.items ≡ saying d → n ≡ position_or_len (λ v. pointwise nat_eq key.items v.items) keys
    → n ≡ position_or_len (λ g. pointwise nat_eq (saying d) (first_saying saying g)) gs
joins_by_keys keys key gs d n same is at =
    at ∙ position-map (λ v. v.items) (pointwise nat_eq key.items) keys
    ∙ ap (λ t. position_or_len (pointwise nat_eq t) (map (λ v. v.items) keys)) is
    ∙ ap (position_or_len (pointwise nat_eq (saying d))) same ∙ sym (position-map (first_saying saying) (pointwise nat_eq (saying d)) gs)

-- there are as many keys as groups
pub as_many_keys : {A : Type 0} (keys : List (Vec ℕ A)) (gs : List (List Diagnostic)) → map (λ v. v.items) keys ≡ map (first_saying saying) gs → length keys ≡ length gs
as_many_keys keys gs same = sym (length-map keys (λ v. v.items)) ∙ ap length same ∙ length-map gs (first_saying saying)

-- a key that is there stays
pub keys_stay : {A : Type 0} (keys : List (Vec ℕ A)) (key : Vec ℕ A) (n : ℕ) → n ≡ position_or_len (λ v. pointwise nat_eq key.items v.items) keys → n < length keys → cond (list_any (λ v. pointwise nat_eq key.items v.items) keys) keys (keys ++ key ∷ []) ≡ keys
keys_stay keys key n at h = ap (λ b. cond b keys (keys ++ key ∷ [])) (any_below (λ v. pointwise nat_eq key.items v.items) keys (omega (arith, at)))

-- another goes last
pub keys_grow : {A : Type 0} (keys : List (Vec ℕ A)) (key : Vec ℕ A) (n : ℕ) → n ≡ position_or_len (λ v. pointwise nat_eq key.items v.items) keys → length keys ≤ n → cond (list_any (λ v. pointwise nat_eq key.items v.items) keys) keys (keys ++ key ∷ []) ≡ keys ++ key ∷ []
keys_grow keys key n at h = ap (λ b. cond b keys (keys ++ key ∷ [])) (any_none (λ v. pointwise nat_eq key.items v.items) keys (omega (arith, at)))

-- ---- indices

module _ (ds : List Diagnostic) (i : ℕ) (d : Diagnostic) (is : slice_get ds i ≡ Some d) where
  -- one index more
  picked_push : (ns : List ℕ) → picked ds (ns ++ i ∷ []) ≡ picked ds ns ++ d ∷ []
  picked_push ns = filter_map-append (slice_get ds) ns (i ∷ []) ∙ ap (λ o. picked ds ns ++ cons_option o []) is

  -- in one of the groups
  pub members_set : (gs : List (Vec ℕ Global)) (n : ℕ) (old new : Vec ℕ Global) → n < length gs → old ≡ get_or gs n old → new.items ≡ old.items ++ i ∷ [] → members_of ds (set gs n new) ≡ with_one n d (members_of ds gs)
  members_set [] n old new h at grown = absurd (omega arith)
  members_set (g ∷ gs) zero old new h at grown = ap (λ t. t ∷ members_of ds gs) (ap (picked ds) (grown ∙ ap (λ v. v.items ++ i ∷ []) at) ∙ picked_push g.items)
  members_set (g ∷ gs) (suc n) old new h at grown = ap (λ t. picked ds g.items ∷ t) (members_set gs n old new (omega arith) at grown)

  -- in a group of its own
  pub members_push : (gs : List (Vec ℕ Global)) (new : Vec ℕ Global) → new.items ≡ i ∷ [] → members_of ds (gs ++ new ∷ []) ≡ members_of ds gs ++ (d ∷ []) ∷ []
  members_push gs new grown = map_push (λ g. picked ds g.items) gs new ∙ ap (λ t. members_of ds gs ++ t ∷ []) (ap (picked ds) grown ∙ picked_push [])

-- ---- the elements at some indices

module _ (ds : List Diagnostic) (ns : List ℕ) (k : ℕ) (h : k < length ns) where
  -- one index more
  picked_more : picked ds (take (k + 1) ns) ≡ picked ds (take k ns) ++ cons_option (slice_get ds (get_or ns k 0)) []
  picked_more = ap (picked ds) (take_more ns k 0 h) ∙ filter_map-append (slice_get ds) (take k ns) (get_or ns k 0 ∷ [])

  pub picked_more_some : (d : Diagnostic) → slice_get ds (get_or ns k 0) ≡ Some d → picked ds (take (k + 1) ns) ≡ picked ds (take k ns) ++ d ∷ []
  picked_more_some d is = picked_more ∙ ap (λ o. picked ds (take k ns) ++ cons_option o []) is

  pub picked_more_none : slice_get ds (get_or ns k 0) ≡ None → picked ds (take (k + 1) ns) ≡ picked ds (take k ns)
  picked_more_none is = picked_more ∙ ap (λ o. picked ds (take k ns) ++ cons_option o []) is ∙ append-nil (picked ds (take k ns))

  -- the first that is there, and those after it
  pub picked_first : (d : Diagnostic) → picked ds (take k ns) ≡ [] → slice_get ds (get_or ns k 0) ≡ Some d → picked ds ns ≡ d ∷ picked ds (drop (k + 1) ns)
  picked_first d none is =
      ap (picked ds) (sym (take-append-drop k ns)) ∙ filter_map-append (slice_get ds) (take k ns) (drop k ns) ∙ ap (λ l. l ++ picked ds (drop k ns)) none
      ∙ ap (picked ds) (drop_more ns k 0 h) ∙ ap (λ o. cons_option o (picked ds (drop (k + 1) ns))) is

-- each joins in turn
pub folded_more : (ds : List Diagnostic) (i : ℕ) (d : Diagnostic) → i < length ds → slice_get ds i ≡ Some d → folded saying (take (i + 1) ds) ≡ joined saying d (folded saying (take i ds))
folded_more ds i d h is =
    fold_more (λ gs e. joined saying e gs) [] ds i d h ∙ ap (λ e. joined saying e (folded saying (take i ds))) (get_or_from_slice_get ds i d d is)

pub folded_next : (ds : List Diagnostic) (i : ℕ) → i < length ds → (old new : List (List Diagnostic)) → old ≡ folded saying (take i ds) → JoinsAt saying ds i old new → new ≡ folded saying (take (i + 1) ds)
folded_next [] i h old new before joins = absurd (omega arith)
folded_next (e ∷ ds) i h old new before joins =
    let is = slice_get-get_or (e ∷ ds) i e h in
    let d = get_or (e ∷ ds) i e in
    joins d is ∙ ap (joined saying d) before ∙ sym (folded_more (e ∷ ds) i d h is)

-- past the end there is none
pub slice_get_past : (ds : List Diagnostic) (i : ℕ) → length ds ≤ i → slice_get ds i ≡ None
slice_get_past [] i h = refl
slice_get_past (d ∷ ds) zero h = absurd (omega arith)
slice_get_past (d ∷ ds) (suc i) h = slice_get_past ds i (omega arith)
