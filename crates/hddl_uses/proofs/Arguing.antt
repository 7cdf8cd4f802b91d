-- When an atom or a task fails, by its name and its arguments, and what is passed over inside a `forall`.
use Rattle.std.proofs.Common.{◌≡◌, ◌⊎◌, ℕ, ◌+◌, ◌<◌, ◌≤◌, Bool, true, false, cond, List, [], ◌∷◌, ◌++◌, map, Option, Some, None, refl, sym, ap, subst, ◌∙◌, inl, inr, take, get_or, length, arith}
use Rattle.std.specs.List.{find, zip}
use Rattle.std.proofs.lemmas.List.{length-map, length-take-le, take_more}
use Rattle.hddl_words.specs.declared.term.Term.{Term}
use Rattle.hddl_words.specs.declared.term.AtomText.{AtomText}
use Rattle.hddl_meaning.specs.Mentions.{Text, Typed, IsIn, folded}
use Rattle.hddl_meaning.specs.Names.{is_same_text, object_names}
use Rattle.hddl_meaning.specs.Uses.{Use, TermUse, Variable}
use Rattle.hddl_meaning.specs.Items.{IsUnknownTerm, IsMissing, Signature, declaration_in}
use Rattle.hddl_meaning.specs.declared.fault.CheckFault.{CheckFault}
use Rattle.hddl_meaning.specs.declared.fault.CheckFault.TheVariants as fault
use Rattle.hddl_meaning.proofs.Listed.{at_head, at_tail, in_cases, in_map, in_nothing, texts_decide}
use Rattle.hddl_scope.specs.Findings.{Adds, AddsAny, AnyOf, Faulted, Kept}
use Rattle.hddl_scope.proofs.Adding.{Adds-both, Adds-every, Adds-none, Adds-same}
use Rattle.hddl_scope.proofs.Finding.{AnyOf-cases, AnyOf-left, AnyOf-right, mapped}
use Rattle.hddl_uses.specs.Parts.{HasClash, HasUnknownArgument, IsWrongCount, Part, UseFails}
use Rattle.hddl_uses.specs.Contexts.{AnyArgumentFails, ArgumentClashes, ArgumentFails, Fails, PassedInside, PassedOver, PlacesFail, TermFails}
use Rattle.hddl_uses.specs.Tables.{as_parameter, has_name}
use Rattle.hddl_uses.specs.declared.context.Context.{Context}
use Rattle.hddl_uses.proofs.Using.{zip_parameters, zip_typed}

-- ## Inside a `forall`

-- where nothing is passed over, nothing is inside a `forall`
pub inside : (c : Context) (w : List Variable) (x : Part) {before after : Kept} → Adds (PassedOver c x) (Fails c x) before after → Adds (PassedInside c w x) (Fails c x) before after
inside c w x = Adds-every

-- the same of all parts of a list
pub all_inside : (c : Context) (w : List Variable) (xs : List Part) {before after : Kept} → AddsAny (PassedOver c) (Fails c) xs before after
    → AddsAny (PassedInside c w) (Fails c) xs before after
all_inside c w xs = Adds-same (λ f (x, at, o). absurd o) (λ f p. p) (λ f p. p)

-- ## Arguments beside places

-- one argument more, with a place for it
zip_push : {X Y : Type 0} (xs : List X) (x : X) (ys : List Y) (y : Y) → length xs < length ys → y ≡ get_or ys (length xs) y → zip (xs ++ x ∷ []) ys ≡ zip xs ys ++ (x, y) ∷ []
zip_push [] x [] y lt is = absurd (let none : 0 < 0 = lt in omega (arith, none))
zip_push [] x (b ∷ ys) y lt is = ap (λ z. (x, z) ∷ []) (sym is)
zip_push (a ∷ xs) x [] y lt is = absurd (omega (arith, lt))
zip_push (a ∷ xs) x (b ∷ ys) y lt is = ap (λ l. (a, b) ∷ l) (zip_push xs x ys y (omega (arith, lt)) is)

-- one argument more than places
zip_full : {X Y : Type 0} (xs : List X) (x : X) (ys : List Y) → length ys ≤ length xs → zip (xs ++ x ∷ []) ys ≡ zip xs ys
zip_full [] x [] le = refl
zip_full [] x (b ∷ ys) le = absurd (omega (arith, le))
zip_full (a ∷ xs) x [] le = refl
zip_full (a ∷ xs) x (b ∷ ys) le = ap (λ l. (a, b) ∷ l) (zip_full xs x ys (omega (arith, le)))

-- of the list of one item it is that item's
of_last : {X Y : Type 0} (P : X → Y → Type 0) (x : X) (y : Y) → AnyOf P (x ∷ []) y → P x y
of_last P x y (z, at, p) = elim (in_cases x z [] at) [ inl e ↦ subst (λ w. P w y) (sym e) p | inr gone ↦ absurd (in_nothing z gone) ]

module _ (c : Context) (w : List Variable) (terms : List Term) (places : List Variable) (k : ℕ) (x : Term) (lt : k < length terms) (is : x ≡ get_or terms k x) where
  -- the arguments so far
  abbrev front : List Term
  front = take k terms

  -- one argument more
  more : take (k + 1) terms ≡ front ++ x ∷ []
  more = take_more terms k x lt ∙ ap (λ y. front ++ y ∷ []) (sym is)

  -- as many as there were
  long : length front ≡ k
  long = length-take-le k terms (omega (arith, lt))

  -- an argument more, which has a place
  pub next_placed : (y : Variable) {before between after : Kept} → k < length places → y ≡ get_or places k y
      → Adds (λ _. ⊥) (AnyArgumentFails c w front places) before between → Adds (λ _. ⊥) (ArgumentFails c w (x, y)) between after
      → Adds (λ _. ⊥) (AnyArgumentFails c w (take (k + 1) terms) places) before after
  next_placed y {before} {between} {after} below at ha hb =
      subst (λ l. Adds (λ _. ⊥) (AnyArgumentFails c w l places) before after) (sym more) (Adds-same (λ f h. h) to from (Adds-both ha hb))
    where
      pairs : zip (front ++ x ∷ []) places ≡ zip front places ++ (x, y) ∷ []
      pairs = zip_push front x places y (omega (arith, below, long)) (at ∙ ap (λ n. get_or places n y) (sym long))

      to : (f : CheckFault) → AnyArgumentFails c w front places f ⊎ ArgumentFails c w (x, y) f → AnyArgumentFails c w (front ++ x ∷ []) places f
      to f (inl (inl unknown)) = inl (AnyOf-left (TermFails c w) front (x ∷ []) f unknown)
      to f (inl (inr clash)) = inr (subst (λ l. AnyOf (ArgumentClashes c w) l f) (sym pairs) (AnyOf-left (ArgumentClashes c w) (zip front places) ((x, y) ∷ []) f clash))
      to f (inr (inl unknown)) = inl (AnyOf-right (TermFails c w) front (x ∷ []) f (x, at_head x [], unknown))
      to f (inr (inr clash)) =
          inr (subst (λ l. AnyOf (ArgumentClashes c w) l f) (sym pairs)
          (AnyOf-right (ArgumentClashes c w) (zip front places) ((x, y) ∷ []) f ((x, y), at_head (x, y) [], clash)))

      from : (f : CheckFault) → AnyArgumentFails c w (front ++ x ∷ []) places f → AnyArgumentFails c w front places f ⊎ ArgumentFails c w (x, y) f
      from f (inl unknown) = elim (AnyOf-cases (TermFails c w) front (x ∷ []) f unknown) [
        | inl u ↦ inl (inl u)
        | inr u ↦ inr (inl (of_last (TermFails c w) x f u))
      ]
      from f (inr clash) =
          elim (AnyOf-cases (ArgumentClashes c w) (zip front places) ((x, y) ∷ []) f (subst (λ l. AnyOf (ArgumentClashes c w) l f) pairs clash)) [
            | inl u ↦ inl (inr u)
            | inr u ↦ inr (inr (of_last (ArgumentClashes c w) (x, y) f u))
          ]

  -- an argument more than there are places
  pub next_unplaced : {before between after : Kept} → length places ≤ k
      → Adds (λ _. ⊥) (AnyArgumentFails c w front places) before between → Adds (λ _. ⊥) (TermFails c w x) between after
      → Adds (λ _. ⊥) (AnyArgumentFails c w (take (k + 1) terms) places) before after
  next_unplaced {before} {between} {after} past ha hb =
      subst (λ l. Adds (λ _. ⊥) (AnyArgumentFails c w l places) before after) (sym more) (Adds-same (λ f h. h) to from (Adds-both ha hb))
    where
      pairs : zip (front ++ x ∷ []) places ≡ zip front places
      pairs = zip_full front x places (omega (arith, past, long))

      to : (f : CheckFault) → AnyArgumentFails c w front places f ⊎ TermFails c w x f → AnyArgumentFails c w (front ++ x ∷ []) places f
      to f (inl (inl unknown)) = inl (AnyOf-left (TermFails c w) front (x ∷ []) f unknown)
      to f (inl (inr clash)) = inr (subst (λ l. AnyOf (ArgumentClashes c w) l f) (sym pairs) clash)
      to f (inr unknown) = inl (AnyOf-right (TermFails c w) front (x ∷ []) f (x, at_head x [], unknown))

      from : (f : CheckFault) → AnyArgumentFails c w (front ++ x ∷ []) places f → AnyArgumentFails c w front places f ⊎ TermFails c w x f
      from f (inl unknown) = elim (AnyOf-cases (TermFails c w) front (x ∷ []) f unknown) [
        | inl u ↦ inl (inl u)
        | inr u ↦ inr (of_last (TermFails c w) x f u)
      ]
      from f (inr clash) = inl (inr (subst (λ l. AnyOf (ArgumentClashes c w) l f) pairs clash))

-- before any argument none fails
pub no_arguments : (c : Context) (w : List Variable) (places : List Variable) {kept : Kept} → Adds (λ _. ⊥) (AnyArgumentFails c w [] places) kept kept
no_arguments c w places = Adds-none (λ f h. elim h [ inl (x, at, p) ↦ in_nothing x at | inr (x, at, p) ↦ in_nothing x at ]) refl

-- ## The declaration of a use

-- a declaration that is found is among the declarations
declared_among : (signatures : List Signature) (t : Text) (s : Signature) → find (has_name t) signatures ≡ Some s → IsIn t (map (λ s. s.name) signatures)
declared_among [] t s e = cc
declared_among (r ∷ rs) t s e = by (is_same_text t r.name) refl e (declared_among rs t s)
  where
    by : (b : Bool) → is_same_text t r.name ≡ b → cond b (Some r) (find (has_name t) rs) ≡ Some s
        → (find (has_name t) rs ≡ Some s → IsIn t (map (λ s. s.name) rs)) → IsIn t (map (λ s. s.name) (r ∷ rs))
    by true same e rest = subst (λ z. IsIn z (map (λ s. s.name) (r ∷ rs))) (sym ((texts_decide t r.name).0 same)) (at_head r.name (map (λ s. s.name) rs))
    by false same e rest = at_tail r.name t (map (λ s. s.name) rs) (rest e)

module _ (c : Context) (w : List Variable) (atom : AtomText) (names : List Text) (signatures : List Signature) where
  -- the atom or task with the variables in force
  abbrev use_of : Use
  use_of = record { variables = w; atom = atom }

  -- a term of it
  abbrev as_use : Term → TermUse
  as_use x = record { variables = w; term = x }

  -- it fails by its arguments, or their number
  abbrev Inner : CheckFault → Type 0
  Inner f =
      Faulted fault.UnknownName c.source (HasUnknownArgument c.domain.now c.problem.now use_of) f
      ⊎ Faulted fault.Arity c.source (IsWrongCount signatures use_of) f
      ⊎ Faulted fault.TypeClash c.source (HasClash c.domain.now c.problem.now signatures use_of) f

  -- an argument that isn't known makes it fail
  unknown_to : (f : CheckFault) → AnyOf (TermFails c w) atom.terms f → Inner f
  unknown_to f (x, at, (place, e, unknown)) = inl (place, e, (as_use x, in_map as_use x atom.terms at, unknown))

  -- where it fails by one, one isn't known
  unknown_from : (f : CheckFault) → Faulted fault.UnknownName c.source (HasUnknownArgument c.domain.now c.problem.now use_of) f → AnyOf (TermFails c w) atom.terms f
  unknown_from f (place, e, (t, in', unknown)) =
      let (x, at, is) = mapped as_use atom.terms t in' in
      (x, at, (place, e, subst (λ (u : TermUse). IsUnknownTerm (object_names c.domain.now c.problem.now) u place) is unknown))

  module _ (s : Signature) (is_found : declaration_in signatures atom.name ≡ Some s) where
    -- it has one declaration
    same_declaration : (r : Signature) → declaration_in signatures atom.name ≡ Some r → r ≡ s
    same_declaration r is = let both : Some r ≡ Some s = sym is ∙ is_found in cc

    -- what fails beside its places makes it fail
    placed_to : (f : CheckFault) → PlacesFail c w atom (map as_parameter s.places) f → Inner f
    placed_to f (inl (place, e, (wrong, at))) =
        inr (inl (place, e, (s, is_found, λ same. wrong (same ∙ sym (length-map s.places as_parameter)), at)))
    placed_to f (inr (inl unknown)) = unknown_to f unknown
    placed_to f (inr (inr (z, in', (place, e, clash)))) =
        inr (inr (place, e, (s, z.0, z.1.typed, is_found, zip_typed atom.terms s.places z in', clash)))

    -- where it fails, something fails beside its places
    placed_from : (f : CheckFault) → Inner f → PlacesFail c w atom (map as_parameter s.places) f
    placed_from f (inl unknown) = inr (inl (unknown_from f unknown))
    placed_from f (inr (inl (place, e, (r, is, wrong, at)))) =
        inl (place, e, (λ same. wrong (same ∙ length-map s.places as_parameter ∙ ap (λ (x : Signature). length x.places) (sym (same_declaration r is))), at))
    placed_from f (inr (inr (place, e, (r, a, t, is, in', clash)))) =
        inr (inr (
          (a, as_parameter t),
          zip_parameters atom.terms s.places a t (subst (λ (x : Signature). IsIn {X = Term × Typed} (a, t) (zip atom.terms x.places)) (same_declaration r is) in'),
          (place, e, clash),
        ))

    -- faults of it, where its name is known
    pub known_added : {before after : Kept} → IsIn (folded atom.name.text) names → Adds (λ _. ⊥) (PlacesFail c w atom (map as_parameter s.places)) before after
        → Adds (λ _. ⊥) (UseFails c.domain.now c.problem.now c.source names signatures use_of) before after
    known_added is_named =
        Adds-same (λ f h. h) (λ f h. inr (placed_to f h))
        (λ f h. elim h [ inl (place, e, missing) ↦ absurd (missing.0 is_named) | inr rest ↦ placed_from f rest ])

    -- where it isn't
    pub misnamed_added : {before between after : Kept} → Adds (λ _. ⊥) (Faulted fault.UnknownName c.source (IsMissing names atom.name)) before between
        → Adds (λ _. ⊥) (PlacesFail c w atom (map as_parameter s.places)) between after
        → Adds (λ _. ⊥) (UseFails c.domain.now c.problem.now c.source names signatures use_of) before after
    misnamed_added ha hb = Adds-both ha (Adds-same (λ f h. h) placed_to placed_from hb)

  -- where it has no declaration
  pub undeclared_added : {before between after : Kept} → ((s : Signature) → declaration_in signatures atom.name ≡ Some s → ⊥)
      → Adds (λ _. ⊥) (Faulted fault.UnknownName c.source (IsMissing names atom.name)) before between → Adds (λ _. ⊥) (AnyArgumentFails c w atom.terms []) between after
      → Adds (λ _. ⊥) (UseFails c.domain.now c.problem.now c.source names signatures use_of) before after
  undeclared_added none ha hb = Adds-both ha (Adds-same (λ f h. h) to from hb)
    where
      nothing : (xs : List Term) (z : Term × Variable) → IsIn z (zip xs []) → ⊥
      nothing [] z at = in_nothing z at
      nothing (x ∷ xs) z at = in_nothing z at

      to : (f : CheckFault) → AnyArgumentFails c w atom.terms [] f → Inner f
      to f (inl unknown) = unknown_to f unknown
      to f (inr (z, in', clash)) = absurd (nothing atom.terms z in')

      from : (f : CheckFault) → Inner f → AnyArgumentFails c w atom.terms [] f
      from f (inl unknown) = inl (unknown_from f unknown)
      from f (inr (inl (place, e, (r, is, wrong, at)))) = absurd (none r is)
      from f (inr (inr (place, e, (r, a, t, is, in', clash)))) = absurd (none r is)

-- a name that isn't among the declarations has none
pub not_declared : (signatures : List Signature) (t : Text) → (IsIn t (map (λ s. s.name) signatures) → ⊥) → (s : Signature) → find (has_name t) signatures ≡ Some s → ⊥
not_declared signatures t gone s is = gone (declared_among signatures t s is)
