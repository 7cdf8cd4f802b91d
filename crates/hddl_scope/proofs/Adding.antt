-- How added faults are joined.
use Rattle.std.proofs.Common.{◌≡◌, ◌⊎◌, ℕ, ◌+◌, ◌<◌, ◌≤◌, List, [], ◌∷◌, ◌++◌, map, Bool, true, false, cond, append_assoc, Option, Some, None, IfSome, refl, sym, ap, subst, ◌∙◌, inl, inr, take, get_or, length, arith}
use Rattle.std.specs.List.{flat_map, fold}
use Rattle.std.proofs.lemmas.List.{append-nil, map-append, take_more}
use Rattle.std.proofs.lemmas.List.Elements.{Contains-append_left, Contains-append_right, Contains-append_cases}
use Rattle.std.proofs.lemmas.Grind.{flat_map-append}
use Rattle.hddl_meaning.specs.Mentions.{IsIn}
use Rattle.hddl_meaning.specs.declared.fault.Source.{Source}
use Rattle.hddl_meaning.specs.declared.fault.At.{At}
use Rattle.hddl_meaning.specs.declared.fault.CheckFault.{CheckFault}
use Rattle.hddl_meaning.proofs.Listed.{at_head, at_tail, in_cases, in_nothing, in_map}
use Rattle.hddl_scope.specs.Findings.{Adds, AddsAny, AnyOf, Faulted, Finds, Kept, first_with, keep}
use Rattle.hddl_scope.specs.Ranks.{comes_before}
use Rattle.hddl_scope.proofs.Finding.{AnyOf-left, AnyOf-right, AnyOf-cases, mapped}

-- what is kept after two lists of faults
pub fold-joined : (kept : Kept) (fs gs : List CheckFault) → fold keep kept (fs ++ gs) ≡ fold keep (fold keep kept fs) gs
fold-joined kept [] gs = refl
fold-joined kept (f ∷ fs) gs = fold-joined (keep kept f) fs gs

-- what is kept after the faults of one more item of a list
pub fold-more : {X : Type 0} (of : X → CheckFault) (kept : Kept) (xs : List X) (k : ℕ) (x : X) → k < length xs → x ≡ get_or xs k x
    → keep (fold keep kept (map of (take k xs))) (of x) ≡ fold keep kept (map of (take (k + 1) xs))
fold-more of kept xs k x lt is =
    sym (fold-joined kept (map of (take k xs)) (of x ∷ []))
    ∙ ap (fold keep kept) (sym (map-append of (take k xs) (x ∷ [])) ∙ ap (map of) (ap (λ y. take k xs ++ y ∷ []) is ∙ sym (take_more xs k x lt)))

-- where two lists joined are empty, each is
empty_left : (fs gs : List CheckFault) → fs ++ gs ≡ [] → fs ≡ []
empty_left [] gs e = refl
empty_left (f ∷ fs) gs e = cc

-- and so is the second
empty_right : (fs gs : List CheckFault) → fs ++ gs ≡ [] → gs ≡ []
empty_right [] gs e = e
empty_right (f ∷ fs) gs e = cc

-- no fault is added where none has the property
pub Adds-none : {O P : CheckFault → Type 0} {before after : Kept} → ((f : CheckFault) → P f → ⊥) → after ≡ before → Adds O P before after
Adds-none never is = record { added = []; sound = λ f at. absurd (in_nothing f at); complete = λ f p. absurd (never f p); none = λ e f p. never f p; is = is }

-- the one fault that has the property is added
pub Adds-one : {O P : CheckFault → Type 0} {before after : Kept} (f : CheckFault) → P f → ((g : CheckFault) → P g → g ≡ f) → after ≡ keep before f → Adds O P before after
Adds-one {O} {P} f p one is = record {
  added = f ∷ [];
  sound = λ g at. elim (in_cases f g [] at) [ inl e ↦ subst P e p | inr gone ↦ absurd (in_nothing g gone) ];
  complete = λ g q. inl (subst (λ x. IsIn x (f ∷ [])) (sym (one g q)) (at_head f []));
  none = λ e. cc;
  is = is;
}

-- the same property under another name, of which no more is passed over
pub Adds-same : {O N P Q : CheckFault → Type 0} {before after : Kept} → ((f : CheckFault) → O f → N f) → ((f : CheckFault) → P f → Q f) → ((f : CheckFault) → Q f → P f)
    → Adds O P before after → Adds N Q before after
Adds-same over to back h = record {
  added = h.added;
  sound = λ f at. to f (h.sound f at);
  complete = λ f q. elim (h.complete f (back f q)) [ inl at ↦ inl at | inr passed ↦ inr (over f passed) ];
  none = λ e f q. h.none e f (back f q);
  is = h.is;
}

-- faults of the one property, and then of another
pub Adds-either : {O N P Q : CheckFault → Type 0} {before between after : Kept} → Adds O P before between → Adds N Q between after
    → Adds (λ f. O f ⊎ N f) (λ f. P f ⊎ Q f) before after
Adds-either {before = before} ha hb = record {
  added = ha.added ++ hb.added;
  sound = λ f at. elim (Contains-append_cases ha.added hb.added f at) [ inl i ↦ inl (ha.sound f i) | inr i ↦ inr (hb.sound f i) ];
  complete = λ f h. elim h [
    | inl p ↦ elim (ha.complete f p) [ inl i ↦ inl (Contains-append_left ha.added hb.added f i) | inr o ↦ inr (inl o) ]
    | inr q ↦ elim (hb.complete f q) [ inl i ↦ inl (Contains-append_right ha.added hb.added f i) | inr o ↦ inr (inr o) ]
  ];
  none = λ e f h. elim h [ inl p ↦ ha.none (empty_left ha.added hb.added e) f p | inr q ↦ hb.none (empty_right ha.added hb.added e) f q ];
  is = hb.is ∙ ap (λ k. fold keep k hb.added) ha.is ∙ sym (fold-joined before ha.added hb.added);
}

module _ {X : Type 0} (O P : X → CheckFault → Type 0) where
  -- faults of two lists
  pub Adds-append : (xs ys : List X) {before between after : Kept} → AddsAny O P xs before between → AddsAny O P ys between after → AddsAny O P (xs ++ ys) before after
  Adds-append xs ys ha hb =
      Adds-same (λ f h. elim h [ inl p ↦ AnyOf-left O xs ys f p | inr q ↦ AnyOf-right O xs ys f q ])
      (λ f h. elim h [ inl p ↦ AnyOf-left P xs ys f p | inr q ↦ AnyOf-right P xs ys f q ]) (AnyOf-cases P xs ys) (Adds-either ha hb)

  -- of an empty list none is added
  pub Adds-nil : {before after : Kept} → after ≡ before → AddsAny O P [] before after
  Adds-nil is = Adds-none (λ f (x, at, p). in_nothing x at) is

  -- the fault of an item is one of the list of it alone
  of_one : (R : X → CheckFault → Type 0) (x : X) (f : CheckFault) → AnyOf R (x ∷ []) f → R x f
  of_one R x f (y, at, r) = elim (in_cases x y [] at) [ inl e ↦ subst (λ z. R z f) (sym e) r | inr gone ↦ absurd (in_nothing y gone) ]

  -- faults of an item are those of the list of it alone
  pub Adds-single : (x : X) {before after : Kept} → Adds (O x) (P x) before after → AddsAny O P (x ∷ []) before after
  Adds-single x = Adds-same (λ f o. (x, at_head x [], o)) (λ f p. (x, at_head x [], p)) (of_one P x)

  -- faults of a list are those of an equal one
  pub Adds-list : {xs ys : List X} {before after : Kept} → xs ≡ ys → AddsAny O P xs before after → AddsAny O P ys before after
  Adds-list {before = before} {after = after} e = subst (λ l. AddsAny O P l before after) e

  -- the step of a loop over a list, of which each item brings parts
  pub Adds-next : {Z : Type 0} (parts : Z → List X) (zs : List Z) (k : ℕ) (z : Z) {before between after : Kept} → k < length zs → z ≡ get_or zs k z
      → AddsAny O P (flat_map parts (take k zs)) before between → AddsAny O P (parts z) between after
      → AddsAny O P (flat_map parts (take (k + 1) zs)) before after
  Adds-next parts zs k z lt is ha hb =
      Adds-list
      (ap (λ l. flat_map parts (take k zs) ++ l) (ap parts is ∙ sym (append-nil (parts (get_or zs k z)))) ∙ sym (flat_map-append parts (take k zs) (get_or zs k z ∷ []))
      ∙ ap (flat_map parts) (sym (take_more zs k z lt)))
      (Adds-append (flat_map parts (take k zs)) (parts z) ha hb)

  -- the step of a loop over the items themselves
  pub Adds-item : (xs : List X) (k : ℕ) (x : X) {before between after : Kept} → k < length xs → x ≡ get_or xs k x
      → AddsAny O P (take k xs) before between → Adds (O x) (P x) between after → AddsAny O P (take (k + 1) xs) before after
  Adds-item xs k x lt is ha hb =
      Adds-list (sym (take_more xs k x lt ∙ ap (λ y. take k xs ++ y ∷ []) (sym is))) (Adds-append (take k xs) (x ∷ []) ha (Adds-single x hb))

  -- of a list of the same items
  pub Adds-within : (xs ys : List X) {before after : Kept} → ((x : X) → IsIn x xs → IsIn x ys) → ((x : X) → IsIn x ys → IsIn x xs)
      → AddsAny O P xs before after → AddsAny O P ys before after
  Adds-within xs ys to back = Adds-same (λ f (x, at, o). (x, to x at, o)) (λ f (x, at, p). (x, to x at, p)) (λ f (x, at, p). (x, back x at, p))

  -- of a list of items, each seen as a part
  pub Adds-map : {Z : Type 0} (f : Z → X) (zs : List Z) {before after : Kept} → AddsAny (λ z. O (f z)) (λ z. P (f z)) zs before after → AddsAny O P (map f zs) before after
  Adds-map {Z} f zs =
      Adds-same (λ y (z, at, o). (f z, in_map f z zs at, o)) (λ y (z, at, p). (f z, in_map f z zs at, p))
      (λ y (x, at, p). let (z, in', is) = mapped f zs x at in (z, in', subst (λ x. P x y) is p))

  -- of a list of the same items, each seen as a part
  pub Adds-mapped : {Z : Type 0} (f : Z → X) (xs ys : List Z) {before after : Kept} → ((z : Z) → IsIn z xs → IsIn z ys) → ((z : Z) → IsIn z ys → IsIn z xs)
      → AddsAny O P (map f xs) before after → AddsAny O P (map f ys) before after
  Adds-mapped {Z} f xs ys to back =
      Adds-within (map f xs) (map f ys)
      (λ x at. let (z, in', is) = mapped f xs x at in subst (λ x. IsIn x (map f ys)) (sym is) (in_map f z ys (to z in')))
      (λ x at. let (z, in', is) = mapped f ys x at in subst (λ x. IsIn x (map f xs)) (sym is) (in_map f z xs (back z in')))

  -- of two lists, where what is passed over of the second is a fault of the first or passed over too
  pub Adds-after : (N : X → CheckFault → Type 0) (xs ys : List X) {before between after : Kept}
      → ((f : CheckFault) → AnyOf N ys f → AnyOf P xs f ⊎ AnyOf O ys f) → AddsAny O P xs before between → AddsAny N P ys between after → AddsAny O P (xs ++ ys) before after
  Adds-after N xs ys {before} over ha hb = record {
    added = ha.added ++ hb.added;
    sound = λ f at. elim (Contains-append_cases ha.added hb.added f at) [ inl i ↦ AnyOf-left P xs ys f (ha.sound f i) | inr i ↦ AnyOf-right P xs ys f (hb.sound f i) ];
    complete = λ f h. elim (AnyOf-cases P xs ys f h) [
      | inl p ↦ first f p
      | inr q ↦ elim (hb.complete f q) [
        | inl i ↦ inl (Contains-append_right ha.added hb.added f i)
        | inr n ↦ elim (over f n) [ inl p ↦ first f p | inr o ↦ inr (AnyOf-right O xs ys f o) ]
      ]
    ];
    none = λ e f h. elim (AnyOf-cases P xs ys f h) [ inl p ↦ ha.none (empty_left ha.added hb.added e) f p | inr q ↦ hb.none (empty_right ha.added hb.added e) f q ];
    is = hb.is ∙ ap (λ k. fold keep k hb.added) ha.is ∙ sym (fold-joined before ha.added hb.added);
  }
    where
      first : (f : CheckFault) → AnyOf P xs f → IsIn f (ha.added ++ hb.added) ⊎ AnyOf O (xs ++ ys) f
      first f p = elim (ha.complete f p) [ inl i ↦ inl (Contains-append_left ha.added hb.added f i) | inr o ↦ inr (AnyOf-left O xs ys f o) ]

  -- of an item and then of a list, of both
  pub Adds-cons : (x : X) (xs : List X) {before between after : Kept} → Adds (O x) (P x) before between → AddsAny O P xs between after → AddsAny O P (x ∷ xs) before after
  Adds-cons x xs ha hb = Adds-append (x ∷ []) xs (Adds-single x ha) hb

-- ## Faults at places

-- the fault at the one place that has the property
pub added_at : {O : CheckFault → Type 0} (kind : At → CheckFault) (text : Source) {P : ℕ → Type 0} {before after : Kept} (place : ℕ) (at : At) → P place
    → ((other : ℕ) → P other → other ≡ place) → at ≡ record { source = text; place = place } → after ≡ keep before (kind at) → Adds O (Faulted kind text P) before after
added_at kind text place at p one is after =
    Adds-one (kind at) (place, ap kind is, p)
    (λ g (other, e, q). e ∙ ap (λ n. kind (record { source = text; place = n })) (one other q) ∙ ap kind (sym is)) after

-- where no place has it, none is added
pub added_nowhere : {O : CheckFault → Type 0} (kind : At → CheckFault) (text : Source) {P : ℕ → Type 0} {before after : Kept} → ((place : ℕ) → P place → ⊥)
    → after ≡ before → Adds O (Faulted kind text P) before after
added_nowhere kind text never is = Adds-none (λ f (place, e, p). never place p) is

-- the one place that is found has it
pub found_once : {O : CheckFault → Type 0} (kind : At → CheckFault) (text : Source) {P : ℕ → Type 0} {found : Option ℕ} {before after : Kept} (place : ℕ) (at : At)
    → Finds P found → found ≡ Some place → ((a b : ℕ) → P a → P b → b ≡ a) → at ≡ record { source = text; place = place } → after ≡ keep before (kind at)
    → Adds O (Faulted kind text P) before after
found_once kind text {P} place at h is once at_is after =
    let p : P place = subst (λ o. IfSome o P) is h.sound in added_at kind text place at p (λ other q. once place other p q) at_is after

-- where none is found, none has it
pub found_none : {O : CheckFault → Type 0} (kind : At → CheckFault) (text : Source) {P : ℕ → Type 0} {found : Option ℕ} {before after : Kept}
    → Finds P found → found ≡ None → after ≡ before → Adds O (Faulted kind text P) before after
found_none kind text h is after = added_nowhere kind text (h.complete is) after

-- faults of the one property and then of another, of which all are looked for
pub Adds-both : {O P Q : CheckFault → Type 0} {before between after : Kept} → Adds (λ _. ⊥) P before between → Adds (λ _. ⊥) Q between after → Adds O (λ f. P f ⊎ Q f) before after
Adds-both ha hb = Adds-same (λ f h. elim h [ inl gone ↦ absurd gone | inr gone ↦ absurd gone ]) (λ f h. h) (λ f h. h) (Adds-either ha hb)

-- where all faults are looked for, none is passed over
pub Adds-every : {O P : CheckFault → Type 0} {before after : Kept} → Adds (λ _. ⊥) P before after → Adds O P before after
Adds-every = Adds-same (λ f gone. absurd gone) (λ f p. p) (λ f p. p)

-- faults of a stronger property first
pub Adds-with : {N O P Q : CheckFault → Type 0} {before between after : Kept} → ((f : CheckFault) → Q f → P f) → Adds N Q before between → Adds O P between after → Adds O P before after
Adds-with {before = before} to ha hb = record {
  added = ha.added ++ hb.added;
  sound = λ f at. elim (Contains-append_cases ha.added hb.added f at) [ inl i ↦ to f (ha.sound f i) | inr i ↦ hb.sound f i ];
  complete = λ f p. elim (hb.complete f p) [ inl i ↦ inl (Contains-append_right ha.added hb.added f i) | inr o ↦ inr o ];
  none = λ e. hb.none (empty_right ha.added hb.added e);
  is = hb.is ∙ ap (λ k. fold keep k hb.added) ha.is ∙ sym (fold-joined before ha.added hb.added);
}

-- what is kept of faults, where all are: these
pub kept_all : (gs fs : List CheckFault) → fold keep (record { keeps_all = true; faults = gs }) fs ≡ record { keeps_all = true; faults = gs ++ fs }
kept_all gs [] = ap (λ l. record { keeps_all = true; faults = l }) (sym (append-nil gs))
kept_all gs (f ∷ fs) = kept_all (gs ++ f ∷ []) fs ∙ ap (λ l. record { keeps_all = true; faults = l }) (append_assoc gs (f ∷ []) fs)

-- where the first is kept, it is one of them
pub first_among : (gs fs : List CheckFault) (f : CheckFault) → IsIn f (fold keep (record { keeps_all = false; faults = gs }) fs).faults → IsIn f gs ⊎ IsIn f fs
first_among gs [] f at = inl at
first_among gs (g ∷ fs) f at = elim (first_among (first_with gs g) fs f at) [
  | inl here ↦ by gs here
  | inr later ↦ inr (at_tail g f fs later)
]
  where
    one : IsIn f (g ∷ []) → IsIn f (g ∷ fs)
    one here = elim (in_cases g f [] here) [ inl e ↦ subst (λ x. IsIn x (g ∷ fs)) e (at_head g fs) | inr gone ↦ absurd (in_nothing f gone) ]

    pick : (b : Bool) (x : CheckFault) (xs : List CheckFault) → IsIn f (cond b (g ∷ []) (x ∷ xs)) → IsIn f (x ∷ xs) ⊎ IsIn f (g ∷ fs)
    pick true x xs here = inr (one here)
    pick false x xs here = inl here

    by : (gs : List CheckFault) → IsIn f (first_with gs g) → IsIn f gs ⊎ IsIn f (g ∷ fs)
    by [] here = inr (one here)
    by (x ∷ xs) here = pick (comes_before g x) x xs here

-- and where none is kept, there is none
pub first_none : (gs fs : List CheckFault) → (fold keep (record { keeps_all = false; faults = gs }) fs).faults ≡ [] → (gs ≡ []) × (fs ≡ [])
first_none gs [] e = (e, refl)
first_none gs (g ∷ fs) e = absurd (by gs (first_none (first_with gs g) fs e).0)
  where
    pick : (b : Bool) (x : CheckFault) (xs : List CheckFault) → cond b (g ∷ []) (x ∷ xs) ≡ [] → ⊥
    pick true x xs e = cc
    pick false x xs e = cc

    by : (gs : List CheckFault) → first_with gs g ≡ [] → ⊥
    by [] e = cc
    by (x ∷ xs) e = pick (comes_before g x) x xs e
