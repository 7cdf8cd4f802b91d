-- How findings are joined.
use Rattle.std.proofs.Common.{◌≡◌, ◌⊎◌, ℕ, ◌+◌, ◌<◌, ◌≤◌, List, [], ◌∷◌, ◌++◌, map, Option, Some, None, IfSome, refl, sym, ap, subst, ◌∙◌, inl, inr, take, get_or, length, arith, IsSome, is_some, true≢false, false}
use Rattle.std.specs.List.{flat_map}
use Rattle.std.proofs.lemmas.List.{take_more, take_all}
use Rattle.std.proofs.lemmas.List.Elements.{Contains-append_left, Contains-append_right, Contains-append_cases, Contains-push, Contains-push_cases}
use Rattle.hddl_meaning.specs.Mentions.{IsIn}
use Rattle.hddl_meaning.proofs.Listed.{at_head, at_tail, in_cases, in_nothing, in_map}
use Rattle.std.proofs.lemmas.Grind.{flat_map-append}
use Rattle.std.proofs.lemmas.List.{append-nil}
use Rattle.hddl_meaning.specs.declared.fault.Source.{Source}
use Rattle.hddl_meaning.specs.declared.fault.At.{At}
use Rattle.hddl_meaning.specs.declared.fault.CheckFault.{CheckFault}
use Rattle.hddl_scope.specs.Findings.{Finds, IsOneOf, AnyOf}
use Rattle.hddl_scope.specs.Findings.{Faulted}

-- what holds of a value is found by it
pub Finds-some : {X : Type 0} {P : X → Type 0} (x : X) → P x → Finds P (Some x)
Finds-some x h = record { sound = h; complete = λ e. cc }

-- what holds of no value is found by none
pub Finds-none : {X : Type 0} {P : X → Type 0} → ((x : X) → P x → ⊥) → Finds P None
Finds-none h = record { sound = tt; complete = λ _. h }

-- the same property under another name
pub Finds-same : {X : Type 0} {P Q : X → Type 0} {found : Option X} → ((x : X) → P x → Q x) → ((x : X) → Q x → P x) → Finds P found → Finds Q found
Finds-same {X} {P} {Q} {found} to back h = by found refl
  where
    by : (o : Option X) → found ≡ o → Finds Q found
    by None e = record { sound = subst (λ o. IfSome o Q) (sym e) tt; complete = λ e' x q. h.complete e' x (back x q) }
    by (Some x) e =
        let p : P x = subst (λ o. IfSome o P) e h.sound in
        record { sound = subst (λ o. IfSome o Q) (sym e) (to x p); complete = λ e' y q. h.complete e' y (back y q) }

-- one of two findings, each of which holds, holds
pub sound-one : {X : Type 0} (P : X → Type 0) {a b found : Option X} → IfSome a P → IfSome b P → IsOneOf a b found → IfSome found P
sound-one {X} P {a} {b} {found} ha hb one =
    elim one.one [ inl e ↦ subst (λ o. IfSome o P) (sym e) ha | inr e ↦ subst (λ o. IfSome o P) (sym e) hb ]

-- what follows of a value follows of one that may be there
pub IfSome-weaker : {X : Type 0} (P Q : X → Type 0) → ((x : X) → P x → Q x) → (o : Option X) → IfSome o P → IfSome o Q
IfSome-weaker P Q f None h = tt
IfSome-weaker P Q f (Some x) h = f x h

-- one of two findings finds either
pub Finds-either : {X : Type 0} {P Q : X → Type 0} {a b found : Option X} → Finds P a → Finds Q b → IsOneOf a b found → Finds (λ x. P x ⊎ Q x) found
Finds-either {X} {P} {Q} {a} {b} {found} ha hb one =
    let R : X → Type 0 = λ x. P x ⊎ Q x in
    record {
      sound = sound-one R (IfSome-weaker P R (λ x p. inl p) a ha.sound) (IfSome-weaker Q R (λ x q. inr q) b hb.sound) one;
      complete = λ e x h. elim h [ inl p ↦ ha.complete (one.none e).0 x p | inr q ↦ hb.complete (one.none e).1 x q ];
    }

-- what is in a mapped list
pub mapped : {Z X : Type 0} (f : Z → X) (zs : List Z) (x : X) → IsIn x (map f zs) → (z : Z) × IsIn z zs × (x ≡ f z)
mapped f [] x at = absurd (in_nothing x at)
mapped f (z ∷ zs) x at = elim (in_cases (f z) x (map f zs) at) [
  | inl is ↦ (z, at_head z zs, sym is)
  | inr later ↦ let (w, in', is) = mapped f zs x later in (w, at_tail z w zs in', is)
]

-- what is in the lists of a list's items
pub flat_mapped : {Z X : Type 0} (f : Z → List X) (zs : List Z) (x : X) → IsIn x (flat_map f zs) → (z : Z) × IsIn z zs × IsIn x (f z)
flat_mapped f [] x at = absurd (in_nothing x at)
flat_mapped f (z ∷ zs) x at = elim (Contains-append_cases (f z) (flat_map f zs) x at) [
  | inl here ↦ (z, at_head z zs, here)
  | inr later ↦ let (w, in', is) = flat_mapped f zs x later in (w, at_tail z w zs in', is)
]

module _ {X Y : Type 0} (P : X → Y → Type 0) where
  -- what holds of one of a list holds of one with more after it
  pub AnyOf-left : (xs ys : List X) (y : Y) → AnyOf P xs y → AnyOf P (xs ++ ys) y
  AnyOf-left xs ys y (x, at, h) = (x, Contains-append_left xs ys x at, h)

  -- what holds of one of a list holds of one with more before it
  pub AnyOf-right : (xs ys : List X) (y : Y) → AnyOf P ys y → AnyOf P (xs ++ ys) y
  AnyOf-right xs ys y (x, at, h) = (x, Contains-append_right xs ys x at, h)

  -- what holds of one of two joined lists holds of one of the first or of the second
  pub AnyOf-cases : (xs ys : List X) (y : Y) → AnyOf P (xs ++ ys) y → AnyOf P xs y ⊎ AnyOf P ys y
  AnyOf-cases xs ys y (x, at, h) = elim (Contains-append_cases xs ys x at) [ inl i ↦ inl (x, i, h) | inr i ↦ inr (x, i, h) ]

  -- findings in two lists
  pub Finds-append : (xs ys : List X) {a b found : Option Y} → Finds (AnyOf P xs) a → Finds (AnyOf P ys) b → IsOneOf a b found → Finds (AnyOf P (xs ++ ys)) found
  Finds-append xs ys ha hb one =
      Finds-same (λ y h. elim h [ inl p ↦ AnyOf-left xs ys y p | inr q ↦ AnyOf-right xs ys y q ]) (AnyOf-cases xs ys) (Finds-either ha hb one)

  -- in an empty list nothing is found
  pub Finds-nil : Finds (AnyOf P []) None
  Finds-nil = Finds-none (λ y h. let lt : h.1.0 < 0 = h.1.1 in omega (arith, lt))

  -- what is found of a value is found of the list of it alone
  pub Finds-single : (x : X) {found : Option Y} → Finds (P x) found → Finds (AnyOf P (x ∷ [])) found
  Finds-single x = Finds-same (λ y h. (x, Contains-push [] x, h)) (λ y (z, at, h). subst (λ z. P z y) (sym (single z at)) h)
    where
      single : (z : X) → IsIn z (x ∷ []) → x ≡ z
      single z at = elim (Contains-push_cases [] x z at) [ inl (k, lt, is) ↦ absurd (let gone : k < 0 = lt in omega (arith, gone)) | inr e ↦ e ]

  -- what is found in a list is found in an equal one
  pub Finds-list : {xs ys : List X} {found : Option Y} → xs ≡ ys → Finds (AnyOf P xs) found → Finds (AnyOf P ys) found
  Finds-list {found = found} e = subst (λ l. Finds (AnyOf P l) found) e

  -- the step of a loop over a list, of which each item brings parts
  pub Finds-more : {Z : Type 0} (parts : Z → List X) (zs : List Z) (k : ℕ) (d : Z) {a b found : Option Y} → k < length zs
      → Finds (AnyOf P (flat_map parts (take k zs))) a → Finds (AnyOf P (parts (get_or zs k d))) b → IsOneOf a b found
      → Finds (AnyOf P (flat_map parts (take (k + 1) zs))) found
  Finds-more parts zs k d lt ha hb one =
      Finds-list
      (ap (λ l. flat_map parts (take k zs) ++ l) (sym (append-nil (parts (get_or zs k d)))) ∙ sym (flat_map-append parts (take k zs) (get_or zs k d ∷ []))
      ∙ ap (flat_map parts) (sym (take_more zs k d lt)))
      (Finds-append (flat_map parts (take k zs)) (parts (get_or zs k d)) ha hb one)

  -- what is found of the parts up to a value, or of the value's, is found one value further
  pub Finds-next : {Z : Type 0} (parts : Z → List X) (zs : List Z) (k : ℕ) (z : Z) {a b found : Option Y} → k < length zs → z ≡ get_or zs k z
      → Finds (AnyOf P (flat_map parts (take k zs))) a → Finds (AnyOf P (parts z)) b → IsOneOf a b found
      → Finds (AnyOf P (flat_map parts (take (k + 1) zs))) found
  Finds-next parts zs k z lt is ha hb one = Finds-more parts zs k z lt ha (Finds-list (ap parts is) hb) one

  -- what is found up to the end is found of the whole list
  pub Finds-end : {Z : Type 0} (parts : Z → List X) (zs : List Z) (k : ℕ) {found : Option Y} → length zs ≤ k
      → Finds (AnyOf P (flat_map parts (take k zs))) found → Finds (AnyOf P (flat_map parts zs)) found
  Finds-end parts zs k le h = Finds-list (ap (flat_map parts) (take_all k zs le)) h

  -- in a list of the same items
  pub Finds-within : (xs ys : List X) {found : Option Y} → ((x : X) → IsIn x xs → IsIn x ys) → ((x : X) → IsIn x ys → IsIn x xs)
      → Finds (AnyOf P xs) found → Finds (AnyOf P ys) found
  Finds-within xs ys to back = Finds-same (λ y (x, at, h). (x, to x at, h)) (λ y (x, at, h). (x, back x at, h))

  -- in a list of items, each seen as a part
  pub Finds-map : {Z : Type 0} (f : Z → X) (zs : List Z) {found : Option Y} → Finds (AnyOf (λ z. P (f z)) zs) found → Finds (AnyOf P (map f zs)) found
  Finds-map {Z} f zs =
      Finds-same (λ y (z, at, h). (f z, in_map f z zs at, h))
      (λ y (x, at, h). let (z, in', is) = mapped f zs x at in (z, in', subst (λ x. P x y) is h))

  -- what is found in a mapped list is found in that of a list with the same values
  pub Finds-mapped : {Z : Type 0} (f : Z → X) (xs ys : List Z) {found : Option Y} → ((z : Z) → IsIn z xs → IsIn z ys) → ((z : Z) → IsIn z ys → IsIn z xs)
      → Finds (AnyOf P (map f xs)) found → Finds (AnyOf P (map f ys)) found
  Finds-mapped {Z} f xs ys to back =
      Finds-within (map f xs) (map f ys)
      (λ x at. let (z, in', is) = mapped f xs x at in subst (λ x. IsIn x (map f ys)) (sym is) (in_map f z ys (to z in')))
      (λ x at. let (z, in', is) = mapped f ys x at in subst (λ x. IsIn x (map f xs)) (sym is) (in_map f z xs (back z in')))

  -- what is found of a value or of a list is found of the list with the value in front
  pub Finds-cons : (x : X) (xs : List X) {a b found : Option Y} → Finds (P x) a → Finds (AnyOf P xs) b → IsOneOf a b found → Finds (AnyOf P (x ∷ xs)) found
  Finds-cons x xs ha hb one = Finds-append (x ∷ []) xs (Finds-single x ha) hb one

  -- a finding in a part of the list is enough
  pub Finds-enough : (xs ys : List X) {found : Option Y} → ((x : X) → IsIn x xs → IsIn x ys) → IsSome found → Finds (AnyOf P xs) found → Finds (AnyOf P ys) found
  Finds-enough xs ys {found} to some h = record {
    sound = IfSome-weaker (AnyOf P xs) (AnyOf P ys) (λ y (x, at, p). (x, to x at, p)) found h.sound;
    complete = λ none. absurd (true≢false (sym some ∙ ap is_some none));
  }

-- a finding of a place as one of a fault there
pub found_at : (kind : At → CheckFault) (text : Source) {P : ℕ → Type 0} {place : ℕ} (at : At) → Finds P (Some place) → at ≡ record { source = text; place = place }
    → Finds (Faulted kind text P) (Some (kind at))
found_at kind text {P} {place} at h is = Finds-some {P = Faulted kind text P} (kind at) (place, ap kind is, h.sound)

-- where no place is found, no fault is
pub none_at : (kind : At → CheckFault) (text : Source) {P : ℕ → Type 0} → Finds P None → Finds (Faulted kind text P) None
none_at kind text {P} h = Finds-none {P = Faulted kind text P} (λ f (place, is, p). h.complete refl place p)

-- nothing was found before
pub none_from : {X : Type 0} (found : Option X) → is_some found ≡ false → found ≡ None
none_from None e = refl
none_from (Some x) e = cc

-- where the first finds nothing, the second's finding is one of the two
pub after_none : {X : Type 0} (a b : Option X) → a ≡ None → IsOneOf a b b
after_none a b e = record { one = inr refl; none = λ none. (e, none) }

-- something was found in the second
pub some_of : {X : Type 0} (a b found : Option X) → IsSome b → IsOneOf a b found → IsSome found
some_of {X} a b found some one = by found refl
  where
    by : (o : Option X) → found ≡ o → IsSome o
    by None e = absurd (true≢false (sym some ∙ ap is_some (one.none e).1))
    by (Some x) e = refl

-- where the first finds something, one of the two is something
pub some_of_first : {X : Type 0} (a b found : Option X) → IsSome a → IsOneOf a b found → IsSome found
some_of_first {X} a b found some one = by found refl
  where
    by : (o : Option X) → found ≡ o → IsSome o
    by None e = absurd (true≢false (sym some ∙ ap is_some (one.none e).0))
    by (Some x) e = refl

-- what is found of one item is found among all
pub some_among : {X Y : Type 0} (P : X → Y → Type 0) (x : X) (xs : List X) {a found : Option Y} → IsIn x xs → IsSome a → Finds (P x) a → Finds (AnyOf P xs) found → IsSome found
some_among {X} {Y} P x xs {a} {found} at some one h = by a refl found refl
  where
    by : (o : Option Y) → a ≡ o → (f : Option Y) → found ≡ f → IsSome f
    by None e f is = absurd (true≢false (sym some ∙ ap is_some e))
    by (Some y) e None is = absurd (h.complete is y (x, at, subst (λ o. IfSome o (P x)) e one.sound))
    by (Some y) e (Some z) is = refl
