-- Lists of items that each give some, related one by one to another list.
use Rattle.std.proofs.Common.{◌≡◌, ◌∙◌, ℕ, ◌+◌, ◌<◌, Bool, true, false, List, [], ◌∷◌, ◌++◌, Option, ap, append-nil, get_or, length, subst, sym, take}
use Rattle.std.specs.Prelude.{if◌then◌else◌, option_map, slice_get}
use Rattle.std.specs.List.{AllZip, flat_map}
use Rattle.diagnostics.specs.declared.diagnostic.Diagnostic.{Diagnostic}
use Rattle.never_applied.specs.declared.answer.Unused.{Unused}
use Rattle.check_report.specs.ReachWarnings.{cause_place, is_cause, listed}
use Rattle.check_report.specs.Schemas.{IsSchemaAt}
use Rattle.check_report.specs.declared.causes.Schema.{Schema}
use Rattle.std.proofs.lemmas.Grind.{flat_map-append}
use Rattle.std.proofs.lemmas.List.{take_more}

-- what one more item gives
pub flat_step : {X Y Z : Type 0} (R : Y → Z → Type 0) (f : X → List Y) (xs : List X) (i : ℕ) (any : X) (zs : List Z) → i < length xs
    → AllZip R (flat_map f (take i xs) ++ f (get_or xs i any)) zs → AllZip R (flat_map f (take (i + 1) xs)) zs
flat_step R f xs i any zs less all =
    let x = get_or xs i any in
    let grown : flat_map f (take (i + 1) xs) ≡ flat_map f (take i xs) ++ f x =
    ap (flat_map f) (take_more xs i any less) ∙ flat_map-append f (take i xs) (x ∷ []) ∙ ap (λ l. flat_map f (take i xs) ++ l) (append-nil (f x)) in
    subst (λ ys. AllZip R ys zs) (sym grown) all

module _ (R : ℕ → Diagnostic → Type 0) (names before : List ℕ) (u : Unused) (ds : List Diagnostic) where
  -- a method or an action that follows from others gives nothing
  pub silent_cause : is_cause u.cause ≡ false → AllZip R before ds → AllZip R (before ++ cause_place names u) ds
  silent_cause none all =
      let nothing : cause_place names u ≡ [] = ap (λ b. if b then (listed (slice_get names u.place)) else []) none in
      subst (λ ys. AllZip R (before ++ ys) ds) (sym nothing) (subst (λ ys. AllZip R ys ds) (sym (append-nil before)) all)

  -- any other gives its place
  pub told_cause : (o : Option Schema) → IsSchemaAt names u.place o → is_cause u.cause ≡ true
      → AllZip R (before ++ listed (option_map (λ s. s.name.now.place) o)) ds → AllZip R (before ++ cause_place names u) ds
  told_cause o at is all =
      let place : listed (option_map (λ s. s.name.now.place) o) ≡ cause_place names u =
      ap listed at ∙ sym (ap (λ b. if b then (listed (slice_get names u.place)) else []) is) in
      subst (λ ys. AllZip R (before ++ ys) ds) place all
