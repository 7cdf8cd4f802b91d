-- Warnings of effects, effect by effect.
use Rattle.std.proofs.Common.{◌≡◌, ◌⊎◌, ℕ, ◌+◌, ◌<◌, Bool, true, false, not, List, [], ◌∷◌, ◌++◌, map, is_some, cond, inl, inr, refl, arith, sym, ap, ◌∙◌, subst, take, get_or, length}
use Rattle.hddl_words.specs.declared.condition.LiteralText.{LiteralText}
use Rattle.hddl_words.specs.declared.domain.ActionText.{ActionText}
use Rattle.hddl_meaning.specs.Mentions.{Text, IsIn}
use Rattle.hddl_meaning.proofs.Listed.{in_map}
use Rattle.hddl_scope.specs.Numbers.{Entries, number_at}
use Rattle.hddl_warnings.specs.Effects.{atom_text, effect_text}
use Rattle.hddl_warnings.specs.Known.{Knows}
use Rattle.hddl_warnings.specs.Tells.{Tells}
use Rattle.hddl_warnings.specs.Warnings.{IsOpposed, in_domain}
use Rattle.hddl_warnings.specs.declared.warning.WarningKind.TheVariants as kind
use Rattle.hddl_warnings.specs.declared.warning.Warning.{Warning}
use Rattle.hddl_warnings.proofs.Knowing.{is_known}
use Rattle.hddl_warnings.proofs.Members.{cut_longer, grown, mapped, nothing_cut, snoc_cases}
use Rattle.hddl_warnings.proofs.Telling.{AnyTold, Tells-as, Tells-nothing, Tells-then}

-- a warning of some action
abbrev pub AnyOpposed : List ActionText → Warning → Type 0
AnyOpposed = AnyTold (λ a. IsOpposed a.effect)

-- an effect as a text
abbrev pub key : LiteralText → Text
key l = effect_text l.is_positive l.atom

-- signs are told apart
signs : (a b : Bool) → ◌≡◌ {A = ℕ} (cond a 43 45) (cond b 43 45) → a ≡ b
signs true true e = refl
signs true false e = let apart : ◌≡◌ {A = ℕ} 43 45 = e in absurd (omega arith)
signs false true e = let apart : ◌≡◌ {A = ℕ} 45 43 = e in absurd (omega arith)
signs false false e = refl

-- lists that are the same begin and go on the same
same_cons : (a b : ℕ) (xs ys : List ℕ) → a ∷ xs ≡ b ∷ ys → (a ≡ b) × (xs ≡ ys)
same_cons a b xs ys e = (cc, cc)

-- no effects are opposed
pub Opposed-none : (old : List Warning) → Tells old old (IsOpposed [])
Opposed-none old = Tells-nothing old (IsOpposed []) (λ w (before, l, after, m, cut, at, sign, same, e). nothing_cut before l after cut)

module _ (front : List LiteralText) (l : LiteralText) (es : Entries) (k : Knows es (map key front)) (found : Bool)
    (is : found ≡ is_some (number_at es (effect_text (not l.is_positive) l.atom))) where
  -- the warning of the last effect
  abbrev pub Told : Warning → Type 0
  Told w = (found ≡ true) × (w ≡ in_domain kind.AddedAndDeleted l.atom.name.place)

  -- what is found is an effect of the other sign on the same atom
  opposed : found ≡ true → (m : LiteralText) × IsIn m front × (m.is_positive ≡ not l.is_positive) × (atom_text m.atom ≡ atom_text l.atom)
  opposed held =
      let (m, at, same) = mapped key front (effect_text (not l.is_positive) l.atom) (k.known (effect_text (not l.is_positive) l.atom) (sym is ∙ held)) in
      let parts = same_cons (cond m.is_positive 43 45) (cond (not l.is_positive) 43 45) (atom_text m.atom) (atom_text l.atom) same in
      (m, at, signs m.is_positive (not l.is_positive) parts.0, parts.1)

  -- an effect of the other sign on the same atom is found
  opposing : (m : LiteralText) → IsIn m front → m.is_positive ≡ not l.is_positive → atom_text m.atom ≡ atom_text l.atom → found ≡ true
  opposing m at sign same =
      is ∙ is_known es (map key front) (effect_text (not l.is_positive) l.atom) k
      (subst (λ t. IsIn t (map key front)) (λ i. cond (sign i) 43 45 ∷ same i) (in_map key m front at))

  -- with one effect more, the warnings are those before and that of the effect
  pub Opposed-more : (old mid new : List Warning) → Tells old mid (IsOpposed front) → Tells mid new Told → Tells old new (IsOpposed (front ++ l ∷ []))
  Opposed-more old mid new a b =
      Tells-as old new (λ w. IsOpposed front w ⊎ Told w) (IsOpposed (front ++ l ∷ []))
      (λ w h. elim h [
        | inl (before, m, after, n, cut, at, sign, same, e) ↦ (before, m, after ++ l ∷ [], n, cut_longer front l before m after cut, at, sign, same, e)
        | inr (held, e) ↦ let (m, at, sign, same) = opposed held in (front, l, [], m, refl, at, sign, same, e)
      ])
      (λ w (before, second, after, m, cut, at, sign, same, e). elim (snoc_cases front l before second after cut) [
        | inl (all, last) ↦
            inr (
              opposing m (subst (λ ms. IsIn m ms) all at) (sign ∙ ap (λ (x : LiteralText). not x.is_positive) last) (same ∙ ap (λ (x : LiteralText). atom_text x.atom) last),
              e ∙ ap (λ (x : LiteralText). in_domain kind.AddedAndDeleted x.atom.name.place) last,
            )
        | inr (rest, front_cut) ↦ inl (before, second, rest, m, front_cut, at, sign, same, e)
      ])
      (Tells-then old mid new (IsOpposed front) Told a b)

-- the step of a loop over effects
pub Opposed-next : (old mid new : List Warning) (xs : List LiteralText) (k : ℕ) (l : LiteralText) (es : Entries) (found : Bool) → k < length xs → l ≡ get_or xs k l
    → Knows es (map key (take k xs)) → found ≡ is_some (number_at es (effect_text (not l.is_positive) l.atom)) → Tells old mid (IsOpposed (take k xs))
    → Tells mid new (λ w. (found ≡ true) × (w ≡ in_domain kind.AddedAndDeleted l.atom.name.place)) → Tells old new (IsOpposed (take (k + 1) xs))
Opposed-next old mid new xs k l es found lt at knows is a b =
    subst (λ ys. Tells old new (IsOpposed ys)) (sym (grown xs k l lt at)) (Opposed-more (take k xs) l es knows found is old mid new a b)
