-- Warnings of objects, name by name.
use Rattle.std.proofs.Common.{◌≡◌, ◌⊎◌, ℕ, ◌+◌, ◌<◌, Bool, true, List, [], ◌∷◌, ◌++◌, is_some, inl, inr, refl, sym, ap, ◌∙◌, subst, take, get_or, length, append_assoc}
use Rattle.hddl_meaning.specs.Mentions.{Mention, Text, IsIn, texts}
use Rattle.hddl_meaning.specs.declared.fault.Source.{Source}
use Rattle.hddl_scope.specs.Numbers.{Entries, number_at}
use Rattle.hddl_warnings.specs.Known.{Knows, Learns}
use Rattle.hddl_warnings.specs.Tells.{Tells}
use Rattle.hddl_warnings.specs.Warnings.{IsAgain}
use Rattle.hddl_warnings.specs.declared.warning.WarningKind.TheVariants as kind
use Rattle.hddl_warnings.specs.declared.warning.Warning.{Warning}
use Rattle.hddl_warnings.proofs.Knowing.{Knows-more, is_known}
use Rattle.hddl_warnings.proofs.Members.{cut_longer, grown, map_grown, nothing_cut, snoc_cases}
use Rattle.hddl_warnings.proofs.Telling.{Tells-as, Tells-nothing, Tells-then}

-- a warning at a place of a text
abbrev pub again_at : Source → ℕ → Warning
again_at source place = record { kind = kind.DeclaredAgain; at = record { source = source; place = place } }

-- a warning of a name that is known, or stands before it in the list
abbrev pub ToldAgain : Source → List Text → List Mention → Warning → Type 0
ToldAgain source known declared w = (m : Mention) × IsAgain known declared m × (w ≡ again_at source m.place)

-- of no names none stands before
pub Again-none : (source : Source) (known : List Text) (old : List Warning) → Tells old old (ToldAgain source known [])
Again-none source known old = Tells-nothing old (ToldAgain source known []) (λ w (m, again, e). nothing_cut again.0 m again.1 again.2)

-- the names that are known with one more
pub Knows-again : (es new : Entries) (known : List Text) (xs : List Mention) (k : ℕ) (m : Mention) → k < length xs → m ≡ get_or xs k m
    → Knows es (known ++ texts (take k xs)) → Learns es new m.text → Knows new (known ++ texts (take (k + 1) xs))
Knows-again es new known xs k m lt is h l =
    subst (λ ts. Knows new ts) (append_assoc known (texts (take k xs)) (m.text ∷ []) ∙ ap (λ ts. known ++ ts) (sym (map_grown (λ (x : Mention). x.text) xs k m lt is)))
    (Knows-more es new (known ++ texts (take k xs)) m.text h l)

module _ (source : Source) (known : List Text) (front : List Mention) (m : Mention) (es : Entries) (k : Knows es (known ++ texts front)) (found : Bool)
    (is : found ≡ is_some (number_at es m.text)) where
  -- the warning of the last name
  abbrev pub Told : Warning → Type 0
  Told w = (found ≡ true) × (w ≡ again_at source m.place)

  -- with one name more, the warnings are those before and that of the name
  pub Again-more : (old mid new : List Warning) → Tells old mid (ToldAgain source known front) → Tells mid new Told
      → Tells old new (ToldAgain source known (front ++ m ∷ []))
  Again-more old mid new a b =
      Tells-as old new (λ w. ToldAgain source known front w ⊎ Told w) (ToldAgain source known (front ++ m ∷ []))
      (λ w h. elim h [
        | inl told ↦ let (n, again, e) = told in (n, (again.0, again.1 ++ m ∷ [], cut_longer front m again.0 n again.1 again.2, again.3), e)
        | inr (held, e) ↦ (m, (front, [], refl, k.known m.text (sym is ∙ held)), e)
      ])
      (λ w (n, again, e). elim (snoc_cases front m again.0 n again.1 again.2) [
        | inl (all, last) ↦
            inr (
              is
                  ∙ is_known es (known ++ texts front) m.text k
                  (subst (λ (x : Mention). IsIn x.text (known ++ texts front)) last (subst (λ ms. IsIn n.text (known ++ texts ms)) all again.3)),
              e ∙ ap (λ (x : Mention). again_at source x.place) last,
            )
        | inr (rest, front_cut) ↦ inl (n, (again.0, rest, front_cut, again.3), e)
      ])
      (Tells-then old mid new (ToldAgain source known front) Told a b)

-- the step of a loop over names
pub Again-next : (source : Source) (known : List Text) (old mid new : List Warning) (xs : List Mention) (k : ℕ) (m : Mention) (es : Entries) (found : Bool)
    → k < length xs → m ≡ get_or xs k m → Knows es (known ++ texts (take k xs)) → found ≡ is_some (number_at es m.text)
    → Tells old mid (ToldAgain source known (take k xs)) → Tells mid new (λ w. (found ≡ true) × (w ≡ again_at source m.place))
    → Tells old new (ToldAgain source known (take (k + 1) xs))
Again-next source known old mid new xs k m es found lt at knows is a b =
    subst (λ ys. Tells old new (ToldAgain source known ys)) (sym (grown xs k m lt at)) (Again-more source known (take k xs) m es knows found is old mid new a b)
