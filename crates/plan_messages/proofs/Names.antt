-- The texts that messages name.
use Rattle.std.proofs.Common.{◌≡◌, ◌∙◌, ℕ, ◌+◌, ◌<◌, List, [], ◌∷◌, ◌++◌, ap, append-nil, append_assoc, drop, get_or, length, refl, sym, take}
use Rattle.std.proofs.lemmas.Grind.{flat_map-append}
use Rattle.std.proofs.lemmas.List.{map-append, take_more}
use Rattle.diagnostics.specs.declared.diagnostic.Remark.{Remark}
use Rattle.diagnostics.specs.Offers.{named}
use Rattle.plan_messages.specs.Explanation.{named_in, texts_of}
use Rattle.plan_causes.specs.declared.literals.FalseLiteral.{FalseLiteral}

-- a remark more that names a literal more
pub others_step : (others : List FalseLiteral) (i : ℕ) (x : FalseLiteral) (before old new more : List Remark) (r : Remark) → i < length others → x ≡ get_or others i x
    → new ≡ old ++ r ∷ [] → old ≡ before ++ more → named_in more ≡ texts_of (take i others) → named r.message.items ≡ x.text.items ∷ []
    → (m : List Remark) × (new ≡ before ++ m) × (named_in m ≡ texts_of (take (i + 1) others))
others_step others i x before old new more r less is grown was names name =
    let front : take (i + 1) others ≡ take i others ++ x ∷ [] = take_more others i x less ∙ ap (λ y. take i others ++ y ∷ []) (sym is) in
    let last : named_in (r ∷ []) ≡ x.text.items ∷ [] = append-nil (named r.message.items) ∙ name in
    let whole : named_in (more ++ r ∷ []) ≡ texts_of (take (i + 1) others) =
    flat_map-append (λ (y : Remark). named y.message.items) more (r ∷ []) ∙ ap (λ l. l ++ named_in (r ∷ [])) names ∙ ap (λ l. texts_of (take i others) ++ l) last
    ∙ sym (ap texts_of front ∙ map-append (λ (y : FalseLiteral). y.text.items) (take i others) (x ∷ [])) in
    (more ++ r ∷ [], grown ∙ ap (λ l. l ++ r ∷ []) was ∙ append_assoc before more (r ∷ []), whole)

-- the first literal and the others
pub all_named : (ls : List FalseLiteral) → texts_of (take 1 ls) ++ texts_of (drop 1 ls) ≡ texts_of ls
all_named [] = refl
all_named (x ∷ ls) = refl
