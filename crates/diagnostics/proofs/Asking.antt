-- What messages offer, by what they begin with.
use Rattle.std.proofs.Common.{◌≡◌, ℕ, List, [], ◌∷◌, ◌++◌, Bool, true, false, Some, ap, ◌∙◌, append-nil, if◌then◌else◌, option_map, unwrap_or}
use Rattle.std.specs.Borrow.{Bor}
use Rattle.std.proofs.lemmas.Grind.{flat_map-append}
use Rattle.diagnostics.specs.declared.diagnostic.Part.{Part}
use Rattle.diagnostics.specs.declared.diagnostic.Part.TheVariants.{Words, Number}
use Rattle.diagnostics.specs.declared.diagnostic.Part.TheVariants as part
use Rattle.diagnostics.specs.Offers.{begins_question, is_question, name_in, named, offered_by, opening}

-- one part more stands at the end
pub opening_more : (parts : List Part) (x : Part) (words : List ℕ) → opening parts ≡ Some words → opening (parts ++ x ∷ []) ≡ Some words
opening_more [] x words is = absurd cc
opening_more (Words bytes ∷ parts) x words is = is
opening_more (part.Name bytes ∷ parts) x words is = absurd cc
opening_more (Number n ∷ parts) x words is = absurd cc

module _ (parts : List Part) (words : List ℕ) where
  -- a question offers the names in it
  pub asked : opening parts ≡ Some words → begins_question words ≡ true → offered_by parts ≡ named parts
  asked is begins =
      let e : is_question parts ≡ true = ap (λ o. unwrap_or (option_map begins_question o) false) is ∙ begins in
      ap (λ (b : Bool). if b then named parts else []) e

  -- what begins otherwise offers nothing
  pub unasked : opening parts ≡ Some words → begins_question words ≡ false → offered_by parts ≡ []
  unasked is begins =
      let e : is_question parts ≡ false = ap (λ o. unwrap_or (option_map begins_question o) false) is ∙ begins in
      ap (λ (b : Bool). if b then named parts else []) e

module _ (begun final : List Part) (first : Bor (List ℕ)) where
  -- a list that begins otherwise offers nothing
  pub list_of : begun ≡ Words first ∷ [] → begins_question first.now ≡ false → ((words : List ℕ) → opening begun ≡ Some words → opening final ≡ Some words) → offered_by final ≡ []
  list_of is begins same = unasked final first.now (same first.now (ap opening is)) begins

  -- a question with names, and what ends it
  pub question_of : (mid : List Part) (last : Bor (List ℕ)) (names : List (List ℕ)) → begun ≡ Words first ∷ [] → begins_question first.now ≡ true
      → ((words : List ℕ) → opening begun ≡ Some words → opening mid ≡ Some words) → named mid ≡ named begun ++ names → final ≡ mid ++ Words last ∷ [] → offered_by final ≡ names
  question_of mid last names is begins same has end =
      asked final first.now (ap opening end ∙ opening_more mid (Words last) first.now (same first.now (ap opening is))) begins
      ∙ ap named end ∙ flat_map-append name_in mid (Words last ∷ []) ∙ append-nil (named mid) ∙ has ∙ ap (λ (l : List Part). named l ++ names) is
