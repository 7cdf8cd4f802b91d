-- The texts of variables in force.
use Rattle.std.proofs.Common.{◌≡◌, ℕ, ◌+◌, ◌++◌, Bool, true, false, not, zero, suc, List, [], ◌∷◌, map, Some, None, refl, sym, ap, ap₂, ◌∙◌, cond, nat_lt, take}
use Rattle.std.specs.List.{position, position_or_len}
use Rattle.std.proofs.lemmas.List.{map-append, length-map}
use Rattle.hddl_words.specs.declared.term.VariableGroup.{VariableGroup}
use Rattle.hddl_meaning.specs.Mentions.{Text, Typed, mentions_of, texts, typed_variables}
use Rattle.hddl_meaning.specs.Names.{is_same_text, number_in, number_or_zero}
use Rattle.hddl_meaning.specs.Building.{variables_of}
use Rattle.hddl_meaning.specs.Uses.{Variable, parameters_of, quantified_of}
use Rattle.hddl_scope.specs.Scopes.{has_text}
use Rattle.hddl_build.specs.Scopes.{texts_of}

-- a place in the mapped list is that in the list
position_or_len-map : {X Y : Type 0} (p : Y → Bool) (f : X → Y) (xs : List X) → position_or_len p (map f xs) ≡ position_or_len (λ x. p (f x)) xs
position_or_len-map p f [] = refl
position_or_len-map p f (x ∷ xs) = ap (λ n. cond (not (p (f x))) (1 + n) 0) (position_or_len-map p f xs)

-- the same where there may be no place
position-map : {X Y : Type 0} (p : Y → Bool) (f : X → Y) (xs : List X) → position p (map f xs) ≡ position (λ x. p (f x)) xs
position-map p f xs = ap₂ (λ k n. cond (nat_lt k n) (Some k) None) (position_or_len-map p f xs) (length-map xs f)

-- the texts of a typed list's variables are the list's, whether they are those of a `forall` or not
typed_texts : (quantified : Bool) (ts : List Typed) → texts_of (map (λ t. record { typed = t; is_quantified = quantified }) ts) ≡ texts (mentions_of ts)
typed_texts quantified [] = refl
typed_texts quantified (t ∷ ts) = ap (λ (l : List Text). t.mention.text ∷ l) (typed_texts quantified ts)

-- the texts of parameters in force are those of the typed list
pub parameter_texts : (groups : List VariableGroup) → texts_of (parameters_of groups) ≡ variables_of groups
parameter_texts groups = typed_texts false (typed_variables groups)

-- the texts of a `forall`'s variables in force are those of the typed list
pub quantified_texts : (groups : List VariableGroup) → texts_of (quantified_of groups) ≡ variables_of groups
quantified_texts groups = typed_texts true (typed_variables groups)

-- those of a `forall` come after those around
pub texts_around : (vs : List Variable) (groups : List VariableGroup) → texts_of (vs ++ quantified_of groups) ≡ texts_of vs ++ variables_of groups
texts_around vs groups = map-append (λ (v : Variable). v.typed.mention.text) vs (quantified_of groups) ∙ ap (λ (l : List Text). texts_of vs ++ l) (quantified_texts groups)

-- the texts of the first variables are the first texts
pub texts_taken : (n : ℕ) (vs : List Variable) → texts_of (take n vs) ≡ take n (texts_of vs)
texts_taken zero vs = refl
texts_taken (suc n) [] = refl
texts_taken (suc n) (v ∷ vs) = ap (λ (l : List Text). v.typed.mention.text ∷ l) (texts_taken n vs)

-- the number of a text is the position of the first variable that has it, or 0
pub text_number : (vs : List Variable) (text : Text) → number_or_zero (position (has_text text) vs) ≡ number_in (texts_of vs) text
text_number vs text = ap number_or_zero (sym (position-map (is_same_text text) (λ (v : Variable). v.typed.mention.text) vs))
