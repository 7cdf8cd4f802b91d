-- Words, typed lists, terms, atoms and equalities: each reader agrees with its phrase.
use Rattle.std.proofs.Common.{◌≡◌, ℕ, suc, ◌<◌, ◌≤◌, Bool, true, false, List, [], ◌∷◌, ◌++◌, length, ap, arith, length-append}
use Rattle.std.specs.Str.{str_eq_ignore_ascii_case}
use Rattle.hddl_words.specs.declared.class.Class.TheVariants as class
use Rattle.hddl_words.specs.Words.{Word}
use Rattle.hddl_words.specs.Reading.{Reader, read}
use Rattle.hddl_words.specs.Phrase.{Phrase, Gives, Next, Named}
use Rattle.hddl_words.proofs.Agree.{Agrees, StepAgrees, ItemAgrees, agrees_gives, reads, gives, nothing, agrees_seq, agrees_map, step_holds}
use Rattle.hddl_words.proofs.AgreeMore.{agrees_at, agrees_word, agrees_items, agrees_list, agrees_opened, agrees_closed, agrees_named}
use Rattle.hddl_words.specs.Names.{name_of, Name, Variable}
use Rattle.hddl_words.specs.declared.term.NameGroup.{NameGroup}
use Rattle.hddl_words.specs.declared.term.VariableGroup.{VariableGroup}
use Rattle.hddl_text.specs.declared.parts.NameParts.{NameParts}
use Rattle.hddl_text.specs.declared.parts.VariableParts.{VariableParts}
use Rattle.hddl_text.specs.Drafts.{no_name_parts, no_variable_parts}
use Rattle.hddl_text.specs.Grammar.{Opening, Closing, Empty, AnyName, IsSpelled, Spelled, IsLess, IsEqual, IsNamesType, IsNameItem, IsNames, IsVariablesType, IsVariableItem, IsVariables, IsParameters, IsTerm, IsAtomRest, IsAtom, IsEqualityRest, IsLiteral, IsEquality}
use Rattle.hddl_text.specs.Readers.{opening, closing, empty, any_name, spelled, spelled_word, less, less_sign, equal, equal_sign, type_named, type_name, names_type, name_item, names, variables_type, variable_item, variables, parameters, term_item, next_term, atom_rest, atom, equality_rest, negated_literal, literal, negated_equality, equality}

-- the level after the closing bracket of the one that is open
abbrev pub out : ℕ → ℕ
out k = k

-- what was read is no longer than the words
pub agrees_shorter : {A : Type 0} {N : ℕ} {into to : ℕ → ℕ} {R : Phrase A} {p : Reader A} → Agrees N into to R p → (ws rest : List Word) (a : A) → length ws < N → p ws ≡ read a rest → length rest ≤ length ws
agrees_shorter g ws rest a short e =
    let f = g.goes ws rest a short e in
    let whole : length ws ≡ length (f.front ++ rest) = ap length f.whole in
    omega (arith, length-append f.front rest, whole)

module _ (N : ℕ) where
  -- ---- single words

  -- the reader of an opening bracket agrees with its rule, one level deeper after it
  pub opening_agrees : (level : ℕ → ℕ) → Agrees N level (λ k. suc (level k)) Opening opening
  unfolding opening
  opening_agrees level = agrees_word (agrees_opened (agrees_gives N (λ k. suc (level k)) tt))

  -- the reader of a closing bracket agrees with its rule, one level less deep after it
  pub closing_agrees : (level : ℕ → ℕ) → Agrees N (λ k. suc (level k)) level Closing closing
  unfolding closing
  closing_agrees level = agrees_word (agrees_closed N level tt)

  -- the reader of `()` agrees with its rule
  pub empty_agrees : Agrees N suc suc Empty empty
  unfolding empty
  empty_agrees = agrees_seq (λ k. omega arith) (opening_agrees suc) (λ _. closing_agrees suc)

  -- the reader of a name agrees with its rule
  pub any_name_agrees : (level : ℕ → ℕ) → Agrees N level level AnyName any_name
  unfolding any_name
  any_name_agrees level = agrees_word (agrees_named (λ w. agrees_gives N level (name_of w)))

  -- taking a name that is spelled so agrees with its rule
  spelled_item_agrees : (level : ℕ → ℕ) (text : List ℕ) → ItemAgrees N level level (IsSpelled text) (spelled text)
  spelled_item_agrees level text class.Name w = step_holds (str_eq_ignore_ascii_case w.text text) (gives N _ level tt)
  spelled_item_agrees level text _ w = nothing N _ _ level false

  -- the reader of a name that is spelled so agrees with its rule
  pub spelled_agrees : (level : ℕ → ℕ) (text : List ℕ) → Agrees N level level (Spelled text) (spelled_word text)
  unfolding spelled_word
  spelled_agrees level text = agrees_word (spelled_item_agrees level text)

  -- taking `<` agrees with its rule
  less_item_agrees : ItemAgrees N suc suc IsLess less
  less_item_agrees class.Less w = gives N suc suc tt
  less_item_agrees _ w = nothing N _ _ suc false

  -- the reader of `<` agrees with its rule
  pub less_agrees : Agrees N suc suc (Next IsLess) less_sign
  unfolding less_sign
  less_agrees = agrees_word less_item_agrees

  -- taking `=` agrees with its rule
  equal_item_agrees : (level : ℕ → ℕ) → ItemAgrees N level level IsEqual equal
  equal_item_agrees level class.Equal w = gives N level level tt
  equal_item_agrees level class.Forall w = nothing N _ _ level true
  equal_item_agrees level class.Reserved w = nothing N _ _ level true
  equal_item_agrees level _ w = nothing N _ _ level false

  -- the reader of `=` agrees with its rule
  pub equal_agrees : (level : ℕ → ℕ) → Agrees N level level (Next IsEqual) equal_sign
  unfolding equal_sign
  equal_agrees level = agrees_word (equal_item_agrees level)

  -- ---- typed lists

  -- taking the name of a type agrees with its rule
  type_named_agrees : ItemAgrees N suc suc (Named (λ w. Gives (name_of w))) type_named
  type_named_agrees class.Name w = gives N suc suc _
  type_named_agrees class.Open w = nothing N _ _ suc true
  type_named_agrees class.Forall w = nothing N _ _ suc true
  type_named_agrees class.Reserved w = nothing N _ _ suc true
  type_named_agrees c w = nothing N _ _ suc false

  -- the reader of a type's name agrees with its rule
  type_name_agrees : Agrees N suc suc AnyName type_name
  unfolding type_name
  type_name_agrees = agrees_word type_named_agrees

  -- the reader of the type after names agrees with its rule
  names_type_agrees : (groups : List NameGroup) (ns : List Name) → StepAgrees N suc suc suc (IsNamesType groups ns) (names_type groups ns)
  names_type_agrees groups [] = nothing N suc suc suc false
  names_type_agrees groups (n ∷ ns) = reads (λ k h. h) (agrees_map _ type_name_agrees)

  -- the reader of one word of a list of names agrees with its rule
  pub name_item_agrees : (are_types : Bool) (d : NameParts) → ItemAgrees N suc suc (IsNameItem d) (name_item are_types d)
  name_item_agrees are_types d class.Name w = gives N suc suc _
  name_item_agrees are_types d class.Minus w = names_type_agrees d.groups d.names
  name_item_agrees are_types d class.Open w = nothing N _ _ suc are_types
  name_item_agrees are_types d class.Forall w = nothing N _ _ suc true
  name_item_agrees are_types d class.Reserved w = nothing N _ _ suc true
  name_item_agrees are_types d c w = nothing N _ _ suc false

  -- the reader of a typed list of names agrees with its rule
  pub names_agree : (are_types : Bool) → Agrees N suc out IsNames (names are_types)
  unfolding names
  names_agree are_types = agrees_map _ (agrees_items (name_item_agrees are_types) no_name_parts)

  -- the reader of the type after variables agrees with its rule
  variables_type_agrees : (groups : List VariableGroup) (vs : List Variable) → StepAgrees N suc suc suc (IsVariablesType groups vs) (variables_type groups vs)
  variables_type_agrees groups [] = nothing N suc suc suc false
  variables_type_agrees groups (v ∷ vs) = reads (λ k h. h) (agrees_map _ type_name_agrees)

  -- the reader of one word of a list of variables agrees with its rule
  pub variable_item_agrees : (d : VariableParts) → ItemAgrees N suc suc (IsVariableItem d) (variable_item d)
  variable_item_agrees d class.Variable w = gives N suc suc _
  variable_item_agrees d class.Minus w = variables_type_agrees d.groups d.variables
  variable_item_agrees d c w = nothing N _ _ suc false

  -- the reader of a typed list of variables agrees with its rule
  pub variables_agree : Agrees N suc out IsVariables variables
  unfolding variables
  variables_agree = agrees_map _ (agrees_items variable_item_agrees no_variable_parts)

  -- the reader of parameters agrees with its rule
  pub parameters_agree : Agrees N suc suc IsParameters parameters
  unfolding parameters
  parameters_agree = agrees_seq (λ k. omega arith) (opening_agrees suc) (λ _. agrees_at suc variables_agree)

  -- ---- terms, atoms, equalities

  -- taking a term agrees with its rule
  pub term_agrees : ItemAgrees N suc suc IsTerm term_item
  term_agrees class.Variable w = gives N suc suc _
  term_agrees class.Name w = gives N suc suc _
  term_agrees class.Open w = nothing N _ _ suc true
  term_agrees class.Forall w = nothing N _ _ suc true
  term_agrees class.Reserved w = nothing N _ _ suc true
  term_agrees c w = nothing N _ _ suc false

  -- the reader of a term agrees with its rule
  next_term_agrees : Agrees N suc suc (Next IsTerm) next_term
  unfolding next_term
  next_term_agrees = agrees_word term_agrees

  -- the reader of an atom after its name agrees with its rule
  pub atom_rest_agrees : (name : Name) → Agrees N suc out (IsAtomRest name) (atom_rest name)
  unfolding atom_rest
  atom_rest_agrees name = agrees_map _ (agrees_list term_agrees)

  -- the reader of an atom agrees with its rule
  pub atom_agrees : Agrees N suc suc IsAtom atom
  unfolding atom
  atom_agrees = agrees_seq (λ k. omega arith) (opening_agrees suc) (λ _. agrees_seq (λ k. omega arith) (any_name_agrees (λ k. suc (suc k))) (λ name. agrees_at suc (atom_rest_agrees name)))

  -- the reader of the sides of an equality agrees with its rule
  pub equality_rest_agrees : (is_positive : Bool) → Agrees N suc out (IsEqualityRest is_positive) (equality_rest is_positive)
  unfolding equality_rest
  equality_rest_agrees is_positive =
      agrees_seq (λ k. omega arith) next_term_agrees (λ left. agrees_seq (λ k. omega arith) next_term_agrees (λ right. agrees_map (λ _. record { is_positive = is_positive; left = left; right = right }) (closing_agrees out)))

  -- the reader of a literal agrees with its rule
  pub literal_agrees : ItemAgrees N suc out IsLiteral literal
  unfolding negated_literal
  literal_agrees class.Name w = reads (λ k h. h) (agrees_map _ (atom_rest_agrees (name_of w)))
  literal_agrees class.Not w = reads (λ k h. h) (agrees_seq (λ k. omega arith) atom_agrees (λ a. agrees_map (λ _. record { is_positive = false; atom = a }) (closing_agrees out)))
  literal_agrees class.Forall w = nothing N _ _ out true
  literal_agrees class.Reserved w = nothing N _ _ out true
  literal_agrees c w = nothing N _ _ out false

  -- the reader of an equality agrees with its rule
  pub equality_agrees : ItemAgrees N suc out IsEquality equality
  unfolding negated_equality
  equality_agrees class.Equal w = reads (λ k h. h) (equality_rest_agrees true)
  equality_agrees class.Not w =
      reads (λ k h. h) (agrees_seq (λ k. omega arith) (opening_agrees suc) (λ _. agrees_seq (λ k. omega arith) (equal_agrees (λ k. suc (suc k)))
      (λ _. agrees_seq (λ k. omega arith) (agrees_at suc (equality_rest_agrees false)) (λ e. agrees_map (λ _. e) (closing_agrees out)))))
  equality_agrees class.Forall w = nothing N _ _ out true
  equality_agrees class.Reserved w = nothing N _ _ out true
  equality_agrees c w = nothing N _ _ out false
