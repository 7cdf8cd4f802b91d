-- What the examples come to.
use Rattle.std.proofs.Common.{◌≡◌, ℕ, true, false, map, replicate, Some, List, [], ◌∷◌, ◌++◌, codes, inl, inr, refl, sym, ap, ◌∙◌, subst, arith}
use Rattle.hddl_words.specs.declared.term.Term.TheVariants as term
use Rattle.hddl_words.specs.declared.term.AtomText.{AtomText}
use Rattle.hddl_words.specs.declared.term.VariableGroup.{VariableGroup}
use Rattle.hddl_words.specs.declared.condition.Condition.{Condition, roll-Condition}
use Rattle.hddl_words.specs.declared.condition.Condition.TheOpen.{Condition-F}
use Rattle.hddl_words.specs.declared.condition.Condition.TheFolds.{fold-roll-Condition}
use Rattle.htn_model.specs.Schema as model
use Rattle.std.specs.List.{list_any}
use Rattle.std.proofs.lemmas.Bool.{both_ways}
use Rattle.htn_order.specs.Closure as closure
use Rattle.hddl_meaning.specs.Mentions.{IsIn, Mention, Text, Typed, mention_of, variable_mention}
use Rattle.hddl_meaning.specs.Names.{is_same_text, object}
use Rattle.hddl_meaning.specs.Types.{Direct, HasType, IsBelow, Leads, Through, parent_pairs, text_or_object}
use Rattle.hddl_meaning.specs.Uses.{domain_schemas, Use, Variable, atoms_in, atoms_step, schema_of_action}
use Rattle.hddl_meaning.specs.Items.{HasDeclaredTypes, IsDeclaredType, signature}
use Rattle.hddl_meaning.specs.Building.{Vocabulary, formula_step, vocabulary_of}
use Rattle.hddl_meaning.specs.Examples.{FaultsHavePlaces, TreesHaveMeanings, action, at_terms, atom, called, empty_problem, no_argument, no_box, no_predicate, no_subtask, no_type, two_ways, typed_as, untyped, variable}
use Rattle.hddl_meaning.proofs.Listed.{at_head, found, in_cases, in_flat_map, in_left, in_map, in_nothing, texts_decide}

-- the atom of a precondition that has one
one_atom : (a : AtomText) (variables : List Variable) → atoms_in variables (atom a ∷ []) ≡ record { variables = variables; atom = a } ∷ []
one_atom a variables =
    ap (λ f. f variables ++ []) (fold-roll-Condition (List Variable → List Use) atoms_step (Condition-F.Literal (record { is_positive = true; atom = a })))

-- an atom where no variable is in force
abbrev use_of : AtomText → Use
use_of a = record { variables = []; atom = a }

-- is among the atoms of a domain with one action, which has it alone
only_atom : (name : ℕ) (a : AtomText) → IsIn (use_of a) (schema_of_action (action (called name (codes "a")) [] (atom a ∷ []))).atoms
only_atom name a =
    in_left (use_of a) (atoms_in [] (atom a ∷ [])) [] (subst (IsIn (use_of a)) (sym (one_atom a [])) (at_head (use_of a) []))

-- a text that no search finds isn't among the others
pub absent : (t : Text) (ts : List Text) → list_any (is_same_text t) ts ≡ false → IsIn t ts → ⊥
absent t ts h k = both_ways _ h (found t ts k)

-- texts that the test tells apart differ
pub differ : (t u : Text) → is_same_text t u ≡ false → t ≡ u → ⊥
differ t u h e = both_ways _ h ((texts_decide t u).1 e)

-- the type `t` isn't declared
not_declared : IsDeclaredType no_type (codes "t") → ⊥
not_declared (inl e) = differ (codes "t") object refl e
not_declared (inr h) = absent (codes "t") [] refl h

-- some pair leads to where the pairs lead
pub last_of : (pairs : List (Text × Text)) (t u : Text) → Leads pairs t u → (w : Text) × IsIn (w, u) pairs
last_of pairs t u (Direct x y h) = (x, h)
last_of pairs t u (Through x y z h more) = last_of pairs y z more

-- the second of each pair
abbrev seconds : List (Text × Text) → List Text
seconds pairs = map (λ (pair : Text × Text). pair.1) pairs

-- `can` isn't below `box`
not_below : IsBelow no_box (codes "can") (codes "box") → ⊥
not_below (inl e) = differ (codes "can") (codes "box") refl e
not_below (inr leads) =
    let end = last_of (parent_pairs no_box) (codes "can") (codes "box") leads in
    absent (codes "box") (seconds (parent_pairs no_box)) refl (in_map (λ (pair : Text × Text). pair.1) (end.0, codes "box") (parent_pairs no_box) end.1)

-- the object `c`, a `can`
abbrev the_can : Typed
the_can = record { mention = mention_of (called 48 (codes "c")); of_type = Some (mention_of (called 52 (codes "can"))) }

-- the object `c` is no `box`
no_type_box : HasType no_box empty_problem (codes "c") (codes "box") → ⊥
no_type_box h =
    elim (in_cases the_can h.0 [] h.1) [
      | inl e ↦ not_below (subst (λ (x : Typed). IsBelow no_box (text_or_object x.of_type) (codes "box")) (sym e) h.3)
      | inr k ↦ in_nothing h.0 k
    ]

-- its one type is declared
can_declared : HasDeclaredTypes no_box empty_problem (codes "c")
can_declared t at is =
    elim (in_cases the_can t [] at) [
      | inl e ↦ subst (λ (x : Typed). IsDeclaredType no_box (text_or_object x.of_type)) e (inr (1, omega arith, refl))
      | inr k ↦ absurd (in_nothing t k)
    ]

-- each kind of fault holds at its place
pub faults : FaultsHavePlaces
faults = record {
  duplicate = (
    mention_of (called 33 (codes "p")) ∷ mention_of (called 37 (codes "P")) ∷ [],
    [],
    mention_of (called 33 (codes "p")),
    [],
    mention_of (called 37 (codes "P")),
    [],
    (0, omega arith, refl),
    refl,
    refl,
    refl,
  );
  unknown_type = (mention_of (called 40 (codes "t")), (0, omega arith, refl), not_declared, refl);
  type_cycle = (
    refl,
    record { mention = mention_of (called 27 (codes "a")); of_type = Some (mention_of (called 31 (codes "b"))) },
    mention_of (called 27 (codes "a")),
    (0, omega arith, refl),
    (refl, inr (Direct (codes "b") (codes "a") (1, omega arith, refl))),
    (0, omega arith, refl),
    refl,
  );
  unknown_name =
      let a : AtomText = at_terms (called 45 (codes "p")) [] in
      inl (use_of a, in_flat_map (λ s. s.atoms) (schema_of_action (action (called 28 (codes "a")) [] (atom a ∷ []))) (use_of a) (domain_schemas no_predicate) (0, omega arith, refl) (only_atom 28 a), (absent (codes "p") [] refl, refl));
  arity =
      let a : AtomText = at_terms (called 66 (codes "p")) [] in
      inl (
        use_of a,
        signature (called 33 (codes "p")) (untyped (variable 35 (codes "?x"))),
        in_flat_map (λ s. s.atoms) (schema_of_action (action (called 49 (codes "a")) [] (atom a ∷ []))) (use_of a) (domain_schemas no_argument) (0, omega arith, refl) (only_atom 49 a),
        refl,
        (λ e. let none : 0 ≡ 1 = e in omega arith),
        refl,
      );
  type_clash =
      let a : AtomText = at_terms (called 110 (codes "p")) (term.Object (called 112 (codes "c")) ∷ []) in
      let place : List VariableGroup = typed_as (variable 73 (codes "?b")) (called 78 (codes "box")) in
      inl (
        use_of a,
        signature (called 71 (codes "p")) place,
        term.Object (called 112 (codes "c")),
        record { mention = variable_mention (variable 73 (codes "?b")); of_type = Some (mention_of (called 78 (codes "box"))) },
        in_flat_map (λ s. s.atoms) (schema_of_action (action (called 93 (codes "a")) [] (atom a ∷ []))) (use_of a) (domain_schemas no_box) (0, omega arith, refl) (only_atom 93 a),
        refl,
        (0, omega arith, refl),
        (inr (0, omega arith, refl), ((0, omega arith, refl), can_declared, no_type_box, refl)),
      );
  order_cycle = ((32, two_ways), 0, (0, omega arith, refl), closure.Through 0 1 0 (0, omega arith, refl) (closure.Direct 1 0 (1, omega arith, refl)), refl);
  unknown_subtask = ((32, no_subtask), called 96 (codes "s3"), (0, omega arith, refl), (1, omega arith, refl), (absent (codes "s3") (codes "s1" ∷ codes "s2" ∷ []) refl, refl));
  too_many =
      let m : Mention = variable_mention (variable 35 (codes "?x")) in
      inr (inr (inr (inl (replicate 33 m, (0, omega arith, refl), (replicate 32 m, m, [], refl, refl, refl)))));
}

-- the small trees mean what they should
pub meanings : TreesHaveMeanings
meanings = record {
  types = refl;
  pairs = refl;
  numbers =
      let v : Vocabulary = vocabulary_of no_box empty_problem in
      let part : Condition-F Condition = Condition-F.Literal (record {
        is_positive = true;
        atom = at_terms (called 0 (codes "p")) (term.Variable (variable 0 (codes "?c")) ∷ term.Variable (variable 0 (codes "?B")) ∷ []);
      }) in
      ap (λ f. f (codes "?a" ∷ codes "?b" ∷ []))
      (fold-roll-Condition (List Text → model.Formula) (formula_step v) (Condition-F.Forall (typed_as (variable 0 (codes "?c")) (called 0 (codes "CAN"))) (roll-Condition part ∷ [])))
      ∙ ap (λ f. model.for_all (2 ∷ []) (model.formula (f (codes "?a" ∷ codes "?b" ∷ codes "?c" ∷ [])) model.no_formulas))
      (fold-roll-Condition (List Text → model.Formula) (formula_step v) part);
}
