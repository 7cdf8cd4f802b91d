-- Where types are on no cycle, and clash with none.
use Rattle.std.proofs.Common.{◌≡◌, ℕ, Some, None, List, [], ◌∷◌, codes, map, inl, inr, refl, arith, true≢false}
use Rattle.std.specs.List.{AllByRecursion, zip}
use Rattle.hddl_words.specs.declared.term.Term.{Term}
use Rattle.hddl_words.specs.declared.term.Term.TheVariants as term
use Rattle.hddl_words.specs.declared.domain.DomainText.{DomainText}
use Rattle.hddl_meaning.specs.Mentions.{IsIn, Mention, Text, Typed, mention_of, typed_names, variable_mention}
use Rattle.hddl_meaning.specs.Names.{object}
use Rattle.hddl_meaning.specs.Types.{Direct, IsBelow, IsOnCycle, parent_pairs}
use Rattle.hddl_meaning.specs.Uses.{Use}
use Rattle.hddl_meaning.specs.Items.{FailsAt, IsClash, IsDeclaredType, Signature, declaration_in, flattened, predicate_signatures, schemas_in, type_of}
use Rattle.hddl_meaning.specs.Examples.{FaultsHaveReasons, below_a_cycle, called, in_problem, object_above_itself, of_no_type, one_place, variable}
use Rattle.hddl_meaning.specs.declared.fault.Source.TheVariants as source
use Rattle.hddl_meaning.specs.declared.fault.CheckFault.TheVariants as fault
use Rattle.hddl_meaning.proofs.Listed.{in_map, in_nothing}
use Rattle.hddl_meaning.proofs.Examples.{absent, differ, last_of}
use Rattle.hddl_meaning.proofs.Packing.{member, one_fits}

-- a name at a place with a type at a place
abbrev typed : ℕ → List ℕ → ℕ → List ℕ → Typed
typed at name above type = record { mention = mention_of (called at name); of_type = Some (mention_of (called above type)) }

-- the pair is on no cycle, or none of its names stands there
abbrev IsElsewhere : DomainText → ℕ → Typed → Type 0
IsElsewhere d place t = IsOnCycle d t → (m : Mention) → IsIn m (t.mention ∷ type_of t) → place ≡ m.place → ⊥

-- both names of a pair stand at other places
other_places : (d : DomainText) (place at above : ℕ) (name type : List ℕ) → (place ≡ at → ⊥) → (place ≡ above → ⊥) → IsElsewhere d place (typed at name above type)
other_places d place at above name type not_child not_parent _ m in' is =
    member (λ (m : Mention). place ≡ m.place → ⊥) (mention_of (called at name) ∷ mention_of (called above type) ∷ []) (not_child, (not_parent, tt)) m in' is

-- `a` isn't below `c`
not_above : IsBelow below_a_cycle (codes "a") (codes "c") → ⊥
not_above (inl e) = differ (codes "a") (codes "c") refl e
not_above (inr leads) =
    let pairs : List (Text × Text) = parent_pairs below_a_cycle in
    let end = last_of pairs (codes "a") (codes "c") leads in
    absent (codes "c") (map (λ (pair : Text × Text). pair.1) pairs) refl (in_map (λ (pair : Text × Text). pair.1) (end.0, codes "c") pairs end.1)

-- the type `u` isn't declared
u_missing : IsDeclaredType one_place (codes "u") → ⊥
u_missing (inl e) = differ (codes "u") object refl e
u_missing (inr h) = absent (codes "u") [] refl h

-- the one argument of the one atom
abbrev o_used : Term
o_used = term.Object (called 59 (codes "o"))

-- the argument of the use clashes with no place
abbrev Fits : Use → Type 0
Fits u =
    (s : Signature) (argument : Term) (at_place : Typed) → declaration_in (predicate_signatures one_place) u.atom.name ≡ Some s
    → IsIn (argument, at_place) (zip u.atom.terms s.places) → (place : ℕ) → IsClash one_place of_no_type u.variables argument at_place place → ⊥

-- the object `o` clashes with no place
o_fits : (place : ℕ) → IsClash one_place of_no_type [] o_used (record { mention = variable_mention (variable 35 (codes "?x")); of_type = None }) place → ⊥
o_fits place clash = u_missing (clash.1.1 (typed 42 (codes "o") 46 (codes "u")) (0, omega arith, refl) refl)

-- the arguments of all atoms fit
atoms_fit : AllByRecursion Fits (flattened (λ s. s.atoms) (schemas_in one_place of_no_type source.Problem))
atoms_fit = ((λ s argument at_place e h place clash. one_fits one_place of_no_type [] o_used _ o_fits _ s refl e argument at_place h place clash), tt)

-- no types clash
no_clash : FailsAt one_place of_no_type (fault.TypeClash (in_problem 59)) → ⊥
no_clash (inl (u, s, argument, at_place, h, e, g, clash)) =
    member Fits (flattened (λ s. s.atoms) (schemas_in one_place of_no_type source.Problem)) atoms_fit u h s argument at_place e g 59 clash
no_clash (inr (u, s, argument, at_place, h, e, g, clash)) = in_nothing u h

-- each of the faults has its reason
pub reasons : FaultsHaveReasons
reasons = record {
  ignored = λ (_, t, m, in', on, at, place).
      member (IsElsewhere object_above_itself 27) (typed_names object_above_itself.types)
      ((λ on m in' is. true≢false on.0), (other_places object_above_itself 27 43 52 (codes "object") (codes "a") (λ e. omega arith) (λ e. omega arith), tt))
      t in' on m at place;
  child = (
    refl,
    typed 43 (codes "object") 52 (codes "a"),
    mention_of (called 43 (codes "object")),
    (1, omega arith, refl),
    (refl, inr (Direct (codes "a") object (1, omega arith, refl))),
    (0, omega arith, refl),
    refl,
  );
  parent = (
    refl,
    typed 43 (codes "object") 52 (codes "a"),
    mention_of (called 52 (codes "a")),
    (1, omega arith, refl),
    (refl, inr (Direct (codes "a") object (1, omega arith, refl))),
    (1, omega arith, refl),
    refl,
  );
  below = λ (_, t, m, in', on, at, place).
      member (IsElsewhere below_a_cycle 31) (typed_names below_a_cycle.types) (
        (λ on m in' is. not_above on.1),
        (
          other_places below_a_cycle 31 33 37 (codes "a") (codes "b") (λ e. omega arith) (λ e. omega arith),
          (other_places below_a_cycle 31 39 43 (codes "b") (codes "a") (λ e. omega arith) (λ e. omega arith), tt),
        ),
      )
      t in' on m at place;
  undeclared = no_clash;
}
