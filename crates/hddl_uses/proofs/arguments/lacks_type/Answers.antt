use Rattle.std.proofs.Common.{◌≡◌, ◌∙◌, ◌<◌, ◌↔◌, IsTrue, ℕ, [], All, Contains, get_or, length, subst, sym, MatchOption, Option, Some, Bor}
use Rattle.std.proofs.Math.Logic.{∥∥₁_elim}
use Rattle.hddl_words.specs.declared.domain.DomainText.{DomainText}
use Rattle.hddl_words.specs.declared.problem.ProblemText.{ProblemText}
use Rattle.hddl_meaning.specs.Names.{type_names}
use Rattle.hddl_names.specs.Members.{AreDeclaredTypes}
use Rattle.hddl_names.specs.Reach.{Reaches}
use Rattle.hddl_names.specs.TypeNumbers.{numbered_pairs}
use Rattle.hddl_names.specs.declared.declared_types.DeclaredTypes.{DeclaredTypes}
use Rattle.hddl_uses.specs.Known.{AreKnown}
use Rattle.hddl_uses.proofs.Placing.{KnownWith, lacks, lacks_none, rows_typed, type_small, type_text, type_unknown}
use Rattle.hddl_uses.proofs.arguments.lacks_type.Goals as goal

-- what is known where the types of objects are there
known_with : (d : DomainText) (p : ProblemText) (o : Option (Bor DeclaredTypes)) (x : Bor DeclaredTypes) → o ≡ Some x
    → ∥ MatchOption o (AreKnown d p → ⊥) (λ x. AreKnown d p × AreDeclaredTypes d p x.now) ∥₁ → KnownWith d p x.now
known_with d p o x is = subst (λ (o : Option (Bor DeclaredTypes)). ∥ MatchOption o (AreKnown d p → ⊥) (λ x. AreKnown d p × AreDeclaredTypes d p x.now) ∥₁) is

pub has_type-requires-clause-typed : goal.has_type-requires-clause-typed
has_type-requires-clause-typed c =
    let d = c.args.context.now.domain.now in
    let p = c.args.context.now.problem.now in
    let rows = c.in-Some-Some.objects.now in
    let known : KnownWith d p rows = known_with d p c.args.context.now.objects c.in-Some-Some.objects c.in-Some-Some.is-0 c.args.context.now.known_objects in
    subst (λ (e : DomainText). All (All (λ t. t < length (type_names e))) rows) (sym c.args.context.now.known_types)
    (rows_typed d p rows known)

pub has_type-requires-clause-of_type : goal.has_type-requires-clause-of_type
has_type-requires-clause-of_type c =
    let d = c.args.context.now.domain.now in
    let wanted = sym c.type_number.ensures ∙ c.in-Some-Some.is-1 in
    subst (λ (e : DomainText). c.in-Some-Some.wanted < length (type_names e)) (sym c.args.context.now.known_types)
    (type_small d c.args.context.now.problem.now [] c.args.place.now c.in-Some-Some.wanted wanted)

pub returns-in_ok-has-in-Some-Some : goal.returns-in_ok-has-in-Some-Some
returns-in_ok-has-in-Some-Some c = λ text found.
    let d = c.args.context.now.domain.now in
    let p = c.args.context.now.problem.now in
    let rows = c.in-Some-Some.objects.now in
    let known : KnownWith d p rows = known_with d p c.args.context.now.objects c.in-Some-Some.objects c.in-Some-Some.is-0 c.args.context.now.known_objects in
    let wanted = sym c.type_number.ensures ∙ c.in-Some-Some.is-1 in
    lacks d p text c.args.place.now rows c.args.object c.in-Some-Some.wanted found wanted c.in_ok-has-in-Some-Some.has known
    (subst (λ (e : DomainText). IsTrue c.in_ok-has-in-Some-Some.has
    ↔ ((t : ℕ) × Contains (get_or rows c.args.object []) t × Reaches (numbered_pairs e) t c.in-Some-Some.wanted)) c.args.context.now.known_types c.in_ok-has-in-Some-Some.ensures)

pub returns-in_default : goal.returns-in_default
returns-in_default c = λ text found.
    let d = c.args.context.now.domain.now in
    lacks_none d c.args.context.now.problem.now text c.args.place.now (λ h. type_unknown d (type_text c.args.place.now) (sym c.type_number.ensures ∙ c.in_default.is-1) h.1)

pub returns-in_default-2 : goal.returns-in_default-2
returns-in_default-2 c = λ text found.
    let d = c.args.context.now.domain.now in
    let p = c.args.context.now.problem.now in
    let known =
    subst (λ (o : Option (Bor DeclaredTypes)). ∥ MatchOption o (AreKnown d p → ⊥) (λ x. AreKnown d p × AreDeclaredTypes d p x.now) ∥₁) c.in_default.is-0 c.args.context.now.known_objects in
    lacks_none d p text c.args.place.now (λ h. ∥∥₁_elim known (λ x y. absurd x) (λ never. ∥∥₁_elim h.0 (λ x y. absurd x) never))
