-- Warnings of parameters, schema by schema.
use Rattle.std.proofs.Common.{◌≡◌, ◌⊎◌, List, [], ◌∷◌, ◌++◌, map, inl, inr, refl, sym, ap, ◌∙◌, subst, append-nil}
use Rattle.std.specs.List.{flat_map}
use Rattle.std.proofs.lemmas.List.{map-append}
use Rattle.std.proofs.lemmas.List.Elements.{Contains-append_cases}
use Rattle.std.proofs.lemmas.Simd.{map-map}
use Rattle.hddl_words.specs.declared.term.Term.{Term}
use Rattle.hddl_words.specs.declared.term.AtomText.{AtomText}
use Rattle.hddl_words.specs.declared.domain.ActionText.{ActionText}
use Rattle.hddl_words.specs.declared.domain.DomainText.{DomainText}
use Rattle.hddl_words.specs.declared.domain.MethodText.{MethodText}
use Rattle.hddl_meaning.specs.Mentions.{mentions_of, typed_variables}
use Rattle.hddl_words.specs.declared.condition.Condition.{Condition}
use Rattle.hddl_meaning.specs.Uses.{Schema, Use, TermUse, atoms_in, constraints_in, parameters_of, schema_of_action, schema_of_method, sides_in}
use Rattle.hddl_meaning.specs.Uses.{sides as sides_of_equality}
use Rattle.hddl_warnings.specs.declared.parts.Parts.{Parts}
use Rattle.hddl_warnings.specs.Parts.{HasParts, IsOfSchema, atoms, sides}
use Rattle.hddl_meaning.specs.Items.{arguments_of}
use Rattle.hddl_meaning.proofs.Listed.{in_left, in_map, in_right}
use Rattle.hddl_warnings.specs.Tells.{Tells}
use Rattle.hddl_warnings.specs.Used.{sides_of, term_text, term_texts}
use Rattle.hddl_warnings.specs.Warnings.{IsUnused, IsUnusedParameter}
use Rattle.hddl_warnings.specs.declared.warning.WarningKind.TheVariants as kind
use Rattle.hddl_warnings.specs.declared.warning.Warning.{Warning}
use Rattle.hddl_warnings.proofs.Folding.{map_flat}
use Rattle.hddl_warnings.proofs.Members.{mapped}
use Rattle.hddl_warnings.proofs.Telling.{AnyTold, Tells-as, Tells-then}

-- a warning of a parameter of one schema
abbrev pub UnusedIn : Schema → Warning → Type 0
UnusedIn s w = IsUnused kind.UnusedParameter (mentions_of (typed_variables s.parameters)) (term_texts s) w

-- a warning of a parameter of some method
abbrev pub InMethods : List MethodText → Warning → Type 0
InMethods = AnyTold (λ m. UnusedIn (schema_of_method m))

-- a warning of a parameter of some action
abbrev pub InActions : List ActionText → Warning → Type 0
InActions = AnyTold (λ a. UnusedIn (schema_of_action a))

-- the texts of arguments are those of the terms of the atoms
argument_texts : (uses : List Use) → map (λ u. term_text u.term) (flat_map arguments_of uses) ≡ map term_text (flat_map (λ a. a.terms) (map (λ u. u.atom) uses))
argument_texts [] = refl
argument_texts (u ∷ us) =
    map-append (λ u. term_text u.term) (arguments_of u) (flat_map arguments_of us)
    ∙ (λ i. map-map (λ (t : TermUse). term_text t.term) (λ x. record { variables = u.variables; term = x }) u.atom.terms i ++ argument_texts us i)
    ∙ sym (map-append term_text u.atom.terms (flat_map (λ a. a.terms) (map (λ u. u.atom) us)))

-- the texts of the terms of a schema, from its atoms and its sides
pub schema_texts : (terms : List Term) (atoms : List AtomText) (sides : List Term) (s : Schema) → terms ≡ flat_map (λ a. a.terms) atoms ++ sides
    → atoms ≡ map (λ u. u.atom) (s.atoms ++ s.decomposed ++ s.subtasks) → sides ≡ map (λ u. u.term) s.sides → map term_text terms ≡ term_texts s
schema_texts terms atoms sides s all a b =
    let uses : List Use = s.atoms ++ s.decomposed ++ s.subtasks in
    ap (map term_text) all ∙ (λ i. map term_text (flat_map (λ a. a.terms) (a i) ++ b i))
    ∙ map-append term_text (flat_map (λ a. a.terms) (map (λ u. u.atom) uses)) (map (λ u. u.term) s.sides)
    ∙ (λ i. sym (argument_texts uses) i ++ map-map term_text (λ (u : TermUse). u.term) s.sides i)
    ∙ sym (map-append (λ u. term_text u.term) (flat_map arguments_of uses) s.sides)

-- the parts of conditions are those of the same conditions
pub HasParts-same : (parts : Parts) (as' bs : List Condition) → as' ≡ bs → HasParts parts as' → HasParts parts bs
HasParts-same parts as' bs same has = subst (λ cs. HasParts parts cs) same has

-- the atoms of three lists of uses, joined
joined : (xs ys zs : List Use) → map (λ u. u.atom) xs ++ map (λ u. u.atom) ys ++ map (λ u. u.atom) zs ≡ map (λ u. u.atom) (xs ++ ys ++ zs)
joined xs ys zs =
    ap (λ l. l ++ map (λ (u : Use). u.atom) zs) (sym (map-append (λ (u : Use). u.atom) xs ys)) ∙ sym (map-append (λ (u : Use). u.atom) (xs ++ ys) zs)

-- atoms and sides are those of a schema where its three lists of uses give them
of_parts : (new : Parts) (s : Schema) → atoms new ≡ map (λ u. u.atom) s.atoms ++ map (λ u. u.atom) s.decomposed ++ map (λ u. u.atom) s.subtasks
    → sides new ≡ map (λ u. u.term) s.sides → IsOfSchema new s
of_parts new s a b = record { atoms = a ∙ joined s.atoms s.decomposed s.subtasks; sides = b }

-- two empty lists add nothing
two_empty : (xs : List AtomText) → xs ++ [] ++ [] ≡ xs
two_empty xs = append-nil (xs ++ []) ∙ append-nil xs

-- the parts of the precondition of a method, its task, its subtasks and its constraints are those of its schema
pub of_method : (old new : Parts) (m : MethodText) → HasParts old m.precondition
    → atoms new ≡ (atoms old ++ m.task ∷ []) ++ map (λ s. s.task) m.network.subtasks
    → sides new ≡ sides old ++ flat_map sides_of m.network.constraints → IsOfSchema new (schema_of_method m)
of_method old new m has a b =
    let v = parameters_of m.parameters in
    of_parts new (schema_of_method m)
    (a ∙ (λ i. (has.atoms v i ++ m.task ∷ []) ++ sym (map-map (λ (u : Use). u.atom) (λ s. record { variables = v; atom = s.task }) m.network.subtasks) i))
    (b ∙ (λ i. has.sides v i ++ sym (map_flat (λ (u : TermUse). u.term) (sides_of_equality v) m.network.constraints) i)
    ∙ sym (map-append (λ (u : TermUse). u.term) (sides_in v m.precondition) (constraints_in v m.network)))

-- the parts of the precondition of an action and the atoms of its effect are those of its schema
pub of_action : (old new : Parts) (a : ActionText) → HasParts old a.precondition → atoms new ≡ atoms old ++ map (λ l. l.atom) a.effect → sides new ≡ sides old
    → IsOfSchema new (schema_of_action a)
of_action old new a has b same =
    let v = parameters_of a.parameters in
    let first : List Use = atoms_in v a.precondition in
    let second : List Use = map (λ l. record { variables = v; atom = l.atom }) a.effect in
    of_parts new (schema_of_action a)
    (b ∙ (λ i. has.atoms v i ++ sym (map-map (λ (u : Use). u.atom) (λ l. record { variables = v; atom = l.atom }) a.effect) i)
    ∙ sym (map-append (λ (u : Use). u.atom) first second) ∙ sym (two_empty (map (λ u. u.atom) (first ++ second))))
    (same ∙ has.sides v)

-- the warnings of methods and of actions are those of all schemas
pub all_parameters : (old mid new : List Warning) (d : DomainText) → Tells old mid (InMethods d.methods) → Tells mid new (InActions d.actions)
    → Tells old new (IsUnusedParameter d)
all_parameters old mid new d a b =
    let ms : List Schema = map schema_of_method d.methods in
    let as' : List Schema = map schema_of_action d.actions in
    Tells-as old new (λ w. InMethods d.methods w ⊎ InActions d.actions w) (IsUnusedParameter d)
    (λ w h. elim h [
      | inl (m, at, u) ↦ (schema_of_method m, in_left (schema_of_method m) ms as' (in_map schema_of_method m d.methods at), u)
      | inr (a, at, u) ↦ (schema_of_action a, in_right (schema_of_action a) ms as' (in_map schema_of_action a d.actions at), u)
    ])
    (λ w (s, at, u). elim (Contains-append_cases ms as' s at) [
      | inl i ↦ let (m, there, e) = mapped schema_of_method d.methods s i in inl (m, there, subst (λ (x : Schema). UnusedIn x w) (sym e) u)
      | inr i ↦ let (a, there, e) = mapped schema_of_action d.actions s i in inr (a, there, subst (λ (x : Schema). UnusedIn x w) (sym e) u)
    ])
    (Tells-then old mid new (InMethods d.methods) (InActions d.actions) a b)
