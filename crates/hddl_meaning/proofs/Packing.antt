-- The pair of the example fits together, and its task is that of the example.
use Rattle.std.proofs.Common.{◌≡◌, ℕ, zero, suc, ◌+◌, ◌<◌, ◌≤◌, ◌↔◌, Bool, true, false, cond, None, Some, length, List, [], ◌∷◌, ◌++◌, codes, inl, inr, refl, sym, ap, ◌∙◌, subst, arith, slice_get, length-append, nat_eq}
use Rattle.std.specs.List.{AllByRecursion, Contains, fold, list_any, zip}
use Rattle.std.specs.List.Sorted.{IsStrictlySortedBy}
use Rattle.std.specs.Ordering.{nat_cmp}
use Rattle.std.proofs.lemmas.List.{length-map, length_push}
use Rattle.std.specs.Cmp.{unsigned_Decides}
use Rattle.std.proofs.lemmas.Bool.{or_cases}
use Rattle.std.proofs.lemmas.Option.{slice_get_within}
use Rattle.std.proofs.lemmas.Map.Views.{list_any-from_Contains}
use Rattle.std.proofs.lemmas.Cmp.{nat_eq_equiv}
use Rattle.std.proofs.lemmas.List.Elements.{All-from_recursion}
use Rattle.hddl_words.specs.declared.term.Term.{Term}
use Rattle.hddl_words.specs.declared.domain.DomainText.{DomainText}
use Rattle.hddl_words.specs.declared.problem.ProblemText.{ProblemText}
use Rattle.hddl_words.specs.declared.term.Term.TheVariants as term
use Rattle.htn_model.specs.Problem.{is_before}
use Rattle.htn_model.specs.Task.{ObjectType, has_type, named_types}
use Rattle.htn_order.specs.Closure as closure
use Rattle.htn_order.specs.Closure.{IsClosureOf, Precedes}
use Rattle.hddl_words.specs.Names.{Name}
use Rattle.hddl_meaning.specs.Mentions.{IsIn, Mention, Text, Typed, folded, mention_of, texts, typed_names, variable_mention}
use Rattle.hddl_meaning.specs.Names.{distinct, is_same_text, object, object_names, compound_names, predicate_names, task_names, type_mentions, with_name}
use Rattle.hddl_meaning.specs.Types.{Direct, HasType, IsOnCycle, Leads, Through, parent_pairs}
use Rattle.hddl_meaning.specs.Networks.{order_pairs}
use Rattle.hddl_meaning.specs.Uses.{TermUse, Use, Variable}
use Rattle.hddl_meaning.specs.Items.{IsClash, IsDeclaredType, IsDuplicate, IsOrderCycle, IsPast, IsPastDistinct, IsPastObjects, IsTooMany, IsTypeClash, IsTypeCycle, IsUnknownName, IsUnknownSubtask, IsUnknownTerm, IsUnknownType, IsWellTypedPair, IsWrongArity, MayStand, Signature, declaration_in, declaration_lists, flattened, groups, networks_in, ordering_names, parameter_lists, predicate_signatures, schemas_in, subtask_mentions, task_signatures, tasks_in, terms_in, type_uses, variable_lists}
use Rattle.hddl_meaning.specs.Building.{IsTaskOf}
use Rattle.hddl_meaning.specs.Examples.{PackingIsATask, called, one_box, packing, packing_task, variable}
use Rattle.hddl_meaning.specs.declared.fault.Source.{Source}
use Rattle.hddl_meaning.specs.declared.fault.Source.TheVariants as source
use Rattle.hddl_meaning.specs.declared.fault.At.{At}
use Rattle.hddl_meaning.specs.declared.fault.CheckFault.TheVariants as fault
use Rattle.hddl_meaning.proofs.Listed.{AreDifferent, at_head, in_cases, in_map, in_nothing, in_right}
use Rattle.hddl_meaning.proofs.Examples.{absent, differ}

-- ## What holds of each element

-- what holds of all of a list holds of each value in it
pub member : {X : Type 0} (P : X → Type 0) (xs : List X) → AllByRecursion P xs → (x : X) → IsIn x xs → P x
member P xs all x h = subst P h.2 (All-from_recursion P xs all h.0 x h.1)

-- what holds of all of a list holds of the value at a place
member_at : {X : Type 0} (P : X → Type 0) (xs : List X) → AllByRecursion P xs → (k : ℕ) (x : X) → slice_get xs k ≡ Some x → P x
member_at P [] all k x e = absurd cc
member_at P (y ∷ xs) all zero x e = let same : y ≡ x = cc in subst P same all.0
member_at P (y ∷ xs) all (suc k) x e = member_at P xs all.1 k x e

-- a place in a text
abbrev at : Source → ℕ → At
at text place = record { source = text; place = place }

-- ## 1.

-- in a list of different texts no two places have the same
two_differ : (before : List Mention) (first : Mention) (middle : List Mention) (second : Mention) (after : List Mention)
    → AreDifferent (texts (before ++ first ∷ middle ++ second ∷ after)) → first.text ≡ second.text → ⊥
two_differ [] first middle second after different same =
    different.0
    (subst (λ t. IsIn t (texts (middle ++ second ∷ after))) (sym same)
    (in_map (λ m. m.text) second (middle ++ second ∷ after) (in_right second middle (second ∷ after) (at_head second after))))
two_differ (x ∷ before) first middle second after different same = two_differ before first middle second after different.1 same

-- the names of each group differ
group_differs : (text : Source) → AllByRecursion (λ group. AreDifferent (texts group)) (groups packing one_box text)
group_differs source.Domain =
    let one : (t : Text) → AreDifferent (t ∷ []) = λ t. (in_nothing t, tt) in
    (one (codes "done"), (one (codes "m"), ((absent (codes "pack") (codes "mark" ∷ []) refl, one (codes "mark")), (one (codes "?b"), (one (codes "?b"), (tt, tt))))))
group_differs source.Problem = (tt, (tt, (tt, tt)))

-- no name stands twice
no_duplicate : (text : Source) (place : ℕ) → IsDuplicate packing one_box (at text place) → ⊥
no_duplicate text place (group, before, first, middle, second, after, h, e, same, _) =
    two_differ before first middle second after
    (subst (λ g. AreDifferent (texts g)) e (member (λ group. AreDifferent (texts group)) (groups packing one_box text) (group_differs text) group h)) same

-- ## 2.

-- each type that is used is declared
types_declared : (text : Source) → AllByRecursion (λ m. IsDeclaredType packing m.text) (type_uses packing one_box text)
types_declared source.Domain =
    let box : IsDeclaredType packing (codes "box") = inr (0, omega arith, refl) in
    (box, (box, (box, (box, tt))))
types_declared source.Problem = (inr (0, omega arith, refl), tt)

-- no type is unknown
no_unknown_type : (text : Source) (place : ℕ) → IsUnknownType packing one_box (at text place) → ⊥
no_unknown_type text place (m, h, missing, _) = missing (member (λ m. IsDeclaredType packing m.text) (type_uses packing one_box text) (types_declared text) m h)

-- ## 3.

-- a way along pairs begins with a pair
first_of : (pairs : List (Text × Text)) (t u : Text) → Leads pairs t u → (w : Text) × IsIn (t, w) pairs
first_of pairs t u (Direct x y h) = (y, h)
first_of pairs t u (Through x y z h more) = (y, h)

-- the one pair leads from `box` to `object`, from where none leads
no_type_cycle : (place : At) → IsTypeCycle packing place → ⊥
no_type_cycle place (_, t, _, in', on, _, _) = member (λ t. IsOnCycle packing t → ⊥) (typed_names packing.types) (never, tt) t in' on
  where
    never : IsOnCycle packing (record { mention = mention_of (called 27 (codes "box")); of_type = None }) → ⊥
    never (_, inl is) = differ (codes "box") object refl (sym is)
    never (_, inr leads) =
        let pairs = parent_pairs packing in
        let start = first_of pairs object (codes "box") leads in
        differ (codes "box") object refl (sym (member (λ (pair : Text × Text). pair.0 ≡ codes "box") pairs (refl, (refl, tt)) (object, start.0) start.1))

-- ## 4.

-- each predicate that is used is declared
atoms_named : (text : Source) → AllByRecursion (λ u. IsIn (folded u.atom.name.text) (predicate_names packing)) (flattened (λ s. s.atoms) (schemas_in packing one_box text))
atoms_named source.Domain = ((0, omega arith, refl), tt)
atoms_named source.Problem = tt

-- each task that a method decomposes is declared
decomposed_named : (text : Source) → AllByRecursion (λ u. IsIn (folded u.atom.name.text) (compound_names packing)) (flattened (λ s. s.decomposed) (schemas_in packing one_box text))
decomposed_named source.Domain = ((0, omega arith, refl), tt)
decomposed_named source.Problem = tt

-- each subtask names a task or an action
subtasks_named : (text : Source) → AllByRecursion (λ u. IsIn (folded u.atom.name.text) (task_names packing)) (flattened (λ s. s.subtasks) (schemas_in packing one_box text))
subtasks_named source.Domain = ((1, omega arith, refl), tt)
subtasks_named source.Problem = ((0, omega arith, refl), tt)

-- a term is a variable in force or an object
abbrev IsKnown : TermUse → Type 0
IsKnown x = (place : ℕ) → IsUnknownTerm (object_names packing one_box) x place → ⊥

-- each term is so
terms_known : (text : Source) → AllByRecursion IsKnown (flattened terms_in (schemas_in packing one_box text))
terms_known source.Domain = ((λ place h. h.0 (0, omega arith, refl)), ((λ place h. h.0 (0, omega arith, refl)), ((λ place h. h.0 (0, omega arith, refl)), tt)))
terms_known source.Problem = ((λ place h. h.0 (0, omega arith, refl)), tt)

-- no name is unknown
no_unknown_name : (text : Source) (place : ℕ) → IsUnknownName packing one_box (at text place) → ⊥
no_unknown_name text place (inl (u, h, missing)) =
    missing.0 (member (λ u. IsIn (folded u.atom.name.text) (predicate_names packing)) (flattened (λ s. s.atoms) (schemas_in packing one_box text)) (atoms_named text) u h)
no_unknown_name text place (inr (inl (u, h, missing))) =
    missing.0 (member (λ u. IsIn (folded u.atom.name.text) (compound_names packing)) (flattened (λ s. s.decomposed) (schemas_in packing one_box text)) (decomposed_named text) u h)
no_unknown_name text place (inr (inr (inl (u, h, missing)))) =
    missing.0 (member (λ u. IsIn (folded u.atom.name.text) (task_names packing)) (flattened (λ s. s.subtasks) (schemas_in packing one_box text)) (subtasks_named text) u h)
no_unknown_name text place (inr (inr (inr (u, h, unknown)))) = member IsKnown (flattened terms_in (schemas_in packing one_box text)) (terms_known text) u h place unknown

-- ## 5.

-- a use has as many arguments as its declaration
abbrev HasArguments : List Signature → Use → Type 0
HasArguments signatures u = (s : Signature) → declaration_in signatures u.atom.name ≡ Some s → length u.atom.terms ≡ length s.places

-- a declaration of one place has one
one_place : (s x : Signature) → length s.places ≡ 1 → Some s ≡ Some x → 1 ≡ length x.places
one_place s x one e = let same : s ≡ x = cc in sym (ap (λ (z : Signature). length z.places) (sym same) ∙ one)

-- each atom has its arguments
atoms_filled : (text : Source) → AllByRecursion (HasArguments (predicate_signatures packing)) (flattened (λ s. s.atoms) (schemas_in packing one_box text))
atoms_filled source.Domain = ((λ s e. one_place _ s refl e), tt)
atoms_filled source.Problem = tt

-- each task has its arguments
tasks_filled : (text : Source) → AllByRecursion (HasArguments (task_signatures packing)) (flattened tasks_in (schemas_in packing one_box text))
tasks_filled source.Domain = ((λ s e. one_place _ s refl e), ((λ s e. one_place _ s refl e), tt))
tasks_filled source.Problem = ((λ s e. one_place _ s refl e), tt)

-- no number of arguments is wrong
no_wrong_arity : (text : Source) (place : ℕ) → IsWrongArity packing one_box (at text place) → ⊥
no_wrong_arity text place (inl (u, s, h, e, wrong, _)) =
    wrong (member (HasArguments (predicate_signatures packing)) (flattened (λ s. s.atoms) (schemas_in packing one_box text)) (atoms_filled text) u h s e)
no_wrong_arity text place (inr (u, s, h, e, wrong, _)) =
    wrong (member (HasArguments (task_signatures packing)) (flattened tasks_in (schemas_in packing one_box text)) (tasks_filled text) u h s e)

-- ## 6.

-- the object `B1`, a `box`
abbrev the_box : Typed
the_box = record { mention = mention_of (called 42 (codes "B1")); of_type = Some (mention_of (called 47 (codes "box"))) }

-- no argument of a use clashes with its place
abbrev Fits : List Signature → Use → Type 0
Fits signatures u =
    (s : Signature) (argument : Term) (at_place : Typed) → declaration_in signatures u.atom.name ≡ Some s → IsIn (argument, at_place) (zip u.atom.terms s.places)
    → (place : ℕ) → IsClash packing one_box u.variables argument at_place place → ⊥

-- what is there twice alike is the same
same_some : {X : Type 0} (x y : X) → Some x ≡ Some y → x ≡ y
same_some x y e = cc

-- one argument in the one place
pub one_fits : (d : DomainText) (p : ProblemText) (variables : List Variable) (x : Term) (only : Typed) → ((place : ℕ) → IsClash d p variables x only place → ⊥)
    → (first s : Signature) → first.places ≡ only ∷ [] → Some first ≡ Some s → (argument : Term) (at_place : Typed) → IsIn (argument, at_place) (zip (x ∷ []) s.places)
    → (place : ℕ) → IsClash d p variables argument at_place place → ⊥
one_fits d p variables x only none first s places e argument at_place h place clash =
    let all : zip (x ∷ []) s.places ≡ (x, only) ∷ [] = ap (λ ps. zip (x ∷ []) ps) (ap (λ (z : Signature). z.places) (sym (same_some first s e)) ∙ places) in
    elim (in_cases (x, only) (argument, at_place) [] (subst (IsIn (argument, at_place)) all h)) [
      | inl same ↦ none place (subst (λ (pair : Term × Typed). IsClash d p variables pair.0 pair.1 place) (sym same) clash)
      | inr k ↦ in_nothing (argument, at_place) k
    ]

-- a parameter of the type of its place
abbrev boxed : ℕ → Typed
boxed place = record { mention = variable_mention (variable place (codes "?b")); of_type = Some (mention_of (called (place + 5) (codes "box"))) }

-- the parameter `?b` in force
abbrev parameter : ℕ → List Variable
parameter place = record { typed = boxed place; is_quantified = false } ∷ []

-- the parameter fits a place of type `box`
box_fits : (declared used at_place place : ℕ) → IsClash packing one_box (parameter declared) (term.Variable (variable used (codes "?b"))) (boxed at_place) place → ⊥
box_fits declared used at_place place (_, (v, e, _, clash, _)) =
    clash
    (subst (λ w. MayStand packing w (codes "box")) (same_some (record { typed = boxed declared; is_quantified = false }) v e) (codes "box", inr (0, omega arith, refl), inl refl, inl refl))

-- the arguments of each atom fit
atoms_fit : (text : Source) → AllByRecursion (Fits (predicate_signatures packing)) (flattened (λ s. s.atoms) (schemas_in packing one_box text))
atoms_fit source.Domain = ((λ s argument at_place e h place clash. one_fits packing one_box (parameter 204) _ (boxed 51) (box_fits 204 228 51) _ s refl e argument at_place h place clash), tt)
atoms_fit source.Problem = tt

-- the arguments of each task fit
tasks_fit : (text : Source) → AllByRecursion (Fits (task_signatures packing)) (flattened tasks_in (schemas_in packing one_box text))
tasks_fit source.Domain = (
  (λ s argument at_place e h place clash. one_fits packing one_box (parameter 122) _ (boxed 87) (box_fits 122 144 87) _ s refl e argument at_place h place clash),
  ((λ s argument at_place e h place clash. one_fits packing one_box (parameter 122) _ (boxed 204) (box_fits 122 172 204) _ s refl e argument at_place h place clash), tt),
)
tasks_fit source.Problem = (
  (λ s argument at_place e h place clash.
      one_fits packing one_box [] (term.Object (called 82 (codes "b1"))) (boxed 87) (λ place clash. clash.1.2 (the_box, (0, omega arith, refl), refl, inl refl)) _ s refl e argument at_place h place clash),
  tt,
)

-- no types clash
no_clash : (text : Source) (place : ℕ) → IsTypeClash packing one_box (at text place) → ⊥
no_clash text place (inl (u, s, argument, at_place, h, e, g, clash)) =
    member (Fits (predicate_signatures packing)) (flattened (λ s. s.atoms) (schemas_in packing one_box text)) (atoms_fit text) u h s argument at_place e g place clash
no_clash text place (inr (u, s, argument, at_place, h, e, g, clash)) =
    member (Fits (task_signatures packing)) (flattened tasks_in (schemas_in packing one_box text)) (tasks_fit text) u h s argument at_place e g place clash

-- ## 7. and 8.

-- no pairs lead anywhere
nowhere : (a b : ℕ) → Precedes [] a b → ⊥
nowhere a b (closure.Direct x y h) = in_nothing (x, y) h
nowhere a b (closure.Through x y z h more) = in_nothing (x, y) h

-- no network has a cycle
no_pairs : (text : Source) → AllByRecursion (λ n. (a : ℕ) → Precedes (order_pairs n.1) a a → ⊥) (networks_in packing one_box text)
no_pairs source.Domain = ((λ a h. nowhere a a h), tt)
no_pairs source.Problem = ((λ a h. nowhere a a h), tt)

-- no orderings have a cycle
no_order_cycle : (text : Source) (place : ℕ) → IsOrderCycle packing one_box (at text place) → ⊥
no_order_cycle text place (n, a, h, cycle, _) = member (λ n. (a : ℕ) → Precedes (order_pairs n.1) a a → ⊥) (networks_in packing one_box text) (no_pairs text) n h a cycle

-- no ordering names a subtask
no_names : (text : Source) → AllByRecursion (λ n. (name : Name) → IsIn name (ordering_names n.1) → ⊥) (networks_in packing one_box text)
no_names source.Domain = ((λ name h. in_nothing name h), tt)
no_names source.Problem = ((λ name h. in_nothing name h), tt)

-- no subtask is unknown
no_unknown_subtask : (text : Source) (place : ℕ) → IsUnknownSubtask packing one_box (at text place) → ⊥
no_unknown_subtask text place (n, name, h, g, _) =
    member (λ n. (name : Name) → IsIn name (ordering_names n.1) → ⊥) (networks_in packing one_box text) (no_names text) n h name g

-- ## 9.

-- one text more makes at most one name more
with_short : (names : List Text) (t : Text) (b : Bool) → length (cond b names (names ++ t ∷ [])) ≤ length names + 1
with_short names t true = omega arith
with_short names t false = let long : length (names ++ t ∷ []) ≡ length names + 1 = length_push names t in omega arith

-- there are at most as many names as texts
fold_short : (names ts : List Text) → length (fold with_name names ts) ≤ length names + length ts
fold_short names [] = omega arith
fold_short names (t ∷ ts) =
    let rest = fold_short (with_name names t) ts in
    let step : length (with_name names t) ≤ length names + 1 = with_short names t (list_any (is_same_text t) names) in
    omega arith

-- what stands before a mention is shorter than the list
past_within : (limit : ℕ) (before : List Mention) (m : Mention) (after mentions : List Mention) → mentions ≡ before ++ m ∷ after → length before < length mentions
past_within limit before m after mentions e =
    let long : length mentions ≡ length before + length (m ∷ after) = ap length e ∙ length-append before (m ∷ after) in
    omega arith

-- more mentions than the limit stand up to the one past it
distinct_within : (first before : List Mention) → length (distinct (texts (first ++ before))) ≤ length first + length before
distinct_within first before =
    let short : length (distinct (texts (first ++ before))) ≤ 0 + length (texts (first ++ before)) = fold_short [] (texts (first ++ before)) in
    let same : length (texts (first ++ before)) ≡ length (first ++ before) = length-map (first ++ before) (λ m. m.text) in
    let both : length (first ++ before) ≡ length first + length before = length-append first before in
    omega arith

-- a list within its limit has none past it
not_past : (limit : ℕ) (mentions : List Mention) (place : ℕ) → length mentions ≤ limit → IsPast limit mentions place → ⊥
not_past limit mentions place short (before, m, after, e, long, _) =
    let within : length before < length mentions = past_within limit before m after mentions e in
    omega arith

-- the same of distinct names
not_past_distinct : (limit : ℕ) (mentions : List Mention) (place : ℕ) → length mentions ≤ limit → IsPastDistinct limit mentions place → ⊥
not_past_distinct limit mentions place short (before, m, after, e, long, _, _) =
    let within : length before < length mentions = past_within limit before m after mentions e in
    let names : length (distinct (texts before)) ≤ 0 + length before = distinct_within [] before in
    omega arith

-- a list is within a limit
abbrev IsShort : ℕ → List Mention → Type 0
IsShort limit mentions = length mentions ≤ limit

-- names that are declared are few enough
few_declarations : (text : Source) → AllByRecursion (IsShort 65535) (declaration_lists packing text)
few_declarations source.Domain = (omega arith, (omega arith, (omega arith, (omega arith, tt))))
few_declarations source.Problem = tt

-- parameters are few enough
few_parameters : (text : Source) → AllByRecursion (IsShort 32) (parameter_lists packing one_box text)
few_parameters source.Domain = (omega arith, (omega arith, (omega arith, tt)))
few_parameters source.Problem = (omega arith, (omega arith, tt))

-- variables in force are few enough
few_variables : (text : Source) → AllByRecursion (IsShort 65535) (variable_lists packing one_box text)
few_variables source.Domain = tt
few_variables source.Problem = tt

-- subtasks are few enough
few_subtasks : (text : Source) → AllByRecursion (λ n. length (subtask_mentions n.1) ≤ 10000) (networks_in packing one_box text)
few_subtasks source.Domain = (omega arith, tt)
few_subtasks source.Problem = (omega arith, tt)

-- objects are few enough
few_objects : (text : Source) (place : ℕ) → IsPastObjects packing one_box (at text place) → ⊥
few_objects source.Domain place past = not_past_distinct 65535 [] place (omega arith) past
few_objects source.Problem place (before, m, after, e, long, _, _) =
    let within : length before < 1 = past_within 65535 before m after _ e in
    let names : length (distinct (texts before)) ≤ 0 + length before = distinct_within [] before in
    omega arith

-- nothing is past its limit
not_too_many : (text : Source) (place : ℕ) → IsTooMany packing one_box (at text place) → ⊥
not_too_many text place (inl h) = not_past_distinct 65535 (type_mentions packing) place (omega arith) h.1
not_too_many text place (inr (inl h)) = few_objects text place h
not_too_many text place (inr (inr (inl (mentions, h, past)))) = not_past 65535 mentions place (member (IsShort 65535) (declaration_lists packing text) (few_declarations text) mentions h) past
not_too_many text place (inr (inr (inr (inl (mentions, h, past))))) = not_past 32 mentions place (member (IsShort 32) (parameter_lists packing one_box text) (few_parameters text) mentions h) past
not_too_many text place (inr (inr (inr (inr (inl (mentions, h, past)))))) = not_past 65535 mentions place (member (IsShort 65535) (variable_lists packing one_box text) (few_variables text) mentions h) past
not_too_many text place (inr (inr (inr (inr (inr (n, h, past)))))) =
    not_past 10000 (subtask_mentions n.1) place (member (λ n. length (subtask_mentions n.1) ≤ 10000) (networks_in packing one_box text) (few_subtasks text) n h) past

-- ## All

-- the pair fits together
fits_together : IsWellTypedPair packing one_box
fits_together (fault.Duplicate place) h = no_duplicate place.source place.place h
fits_together (fault.UnknownType place) h = no_unknown_type place.source place.place h
fits_together (fault.TypeCycle place) h = no_type_cycle place h
fits_together (fault.UnknownName place) h = no_unknown_name place.source place.place h
fits_together (fault.Arity place) h = no_wrong_arity place.source place.place h
fits_together (fault.TypeClash place) h = no_clash place.source place.place h
fits_together (fault.OrderCycle place) h = no_order_cycle place.source place.place h
fits_together (fault.UnknownSubtask place) h = no_unknown_subtask place.source place.place h
fits_together (fault.TooMany place) h = not_too_many place.source place.place h
fits_together fault.OutOfMemory h = h

-- ## The task

-- the one object is a box
has_box : (o : ℕ) → o < 1 → has_type packing_task 1 o ≡ true
has_box zero h = refl
has_box (suc o) h = absurd (omega arith)

-- the only number in the list is 0
only_zero : (o : ℕ) → list_any (nat_eq o) (0 ∷ []) ≡ true → o < 1
only_zero o h = elim (or_cases (nat_eq o 0) false h) [ inl e ↦ let same : o ≡ 0 = (unsigned_Decides o 0).0 e in omega arith | inr e ↦ absurd cc ]

-- what has a type is the one object
has_within : (k o : ℕ) → has_type packing_task k o ≡ true → o < 1
has_within zero o h = absurd cc
has_within (suc zero) o h = only_zero o h
has_within (suc (suc k)) o h = absurd cc

-- a list of one object ascends
one_ascends : IsStrictlySortedBy nat_cmp (0 ∷ [])
unfolding IsStrictlySortedBy
one_ascends = (tt, tt)

-- an empty list ascends
none_ascends : IsStrictlySortedBy nat_cmp []
unfolding IsStrictlySortedBy
none_ascends = tt

-- the objects of each type ascend
ascends : (k : ℕ) (type : ObjectType) → slice_get packing_task.types k ≡ Some type → IsStrictlySortedBy nat_cmp type.objects
ascends k type e = member_at (λ (x : ObjectType). IsStrictlySortedBy nat_cmp x.objects) packing_task.types (none_ascends, (one_ascends, tt)) k type e

-- `b1` has each type of the task
is_a : (k : ℕ) (type : ObjectType) → slice_get packing_task.types k ≡ Some type → HasType packing one_box (codes "b1") type.name
is_a k type e =
    member_at (λ (x : ObjectType). HasType packing one_box (codes "b1") x.name) packing_task.types
    ((the_box, (0, omega arith, refl), refl, inr (Direct (codes "box") object (0, omega arith, refl))), ((the_box, (0, omega arith, refl), refl, inl refl), tt)) k type e

-- `object` isn't named
object_unnamed : Contains (named_types packing_task) 0 → ⊥
object_unnamed h = let among : list_any (nat_eq 0) (named_types packing_task) ≡ true = list_any-from_Contains nat_eq_equiv 0 (named_types packing_task) h in cc

-- the one object has the types that are named and that it is declared to have
members : (k o : ℕ) (type : ObjectType) (name : Text) → slice_get packing_task.types k ≡ Some type → slice_get packing_task.objects o ≡ Some name
    → (has_type packing_task k o ≡ true) ↔ (Contains (named_types packing_task) k × HasType packing one_box name type.name)
members zero o type name e g = (λ h. absurd cc, λ h. absurd (object_unnamed h.0))
members (suc zero) o type name e g =
    let called : codes "b1" ≡ name = member_at (λ (x : Text). codes "b1" ≡ x) packing_task.objects (refl, tt) o name g in (
      λ h. ((0, omega arith, refl), subst (λ (x : Text). HasType packing one_box x type.name) called (is_a 1 type e)),
      λ h. has_box o (slice_get_within packing_task.objects o name g),
    )
members (suc (suc k)) o type name e g = absurd cc

-- nothing is before anything
one_alone : IsClosureOf [] ((false ∷ []) ∷ [])
one_alone a b = (λ h. absurd (never a b h), λ h. absurd (nowhere a b h))
  where
    never : (a b : ℕ) → is_before ((false ∷ []) ∷ []) a b ≡ true → ⊥
    never zero zero h = absurd cc
    never zero (suc b) h = absurd cc
    never (suc a) b h = absurd cc

-- the task is that of the pair
task_is : IsTaskOf packing one_box packing_task
task_is = record {
  objects = refl;
  types = refl;
  ascending = ascends;
  members = members;
  within = has_within;
  predicates = refl;
  tasks = refl;
  methods = (
    record {
      name = refl;
      parameters = refl;
      task = refl;
      precondition = refl;
      constraints = refl;
      network = record { subtasks = refl; order = record { square = (refl, (refl, tt)); closure = one_alone } };
    },
    tt,
  );
  actions = refl;
  parameters = refl;
  constraints = refl;
  network = record { subtasks = refl; order = record { square = (refl, (refl, tt)); closure = one_alone } };
  initial_atoms = refl;
  goal = refl;
}

-- the pair fits together, and the task is its own
pub packing_is_a_task : PackingIsATask
packing_is_a_task = record { fits = fits_together; task = task_is }
