use Rattle.std.proofs.Common.{List, [], ap, get_or, length, map, refl, set, subst, sym, true, ◌<◌, ◌≡◌, ◌∙◌, ◌∷◌, ℕ}
use Rattle.std.specs.List.{Contains, filter}
use Rattle.std.specs.List.Sorted.{IsStrictlySortedBy}
use Rattle.std.specs.Ordering.{nat_cmp}
use Rattle.std.proofs.lemmas.List.{get_or_default}
use Rattle.std.proofs.lemmas.List.Elements.{All-set}
use Rattle.std.proofs.lemmas.List.Kept.{IsStrictlySortedBy-filter}
use Rattle.htn_model.specs.Instances.{value_of}
use Rattle.htn_model.specs.State.{contains}
use Rattle.htn_task.specs.Views.{terms_of}
use Rattle.htn_task.specs.declared.term.Term.{Term}
use Rattle.htn_ground.specs.Narrow.{Narrows, is_choice}
use Rattle.htn_ground.specs.Search.{fixed_atom}
use Rattle.htn_ground.proofs.NarrowedBy.{narrow_step}
use Rattle.htn_ground.proofs.narrowed.narrow_by.Goals as goal

pub returns-then-not-literal-clause-narrows : goal.returns-then-not-literal-clause-narrows
returns-then-not-literal-clause-narrows c relations shown passes make ignores kept = refl

pub returns-in_default-clause-narrows : goal.returns-in_default-clause-narrows
returns-in_default-clause-narrows c relations shown passes make ignores kept = refl

pub returns-in_default-last_place-clause-narrows : goal.returns-in_default-last_place-clause-narrows
returns-in_default-last_place-clause-narrows c relations shown passes make ignores kept = refl

pub returns-then-is_bound-clause-narrows : goal.returns-then-is_bound-clause-narrows
returns-then-is_bound-clause-narrows c relations shown passes make ignores kept = refl

pub returns-then-atoms-objects-clause-narrows : goal.returns-then-atoms-objects-clause-narrows
returns-then-atoms-objects-clause-narrows c relations shown passes make ignores kept = refl

pub returns-clause-narrows : goal.returns-clause-narrows
returns-clause-narrows c =
    let state = c.args.state.now in
    let l = c.args.literal.now in
    let domains = c.args.domains.now.items in
    let p = c.in-Some.parameter in
    let place = c.in-Some-last_place.place in
    let terms = c.in_ok-terms.terms.items in
    let marks = c.in_ok-marks.marks.items in
    let positive : l.is_positive ≡ true = cc in
    let inside : p < length domains = subst (λ (ds : List (List ℕ)). p < length ds) c.deref.ensures.value c.in-Some.ensures in
    let list : c.as_slice-objects.result.now ≡ get_or domains p [] = c.as_slice-objects.ensures ∙ c.index.ensures ∙ get_or_default domains p c.index.result.now [] inside in
    let left : c.in_ok-left.left ≡ filter (λ o. get_or marks o true) (get_or domains p []) =
    c.in_ok-left.ensures ∙ (λ i. filter (λ o. get_or (c.deref-7.ensures.value i) o true) (list i)) in
    let hold : (values : List ℕ) → is_choice domains values ≡ true → contains state (fixed_atom values l) ≡ true → get_or marks (get_or values p 0) true ≡ true =
    λ values is has.
    let same : map (value_of values) (terms_of terms) ≡ map (value_of values) (terms_of l.arguments.items) =
    c.in_ok-terms.ensures values (ap (λ (ds : List (List ℕ)). is_choice ds values) c.deref-3.ensures.value ∙ is)
    ∙ ap (λ (ts : List Term). map (value_of values) (terms_of ts)) c.deref-4.ensures.value in
    let pinned : map (value_of values) (terms_of c.deref-6.result.now) ≡ map (value_of values) (terms_of l.arguments.items) =
    ap (λ (ts : List Term). map (value_of values) (terms_of ts)) c.deref-6.ensures.value ∙ same in
    let last : map (value_of values) (terms_of c.deref-5.result.now) ≡ map (value_of values) (terms_of l.arguments.items) =
    ap (λ (ts : List Term). map (value_of values) (terms_of ts)) c.deref-5.ensures.value ∙ same in
    let there : Contains c.atoms_of-atoms.result.now (fixed_atom values l) = c.atoms_of-atoms.ensures (fixed_atom values l) refl has in
    let at : get_or (map (value_of values) (terms_of l.arguments.items)) place 0 ≡ get_or values p 0 =
    ap (λ (os : List ℕ). get_or os place 0) (sym last) ∙ c.in-Some-last_place.ensures.at values in
    ap (λ n. get_or marks n true) (sym at) ∙ c.in_ok-marks.ensures values (fixed_atom values l) there (sym pinned) in
    subst (λ (objects : List ℕ). Narrows state (l ∷ []) domains (set domains p objects)) (sym left) (narrow_step state l domains p (λ o. get_or marks o true) positive hold)

pub returns-clause-ascending : goal.returns-clause-ascending
returns-clause-ascending c =
    let domains = c.args.domains.now.items in
    let p = c.in-Some.parameter in
    let inside : p < length domains = subst (λ (ds : List (List ℕ)). p < length ds) c.deref.ensures.value c.in-Some.ensures in
    let list : c.as_slice-objects.result.now ≡ get_or domains p [] = c.as_slice-objects.ensures ∙ c.index.ensures ∙ get_or_default domains p c.index.result.now [] inside in
    let sorted : IsStrictlySortedBy nat_cmp c.as_slice-objects.result.now = subst (λ (os : List ℕ). IsStrictlySortedBy nat_cmp os) (sym list) (c.requires p [] inside) in
    All-set (IsStrictlySortedBy nat_cmp) domains p c.in_ok-left.left
    (subst (λ (os : List ℕ). IsStrictlySortedBy nat_cmp os) (sym c.in_ok-left.ensures) (IsStrictlySortedBy-filter nat_cmp (λ o. get_or c.deref-7.result.now o true) c.as_slice-objects.result.now sorted))
    c.requires
