use Rattle.std.proofs.Common.{◌≡◌, ◌∙◌, List, ℕ, [], ap, ap₂, sym, map}
use Rattle.std.proofs.lemmas.List.{take_all}
use Rattle.htn_model.specs.Atom.{Atom}
use Rattle.htn_model.specs.Instances.{value_of}
use Rattle.hddl_words.specs.declared.term.Term.{Term}
use Rattle.hddl_meaning.specs.Mentions.{Text, folded}
use Rattle.hddl_meaning.specs.Names.{number_in}
use Rattle.hddl_meaning.specs.Building.{term_of}
use Rattle.hddl_build.proofs.Groups.{map-map}
use Rattle.hddl_build.proofs.state.ground_atom_of.Goals as goal

-- an atom with its name at a place
atom_at : ℕ → List ℕ → Atom
atom_at predicate arguments = record { predicate = predicate; arguments = arguments }

pub returns : goal.returns
unfolding atom_at
returns c =
    let v = c.args.vocabulary.now in
    let a = c.args.atom.now in
    let predicate : c.in_ok-predicate.predicate ≡ number_in v.predicates (folded a.name.text) =
    c.in_ok-predicate.ensures ∙ ap (λ (names : List Text). number_in names (folded a.name.text)) c.predicates.ensures in
    let arguments : c.deref.result.now ≡ map (value_of []) (map (term_of v []) a.terms) =
    c.deref.ensures.value ∙ c.loop-term.invariant
    ∙ ap (λ (l : List Term). map (λ (x : Term). value_of [] (term_of v [] x)) l)
    (take_all c.loop-term.term-index c.as_slice-term-items.result.now c.loop-term-test.false ∙ c.as_slice-term-items.ensures)
    ∙ sym (map-map (value_of []) (term_of v []) a.terms) in
    c.in_ok-ground.ensures ∙ ap₂ atom_at predicate arguments
