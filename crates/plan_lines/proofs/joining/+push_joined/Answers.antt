use Rattle.std.proofs.Common.{◌≡◌, ◌∙◌, ◌+◌, ◌<◌, Bor, Global, List, Option, Some, Vec, ap, arith, false, length, map, slice_get, subst, sym, true, ℕ}
use Rattle.htn_model.specs.Atom.{Atom}
use Rattle.htn_model.specs.Instances.{ground_atom, value_of}
use Rattle.htn_model.specs.PlanFile.{IsIn}
use Rattle.htn_model.specs.Schema.{AtomSchema}
use Rattle.htn_ground.specs.declared.object_list.ObjectList.{ObjectList}
use Rattle.htn_task.specs.declared.atom.Atom as atoms
use Rattle.htn_task.specs.Views.{terms_of}
use Rattle.htn_task.specs.declared.term.AtomSchema as declared
use Rattle.plan_lines.specs.Allowed.{IsInstanceWith, meets_so_far}
use Rattle.plan_lines.specs.Found.{AreAlike, AreFound, MayFit}
use Rattle.plan_lines.specs.Given.{Extends}
use Rattle.plan_lines.proofs.Exchanged.{fails_so_far}
use Rattle.plan_lines.proofs.Gathering.{Tried, found_none, in_mapped, tried_all, tried_more, tried_skip}
use Rattle.plan_lines.proofs.Joined.{in_removed, mapped_get}
use Rattle.plan_lines.proofs.Narrowed.{mapped_long, narrows_same}
use Rattle.plan_lines.proofs.Shown.{at_in, got_below}
use Rattle.plan_lines.proofs.joining.+push_joined.Goals as goal
use Rattle.plan_lines.proofs.joining.+push_joined.Goals.{then-bind_all+then-meets_so_far+in_ok-push_joined, else-bind_all, else-bind_all-via-then-bind_all+else-meets_so_far, else-bind_all-via-else-bind_all}

abbrev at : Bor declared.AtomSchema → AtomSchema
at r = r.now

abbrev atom_at : Bor atoms.Atom → Atom
atom_at r = r.now

pub returns-then-not-branch : goal.returns-then-not-branch
returns-then-not-branch t c =
    let s = c.args.search.now in
    let given = c.args.given.now in
    found_none (AreAlike s.shown.now) (IsInstanceWith s.task.now s.conditions.now given) (MayFit s.task.now s.conditions.now s.ever.now (map at s.atoms.now) given) c.args.found.now.items
    (λ values fit. c.in_ok-may_be_true.ensures c.if-not-branch.true values fit.0.0 (λ a i. fit.1 a (c.requires.within a i)))

pub push_joined-requires : goal.push_joined-requires
push_joined-requires t c =
    let fewer = c.in_ok-rest.ensures.fewer in
    let removed = c.remove-schema.ensures.len in
    let before = c.in_ok-rest.rest.ok.0 in
    let after = c.remove-schema.new.self.ok.0 in
    let passed = ap (λ (l : List (Bor declared.AtomSchema)). length l) c.deref-then-meets_so_far.ensures.value in
    let more = ap (λ (l : List (Option ℕ)). length l) c.deref-then-meets_so_far-2.ensures.value in
    let copied = ap (λ (l : List (Option ℕ)). length l) c.in_ok-more.ensures.items in
    let bound = c.if-bind_all.ensures.long in
    let smaller = c.decreases in (
      omega (arith, fewer, removed, before, after, passed, smaller),
      (
        omega (arith, more, copied, bound, c.requires.long),
        λ a i.
            c.requires.within a
            (c.in_ok-rest.ensures.kept a
            (in_removed at c.in_ok-rest.rest.items c.narrowest-number.result a
            (subst (λ (l : List (Bor declared.AtomSchema)). IsIn a (map at l)) (c.deref-then-meets_so_far.ensures.value ∙ c.remove-schema.ensures.items) i))),
      ),
    )

pub loop-atom-preserved : goal.loop-atom-preserved
loop-atom-preserved t c =
    let s = c.args.search.now in
    let task = s.task.now in
    let conditions = s.conditions.now in
    let h = s.ever.now in
    let wanted = map at s.atoms.now in
    let given = c.args.given.now in
    let schema = c.remove-schema.result.now in
    let items = c.candidates-atoms.result.now in
    let atom = c.atom-item.result.now in
    let n = c.loop-atom.atom-index in
    let new = c.bind_all.new.given.items in
    let old = c.args.found.now.items in
    let mid = c.loop-atom.found.items in
    let Alike = AreAlike s.shown.now in
    let A : List ℕ → Type 0 = IsInstanceWith task conditions given in
    let W : List ℕ → Type 0 = MayFit task conditions h wanted given in
    let At : List ℕ → ℕ → Type 0 = λ values j. slice_get (map atom_at items) j ≡ Some (ground_atom values schema) in
    let Has : List ℕ → Type 0 = λ values. map (value_of values) schema.arguments ≡ atom.arguments in
    let here : slice_get (map atom_at items) n ≡ Some atom = mapped_get atom_at items n c.atom-item.result c.loop-atom-test.true c.atom-item.is in
    let has : (values : List ℕ) → At values n → Has values =
    λ values there. (let one : Some (ground_atom values schema) ≡ Some atom = sym there ∙ here in let same : ground_atom values schema ≡ atom = cc in ap (λ (a : Atom). a.arguments) same) in
    elim c.if-bind_all.branch [
      | then-bind_all+then-meets_so_far+in_ok-push_joined w ↦
          let narrows = narrows_same (terms_of c.arguments.result.now) schema.arguments c.arguments-in-loop-atom.result.now atom.arguments c.in_ok-more.more.items given new true
          c.arguments.ensures c.arguments-in-loop-atom.ensures c.in_ok-more.ensures.items w.if-bind_all.ensures.narrows in
          subst (λ (v : Vec ObjectList Global). AreFound Alike A (Tried W At (n + 1)) old v.items) (sym w.found-is)
          (tried_more Alike A W At (IsInstanceWith task conditions new) (MayFit task conditions h wanted new) n old mid w.push_joined.new.found.items c.loop-atom.invariant
          (subst (λ (l : List (Option ℕ)). AreFound Alike (IsInstanceWith task conditions l) (MayFit task conditions h wanted l) mid w.push_joined.new.found.items) w.deref-then-meets_so_far-2.ensures.value
          w.in_ok-push_joined.ensures) (λ values i. (((narrows values).0 i.0).0, i.1))
          (λ values fit there. (((narrows values).1 (fit.0.0, has values there), fit.0.1), fit.1)))
      | else-bind_all w ↦
          subst (λ (v : Vec ObjectList Global). AreFound Alike A (Tried W At (n + 1)) old v.items) (sym w.found-is)
          (tried_skip Alike A W At n old mid c.loop-atom.invariant
          (λ values fit there.
          elim w.else-bind_all.branch [
            | else-bind_all-via-then-bind_all+else-meets_so_far v ↦
                let narrows = narrows_same (terms_of c.arguments.result.now) schema.arguments c.arguments-in-loop-atom.result.now atom.arguments c.in_ok-more.more.items given new true
                c.arguments.ensures c.arguments-in-loop-atom.ensures c.in_ok-more.ensures.items v.if-bind_all.ensures.narrows in
                fails_so_far task conditions new (sym (v.if-meets_so_far.ensures ∙ ap (meets_so_far task conditions) v.deref-then-bind_all.ensures.value))
                (values, ((narrows values).1 (fit.0.0, has values there), fit.0.1))
            | else-bind_all-via-else-bind_all v ↦
                let narrows = narrows_same (terms_of c.arguments.result.now) schema.arguments c.arguments-in-loop-atom.result.now atom.arguments c.in_ok-more.more.items given new false
                c.arguments.ensures c.arguments-in-loop-atom.ensures c.in_ok-more.ensures.items v.if-bind_all.ensures.narrows in
                narrows values fit.0.0 (has values there)
          ]))
    ]

pub returns : goal.returns
returns t c =
    let s = c.args.search.now in
    let given = c.args.given.now in
    let schema = c.remove-schema.result in
    let items = c.candidates-atoms.result.now in
    let rest = c.in_ok-rest.rest.items in
    let below : c.narrowest-number.result < length rest =
    (let low = c.narrowest-number.ensures in let same = ap (λ (l : List (Bor declared.AtomSchema)). length l) c.deref.ensures.value in omega (arith, low, same)) in
    let wanted : IsIn schema.now (map at s.atoms.now) =
    c.requires.within schema.now (c.in_ok-rest.ensures.kept schema.now (in_mapped at rest c.narrowest-number.result schema below c.remove-schema.ensures.value)) in
    let long = mapped_long atom_at items in
    tried_all (AreAlike s.shown.now) (IsInstanceWith s.task.now s.conditions.now given) (MayFit s.task.now s.conditions.now s.ever.now (map at s.atoms.now) given)
    (λ values j. slice_get (map atom_at items) j ≡ Some (ground_atom values schema.now)) c.loop-atom.atom-index c.args.found.now.items c.loop-atom.found.items c.loop-atom.invariant
    (λ values fit.
    let m = at_in (ground_atom values schema.now) (map atom_at items) (c.candidates-atoms.ensures values fit.0.0 (fit.1 schema.now wanted)) in
    let within = got_below (map atom_at items) m.0 (ground_atom values schema.now) m.1 in
    (m.0, omega (arith, within, long, c.loop-atom-test.false), m.1))
