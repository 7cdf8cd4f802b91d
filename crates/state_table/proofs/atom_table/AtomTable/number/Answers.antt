use Rattle.std.proofs.Common.{rules, ◌≡◌, ◌∙◌, ◌++◌, ◌∷◌, ◌<◌, ◌^◌, [], ℕ, true, length, slice_get, Some, subst, sym, ap, List}
use Rattle.indexmap.specs.IndexSet.{insert_key}
use Rattle.htn_model.specs.Atom.{Atom, atom_eq}
use Rattle.htn_model.specs.AtomOrder.{atom_eq-decides}
use Rattle.state_table.specs.Table.{Table, IsTable, IsLater, is_fluent}
use Rattle.state_table.proofs.Keys.{at_end, if_none, inserted}
use Rattle.state_table.proofs.States.{one_more, later_one_more}
use Rattle.state_table.proofs.atom_table.AtomTable.number.Goals as goal

-- the table whose fields these are
abbrev table_of : (c : goal.In_ok-insert) → List Atom → Table
table_of c atoms = record { fluents = c.self.inside.fluents.items; statics = c.self.inside.statics; atoms = atoms }

-- the atom has no number yet
none_yet : (c : goal.In_ok-insert) → (n : ℕ) → slice_get c.self.inside.atoms.keys n ≡ Some c.args.atom.now → ⊥
none_yet c =
    subst (λ (t : Table). (n : ℕ) → slice_get t.atoms n ≡ Some c.args.atom.now → ⊥) (sym c.self.view_is)
    (if_none c.number_of.result c.number_of.ensures.none c.in_default.not-Some)

-- it goes last
keys_are : (c : goal.In_ok-insert) → c.insert.new.self.keys ≡ c.self.inside.atoms.keys ++ c.args.atom.now ∷ []
keys_are c =
    c.in_ok-insert.ensures.keys
    ∙ ap (λ (a : Atom). insert_key atom_eq c.self.inside.atoms.keys a) c.in_ok-clone.ensures.cases
    ∙ inserted atom_eq atom_eq-decides c.args.atom.now c.self.inside.atoms.keys (none_yet c)

-- its predicate is fluent
fluent : (c : goal.In_ok-insert) → is_fluent (table_of c c.self.inside.atoms.keys) c.args.atom.now ≡ true
fluent c = subst (λ (t : Table). is_fluent t c.args.atom.now ≡ true) (sym c.self.view_is) c.requires

-- its number is the count of those before
count : (c : goal.In_ok-insert) → c.in-Ok.number ≡ length c.self.inside.atoms.keys
count c = search rules

-- there is a number left
room : (c : goal.In_ok-insert) → length c.self.inside.atoms.keys < 2 ^ 32
room c = search rules

pub invariant_of-self-2 : goal.invariant_of-self-2
invariant_of-self-2 c =
    subst (λ l. IsTable (table_of c l)) (sym (keys_are c))
    (one_more (table_of c c.self.inside.atoms.keys) c.self.invariant (room c) c.args.atom.now (fluent c) (none_yet c))

pub returns-clause-later : goal.returns-clause-later
returns-clause-later c =
    subst (λ (t : Table). IsLater t (table_of c c.insert.new.self.keys)) c.self.view_is
    (subst (λ l. IsLater (table_of c c.self.inside.atoms.keys) (table_of c l)) (sym (keys_are c))
    (later_one_more (table_of c c.self.inside.atoms.keys) c.self.invariant (room c) c.args.atom.now (fluent c) (none_yet c)))

pub returns-clause-number : goal.returns-clause-number
returns-clause-number c =
    subst (λ n. slice_get c.insert.new.self.keys n ≡ Some c.args.atom.now) (sym (count c))
    (ap (λ (l : List Atom). slice_get l (length c.self.inside.atoms.keys)) (keys_are c) ∙ at_end c.self.inside.atoms.keys c.args.atom.now)
