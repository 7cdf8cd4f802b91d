use Rattle.std.proofs.Common.{◌≡◌, ◌≤◌, ◌<◌, ◌∙◌, ◌-◌, ◌++◌, ◌∷◌, [], ap, arith, get_or, length, ltb, false, true, sym, ℕ}
use Rattle.std.proofs.lemmas.Bool.Decides.{nat_tests}
use Rattle.htn_model.specs.Atom.{Atom}
use Rattle.htn_model.specs.State.{State, atoms_of}
use Rattle.htn_ground.specs.Candidates.{atom_of, rows_of}
use Rattle.htn_ground.proofs.Gaps.{ascending, before_missing, below_later, excluded}
use Rattle.htn_ground.proofs.candidates.Candidates.next_place.Goals as goal

past : (m n : ℕ) → false ≡ ltb m n → n ≤ m
past m n e = grind (arith, nat_tests)

inner : (m n : ℕ) → true ≡ ltb m n → m < n
inner m n e = grind (arith, nat_tests)

pub returns-in_default-get-clause-excluded : goal.returns-in_default-get-clause-excluded
returns-in_default-get-clause-excluded c k d late inside =
    let objects = c.args.objects.now in
    let atoms = c.atoms-atoms.result.now in
    let rows : atoms ≡ atoms_of (rows_of c.args.state.now c.args.self.now) = c.atoms-atoms.ensures.value ∙ ap (λ (s : State). atoms_of s) c.rows.ensures in
    let all : length atoms ≤ c.in-Err.at = past c.in-Err.at (length atoms) c.in_default-get.ensures.lookup.0 in
    excluded c.args.state.now c.args.self.now c.args.values.now (get_or objects c.args.from 0) (get_or objects k d) (get_or objects k d) c.in-Err.at atoms c.in_ok-lowest.lowest
    rows c.in_ok-lowest.ensures (before_missing atoms c.in_ok-lowest.lowest c.in-Err.at c.atoms-atoms.ensures.ascending c.in-Err.ensures.position)
    (λ m e from to. absurd (omega arith))
    (ascending objects c.args.from k 0 d c.requires.ascending late inside) (omega arith)

pub returns-then-branch-clause-excluded : goal.returns-then-branch-clause-excluded
returns-then-branch-clause-excluded c k d late inside =
    let objects = c.args.objects.now in
    let atoms = c.atoms-atoms.result.now in
    let reach = c.place_of_last-reach.result in
    let rows : atoms ≡ atoms_of (rows_of c.args.state.now c.args.self.now) = c.atoms-atoms.ensures.value ∙ ap (λ (s : State). atoms_of s) c.rows.ensures in
    let high : Atom = atom_of (c.args.values.now ++ get_or objects (reach - 1) 0 ∷ []) c.args.self.now in
    let small : reach ≤ length objects = c.place_of_last-reach.ensures in
    excluded c.args.state.now c.args.self.now c.args.values.now (get_or objects c.args.from 0) (get_or objects k d) (get_or objects (reach - 1) 0) c.in-Err.at atoms c.in_ok-lowest.lowest
    rows c.in_ok-lowest.ensures (before_missing atoms c.in_ok-lowest.lowest c.in-Err.at c.atoms-atoms.ensures.ascending c.in-Err.ensures.position)
    (below_later atoms high c.in-Some.next.now c.in-Err.at c.atoms-atoms.ensures.ascending (inner c.in-Err.at (length atoms) c.in-Some.ensures.lookup.0) c.in-Some.ensures.lookup.1 (sym c.in_ok-is_below.ensures ∙ c.if-branch.true))
    (ascending objects c.args.from k 0 d c.requires.ascending late (omega arith)) (ascending objects k (reach - 1) d 0 c.requires.ascending (omega arith) (omega arith))

pub returns-then-branch-2-clause-excluded : goal.returns-then-branch-2-clause-excluded
returns-then-branch-2-clause-excluded c k d late inside =
    let objects = c.args.objects.now in
    let atoms = c.atoms-atoms.result.now in
    let last = length objects - 1 in
    let rows : atoms ≡ atoms_of (rows_of c.args.state.now c.args.self.now) = c.atoms-atoms.ensures.value ∙ ap (λ (s : State). atoms_of s) c.rows.ensures in
    let high : Atom = atom_of (c.args.values.now ++ get_or objects last 0 ∷ []) c.args.self.now in
    excluded c.args.state.now c.args.self.now c.args.values.now (get_or objects c.args.from 0) (get_or objects k d) (get_or objects last 0) c.in-Err.at atoms c.in_ok-lowest.lowest
    rows c.in_ok-lowest.ensures (before_missing atoms c.in_ok-lowest.lowest c.in-Err.at c.atoms-atoms.ensures.ascending c.in-Err.ensures.position)
    (below_later atoms high c.in-Some.next.now c.in-Err.at c.atoms-atoms.ensures.ascending (inner c.in-Err.at (length atoms) c.in-Some.ensures.lookup.0) c.in-Some.ensures.lookup.1 (sym c.in_ok-is_below-2.ensures ∙ c.if-branch-2.true))
    (ascending objects c.args.from k 0 d c.requires.ascending late inside) (ascending objects k last d 0 c.requires.ascending (omega arith) (omega arith))
