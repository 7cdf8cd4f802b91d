use Rattle.std.proofs.Common.{◌≡◌, ◌++◌, ◌+◌, ◌∷◌, [], ℕ, suc, List, Some, get_or, take, ap, refl, sym, subst, ◌∙◌, arith}
use Rattle.std.proofs.Math.Seq.{take-suc}
use Rattle.network_table.specs.Numbered.{nothing}
use Rattle.network_table.specs.Networks.{numbered_at}
use Rattle.network_table.specs.Expansions.{AreDecompositions}
use Rattle.network_table.proofs.Drafting.{known_there}
use Rattle.network_table.proofs.Expanding.{decompositions_push}
use Rattle.network_table.proofs.table.NetworkTable.noted_decompositions.Goals as goal

pub loop-place-preserved : goal.loop-place-preserved
loop-place-preserved c =
    let t = c.args.self.now in
    let job = c.args.job in
    let n = numbered_at t job.network in
    let i = c.args.position in
    let xs = job.instances.now in
    let k = c.loop-place.place in
    let ids = c.loop-place.successors.items in
    let item = get_or xs k nothing in
    let x = c.in-Some.network in
    let found = c.in-Some.ensures in
    let number = known_there t job c.args.notes _ x (record { job = c.args.notes.job; position = i; instance = Some k }) found.0 item c.requires.noted found.1 found.2 found.3 refl refl in
    let longer : take (k + 1) xs ≡ take k xs ++ item ∷ [] = (let e : k + 1 ≡ suc k = omega arith in ap (λ j. take j xs) e ∙ take-suc xs k nothing c.loop-place-test.true) in
    subst (λ ys. AreDecompositions t n i (take (k + 1) xs) ys) (sym {A = List ℕ} c.in_ok-push.ensures.items)
    (subst (λ ps. AreDecompositions t n i ps (ids ++ x ∷ [])) (sym longer) (decompositions_push t n i (take k xs) ids item x c.loop-place.invariant number.0 number.1))
