use Rattle.std.proofs.Common.{◌∙◌, ◌<◌, ◌/◌, ◌%◌, ◌*◌, ◌^◌, ◌||◌, List, ℕ, ap, arith, length, bit_or, set, eqb}
use Rattle.std.proofs.lemmas.List.{get_or_read}
use Rattle.hddl_names.specs.NumberSets.{has}
use Rattle.hddl_names.proofs.NumberBits.{put_has, same_has}
use Rattle.hddl_names.proofs.number_set.NumberSet.insert.Goals as goal

pub returns-clause-ok : goal.returns-clause-ok
returns-clause-ok c =
    let words = c.self.inside.words.items in
    let view = ap length c.self.view_is in
    let long = c.in_ok-widen.ensures.len in
    let fits : c.args.number / 64 < length words = omega (arith, view, long) in
    λ x. ap (λ w. has (set words (c.args.number / 64) (bit_or w (1 * 2 ^ (c.args.number % 64) % 2 ^ 64))) x) (get_or_read words (c.args.number / 64) c.index_mut.result.now fits c.index_mut.ensures.value 0)
    ∙ put_has words c.args.number x fits
    ∙ ap (λ p. p || eqb x c.args.number) (ap (λ (xs : List ℕ). has xs x) c.self.view_is ∙ same_has c.widen.new.self c.args.self.now c.widen.ensures.same x)
