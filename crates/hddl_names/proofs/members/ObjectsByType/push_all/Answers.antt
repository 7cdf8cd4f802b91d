use Rattle.std.proofs.Common.{◌<◌, ◌∙◌, ◌++◌, ◌∷◌, [], ap, arith, length, get_or}
use Rattle.std.proofs.lemmas.List.{length-set}
use Rattle.std.proofs.lemmas.List.Elements.{All-get_or}
use Rattle.hddl_names.proofs.Ascending.{pushed-more}
use Rattle.hddl_names.proofs.members.ObjectsByType.push_all.Goals as goal

pub loop-of_type-preserved : goal.loop-of_type-preserved
loop-of_type-preserved c =
    let t = get_or c.args.types.now c.loop-of_type.of_type-index 0 in
    let small = All-get_or (λ t. t < length c.args.self.now) c.args.types.now c.loop-of_type.of_type-index 0 c.loop-of_type-test.true c.requires.within in
    let count = c.loop-of_type.invariant.count in
    record {
      count = ap length c.in_ok-push.ensures ∙ length-set c.loop-of_type.self t (get_or c.loop-of_type.self t [] ++ c.args.object ∷ []) ∙ count;
      lists = pushed-more c.args.self.now c.loop-of_type.self c.push.new.self c.args.types.now c.loop-of_type.of_type-index c.args.object c.requires.different c.loop-of_type-test.true
          (omega (arith, small, count)) c.in_ok-push.ensures c.loop-of_type.invariant.lists;
    }
