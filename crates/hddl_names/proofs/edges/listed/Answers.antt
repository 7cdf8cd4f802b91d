use Rattle.std.proofs.Common.{ℕ, ◌<◌, ◌∙◌, ◌++◌, ◌∷◌, [], ap, refl, arith, length, get_or}
use Rattle.std.proofs.lemmas.List.Elements.{All-get_or}
use Rattle.std.proofs.lemmas.List.{length-set}
use Rattle.hddl_names.proofs.FromPairs.{rows_more, rows_end}
use Rattle.hddl_names.proofs.edges.listed.Goals as goal

pub loop-pair-preserved : goal.loop-pair-preserved
loop-pair-preserved c =
    let p = get_or c.args.pairs.now c.loop-pair.pair-index (0, 0) in
    let below = All-get_or (λ (p : ℕ × ℕ). (p.0 < c.args.size) × (p.1 < c.args.size)) c.args.pairs.now c.loop-pair.pair-index (0, 0) c.loop-pair-test.true c.requires in
    let small = below.0 in
    let size = c.loop-pair.invariant.size in
    record {
      size = ap length c.in_ok-push.ensures ∙ length-set c.loop-pair.rows p.0 (get_or c.loop-pair.rows p.0 [] ++ p.1 ∷ []) ∙ size;
      rows = rows_more c.loop-pair.rows c.push.new.self c.args.pairs.now c.loop-pair.pair-index p.0 p.1 c.loop-pair-test.true refl (omega (arith, small, size)) c.in_ok-push.ensures
          c.loop-pair.invariant.rows;
    }

pub returns-clause-rows : goal.returns-clause-rows
returns-clause-rows c = rows_end c.loop-pair.rows c.args.pairs.now c.loop-pair.pair-index c.loop-pair-test.false c.loop-pair.invariant.rows
