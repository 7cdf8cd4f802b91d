use Rattle.std.proofs.Common.{◌++◌, ℕ, codes, ap, ◌∙◌}
use Rattle.picture_text.specs.Dot.{edge}
use Rattle.picture_text.specs.Lines.{id_at}
use Rattle.picture_text.proofs.Writes.{each_more}
use Rattle.picture_text.proofs.as_dot.say_root_edges.Goals as goal

pub loop-root-preserved : goal.loop-root-preserved
loop-root-preserved c =
    each_more (λ (root : ℕ). edge (codes "root") (id_at c.args.file.now root)) c.args.out.now.items c.loop-root.out.items c.say_root_edge.new.out.items c.args.roots.now c.loop-root.root-index
    c.loop-root-test.true c.loop-root.invariant (c.in_ok-say_root_edge.ensures ∙ ap (λ n. c.loop-root.out.items ++ edge (codes "root") n) c.id_at.ensures)
