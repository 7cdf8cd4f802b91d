use Rattle.std.proofs.Common.{◌&&◌, ap₂, not}
use Rattle.state_table.specs.Bits.{has}
use Rattle.state_table.proofs.compiled.CompiledLiterals.drop_repeats.Goals as goal

pub returns : goal.returns
returns c = λ words.
    ap₂ (λ a b. not c.args.self.now.is_never && (a && b)) (c.keep_once.ensures (has words)) (c.keep_once-2.ensures (λ x. not (has words x)))
