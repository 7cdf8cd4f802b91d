use Rattle.std.proofs.Common.{take}
use Rattle.std.specs.Prelude.{option_map}
use Rattle.std.specs.List.{AllZip}
use Rattle.hddl_warnings.specs.Told.{TellsWarning}
use Rattle.hddl_warnings.proofs.messages.diagnostics_of.Given as goal

abbrev pub invariant-loop-warning : goal.invariant-loop-warning
invariant-loop-warning l =
    AllZip (TellsWarning l.fn.texts.domain.now (option_map (λ p. p.now) l.fn.texts.problem)) (take l.warning-index l.warnings) l.diagnostics.items
