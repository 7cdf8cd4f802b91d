use Rattle.std.proofs.Common.{map, take}
use Rattle.hddl_warnings.specs.Known.{Knows}
use Rattle.hddl_warnings.specs.Used.{term_text}
use Rattle.hddl_warnings.proofs.known.known_terms.Given as goal

abbrev pub invariant-loop-term : goal.invariant-loop-term
invariant-loop-term l = Knows l.known (map term_text (map (λ x. x.now) (take l.term-index l.terms)))
