use Rattle.std.proofs.Common.{◌≡◌, ◌++◌, ◌∷◌, cond, take}
use Rattle.std.specs.List.{flat_map}
use Rattle.hddl_warnings.specs.Used.{name_text}
use Rattle.hddl_warnings.specs.Effects.{term_tail}
use Rattle.hddl_warnings.proofs.effects.signed_text.Given as goal

abbrev pub invariant-loop-term : goal.invariant-loop-term
invariant-loop-term l = l.text.items ≡ cond l.is_positive 43 45 ∷ (name_text l.atom.name ++ flat_map term_tail (take l.term-index l.term-items))
