use Rattle.std.proofs.Common.{◌≡◌, drop}
use Rattle.std.specs.List.{list_all}
use Rattle.call_rules.specs.Local.{is_literal_in}
use Rattle.htn_task.specs.Literals.{literal_of}
use Rattle.htn_task.specs.declared.literal.Literal.{Literal}
use Rattle.call_proof.specs.Masks.{frame_of}
use Rattle.call_proof.proofs.reads.are_literals_in.Given as goal

-- the literals that are left decide
abbrev pub invariant-loop-literal : goal.invariant-loop-literal
invariant-loop-literal l =
    list_all (λ (x : Literal). is_literal_in (frame_of l.atoms l.mask) (literal_of x)) (drop l.literal-index l.literals)
    ≡ list_all (λ (x : Literal). is_literal_in (frame_of l.atoms l.mask) (literal_of x)) l.literals
