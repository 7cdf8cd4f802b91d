-- Literals that are false.
use Rattle.std.specs.Prelude.{◌≡◌, Bool, true, false, List, Option, None, Some}
use Rattle.std.specs.List.{AllZip, flat_map, zip}
use Rattle.std.specs.Option.{option_to_list}
use Rattle.htn_model.specs.Literal.{Literal}
use Rattle.htn_model.specs.Task.{Task}
use Rattle.plan_causes.specs.declared.standing.Standing.{Standing}
use Rattle.plan_causes.specs.declared.standing.Standing.TheVariants.{Holds, False, FalseSince}
use Rattle.plan_findings.specs.Words.{literal_text}
use Rattle.plan_causes.specs.declared.literals.FalseLiteral.{FalseLiteral}

-- whether a literal that stands so is false
abbrev pub is_false : Standing → Bool
is_false Holds = false
is_false False = true
is_false (FalseSince n) = true

-- a literal as it is written, and how it stands
pub record IsFalsity (t : Task) (p : Literal × Standing) (f : FalseLiteral) : Type 0 where
  pub text : f.text.items ≡ literal_text t p.0
  pub standing : f.standing ≡ p.1

-- a literal as it is written, if it is false
abbrev pub IsFalsityIf : Task → Literal × Standing → Option FalseLiteral → Type 0
IsFalsityIf t p None = is_false p.1 ≡ false
IsFalsityIf t p (Some f) = (is_false p.1 ≡ true) × IsFalsity t p f

-- exactly those of some literals that are false, as they stand, each as it is written, in their order
abbrev pub AreFalsities : Task → List Literal → List Standing → List FalseLiteral → Type 0
AreFalsities t literals standings found =
    (each : List (Option FalseLiteral)) × AllZip (IsFalsityIf t) (zip literals standings) each × (found ≡ flat_map option_to_list each)
