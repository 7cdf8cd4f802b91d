use Rattle.std.proofs.Common.{◌≡◌, ◌++◌, ℕ, List, Some, take}
use Rattle.diagnostics.specs.Near.{names_of}
use Rattle.diagnostics.specs.Offers.{named, opening}
use Rattle.diagnostics.proofs.questions.push_names.Given as goal

-- those so far
abbrev pub invariant-loop-name : goal.invariant-loop-name
invariant-loop-name l = record {
  names : named l.parts.items ≡ named l.initial.parts.items ++ names_of (take l.name-index l.names);
  begin : (words : List ℕ) → opening l.initial.parts.items ≡ Some words → opening l.parts.items ≡ Some words;
}
