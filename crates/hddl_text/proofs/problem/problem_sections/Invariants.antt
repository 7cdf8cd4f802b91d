use Rattle.std.proofs.Common.{◌≡◌, ◌≤◌, length}
use Rattle.hddl_words.specs.Reading.{until_ended}
use Rattle.hddl_text.specs.Readers.{problem_section}
use Rattle.hddl_text.specs.Drafts.{no_problem_parts, problem_of}
use Rattle.hddl_text.proofs.problem.problem_sections.Given as goal

abbrev pub invariant-parts : goal.invariant-parts
invariant-parts l = record {
  same : until_ended (problem_of l.name) problem_section l.parts l.cursor ≡ until_ended (problem_of l.fn.name) problem_section no_problem_parts l.fn.cursor;
  shorter : length l.cursor ≤ length l.fn.cursor;
}

abbrev pub decreases-parts : goal.decreases-parts
decreases-parts l = length l.cursor
