use Rattle.std.proofs.Common.{◌≡◌, ◌≤◌, length}
use Rattle.hddl_words.specs.Reading.{until}
use Rattle.hddl_text.specs.Readers.{domain_section}
use Rattle.hddl_text.specs.Drafts.{no_domain_parts}
use Rattle.hddl_text.proofs.domain.domain_sections.Given as goal

abbrev pub invariant-parts : goal.invariant-parts
invariant-parts l = record {
  same : until domain_section l.parts l.cursor ≡ until domain_section no_domain_parts l.fn.cursor;
  shorter : length l.cursor ≤ length l.fn.cursor;
}

abbrev pub decreases-parts : goal.decreases-parts
decreases-parts l = length l.cursor
