use Rattle.std.proofs.Common.{◌≡◌, take}
use Rattle.std.specs.List.{flat_map}
use Rattle.std.specs.Io.KnownBytes.{Appends}
use Rattle.plan_text.specs.Written.{spaced}
use Rattle.plan_text.proofs.writer.put_words.Given as goal

abbrev pub invariant-loop-word : goal.invariant-loop-word
invariant-loop-word g l = record {
  taken : Appends (g.O.Out.contents l.initial.out) (g.O.Out.contents l.out) (flat_map spaced (take l.word-index l.words));
  works : g.O.Out.has_failed l.out ≡ g.O.Out.has_failed l.initial.out;
}
