use Rattle.std.proofs.Common.{◌≡◌, encode_utf8_all, string_bytes, take}
use Rattle.std.specs.Str.{str_to_ascii_lowercase}
use Rattle.diagnostics.proofs.distance.lowered.Given as goal

abbrev pub invariant-loop-byte : goal.invariant-loop-byte
invariant-loop-byte l = string_bytes l.text ≡ encode_utf8_all (str_to_ascii_lowercase (take l.byte-index l.name))
