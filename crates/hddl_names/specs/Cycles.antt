-- Declarations of types as they are written.
use Rattle.std.specs.Prelude.{Option, option_map}
use Rattle.hddl_words.specs.Names.{Name}
use Rattle.hddl_meaning.specs.Mentions.{Typed, mention_of}

-- a declared name with the type that is written for its group
abbrev pub typed_name : Option Name → Name → Typed
typed_name of_type name = record { mention = mention_of name; of_type = option_map mention_of of_type }
