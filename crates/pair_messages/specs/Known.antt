-- The types that may be named.
use Rattle.std.specs.Prelude.{List}
use Rattle.hddl_words.specs.declared.domain.DomainText.{DomainText}
use Rattle.hddl_meaning.specs.Mentions.{Text, texts}
use Rattle.hddl_meaning.specs.Names.{distinct, object, type_mentions, with_name}

-- the types in the order in which they are named, and then `object`
abbrev pub known_types : DomainText → List Text
known_types d = with_name (distinct (texts (type_mentions d))) object
