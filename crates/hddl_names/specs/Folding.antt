-- Where the bytes of a text in lower case are.
use Rattle.hddl_meaning.specs.Mentions.{Text}
use Rattle.hddl_names.specs.declared.text.Bytes.{Bytes}
use Rattle.hddl_names.specs.declared.text.Bytes.TheVariants.{Written, Lowered}

-- the bytes, as they are written or in lower case
abbrev pub bytes_of : Bytes → Text
bytes_of (Written bytes) = bytes.now
bytes_of (Lowered bytes) = bytes.items
