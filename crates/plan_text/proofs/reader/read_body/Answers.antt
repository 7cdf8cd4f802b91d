use Rattle.plan_text.proofs.Names.{drafted, valid_file}
use Rattle.plan_text.proofs.reader.read_body.Goals as goal

pub new-requires : goal.new-requires
new-requires c = valid_file _ _ _ c.in_ok-draft.ensures.read (drafted _ _ _ _ _ c.draft.view_is c.in-Some.is)
