use Rattle.plan_room.proofs.Own.{passed_on, deepest_blocks, deepest_exist}
use Rattle.plan_room.proofs.deepest.deepest_lines_block.Goals as goal

pub returns-clause-passed : goal.returns-clause-passed
returns-clause-passed c l are = passed_on l are

pub returns-clause-block : goal.returns-clause-block
returns-clause-block c l are = deepest_blocks l are

pub returns-clause-exist : goal.returns-clause-exist
returns-clause-exist c l are = deepest_exist l are
