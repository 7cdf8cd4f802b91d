-- What configurations feed a hasher.
use Rattle.std.specs.Prelude.{◌++◌}
use Rattle.std.specs.Hash.{HashWrites, Alike, same_Alike}
use Rattle.htn_model.specs.State.{state_hash}
use Rattle.htn_model.specs.Machine.{Config, config_eq}
use Rattle.htn_model.specs.Equality.{config_eq-decides}
use Rattle.htn_ground.specs.Hashes.{children_hash}
use Rattle.htn_order.specs.OrderHash.{order_hash}

-- its three parts
abbrev pub config_hash : Config → HashWrites
config_hash c = (state_hash c.state ++ children_hash c.open_nodes) ++ order_hash c.order

pub config_hash-Alike : Alike config_eq config_hash
config_hash-Alike = same_Alike config_hash config_eq-decides
