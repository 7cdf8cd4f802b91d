-- Totally ordered networks.
use Rattle.std.specs.Prelude.{◌≡◌, List, [], ◌∷◌, map, length}
use Rattle.htn_model.specs.State.{State}
use Rattle.htn_model.specs.Problem.{Child, Network}
use Rattle.htn_model.specs.Machine.{replaced}
use Rattle.htn_order.specs.Shapes.{chain}
use Rattle.htn_calls.specs.Cuts.{split}
use Rattle.htn_calls.specs.Series.{opened, IsTable}

-- the network of these nodes, each before all later ones
abbrev pub ordered : List Child → Network
ordered nodes = record { children = nodes; order = chain (length nodes) }

-- the network of a node alone
abbrev pub lone : Child → Network
lone node = ordered (node ∷ [])

-- the blocks of a totally ordered network are its nodes, each alone
abbrev pub OrderedSplit : Type 0
OrderedSplit = (nodes : List Child) → split (ordered nodes) ≡ map lone nodes

-- where one node alone is open, a network in its place is all that is open then
abbrev pub LoneReplaced : Type 0
LoneReplaced =
    (before after : State) (node : Child) (network : Network) → IsTable network
    → replaced (opened before (lone node)) 0 network after ≡ opened after network
