use Rattle.std.proofs.Common.{◌≡◌, ◌<◌, ℕ, Bool, List, length, sym, subst, Option, None, Some, IfSome, position}
use Rattle.std.proofs.lemmas.List.Quantifiers.{position-Some}
use Rattle.network_table.specs.Interning.{IsNumberOf}
use Rattle.network_table.proofs.interner.Interner.number_of.Goals as goal

-- the place of the first equal value is its number
found : {T : Type 0} (eq : T → T → Bool) (keys : List T) (v : T) (o : Option ℕ) → o ≡ position (eq v) keys → IfSome o (λ i. i < length keys) → IfSome o (IsNumberOf eq keys v)
found eq keys v None is within = tt
found eq keys v (Some i) is within = (within, λ d. (position-Some (eq v) keys i d (sym is)).1)

pub returns-clause-some : goal.returns-clause-some
returns-clause-some g c =
    let eq = g.T.PartialEq.eq in
    let v = c.args.value.now in
    subst (λ (l : List g.row.T.Denot). IfSome c.get_index_of.result (IsNumberOf eq l v)) c.self.view_is
    (found eq c.self.inside.values.keys v c.get_index_of.result c.get_index_of.ensures.index c.get_index_of.ensures.within)
