use Rattle.std.proofs.Common.{◌≡◌, ◌<◌, ◌^◌, ◌∙◌, ℕ, Bool, true, false, Option, None, Some, IfNone, IfSome, ap, get_or, inr, length, refl, sym, true≢false}
use Rattle.htn_model.specs.Problem.{order_eq}
use Rattle.htn_model.specs.Equality.{order_eq-decides}
use Rattle.htn_model.specs.PlanFile.{IsWithoutRepeats}
use Rattle.htn_order.specs.Shapes.{chain}
use Rattle.network_table.specs.Numbered.{Numbered, nothing}
use Rattle.network_table.specs.Entries.{Fits, IsChain}
use Rattle.network_table.specs.Networks.{IsNumberOf, IsWhole}
use Rattle.network_table.specs.declared.network_set.Entry.TheVariants.{Whole}
use Rattle.network_table.specs.declared.table.NetworkTable.{NetworkTable}
use Rattle.network_table.proofs.Keys.{apart}
use Rattle.network_table.proofs.table.NetworkTable.number_of.Goals as goal

-- a network for which there can be no place is a chain
chain_else : (n : Numbered) → ((IsChain n → ⊥) → ⊥) → IsChain n
chain_else n never = by (order_eq n.order (chain (length n.nodes))) refl
  where
    by : (b : Bool) → order_eq n.order (chain (length n.nodes)) ≡ b → IsChain n
    by true is = (order_eq-decides n.order (chain (length n.nodes))).0 is
    by false is = absurd (never (λ e. true≢false (sym ((order_eq-decides n.order (chain (length n.nodes))).1 e) ∙ is)))

-- what was not found is a chain, or has no small number
missed : (t : NetworkTable) (network : Numbered) (place r : Option ℕ) → IsWhole t
    → IfSome place (λ n. (n < length t.networks) × (get_or t.networks n nothing ≡ network))
    → IfNone place ((n : ℕ) → n < length t.networks → Fits t.networks (Whole network) → get_or t.networks n nothing ≡ network → IsWithoutRepeats t.networks → ⊥)
    → IfNone r ((n : ℕ) → n < 2 ^ 32 → place ≡ Some n → ⊥) → IfNone r ((n : ℕ) → n < 2 ^ 32 → IsNumberOf t n network → IsChain network)
missed t network place (Some n) whole there none low = tt
missed t network None None whole there none low = λ n small is. chain_else network (λ other. none n is.0 (inr other) is.1 whole.distinct)
missed t network (Some p) None whole there none low = λ n small is.
    absurd (low n small (ap Some (apart nothing t.networks whole.distinct p n there.0 is.0 (there.1 ∙ sym is.1))))

pub returns-clause-none : goal.returns-clause-none
returns-clause-none c = missed c.args.self.now c.args.network c.place_of-place.result c.number_at.result c.requires c.place_of-place.ensures.some c.place_of-place.ensures.none c.number_at.ensures.none
