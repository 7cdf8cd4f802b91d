-- An instance of a method or of the initial network, with the method and the values that give it.
use Rattle.std.specs.Prelude.{ℕ, Bool, List, Option, refl, nat_eq}
use Rattle.std.specs.Coded.{Coded, code_by, coded×, coded_ℕ, coded_list, coded_option}
use Rattle.std.specs.Cmp.Lexicographic.{pointwise}
use Rattle.std.specs.Option.{option_eq}
use Rattle.std.specs.Ordering.{on, eq_of_both}
use Rattle.htn_model.specs.Problem.{Network, network_eq, network_code}

-- the method's number, or none for the initial network, and the objects that its parameters stand for
pub record Instance : Type 0 where
  pub method : Option ℕ
  pub values : List ℕ
  pub network : Network

-- whether two instances have the same method, values and network
abbrev pub instance_eq : Instance → Instance → Bool
instance_eq = eq_of_both (eq_of_both (on (λ i. i.method) (option_eq nat_eq)) (on (λ i. i.values) (pointwise nat_eq))) (on (λ i. i.network) network_eq)

-- instances as values: their parts in turn
abbrev pub instance_code : Coded Instance
instance_code =
    code_by (Option ℕ × (List ℕ × Network)) (coded× (coded_option coded_ℕ) (coded× (coded_list coded_ℕ) network_code))
    (λ i. (i.method, (i.values, i.network))) (λ p. record { method = p.0; values = p.1.0; network = p.1.1 }) (λ _. refl)
