-- Values of the instances of one schema, by those that are given.
use Rattle.std.proofs.Common.{◌≡◌, ◌↔◌, ℕ, List, Option, None, true, false, ap, arith, length, map, replicate}
use Rattle.htn_model.specs.Instances.{Conditions, have_types, initial_conditions, is_instance, meets, method_conditions, value_of}
use Rattle.htn_model.specs.Problem.{GroundTask}
use Rattle.htn_model.specs.Task.{MethodSchema, Task}
use Rattle.plan_lines.specs.Allowed.{IsInstanceWith}
use Rattle.plan_lines.specs.Found.{IsFor}
use Rattle.plan_lines.specs.Given.{Extends, Narrows}
use Rattle.plan_lines.specs.Values.{IsForRoots}
use Rattle.plan_lines.proofs.Exchanged.{first_of, types_long}
use Rattle.plan_lines.proofs.Narrowed.{nothing_given}
use Rattle.plan_lines.proofs.Searched.{same_task}

-- an instance's values are those of a schema with as many parameters, of which none is given
pub instance_given : (t : Task) (c : Conditions) (values : List ℕ) (n : ℕ) → n ≡ length c.parameters → is_instance t c values ≡ true → Extends values (replicate n None)
instance_given t c values n many is =
    let long = types_long t c.parameters values (first_of (have_types t c.parameters values) (meets t c values) is) in
    nothing_given values n (omega (arith, long, many))

module _ (t : Task) (g : GroundTask) (m : MethodSchema) (n : ℕ) (many : n ≡ length m.parameters) (new : List (Option ℕ)) where
  -- where no values make the method's task the line's, it has no instance
  pub none_for : Narrows (λ values. map (value_of values) m.task.arguments ≡ g.arguments) (replicate n None) new false → (values : List ℕ) → IsFor t g m values → ⊥
  none_for none values (goal, is) =
      none values (instance_given t (method_conditions t m) values n many is) (ap (λ (h : GroundTask). h.arguments) goal)

  -- otherwise its instances are those with the values that do
  pub some_for : g.name ≡ m.task.name → Narrows (λ values. map (value_of values) m.task.arguments ≡ g.arguments) (replicate n None) new true
      → (values : List ℕ) → IsInstanceWith t (method_conditions t m) new values ↔ IsFor t g m values
  some_for named narrows values = (
    (λ h. let r = (narrows values).0 h.0 in (same_task g m.task values named r.1, h.1)),
    (λ h. ((narrows values).1 (instance_given t (method_conditions t m) values n many h.1, ap (λ (k : GroundTask). k.arguments) h.0), h.1)),
  )

-- the instances of the initial network are those with no value given
pub for_roots : (t : Task) (n : ℕ) → n ≡ length t.initial_network.parameters → (values : List ℕ)
    → IsInstanceWith t (initial_conditions t t.initial_network) (replicate n None) values ↔ IsForRoots t values
for_roots t n many values = ((λ h. h.1), (λ h. (instance_given t (initial_conditions t t.initial_network) values n many h, h)))
