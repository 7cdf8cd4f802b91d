use Rattle.std.proofs.Common.{◌∙◌, ap, ap₂, length}
use Rattle.htn_walk.specs.Places.{child_places, places_view}
use Rattle.htn_walk.proofs.walk.start_walk.Goals as goal

pub returns : goal.returns
returns c = record {
  config = c.in_ok-start.ensures;
  places = c.in_ok-child_places.ensures ∙ ap₂ (λ p n. child_places p 0 n) c.new.ensures.items (c.len.ensures ∙ ap length c.children.ensures);
  trail = c.new-2.ensures.items;
  visits = ap places_view c.new-3.ensures.items;
}
