use Rattle.std.proofs.Common.{◌≡◌, ◌++◌, ◌∷◌, [], List, length, map, if◌then◌else◌, ap, sym, subst, ◌∙◌}
use Rattle.std.proofs.lemmas.List.{length-map, map-append}
use Rattle.word_machine.specs.declared.closed.Link.{Link}
use Rattle.word_machine.specs.declared.closed.Origin.{Origin}
use Rattle.word_machine.specs.Contents.{Contents, IsForest, IsOriginWithin, origin_of}
use Rattle.word_machine.proofs.Keeping.{added-All, as_many_one, forest_more}
use Rattle.word_machine.proofs.closed.Closed.keep_one.Goals as goal

pub invariant_of-self-2 : goal.invariant_of-self-2
invariant_of-self-2 g c =
    let eq = g.C.PartialEq.eq in
    let old : List Link = c.self.inside.links.items in
    let origins : List Origin = map origin_of old in
    let link : Link = c.new.result in
    let is_new = c.in_ok-is_new.is_new in
    let more : List Link = if is_new then link ∷ [] else [] in
    let pushed : c.push_link.new.links.items ≡ old ++ more =
    c.push_link.ensures.items ∙ ap (λ (l : List Link). l ++ more) c.in_ok-reserve.ensures.items in
    let before : length old ≡ length c.self.inside.configurations = c.self.invariant.as_many in
    let same : length c.args.self.now.keys ≡ length origins =
    sym (ap (λ (n : Contents g.row.C.Denot). length n.keys) c.self.view_is) ∙ sym before ∙ sym (length-map old origin_of) in
    let within : IsOriginWithin (length origins) (origin_of link) =
    subst (IsOriginWithin (length origins)) (sym c.new.ensures)
    (subst (λ n. IsOriginWithin n c.args.successor.origin) same c.requires) in
    record {
      as_many = ap length pushed
          ∙ as_many_one eq c.self.inside.configurations old c.args.successor.configuration link is_new c.in_ok-is_new.ensures.new before
          ∙ sym (ap length c.in_ok-is_new.ensures.ok);
      forest = subst IsForest (sym (ap (map origin_of) pushed ∙ map-append origin_of old more))
          (forest_more origins more c.self.invariant.forest
          (added-All (λ l. IsOriginWithin (length origins) (origin_of l)) link is_new within));
    }
