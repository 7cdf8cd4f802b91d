use Rattle.std.proofs.Common.{◌≡◌, All, arith, subst, sym}
use Rattle.std.proofs.lemmas.List.Elements.{All-push}
use Rattle.network_table.specs.Entries.{IsEntryAt}
use Rattle.network_table.specs.Networks.{children}
use Rattle.network_table.specs.Numbered.{Numbered, network_of}
use Rattle.heuristics.specs.FoundNeeds.{IsFound}
use Rattle.heuristics.specs.StoredNeeds.{IsKept}
use Rattle.heuristics.specs.Prospects.{outlook_by}
use Rattle.heuristics.specs.declared.keep_up_all.Found.{Found}
use Rattle.heuristics.proofs.NeedsChains.{some_items, whole_told}
use Rattle.heuristics.proofs.needs_table.NeedsTable.find_one.Goals as goal

pub returns : goal.returns
returns c =
    let p = c.args.prospects.now in
    let t = c.args.networks.now in
    let s = c.args.self.now in
    let number = c.in-Ok.number in
    let entry = subst (IsEntryAt t.networks number) c.in-Whole.is c.entry.ensures.entry in
    let one : Found = record { number = number; needed = c.in_ok-needed.needed } in
    let same : number ≡ c.args.number = c.in-Ok.ensures.1 in
    let is : IsFound p s t one = record {
      known = omega (arith, same, c.requires.known);
      other = whole_told t number c.in-Whole.network entry (λ none. some_items c.nodes.result.now c.in-Whole.network.nodes c.is_empty.result c.is_empty.ensures c.if-is_empty.false c.nodes.ensures none);
      right = λ atoms nodes goals.
          subst (λ (n : Numbered). IsKept (outlook_by p) s.goal atoms (network_of (children t) n) one.needed) (sym entry.1) (c.in_ok-needed.ensures atoms t nodes goals);
    } in
    subst (All (IsFound p s t)) (sym c.in_ok-push.ensures.items) (All-push (IsFound p s t) c.args.found.now.items one c.requires.found is)
