use Rattle.std.proofs.Common.{◌≡◌, ℕ, inl, inr, false, get_or, length, replicate, ap, ◌∙◌, arith}
use Rattle.std.proofs.lemmas.Bool.{cases_lt}
use Rattle.std.proofs.lemmas.List.{get_or_past, get_or-replicate, length-replicate}
use Rattle.plan_room.proofs.Searched.{untried}
use Rattle.plan_room.proofs.Noted.{fresh}
use Rattle.plan_room.proofs.matching.start.Goals as goal

none_taken : (n c : ℕ) → get_or (replicate n false) c false ≡ false
none_taken n c = elim (cases_lt c n) [ inl low ↦ get_or-replicate n c false false low | inr past ↦ get_or_past (replicate n false) c false (let e = length-replicate n false in omega arith) ]

pub returns : goal.returns
returns g c =
    let w = g.C.Choices.seating c.args.choices.now in
    let chosen = c.in_ok-vec.field-0 in
    let finishes = c.in_ok-vec-2.field-0 in
    let highs = c.in_ok-vec-3.field-0 in
    let taken = c.in_ok-vec-4.field-0 in
    let highs_are : highs.items ≡ replicate c.in-Some.ends c.gap.result = c.in_ok-vec-3.ensures.items_if_clones_equal (λ y e. e) in
    let taken_are : taken.items ≡ replicate c.count.result false = c.in_ok-vec-4.ensures.items_if_clones_equal (λ y e. e) in
    let places = ap length c.sequence-places.ensures in
    record {
      searched = untried w chosen.items finishes.items (let e = c.in_ok-vec.ensures.len in let o = chosen.ok.0 in omega arith)
          (let e = c.in_ok-vec-2.ensures.len in let o = finishes.ok.0 in let f = c.size.ensures in omega arith);
      noted = fresh w chosen.items finishes.items highs.items taken.items (let e = c.in_ok-vec-4.ensures.len in let o = taken.ok.0 in let f = c.count.ensures in omega arith)
          (λ i. ap (λ xs. get_or xs i false) taken_are ∙ none_taken c.count.result i)
          (let e = c.in_ok-vec-3.ensures.len in let o = highs.ok.0 in let f = c.in-Some.ensures in omega arith)
          (ap (λ xs. get_or xs 0 0) highs_are ∙ get_or-replicate c.in-Some.ends 0 c.gap.result 0 (let f = c.in-Some.ensures in omega arith) ∙ c.gap.ensures);
    }
