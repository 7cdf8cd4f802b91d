use Rattle.std.proofs.Common.{◌∙◌, ◌≡◌, ◌&&◌, List, ℕ, ap, ap₂}
use Rattle.std.specs.List.{list_all}
use Rattle.std.proofs.lemmas.List.Folds.{list_all-append}
use Rattle.heuristics.specs.Places.{all_needed}
use Rattle.heuristics.specs.Rows.{row_of, wants_by}
use Rattle.heuristics.specs.ListedNeeds.{left_of}
use Rattle.heuristics.specs.Prospects.{outlook_by}
use Rattle.heuristics.specs.declared.wants.Want.{Want}
use Rattle.heuristics.proofs.ListedNeeds.{is_given_id, left_pass, listed_before, listed_more, listed_wants}
use Rattle.heuristics.proofs.chained.needed_before.Goals as goal

pub returns-clause-listed : goal.returns-clause-listed
returns-clause-listed c = λ goal atoms x n is chained given.
    let p = c.args.prospects.now in
    let needs = p.needs in
    let old = c.args.table.now.wants.items in
    let new = c.ids_of.new.self.wants.items in
    let node = c.args.node.now in
    let rest = c.args.rest.now in
    let own = c.in_ok-ids.ids.items in
    let left = c.in_ok-left.left.items in
    let wants_are : c.as_slice-wants.result.now ≡ new = c.as_slice-wants.ensures.value in
    let own_are : c.as_slice-2.result.now ≡ own = c.as_slice-2.ensures.value in
    let left_are : left ≡ left_of needs node.place.spot new own rest =
    c.in_ok-left.ensures ∙ ap₂ (λ (ws : List Want) (ids : List ℕ). left_of needs node.place.spot ws ids rest) wants_are own_are in
    listed_before p goal atoms new node x n own rest c.append.new.self.items is chained
    (λ test. ap (list_all test) c.in_ok-append.ensures.items ∙ list_all-append test own left ∙ ap (λ (l : List ℕ). list_all test own && list_all test l) left_are ∙ left_pass test (is_given_id needs node new) own rest)
    (listed_wants needs atoms new own node.wants.items (wants_by (row_of needs x)) c.in_ok-ids.ensures.ids
    (λ test. c.in_ok-ids.ensures.wants test ∙ ap (list_all test) c.as_slice.ensures.value) is.wants)
    (listed_more needs atoms old new rest (all_needed (outlook_by p) goal n) c.in_ok-ids.ensures.more given)
