use Rattle.std.proofs.Common.{◌≡◌, ◌∙◌, ◌++◌, ◌∷◌, [], None, ap, arith}
use Rattle.indexmap.proofs.CallerLemmas.{insert_entry-new}
use Rattle.hddl_meaning.specs.Names.{is_same_text}
use Rattle.hddl_scope.specs.Numbers.{number_at, entries_of, numbered}
use Rattle.hddl_scope.specs.declared.numbers.Numbered.{Numbered}
use Rattle.hddl_scope.proofs.Entries.{absent_after, added_first, added_later, number_at-entries}
use Rattle.hddl_scope.proofs.numbers.Numbers.add.Goals as goal

pub returns-then-len-self-clause-ok : goal.returns-then-len-self-clause-ok
returns-then-len-self-clause-ok c =
    let few = c.self.inside.few.items in
    let rest = c.self.inside.rest.entries in
    let added : Numbered = record { text = c.in_ok-text.text; number = c.args.number } in
    let text : c.in_ok-text.text.items ≡ c.args.text.now = c.in_ok-text.ensures.ok in
    ap (λ ns. numbered ns ++ entries_of rest) c.in_ok-push.ensures.items
    ∙ added_first few rest added (c.self.invariant.2 (omega (arith, c.len.ensures, c.self.inside.few.ok.0, c.if-len-self.true)))
    ∙ (λ i. c.self.view_is i ++ (text i, c.args.number) ∷ [])

pub returns-clause-ok : goal.returns-clause-ok
returns-clause-ok c =
    let few = numbered c.self.inside.few.items in
    let rest = c.self.inside.rest.entries in
    let key = c.in_ok-key.key in
    let text : key.items ≡ c.args.text.now = c.in_ok-key.ensures.items in
    let none : number_at (entries_of rest) key.items ≡ None =
    ap (number_at (entries_of rest)) text ∙ absent_after few (entries_of rest) c.args.text.now (ap (λ es. number_at es c.args.text.now) c.self.view_is ∙ c.requires) in
    let absent = number_at-entries rest key.items ∙ none in
    ap (λ es. few ++ entries_of es) (c.in_ok-insert.ensures.entries ∙ insert_entry-new (λ a b. is_same_text a.items b.items) c.self.inside.rest key c.args.number absent)
    ∙ added_later few rest key c.args.number
    ∙ (λ i. c.self.view_is i ++ (text i, c.args.number) ∷ [])
