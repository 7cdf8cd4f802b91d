use Rattle.std.proofs.Common.{◌≡◌, ◌∙◌, false, is_some, ap, sym}
use Rattle.indexmap.proofs.CallerLemmas.{insert_entry-new}
use Rattle.std.specs.Str.{bytes_eq}
use Rattle.htn_task.specs.Numbers.{entries_of, entry_of, with_number}
use Rattle.htn_task.proofs.Numbering.{entry_of-entries, entries_of-added, with_number-old, with_number-new, none_from}
use Rattle.htn_task.proofs.numbers.NameNumbers.add.Goals as goal

pub returns-then-contains_key : goal.returns-then-contains_key
returns-then-contains_key c =
    with_number-old c.args.self.now c.args.name.now c.args.number
    (ap is_some (ap (λ es. entry_of es c.args.name.now) (sym c.self.view_is) ∙ sym (entry_of-entries c.self.inside.entries.entries c.args.name.now))
    ∙ sym c.contains_key.ensures ∙ c.if-contains_key.true)

pub returns : goal.returns
returns c =
    let es = c.self.inside.entries.entries in
    let name = c.args.name.now in
    let k = c.in_ok-name.name in
    let found : is_some (entry_of (entries_of es) name) ≡ false = ap is_some (sym (entry_of-entries es name)) ∙ sym c.contains_key.ensures ∙ c.if-contains_key.false in
    let absent = entry_of-entries es k.items ∙ ap (entry_of (entries_of es)) c.in_ok-name.ensures.items ∙ none_from (entry_of (entries_of es) name) found in
    ap entries_of (c.in_ok-insert.ensures.entries ∙ insert_entry-new (λ a b. bytes_eq a.items b.items) c.self.inside.entries k c.args.number absent)
    ∙ entries_of-added es k c.args.number name c.in_ok-name.ensures.items
    ∙ with_number-new (entries_of es) name c.args.number found
    ∙ ap (λ es. with_number es name c.args.number) c.self.view_is
