use Rattle.std.proofs.Common.{◌≡◌, ◌++◌, List, length, map, All, ap, sym, subst, ◌∙◌, arith, length-append}
use Rattle.std.proofs.lemmas.List.{length-map, map-append}
use Rattle.indexmap.specs.IndexSet.{insert_all}
use Rattle.workers.specs.Shards.{AreNew}
use Rattle.word_machine.specs.declared.closed.Origin.{Origin}
use Rattle.word_machine.specs.Contents.{Contents, IsForest, IsOriginWithin, fitting, offer_all, origin_of, picked}
use Rattle.word_machine.proofs.Keeping.{as_many_more, forest_more, kept_all, picked-All}
use Rattle.word_machine.proofs.closed.Closed.keep_all.Goals as goal

pub returns-clause-ok : goal.returns-clause-ok
returns-clause-ok g c =
    let eq = g.C.PartialEq.eq in
    let links = c.args.batch.now.links.items in
    let configurations = c.args.batch.now.configurations.items in
    let marks = c.in_ok-is_new.is_new.items in
    let before : Contents g.row.C.Denot = record {
      keys = c.self.inside.configurations;
      origins = map origin_of c.self.inside.links.items;
      cut = record { any = c.self.inside.was_cut; past = c.self.inside.least_past };
    } in
    let pushed : c.push_links.new.links.items ≡ c.self.inside.links.items ++ picked links marks =
    c.push_links.ensures ∙ ap (λ l. l ++ picked c.deref-2.result.now c.deref-3.result.now) c.in_ok-reserve.ensures.items
    ∙ ap (λ l. c.self.inside.links.items ++ picked l c.deref-3.result.now) c.deref-2.ensures.value
    ∙ ap (λ m. c.self.inside.links.items ++ picked links m) c.deref-3.ensures.value in
    let keys : c.insert_all.new.self ≡ insert_all eq c.self.inside.configurations configurations =
    c.in_ok-is_new.ensures.ok ∙ ap (insert_all eq c.self.inside.configurations) c.deref.ensures.value in
    let new : AreNew eq c.self.inside.configurations configurations marks =
    subst (λ l. AreNew eq c.self.inside.configurations l marks) c.deref.ensures.value c.in_ok-is_new.ensures.new in
    ap (λ k. record { keys = k; origins = map origin_of c.push_links.new.links.items; cut = before.cut }) keys
    ∙ ap (λ o. record { keys = insert_all eq c.self.inside.configurations configurations; origins = o; cut = before.cut })
    (ap (map origin_of) pushed ∙ map-append origin_of c.self.inside.links.items (picked links marks))
    ∙ sym (kept_all eq before links configurations marks c.requires.long new)
    ∙ ap (λ n. offer_all eq (λ x. 0) 0 n (fitting links configurations)) c.self.view_is

pub invariant_of-self-2 : goal.invariant_of-self-2
invariant_of-self-2 g c =
    let eq = g.C.PartialEq.eq in
    let links = c.args.batch.now.links.items in
    let configurations = c.args.batch.now.configurations.items in
    let marks = c.in_ok-is_new.is_new.items in
    let old = c.self.inside.links.items in
    let origins : List Origin = map origin_of old in
    let pushed : c.push_links.new.links.items ≡ old ++ picked links marks =
    c.push_links.ensures ∙ ap (λ l. l ++ picked c.deref-2.result.now c.deref-3.result.now) c.in_ok-reserve.ensures.items
    ∙ ap (λ l. old ++ picked l c.deref-3.result.now) c.deref-2.ensures.value
    ∙ ap (λ m. old ++ picked links m) c.deref-3.ensures.value in
    let keys : c.insert_all.new.self ≡ insert_all eq c.self.inside.configurations configurations =
    c.in_ok-is_new.ensures.ok ∙ ap (insert_all eq c.self.inside.configurations) c.deref.ensures.value in
    let new : AreNew eq c.self.inside.configurations configurations marks =
    subst (λ l. AreNew eq c.self.inside.configurations l marks) c.deref.ensures.value c.in_ok-is_new.ensures.new in
    let before : length old ≡ length c.self.inside.configurations = c.self.invariant.as_many in
    let more = as_many_more eq c.self.inside.configurations links configurations marks c.requires.long new in
    let long = ap length pushed ∙ length-append old (picked links marks) in
    let all = ap length keys in
    let same : length c.args.self.now.keys ≡ length origins = sym (ap (λ (n : Contents g.row.C.Denot). length n.keys) c.self.view_is) ∙ sym before ∙ sym (length-map old origin_of) in
    let within : All (λ l. IsOriginWithin (length origins) (origin_of l)) links =
    subst (λ n. All (λ l. IsOriginWithin n (origin_of l)) links) same c.requires.within in
    record {
      as_many = omega (arith, before, more, long, all);
      forest = subst IsForest (sym (ap (map origin_of) pushed ∙ map-append origin_of old (picked links marks)))
          (forest_more origins (picked links marks) c.self.invariant.forest (picked-All (λ l. IsOriginWithin (length origins) (origin_of l)) links marks within));
    }
