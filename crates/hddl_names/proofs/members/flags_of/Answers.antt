use Rattle.std.proofs.Common.{◌≡◌, ◌+◌, ◌∙◌, Bool, List, ℕ, true, false, ap, refl, sym, subst, arith, get_or, length, nat_eq, replicate, take}
use Rattle.std.specs.List.{list_any}
use Rattle.std.proofs.lemmas.List.{get_or-replicate, length-replicate, length-set, take_all}
use Rattle.hddl_names.proofs.Ascending.{flag-more, flag-past}
use Rattle.hddl_names.proofs.members.flags_of.Goals.{then-number-len, else-number-len}
use Rattle.hddl_names.proofs.members.flags_of.Goals as goal

pub loop-number-init : goal.loop-number-init
loop-number-init c =
    let all : c.in_ok-flags.flags.items ≡ replicate c.args.count false = c.in_ok-flags.ensures.items_if_clones_equal (λ y h. h) in (
      ap length all ∙ length-replicate c.args.count false,
      λ k low. ap (λ (l : List Bool). get_or l k false) all ∙ get_or-replicate c.args.count k false false low,
    )

pub loop-number-preserved : goal.loop-number-preserved
loop-number-preserved c =
    let index = c.loop-number.number-index in
    let n = get_or c.args.numbers.now index 0 in
    let before = c.loop-number.invariant in
    let long = before.0 in
    let len = c.len.ensures in
    elim c.if-number-len.branch [
      | then-number-len w ↦
          let fits = w.if-number-len.true in (
            ap (λ v. length v.items) w.flags-is ∙ length-set c.loop-number.flags.items n true ∙ long,
            λ k low. subst (λ v. get_or v.items k false ≡ list_any (nat_eq k) (take (index + 1) c.args.numbers.now)) (sym w.flags-is)
                (flag-more c.args.count c.loop-number.flags.items c.args.numbers.now index n c.loop-number-test.true refl long (omega (arith, fits, len, long)) before.1 k low),
          )
      | else-number-len w ↦
          let past = w.if-number-len.false in (
            ap (λ v. length v.items) w.flags-is ∙ long,
            λ k low. subst (λ v. get_or v.items k false ≡ list_any (nat_eq k) (take (index + 1) c.args.numbers.now)) (sym w.flags-is)
                (flag-past c.args.count c.loop-number.flags.items c.args.numbers.now index n c.loop-number-test.true refl (omega (arith, past, len, long)) before.1 k low),
          )
    ]

pub returns : goal.returns
returns c =
    λ k low. c.loop-number.invariant.1 k low
    ∙ ap (λ (l : List ℕ). list_any (nat_eq k) l) (take_all c.loop-number.number-index c.args.numbers.now c.loop-number-test.false)
