use Rattle.std.proofs.Common.{IfOk, subst, sym}
use Rattle.std.specs.List.{All}
use Rattle.std.specs.declared.alloc.Global.{Global}
use Rattle.std.specs.declared.vec.Vec.{Vec}
use Rattle.std.proofs.lemmas.List.Elements.{All-weaker}
use Rattle.std.proofs.lemmas.Result.{IfOk-weaker}
use Rattle.diagnostics.specs.declared.diagnostic.Note.{Note}
use Rattle.hddl_meaning.specs.declared.fault.CheckFault.{CheckFault}
use Rattle.hddl_meaning.specs.declared.fault.CheckFault.TheVariants as fault
use Rattle.diagnostics.specs.Offers.{offered}
use Rattle.pair_messages.specs.declared.firsts.Sort.TheVariants as sort
use Rattle.pair_messages.specs.Firsts.{IsFirstNote, IsNoteAt}
use Rattle.pair_messages.specs.Notes.{AreNotes, IsNote, IsTwin}
use Rattle.pair_messages.proofs.Cycles.{no_notes}
use Rattle.pair_messages.proofs.places.notes_of.Goals as goal

pub returns-in-Duplicate : goal.returns-in-Duplicate
returns-in-Duplicate c =
    let t = c.args.index.now.texts.now in
    let r = c.args.remarks.now in
    let P = IsNoteAt t (IsTwin t c.in-Duplicate.at) in
    let Q = IsNote t (fault.Duplicate c.in-Duplicate.at) r in
    subst (λ (f : CheckFault). IfOk c.twin_notes.result (λ (notes : Vec Note Global). AreNotes t f r notes.items)) (sym c.in-Duplicate.is)
    (IfOk-weaker c.twin_notes.result (λ (notes : Vec Note Global). All P notes.items) (λ (notes : Vec Note Global). All Q notes.items) (λ notes h. All-weaker P Q (λ n h. h) notes.items h) c.twin_notes.ensures)

pub returns-in-UnknownType : goal.returns-in-UnknownType
returns-in-UnknownType c =
    let t = c.args.index.now.texts.now in
    let r = c.args.remarks.now in
    let P = IsFirstNote t sort.Type (offered r) in
    let Q = IsNote t (fault.UnknownType c.in-UnknownType.field-0) r in
    subst (λ (f : CheckFault). IfOk c.offered_notes.result (λ (notes : Vec Note Global). AreNotes t f r notes.items)) (sym c.in-UnknownType.is)
    (IfOk-weaker c.offered_notes.result (λ (notes : Vec Note Global). All P notes.items) (λ (notes : Vec Note Global). All Q notes.items) (λ notes h. All-weaker P Q (λ n h. h) notes.items h) c.offered_notes.ensures)

pub returns-in-OrderCycle : goal.returns-in-OrderCycle
returns-in-OrderCycle c =
    subst (λ (f : CheckFault). IfOk c.cycle_notes.result (λ (notes : Vec Note Global). AreNotes c.args.index.now.texts.now f c.args.remarks.now notes.items)) (sym c.in-OrderCycle.is) c.cycle_notes.ensures

pub returns-in-UnknownName : goal.returns-in-UnknownName
returns-in-UnknownName c =
    subst (λ (f : CheckFault). IfOk c.unknown_notes.result (λ (notes : Vec Note Global). AreNotes c.args.index.now.texts.now f c.args.remarks.now notes.items)) (sym c.in-UnknownName.is) c.unknown_notes.ensures

pub returns-in-Arity : goal.returns-in-Arity
returns-in-Arity c =
    subst (λ (f : CheckFault). IfOk c.arity_notes.result (λ (notes : Vec Note Global). AreNotes c.args.index.now.texts.now f c.args.remarks.now notes.items)) (sym c.in-Arity.is) c.arity_notes.ensures

pub returns-in-TypeClash : goal.returns-in-TypeClash
returns-in-TypeClash c =
    subst (λ (f : CheckFault). IfOk c.argument_notes.result (λ (notes : Vec Note Global). AreNotes c.args.index.now.texts.now f c.args.remarks.now notes.items)) (sym c.in-TypeClash.is) c.argument_notes.ensures

pub returns-in_default : goal.returns-in_default
returns-in_default c =
    subst (AreNotes c.args.index.now.texts.now c.args.fault c.args.remarks.now) (sym c.new.ensures.items) (no_notes c.args.index.now.texts.now c.args.fault c.args.remarks.now)
