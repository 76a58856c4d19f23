use Rattle.std.proofs.Common.{◌≡◌, ◌∙◌, sym, ap, ℕ, Some}
use Rattle.ndr_value.specs.Forms.{Form, form}
use Rattle.ndr_pointers.specs.Known.{mets}
use Rattle.ndr_pointers.specs.declared.full.FullPointer.{FullPointer}
use Rattle.ndr_pointers.proofs.Indexes.{numbered, within, seen}
use Rattle.ndr_pointers.proofs.referents.Referents.find.Goals as goal

abbrev face : FullPointer → ℕ × Form
face m = (m.id, form m.shape.now)

pub returns-in-None-get : goal.returns-in-None-get
returns-in-None-get c =
    let x = numbered c.args.self.now.index (mets c.args.self.now.met.items) c.args.id c.in-Some.number.now c.args.self.now.indexed c.in-Some.ensures.value in
    absurd (within face c.args.self.now.met.items c.deref.result.now c.in-Some.number.now c.deref.ensures.value (c.args.id, x.0) c.in-None-get.ensures.lookup.0 x.2)

pub returns-in-Some-get : goal.returns-in-Some-get
returns-in-Some-get c =
    let x = numbered c.args.self.now.index (mets c.args.self.now.met.items) c.args.id c.in-Some.number.now c.args.self.now.indexed c.in-Some.ensures.value in
    let e : face c.in-Some-get.full.now ≡ (c.args.id, x.0) = seen face c.args.self.now.met.items c.deref.result.now c.in-Some.number.now c.deref.ensures.value c.in-Some-get.full.now (c.args.id, x.0) c.in-Some-get.ensures.lookup.0 c.in-Some-get.ensures.lookup.1 x.2 in
    ap (λ (y : ℕ × Form). Some (c.in-Some.number.now, y.1)) e ∙ sym x.1
