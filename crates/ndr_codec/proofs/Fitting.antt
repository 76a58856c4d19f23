-- From what is decoded of octets to which messages are of an operation.
use Rattle.std.proofs.Common.{◌≡◌, ℕ, ◌≤◌, ◌^◌, List, length, Bool, true, false, Option, Some, Result, Ok, Err, refl, sym, subst, ◌∙◌}
use Rattle.std.specs.Prelude.{◌↔◌, IsTrue, IfOk, slice_get}
use Rattle.std.proofs.lemmas.Bool.{false≢true}
use Rattle.rpc_base.specs.declared.identifiers.Order.{Order}
use Rattle.rpc_base.specs.declared.fault.NoMemory.{NoMemory}
use Rattle.rpc_base.specs.Fields.{IsOctets}
use Rattle.ndr_value.specs.Forms.{Form}
use Rattle.ndr_value.specs.Values.{Msg}
use Rattle.ndr_table.specs.Tables.{OpForm}
use Rattle.ndr_arrays.proofs.Steps.{ok_is}
use Rattle.ndr_model.specs.declared.departure.Departure.{Departure}
use Rattle.ndr_model.specs.declared.way.Way.{Way}
use Rattle.ndr_model.specs.Message.{IsStub, read_stub}
use Rattle.ndr_laws.specs.Laws.{IsOp}
use Rattle.ndr_laws.proofs.Stubs.{read_stands, stub_found}
use Rattle.ndr_laws.specs.WrittenLaws.{HasIds}
use Rattle.ndr_model.specs.Written.{stub}
use Rattle.ndr_model.specs.Fits.{IsOfOp}
pub use Rattle.ndr_laws.proofs.WrittenStubs.{stub_suits, written_stub}
use Rattle.ndr_model.specs.declared.fault.NdrFault.{NdrFault}
use Rattle.ndr_model.specs.declared.fault.NdrFault.TheVariants.{Memory}
use Rattle.ndr_model.specs.Faults.{IsFault}
use Rattle.ndr_codec.proofs.Decoding.{no_fault}

-- what holds, and what doesn't
pub yes : (P : Type 0) → P → IsTrue true ↔ P
yes P p = (λ _. p, λ _. refl)

pub no : (P : Type 0) → (P → ⊥) → IsTrue false ↔ P
no P not = (λ t. absurd (false≢true t), λ p. absurd (not p))

module _ (types : List Form) (op : OpForm) (way : Way) (order : Order) (asked : Option Msg) (octets : List ℕ) where
  -- octets that are read as a message are a stub of what is the same
  pub same_told : (x m : Msg) (b : Bool) → read_stub types op way order asked octets ≡ Ok x → (IsTrue b ↔ (x ≡ m)) → IsOp types op → IsTrue b ↔ IsStub types op way order asked m octets
  same_told x m b e told o = (
    λ t. subst (λ (y : Msg). IsStub types op way order asked y octets) (told.0 t) (read_stands types op way order asked octets x e),
    λ s. told.1 (ok_is Departure x m (sym e ∙ stub_found types op way order asked octets m o s)),
  )

  -- octets that depart are a stub of none
  pub none_told : (f : NdrFault) (m : Msg) → (f ≡ Memory → ⊥) → IsFault f (read_stub types op way order asked octets) → IsOp types op → IsTrue false ↔ IsStub types op way order asked m octets
  none_told f m other d o = no (IsStub types op way order asked m octets) (λ s. other (no_fault types op way order asked octets f m (stub_found types op way order asked octets m o s) d))

  pub unread_told : (r : Result Bool NoMemory) (f : NdrFault) (m : Msg) → IfOk r (λ b. (b ≡ false) × (f ≡ Memory → ⊥)) → IsFault f (read_stub types op way order asked octets)
      → IfOk r (λ b. IsOp types op → IsTrue b ↔ IsStub types op way order asked m octets)
  unread_told (Ok b) f m h d = λ o. subst (λ (x : Bool). IsTrue x ↔ IsStub types op way order asked m octets) (sym h.0) (none_told f m h.1 d o)
  unread_told (Err e) f m h d = tt

module _ (types : List Form) (op : OpForm) (way : Way) (order : Order) (asked : Option Msg) (m : Msg) where
  abbrev canonical : List ℕ
  canonical = stub types op way order asked m

  -- with ids enough, a message that hasn't its canonical octets as a stub is of another operation
  pub no_told : (octets : List ℕ) (b : Bool) → octets ≡ canonical → b ≡ false → (IsOp types op → IsTrue b ↔ IsStub types op way order asked m octets) → length octets ≤ 2 ^ 31
      → IsOp types op → IsTrue false ↔ IsOfOp types op way asked m
  no_told octets b is b_is told short o =
      let f : HasIds canonical = subst (λ (xs : List ℕ). length xs ≤ 2 ^ 31) is short in
      no (IsOfOp types op way asked m)
      (λ p. false≢true (sym b_is ∙ (told o).1 (subst (λ (xs : List ℕ). IsStub types op way order asked m xs) (sym is) (written_stub types op way order asked m o p f))))

-- of an operation of a table
module _ (types : List Form) (ops : List OpForm) (n : ℕ) (are : (o : OpForm) → slice_get ops n ≡ Some o → IsOp types o) where
  pub with_op : (r : Result Bool NoMemory) (P : OpForm → Type 0)
      → IfOk r (λ b. (o : OpForm) → slice_get ops n ≡ Some o → IsOp types o → IsTrue b ↔ P o) → IfOk r (λ b. (o : OpForm) → slice_get ops n ≡ Some o → IsTrue b ↔ P o)
  with_op (Ok b) P h = λ o is. h o is (are o is)
  with_op (Err e) P h = tt

  pub any_stub : (r : Result Bool NoMemory) (way : Way) (asked : Option Msg) (m : Msg)
      → IfOk r (λ b. (o : OpForm) → slice_get ops n ≡ Some o → IsOp types o → IsTrue b ↔ IsOfOp types o way asked m)
      → IfOk r (λ b. (o : OpForm) (order : Order) (octets : List ℕ) → slice_get ops n ≡ Some o → IsOctets octets → IsStub types o way order asked m octets → IsTrue b)
  any_stub (Ok b) way asked m h = λ o order octets is fit s. (h o is (are o is)).1 (stub_suits types o way order asked octets m fit s)
  any_stub (Err e) way asked m h = tt
