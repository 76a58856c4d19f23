-- A request is refused with one status, or it is accepted with one row of slots.
use Rattle.std.proofs.Common.{◌≡◌, ◌≢◌, ℕ, suc, Bool, true, false, if◌then◌else◌, Option, Some, None, Ok, Err, List, [], ◌∷◌, map, length, filter, slice_get, refl, sym, ap, subst, ◌∙◌}
use Rattle.std.specs.List.{AllByRecursion}
use Rattle.rpc_base.specs.declared.identifiers.Order.{Order}
use Rattle.rpc_base.specs.declared.identifiers.Status.{Status}
use Rattle.handle_model.specs.declared.entry.Slot.{Slot}
use Rattle.handle_model.specs.declared.entry.Slot.TheVariants.{Shares, Holds, Changes, Opens}
use Rattle.handle_model.specs.Slots.{opens, with_serial}
use Rattle.handle_model.specs.History.{History}
use Rattle.handle_model.specs.Journal.{filled, next_serial}
use Rattle.handle_model.specs.Limits.{accept_limit}
use Rattle.ndr_value.specs.Values.{Msg}
use Rattle.ndr_table.specs.Tables.{OpForm, TableForm}
use Rattle.ndr_model.specs.declared.departure.Departure.{Departure}
use Rattle.ndr_model.specs.declared.way.Way.TheVariants.{Request}
use Rattle.ndr_model.specs.Message.{IsStub, read_stub}
use Rattle.ndr_laws.specs.Laws.{IsOp}
use Rattle.ndr_laws.proofs.Stubs.{one_stub, stub_found}
use Rattle.ndr_model.specs.Faults.{fault_of, status_of}
use Rattle.conn_histories.specs.Requests.{types_in, op_in, types_of, op_of, uses_of, slots_for, IsAsked, HasSlots, IsRefused, no_memory}
use Rattle.conn_histories.specs.Requests.IsRefused.{no_operation, no_stub, no_room, full}
use Rattle.replay_world.specs.Services.{IsWhole}
use Rattle.replay_world.proofs.Basics.{some_is, at_index}

-- ---- an operation of the interfaces

op_at : (found : Option TableForm) (op : ℕ) (o : OpForm) → ((t : TableForm) → found ≡ Some t → IsWhole t) → op_in found op ≡ Some o → IsOp (types_in found) o
op_at None op o whole e = absurd (cc e)
op_at (Some t) op o whole e =
    record { ops = t.ops; uses = t.uses; number = op; table = (whole t refl).0; shallow = (whole t refl).1; is = e }

pub is_op : (tables : List TableForm) (iface op : ℕ) (o : OpForm) → AllByRecursion IsWhole tables → op_of tables iface op ≡ Some o → IsOp (types_of tables iface) o
is_op tables iface op o whole e = op_at (slice_get tables iface) op o (λ t found. at_index IsWhole tables iface t whole found) e

module _ (tables : List TableForm) (whole : AllByRecursion IsWhole tables) (iface op : ℕ) (order : Order) (stub : List ℕ) where
  pub one_operation : (m n : Msg) (a : IsAsked tables iface op order stub m) (b : IsAsked tables iface op order stub n) → a.operation ≡ b.operation
  one_operation m n a b = some_is a.operation b.operation (sym a.found ∙ b.found)

  -- octets ask one message
  pub one_asked : (m n : Msg) (a : IsAsked tables iface op order stub m) (b : IsAsked tables iface op order stub n) → m ≡ n
  one_asked m n a b =
      one_stub (types_of tables iface) b.operation Request order None stub m n (is_op tables iface op b.operation whole b.found)
      (subst (λ (o : OpForm). IsStub (types_of tables iface) o Request order None m stub) (one_operation m n a b) a.decoded) b.decoded

  read_asked : (m : Msg) (a : IsAsked tables iface op order stub m) (o : OpForm) → op_of tables iface op ≡ Some o → read_stub (types_of tables iface) o Request order None stub ≡ Ok m
  read_asked m a o e =
      let same : a.operation ≡ o = some_is a.operation o (sym a.found ∙ e) in
      stub_found (types_of tables iface) o Request order None stub m (is_op tables iface op o whole e)
      (subst (λ (x : OpForm). IsStub (types_of tables iface) x Request order None m stub) same a.decoded)

  -- ---- slots

  -- two rows of slots are the same but for serials
  pub slots_alike : (a b : List Slot) → HasSlots tables iface op order stub a → HasSlots tables iface op order stub b → map (with_serial 0) a ≡ map (with_serial 0) b
  slots_alike a b h k =
      h.slots_are ∙ ap (λ (m : Msg). slots_for iface (uses_of tables iface op) m.wires) (one_asked h.message k.message h.asked k.asked) ∙ sym k.slots_are

  -- ---- refusals

  unread : (m : Msg) (o : OpForm) (d : Departure) → IsAsked tables iface op order stub m → op_of tables iface op ≡ Some o → read_stub (types_of tables iface) o Request order None stub ≡ Err d → ⊥
  unread m o d a e off = absurd (cc (read_asked m a o e, off))

  unknown : (o : OpForm) → op_of tables iface op ≡ None → op_of tables iface op ≡ Some o → ⊥
  unknown o e f = absurd (cc (e, f))

  -- but for want of memory, a request is refused with one status
  pub one_refusal : (Full Full' : List Slot → Type 0) (a b : Status) → IsRefused tables iface op order stub Full a → IsRefused tables iface op order stub Full' b
      → a ≢ no_memory → b ≢ no_memory → a ≡ b
  one_refusal F G a b (no_room o e is) k n m = absurd (n is)
  one_refusal F G a b (no_operation e is) (no_operation e' is') n m = is ∙ sym is'
  one_refusal F G a b (no_operation e is) (no_stub o d e' off is') n m = absurd (unknown o e e')
  one_refusal F G a b (no_operation e is) (no_room o e' is') n m = absurd (m is')
  one_refusal F G a b (no_operation e is) (full slots has limited is') n m = absurd (unknown has.asked.operation e has.asked.found)
  one_refusal F G a b (no_stub o d e off is) (no_operation e' is') n m = absurd (unknown o e' e)
  one_refusal F G a b (no_stub o d e off is) (no_stub o' d' e' off' is') n m =
      let same : o' ≡ o = some_is o' o (sym e' ∙ e) in
      let off'' : read_stub (types_of tables iface) o Request order None stub ≡ Err d' = subst (λ (x : OpForm). read_stub (types_of tables iface) x Request order None stub ≡ Err d') same off' in
      let one : d ≡ d' = cc (off, off'') in
      is ∙ ap (λ (x : Departure). status_of (fault_of x)) one ∙ sym is'
  one_refusal F G a b (no_stub o d e off is) (no_room o' e' is') n m = absurd (m is')
  one_refusal F G a b (no_stub o d e off is) (full slots has limited is') n m = absurd (unread has.message o d has.asked e off)
  one_refusal F G a b (full slots has limited is) (no_operation e' is') n m = absurd (unknown has.asked.operation e' has.asked.found)
  one_refusal F G a b (full slots has limited is) (no_stub o d e off is') n m = absurd (unread has.message o d has.asked e off)
  one_refusal F G a b (full slots has limited is) (no_room o' e' is') n m = absurd (m is')
  one_refusal F G a b (full slots has limited is) (full slots' has' limited' is') n m = is ∙ sym is'

  -- one that has slots is refused only where the group takes no call with them
  pub refused_full : (Full : List Slot → Type 0) (a : Status) (slots : List Slot) → IsRefused tables iface op order stub Full a → a ≢ no_memory → HasSlots tables iface op order stub slots
      → (other : List Slot) × HasSlots tables iface op order stub other × Full other
  refused_full F a slots (no_operation e is) n h = absurd (unknown h.asked.operation e h.asked.found)
  refused_full F a slots (no_stub o d e off is) n h = absurd (unread h.message o d h.asked e off)
  refused_full F a slots (no_room o e is) n h = absurd (n is)
  refused_full F a slots (full other has limited is) n h = (other, has, limited)

-- ---- serials

next_alike : (n : ℕ) (s : Slot) → next_serial n (with_serial 0 s) ≡ next_serial n s
next_alike n (Shares kind wire) = refl
next_alike n (Holds kind wire) = refl
next_alike n (Changes kind wire) = refl
next_alike n (Opens kind serial) = refl

with_alike : (n : ℕ) (s : Slot) → with_serial n (with_serial 0 s) ≡ with_serial n s
with_alike n (Shares kind wire) = refl
with_alike n (Holds kind wire) = refl
with_alike n (Changes kind wire) = refl
with_alike n (Opens kind serial) = refl

filled_alike : (n : ℕ) (slots : List Slot) → filled n (map (with_serial 0) slots) ≡ filled n slots
filled_alike n [] = refl
filled_alike n (s ∷ later) =
    let next = next_alike n s in
    let first : with_serial (next_serial n (with_serial 0 s)) (with_serial 0 s) ≡ with_serial (next_serial n s) s =
    ap (λ (x : ℕ). with_serial x (with_serial 0 s)) next ∙ with_alike (next_serial n s) s in
    let rest : filled (next_serial n (with_serial 0 s)) (map (with_serial 0) later) ≡ filled (next_serial n s) later =
    ap (λ (x : ℕ). filled x (map (with_serial 0) later)) next ∙ filled_alike (next_serial n s) later in
    λ i. first i ∷ rest i

opens_alike : (s : Slot) → opens (with_serial 0 s) ≡ opens s
opens_alike (Shares kind wire) = refl
opens_alike (Holds kind wire) = refl
opens_alike (Changes kind wire) = refl
opens_alike (Opens kind serial) = refl

abbrev counted : Bool → ℕ → ℕ
counted b n = if b then suc n else n

count_by : (b : Bool) (s : Slot) (slots : List Slot) → b ≡ opens s → length (if b then s ∷ slots else slots) ≡ counted b (length slots)
count_by true s slots e = refl
count_by false s slots e = refl

count_alike : (slots : List Slot) → length (filter opens (map (with_serial 0) slots)) ≡ length (filter opens slots)
count_alike [] = refl
count_alike (s ∷ later) =
    count_by (opens (with_serial 0 s)) (with_serial 0 s) (filter opens (map (with_serial 0) later)) refl
    ∙ (λ i. counted (opens_alike s i) (count_alike later i)) ∙ sym (count_by (opens s) s (filter opens later) refl)

-- slots that are the same but for serials get the same ones, and are taken alike
pub same_filled : (n : ℕ) (a b : List Slot) → map (with_serial 0) a ≡ map (with_serial 0) b → filled n a ≡ filled n b
same_filled n a b e = sym (filled_alike n a) ∙ ap (filled n) e ∙ filled_alike n b

pub same_limit : (j : History) (a b : List Slot) → map (with_serial 0) a ≡ map (with_serial 0) b → accept_limit j a ≡ accept_limit j b
same_limit j a b e =
    let count : length (filter opens a) ≡ length (filter opens b) = sym (count_alike a) ∙ ap (λ (x : List Slot). length (filter opens x)) e ∙ count_alike b in
    rw count refl
