-- What departs in two ways is read in both, so they are one.
use Rattle.std.proofs.Common.{◌≡◌, ◌≢◌, ℕ, ◌+◌, List, length, drop, Ok, Err, refl, ap, sym, ◌∙◌, arith}
use Rattle.ndr_value.specs.Forms.{Form}
use Rattle.ndr_value.specs.Values.{Val}
use Rattle.value_text.specs.declared.departure.Departure.{Departure}
use Rattle.value_text.specs.declared.departure.TextFault.{TextFault}
use Rattle.value_text.specs.declared.departure.TextFault.TheVariants as faults
use Rattle.value_text.specs.Reading.{Found}
use Rattle.value_text.specs.Told.{fault_of}
use Rattle.value_text.specs.Causes.{TextDeparts, IsCaused}
use Rattle.value_text.proofs.Sound.{most_items}
use Rattle.value_laws.specs.Laws.{OneDeparture, NoDeparture, OneFault, NoFault}
use Rattle.value_laws.proofs.Leaves.{bad}
use Rattle.value_laws.proofs.Fronted.{fronted, stands_read}
use Rattle.value_laws.proofs.Ends.{departs}

err_is : (c d : Departure) → bad (Val × List ℕ) c ≡ bad (Val × List ℕ) d → c ≡ d
err_is c d e = cc

ok_or_err : (r : Found) (x : Val × List ℕ) (d : Departure) → r ≡ Ok x → r ≡ Err d → ⊥
ok_or_err r x d e f = cc

pub one_departure : OneDeparture
one_departure types heap other level s text d e x y =
    let a = departs types heap x in
    let b = departs types other y in
    let n = a.0 + b.0 in
    err_is d e (sym (a.1 n (omega arith)) ∙ b.1 n (omega arith))

pub no_departure : NoDeparture
no_departure types heap other level s text v rest d h x =
    let a = stands_read types heap level s text v rest h in
    let b = departs types other x in
    let n = a.0 + b.0 in
    ok_or_err (fronted types n level s text) (v, rest) d (a.1 n (omega arith)) (b.1 n (omega arith))

cause_of : (types : List Form) (s : Form) (text : List ℕ) (at : ℕ) (f : TextFault) → f ≢ faults.Memory → IsCaused types s text at f → (d : Departure) × TextDeparts types most_items 0 s (drop at text) d × (f ≡ fault_of (length text) d)
cause_of types s text at faults.Memory ne c = absurd (ne refl)
cause_of types s text at (faults.Syntax i) ne c = c
cause_of types s text at (faults.Kind i) ne c = c
cause_of types s text at (faults.Range i) ne c = c

pub one_fault : OneFault
one_fault types s text at f g ne me c k =
    let a = cause_of types s text at f ne c in
    let b = cause_of types s text at g me k in
    a.2 ∙ (ap (fault_of (length text)) (one_departure types most_items most_items 0 s (drop at text) a.0 b.0 a.1 b.1) ∙ sym b.2)

pub no_fault : NoFault
no_fault types heap s text at v end f st ne c =
    let a = cause_of types s text at f ne c in
    no_departure types heap most_items 0 s (drop at text) v st.0 a.0 st.1 a.1
