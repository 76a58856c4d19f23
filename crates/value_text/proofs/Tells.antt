-- What is told of a text, in terms of what stands there.
use Rattle.std.proofs.Common.{◌≡◌, ◌≢◌, ℕ, suc, ◌+◌, ◌≤◌, List, ◌++◌, length, drop, Result, Ok, Err, refl, ap, sym, subst, ◌∙◌, arith, length-drop, length-append}
use Rattle.std.specs.Prelude.{IfOk, IfErr}
use Rattle.ndr_value.specs.declared.value.Value.{Value}
use Rattle.ndr_value.specs.Forms.{Form}
use Rattle.ndr_value.specs.Values.{Val, val}
use Rattle.value_text.specs.declared.departure.Departure.{Departure}
use Rattle.value_text.specs.declared.departure.Departure.TheVariants as departures
use Rattle.value_text.specs.declared.departure.TextFault.{TextFault}
use Rattle.value_text.specs.declared.departure.TextFault.TheVariants as faults
use Rattle.value_text.specs.Texts.{value_text}
use Rattle.value_text.specs.Reading.{Found, read}
use Rattle.value_text.specs.Stands.{Stands}
use Rattle.value_text.specs.Told.{enough, Told, StandsAt, NoneStands, fault_of}
use Rattle.value_text.proofs.Sound.{found, ok_is, most_items}
use Rattle.value_text.proofs.Complete.{Outcome, reads, too_deep, complete, inside}

abbrev vpair : Val → List ℕ → Val × List ℕ
vpair v x = (v, x)

module _ (types : List Form) (heap level : ℕ) (s : Form) (t : List ℕ) where
  pub outcome : (v : Val) (rest : List ℕ) (h : Stands types heap level s t v rest) (n : ℕ) → Outcome (read types n level s t) (v, rest) n (suc (inside types heap h.typed))
  outcome v rest h n = subst (λ (u : List ℕ). Outcome (read types n level s u) (v, rest) n (suc (inside types heap h.typed))) (sym h.whole) (complete types heap h.typed rest h.sized h.ends n)

  departs_by : (v : Val) (rest : List ℕ) (d : Departure) (r : Found) (n e : ℕ) → Outcome r (v, rest) n e → r ≡ Err d → d ≡ departures.TooDeep
  departs_by v rest d r n e (reads h) f = absurd cc
  departs_by v rest d r n e (too_deep h lt) f = cc

  -- a text that departs has no value of the shape in front
  pub departs : (v : Val) (rest : List ℕ) (d : Departure) (n : ℕ) → Stands types heap level s t v rest → read types n level s t ≡ Err d → d ≡ departures.TooDeep
  departs v rest d n h e = departs_by v rest d (read types n level s t) n (suc (inside types heap h.typed)) (outcome v rest h n) e

  is_read : (v : Val) (rest : List ℕ) (r : Found) (n e : ℕ) → e ≤ n → Outcome r (v, rest) n e → r ≡ Ok (v, rest)
  is_read v rest r n e le (reads h) = h
  is_read v rest r n e le (too_deep h lt) = absurd (omega (arith, le, lt))

  same_pair : (r : Found) (v w : Val) (x y : List ℕ) → r ≡ Ok (v, x) → r ≡ Ok (w, y) → (v ≡ w) × (x ≡ y)
  same_pair r v w x y e f =
      let p = ok_is (vpair v x) (vpair w y) (sym e ∙ f) in
      (ap (λ (q : Val × List ℕ). q.0) p, ap (λ (q : Val × List ℕ). q.1) p)

  pub one_value : (v w : Val) (x y : List ℕ) → Stands types heap level s t v x → Stands types heap level s t w y → (v ≡ w) × (x ≡ y)
  one_value v w x y h k =
      let n = suc (inside types heap h.typed) + suc (inside types heap k.typed) in
      same_pair (read types n level s t) v w x y
      (is_read v x (read types n level s t) n (suc (inside types heap h.typed)) (omega arith) (outcome v x h n))
      (is_read w y (read types n level s t) n (suc (inside types heap k.typed)) (omega arith) (outcome w y k n))

-- ---- what is told

pub told_found : (types : List Form) (s : Form) (text : List ℕ) (at : ℕ) (r : Result (Value × ℕ) TextFault) → Told types s text at r → IfOk r (λ x. StandsAt types most_items s text at (val x.0) x.1)
told_found types s text at (Ok x) h =
    let S = found types enough 0 s (drop at text) (val x.0, h.0) h.1 in
    let a = length-drop at text in
    let b = length-append (value_text (val x.0)) h.0 in
    let c : length (drop at text) ≡ length (value_text (val x.0) ++ h.0) = ap length S.whole in
    (h.0, S, omega (arith, a, b, c, h.2))
told_found types s text at (Err e) h = tt

not_memory : (types : List Form) (s : Form) (text : List ℕ) (at : ℕ) (d : Departure) (fault : TextFault) → read types enough 0 s (drop at text) ≡ Err d → fault ≡ fault_of (length text) d → fault ≢ faults.Memory → NoneStands types s text at
not_memory types s text at d fault e f ne = λ heap v end st.
    let deep : d ≡ departures.TooDeep = departs types heap 0 s (drop at text) v st.0 d enough st.1 e in
    ne (f ∙ ap (fault_of (length text)) deep)

pub told_none : (types : List Form) (s : Form) (text : List ℕ) (at : ℕ) (r : Result (Value × ℕ) TextFault) → Told types s text at r → IfErr r (λ e. e ≢ faults.Memory → NoneStands types s text at)
told_none types s text at (Ok x) h = tt
told_none types s text at (Err faults.Memory) h = λ ne. absurd (ne refl)
told_none types s text at (Err (faults.Syntax i)) h = not_memory types s text at h.0 (faults.Syntax i) h.1 h.2
told_none types s text at (Err (faults.Kind i)) h = not_memory types s text at h.0 (faults.Kind i) h.1 h.2
told_none types s text at (Err (faults.Range i)) h = not_memory types s text at h.0 (faults.Range i) h.1 h.2
