-- A departure that has its cause is alone.
use Rattle.std.proofs.Common.{◌≡◌, ℕ, ◌<◌, ◌≤◌, Bool, true, false, List, [], ◌∷◌, ◌++◌, Option, Result, Ok, Err, refl, sym, ap, subst, ◌∙◌, arith}
use Rattle.std.specs.Prelude.{nat_lt, ◌==◌, if◌then◌else◌}
use Rattle.std.proofs.lemmas.Bool.{ltb-true, ltb-false}
use Rattle.rpc_base.specs.declared.identifiers.Order.{Order}
use Rattle.ndr_value.specs.Forms.{Form}
use Rattle.ndr_value.specs.Values.{Vals, Msg}
use Rattle.ndr_table.specs.Tables.{OpForm}
use Rattle.ndr_arrays.proofs.Steps.{ok_is}
use Rattle.ndr_model.specs.declared.departure.Departure.{Departure}
use Rattle.ndr_model.specs.declared.departure.Departure.TheVariants as departures
use Rattle.ndr_model.specs.declared.fault.NdrFault.{NdrFault}
use Rattle.ndr_model.specs.declared.fault.NdrFault.TheVariants.{Short, Bound, Tag, Pointer, Text, TooDeep, Trailing, Memory}
use Rattle.ndr_model.specs.declared.way.Way.{Way}
use Rattle.ndr_model.specs.declared.mark.Mark.{Mark}
use Rattle.ndr_model.specs.Places.{Last}
use Rattle.ndr_model.specs.Stub.{entries, start, IsRead}
use Rattle.ndr_model.specs.Named.{Call}
use Rattle.ndr_model.specs.Agree.{AgreeTogether}
use Rattle.ndr_model.specs.Compare.{place_of}
use Rattle.ndr_model.specs.Build.{read_values}
use Rattle.ndr_model.specs.Faults.{IsFault}
use Rattle.ndr_model.specs.Message.{IsStub, enough, message_of, read_stub}
use Rattle.ndr_laws.proofs.Stubs.{read_stands}
use Rattle.ndr_faults.specs.Amiss.{OneAmiss}
use Rattle.ndr_faults.specs.Asked.{Demand, IsMet, departure_of, MetBefore, IsLeast, AskTogether}
use Rattle.ndr_faults.specs.First.{IsOpOf}
use Rattle.ndr_faults.specs.Off.{Disagrees, Departs, is_read, is_compared, HasCause}
use Rattle.ndr_faults.proofs.Causes.{err_is, never}
use Rattle.ndr_faults.proofs.Departing.{departs}
use Rattle.stub_laws.specs.One.{one_at, asked_at}
use Rattle.stub_laws.proofs.Apart.{stand_apart, op_ranged}
use Rattle.stub_laws.proofs.Asked.{together_spend, together_one}
use Rattle.stub_laws.proofs.Entries.{amiss_is_read}
use Rattle.stub_laws.proofs.Again.{message_again, read_again}

-- ---- one number at an index

one_here : (i j : ℕ) → j ≡ i → one_at i j ≡ 1
unfolding one_at
one_here i j e = by (j == i) refl
  where
    by : (b : Bool) → (j == i) ≡ b → ◌≡◌ {A = ℕ} (if b then 1 else 0) 1
    by true f = refl
    by false f = absurd (grind (arith, e, f))

module _ (i : ℕ) where
  -- a number of that index
  abbrev IsHere : Demand → Type 0
  IsHere m = place_of (departure_of m) ≡ i

  among : (before : List Demand) (m : Demand) (behind : List Demand) → IsHere m → 1 ≤ asked_at i (before ++ m ∷ behind)
  among [] m behind e = let h = one_here i (place_of (departure_of m)) e in omega (arith, h)
  among (x ∷ xs) m behind e = let h = among xs m behind e in omega (arith, h)

  heads : (x y : Demand) (xs ys : List Demand) → x ∷ xs ≡ y ∷ ys → (x ≡ y) × (xs ≡ ys)
  heads x y xs ys e = (cc, cc)

  -- two of that index are the same
  alone : (b c : List Demand) (m n : Demand) (bs cs : List Demand) → b ++ m ∷ bs ≡ c ++ n ∷ cs → asked_at i (b ++ m ∷ bs) ≤ 1 → IsHere m → IsHere n → m ≡ n
  alone [] [] m n bs cs e le f g = (heads m n bs cs e).0
  alone [] (y ∷ ys) m n bs cs e le f g =
      let h = heads m y bs (ys ++ n ∷ cs) e in
      let k = ap (asked_at i) h.1 in
      let o = among ys n cs g in
      let p = one_here i (place_of (departure_of m)) f in
      absurd (omega (arith, le, k, o, p))
  alone (x ∷ xs) [] m n bs cs e le f g =
      let h = heads x n (xs ++ m ∷ bs) cs e in
      let o = among xs m bs f in
      let p = one_here i (place_of (departure_of x)) (ap (λ (z : Demand). place_of (departure_of z)) h.0 ∙ g) in
      absurd (omega (arith, le, o, p))
  alone (x ∷ xs) (y ∷ ys) m n bs cs e le f g = alone xs ys m n bs cs (heads x y (xs ++ m ∷ bs) (ys ++ n ∷ cs) e).1 (omega (arith, le)) f g

-- ---- the first that isn't met

met_before : (i : ℕ) (before : List Demand) (m : Demand) (behind : List Demand) → MetBefore i (before ++ m ∷ behind) → place_of (departure_of m) < i → IsMet m
met_before i [] m behind h lt = h.0 lt
met_before i (x ∷ xs) m behind h lt = met_before i xs m behind h.1 lt

not_before : (ds : List Demand) (d e : Departure) → IsLeast ds d → IsLeast ds e → place_of d ≤ place_of e
not_before ds d e x y = by (nat_lt (place_of e) (place_of d)) refl
  where
    by : (b : Bool) → nat_lt (place_of e) (place_of d) ≡ b → place_of d ≤ place_of e
    by true f =
        let lt = ltb-true _ _ f in
        let at = ap place_of y.is in
        absurd (y.unmet (met_before (place_of d) y.before y.demand y.behind (subst (MetBefore (place_of d)) y.among x.first) (omega (arith, lt, at))))
    by false f = ltb-false _ _ f

one_least : (ds : List Demand) (d e : Departure) → ((i : ℕ) → asked_at i ds ≤ 1) → IsLeast ds d → IsLeast ds e → d ≡ e
one_least ds d e once x y =
    let le = not_before ds d e x y in
    let ge = not_before ds e d y x in
    let here : place_of d ≡ place_of e = omega (arith, le, ge) in
    let i = place_of e in
    let same = alone i x.before y.before x.demand y.demand x.behind y.behind (sym x.among ∙ y.among) (subst (λ (z : List Demand). asked_at i z ≤ 1) x.among (once i)) (ap place_of x.is ∙ here) (ap place_of y.is) in
    sym x.is ∙ ap departure_of same ∙ y.is

-- ---- stubs

module _ (types : List Form) (op : OpForm) (way : Way) (order : Order) (asked : Option Msg) (octets : List ℕ) (o : IsOpOf types op) where
  abbrev call : Msg → Call
  call m = record { op = op; way = way; asked = asked; said = m }

  pub one_number : (m : Msg) (end : Last) (left : List Mark) (ds : List Demand) → IsRead types order octets (entries way op) m end
      → AskTogether types (call m) (entries way op) m.values end.marks left ds → (i : ℕ) → asked_at i ds ≤ 1
  one_number m end left ds r a i =
      let spent = together_spend types (call m) i a in
      let apart = stand_apart types order octets i (entries way op) m.values end (op_ranged o.is.ops way o.is.number op o.sound.ops_are o.is.is) r.follow in
      omega (arith, spent, apart)

  same_read : (m n : Msg) (p q : Last) → IsRead types order octets (entries way op) m p → IsRead types order octets (entries way op) n q → ◌≡◌ {A = Msg × Last} (m, p) (n, q)
  same_read m n p q r s =
      let x : ◌≡◌ {A = Vals × Last} (m.values, p) (n.values, q) = ok_is Departure (m.values, p) (n.values, q) (sym (read_again types order octets op way m p o.is r) ∙ read_again types order octets op way n q o.is s) in
      let y = ok_is Departure m n (sym (message_again types order octets (entries way op) m p r) ∙ ap (λ (z : Vals × Last). message_of z.0 z.1) x ∙ message_again types order octets (entries way op) n q s) in
      let f : Msg → Msg × Last = λ z. (z, p) in
      let g : Vals × Last → Msg × Last = λ z. (n, z.1) in
      ap f y ∙ ap g x

  not_read : (d : Departure) (m : Msg) (p : Last) → read_values types order octets enough (entries way op) ≡ Err d → IsRead types order octets (entries way op) m p → ⊥
  not_read d m p e r = never (m.values, p) d (sym (read_again types order octets op way m p o.is r) ∙ e)

  pub none_amiss : (m : Msg) (end : Last) (d : Departure) → IsRead types order octets (entries way op) m end → OneAmiss types order octets (entries way op) start d → ⊥
  none_amiss m end d r a = not_read d m end (amiss_is_read types op way order octets d o a) r

  one_disagrees : (d e : Departure) → Disagrees types op way order asked octets d → Disagrees types op way order asked octets e → d ≡ e
  one_disagrees d e x y =
      let same = same_read x.said y.said x.end y.end x.read y.read in
      let asks = subst (λ (z : Msg × Last). AskTogether types (call z.0) (entries way op) z.0.values z.1.marks x.left x.demands) same x.asks in
      let ds = together_one types (call y.said) asks y.asks in
      one_least y.demands d e (one_number y.said y.end y.left y.demands y.read y.asks) (subst (λ (z : List Demand). IsLeast z d) ds.1 x.least) y.least

  pub one_cause : (d e : Departure) → Departs types op way order asked octets d → Departs types op way order asked octets e → d ≡ e
  one_cause d e (is_read f first amiss) (is_read g second other) = err_is (Vals × Last) d e (sym f ∙ g)
  one_cause d e (is_read f first amiss) (is_compared y) = absurd (not_read d y.said y.end f y.read)
  one_cause d e (is_compared x) (is_read g second other) = absurd (not_read e x.said x.end g x.read)
  one_cause d e (is_compared x) (is_compared y) = one_disagrees d e x y

  pub no_cause : (m : Msg) (d : Departure) → IsStub types op way order asked m octets → Departs types op way order asked octets d → ⊥
  no_cause m d s (is_read f first amiss) = not_read d m s.end f s.read
  no_cause m d s (is_compared x) =
      let same = same_read m x.said s.end x.end s.read x.read in
      x.differ s.left (subst (λ (z : Msg × Last). AgreeTogether types (call z.0) (entries way op) z.0.values z.1.marks s.left) same s.agree)

  -- ---- what reading tells

  told : (d : Departure) → Departs types op way order asked octets d → read_stub types op way order asked octets ≡ Err d
  told d c = by (read_stub types op way order asked octets) refl
    where
      by : (r : Result Msg Departure) → read_stub types op way order asked octets ≡ r → r ≡ Err d
      by (Ok m) e = absurd (no_cause m d (read_stands types op way order asked octets m e) c)
      by (Err x) e = ap Err (one_cause x d (departs types op way order asked octets x o e) c)

  pub cause_is_told : (f : NdrFault) → HasCause types op way order asked octets f → IsFault f (read_stub types op way order asked octets)
  cause_is_told Memory c = tt
  cause_is_told (Short n) c = told (departures.Short n) c
  cause_is_told (Bound i) c = told (departures.Bound i) c
  cause_is_told (Tag i) c = told (departures.Tag i) c
  cause_is_told (Pointer i) c = told (departures.Pointer i) c
  cause_is_told (Text i) c = told (departures.Text i) c
  cause_is_told (TooDeep i) c = told (departures.TooDeep i) c
  cause_is_told (Trailing n) c = told (departures.Trailing n) c
