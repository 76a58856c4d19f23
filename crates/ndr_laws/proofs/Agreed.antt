-- Where counts, tags and numbers with ranges agree, the comparison finds nothing.
use Rattle.std.proofs.Common.{◌≡◌, ℕ, zero, suc, ◌+◌, ◌*◌, ◌≤◌, ℤ, Bool, true, false, List, ◌∷◌, Option, Some, None, refl, sym, ap, ◌∙◌, arith, suc-mul}
use Rattle.std.specs.Prelude.{int_le, ◌&&◌, ◌≤ℤ◌, if◌then◌else◌}
use Rattle.std.specs.Ordering.{int_eq}
use Rattle.ndr_value.specs.declared.shape.Count.{Count}
use Rattle.ndr_value.specs.declared.shape.ArrayKind.{ArrayKind}
use Rattle.ndr_value.specs.Forms.{Form, OfBool, OfByte, OfChar, OfInt, OfUint, OfEnum, OfUnion, OfText, OfHandle, Forms, Body}
use Rattle.ndr_value.specs.Fits.{arm_of}
use Rattle.ndr_value.specs.Values.{Val, Vals, then_val}
use Rattle.ndr_table.specs.declared.operation.Bounds.{Bounds}
use Rattle.ndr_model.specs.declared.departure.Departure.{Departure}
use Rattle.ndr_model.specs.declared.departure.Departure.TheVariants.{Bound, Tag}
use Rattle.ndr_model.specs.declared.mark.Mark.{Mark}
use Rattle.ndr_model.specs.declared.mark.Mark.TheVariants.{Number}
use Rattle.ndr_model.specs.Stub.{Entry}
use Rattle.ndr_model.specs.Named.{Call, named}
use Rattle.ndr_model.specs.Agree.{Stood, is_plain, IsTied, Fronts, fronts_greater, fronts, fronts_none, AgreesMost, most_in_front, most_here, AgreesCounts, agrees_fixed, agrees_varying, agrees_conformant, agrees_both, Agrees, plainly, by_name, by_members, by_empty_arm, by_arm, by_array, by_ref, by_null, by_pointer, by_null_full, by_new, by_repeat, AgreesEach, no_member_left, member_then, AgreesAll, all_plainly, no_element_left, element_then, AgreesRange, no_range, in_range, AgreeTogether, no_entry_left, entry_then}
use Rattle.ndr_model.specs.Compare.{Check, judged, equals, count_off, count_in, most_in, compare_counts, tied_off, compare_tag, front_in, fronted, Compared, compare_each, compare_all, compare_elements, compare_arm, compare_referent, compare_type, compare_at, compare, range_off, compare_range, compare_entries}
use Rattle.ndr_laws.proofs.Grounded.{EachForm, Shallow, Targets, EachTarget, Grounded, EachEntry, each_arm, type_has, arm_has}

and_so : (a b : Bool) → a ≡ true → b ≡ true → (a && b) ≡ true
and_so a b e f = ap (λ x. x && b) e ∙ f

le_so : (a b : ℤ) → a ≤ℤ b → int_le a b ≡ true
le_so a b e = grind (arith)

same_both : (b : Bool) (c : Check) → (if b then c else c) ≡ c
same_both true c = refl
same_both false c = refl

-- nothing was found, and those marks are left
abbrev pub clean : List Mark → Check
clean ms = record { off = None; left = ms }

none_if : (b : Bool) (d : Departure) → b ≡ true → (if b then None else Some d) ≡ None
none_if b d e = ap (λ (c : Bool). if c then None else Some d) e

int_self : (z : ℤ) → int_eq z z ≡ true
int_self z = grind (arith)

equal_so : (want : Option ℤ) (z : ℤ) → want ≡ Some z → equals want z ≡ true
equal_so want z e = ap (λ (o : Option ℤ). equals o z) e ∙ int_self z

count_clean : (want : Option ℤ) (m : Stood) (ms : List Mark) → want ≡ Some m.1 → judged (clean ms) (count_off want m) ms ≡ clean ms
count_clean want m ms e = ap (λ (d : Option Departure). record { off = d; left = ms }) (none_if (equals want m.1) (Bound m.0) (equal_so want m.1 e))

here_clean : (want : Option ℤ) (i : ℕ) (z : ℤ) (ms : List Mark) → want ≡ Some z → count_in want (Number i z ∷ ms) (clean (Number i z ∷ ms)) ≡ clean ms
here_clean want i z ms e = ap (λ (d : Option Departure). record { off = d; left = ms }) (none_if (equals want z) (Bound i) (equal_so want z e))

module _ (types : List Form) (call : Call) where
  most_clean : {body : Vals} {d : Count} {moved : Option Stood} {ms ms' : List Mark} → AgreesMost call body d moved ms ms' → most_in (named call body d) moved (clean ms) ≡ clean ms'
  most_clean {body} {d} (most_in_front {m = m} {ms = ms} e) = count_clean (named call body d) m ms e
  most_clean {body} {d} (most_here {i = i} {z = z} {ms = ms} e) = here_clean (named call body d) i z ms e

  counts_clean : {body : Vals} {moved : Option Stood} {kind : ArrayKind} {ms ms' : List Mark} → AgreesCounts call body moved kind ms ms' → compare_counts call body moved kind (clean ms) ≡ clean ms'
  counts_clean agrees_fixed = refl
  counts_clean {body} (agrees_varying {i = i} {c = d} {z = z} {ms = ms} e) = here_clean (named call body d) i z ms e
  counts_clean (agrees_conformant most) = most_clean most
  counts_clean {body} {moved} (agrees_both {i = i} {c = d} {d = f} {z = z} {ms = ms} {ms' = ms'} most e) =
      ap (λ (c : Check). count_in (named call body f) c.left c) (most_clean most) ∙ here_clean (named call body f) i z ms' e

  tied_clean : (body : Vals) (link : Option Count) (tag : ℤ) (i : ℕ) → IsTied call body link tag → tied_off call body link (i, tag) ≡ None
  tied_clean body None tag i e = refl
  tied_clean body (Some k) tag i e = none_if (equals (named call body k) tag) (Tag i) (equal_so (named call body k) tag e)

  tag_clean : (body : Vals) (link : Option Count) (tag z : ℤ) (i : ℕ) (ms : List Mark) → IsTied call body link tag → compare_tag call body link tag (clean (Number i z ∷ ms)) ≡ clean ms
  tag_clean body link tag z i ms e = ap (λ (d : Option Departure). record { off = d; left = ms }) (tied_clean body link tag i e)

  front_clean : {ss : Forms} {moved own : Option Stood} {ms ms' : List Mark} → Fronts types ss moved own ms ms' → fronted types ss moved (clean ms) ≡ (own, clean ms')
  front_clean fronts_greater = refl
  front_clean (fronts {i = i} {z = z} {ms = ms} is) = ap (λ (b : Bool). if b then front_in (Number i z ∷ ms) (clean (Number i z ∷ ms)) else (None, clean (Number i z ∷ ms))) is
  front_clean (fronts_none {ms = ms} is) = ap (λ (b : Bool). if b then front_in ms (clean ms) else (None, clean ms)) is

  plain_clean : (go : ℕ → Compared) (room : ℕ) (body : Vals) (link : Option Count) (moved : Option Stood) (s : Form) (v : Val) (c : Check) → is_plain s ≡ true → compare_at types call go room body link moved s v c ≡ c
  plain_clean go room body link moved OfBool v c e = refl
  plain_clean go room body link moved OfByte v c e = refl
  plain_clean go room body link moved OfChar v c e = refl
  plain_clean go room body link moved (OfInt size) v c e = refl
  plain_clean go room body link moved (OfUint size) v c e = refl
  plain_clean go room body link moved (OfEnum count) v c e = refl
  plain_clean go room body link moved (OfText size) v c e = refl
  plain_clean go room body link moved (OfHandle kind) v c e = refl
  plain_clean go room body link moved _ v c e = absurd cc

  module _ (deep : ℕ) (grounded : Grounded types deep) where
    less : (r n d : ℕ) → suc r * (deep + 1) + suc d ≤ suc n → r * (deep + 1) + deep ≤ n
    less r n d le = omega (arith, suc-mul r (deep + 1))

    mutual
      unfolding compare

      pub agreed_clean : {room : ℕ} {body : Vals} {link : Option Count} {moved : Option Stood} {s : Form} {v : Val} {ms ms' : List Mark} (d n : ℕ) → Agrees types call room body link moved s v ms ms'
          → Shallow types d s → Targets types deep s → room * (deep + 1) + d ≤ n → compare types call n room body link moved s v (clean ms) ≡ clean ms'
      agreed_clean zero n p sh tg le = absurd sh
      agreed_clean (suc d) zero p sh tg le = absurd (omega (arith, le))
      agreed_clean (suc d) (suc n) (plainly {room = room} {body = body} {link = link} {moved = moved} {s = s} {v = v} {ms = ms} is) sh tg le = plain_clean (compare types call n) room body link moved s v (clean ms) is
      agreed_clean (suc d) (suc n) (by_name {room = room} {c = c} {body = body} {switch = switch} {moved = moved} {s = s} {v = v} {ms = ms} is p) sh tg le =
          ap (λ (o : Option Form). compare_type (compare types call n room) body switch moved o v (clean ms)) is
          ∙ agreed_clean d n p (type_has types (Shallow types d) c s sh is) (grounded c s is) (omega (arith, le))
      agreed_clean (suc d) (suc n) (by_members {room = room} {own = own} {ss = ss} {vs = vs} {ms1 = ms1} f ps) sh tg le =
          ap (λ (x : Option Stood × Check). compare_each (compare types call n room) vs x.0 ss vs x.1) (front_clean f) ∙ each_clean d n ps sh tg (omega (arith, le))
      agreed_clean (suc d) (suc n) (by_empty_arm {i = i} {body = body} {link = link} {tag = tag} {z = z} {ms = ms} tied) sh tg le = tag_clean body link tag z i ms tied
      agreed_clean (suc d) (suc n) (by_arm {room = room} {i = i} {body = body} {link = link} {t = t} {s = s} {arms = arms} {tag = tag} {z = z} {v = v} {ms = ms} tied is p) sh tg le =
          ap (λ (c : Check). compare_arm (compare types call n room) (arm_of (OfUnion t arms) tag) v c) (tag_clean body link tag z i ms tied)
          ∙ ap (λ (o : Option Body). compare_arm (compare types call n room) o v (clean ms)) is
          ∙ agreed_clean d n p (arm_has (Shallow types d) s t arms tag is sh) (arm_has (Targets types deep) s t arms tag is (each_arm types deep arms tg)) (omega (arith, le))
      agreed_clean (suc d) (suc n) (by_array {room = room} {body = body} {s = s} {vs = vs} counts ps) sh tg le =
          ap (λ (c : Check). compare_elements (compare types call n room) body s vs c) (counts_clean counts) ∙ all_clean d n ps sh tg (omega (arith, le))
      agreed_clean (suc d) (suc n) (by_ref {room = r} p) sh tg le = agreed_clean deep n p tg.0 tg.1 (less r n d le)
      agreed_clean (suc d) (suc n) by_null sh tg le = refl
      agreed_clean (suc d) (suc n) (by_pointer {room = r} p) sh tg le = agreed_clean deep n p tg.0 tg.1 (less r n d le)
      agreed_clean (suc d) (suc n) by_null_full sh tg le = refl
      agreed_clean (suc d) (suc n) (by_new {room = r} {body = body} {s = s} {ms = ms} is p) sh tg le =
          ap (λ (o : Option Val). compare_referent (compare types call n) (suc r) body s o (clean ms)) is ∙ agreed_clean deep n p tg.0 tg.1 (less r n d le)
      agreed_clean (suc d) (suc n) by_repeat sh tg le = refl

      pub each_clean : {room : ℕ} {body : Vals} {moved : Option Stood} {ss : Forms} {vs : Vals} {ms ms' : List Mark} (d n : ℕ) → AgreesEach types call room body moved ss vs ms ms'
          → EachForm (Shallow types d) ss → EachTarget types deep ss → room * (deep + 1) + d ≤ n → compare_each (compare types call n room) body moved ss vs (clean ms) ≡ clean ms'
      each_clean d n no_member_left sh tg le = refl
      each_clean d n (member_then {room = room} {body = body} {moved = moved} {ss = ss} {vs = vs} p ps) sh tg le =
          ap (λ (c : Check). compare_each (compare types call n room) body moved ss vs c) (agreed_clean d n p sh.0 tg.0 le) ∙ each_clean d n ps sh.1 tg.1 le

      pub all_clean : {room : ℕ} {body : Vals} {s : Form} {vs : Vals} {ms ms' : List Mark} (d n : ℕ) → AgreesAll types call room body s vs ms ms'
          → Shallow types d s → Targets types deep s → room * (deep + 1) + d ≤ n → compare_elements (compare types call n room) body s vs (clean ms) ≡ clean ms'
      all_clean d n (all_plainly {room = room} {body = body} {s = s} {vs = vs} {ms = ms} is) sh tg le =
          ap (λ (b : Bool). if b then clean ms else compare_all (compare types call n room) body s vs (clean ms)) is
      all_clean d n (no_element_left {s = s} {ms = ms}) sh tg le = same_both (is_plain s) (clean ms)
      all_clean d n (element_then {room = room} {body = body} {s = s} {v = v} {vs = vs} {ms = ms} {ms1 = ms1} is p ps) sh tg le =
          let go = compare types call n room in
          ap (λ (b : Bool). if b then clean ms else compare_all go body s (then_val v vs) (clean ms)) is
          ∙ ap (λ (c : Check). compare_all go body s vs c) (agreed_clean d n p sh tg le)
          ∙ sym (ap (λ (b : Bool). if b then clean ms1 else compare_all go body s vs (clean ms1)) is)
          ∙ all_clean d n ps sh tg le

    within_clean : (b : Bounds) (z : ℤ) (i : ℕ) → b.low ≤ℤ z → z ≤ℤ b.high → range_off types call b (Some z) i ≡ None
    within_clean b z i low high = none_if (int_le b.low z && int_le z b.high) (Bound i) (and_so (int_le b.low z) (int_le z b.high) (le_so b.low z low) (le_so z b.high high))

    range_clean : {o : Option Bounds} {v : Val} {ms ms' : List Mark} → AgreesRange o v ms ms' → compare_range types call o v (clean ms) ≡ clean ms'
    range_clean no_range = refl
    range_clean (in_range {b = b} {v = v} {i = i} {ms = ms} w) =
        ap (λ (d : Option Departure). record { off = d; left = ms }) (ap (λ (o : Option ℤ). range_off types call b o i) w.is ∙ within_clean b w.z i w.low w.high)

    -- the parameters, with as much fuel as the deepest takes
    pub entries_clean : {es : List Entry} {vs : Vals} {ms ms' : List Mark} (n : ℕ) → AgreeTogether types call es vs ms ms' → EachEntry types deep es → 256 * (deep + 1) + deep ≤ n
        → compare_entries types call n es vs (clean ms) ≡ clean ms'
    entries_clean n no_entry_left sh le = refl
    entries_clean n (entry_then {e = e} {es = es} {v = v} {vs = vs} p r ps) sh le =
        ap (λ (c : Check). compare_entries types call n es vs (compare_range types call e.range v c)) (agreed_clean deep n p sh.0.0 sh.0.1 le)
        ∙ ap (λ (c : Check). compare_entries types call n es vs c) (range_clean r) ∙ entries_clean n ps sh.1 le
