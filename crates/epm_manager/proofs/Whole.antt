-- What the desk keeps of its entries, when some go and others come.
use Rattle.std.proofs.Common.{◌≡◌, ℕ, suc, ◌+◌, ◌≤◌, Bool, true, false, List, [], ◌∷◌, ◌++◌, length, length-append, take, filter, Option, Some, None, refl, sym, ap, subst, ◌∙◌, arith, if◌then◌else◌}
use Rattle.std.specs.Prelude.{nat_le}
use Rattle.std.proofs.lemmas.Bool.{leb-true}
use Rattle.std.proofs.lemmas.List.{length-take}
use Rattle.ndr_value.specs.Values.{Vals, no_val, then_val}
use Rattle.tower_codec.specs.declared.tower.Tower.{Tower}
use Rattle.manager_api.specs.Arguments.{value_at, text_of}
use Rattle.epm_manager.specs.declared.entry.MapEntry.{MapEntry}
use Rattle.epm_manager.specs.declared.entry.Numbered.{Numbered}
use Rattle.epm_manager.specs.Entries.{is_note, numbered_from, last_of, next_number, most_entries}
use Rattle.epm_manager.specs.Asked.{with_note, entry_with, entry_of, then_entry, entries_of, uuid_of, tower_in, pointed_to, members_of}
use Rattle.epm_manager.specs.Wholes.{AllTyped, has_note, have_notes, all_noted, IsWhole}
use Rattle.epm_manager.proofs.Sound.{both, and_true, typed_filter, noted_filter}

-- ---- more entries

pub typed_append : (ns ms : List Numbered) → AllTyped ns → AllTyped ms → AllTyped (ns ++ ms)
typed_append [] ms all more = more
typed_append (n ∷ ns) ms all more = (all.0, typed_append ns ms all.1 more)

pub noted_append : (ns ms : List Numbered) → all_noted ns ≡ true → all_noted ms ≡ true → all_noted (ns ++ ms) ≡ true
noted_append [] ms all more = more
noted_append (n ∷ ns) ms all more =
    let b = both (has_note n.entry) (all_noted ns) all in
    and_true (has_note n.entry) (all_noted (ns ++ ms)) b.0 (noted_append ns ms b.1 more)

pub noted_from : (last : ℕ) (es : List MapEntry) → have_notes es ≡ true → all_noted (numbered_from last es) ≡ true
noted_from last [] all = refl
noted_from last (e ∷ es) all =
    let b = both (has_note e) (have_notes es) all in
    and_true (has_note e) (all_noted (numbered_from (next_number last) es)) b.0 (noted_from (next_number last) es b.1)

-- each entry of a request has one
with_noted : (object : List ℕ) (tower : Tower) (note : List ℕ) (e : MapEntry) (b : Bool) → is_note note ≡ b → (if b then Some (record { object = object; tower = tower; note = note }) else None) ≡ Some e → has_note e ≡ true
with_noted object tower note e true is some =
    let same : record { object = object; tower = tower; note = note } ≡ e = cc in
    sym (ap has_note same) ∙ is
with_noted object tower note e false is some = absurd (cc)

entry_noted : (note : List ℕ) (o : Option (List ℕ)) (t : Option Tower) (e : MapEntry) → entry_with note o t ≡ Some e → has_note e ≡ true
entry_noted note (Some object) (Some tower) e some = with_noted object tower note e (is_note note) refl some
entry_noted note (Some object) None e some = absurd (cc)
entry_noted note None t e some = absurd (cc)

record Split (o : Option MapEntry) (all : Option (List MapEntry)) (es : List MapEntry) : Type 0 where
  first : MapEntry
  others : List MapEntry
  is : o ≡ Some first
  rest : all ≡ Some others
  whole : es ≡ first ∷ others

split : (o : Option MapEntry) (all : Option (List MapEntry)) (es : List MapEntry) → then_entry o all ≡ Some es → Split o all es
split None all es e = absurd (cc)
split (Some x) None es e = absurd (cc)
split (Some x) (Some xs) es e = record { first = x; others = xs; is = refl; rest = refl; whole = cc }

pub entries_noted : (heap vs : Vals) (es : List MapEntry) → entries_of heap vs ≡ Some es → have_notes es ≡ true
entries_noted heap no_val es e = let none : es ≡ [] = cc in ap have_notes none
entries_noted heap (then_val v vs) es e =
    let s = split (entry_of heap v) (entries_of heap vs) es e in
    ap have_notes s.whole ∙ and_true (has_note s.first) (have_notes s.others) (entry_noted (text_of (value_at (members_of v) 2)) (uuid_of (value_at (members_of v) 0)) (tower_in (pointed_to heap (value_at (members_of v) 1))) s.first s.is) (entries_noted heap vs s.others s.rest)

-- ---- how many

pub length-numbered_from : (last : ℕ) (es : List MapEntry) → length (numbered_from last es) ≡ length es
length-numbered_from last [] = refl
length-numbered_from last (e ∷ es) = ap suc (length-numbered_from (next_number last) es)

-- ---- one more number

pub numbered_push : (last : ℕ) (es : List MapEntry) (e : MapEntry) → numbered_from last (es ++ e ∷ []) ≡ numbered_from last es ++ record { number = next_number (last_of last es); entry = e } ∷ []
numbered_push last [] e = refl
numbered_push last (x ∷ es) e = ap (λ (ns : List Numbered). record { number = next_number last; entry = x } ∷ ns) (numbered_push (next_number last) es e)

pub last_push : (last : ℕ) (es : List MapEntry) (e : MapEntry) → last_of last (es ++ e ∷ []) ≡ next_number (last_of last es)
last_push last [] e = refl
last_push last (x ∷ es) e = last_push (next_number last) es e

-- ---- the whole map

pub whole_more : (ns ms : List Numbered) → IsWhole ns → AllTyped ms → all_noted ms ≡ true → length ns + length ms ≤ most_entries → IsWhole (ns ++ ms)
whole_more ns ms whole typed noted few = record { few = omega (arith, length-append ns ms); typed = typed_append ns ms whole.typed typed; notes = noted_append ns ms whole.notes noted }

pub whole_if : (b : Bool) (ns ms now : List Numbered) → now ≡ (if b then ns ++ ms else ns) → IsWhole ns → IsWhole (ns ++ ms) → IsWhole now
whole_if true ns ms now e old new = subst IsWhole (sym e) new
whole_if false ns ms now e old new = subst IsWhole (sym e) old

few_if : (b : Bool) (n : Numbered) (ns ms : List Numbered) → length ms ≤ length ns → length (if b then n ∷ ms else ms) ≤ suc (length ns)
few_if true n ns ms le = omega arith
few_if false n ns ms le = omega arith

filter_few : (p : Numbered → Bool) (ns : List Numbered) → length (filter p ns) ≤ length ns
filter_few p [] = omega arith
filter_few p (n ∷ ns) = few_if (p n) n ns (filter p ns) (filter_few p ns)

pub whole_filter : (p : Numbered → Bool) (ns : List Numbered) → IsWhole ns → IsWhole (filter p ns)
whole_filter p ns whole =
    let few = whole.few in
    record { few = omega (arith, filter_few p ns); typed = typed_filter p ns whole.typed; notes = noted_filter p ns whole.notes }

-- new entries behind those that stay
pub whole_new : (old : List Numbered) (last : ℕ) (new : List MapEntry) (more : List Numbered) → more ≡ numbered_from last new → AllTyped more → have_notes new ≡ true → nat_le (length old + length new) most_entries ≡ true → IsWhole old → IsWhole (old ++ more)
whole_new old last new more is typed noted fits whole =
    let room : length old + length new ≤ most_entries = leb-true _ _ fits in
    whole_more old more whole typed (ap all_noted is ∙ noted_from last new noted) (omega (arith, ap length is, length-numbered_from last new))

pub few_taken : (most : ℕ) (p : Numbered → Bool) (ns : List Numbered) → length ns ≤ most_entries → length (take most (filter p ns)) ≤ most_entries
few_taken most p ns few = omega (arith, length-take most (filter p ns), filter_few p ns)
