-- The map's answers are responses.
use Rattle.std.proofs.Common.{◌≡◌, ℕ, zero, suc, ◌+◌, ◌^◌, ◌<◌, ◌≤◌, Bool, true, false, List, [], ◌∷◌, length, take, Option, Some, None, refl, sym, ap, subst, ◌∙◌, arith}
use Rattle.std.specs.Prelude.{pos, not, ◌==◌, nat_lt, nat_le, if◌then◌else◌, Result}
use Rattle.std.proofs.lemmas.List.{length-take}
use Rattle.ndr_value.specs.declared.shape.ArrayKind.TheVariants.{ConformantVarying}
use Rattle.ndr_value.specs.declared.shape.Count.TheVariants.{Param}
use Rattle.ndr_value.specs.Forms.{Form, OfUint, OfArray, OfFull, OfHandle}
use Rattle.ndr_value.specs.Values.{Val, VUint, Vals, no_val, count_of, Msg}
use Rattle.ndr_table.specs.Tables.{OpForm}
use Rattle.desk_kit.specs.TableParts.{named}
use Rattle.desk_kit.specs.MessageParts.{pointers}
use Rattle.desk_kit.proofs.Counted.{count-pointers}
use Rattle.ndr_model.specs.declared.way.Way.TheVariants.{Response}
use Rattle.ndr_model.specs.Stub.{Entry, entries}
use Rattle.ndr_model.specs.Named.{Call, nth, named as named_by, of_known, with_heap}
use Rattle.ndr_model.specs.Written.{call_of}
use Rattle.ndr_model.specs.Fits.{Seen, nothing_seen, suits_uint, suits_handle, suits_array, counts_both, SuitAll, SuitEntries, no_entry, then_entry, IsOfOp}
use Rattle.desk_kit.specs.Laws.{plain}
use Rattle.desk_kit.specs.ResponseParts.{with_items}
use Rattle.desk_kit.proofs.Suits.{plus_none, null_fits, one_seen, handle_and_status_is}
use Rattle.desk_kit.proofs.Parts.{pointers_suit, items_long, items_wires}
use Rattle.desk_kit.proofs.Owed.{for_op, does_owe, gives_does}
use Rattle.manager_api.specs.declared.answer.Kept.TheVariants.{Cookie, Null}
use Rattle.manager_api.specs.declared.answer.Answer.{Answer}
use Rattle.manager_api.specs.Answers.{Ans, AOut, Step, Gives, settled}
use Rattle.rpc_base.specs.declared.fault.NoMemory.{NoMemory}
use Rattle.manager_api.specs.Arguments.{uint_at, cookie_at}
use Rattle.manager_api.specs.Messages.{IsRequest}
use Rattle.manager_api.specs.Calls.{Call as Asked, Owes, has_kepts, uses_at}
use Rattle.manager_api.specs.Responses.{handle_and_status}
use Rattle.epm_manager.specs.declared.entry.MapEntry.{MapEntry}
use Rattle.epm_manager.specs.declared.entry.Numbered.{Numbered}
use Rattle.epm_manager.specs.declared.wanted.Wanted.{Wanted}
use Rattle.epm_manager.specs.Entries.{EndpointMap, most_entries, are_there}
use Rattle.epm_manager.specs.Found.{found, is_found, after, last_number}
use Rattle.epm_manager.specs.Asked.{entries_at, lookup_wants, map_wants}
use Rattle.epm_manager.specs.Answered.{tower_values, entry_values, listing, status_alone}
use Rattle.epm_manager.specs.Steps.{insert_step, insert_new, remaining, delete_step, lookup_step, map_step, free_step, epm_step, status_of, not_registered, unspecified}
use Rattle.epm_manager.specs.Table.{epm_types, epm_table, insert_form, delete_form, lookup_form, map_form, free_form}
use Rattle.epm_manager.specs.Wholes.{AllTyped, all_noted, IsWhole}
use Rattle.epm_manager.specs.Laws.{StepsOwe}
use Rattle.epm_manager.proofs.Sound.{AllSound, given_sound}
use Rattle.epm_manager.proofs.Suits.{towers_suit, entries_suit, count-tower_values, count-entry_values}

-- ---- a status alone

status_is : (op : OpForm) (asked : Option Msg) (status : ℕ) → status < 2 ^ 32 → SuitEntries epm_types (call_of op Response asked (status_alone status)) (plain (OfUint 4) ∷ []) (status_alone status).values nothing_seen nothing_seen
status_is op asked status lt = then_entry (suits_uint lt) tt no_entry

insert_says : (asked : Msg) (status : ℕ) → status < 2 ^ 32 → Owes epm_table 0 asked (AOut (status_alone status) [])
insert_says asked status lt =
    (for_op epm_table 0 (λ o. IsOfOp epm_types o Response (Some asked) (status_alone status)) insert_form refl (record { end = nothing_seen; suits = status_is insert_form (Some asked) status lt; heap = refl; wires = refl }), refl)

delete_says : (asked : Msg) (status : ℕ) → status < 2 ^ 32 → Owes epm_table 1 asked (AOut (status_alone status) [])
delete_says asked status lt =
    (for_op epm_table 1 (λ o. IsOfOp epm_types o Response (Some asked) (status_alone status)) delete_form refl (record { end = nothing_seen; suits = status_is delete_form (Some asked) status lt; heap = refl; wires = refl }), refl)

insert_new_owes : (asked : Msg) (s : EndpointMap) (old : List Numbered) (new : List MapEntry) → Owes epm_table 0 asked (insert_new s old new).answer
insert_new_owes asked s old new = by (nat_le (length old + length new) most_entries) refl
  where
    by : (b : Bool) → nat_le (length old + length new) most_entries ≡ b → Owes epm_table 0 asked (insert_new s old new).answer
    by true e = rw e (insert_says asked 0 (omega arith))
    by false e = rw e (insert_says asked unspecified (omega arith))

pub insert_owes : (asked : Msg) (s : EndpointMap) (replace : Bool) (new : Option (List MapEntry)) → Owes epm_table 0 asked (insert_step s replace new).answer
insert_owes asked s replace None = insert_says asked unspecified (omega arith)
insert_owes asked s replace (Some new) = insert_new_owes asked s (remaining replace new s.entries) new

pub delete_owes : (asked : Msg) (s : EndpointMap) (gone : Option (List MapEntry)) → Owes epm_table 1 asked (delete_step s gone).answer
delete_owes asked s None = delete_says asked not_registered (omega arith)
delete_owes asked s (Some gone) = by (are_there gone s.entries) refl
  where
    by : (b : Bool) → are_there gone s.entries ≡ b → Owes epm_table 1 asked (delete_step s (Some gone)).answer
    by true e = rw e (delete_says asked 0 (omega arith))
    by false e = rw e (delete_says asked not_registered (omega arith))

-- ---- what a request says of its maximum

pub record Says (asked : Msg) (n : ℕ) : Type 0 where
  pub small : uint_at asked n < 2 ^ 32
  pub there : nth asked.values n ≡ Some (VUint (uint_at asked n))

lookup_said : (types : List Form) (call : Call) (a b c d e : Entry) (asked : Msg) (vs : Vals) (q q' : Seen) → asked.values ≡ vs
    → SuitEntries types call (a ∷ b ∷ c ∷ d ∷ e ∷ plain (OfUint 4) ∷ []) vs q q' → Says asked 5
lookup_said types call a b c d e asked vs q q' is (then_entry _ _ (then_entry _ _ (then_entry _ _ (then_entry _ _ (then_entry _ _ (then_entry (suits_uint lt) tt no_entry)))))) =
    rw is (record { small = lt; there = refl })

lookup_says : (asked : Msg) → IsRequest epm_table 2 asked → Says asked 5
lookup_says asked request =
    lookup_said epm_types _ (plain (OfUint 4)) (plain (OfFull (named 0))) (plain (OfFull (named 1))) (plain (OfUint 4)) (plain (OfHandle 0)) asked asked.values _ _ refl (request lookup_form refl).suits

map_said : (types : List Form) (call : Call) (a b c : Entry) (asked : Msg) (vs : Vals) (q q' : Seen) → asked.values ≡ vs
    → SuitEntries types call (a ∷ b ∷ c ∷ plain (OfUint 4) ∷ []) vs q q' → Says asked 3
map_said types call a b c asked vs q q' is (then_entry _ _ (then_entry _ _ (then_entry _ _ (then_entry (suits_uint lt) tt no_entry)))) =
    rw is (record { small = lt; there = refl })

map_says : (asked : Msg) → IsRequest epm_table 3 asked → Says asked 3
map_says asked request =
    map_said epm_types _ (plain (OfFull (named 0))) (plain (OfFull (named 2))) (plain (OfHandle 0)) asked asked.values _ _ refl (request map_form refl).suits

-- ---- listings

status_small : (es : List Numbered) → status_of es < 2 ^ 32
status_small [] = omega arith
status_small (e ∷ es) = omega arith

abbrev seen : List Numbered → Seen
seen given = with_items one_seen (named 2) (length given)

abbrev listed_entries : ℕ → Form → List Entry
listed_entries n s = plain (OfHandle 0) ∷ plain (OfUint 4) ∷ plain (OfArray (ConformantVarying (Param n false 0) (Param (n + 1) true 0)) s) ∷ plain (OfUint 4) ∷ []

-- at most so many items, in a message of a call
record Listed (call : Call) (most n : ℕ) (s : Form) (items : Vals) (given : List Numbered) (status : ℕ) : Type 0 where
  small : most < 2 ^ 32
  few : count_of items ≤ most
  lt : status < 2 ^ 32
  most_is : named_by call no_val (Param n false 0) ≡ Some (pos most)
  count_is : named_by call no_val (Param (n + 1) true 0) ≡ Some (pos (count_of items))
  suits : SuitAll epm_types call 256 no_val s items one_seen (seen given) (seen given) (seen given)

listing_suits : (call : Call) (most n : ℕ) (s : Form) (items : Vals) (given : List Numbered) (status : ℕ) → Listed call most n s items given status
    → SuitEntries epm_types call (listed_entries n s) (listing items (tower_values given) status).values nothing_seen (seen given)
listing_suits call most n s items given status l =
    let small = l.small in
    let few = l.few in
    let word : count_of items < 2 ^ 32 = omega arith in
    then_entry (suits_handle null_fits) tt
    (then_entry (suits_uint word) tt
    (then_entry (suits_array (counts_both small few l.most_is l.count_is) l.suits) tt
    (then_entry (suits_uint l.lt) tt no_entry)))

listing_is : (op : OpForm) (asked : Msg) (most n : ℕ) (s : Form) (items : Vals) (given : List Numbered) (status : ℕ) → entries Response op ≡ listed_entries n s
    → Listed (call_of op Response (Some asked) (listing items (tower_values given) status)) most n s items given status → IsOfOp epm_types op Response (Some asked) (listing items (tower_values given) status)
listing_is op asked most n s items given status e l =
    let m = listing items (tower_values given) status in
    let call = call_of op Response (Some asked) m in
    record {
      end = seen given;
      suits = subst (λ (es : List Entry). SuitEntries epm_types call es m.values nothing_seen (seen given)) (sym e) (listing_suits call most n s items given status l);
      heap = omega (arith, count-tower_values given, items_long one_seen (named 2) (length given));
      wires = sym (items_wires one_seen (named 2) (length given));
    }

given_few : (most : ℕ) (all : List Numbered) → length (take most all) ≤ most
given_few most all = omega (arith, length-take most all)

lookup_listed : (asked : Msg) (all : List Numbered) → Says asked 5 → AllSound (take (uint_at asked 5) all)
    → (let given = take (uint_at asked 5) all in Listed (call_of lookup_form Response (Some asked) (listing (entry_values 0 given) (tower_values given) (status_of given))) (uint_at asked 5) 5 (named 3) (entry_values 0 given) given (status_of given))
lookup_listed asked all says sound =
    let most = uint_at asked 5 in
    let given = take most all in
    let items = entry_values 0 given in
    let there : (i : ℕ) → nth (tower_values given) (0 + i) ≡ nth (tower_values given) i = λ i. let e : 0 + i ≡ i = omega arith in ap (nth (tower_values given)) e in
    record {
      small = says.small;
      few = omega (arith, given_few most all, count-entry_values 0 given);
      lt = status_small given;
      most_is = ap (λ (v : Option Val). of_known false 0 (with_heap v asked.heap)) says.there ∙ ap Some (plus_none most);
      count_is = ap Some (plus_none (count_of items));
      suits = entries_suit _ no_val given 0 one_seen (seen given) refl there sound;
    }

map_listed : (asked : Msg) (all : List Numbered) → Says asked 3 → AllSound (take (uint_at asked 3) all)
    → (let given = take (uint_at asked 3) all in Listed (call_of map_form Response (Some asked) (listing (pointers 0 (length given)) (tower_values given) (status_of given))) (uint_at asked 3) 3 (OfFull (named 2)) (pointers 0 (length given)) given (status_of given))
map_listed asked all says sound =
    let most = uint_at asked 3 in
    let given = take most all in
    let items = pointers 0 (length given) in
    let call = call_of map_form Response (Some asked) (listing items (tower_values given) (status_of given)) in
    let there : (i : ℕ) → nth (tower_values given) (0 + i) ≡ nth (tower_values given) i = λ i. let e : 0 + i ≡ i = omega arith in ap (nth (tower_values given)) e in
    record {
      small = says.small;
      few = omega (arith, given_few most all, count-pointers 0 (length given));
      lt = status_small given;
      most_is = ap (λ (v : Option Val). of_known false 0 (with_heap v asked.heap)) says.there ∙ ap Some (plus_none most);
      count_is = ap Some (plus_none (count_of items));
      suits = subst (λ (k : ℕ). SuitAll epm_types call 256 no_val (OfFull (named 2)) (pointers 0 k) one_seen (with_items one_seen (named 2) k) (seen given) (seen given)) (count-tower_values given)
          (pointers_suit epm_types call 255 no_val (named 2) (tower_values given) 0 one_seen (seen given) refl there (towers_suit call 255 no_val given sound));
    }

-- a handle that stays, is issued or is null
kept_lookup : (more : Bool) (n : ℕ) → has_kepts (uses_at epm_table 2) ((if more then Cookie n else Null) ∷ []) ≡ true
kept_lookup true n = refl
kept_lookup false n = refl

kept_map : (more : Bool) (n : ℕ) → has_kepts (uses_at epm_table 3) ((if more then Cookie n else Null) ∷ []) ≡ true
kept_map true n = refl
kept_map false n = refl

pub lookup_owes : (asked : Msg) (s : EndpointMap) (cookie : Option ℕ) (what : Wanted) → IsRequest epm_table 2 asked → AllTyped s.entries → all_noted s.entries ≡ true → Owes epm_table 2 asked (lookup_step s cookie what (uint_at asked 5)).answer
lookup_owes asked s cookie what request typed noted =
    let all = found what (after cookie) s.entries in
    let given = take (uint_at asked 5) all in
    let m = listing (entry_values 0 given) (tower_values given) (status_of given) in (
      for_op epm_table 2 (λ o. IsOfOp epm_types o Response (Some asked) m) lookup_form refl
          (listing_is lookup_form asked (uint_at asked 5) 5 (named 3) (entry_values 0 given) given (status_of given) refl (lookup_listed asked all (lookup_says asked request) (given_sound (uint_at asked 5) (is_found what (after cookie)) s.entries typed noted))),
      kept_lookup (nat_lt (uint_at asked 5) (length all)) (last_number (after cookie) given),
    )

pub map_owes : (asked : Msg) (s : EndpointMap) (cookie : Option ℕ) (what : Wanted) → IsRequest epm_table 3 asked → AllTyped s.entries → all_noted s.entries ≡ true → Owes epm_table 3 asked (map_step s cookie what (uint_at asked 3)).answer
map_owes asked s cookie what request typed noted =
    let all = found what (after cookie) s.entries in
    let given = take (uint_at asked 3) all in
    let m = listing (pointers 0 (length given)) (tower_values given) (status_of given) in (
      for_op epm_table 3 (λ o. IsOfOp epm_types o Response (Some asked) m) map_form refl
          (listing_is map_form asked (uint_at asked 3) 3 (OfFull (named 2)) (pointers 0 (length given)) given (status_of given) refl (map_listed asked all (map_says asked request) (given_sound (uint_at asked 3) (is_found what (after cookie)) s.entries typed noted))),
      kept_map (nat_lt (uint_at asked 3) (length all)) (last_number (after cookie) given),
    )

pub free_owes : (asked : Msg) (s : EndpointMap) (cookie : Option ℕ) → Owes epm_table 4 asked (free_step s cookie).answer
free_owes asked s cookie = (for_op epm_table 4 (λ o. IsOfOp epm_types o Response (Some asked) (handle_and_status 0)) free_form refl (handle_and_status_is epm_types free_form (Some asked) 0 0 refl (omega arith)), refl)

-- ---- any operation

at_op : (s : EndpointMap) (iface op : ℕ) (m : Msg) (cookies : List (Option ℕ)) → IsWhole s.entries → op < 5 → IsRequest epm_table op m
    → Owes epm_table op m (epm_step s (record { iface = iface; op = op; message = m; cookies = cookies })).answer
at_op s iface zero m cookies whole lt request = insert_owes m s (not (uint_at m 2 == 0)) (entries_at m)
at_op s iface (suc zero) m cookies whole lt request = delete_owes m s (entries_at m)
at_op s iface (suc (suc zero)) m cookies whole lt request = lookup_owes m s (cookie_at cookies 0) (lookup_wants m) request whole.typed whole.notes
at_op s iface (suc (suc (suc zero))) m cookies whole lt request = map_owes m s (cookie_at cookies 0) (map_wants m) request whole.typed whole.notes
at_op s iface (suc (suc (suc (suc zero)))) m cookies whole lt request = free_owes m s (cookie_at cookies 0)
at_op s iface (suc (suc (suc (suc (suc n))))) m cookies whole lt request = absurd (omega arith)

pub steps_owe : StepsOwe
steps_owe s c whole lt request = at_op s c.iface c.op c.message c.cookies whole lt request

-- ---- an answer in parts

pub gives_owes : (op : ℕ) (asked : Msg) (step : Step EndpointMap) (before after : EndpointMap) (r : Result Answer NoMemory) (a : Ans) → Gives r step before after → a ≡ settled r → Owes epm_table op asked step.answer → Owes epm_table op asked a
gives_owes op asked step before after r a gives is owes = does_owe epm_table op asked step before a after (gives_does r step before after a gives is) owes
