-- The messages of the management interface are responses.
use Rattle.std.proofs.Common.{◌≡◌, ℕ, suc, ◌+◌, ◌^◌, ◌<◌, List, [], ◌∷◌, length, take, Some, Result, Ok, Err, refl, sym, ap, subst, ◌∙◌, arith}
use Rattle.std.specs.Prelude.{pos, IfOk}
use Rattle.rpc_base.specs.declared.identifiers.SyntaxId.{SyntaxId}
use Rattle.ndr_value.specs.Forms.{OfUint}
use Rattle.ndr_value.specs.Values.{VUint, VArray, Vals, no_val, then_val, count_of, Msg}
use Rattle.desk_kit.specs.TableParts.{named}
use Rattle.desk_kit.specs.MessageParts.{pointers}
use Rattle.desk_kit.proofs.Counted.{count-pointers}
use Rattle.ndr_model.specs.declared.way.Way.TheVariants.{Response}
use Rattle.ndr_model.specs.Named.{Call, nth}
use Rattle.ndr_model.specs.Written.{call_of}
use Rattle.ndr_model.specs.Fits.{Seen, with_item, nothing_seen, suits_uint, suits_name, suits_struct, suits_array, suits_new, no_member, then_member, counts_conformant, SuitAll, no_element, then_element, no_entry, then_entry, IsOfOp}
use Rattle.rpc_base.specs.declared.fault.NoMemory.{NoMemory}
use Rattle.manager_api.specs.declared.answer.Answer.{Answer}
use Rattle.manager_api.specs.Answers.{AOut, ans, settled}
use Rattle.manager_api.specs.Calls.{Owes}
use Rattle.desk_kit.specs.ResponseParts.{EachSuits, with_items}
use Rattle.desk_kit.proofs.Suits.{plus_none}
use Rattle.desk_kit.proofs.Parts.{syntax_suits, pointers_suit, items_long, items_wires}
use Rattle.desk_kit.proofs.Owed.{for_op}
use Rattle.mgmt_manager.specs.Table.{mgmt_table, mgmt_types, syntax_pointer, ids_form, stats_form, listening_form}
use Rattle.mgmt_manager.specs.Fits.{AreSyntaxes, AreWords}
use Rattle.mgmt_manager.specs.Steps.{syntax_values, ids_message, uints, stats_message, listening_message}

-- ---- inq_if_ids

ids_suit : (call : Call) (room : ℕ) (body : Vals) (ids : List SyntaxId) → AreSyntaxes ids → EachSuits mgmt_types call room body (named 1) (syntax_values ids)
ids_suit call room body [] are = tt
ids_suit call room body (s ∷ ss) are = (λ q. syntax_suits mgmt_types call room body 1 s q q refl refl are.0, ids_suit call room body ss are.1)

values_count : (ids : List SyntaxId) → count_of (syntax_values ids) ≡ length ids
values_count [] = refl
values_count (s ∷ ss) = ap suc (values_count ss)

abbrev first_seen : Seen
first_seen = with_item nothing_seen (named 2)

ids_are : (asked : Msg) (ids : List SyntaxId) → AreSyntaxes ids → length ids < 2 ^ 32 → IsOfOp mgmt_types ids_form Response (Some asked) (ids_message ids)
ids_are asked ids are few =
    let m = ids_message ids in
    let call = call_of ids_form Response (Some asked) m in
    let end = with_items first_seen (named 1) (length ids) in
    let body : Vals = then_val (VUint (length ids)) (then_val (VArray (pointers 1 (length ids))) no_val) in
    let n : count_of (syntax_values ids) ≡ length ids = values_count ids in
    let plus : (i : ℕ) → nth m.heap (1 + i) ≡ nth (syntax_values ids) i = λ i. let e : 1 + i ≡ suc i = omega arith in ap (λ (k : ℕ). nth m.heap k) e in
    let all : SuitAll mgmt_types call 255 body syntax_pointer (pointers 1 (length ids)) first_seen end end end =
    subst (λ (k : ℕ). SuitAll mgmt_types call 255 body syntax_pointer (pointers 1 k) first_seen (with_items first_seen (named 1) k) end end) n
    (pointers_suit mgmt_types call 254 body (named 1) (syntax_values ids) 1 first_seen end refl plus (ids_suit call 254 body ids are)) in
    let count : count_of (pointers 1 (length ids)) ≡ length ids = count-pointers 1 (length ids) in
    let small : count_of (pointers 1 (length ids)) < 2 ^ 32 = omega (arith, count, few) in
    record {
      end = end;
      suits = then_entry
          (suits_new {room = 255} refl
          (suits_name refl
          (suits_struct
          (then_member (suits_uint few)
          (then_member (suits_array (counts_conformant small (ap Some (plus_none (length ids) ∙ ap pos (sym count)))) all)
          no_member)))))
          tt
          (then_entry (suits_uint (omega arith)) tt no_entry);
      heap = omega (arith, n, items_long first_seen (named 1) (length ids));
      wires = sym (items_wires first_seen (named 1) (length ids));
    }

pub ids_owe : (asked : Msg) (ids : List SyntaxId) → AreSyntaxes ids → length ids < 2 ^ 32 → Owes mgmt_table 0 asked (AOut (ids_message ids) [])
ids_owe asked ids are few = (for_op mgmt_table 0 (λ o. IsOfOp mgmt_types o Response (Some asked) (ids_message ids)) ids_form refl (ids_are asked ids are few), refl)

-- ---- inq_stats

uints_count : (ns : List ℕ) → count_of (uints ns) ≡ length ns
uints_count [] = refl
uints_count (n ∷ ns) = ap suc (uints_count ns)

uints_suit : (call : Call) (room : ℕ) (body : Vals) (ns : List ℕ) (p q : Seen) → AreWords ns → SuitAll mgmt_types call room body (OfUint 4) (uints ns) p p q q
uints_suit call room body [] p q fit = no_element
uints_suit call room body (n ∷ ns) p q fit = then_element (suits_uint (fit 0)) (uints_suit call room body ns p q (λ j. fit (suc j)))

stats_are : (asked : Msg) (given : ℕ) (ns : List ℕ) → given < 2 ^ 32 → length (take given ns) ≡ given → AreWords (take given ns) → IsOfOp mgmt_types stats_form Response (Some asked) (stats_message given ns)
stats_are asked given ns few long fit =
    let m = stats_message given ns in
    let call = call_of stats_form Response (Some asked) m in
    let n : count_of (uints (take given ns)) ≡ given = uints_count (take given ns) ∙ long in
    let small : count_of (uints (take given ns)) < 2 ^ 32 = omega (arith, n, few) in
    record {
      end = nothing_seen;
      suits = then_entry (suits_uint few) tt
          (then_entry (suits_array (counts_conformant small (ap Some (plus_none given ∙ ap pos (sym n)))) (uints_suit call 256 no_val (take given ns) nothing_seen nothing_seen fit)) tt
          (then_entry (suits_uint (omega arith)) tt no_entry));
      heap = refl;
      wires = refl;
    }

pub stats_owe : (asked : Msg) (given : ℕ) (ns : List ℕ) → given < 2 ^ 32 → length (take given ns) ≡ given → AreWords (take given ns) → Owes mgmt_table 1 asked (AOut (stats_message given ns) [])
stats_owe asked given ns few long fit = (for_op mgmt_table 1 (λ o. IsOfOp mgmt_types o Response (Some asked) (stats_message given ns)) stats_form refl (stats_are asked given ns few long fit), refl)

-- ---- is_server_listening

pub listening_owe : (asked : Msg) → Owes mgmt_table 2 asked (AOut listening_message [])
listening_owe asked = (
  for_op mgmt_table 2 (λ o. IsOfOp mgmt_types o Response (Some asked) listening_message) listening_form refl (record {
    end = nothing_seen;
    suits = then_entry (suits_uint (omega arith)) tt (then_entry (suits_uint (omega arith)) tt no_entry);
    heap = refl;
    wires = refl;
  }),
  refl,
)

-- ---- an answer in parts

pub always_owes : (op : ℕ) (asked : Msg) (r : Result Answer NoMemory) → IfOk r (λ a. (any : Msg) → Owes mgmt_table op any (ans a)) → Owes mgmt_table op asked (settled r)
always_owes op asked (Ok a) owes = owes asked
always_owes op asked (Err e) owes = tt
