-- A sound base is what the journal without an entry gives.
use Rattle.std.proofs.Common.{◌≡◌, ℕ, ◌+◌, Bool, true, false, ◌||◌, Option, Some, List, [], ◌∷◌, map, reverse, refl, sym, ◌∙◌, ap, arith, inl, inr}
use Rattle.std.specs.List.{filter_map}
use Rattle.std.specs.Option.{option_map}
use Rattle.std.proofs.lemmas.Bool.{cases_Bool}
use Rattle.std.proofs.lemmas.List.{reverse-reverse}
use Rattle.handle_model.specs.declared.entry.Home.{Home}
use Rattle.handle_model.specs.declared.entry.Asked.{Asked}
use Rattle.handle_model.specs.declared.entry.DueItem.{DueItem}
use Rattle.handle_model.specs.declared.base.BaseCall.{BaseCall}
use Rattle.handle_model.specs.declared.base.Base.{Base}
use Rattle.handle_model.specs.Bases.{numbers_of}
use Rattle.handle_model.specs.Sound.{IsSoundBase}
use Rattle.handle_model.specs.Folds.{call_as, call_in, open_calls, base_of}
use Rattle.handle_model.specs.History.{History, since, size}
use Rattle.handle_model.specs.Journal.{asked, conns, due_items}
use Rattle.handle_table.proofs.Started as items
use Rattle.call_table.proofs.Started.{Stands, AllStand, all_stand}
use Rattle.journal_tables.specs.declared.conns.OpenConn.{OpenConn}
use Rattle.journal_tables.specs.Shown.{open_conn, base_conn}
use Rattle.journal_tables.proofs.Joined.{base_conns}

one_call : (home : Home) (base : Base) (c : BaseCall) → Stands base.calls c → call_in (since home base []) c.call ≡ Some (record { call = c.call; asked = c.asked; taken = c.taken; cancelled = c.cancelled; orphaned = c.orphaned })
one_call home base c s =
    let j : History = since home base [] in
    let e : asked j c.call ≡ Some c.asked = ap (option_map (λ (x : BaseCall). x.asked)) s.found in
    ap (call_as j c.call) e ∙ elim (cases_Bool c.taken) [
      | inl t ↦ rw (e, s.taken, s.cancelled, s.orphaned, t) refl
      | inr t ↦ rw (e, s.taken, s.cancelled, s.orphaned, t) refl
    ]

all_calls : (home : Home) (base : Base) (cs : List BaseCall) → AllStand base.calls cs → filter_map (call_in (since home base [])) (numbers_of cs) ≡ cs
all_calls home base [] s = refl
all_calls home base (c ∷ cs) s = rw (one_call home base c s.0) (ap (λ xs. c ∷ xs) (all_calls home base cs s.1))

same_calls : (home : Home) (base : Base) → IsSoundBase home base → open_calls (since home base []) ≡ base.calls
same_calls home base s =
    ap (filter_map (call_in (since home base []))) (reverse-reverse (numbers_of base.calls)) ∙ all_calls home base base.calls (all_stand base.calls s.calls_rise)

open_numbers : (j : History) (ns : List ℕ) → map (λ (o : OpenConn). o.conn) (map (open_conn j) ns) ≡ ns
open_numbers j [] = refl
open_numbers j (n ∷ ns) = ap (λ ms. n ∷ ms) (open_numbers j ns)

base_numbers : (place : ℕ) (ns : List ℕ) → map (λ (o : OpenConn). o.conn) (map (base_conn place) ns) ≡ ns
base_numbers place [] = refl
base_numbers place (n ∷ ns) = ap (λ ms. n ∷ ms) (base_numbers place ns)

same_conns : (home : Home) (base : Base) → reverse (conns (since home base [])) ≡ base.conns
same_conns home base =
    let j : History = since home base [] in
    sym (open_numbers j (reverse (conns j))) ∙ (ap (map (λ (o : OpenConn). o.conn)) (base_conns home base) ∙ base_numbers base.count base.conns)

pub none_moved : (home : Home) (base : Base) → IsSoundBase home base → base_of (since home base []) ≡ base
none_moved home base s =
    let j : History = since home base [] in
    let made : ℕ → List ℕ → List BaseCall → List DueItem → Base =
    λ n ns cs is. record { count = n; joins = base.joins; accepts = base.accepts; opens = base.opens; conns = ns; calls = cs; handles = is } in
    let count : size j ≡ base.count = omega arith in
    ap (λ n. made n (reverse (conns j)) (open_calls j) (due_items j)) count ∙ (ap (λ ns. made base.count ns (open_calls j) (due_items j)) (same_conns home base) ∙ (ap (λ cs. made base.count base.conns cs (due_items j)) (same_calls home base s) ∙ ap (made base.count base.conns base.calls) (items.base_shown home base s)))
