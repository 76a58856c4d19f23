-- A move leads to a world only where its condition holds; and some moves do wherever it holds.
use Rattle.std.proofs.Common.{◌≡◌, ℕ, ◌≤◌, Bool, true, false, Option, Some, None, Ok, List, [], ◌∷◌, ◌++◌, length, refl, sym, ap, subst, ◌∙◌, arith, length-append}
use Rattle.std.specs.Prelude.{is_some}
use Rattle.handle_model.specs.declared.entry.Outcome.{Outcome}
use Rattle.handle_model.specs.declared.entry.Entry.{Entry}
use Rattle.handle_model.specs.declared.entry.Entry.TheVariants.{Take, Leave, Shut}
use Rattle.handle_model.specs.Journal.{due, due_items, slots, cookies_for}
use Rattle.handle_model.specs.History.{with_entry}
use Rattle.pdu_codec.specs.Pdus.{pdu_octets}
use Rattle.pdu_stream.specs.Fragments.{most_stub}
use Rattle.ndr_value.specs.Values.{Msg}
use Rattle.ndr_table.specs.Tables.{OpForm, TableForm}
use Rattle.ndr_model.specs.declared.way.Way.TheVariants.{Response}
use Rattle.ndr_model.specs.Written.{stub}
use Rattle.manager_api.specs.declared.answer.Kept.{Kept}
use Rattle.group_core.specs.declared.answer.Rest.TheVariants as rest
use Rattle.group_core.specs.Calls.{cookie_row, first_serial}
use Rattle.conn_histories.specs.Ends.{with_wires, wires_at}
use Rattle.client_core.specs.States.{Calling, at_start}
use Rattle.client_core.specs.Octets.{bind_pdu, co_cancel}
use Rattle.client_core.specs.Calls.{binding, CancelsCall, asking}
use Rattle.world_laws.specs.Moves.{Move as moves}
use Rattle.world_laws.specs.Journals.{home, journal, Enters, Leaves}
use Rattle.world_laws.specs.Ends.{Line}
use Rattle.world_laws.specs.Calling.{lost_line}
use Rattle.world_laws.specs.Worlds.{World, with_line, entered, opened, cancelling, Moves, Starts, Ends, Tries}
use Rattle.world_laws.specs.Worlds.Tries.{taken, denied}
use Rattle.world_laws.specs.Leading.{MayStart, AreOnWay, MayFinish, MayCome, OnlyWhereItMay, OpensLead, CancelsLead, LossesLead, TakesLead}
use Rattle.world_laws.proofs.Lists.{some_is}

-- ---- only where it may

on_way : (n : ℕ) (way front left : List ℕ) → Moves n way front left → AreOnWay n way
on_way n way front left m = (m.2, omega (arith, m.1, ap length m.0, length-append front left))

may_start : (table : TableForm) (w v : World) (op : ℕ) (m : Msg) (i : ℕ) (l : Line) → Starts table w op m i l v → MayStart l op m
may_start table w v op m i l s =
    let o = s.message.0 in
    let same : s.calls.0 ≡ o = some_is s.calls.0 o (sym s.calls.1 ∙ s.message.1) in
    record {
      bound = s.bound;
      free = s.free;
      operation = o;
      found = s.message.1;
      of_op = s.message.2;
      short = subst (λ (y : OpForm). length (asking l.caller.state.interface y m) ≤ most_stub) same s.calls.2.0;
    }

may_take : (table : TableForm) (w v : World) (k : ℕ) → Tries table w k v → MayCome table w (moves.Take k)
may_take table w v k (taken row serial past takes is) = (takes.0, takes.1)
may_take table w v k (denied slot past takes goes) = (takes.0, takes.1)

may_finish : (table : TableForm) (w : World) (past : List Entry) (k : ℕ) (kepts : List Kept) (m : Msg) → Ends table w.past k kepts m past → MayFinish table w k kepts m
may_finish table w past k kepts m e = record {
  runs = e.runs;
  asked = e.asked;
  asks = e.asks;
  message = e.message;
  is = e.is;
  owes = e.owes;
  short = subst (λ (rs : List Outcome). length (stub table.types e.is.operation Response e.asked.order (Some e.message) (with_wires m (wires_at home e.asked.slots rs))) ≤ most_stub) e.results_are
      (subst (λ (x : List ℕ). length x ≤ most_stub) e.octets_are e.short);
}

pub only_where_it_may : OnlyWhereItMay
only_where_it_may table (moves.Open c group) w v p = (p.fresh, p.wanted)
only_where_it_may table (moves.Start c op m) w v (i, l, at, named, stands, p) = (i, l, at, named, stands, may_start table w v op m i l p)
only_where_it_may table (moves.ToServer c n) w v (i, l, at, named, stands, p) = (i, l, at, named, stands, on_way n l.up p.front p.left p.way)
only_where_it_may table (moves.ToCaller c n) w v (i, l, at, named, stands, p) = (i, l, at, named, stands, on_way n l.down p.front p.left p.way)
only_where_it_may table (moves.Cancel c) w v (i, l, at, named, stands, p) = (i, l, at, named, stands, p.out)
only_where_it_may table (moves.Lose c) w v (i, l, at, named, stands, p) = (i, l, at, named, stands, tt)
only_where_it_may table moves.Restart w v p = tt
only_where_it_may table (moves.Take k) w v p = may_take table w v k p
only_where_it_may table (moves.Finish k kepts m) w v (past, ends, goes) = may_finish table w past k kepts m ends

-- ---- and there

pub opens_lead : OpensLead
opens_lead table w c group (fresh, wanted) = (
  record w { lines = w.lines ++ opened table c group (pdu_octets (bind_pdu table.id group)) (binding (at_start table)) ∷ [] },
  record { fresh = fresh; wanted = wanted; octets = pdu_octets (bind_pdu table.id group); state = binding (at_start table); binds = (refl, refl); after = refl },
)

cancels : (call : Option Calling) → is_some call ≡ true → (octets : List ℕ) × CancelsCall call (Ok octets)
cancels None h = absurd (cc (h))
cancels (Some c) h = (pdu_octets (co_cancel c.id), refl)

pub cancels_lead : CancelsLead
cancels_lead table w c (i, l, at, named, stands, out) =
    let (octets, is) = cancels l.caller.state.call out in (
      with_line w i (cancelling table l octets l.caller.state) w.past,
      (i, l, at, named, stands, record { out = out; octets = octets; state = l.caller.state; cancels = (is, refl); after = refl }),
    )

-- an entry comes, with the Shut where it is due
some_enter : (past : List Entry) (e : Entry) → (new : List Entry) × Enters past e new
some_enter past e = by (due (with_entry (journal past) e)) refl
  where
    by : (b : Bool) → due (with_entry (journal past) e) ≡ b → (new : List Entry) × Enters past e new
    by false is = (e ∷ past, (rest.Stays, (is, refl)))
    by true is = (Shut (due_items (with_entry (journal past) e)) ∷ e ∷ past, (rest.Shut (due_items (with_entry (journal past) e)), (is, refl, refl)))

pub some_leave : (past : List Entry) (member : Option ℕ) → (new : List Entry) × Leaves member past new
some_leave past None = (past, refl)
some_leave past (Some c) = some_enter past (Leave c)

pub losses_lead : LossesLead
losses_lead table w c (i, l, at, named, stands, any) =
    let (past, leaves) = some_leave w.past l.server.member in (with_line w i (lost_line l) past, (i, l, at, named, stands, (lost_line l, past, (refl, leaves), refl)))

pub takes_lead : TakesLead
takes_lead table w k (waits, free) usable =
    let cookies = cookies_for (journal w.past) (slots (journal w.past) k) in (
      entered w (Take k cookies ∷ w.past),
      taken (cookie_row cookies) (first_serial (slots (journal w.past) k)) (Take k cookies ∷ w.past) (waits, free, usable, refl, refl, refl) refl,
    )
