-- What a request comes to.
use Rattle.std.proofs.Common.{◌≡◌, ◌≢◌, ℕ, ◌==◌, false, Some, None, Ok, Err, List, inl, inr, refl, ap, subst, arith}
use Rattle.std.proofs.lemmas.Bool.Decides.{eqb_tells}
use Rattle.rpc_base.specs.declared.identifiers.Order.{Order}
use Rattle.rpc_base.specs.declared.identifiers.Status.{Status}
use Rattle.handle_model.specs.declared.entry.Slot.{Slot}
use Rattle.handle_model.specs.declared.entry.Asked.{Asked}
use Rattle.handle_model.specs.Limits.{accept_limit}
use Rattle.pdu_stream.specs.declared.joined.Joined.{Joined}
use Rattle.ndr_table.specs.Tables.{TableForm}
use Rattle.group_core.specs.Calls.{Accepts}
use Rattle.conn_histories.specs.Requests.{IsRefused, too_busy, no_memory}
use Rattle.conn_histories.specs.Requests.IsRefused.{no_operation, no_stub, no_room, full}
use Rattle.conn_histories.specs.Entries.{asked_as}
use Rattle.server_calls.specs.Suited.{never_full, Opened, ComesTo}
use Rattle.world_server.specs.Servers.{ServerView, IsWhole, Goes, Takes, whole}
use Rattle.world_server.specs.Requests.{Requests, request}

-- a request that is refused whatever the group says
refused_by : (tables : List TableForm) (iface op : ℕ) (order : Order) (stub : List ℕ) (Full : List Slot → Type 0) (status : Status) → IsRefused tables iface op order stub never_full status
    → IsRefused tables iface op order stub Full status
refused_by tables iface op order stub Full status (no_operation a b) = no_operation a b
refused_by tables iface op order stub Full status (no_stub o d a b e) = no_stub o d a b e
refused_by tables iface op order stub Full status (no_room o a b) = no_room o a b
refused_by tables iface op order stub Full status (full slots h f e) = absurd f

module _ (s : ServerView) (c : ℕ) (joined : Joined) (iface : ℕ) where
  pub refused : (status : Status) → IsWhole s → ComesTo s.tables iface joined.op joined.order joined.stub (Err status) → status ≢ no_memory → Goes s (Requests s.tables c joined iface (Err status)) s
  refused status w cause other = record {
    tables = refl;
    is_whole = w;
    says = (refused_by s.tables iface joined.op joined.order joined.stub (λ (slots : List Slot). accept_limit (whole s.past) slots ≢ None) status cause, other, refl);
  }

  module _ (t : ServerView) (slots : List Slot) (opened : Opened s.tables iface joined.op joined.order joined.stub slots) (a : Asked) (is : a ≡ asked_as c (request joined iface) slots) where
    pub accepted : (k : ℕ) → Goes s (Takes a (Some k)) t → Goes s (Requests s.tables c joined iface (Ok k)) t
    accepted k g = record {
      tables = g.tables;
      is_whole = g.is_whole;
      says = (slots, opened.has, subst (λ (b : Asked). Accepts (whole s.past) b (Ok k) (whole t.past)) is g.says);
    }

    pub busy : Goes s (Takes a None) t → Goes s (Requests s.tables c joined iface (Err too_busy)) t
    busy g = record {
      tables = g.tables;
      is_whole = g.is_whole;
      says = (
        full slots opened.has (subst (λ (b : Asked). accept_limit (whole s.past) b.slots ≢ None) is g.says.0) refl,
        λ e. (let f = ap (λ (z : Status). z.0) e in absurd (omega (arith, f))),
        g.says.1,
      );
    }

pub other_status : (status : Status) → (status.0 == 0x1C00001B) ≡ false → status ≢ no_memory
other_status status differs e = let n : status.0 ≡ 0x1C00001B = ap (λ (z : Status). z.0) e in elim (eqb_tells status.0 0x1C00001B) [ inl t ↦ (let a = t.0 in cc) | inr t ↦ absurd (t.1 n) ]
