-- What a caller knows of its calls stays true where it starts one, calls one off, or loses its connection.
use Rattle.std.proofs.Common.{◌≡◌, ℕ, ◌+◌, ◌≤◌, ◌⊎◌, inl, inr, Bool, true, false, ◌&&◌, eqb, Option, Some, None, Ok, List, [], ◌∷◌, ◌++◌, length, refl, sym, ap, subst, ◌∙◌, append-nil}
use Rattle.std.specs.Prelude.{slice_get, is_some}
use Rattle.handle_model.specs.declared.entry.Entry.{Entry}
use Rattle.pdu_stream.specs.declared.joined.Joined.{Joined}
use Rattle.ndr_value.specs.Values.{Msg}
use Rattle.ndr_table.specs.Tables.{OpForm, TableForm}
use Rattle.conn_asks.specs.declared.events.Ask.{Ask}
use Rattle.conn_asks.specs.declared.events.Ask.TheVariants as asks
use Rattle.client_core.specs.declared.begun.Stage.{Stage}
use Rattle.client_core.specs.declared.begun.Stage.TheVariants as stages
use Rattle.client_core.specs.States as callers
use Rattle.client_core.specs.States.{ClientState, Calling, is_bound, is_bound_at, is_binding_at, is_calling, bind_id, next_id}
use Rattle.client_core.specs.Calls.{Calls, Cancels, with_call}
use Rattle.client_core.specs.Histories.ClientEvent.{DidCall, DidCancel, Lost}
use Rattle.client_core.specs.Calls.{Binds}
use Rattle.client_laws.specs.Ends.{request_of}
use Rattle.client_laws.specs.Sending.{bind_asked, cancel_asked, EventsAsk}
use Rattle.world_laws.specs.Moves.{Fate as fates}
use Rattle.world_laws.specs.Ends.{Row, Line, new_row, told_if, number_in}
use Rattle.world_laws.specs.Calling.{lost_line}
use Rattle.world_laws.specs.Worlds.{opened, starting, cancelling}
use Rattle.world_laws.proofs.Lists.{OfMore, of_more, more_last, length_more}
use Rattle.world_laws.proofs.Lists.OfMore.{before, last}
use Rattle.world_laws.proofs.Statics.{calls_in, calls_append}
use Rattle.world_laws.proofs.Asked.{ask_more}
use Rattle.world_laws.proofs.Truths.{Knows, answered, Phase}
use Rattle.world_laws.proofs.Truths.Phase.{unbound, binding, free, calling, answering, dropped}
use Rattle.world_laws.proofs.Truth.{TrueLine}
use Rattle.world_laws.proofs.Accepting.{WasAccepted, AllAccepted, was_with}
use Rattle.world_laws.proofs.Knowing.{knows_same, says_same}
use Rattle.world_laws.proofs.Told.{OfLast, of_last}
use Rattle.world_laws.proofs.Told.OfLast.{old, changed}
use Rattle.world_laws.proofs.Callers.{rows_if}

-- ---- a connection is opened

pub opens_true : (table : TableForm) (past : List Entry) (c group : ℕ) (octets : List ℕ) (state : ClientState) → Binds (callers.at_start table) group (Ok octets) state → TrueLine table past (opened table c group octets state)
opens_true table past c group octets state binds = record {
  asked = bind_asked (callers.at_start table) group ∷ [];
  begun = (state, bind_asked (callers.at_start table) group ∷ [], [], binds, refl, refl, (refl, refl));
  interface = ap (λ (x : ClientState). x.interface) binds.1;
  rows = refl;
  told = λ x r at. absurd (none_at x r at);
  waits = tt;
  accepted = λ x k e. absurd (none_numbered x k e);
  phase = λ s. unbound (ap (λ (x : ClientState). is_bound x) binds.1) (ap (λ (x : ClientState). x.call) binds.1) refl refl;
}
  where
    none_at : (x : ℕ) (r : Row) → (let rs : List Row = [] in slice_get rs x) ≡ Some r → ⊥
    none_at x r at = absurd (cc (at))

    none_numbered : (x k : ℕ) → number_in (slice_get [] x) ≡ Some k → ⊥
    none_numbered x k e = absurd (cc (e))

-- ---- a call is started

not_binding : (stage : Stage) (b : Bool) → is_bound_at stage ≡ true → (is_binding_at stage && b) ≡ false
not_binding stages.Unbound b h = refl
not_binding stages.Binding b h = absurd (cc (h))
not_binding stages.Bound b h = refl

abbrev out_of : ClientState → ℕ → Msg → Calling
out_of s op m = record { id = next_id s; op = op; message = m; joining = Ok None }

false_true : (b : Bool) → b ≡ false → b ≡ true → ⊥
false_true b f t = absurd (cc (f, t))

calls_none : (call : Option Calling) (c : Calling) → call ≡ Some c → is_some call ≡ false → ⊥
calls_none None c e h = absurd (cc (e))
calls_none (Some d) c e h = absurd (cc (h))

starts_phase : (table : TableForm) (past : List Entry) (l : Line) (op : ℕ) (m : Msg) (octets : List ℕ) (state : ClientState) (o : OpForm) (js : List Joined) (maybe : Bool) → o.maybe ≡ maybe → state ≡ with_call l.caller.state op m maybe
    → is_bound l.caller.state ≡ true → is_calling l.caller.state ≡ false → length js ≡ length l.caller.rows → Phase l past js → Phase (starting table l op m octets state) past (js ++ request_of l.caller.state op o m ∷ [])
starts_phase table past l op m octets state o js maybe is after bound none rows (unbound no_bound no_call nothing way) = absurd (false_true (is_bound l.caller.state) no_bound bound)
starts_phase table past l op m octets state o js maybe is after bound none rows (binding no_bound no_call nothing has p way) = absurd (false_true (is_bound l.caller.state) no_bound bound)
starts_phase table past l op m octets state o js maybe is after bound none rows (calling c x j out has fresh at wants id only way) = absurd (calls_none l.caller.state.call c out.out.call none)
starts_phase table past l op m octets state o js maybe is after bound none rows (answering c x said executed later out has all says left way) = absurd (calls_none l.caller.state.call c out.out.call none)
starts_phase table past l op m octets state o js maybe is after bound none rows (dropped c x out has all way) = absurd (calls_none l.caller.state.call c out.out.call none)
starts_phase table past l op m octets state o js true is after bound none rows (free no_call has only way) =
    free (ap (λ (x : ClientState). x.call) after) has (λ x j le at. wants x j le (of_more js (request_of l.caller.state op o m) x j at)) way
  where
    wants : (x : ℕ) (j : Joined) → answered l.server ≤ x → OfMore js (request_of l.caller.state op o m) x j → j.maybe ≡ true
    wants x j le (before at) = only x j le at
    wants x j le (last place same) = ap (λ (i : Joined). i.maybe) same ∙ is
starts_phase table past l op m octets state o js false is after bound none rows (free no_call has only way) =
    let call = out_of l.caller.state op m in
    calling call (length js) (request_of l.caller.state op o m)
    (record {
      out = record { call = ap (λ (x : ClientState). x.call) after; no_bind = ap (λ (x : ClientState). is_binding_at x.stage && eqb (next_id l.caller.state) bind_id) after ∙ not_binding l.caller.state.stage (eqb (next_id l.caller.state) bind_id) bound };
      last_row = length_more l.caller.rows (new_row op m) ∙ ap (λ (n : ℕ). n + 1) (sym rows);
      row = new_row op m;
      is_row = ap (λ (n : ℕ). slice_get (l.caller.rows ++ new_row op m ∷ []) n) rows ∙ more_last l.caller.rows (new_row op m);
      op = refl;
      message = refl;
    }) has refl (more_last js (request_of l.caller.state op o m)) is refl (λ y i le at. only_it y i le (of_more js (request_of l.caller.state op o m) y i at)) way
  where
    only_it : (y : ℕ) (i : Joined) → answered l.server ≤ y → OfMore js (request_of l.caller.state op o m) y i → (i.maybe ≡ true) ⊎ (y ≡ length js)
    only_it y i le (before at) = inl (only y i le at)
    only_it y i le (last place same) = inr place

pub starts_true : (table : TableForm) (past : List Entry) (l : Line) (op : ℕ) (m : Msg) (octets : List ℕ) (state : ClientState) → is_bound l.caller.state ≡ true → is_calling l.caller.state ≡ false → Calls l.caller.state op m (Ok octets) state
    → l.standing ≡ true → TrueLine table past l → TrueLine table past (starting table l op m octets state)
starts_true table past l op m octets state bound none (o, found, (short, (request, after))) stands t =
    let j = request_of l.caller.state op o m in
    let first : List Ask = asks.Call j ∷ [] in
    let js_is : calls_in (t.asked ++ first) ≡ calls_in t.asked ++ j ∷ [] = calls_append t.asked first in
    record {
      asked = t.asked ++ first;
      begun = ask_more l.caller.events (callers.at_start table) l.caller.state state (DidCall op m octets) t.asked first t.begun (o, found, (short, (request, after))) (o, found, refl);
      interface = ap (λ (x : ClientState). x.interface) after ∙ t.interface;
      rows = ap length js_is ∙ (length_more (calls_in t.asked) j ∙ (ap (λ (n : ℕ). n + 1) t.rows ∙ sym (length_more l.caller.rows (new_row op m))));
      told = λ x r at. told x r (of_more l.caller.rows (new_row op m) x r at);
      waits = t.waits;
      accepted = λ x k e. subst (λ (js : List Joined). WasAccepted table past js x k) (sym js_is) (was_with table past (calls_in t.asked) (j ∷ []) x k (t.accepted x k e));
      phase = λ s. subst (λ (js : List Joined). Phase (starting table l op m octets state) past js) (sym js_is) (starts_phase table past l op m octets state o (calls_in t.asked) o.maybe refl after bound none t.rows (t.phase stands));
    }
  where
    told : (x : ℕ) (r : Row) → OfMore l.caller.rows (new_row op m) x r → Knows table past (starting table l op m octets state) x r r.fate
    told x r (before at) = knows_same table past l _ (l.up ++ octets) l.down l.standing x r r.fate (t.told x r at)
    told x r (last place is) = subst (λ (z : Row). Knows table past (starting table l op m octets state) x z z.fate) (sym is) tt

-- ---- a call is called off

calls_cancel : (asked : List Ask) (call : Option Calling) → calls_in (asked ++ cancel_asked call) ≡ calls_in asked
calls_cancel asked None = calls_append asked [] ∙ append-nil (calls_in asked)
calls_cancel asked (Some c) = calls_append asked (asks.Cancel c.id ∷ []) ∙ append-nil (calls_in asked)

phase_cancel : (table : TableForm) (past : List Entry) (l : Line) (octets : List ℕ) (js : List Joined) → Phase l past js → Phase (cancelling table l octets l.caller.state) past js
phase_cancel table past l octets js (unbound a b c d) = unbound a b c d
phase_cancel table past l octets js (binding a b c d p e) = binding a b c d p e
phase_cancel table past l octets js (free a b c d) = free a b c d
phase_cancel table past l octets js (calling c x j out a b d e f g i) = calling c x j (record { out = out.out; last_row = out.last_row; row = out.row; is_row = out.is_row; op = out.op; message = out.message }) a b d e f g i
phase_cancel table past l octets js (answering c x said executed later out a b says d e) =
    answering c x said executed later (record { out = out.out; last_row = out.last_row; row = out.row; is_row = out.is_row; op = out.op; message = out.message }) a b (says_same past l _ (l.up ++ octets) l.down x said executed says) d e
phase_cancel table past l octets js (dropped c x out a b d) = dropped c x (record { out = out.out; last_row = out.last_row; row = out.row; is_row = out.is_row; op = out.op; message = out.message }) a b d

pub cancels_true : (table : TableForm) (past : List Entry) (l : Line) (octets : List ℕ) (state : ClientState) → Cancels l.caller.state (Ok octets) state → l.standing ≡ true → TrueLine table past l
    → TrueLine table past (cancelling table l octets state)
cancels_true table past l octets state cancels stands t =
    let first = cancel_asked l.caller.state.call in
    record {
      asked = t.asked ++ first;
      begun = ask_more l.caller.events (callers.at_start table) l.caller.state state (DidCancel octets) t.asked first t.begun cancels refl;
      interface = ap (λ (x : ClientState). x.interface) cancels.1 ∙ t.interface;
      rows = ap length (calls_cancel t.asked l.caller.state.call) ∙ t.rows;
      told = λ x r at. knows_same table past l _ (l.up ++ octets) l.down l.standing x r r.fate (t.told x r at);
      waits = t.waits;
      accepted = subst (λ (js : List Joined). AllAccepted table past js l.server.numbers) (sym (calls_cancel t.asked l.caller.state.call)) t.accepted;
      phase = λ s. subst (λ (x : ClientState). Phase (cancelling table l octets x) past (calls_in (t.asked ++ first))) (sym cancels.1)
          (subst (λ (js : List Joined). Phase (cancelling table l octets l.caller.state) past js) (sym (calls_cancel t.asked l.caller.state.call)) (phase_cancel table past l octets (calls_in t.asked) (t.phase stands)));
    }

-- ---- a connection is lost

rows_told : (out : Bool) (rows : List Row) (x : ℕ) (r : Row) → slice_get (told_if out fates.Lost rows) x ≡ Some r → OfLast fates.Lost rows x r
rows_told true rows x r at = of_last fates.Lost rows x r at
rows_told false rows x r at = old at

pub lost_true : (table : TableForm) (past : List Entry) (l : Line) → TrueLine table past l → TrueLine table past (lost_line l)
lost_true table past l t = record {
  asked = t.asked;
  begun = subst (λ (a : List Ask). EventsAsk (callers.at_start table) (l.caller.events ++ Lost (is_calling l.caller.state) ∷ []) (callers.at_start l.caller.state.interface) a) (append-nil t.asked)
      (ask_more l.caller.events (callers.at_start table) l.caller.state (callers.at_start l.caller.state.interface) (Lost (is_calling l.caller.state)) t.asked [] t.begun (refl, refl) refl);
  interface = t.interface;
  rows = t.rows ∙ sym (rows_if (is_calling l.caller.state) fates.Lost l.caller.rows);
  told = λ x r at. told x r (rows_told (is_calling l.caller.state) l.caller.rows x r at);
  waits = t.waits;
  accepted = t.accepted;
  phase = λ s. absurd (cc (s));
}
  where
    told : (x : ℕ) (r : Row) → OfLast fates.Lost l.caller.rows x r → Knows table past (lost_line l) x r r.fate
    told x r (old at) = knows_same table past l _ [] [] false x r r.fate (t.told x r at)
    told x r (changed was at is count) = subst (λ (z : Row). Knows table past (lost_line l) x z z.fate) (sym is) tt
