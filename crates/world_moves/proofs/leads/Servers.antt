-- Octets that are on the way to the server may come there.
use Rattle.std.proofs.Common.{◌≡◌, ℕ, List, [], ◌∷◌, ◌++◌, take, drop, refl, sym, ap, ◌∙◌, append_assoc, append-nil, arith}
use Rattle.std.proofs.lemmas.List.{length-take-le, take-append-drop}
use Rattle.conn_asks.specs.States.{with_octets}
use Rattle.conn_histories.specs.Histories.{stream}
use Rattle.conn_histories.specs.Histories.Event.{Came}
use Rattle.conn_histories.proofs.Along.{put_in_order}
use Rattle.ndr_laws.specs.Laws.{ReadIsStub}
use Rattle.client_core.specs.Histories.{sent}
use Rattle.world_laws.specs.Ends.{Line}
use Rattle.world_laws.specs.Worlds.{with_line}
use Rattle.world_laws.proofs.Serving.{line_on}
use Rattle.world_laws.proofs.Moving.{holds}
use Rattle.world_laws.proofs.Worlds.{is_true}
use Rattle.world_moves.specs.Leads.{ServersLead}
use Rattle.world_moves.proofs.leads.Fits.{fit_on}
use Rattle.world_moves.proofs.leads.Going.{Ready, goes_on}
use Rattle.world_moves.proofs.leads.Walking.{all_fit}

pub servers_lead : ReadIsStub → ServersLead
servers_lead law table played w c n fits few p (i, l, at, named, stands, (some, enough)) =
    let h = (holds table played w fits few p).lines i l at in
    let t = (is_true table played w fits few p).lines i l at in
    let front = take n l.up in
    let left = drop n l.up in
    let whole : l.up ≡ front ++ left = sym (take-append-drop n l.up) in
    let state = with_octets l.server.state front in
    let came : sent l.caller.events ≡ stream (l.server.events ++ Came front ∷ []) ++ left =
    h.ways stands ∙ (ap (λ (x : List ℕ). stream l.server.events ++ x) whole ∙ (sym (append_assoc (stream l.server.events) front left)
    ∙ ap (λ (x : List ℕ). x ++ left) (sym ((put_in_order l.server.events (Came front ∷ [])).0.came ∙ ap (λ (x : List ℕ). stream l.server.events ++ x) (append-nil front))))) in
    let m : Line = record l { up = left; down = l.down ++ []; server = record l.server { events = l.server.events ++ Came front ∷ []; state = state } } in
    let ready : Ready table m = record {
      holds = line_on table l (Came front) state l.server left (l.down ++ []) fits few h refl (omega arith) came;
      standing = stands;
      asked = (t.asked, t.begun);
      fit = fit_on table w.past w.past l.server l.server (Came front) state refl (refl, refl) (all_fit table played w p i l at);
    } in
    let (line, past, goes) = goes_on table fits few law m w.past ready in (
      with_line w i line past,
      (
        i,
        l,
        at,
        named,
        stands,
        record {
          front = front;
          left = left;
          way = (whole, length-take-le n l.up enough, some);
          came = m;
          then_ = w.past;
          comes = record { state = state; happens = refl; after = l.server; means = (refl, refl); then_ = refl };
          line = line;
          past = past;
          goes_on = goes;
          after = refl;
        },
      ),
    )
