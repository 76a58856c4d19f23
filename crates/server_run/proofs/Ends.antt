-- What a connection came to, by how it ended.
use Rattle.std.proofs.Common.{◌≡◌, ℕ, ◌≤◌, Bool, true, false, Option, Some, None, List, [], ◌∷◌, refl, sym, ap, ◌∙◌, subst, append-nil, arith}
use Rattle.std.specs.Io.KnownBytes.{append_known, prepend_known}
use Rattle.rpc_outside.specs.Links.{Shown, Closes}
use Rattle.hub_story.specs.Histories.{home_of}
use Rattle.group_hub.specs.declared.hub.Hub.{Hub}
use Rattle.group_hub.specs.declared.pass.Pass.{Pass}
use Rattle.group_hub.specs.Passes.{at_shard}
use Rattle.server_ends.specs.Owning.{Grown}
use Rattle.ndr_table.specs.Tables.{TableForm}
use Rattle.manager_api.specs.Answers.{Ans}
use Rattle.manager_api.specs.Calls.{Call}
use Rattle.conn_asks.specs.declared.events.ConnFault.{ConnFault}
use Rattle.conn_histories.proofs.Asking.{each_asks}
use Rattle.server_steps.specs.declared.wire.Wire.{Wire}
use Rattle.conn_histories.specs.Requests.{ids_of}
use Rattle.conn_histories.specs.declared.turn.Turn.TheVariants.{Closed}
use Rattle.conn_turns.proofs.StepEnding.{quiet_all}
use Rattle.server_steps.specs.declared.working.RunningCall.{RunningCall}
use Rattle.server_steps.specs.declared.working.Server.{Server}
use Rattle.server_ends.specs.declared.ended.Ending.{Ending}
use Rattle.server_ends.specs.declared.ended.Ending.TheVariants as ending
use Rattle.server_ends.specs.declared.ended.Finished.{Finished}
use Rattle.server_ends.specs.Endings.{EndsAs}
use Rattle.server_ends.specs.Finishes.{EntersNone, AsMember, Alone, Finishes}
use Rattle.server_steps.specs.declared.line.Line.{Line}
use Rattle.server_steps.specs.declared.stop.Stop.{Stop}
use Rattle.server_steps.specs.Held.{past_at}
use Rattle.server_steps.specs.Told.{Halted}
use Rattle.server_steps.specs.declared.gone.Gone.{Gone}
use Rattle.server_steps.specs.Early.{IsAlone}
use Rattle.server_steps.specs.Endings.{IsLeft, HasEnded}
use Rattle.server_run.specs.declared.beside.Departed.{Departed}
use Rattle.server_run.specs.Running.{Closing, HasDeparted}

known_none : (k : Option (List ℕ)) → append_known k [] ≡ k
known_none None = refl
known_none (Some zs) = ap Some (append-nil zs)

ahead_none : (k : Option (List ℕ)) → k ≡ prepend_known [] k
ahead_none None = refl
ahead_none (Some zs) = refl

-- ---- nothing was entered

grown_none : (p : Pass) → Grown 0 p p []
grown_none p = record {
  fronts = λ t low. ([], sym (append-nil (at_shard p t).log));
  owns = ([], sym (append-nil (at_shard p 0).own), refl);
  others = λ t low apart. refl;
}

pub none_at_all : (p : Pass) → EntersNone p p
none_at_all p = (0, [], grown_none p, λ g. refl)

module _ {K : Type 0} (shows : K → Shown) (may : Call → Bool → Ans → Type 0) (tables : List TableForm) (boot : ℕ) where
  -- it ended before a bind
  pub alone_early : (p : Pass) (w : Wire K) (why : Stop) → Halted shows (ids_of tables) w why [] → IsAlone shows tables may boot p w p why
  alone_early p w why h = record { enters = none_at_all p; turns = []; unmarked = λ e s low. refl; quiet = tt; over = tt; due = tt; halted = h }

  pub alone_closed : (p : Pass) (w : Wire K) (why : Stop) (octets : List ℕ) (f : ConnFault) → Halted shows (ids_of tables) w why (Closed octets f ∷ []) → IsAlone shows tables may boot p w p why
  alone_closed p w why octets f h = record { enters = none_at_all p; turns = Closed octets f ∷ []; unmarked = λ e s low. refl; quiet = (tt, tt); over = (tt, tt); due = (tt, tt); halted = h }

  pub ends_alone : (p q : Pass) (a : Shown) (w : Wire K) (why : Stop) (k : K) (e : Ending) → IsAlone shows tables may boot p w q why → shows w.first.value ≡ a → Closing shows tables w why k e
      → Alone shows may tables boot p a (record { link = k; pass = q; joined = None; ending = e; retired = None })
  ends_alone p q a w why k e x first closing = record {
    enters = x.enters;
    turns = x.turns;
    unmarked = x.unmarked;
    due = x.due;
    ends = subst (λ (z : Shown). EndsAs (ids_of tables) (home_of boot 0) [] x.turns z e (shows k)) first
        (closing (home_of boot 0) 0 false [] x.turns x.halted (quiet_all 0 false [] x.turns refl x.quiet) x.over);
    retired = refl;
  }

  -- the same pass and link before
  pub finishes_same : (p q : Pass) (v k : K) (r : Finished K) → p ≡ q → v ≡ k → Finishes shows may tables boot p (shows v) r → Finishes shows may tables boot q (shows k) r
  finishes_same p q v k r a b h = subst (λ (z : Pass × K). Finishes shows may tables boot z.0 (shows z.1) r) (λ i. (a i, b i)) h

  -- where there was no memory at all
  pub ends_unserved : (p : Pass) (v k : K) → Closes (shows v) (shows k) → Alone shows may tables boot p (shows v) (record { link = k; pass = p; joined = None; ending = ending.Memory; retired = None })
  ends_unserved p v k c =
      let all = each_asks [] (λ i. omega arith) in
      record {
        enters = none_at_all p;
        turns = [];
        unmarked = λ e s low. refl;
        due = tt;
        ends = record {
          came = [];
          put = [];
          link = record {
            counts = record { faults = subst (λ (n : ℕ). (shows v).faults ≤ n) (sym c.faults) (omega arith); quiets = subst (λ (n : ℕ). (shows v).quiets ≤ n) (sym c.quiets) (omega arith); ends = subst (λ (n : ℕ). (shows v).ends ≤ n) (sym c.ends) (omega arith) };
            taken = c.taken ∙ sym (known_none (shows v).taken);
            left = sym c.left ∙ ahead_none (shows k).left;
            put_is = c.put ∙ sym (known_none (shows v).put);
            closed = c.closed;
          };
          answers = record {
            asked = all.0;
            asks = all.1;
            done = [];
            left = all.0;
            front = refl;
            rest = [];
            answers = record { all = refl; octets_are = refl };
            all = λ x. absurd x;
          };
          because = tt;
        };
        retired = refl;
      }

-- it was in a group
pub ends_member : {K : Type 0} (shows : K → Shown) (may : Call → Bool → Ans → Type 0) (tables : List TableForm) (hub : Hub) (l : Line K) (why : Stop) (k : K) (e : Ending) → IsLeft shows may tables hub l why → Closing shows tables l.wire why k e
    → AsMember shows may tables hub.boot l.began.value (shows l.wire.first.value) l.group l.number (record { link = k; pass = l.pass; joined = Some (l.group, l.number); ending = e; retired = l.retired })
ends_member shows may tables hub l why k e x closing =
    let h = x.held in
    record {
      items = h.items;
      grown = h.grown;
      mine = h.mine;
      own = h.own;
      others = h.others;
      turns = x.turns;
      story = record { made = h.made; none_runs = x.none_runs };
      ends = closing (home_of hub.boot l.group) l.number true (past_at l.pass l.group) x.turns x.halted h.made.stand x.over;
      retired = h.retired_is;
      marks = h.marks_are;
    }

-- it left while its call ran, which has ended
pub ends_departed : {K M : Type 0} (shows : K → Shown) (may : M → Call → Bool → Ans → Type 0) (tables : M → List TableForm) (s : Server M) (old : Line K) (c : RunningCall) (cookies : List (Option ℕ)) (d : Departed K) (m : Gone K)
    → HasDeparted shows may tables s old c cookies d → m.began.value ≡ d.gone.began.value → m.wire.value ≡ d.gone.wire.value → HasEnded shows (may s.manager.now) (tables s.manager.now) s.hub.now m d.why
    → Finishes shows (may s.manager.now) (tables s.manager.now) s.hub.now.boot old.began.value (shows old.wire.first.value) (record { link = d.link; pass = m.pass; joined = Some (m.group, m.number); ending = d.ending; retired = m.retired })
ends_departed shows may tables s old c cookies d m x began wire e =
    let h = e.held in
    let closing : Closing shows (tables s.manager.now) m.wire.value d.why d.link d.ending = subst (λ w. Closing shows (tables s.manager.now) w d.why d.link d.ending) (sym wire) x.closing in
    finishes_same shows (may s.manager.now) (tables s.manager.now) s.hub.now.boot m.began.value old.began.value m.wire.value.first.value old.wire.first.value
    (record { link = d.link; pass = m.pass; joined = Some (m.group, m.number); ending = d.ending; retired = m.retired }) (began ∙ x.began) (ap (λ w. w.first.value) wire ∙ x.first)
    (record {
      items = h.items;
      grown = h.grown;
      mine = h.mine;
      own = h.own;
      others = h.others;
      turns = e.turns;
      story = record { made = h.made; none_runs = e.none_runs };
      ends = closing (home_of s.hub.now.boot m.group) m.number true (past_at m.pass m.group) e.turns e.halted h.made.stand e.over;
      retired = h.retired_is;
      marks = h.marks_are;
    })
