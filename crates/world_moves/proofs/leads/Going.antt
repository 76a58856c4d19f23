-- The server's end of a connection comes to rest.
use Rattle.std.proofs.Common.{◌≡◌, ℕ, zero, suc, ◌<◌, ◌≤◌, ◌^◌, ◌⊎◌, inl, inr, Bool, true, false, List, [], ◌∷◌, ◌++◌, length, Option, Some, None, Ok, refl, sym, ap, subst, ◌∙◌, arith}
use Rattle.std.proofs.lemmas.List.{length-append}
use Rattle.std.specs.Prelude.{is_some}
use Rattle.std.specs.List.{list_any}
use Rattle.rpc_base.specs.Fields.{FitsSyntax}
use Rattle.handle_model.specs.declared.entry.Entry.{Entry}
use Rattle.handle_model.specs.declared.entry.Said.{Said}
use Rattle.handle_model.specs.declared.entry.Said.TheVariants as said
use Rattle.handle_model.specs.declared.reply.Reply.{Reply as Replied}
use Rattle.handle_model.specs.declared.reply.Reply.TheVariants.{Never}
use Rattle.handle_model.specs.Replies.{replies}
use Rattle.pdu_codec.specs.declared.pdu.Pdu.{Pdu}
use Rattle.pdu_codec.specs.declared.pdu.BindAckBody.{BindAckBody}
use Rattle.pdu_codec.proofs.PduLaws.{pdu_long}
use Rattle.pdu_codec.specs.Constants.{stub_offset}
use Rattle.pdu_stream.specs.Pieces.{piece_size}
use Rattle.pdu_stream.proofs.Covers.{pieces_cover}
use Rattle.ndr_table.specs.Tables.{TableForm}
use Rattle.ndr_laws.specs.Laws.{ReadIsStub}
use Rattle.conn_asks.specs.declared.events.Caller.{Caller}
use Rattle.conn_asks.specs.declared.events.Act.{Act}
use Rattle.conn_asks.specs.declared.events.Act.TheVariants as acts
use Rattle.conn_asks.specs.declared.events.Waits.{Waits}
use Rattle.conn_asks.specs.declared.events.Waits.TheVariants.{Nothing, Group, Call, Over}
use Rattle.conn_asks.specs.Answers.{Replies, response_octets}
use Rattle.conn_asks.specs.States.{ConnState, TakesPdu, SkipsAll, Acts, IsStuck, Goes, BoundAt, RefusedAt, RepliedAt}
use Rattle.conn_histories.specs.Histories.{Decision, Event, Happens, AnswersDecision, put, stream}
use Rattle.conn_histories.specs.Histories.Event.{Paused, Did, Decided}
use Rattle.conn_histories.specs.Histories.Decision.{ToGroup, RefuseGroup, Reply}
use Rattle.conn_histories.specs.Events.{word_of, has_run}
use Rattle.world_laws.specs.Journals.{home, journal, bind_refusal, next_conn, joined}
use Rattle.world_laws.specs.Ends.{Waiting, ServerEnd, Line}
use Rattle.world_laws.specs.Ends.{Waiting as waiting}
use Rattle.world_laws.specs.Serving.{is_word_due, awaiting, numbered, Decides, ActMeans, OfMember, OfCall, Requests, Means, ServerDoes, ServerGoesOn}
use Rattle.rpc_base.specs.declared.identifiers.SyntaxId.{SyntaxId}
use Rattle.pdu_stream.specs.declared.joined.Joined.{Joined}
use Rattle.presentation.specs.declared.verdict.Accepted.{Accepted}
use Rattle.presentation.specs.Offers.{interface_of}
use Rattle.conn_asks.specs.declared.events.Agreement.{Agreement}
use Rattle.conn_asks.specs.declared.events.Ask.{Ask}
use Rattle.conn_asks.specs.declared.events.Ask.TheVariants as asks
use Rattle.conn_asks.specs.declared.events.ConnFault.{ConnFault}
use Rattle.conn_asks.specs.States.{accepted, ActsOnCall, DoesWith, IsCalling}
use Rattle.conn_histories.specs.Histories.{act_octets}
use Rattle.conn_histories.proofs.Passing.{IsLasting, Done, done_by}
use Rattle.conn_histories.proofs.Passing.Done.{calls_off, lasts}
use Rattle.conn_histories.proofs.Walks.{over_takes}
use Rattle.conn_histories.proofs.Decided.{skips_keep}
use Rattle.world_laws.specs.Journals.{IsCancelled, IsOrphaned}
use Rattle.world_laws.specs.Counts.{does_in}
use Rattle.world_laws.proofs.Holds.{LineHolds}
use Rattle.world_laws.proofs.Serving.{brings, count_of, line_on, silent}
use Rattle.world_laws.proofs.Leading.{some_leave}
use Rattle.pdu_codec.specs.Pdus.{pdu_octets}
use Rattle.pdu_codec.specs.Constants.{only_frag}
use Rattle.conn_asks.specs.Answers.{agreement_with, bind_ack, bind_nak}
use Rattle.conn_asks.specs.declared.events.Waits.TheVariants.{Failed}
use Rattle.world_moves.proofs.leads.Acting.{Onward, next_of}
use Rattle.world_moves.proofs.leads.Meaning.{some_cancel, some_orphan, some_request}
use Rattle.world_moves.proofs.leads.Stages.{AsksOf, Stands, Stage, to_group, stands, goes, onward}
use Rattle.world_moves.proofs.leads.Stages.Stage.{unbound, asking, bound, over}
use Rattle.world_moves.proofs.leads.Fits.{Linked, Fit, fit_on}
use Rattle.world_moves.proofs.leads.Fits.Linked.{free as at_free, grouping as at_grouping, refusing as at_refusing, calling as at_calling, over as at_over}

-- ---- what is answered

some_reply : (c : Caller) (most : ℕ) (maybe executed : Bool) (word : Option Said) → 1432 ≤ most → (octets : List ℕ) × Replies c most maybe executed word octets
some_reply c most true executed word long = ([], refl)
some_reply c most false executed None long = ([], refl)
some_reply c most false executed (Some (said.Fault status)) long = (_, refl)
some_reply c most false executed (Some (said.Out stub)) long =
    let p = pieces_cover (piece_size most stub_offset) stub (omega (arith, long)) in
    (response_octets c true p.0, (p.0, p.1, refl))

-- ---- a connection on which something happens

pub record Ready (table : TableForm) (l : Line) : Type 0 where
  pub holds : LineHolds table l
  pub standing : l.standing ≡ true
  pub asked : AsksOf table l
  pub fit : Fit l.server

abbrev behind : Line → Event → ConnState → ServerEnd → Line
behind l event state after = record l { server = record after { events = l.server.events ++ event ∷ []; state = state }; down = l.down ++ put (event ∷ []) }

does : (table : TableForm) (l : Line) (past new : List Entry) (event : Event) (state : ConnState) (after : ServerEnd) → Happens l.server.state event state → Means (table ∷ []) past l.server event after new
    → ServerDoes (table ∷ []) l past event (behind l event state after) new
does table l past new event state after h m = record { state = state; happens = h; after = after; means = m; then_ = refl }

ready_on : (table : TableForm) (l : Line) (past new : List Entry) (event : Event) (state : ConnState) (after : ServerEnd) → FitsSyntax table.id → length table.ops ≤ 2 ^ 16 → stream (event ∷ []) ≡ []
    → Happens l.server.state event state → Means (table ∷ []) past l.server event after new → Ready table l → Ready table (behind l event state after)
ready_on table l past new event state after fits few none h m r = record {
  holds = line_on table l event state after l.up (l.down ++ put (event ∷ [])) fits few r.holds h (count_of past new l.server after (does_in event) (brings table past new l.server after event m)) (silent l event none (r.holds.ways r.standing));
  standing = r.standing;
  asked = r.asked;
  fit = fit_on table past new l.server after event state h m r.fit;
}

abbrev pub GoesOn : TableForm → Line → List Entry → Type 0
GoesOn table l past = (m : Line) × (new : List Entry) × ServerGoesOn (table ∷ []) l past m new

pauses : (table : TableForm) (l : Line) (past : List Entry) (n : ConnState) → is_word_due past l.server.waiting ≡ false → Goes l.server.state (Ok None) n → GoesOn table l past
pauses table l past n due g = (behind l Paused n l.server, past, ([], does table l past past Paused n l.server g (due, refl, refl)))

-- ---- an act

takes_less : (m n : ConnState) (p : Pdu) → TakesPdu m p n → length n.rest < length m.rest
takes_less m n p t = omega (arith, ap length t.next.2, length-append t.next.0 n.rest, pdu_long p t.next.0 t.next.1)

skips_less : (m : ConnState) (ps : List Pdu) (n : ConnState) → SkipsAll m ps n → length n.rest ≤ length m.rest
skips_less m [] n e = omega (arith, ap (λ (x : ConnState). length x.rest) e)
skips_less m (p ∷ ps) n all = omega (arith, takes_less m all.0 p all.1.takes, skips_less all.0 ps n all.2)

acts_less : (m n : ConnState) (act : Act) → Goes m (Ok (Some act)) n → (length n.rest < length m.rest) ⊎ (n.waits ≡ Over)
acts_less m n act g = by_end g.3
  where
    by_end : Acts g.1 act n → (length n.rest < length m.rest) ⊎ (n.waits ≡ Over)
    by_end (inl a) = inl (omega (arith, takes_less g.1 n a.0 a.1.takes, skips_less m g.0 g.1 g.2))
    by_end (inr s) = inr (ap (λ (x : ConnState). x.waits) s.1.after)

act_live : (x n : ConnState) (act : Act) → Acts x act n → x.waits ≡ Over → ⊥
act_live x n act (inl (p, a)) o = over_takes x n p o a.takes
act_live x n act (inr (fault, s)) o = absurd (cc (s.free, o))

calls_by : (number : Option ℕ) (j i : Joined) (k : ℕ) (w : Waits) → ActsOnCall number j (acts.Call i k) w → IsCalling w
calls_by (Some n) j i k w d = (_, _, d.1)
calls_by None j i k w d = absurd (cc (d.0))

call_waits : (ids : List SyntaxId) (a : List Accepted) (agreement : Agreement) (old : Waits) (ask : Ask) (j : Joined) (k : ℕ) (w : Waits) → DoesWith ids a agreement old ask (acts.Call j k) w → IsCalling w
call_waits ids a agreement old (asks.Bind c flags b) j k w d = absurd (cc (d.0))
call_waits ids a agreement old (asks.Alter c b) j k w d = absurd (cc (d.0))
call_waits ids a agreement old (asks.Call i) j k w d = calls_by (interface_of a i.context) i j k w d
call_waits ids a agreement old (asks.Cancel id) j k w d = absurd (cc (d.1))
call_waits ids a agreement old (asks.Orphan id) j k w d = absurd (cc (d.1))
call_waits ids a agreement old (asks.Broken c f) j k w d = absurd (cc (d.0))

call_calls : (x n : ConnState) (j : Joined) (k : ℕ) → Acts x (acts.Call j k) n → IsCalling n.waits
call_calls x n j k (inl (p, a)) = call_waits x.ids (accepted x) x.agreement x.waits a.ask j k n.waits a.does
call_calls x n j k (inr (fault, s)) = absurd (cc (s.act_is))

off_calls : (x n : ConnState) (act : Act) → (IsLasting act → ⊥) → act_octets act ≡ [] → ((octets : List ℕ) (why : ConnFault) → act ≡ acts.Close octets why → ⊥) → Acts x act n → IsCalling x.waits
off_calls x n act off none no_close (inr (fault, s)) = absurd (no_close _ _ s.act_is)
off_calls x n act off none no_close (inl (p, a)) = by (done_by x.ids (accepted x) x.agreement x.waits a.ask act n.waits a.does)
  where
    by : Done x.waits a.ask act n.waits → IsCalling x.waits
    by (calls_off o same l calling) = calling
    by (lasts l o) = absurd (off l)

grouped_at : (n : ConnState) (g : Bool) (left : List Ask) → IsCalling n.waits → Stage n g left → g ≡ true
grouped_at n g left (c, maybe, w) (unbound c2 flags b others w2 is long plain) = absurd (cc (w, w2))
grouped_at n g left (c, maybe, w) (asking c2 ack w2 long plain) = absurd (cc (w, w2))
grouped_at n g left (c, maybe, w) (bound e long plain fine none) = e
grouped_at n g left (c, maybe, w) (over w2) = absurd (cc (w, w2))

long_at : (n : ConnState) (g : Bool) (left : List Ask) → IsCalling n.waits → Stage n g left → 1432 ≤ n.agreement.max_xmit
long_at n g left (c, maybe, w) (unbound c2 flags b others w2 is long plain) = absurd (cc (w, w2))
long_at n g left (c, maybe, w) (asking c2 ack w2 long plain) = absurd (cc (w, w2))
long_at n g left (c, maybe, w) (bound e long plain fine none) = long
long_at n g left (c, maybe, w) (over w2) = absurd (cc (w, w2))

some_of : (o : Option ℕ) → is_some o ≡ true → (c : ℕ) × (o ≡ Some c)
some_of None e = absurd (cc (e))
some_of (Some c) e = (c, refl)

call_out : (past : List Entry) (v : Waits) (w : Waiting) → IsCalling v → is_word_due past w ≡ false → Linked v w → (k : ℕ) × (w ≡ waiting.Call k)
call_out past v w (c, maybe, e) due (at_free a b) = absurd (cc (e, a))
call_out past v w (c, maybe, e) due (at_grouping c2 ack asked a b) = absurd (cc (e, a))
call_out past v w (c, maybe, e) due (at_refusing c2 m2 status a b) = absurd (cc (due, ap (is_word_due past) b))
call_out past v w (c, maybe, e) due (at_calling c2 m2 k a b) = (k, b)
call_out past v w (c, maybe, e) due (at_over a b) = absurd (cc (e, a))

some_act : (table : TableForm) (l : Line) (past : List Entry) (n : ConnState) (act : Act) → ReadIsStub → Goes l.server.state (Ok (Some act)) n → is_word_due past l.server.waiting ≡ false → Fit l.server → Stands n l.up (list_any to_group l.server.events)
    → (t : ServerEnd) × (new : List Entry) × ActMeans (table ∷ []) past l.server act t new
some_act table l past n (acts.Answer octets) law g due f s = (numbered l.server None l.server.waiting, past, (refl, refl))
some_act table l past n (acts.Group asked) law g due f s = (awaiting l.server (waiting.Bind asked), past, (refl, refl))
some_act table l past n (acts.Call j k) law g due f s =
    let live : l.server.state.waits ≡ Over → ⊥ = λ o. act_live g.1 n (acts.Call j k) g.3 ((skips_keep l.server.state g.0 g.1 g.2).0 ∙ o) in
    let (c, is) = some_of l.server.member (f.member (grouped_at n _ s.left (call_calls g.1 n j k g.3) s.stage) live) in
    let (t, new, r) = some_request table past l.server j k c law in
    (t, new, subst (λ (o : Option ℕ). OfMember o (λ d. Requests (table ∷ []) past l.server j k d t new)) (sym is) r)
some_act table l past n (acts.Cancel id) law g due f s =
    let (k, is) = call_out past l.server.state.waits l.server.waiting (subst IsCalling (skips_keep l.server.state g.0 g.1 g.2).0 (off_calls g.1 n (acts.Cancel id) (λ x. x) refl (λ octets why e. absurd (cc (e))) g.3)) due f.linked in
    let (new, c) = some_cancel past k in
    (l.server, new, (refl, subst (λ (w : Waiting). OfCall w (λ i. IsCancelled past i new)) (sym is) c))
some_act table l past n (acts.Orphan id) law g due f s =
    let (k, is) = call_out past l.server.state.waits l.server.waiting (subst IsCalling (skips_keep l.server.state g.0 g.1 g.2).0 (off_calls g.1 n (acts.Orphan id) (λ x. x) refl (λ octets why e. absurd (cc (e))) g.3)) due f.linked in
    let (new, c) = some_orphan past k in
    (l.server, new, (refl, subst (λ (w : Waiting). OfCall w (λ i. IsOrphaned past i new)) (sym is) c))
some_act table l past n (acts.Close octets why) law g due f s =
    let (new, leaves) = some_leave past l.server.member in (record l.server { waiting = waiting.Nothing; member = None }, new, (refl, leaves))

-- ---- the server's word

record Word (table : TableForm) (l : Line) (past : List Entry) : Type 0 where
  decision : Decision
  octets : List ℕ
  state : ConnState
  after : ServerEnd
  new : List Entry
  happens : AnswersDecision l.server.state decision octets state
  decides : Decides (table ∷ []) past l.server l.server.waiting decision after new
  rest : state.rest ≡ l.server.state.rest
  none : after.waiting ≡ waiting.Nothing

say : (table : TableForm) (l : Line) (past : List Entry) (c : Caller) (maybe : Bool) (reply : Replied) → l.server.state.waits ≡ Call c maybe → 1432 ≤ l.server.state.agreement.max_xmit
    → Decides (table ∷ []) past l.server l.server.waiting (Reply (word_of reply) (has_run reply)) (awaiting l.server waiting.Nothing) past → Word table l past
say table l past c maybe reply w long d =
    let m = l.server.state in
    let (octets, r) = some_reply c m.agreement.max_xmit maybe (has_run reply) (word_of reply) long in
    record {
      decision = Reply (word_of reply) (has_run reply);
      octets = octets;
      state = record m { waits = Nothing };
      after = awaiting l.server waiting.Nothing;
      new = past;
      happens = subst (λ (v : Waits). RepliedAt v m (word_of reply) (has_run reply) octets (record m { waits = Nothing })) (sym w) (r, refl);
      decides = d;
      rest = refl;
      none = refl;
    }

bind_word : (table : TableForm) (l : Line) (past : List Entry) (c : Caller) (ack : BindAckBody) (asked : ℕ) → l.server.state.waits ≡ Group c ack → l.server.waiting ≡ waiting.Bind asked → (why : Option ℕ) → bind_refusal past asked ≡ why → Word table l past
bind_word table l past c ack asked w is None e =
    let m = l.server.state in
    let n : ConnState = record m { waits = Nothing; agreement = agreement_with ack home.group } in
    let t : ServerEnd = record l.server { waiting = waiting.Nothing; member = Some (next_conn past) } in
    let octets = pdu_octets (bind_ack c only_frag (agreement_with ack home.group) ack.results) in
    record { decision = ToGroup home.group; octets = octets; state = n; after = t; new = joined past; happens = subst (λ (v : Waits). BoundAt v m home.group octets n) (sym w) (refl, refl); decides = subst (λ (x : Waiting). Decides (table ∷ []) past l.server x (ToGroup home.group) t (joined past)) (sym is) (e, refl, refl, refl); rest = refl; none = refl }
bind_word table l past c ack asked w is (Some reason) e =
    let m = l.server.state in
    let n : ConnState = record m { waits = Over } in
    let t = awaiting l.server waiting.Nothing in
    let octets = pdu_octets (bind_nak c reason) in
    record { decision = RefuseGroup reason; octets = octets; state = n; after = t; new = past; happens = subst (λ (v : Waits). RefusedAt v m reason octets n) (sym w) (refl, refl); decides = subst (λ (x : Waiting). Decides (table ∷ []) past l.server x (RefuseGroup reason) t past) (sym is) (e, refl, refl); rest = refl; none = refl }

word : (table : TableForm) (l : Line) (past : List Entry) → is_word_due past l.server.waiting ≡ true → Stands l.server.state l.up (list_any to_group l.server.events) → Linked l.server.state.waits l.server.waiting → Word table l past
word table l past due s (at_free a b) = absurd (cc (due, ap (is_word_due past) b))
word table l past due s (at_over a b) = absurd (cc (due, ap (is_word_due past) b))
word table l past due s (at_grouping c ack asked a b) = bind_word table l past c ack asked a b (bind_refusal past asked) refl
word table l past due s (at_refusing c maybe status a b) =
    say table l past c maybe (Never status) a (long_at l.server.state _ s.left (c, maybe, a) s.stage) (subst (λ (x : Waiting). Decides (table ∷ []) past l.server x (Reply (word_of (Never status)) (has_run (Never status))) (awaiting l.server waiting.Nothing) past) (sym b) ((refl, refl), refl))
word table l past due s (at_calling c maybe k a b) =
    let r = replies (journal past) k in
    say table l past c maybe r a (long_at l.server.state _ s.left (c, maybe, a) s.stage) (subst (λ (x : Waiting). Decides (table ∷ []) past l.server x (Reply (word_of r) (has_run r)) (awaiting l.server waiting.Nothing) past) (sym b) ((refl, refl), refl))

over_due : (past : List Entry) (v : Waits) (w : Waiting) → v ≡ Over → Linked v w → is_word_due past w ≡ false
over_due past v w o (at_free a b) = absurd (cc (o, a))
over_due past v w o (at_over a b) = ap (is_word_due past) b
over_due past v w o (at_grouping c ack asked a b) = absurd (cc (o, a))
over_due past v w o (at_refusing c maybe status a b) = absurd (cc (o, a))
over_due past v w o (at_calling c maybe k a b) = absurd (cc (o, a))

rests_over : (table : TableForm) (l : Line) (past : List Entry) → Fit l.server → l.server.state.waits ≡ Over → GoesOn table l past
rests_over table l past f o = pauses table l past l.server.state (over_due past l.server.state.waits l.server.waiting o f.linked) ([], refl, subst (λ (v : Waits). IsStuck v l.server.state.rest) (sym o) tt)

module _ (table : TableForm) (fits : FitsSyntax table.id) (few : length table.ops ≤ 2 ^ 16) (law : ReadIsStub) where
  abbrev Later : ℕ → Type 0
  Later n = (l : Line) (past : List Entry) → length l.server.state.rest < n → Ready table l → GoesOn table l past

  stands_at : (l : Line) → Ready table l → Stands l.server.state l.up (list_any to_group l.server.events)
  stands_at l r = stands table l fits few r.holds r.standing r.asked

  act_on : (n : ℕ) (l : Line) (past : List Entry) (after : ConnState) (act : Act) → length l.server.state.rest < suc n → is_word_due past l.server.waiting ≡ false → Ready table l → Goes l.server.state (Ok (Some act)) after → Later n → GoesOn table l past
  act_on n l past after act lt due r g later =
      let (t, new, means) = some_act table l past after act law g due r.fit (goes l.server.state after (Some act) l.up _ g (stands_at l r)) in
      let on = ready_on table l past new (Did act) after t fits few refl g (due, means) r in
      let next = behind l (Did act) after t in
      let (m, last, (events, more)) = step next new on (acts_less l.server.state after act g) in
      (m, last, (Did act ∷ events, (next, new, does table l past new (Did act) after t g (due, means), more)))
    where
      step : (next : Line) (new : List Entry) → Ready table next → (length next.server.state.rest < length l.server.state.rest) ⊎ (next.server.state.waits ≡ Over) → GoesOn table next new
      step next new on (inl less) = later next new (omega (arith, less, lt)) on
      step next new on (inr o) = rests_over table next new on.fit o

  acting : (n : ℕ) (l : Line) (past : List Entry) → length l.server.state.rest < suc n → is_word_due past l.server.waiting ≡ false → Ready table l → Later n → GoesOn table l past
  acting n l past lt due r later = by (onward l.server.state l.up _ (stands_at l r))
    where
      by_next : (act : Option Act) (after : ConnState) → Goes l.server.state (Ok act) after → GoesOn table l past
      by_next None after g = pauses table l past after due g
      by_next (Some act) after g = act_on n l past after act lt due r g later

      by : (l.server.state.waits ≡ Over) ⊎ ((l.server.state.waits ≡ Failed → ⊥) × Onward l.server.state l.up) → GoesOn table l past
      by (inl o) = rests_over table l past r.fit o
      by (inr (fine, on)) = let x = next_of l.server.state l.up fine on in by_next x.act x.after x.goes

  saying : (n : ℕ) (l : Line) (past : List Entry) → length l.server.state.rest < suc n → is_word_due past l.server.waiting ≡ true → Ready table l → Later n → GoesOn table l past
  saying n l past lt due r later =
      let w = word table l past due (stands_at l r) r.fit.linked in
      let event = Decided w.decision w.octets in
      let on = ready_on table l past w.new event w.state w.after fits few refl w.happens (due, w.decides) r in
      let next = behind l event w.state w.after in
      let (m, last, (events, more)) = acting n next w.new (omega (arith, lt, ap length w.rest)) (ap (is_word_due w.new) w.none) on later in
      (m, last, (event ∷ events, (next, w.new, does table l past w.new event w.state w.after w.happens (due, w.decides), more)))

  by_due : (n : ℕ) (l : Line) (past : List Entry) → length l.server.state.rest < suc n → (due : Bool) → is_word_due past l.server.waiting ≡ due → Ready table l → Later n → GoesOn table l past
  by_due n l past lt true e r later = saying n l past lt e r later
  by_due n l past lt false e r later = acting n l past lt e r later

  within_ : (n : ℕ) → Later n
  within_ zero l past lt r = absurd (omega (arith, lt))
  within_ (suc n) l past lt r = by_due n l past lt (is_word_due past l.server.waiting) refl r (within_ n)

  pub goes_on : (l : Line) (past : List Entry) → Ready table l → GoesOn table l past
  goes_on l past r = within_ (suc (length l.server.state.rest)) l past (omega arith) r
