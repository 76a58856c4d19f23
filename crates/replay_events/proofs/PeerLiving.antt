-- An event happens on a connection, and what it answers is printed and counted.
use Rattle.std.proofs.Common.{◌≡◌, ℕ, ◌+◌, ◌^◌, ◌<◌, ◌≤◌, Bool, Option, Some, None, Ok, List, [], ◌∷◌, ◌++◌, length, filter, map, refl, sym, ap, subst, ◌∙◌, append-nil, append_assoc, arith}
use Rattle.std.specs.List.{AllByRecursion}
use Rattle.std.proofs.lemmas.List.{length-append}
use Rattle.std.proofs.lemmas.List.Elements.{filter-append}
use Rattle.rpc_base.specs.Fields.{IsOctets}
use Rattle.pdu_codec.specs.Pdus.{AreSpelled}
use Rattle.desk_counts.specs.Numbers.{Numbers, with_more}
use Rattle.handle_model.specs.declared.entry.Said.{Said}
use Rattle.conn_asks.specs.declared.events.Act.{Act}
use Rattle.conn_asks.specs.Answers.{FitsStub}
use Rattle.conn_asks.specs.States.{ConnState, with_octets, Goes, BoundAt, RefusedAt, RepliedAt}
use Rattle.conn_core.specs.Fields.{ConnFields, IsAt}
use Rattle.conn_histories.specs.Histories.{Decision, Event, Happens, stream, put, act_octets}
use Rattle.conn_histories.specs.Histories.Event.{Came, Paused, Did, Decided}
use Rattle.conn_histories.specs.Histories.Decision.{ToGroup, RefuseGroup, Reply}
use Rattle.replay_world.specs.Worlds.{Peer}
use Rattle.replay_world.specs.Worlds.Printed.{Answered}
use Rattle.server_counts.specs.Pieces.{IsOnePdu}
use Rattle.replay_world.specs.Printing.{out_text}
use Rattle.server_counts.specs.Packets.{ArePackets, ends_call}
use Rattle.replay_world.specs.Answered.{FitsPrinted}
use Rattle.server_counts.specs.declared.place.NewPackets.{NewPackets}
use Rattle.server_counts.specs.Packets.{PacketsView, at_start, Stands, AreMany, Comes}
use Rattle.server_counts.specs.Pieces.{ArePdus}
use Rattle.server_counts.proofs.Fronts.{counted_are_packets}
use Rattle.server_counts.proofs.Steps.{comes_none}
use Rattle.server_counts.proofs.Pieces.{pdus_are_packets, pdus_go_on}
use Rattle.replay_events.specs.declared.played.Played.{Played}
use Rattle.replay_events.specs.Numbered.{IsNumbered, FitsStatus}
use Rattle.replay_events.specs.Showing.{Shows}
use Rattle.replay_events.specs.Living.{living, Tallied, Grows, Moment, LivesOn, Lives, Decides, event_of}
use Rattle.replay_events.specs.Answers.{act_octets_of, Answers}
use Rattle.replay_events.proofs.Streams.{stream_more, put_more}
use Rattle.replay_events.proofs.Staying.{came_numbered, goes_fit, bound_fits, refused_fits, replied_fits}

-- the same connection, but for its machine and what was counted
abbrev pub moved : Played → ConnFields → PacketsView → Played
moved t conn packets = record t { conn = conn; packets = packets }

abbrev pub nothing_new : NewPackets
nothing_new = record { packets = 0; calls = 0 }

-- What came and what was answered with the event: the rest follows.
pub lives_on : (old new : Moment) (p : Peer) (event : Event) (state : ConnState) (conn : ConnFields) (packets : PacketsView) (n : NewPackets) (piece : List ℕ) → Shows old.played p
    → new.played ≡ moved old.played conn packets → Happens p.state event state → IsAt conn state → IsNumbered state → stream (event ∷ []) ≡ piece → Comes old.played.packets piece n packets
    → (pieces : List (List ℕ)) → AreSpelled IsOnePdu pieces (put (event ∷ [])) → new.out ≡ old.out ++ out_text (map (Answered old.played.name) pieces) → AllByRecursion FitsPrinted (map (Answered old.played.name) pieces)
    → new.totals ≡ with_more old.totals n.calls n.packets (length pieces) → LivesOn old p event new
lives_on old new p event state conn packets n piece s is happens at numbered piece_is comes pieces cut out fit totals =
    let later : List Event = p.events ++ event ∷ [] in
    let c = comes s.came (stream p.events) s.counted in
    let came : stream later ≡ stream p.events ++ piece = stream_more p.events (event ∷ []) ∙ ap (λ (t : List ℕ). stream p.events ++ t) piece_is in
    let answered : AreSpelled IsOnePdu (s.answered.0 ++ pieces) (put later) =
    subst (λ (t : List ℕ). AreSpelled IsOnePdu (s.answered.0 ++ pieces) t) (sym (put_more p.events (event ∷ []))) (pdus_go_on s.answered.0 pieces (put p.events) (put (event ∷ [])) s.answered.1 cut) in
    let counted : Stands packets (s.came ++ c.0) (stream later) = subst (λ (t : List ℕ). Stands packets (s.came ++ c.0) t) (sym came) c.1 in
    let all : length (filter ends_call (s.came ++ c.0)) ≡ length (filter ends_call s.came) + length (filter ends_call c.0) =
    ap length (filter-append ends_call s.came c.0) ∙ length-append (filter ends_call s.came) (filter ends_call c.0) in
    record {
      state = state;
      happens = happens;
      shows = subst (λ (t : Played). Shows t (living p event state)) (sym is) (record {
        name = s.name;
        member = s.member;
        unanswered = s.unanswered;
        standing = s.standing;
        at_state = at;
        came = s.came ++ c.0;
        counted = counted;
        answered = (s.answered.0 ++ pieces, answered);
        numbered = numbered;
      });
      lines = map (Answered p.name) pieces;
      printed = record { pieces = pieces; cut = cut; lines_are = refl };
      fit = subst (λ (name : ℕ). AllByRecursion FitsPrinted (map (Answered name) pieces)) s.name fit;
      out = out ∙ ap (λ (name : ℕ). old.out ++ out_text (map (Answered name) pieces)) s.name;
      counts = record {
        calls = length (filter ends_call s.came);
        packets_in = length s.came;
        packets_out = length s.answered.0;
        had = record {
          came = s.came;
          are_came = counted_are_packets old.played.packets s.came (stream p.events) s.counted;
          answered = s.answered.0;
          are_answered = pdus_are_packets s.answered.0 (put p.events) s.answered.1;
          calls_are = refl;
          in_are = refl;
          out_are = refl;
        };
        more_calls = n.calls;
        more_in = n.packets;
        more_out = length pieces;
        has = record {
          came = s.came ++ c.0;
          are_came = counted_are_packets packets (s.came ++ c.0) (stream later) counted;
          answered = s.answered.0 ++ pieces;
          are_answered = pdus_are_packets (s.answered.0 ++ pieces) (put later) answered;
          calls_are = omega (arith, all, c.2.calls);
          in_are = omega (arith, length-append s.came c.0, c.2.packets);
          out_are = omega (arith, length-append s.answered.0 pieces);
        };
        sum = totals;
      };
    }

-- ---- each call

pub nothing_stands : (x : PacketsView) → x ≡ at_start → Stands x [] []
nothing_stands x e = subst (λ (t : PacketsView). Stands t [] []) (sym e) (record { rest = []; front = refl; place = (refl, omega arith) })

pub came_lives : (old new : Moment) (conn : ConnFields) (packets : PacketsView) (n : NewPackets) (piece : List ℕ) → IsOctets piece → new.played ≡ moved old.played conn packets
    → ((m : ConnState) → IsAt old.played.conn m → (x : ConnState) × (x ≡ with_octets m piece) × IsAt conn x) → Comes old.played.packets piece n packets → new.out ≡ old.out
    → new.totals ≡ with_more old.totals n.calls n.packets 0 → Lives old (Came piece) new
unfolding out_text
came_lives old new conn packets n piece fits is leads comes out totals p s =
    let l = leads p.state s.at_state in
    lives_on old new p (Came piece) l.0 conn packets n piece s is l.1 l.2 (subst IsNumbered (sym l.1) (came_numbered p.state piece fits s.numbered)) (append-nil piece) comes [] refl
    (out ∙ sym (append-nil old.out)) tt totals

no_packets : (x : PacketsView) → Comes x [] nothing_new x
no_packets x = comes_none x nothing_new refl refl

-- an answer alone
answer_lives : (old new : Moment) (p : Peer) (event : Event) (state : ConnState) (conn : ConnFields) (octets : List ℕ) → Shows old.played p → new.played ≡ moved old.played conn old.played.packets
    → Happens p.state event state → IsAt conn state → IsNumbered state → stream (event ∷ []) ≡ [] → put (event ∷ []) ≡ octets → Answers old.played.name octets old.totals old.out new.totals new.out → LivesOn old p event new
answer_lives old new p event state conn octets s is happens at numbered none put_is a =
    lives_on old new p event state conn old.played.packets nothing_new [] s is happens at numbered none (no_packets old.played.packets) a.pieces
    (subst (λ (t : List ℕ). AreSpelled IsOnePdu a.pieces t) (sym put_is) a.cut) a.text a.fit a.sum

put_done : (done : Option Act) → put (event_of done ∷ []) ≡ act_octets_of done
put_done None = refl
put_done (Some act) = append-nil (act_octets act)

none_came : (done : Option Act) → stream (event_of done ∷ []) ≡ []
none_came None = refl
none_came (Some act) = refl

happens_done : (done : Option Act) (m n : ConnState) → Goes m (Ok done) n → Happens m (event_of done) n
happens_done None m n goes = goes
happens_done (Some act) m n goes = goes

-- what is answered by the next act of a connection are PDUs
pub done_pdus : (t : Played) (done : Option Act) (conn : ConnFields) → (p : Peer) → Shows t p → ((m : ConnState) → IsAt t.conn m → (x : ConnState) × Goes m (Ok done) x × IsAt conn x) → ArePdus (act_octets_of done)
done_pdus t done conn p s leads = let l = leads p.state s.at_state in (goes_fit p.state l.0 done s.numbered l.1).0

pub done_lives : (old new : Moment) (done : Option Act) (conn : ConnFields) → new.played ≡ moved old.played conn old.played.packets
    → ((m : ConnState) → IsAt old.played.conn m → (x : ConnState) × Goes m (Ok done) x × IsAt conn x) → Answers old.played.name (act_octets_of done) old.totals old.out new.totals new.out → Lives old (event_of done) new
done_lives old new done conn is leads a p s =
    let l = leads p.state s.at_state in
    answer_lives old new p (event_of done) l.0 conn (act_octets_of done) s is (happens_done done p.state l.0 l.1) l.2 (goes_fit p.state l.0 done s.numbered l.1).1 (none_came done) (put_done done) a

-- ---- decisions

-- the octets are the answer to what is decided
abbrev pub Leads : Played → (ConnState → ConnState → Type 0) → ConnFields → Type 0
Leads t Step conn = (m : ConnState) → IsAt t.conn m → (x : ConnState) × Step m x × IsAt conn x

pub bound_pdus : (t : Played) (group : ℕ) (octets : List ℕ) (conn : ConnFields) → (p : Peer) → Shows t p → group < 2 ^ 32 → Leads t (λ m x. BoundAt m.waits m group octets x) conn → ArePdus octets
bound_pdus t group octets conn p s small leads = let l = leads p.state s.at_state in (bound_fits p.state.waits p.state l.0 group octets s.numbered.waits s.numbered small l.1).0

pub bound_lives : (old new : Moment) (group : ℕ) (octets : List ℕ) (conn : ConnFields) → group < 2 ^ 32 → new.played ≡ moved old.played conn old.played.packets
    → Leads old.played (λ m x. BoundAt m.waits m group octets x) conn → Answers old.played.name octets old.totals old.out new.totals new.out → Decides old (ToGroup group) new
bound_lives old new group octets conn small is leads a p s =
    let l = leads p.state s.at_state in
    (octets, answer_lives old new p (Decided (ToGroup group) octets) l.0 conn octets s is l.1 l.2 (bound_fits p.state.waits p.state l.0 group octets s.numbered.waits s.numbered small l.1).1 refl (append-nil octets) a)

pub nak_pdus : (t : Played) (reason : ℕ) (octets : List ℕ) (conn : ConnFields) → (p : Peer) → Shows t p → reason < 2 ^ 16 → Leads t (λ m x. RefusedAt m.waits m reason octets x) conn → ArePdus octets
nak_pdus t reason octets conn p s small leads = let l = leads p.state s.at_state in (refused_fits p.state.waits p.state l.0 reason octets s.numbered.waits s.numbered small l.1).0

pub nak_lives : (old new : Moment) (reason : ℕ) (octets : List ℕ) (conn : ConnFields) → reason < 2 ^ 16 → new.played ≡ moved old.played conn old.played.packets
    → Leads old.played (λ m x. RefusedAt m.waits m reason octets x) conn → Answers old.played.name octets old.totals old.out new.totals new.out → Decides old (RefuseGroup reason) new
nak_lives old new reason octets conn small is leads a p s =
    let l = leads p.state s.at_state in
    (octets, answer_lives old new p (Decided (RefuseGroup reason) octets) l.0 conn octets s is l.1 l.2 (refused_fits p.state.waits p.state l.0 reason octets s.numbered.waits s.numbered small l.1).1 refl (append-nil octets) a)

pub reply_pdus : (t : Played) (said : Option Said) (executed : Bool) (octets : List ℕ) (conn : ConnFields) → (p : Peer) → Shows t p → FitsStub said → FitsStatus said
    → Leads t (λ m x. RepliedAt m.waits m said executed octets x) conn → ArePdus octets
reply_pdus t said executed octets conn p s stub status leads =
    let l = leads p.state s.at_state in (replied_fits p.state.waits p.state l.0 said executed octets s.numbered.waits s.numbered stub status l.1).0

pub reply_lives : (old new : Moment) (said : Option Said) (executed : Bool) (octets : List ℕ) (conn : ConnFields) → FitsStub said → FitsStatus said → new.played ≡ moved old.played conn old.played.packets
    → Leads old.played (λ m x. RepliedAt m.waits m said executed octets x) conn → Answers old.played.name octets old.totals old.out new.totals new.out → Decides old (Reply said executed) new
reply_lives old new said executed octets conn stub status is leads a p s =
    let l = leads p.state s.at_state in (
      octets,
      answer_lives old new p (Decided (Reply said executed) octets) l.0 conn octets s is l.1 l.2 (replied_fits p.state.waits p.state l.0 said executed octets s.numbered.waits s.numbered stub status l.1).1 refl (append-nil octets) a,
    )
