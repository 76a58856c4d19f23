-- A connection is opened or lost, a call is started, called off or taken, the caller restarts: these lead to one world alone.
use Rattle.std.proofs.Common.{◌≡◌, ℕ, ◌≤◌, Bool, true, Option, Some, None, Ok, List, [], ◌∷◌, ◌++◌, length, sym, ap, subst, ◌∙◌, arith}
use Rattle.std.specs.Prelude.{slice_get}
use Rattle.std.specs.List.{flat_map}
use Rattle.handle_model.specs.declared.entry.Entry.{Entry}
use Rattle.handle_model.specs.declared.entry.Entry.TheVariants.{Leave, Shut}
use Rattle.handle_model.specs.History.{History}
use Rattle.handle_model.specs.Journal as journals
use Rattle.pdu_codec.specs.Constants.{stub_offset}
use Rattle.pdu_codec.specs.Pdus.{pdu_octets}
use Rattle.pdu_stream.specs.Pieces.{piece_size}
use Rattle.pdu_stream.proofs.Covers.{one_cutting}
use Rattle.ndr_value.specs.Values.{Msg}
use Rattle.ndr_table.specs.Tables.{OpForm, TableForm}
use Rattle.group_core.specs.declared.answer.Rest.{Rest}
use Rattle.group_core.specs.declared.answer.Rest.TheVariants as rest
use Rattle.group_core.specs.declared.answer.Taking.TheVariants as taking
use Rattle.group_core.specs.Calls.{Takes}
use Rattle.group_core.specs.Conns.{Settles}
use Rattle.client_core.specs.States.{ClientState, Calling, next_id}
use Rattle.client_core.specs.Octets.{request_fragments}
use Rattle.client_core.specs.Calls.{asking, CallsOp, Calls, CancelsCall}
use Rattle.world_laws.specs.Moves.{Move as moves}
use Rattle.world_laws.specs.Journals.{journal, Leaves}
use Rattle.world_laws.specs.Ends.{Line}
use Rattle.world_laws.specs.Calling.{LosesLine}
use Rattle.world_laws.specs.Worlds.{World, with_line, entered, NoneStands, LosesAt, LosesAll, opened, Opens, starting, Starts, cancelling, CallsOff, Tries}
use Rattle.world_laws.specs.Worlds.Tries.{taken, denied}
use Rattle.world_laws.proofs.Lists.{some_is}
use Rattle.world_moves.specs.One.{StillMovesLeadToOne}
use Rattle.world_moves.proofs.one.Names.{Apart, then_apart, apart, one_line}

-- ---- the journal

one_settled : (past a b : List Entry) (e : Entry) (r s : Rest) → Settles (journal past) e r (journal a) → Settles (journal past) e s (journal b) → a ≡ b
one_settled past a b e rest.Stays rest.Stays (low, is) (none, are) = ap (λ (j : History). j.past) is ∙ sym (ap (λ (j : History). j.past) are)
one_settled past a b e rest.Stays (rest.Shut items) (low, is) (due, which, are) = absurd (cc (low, due))
one_settled past a b e (rest.Shut items) rest.Stays (due, which, is) (low, are) = absurd (cc (low, due))
one_settled past a b e (rest.Shut items) (rest.Shut others) (due, which, is) (too, these, are) =
    ap (λ (j : History). j.past) is ∙ (ap (λ x. Shut x ∷ e ∷ past) (which ∙ sym these) ∙ sym (ap (λ (j : History). j.past) are))

pub one_left : (member : Option ℕ) (past a b : List Entry) → Leaves member past a → Leaves member past b → a ≡ b
one_left None past a b e f = e ∙ sym f
one_left (Some c) past a b (r, h) (s, k) = one_settled past a b (Leave c) r s h k

-- ---- connections are opened

opens : (table : TableForm) (w u v : World) (c group : ℕ) → Opens table w c group u → Opens table w c group v → u ≡ v
opens table w u v c group a b =
    a.after
    ∙ (ap (λ (x : List ℕ). record w { lines = w.lines ++ opened table c group x a.state ∷ [] }) (a.binds.0 ∙ sym b.binds.0)
    ∙ (ap (λ (x : ClientState). record w { lines = w.lines ++ opened table c group b.octets x ∷ [] }) (a.binds.1 ∙ sym b.binds.1) ∙ sym b.after))

-- ---- and lost

loses_there : (w u v : World) (i : ℕ) (l : Line) → (m : Line) × (past : List Entry) × LosesLine l w.past m past × (u ≡ with_line w i m past)
    → (m : Line) × (past : List Entry) × LosesLine l w.past m past × (v ≡ with_line w i m past) → u ≡ v
loses_there w u v i l (m, past, (is, leaves), after) (n, new, (are, left), later) =
    after ∙ (ap (λ (x : Line). with_line w i x past) (is ∙ sym are) ∙ (ap (λ (x : List Entry). with_line w i n x) (one_left l.server.member w.past past new leaves left) ∙ sym later))

loses : (w u v : World) (c : ℕ) → Apart w → LosesAt w c u → LosesAt w c v → u ≡ v
loses w u v c apart a b =
    one_line w c (λ i l. (m : Line) × (past : List Entry) × LosesLine l w.past m past × (u ≡ with_line w i m past)) (λ i l. (m : Line) × (past : List Entry) × LosesLine l w.past m past × (v ≡ with_line w i m past)) (u ≡ v)
    apart a b (λ i l p q. loses_there w u v i l p q)

none_lost : (w u : World) (c : ℕ) → NoneStands w → LosesAt w c u → ⊥
none_lost w u c none (i, l, at, named, stands, p) = none i l at stands

least_of : (w u : World) (c d : ℕ) → ((i : ℕ) (l : Line) → slice_get w.lines i ≡ Some l → l.standing ≡ true → c ≤ l.name) → LosesAt w d u → c ≤ d
least_of w u c d least (i, l, at, named, stands, p) = omega (arith, named, least i l at stands)

between : (c d : ℕ) → c ≤ d → d ≤ c → d ≡ c
between c d a b = omega (arith, a, b)

loses_all : (a b : List ℕ) (table : TableForm) (w u v : World) → Apart w → LosesAll w a u → LosesAll w b v → u ≡ v
loses_all [] [] table w u v apart (is, none) (are, also) = is ∙ sym are
loses_all [] (d ∷ ds) table w u v apart (is, none) (least, (y, first, later)) = absurd (none_lost w y d none first)
loses_all (c ∷ cs) [] table w u v apart (least, (x, first, later)) (is, none) = absurd (none_lost w x c none first)
loses_all (c ∷ cs) (d ∷ ds) table w u v apart (least, (x, first, later)) (low, (y, begun, more)) =
    let same : d ≡ c = between c d (least_of w y c d least begun) (least_of w x d c low first) in
    let is : y ≡ x = loses w y x c apart (subst (λ (n : ℕ). LosesAt w n y) same begun) first in
    loses_all cs ds table x u v (then_apart table (moves.Lose c) w x first apart) later (subst (λ (z : World). LosesAll z ds v) is more)

-- ---- calls are started

one_request : (id op : ℕ) (maybe : Bool) (most : ℕ) (stub a b : List ℕ) (ps qs : List (List ℕ)) → ps ≡ qs → a ≡ flat_map pdu_octets (request_fragments id op maybe true ps) → b ≡ flat_map pdu_octets (request_fragments id op maybe true qs) → a ≡ b
one_request id op maybe most stub a b ps qs same is are = is ∙ (ap (λ (x : List (List ℕ)). flat_map pdu_octets (request_fragments id op maybe true x)) same ∙ sym are)

one_call : (s n k : ClientState) (op : ℕ) (m : Msg) (a b : List ℕ) → Calls s op m (Ok a) n → Calls s op m (Ok b) k → (a ≡ b) × (n ≡ k)
one_call s n k op m a b (o, at, p) (q, found, r) = by p (subst (λ (x : OpForm). CallsOp s x op m (Ok b) k) (some_is q o (sym found ∙ at)) r)
  where
    by : CallsOp s o op m (Ok a) n → CallsOp s o op m (Ok b) k → (a ≡ b) × (n ≡ k)
    by (few, ((ps, are, is), after)) (little, ((qs, these, so), later)) =
        (one_request (next_id s) op o.maybe s.most (asking s.interface o m) a b ps qs (one_cutting (piece_size s.most stub_offset) (asking s.interface o m) ps qs are these) is so, after ∙ sym later)

abbrev after_start : TableForm → World → ℕ → Line → ℕ → Msg → List ℕ → ClientState → World
after_start table w i l op m octets state =
    record (with_line w i (starting table l op m octets state) w.past) { starts = w.starts ++ record { line = i; place = length l.caller.rows } ∷ [] }

starts : (table : TableForm) (w u v : World) (op : ℕ) (m : Msg) (i : ℕ) (l : Line) → Starts table w op m i l u → Starts table w op m i l v → u ≡ v
starts table w u v op m i l a b =
    let (octets, state) = one_call l.caller.state a.state b.state op m a.octets b.octets a.calls b.calls in
    a.after ∙ (ap (λ (x : List ℕ). after_start table w i l op m x a.state) octets ∙ (ap (λ (x : ClientState). after_start table w i l op m b.octets x) state ∙ sym b.after))

-- ---- and called off

one_cancel : (call : Option Calling) (a b : List ℕ) → CancelsCall call (Ok a) → CancelsCall call (Ok b) → a ≡ b
one_cancel None a b h k = absurd h
one_cancel (Some c) a b h k = h ∙ sym k

calls_off : (table : TableForm) (w u v : World) (i : ℕ) (l : Line) → CallsOff table w i l u → CallsOff table w i l v → u ≡ v
calls_off table w u v i l a b =
    a.after
    ∙ (ap (λ (x : List ℕ). with_line w i (cancelling table l x a.state) w.past) (one_cancel l.caller.state.call a.octets b.octets a.cancels.0 b.cancels.0)
    ∙ (ap (λ (x : ClientState). with_line w i (cancelling table l b.octets x) w.past) (a.cancels.1 ∙ sym b.cancels.1) ∙ sym b.after))

-- ---- and taken

one_taken : (old a b : List Entry) (k : ℕ) (row other : List (Option ℕ)) (serial next : ℕ) → Takes (journal old) k (taking.Run row serial) (journal a) → Takes (journal old) k (taking.Run other next) (journal b) → a ≡ b
one_taken old a b k row other serial next (waits, free, sound, is_row, is_serial, is) (waits_too, free_too, sound_too, are_row, are_serial, are) =
    ap (λ (j : History). j.past) is ∙ sym (ap (λ (j : History). j.past) are)

no_fault : (old new : List Entry) (k slot : ℕ) → journals.fault (journal old) k ≡ None → Takes (journal old) k (taking.Denied slot) (journal new) → ⊥
no_fault old new k slot none (waits, free, fault, is) = absurd (cc (none, fault))

tries : (table : TableForm) (w u v : World) (k : ℕ) → journals.fault (journal w.past) k ≡ None → Tries table w k u → Tries table w k v → u ≡ v
tries table w u v k none (taken row serial past takes is) (taken other next new took are) =
    is ∙ (ap (λ (x : List Entry). entered w x) (one_taken w.past past new k row other serial next takes took) ∙ sym are)
tries table w u v k none (denied slot past takes goes) b = absurd (no_fault w.past past k slot none takes)
tries table w u v k none (taken row serial past takes is) (denied slot new took goes) = absurd (no_fault w.past new k slot none took)

-- ---- every such move

pub still_moves_lead_to_one : StillMovesLeadToOne
still_moves_lead_to_one table played w (moves.Open c group) p still u v a b = opens table w u v c group a b
still_moves_lead_to_one table played w (moves.Start c op m) p still u v a b =
    one_line w c (λ i l. Starts table w op m i l u) (λ i l. Starts table w op m i l v) (u ≡ v) (apart table played w p) a b (λ i l s t. starts table w u v op m i l s t)
still_moves_lead_to_one table played w (moves.ToServer c n) p still u v a b = absurd still
still_moves_lead_to_one table played w (moves.ToCaller c n) p still u v a b = absurd still
still_moves_lead_to_one table played w (moves.Cancel c) p still u v a b =
    one_line w c (λ i l. CallsOff table w i l u) (λ i l. CallsOff table w i l v) (u ≡ v) (apart table played w p) a b (λ i l s t. calls_off table w u v i l s t)
still_moves_lead_to_one table played w (moves.Lose c) p still u v a b = loses w u v c (apart table played w p) a b
still_moves_lead_to_one table played w moves.Restart p still u v (names, a) (others, b) = loses_all names others table w u v (apart table played w p) a b
still_moves_lead_to_one table played w (moves.Take k) p still u v a b = tries table w u v k still a b
still_moves_lead_to_one table played w (moves.Finish k kepts m) p still u v a b = absurd still
