-- A handle that came in a call told done is live or was run down, as long as no row's call closed it.
use Rattle.std.proofs.Common.{◌≡◌, ◌≢◌, ℕ, zero, suc, ◌+◌, ◌^◌, ◌≤◌, ◌⊎◌, inl, inr, Bool, true, false, ◌||◌, cond, eqb, Option, Some, List, [], ◌∷◌, ◌++◌, length, refl, sym, ap, subst, ◌∙◌, append_assoc, arith}
use Rattle.std.specs.Prelude.{slice_get, filter, is_some}
use Rattle.std.specs.List.{list_any}
use Rattle.std.proofs.lemmas.Bool.{eq-eqb, eqb-true}
use Rattle.rpc_base.specs.declared.identifiers.WireHandle.{WireHandle}
use Rattle.handle_model.specs.declared.entry.Asked.{Asked}
use Rattle.handle_model.specs.declared.entry.Slot.{Slot}
use Rattle.handle_model.specs.declared.entry.Slot.TheVariants.{Changes}
use Rattle.handle_model.specs.declared.entry.Outcome.{Outcome}
use Rattle.handle_model.specs.declared.entry.Outcome.TheVariants.{Close, Issue}
use Rattle.handle_model.specs.declared.entry.Said.{Said}
use Rattle.handle_model.specs.declared.entry.Said.TheVariants.{Out}
use Rattle.handle_model.specs.declared.entry.Entry.{Entry}
use Rattle.handle_model.specs.declared.entry.Entry.TheVariants.{Join, Accept, Take, Deny, Cancel, Orphan, End, Leave, Shut}
use Rattle.handle_model.specs.Slots.{wire_of, is_null, named}
use Rattle.handle_model.specs.Entries.{takes, ends, issues, is_item_of, runs_down}
use Rattle.handle_model.specs.Calls.{asked, slots_in, slots, is_taken}
use Rattle.handle_model.specs.Handles.{is_issued, is_live}
use Rattle.handle_model.specs.Running.{AllIssued, NamesIssued}
use Rattle.handle_model.specs.Fates.{closings, rundowns, ClosedBy}
use Rattle.handle_model.specs.Rules.{Legal, suits, suit}
use Rattle.handle_model.proofs.Once.{none_passes}
use Rattle.handle_model.proofs.Accepted.{asks_as_accepted}
use Rattle.handle_model.proofs.Taken.{taken_issued}
use Rattle.handle_model.proofs.Fate.{one_fate}
use Rattle.handle_model.proofs.ClosingEnds.{closings_are_ends}
use Rattle.handle_model.proofs.ReplyTruth.{ran_has_ended}
use Rattle.handle_model.proofs.Stages.{ends_after_take, ends_once}
use Rattle.ndr_value.specs.Values.{Msg}
use Rattle.ndr_table.specs.Tables.{TableForm}
use Rattle.ndr_laws.specs.Laws.{OneMessage}
use Rattle.ndr_laws.specs.WrittenLaws.{WrittenIsStub}
use Rattle.manager_api.specs.Calls.{uses_at}
use Rattle.manager_api.specs.Responses.{null_handle}
use Rattle.conn_histories.specs.Ends.{wires_at}
use Rattle.world_laws.specs.Moves.{Fate}
use Rattle.world_laws.specs.Moves.{Fate as fates}
use Rattle.world_laws.specs.Journals.{home, journal}
use Rattle.world_laws.specs.Ends.{Row, Line, number_at}
use Rattle.world_laws.specs.Worlds.{World}
use Rattle.world_laws.specs.Clauses.{CallsAreRows, takes_of, FateIsTrue, FatesAreTrue}
use Rattle.world_laws.specs.Keeping.{changed_in, returned_in, all_go, Keeps, AllKeep, IsThere, HandlesAreKept, IsWholeTable, AllHandlesAreKept}
use Rattle.world_laws.proofs.Lists.{some_is}
use Rattle.world_laws.proofs.Moving.{calls_are_rows}
use Rattle.world_laws.proofs.Truths as truths
use Rattle.world_laws.proofs.Truth.{TrueLine}
use Rattle.world_laws.proofs.Worlds.{is_true}
use Rattle.world_laws.proofs.Truths.{Knows}
use Rattle.world_laws.proofs.Fates.{any_counted, more_counted, fates_are_true}
use Rattle.world_laws.proofs.Finishing.{AllFinished, finished_at, all_finished}
use Rattle.world_laws.proofs.TellFates.{TellsLine, tells_all}
use Rattle.world_laws.proofs.RowFates.{is_told}
use Rattle.world_laws.proofs.Handles.{CameFrom, came_from, closed_comes_null, changed_at, suit_at, closer_changes}
use Rattle.world_laws.proofs.Handles.CameFrom.{issued, kept}
use Rattle.world_laws.proofs.RowCalls.{RowAccepted, row_accepted}
use Rattle.world_laws.proofs.EndedCalls.{row_end, asked_is, one_end, split, older_is, any_more, issued_here}

-- ---- what is known of a world

record Facts (table : TableForm) (w : World) : Type 0 where
  legal : Legal (journal w.past)
  whole : IsWholeTable table
  lines : (i : ℕ) (l : Line) → slice_get w.lines i ≡ Some l → TrueLine table w.past l
  tells : (i : ℕ) (l : Line) → slice_get w.lines i ≡ Some l → TellsLine table l
  finished : AllFinished table w.past
  rows : CallsAreRows w
  fates_are : FatesAreTrue table w

-- the row's call as it was accepted
accepted_at : (table : TableForm) (w : World) (i x k : ℕ) (l : Line) (r : Row) → OneMessage → WrittenIsStub → Facts table w → slice_get w.lines i ≡ Some l → slice_get l.caller.rows x ≡ Some r → number_at l x ≡ Some k → RowAccepted table w.past k r
accepted_at table w i x k l r one written f at row number =
    let t = f.tells i l at in
    row_accepted table w.past l x k r one written f.whole (f.lines i l at) (is_told table l.caller x r t.caller row) (t.asked x r row) number

-- what it asked stays
accepted_now : (table : TableForm) (w : World) (k : ℕ) (r : Row) → Facts table w → (a : RowAccepted table w.past k r) → asked (journal w.past) k ≡ Some a.asked
accepted_now table w k r f a =
    subst (λ (x : List Entry). asked (journal x) k ≡ Some a.asked) (sym a.is) (asks_as_accepted (journal a.older) a.newer k a.asked (subst (λ (x : List Entry). Legal (journal x)) a.is f.legal))

same_accept : (table : TableForm) (w : World) (k n : ℕ) (r : Row) → Facts table w → (a : RowAccepted table w.past k r) (b : RowAccepted table w.past n r) → k ≡ n → a.asked ≡ b.asked
same_accept table w k n r f a b same =
    some_is a.asked b.asked (sym (accepted_now table w k r f a) ∙ (ap (asked (journal w.past)) same ∙ accepted_now table w n r f b))

-- ---- a call told done

-- its End, and the handles that came
record DoneEnd (table : TableForm) (w : World) (k : ℕ) (r : Row) (m : Msg) : Type 0 where
  accepted : RowAccepted table w.past k r
  newer : List Entry
  older : List Entry
  results : List Outcome
  said : Said
  is : w.past ≡ newer ++ End k results said ∷ older
  wires : m.wires ≡ wires_at home accepted.asked.slots results

done_end : (table : TableForm) (w : World) (i x : ℕ) (l : Line) (r : Row) (m : Msg) → OneMessage → WrittenIsStub → Facts table w → all_go table r.op ≡ true → slice_get w.lines i ≡ Some l → slice_get l.caller.rows x ≡ Some r
    → (d : truths.WasDone table w.past l x r m) → DoneEnd table w d.number r m
done_end table w i x l r m one written f go at row d =
    let e = ran_has_ended (journal d.replied.older) d.number (Out d.stub) d.replied.replies_are in
    let newer = d.replied.newer ++ e.newer in
    let is : w.past ≡ newer ++ End d.number e.results (Out d.stub) ∷ e.older =
    d.replied.is ∙ (ap (λ (y : List Entry). d.replied.newer ++ y) e.is ∙ sym (append_assoc d.replied.newer e.newer (End d.number e.results (Out d.stub) ∷ e.older))) in
    let a = accepted_at table w i x d.number l r one written f at row d.number_is in
    let finished = finished_at table newer e.older d.number e.results (Out d.stub) (subst (λ (y : List Entry). AllFinished table y) is f.finished) in
    let end = row_end table w.past newer e.older d.number r e.results (Out d.stub) one written f.whole go f.legal is a finished in
    record {
      accepted = a;
      newer = newer;
      older = e.older;
      results = e.results;
      said = Out d.stub;
      is = is;
      wires = ap (λ (y : Msg). y.wires) (end.message d.is.operation m d.stub d.is.found refl d.is.is);
    }

knows_done : (table : TableForm) (past : List Entry) (l : Line) (x : ℕ) (r : Row) (fate : Fate) (m : Msg) → fate ≡ fates.Done m → Knows table past l x r fate → truths.WasDone table past l x r m
knows_done table past l x r fate m is h = subst (λ (y : Fate). Knows table past l x r y) is h

-- ---- a handle that came was issued

all_issued_at : (past : List Entry) (ss : List Slot) (n : ℕ) (s : Slot) → AllIssued (journal past) ss → slice_get ss n ≡ Some s → is_some (named s) ≡ true → NamesIssued (journal past) s
all_issued_at past [] n s h at some = absurd (cc (at))
all_issued_at past (t ∷ ss) zero s h at some =
    let is = some_is t s at in subst (λ (x : Slot). NamesIssued (journal past) x) is (h.0 (ap (λ (x : Slot). is_some (named x)) is ∙ some))
all_issued_at past (t ∷ ss) (suc n) s h at some = all_issued_at past ss n s h.1 at some

any_issue : (os : List Outcome) (n serial cookie : ℕ) → slice_get os n ≡ Some (Issue serial cookie) → list_any (issues serial) os ≡ true
any_issue [] n serial cookie at = absurd (cc (at))
any_issue (o ∷ os) zero serial cookie at = first (issues serial o) (ap (issues serial) (some_is o (Issue serial cookie) at) ∙ eq-eqb serial serial refl)
  where
    first : (b : Bool) → b ≡ true → (b || list_any (issues serial) os) ≡ true
    first true h = refl
    first false h = absurd (cc (h))
any_issue (o ∷ os) (suc n) serial cookie at = second (issues serial o) (any_issue os n serial cookie at)
  where
    second : (b : Bool) → list_any (issues serial) os ≡ true → (b || list_any (issues serial) os) ≡ true
    second true h = refl
    second false h = h

record IsIssued (past : List Entry) (h : WireHandle) : Type 0 where
  serial : ℕ
  is : h ≡ wire_of home serial
  issued_ : is_issued (journal past) serial ≡ true

-- a call that ended was taken
taken_before : (past newer older : List Entry) (k : ℕ) (results : List Outcome) (said : Said) → Legal (journal past) → past ≡ newer ++ End k results said ∷ older → is_taken (journal older) k ≡ true
taken_before past newer older k results said legal is = ends_after_take (journal older) newer k results said (subst (λ (x : List Entry). Legal (journal x)) is legal)

taken_now : (past newer older : List Entry) (k : ℕ) (results : List Outcome) (said : Said) → Legal (journal past) → past ≡ newer ++ End k results said ∷ older → is_taken (journal past) k ≡ true
taken_now past newer older k results said legal is =
    subst (λ (x : List Entry). is_taken (journal x) k ≡ true) (split newer older (End k results said) ∙ sym is) (any_more (takes k) (newer ++ End k results said ∷ []) older (taken_before past newer older k results said legal is))

by_origin : (table : TableForm) (w : World) (k : ℕ) (r : Row) (m : Msg) (h : WireHandle) → Facts table w → (d : DoneEnd table w k r m) → asked (journal w.past) k ≡ Some d.accepted.asked → CameFrom home d.accepted.asked.slots d.results h → IsIssued w.past h
by_origin table w k r m h f d asked_so (issued n cookie serial at is) =
    record { serial = serial; is = is; issued_ = issued_here w.past d.newer d.older k serial d.results d.said d.is (any_issue d.results n serial cookie at) }
by_origin table w k r m h f d asked_so (kept n kind at) =
    let taken = taken_now w.past d.newer d.older k d.results d.said f.legal d.is in
    let all = taken_issued (journal w.past) k f.legal taken in
    let mine : AllIssued (journal w.past) d.accepted.asked.slots = subst (λ (ss : List Slot). AllIssued (journal w.past) ss) (ap slots_in asked_so) all in
    let i = all_issued_at w.past d.accepted.asked.slots n (Changes kind h) mine at refl in
    record { serial = i.serial; is = some_is h (wire_of home i.serial) i.name; issued_ = i.issued }

-- ---- a handle that was closed

record AcceptAt (past : List Entry) (k : ℕ) (a : Asked) : Type 0 where
  newer : List Entry
  older : List Entry
  is : past ≡ newer ++ Accept k a ∷ older

later_accept : (e : Entry) (past : List Entry) (k : ℕ) (a : Asked) → AcceptAt past k a → AcceptAt (e ∷ past) k a
later_accept e past k a h = record { newer = e ∷ h.newer; older = h.older; is = ap (λ (x : List Entry). e ∷ x) h.is }

accept_here : (past : List Entry) (n k : ℕ) (b a : Asked) → (asked (journal past) k ≡ Some a → AcceptAt past k a) → (is : Bool) → eqb n k ≡ is → cond is (Some b) (asked (journal past) k) ≡ Some a → AcceptAt (Accept n b ∷ past) k a
accept_here past n k b a go true e found = record { newer = []; older = past; is = λ i. Accept (eqb-true n k e i) (some_is b a found i) ∷ past }
accept_here past n k b a go false e found = later_accept (Accept n b) past k a (go found)

accept_at : (past : List Entry) (k : ℕ) (a : Asked) → asked (journal past) k ≡ Some a → AcceptAt past k a
accept_at [] k a h = absurd (cc (h))
accept_at (Accept n b ∷ past) k a h = accept_here past n k b a (accept_at past k a) (eqb n k) refl h
accept_at (Join c ∷ past) k a h = later_accept (Join c) past k a (accept_at past k a h)
accept_at (Take n cookies ∷ past) k a h = later_accept (Take n cookies) past k a (accept_at past k a h)
accept_at (Deny n slot ∷ past) k a h = later_accept (Deny n slot) past k a (accept_at past k a h)
accept_at (Cancel n ∷ past) k a h = later_accept (Cancel n) past k a (accept_at past k a h)
accept_at (Orphan n ∷ past) k a h = later_accept (Orphan n) past k a (accept_at past k a h)
accept_at (End n results said ∷ past) k a h = later_accept (End n results said) past k a (accept_at past k a h)
accept_at (Leave c ∷ past) k a h = later_accept (Leave c) past k a (accept_at past k a h)
accept_at (Shut items ∷ past) k a h = later_accept (Shut items) past k a (accept_at past k a h)

null_kept : (h : WireHandle) → Some null_handle ≡ Some h → is_null h ≡ false → ⊥
null_kept h e n = absurd (cc (ap is_null (some_is null_handle h e), n))

-- the row of a call that closed the handle wasn't told that it was kept, nor that it didn't run
not_kept : (table : TableForm) (w : World) (j y k x kind : ℕ) (n : Line) (s : Row) (h : WireHandle) (newer older : List Entry) (results : List Outcome) (said : Said) → OneMessage → WrittenIsStub → Facts table w
    → slice_get w.lines j ≡ Some n → slice_get n.caller.rows y ≡ Some s → number_at n y ≡ Some k → w.past ≡ newer ++ End k results said ∷ older → (acc : RowAccepted table w.past k s)
    → slice_get acc.asked.slots x ≡ Some (Changes kind h) → slice_get results x ≡ Some Close → is_null h ≡ false → (fate : Fate) → s.fate ≡ fate
    → ((place : ℕ) → slice_get (changed_in (uses_at table s.op) s.message.wires) place ≡ Some h → Keeps table s place h fate) → ⊥
not_kept table w j y k x kind n s h newer older results said one written f at row number is acc slot closed nn (fates.Done m) fate_is keep =
    let named_ = changed_at x kind h acc.call.slots slot in
    let go = (keep named_.place named_.changed).0 in
    let null = closed_comes_null home results x kind h acc.call.slots go slot closed in
    let d = knows_done table w.past n y s s.fate m fate_is ((f.lines j n at).told y s row) in
    let e = done_end table w j y n s m one written f go at row d in
    let same_k : d.number ≡ k = some_is d.number k (sym d.number_is ∙ number) in
    let theirs : w.past ≡ e.newer ++ End k e.results e.said ∷ e.older = subst (λ (i : ℕ). w.past ≡ e.newer ++ End i e.results e.said ∷ e.older) same_k e.is in
    let few : length (filter (ends k) (newer ++ End k results said ∷ older)) ≤ 1 = subst (λ (z : List Entry). length (filter (ends k) z) ≤ 1) is (ends_once (journal w.past) k f.legal) in
    let same : results ≡ e.results = one_end newer e.newer k results e.results said e.said older e.older (sym is ∙ theirs) few in
    let one_asked : e.accepted.asked ≡ acc.asked = same_accept table w d.number k s f e.accepted acc same_k in
    let wires : m.wires ≡ wires_at home acc.asked.slots results = e.wires ∙ (ap (λ (z : Asked). wires_at home z.slots e.results) one_asked ∙ ap (wires_at home acc.asked.slots) (sym same)) in
    null_kept h (sym null.returned ∙ (ap (λ (z : List WireHandle). slice_get (returned_in (uses_at table s.op) z) null.place) (sym wires) ∙ (keep null.place null.changed).1)) nn
not_kept table w j y k x kind n s h newer older results said one written f at row number is acc slot closed nn (fates.Fault status true) fate_is keep =
    let true_ = f.fates_are j y n s at row in
    let none : takes_of w.past k ≡ 0 = subst (λ (z : Option ℕ). FateIsTrue table w.past z s (fates.Fault status true)) number (subst (λ (z : Fate). FateIsTrue table w.past (number_at n y) s z) fate_is true_) in
    let before = taken_before w.past newer older k results said f.legal is in
    let some = any_counted (takes k) older before in
    let more = more_counted (takes k) (newer ++ End k results said ∷ []) older in
    absurd (omega (arith, none, some, more, ap (λ (z : List Entry). length (filter (takes k) z)) (split newer older (End k results said) ∙ sym is)))
not_kept table w j y k x kind n s h newer older results said one written f at row number is acc slot closed nn (fates.Fault status false) fate_is keep =
    let named_ = changed_at x kind h acc.call.slots slot in keep named_.place named_.changed
not_kept table w j y k x kind n s h newer older results said one written f at row number is acc slot closed nn fates.Lost fate_is keep =
    let named_ = changed_at x kind h acc.call.slots slot in keep named_.place named_.changed
not_kept table w j y k x kind n s h newer older results said one written f at row number is acc slot closed nn fates.Open fate_is keep =
    let named_ = changed_at x kind h acc.call.slots slot in keep named_.place named_.changed

-- a handle that each of its calls kept wasn't closed
unclosed : (table : TableForm) (w : World) (h : WireHandle) (serial : ℕ) → OneMessage → WrittenIsStub → Facts table w → AllKeep table w h → h ≡ wire_of home serial → is_null h ≡ false → ClosedBy (journal w.past) serial → ⊥
unclosed table w h serial one written f keep h_is nn c =
    let k = c.call in
    let finished = finished_at table c.newer c.older k c.results c.said (subst (λ (y : List Entry). AllFinished table y) c.is f.finished) in
    let legal_end = older_is w.past c.newer c.older (End k c.results c.said) c.is f.legal in
    let first = accept_at c.older k finished.asked finished.asks in
    let there : w.past ≡ (c.newer ++ End k c.results c.said ∷ first.newer) ++ Accept k finished.asked ∷ first.older =
    c.is ∙ (ap (λ (x : List Entry). c.newer ++ End k c.results c.said ∷ x) first.is ∙ sym (append_assoc c.newer (End k c.results c.said ∷ first.newer) (Accept k finished.asked ∷ first.older))) in
    let o = f.rows.rows k finished.asked (c.newer ++ End k c.results c.said ∷ first.newer) first.older there in
    let acc = accepted_at table w o.line o.place k o.conn o.row one written f o.there o.is_row o.number in
    let a_is : finished.asked ≡ acc.asked = asked_is w.past acc.newer acc.older c.newer c.older k acc.asked finished.asked (End k c.results c.said) f.legal acc.is c.is finished.asks in
    let slots_are : slots (journal c.older) k ≡ finished.asked.slots = ap slots_in finished.asks in
    let slot_at : slice_get finished.asked.slots c.at.place ≡ Some c.at.slot = ap (λ (ss : List Slot). slice_get ss c.at.place) (sym slots_are) ∙ c.at.is_slot in
    let suit_ : suit finished.asked.slots c.results ≡ true = subst (λ (ss : List Slot). suit ss c.results ≡ true) slots_are legal_end.0.fits.1 in
    let suits_ : suits c.at.slot Close ≡ true = suit_at finished.asked.slots c.results c.at.place c.at.slot Close suit_ slot_at c.at.is_closed in
    let (kind, changes) = closer_changes c.at.slot (wire_of home serial) suits_ c.at.names_it in
    let mine : slice_get acc.asked.slots c.at.place ≡ Some (Changes kind h) =
    ap (λ (x : Asked). slice_get x.slots c.at.place) (sym a_is) ∙ (slot_at ∙ (ap (λ (x : Slot). Some x) changes ∙ ap (λ (x : WireHandle). Some (Changes kind x)) (sym h_is))) in
    not_kept table w o.line o.place k c.at.place kind o.conn o.row h c.newer c.older c.results c.said one written f o.there o.is_row o.number c.is acc mine c.at.is_closed nn o.row.fate refl
    (λ place changed. keep o.line o.place place o.conn o.row o.there o.is_row changed)

-- ---- live, or run down

or_parts : (a b : Bool) → (a || b) ≡ false → (a ≡ false) × (b ≡ false)
or_parts true b e = absurd (cc (e))
or_parts false b e = (refl, e)

none_down : (past : List Entry) (h : ℕ) → list_any (runs_down h) past ≡ false → rundowns past h ≡ 0
none_down [] h e = refl
none_down (Shut items ∷ past) h e =
    let p = or_parts (list_any (is_item_of h) items) (list_any (runs_down h) past) e in omega (arith, none_passes (is_item_of h) items p.0, none_down past h p.1)
none_down (Join c ∷ past) h e = none_down past h e
none_down (Accept k a ∷ past) h e = none_down past h e
none_down (Take k cookies ∷ past) h e = none_down past h e
none_down (Deny k slot ∷ past) h e = none_down past h e
none_down (Cancel k ∷ past) h e = none_down past h e
none_down (Orphan k ∷ past) h e = none_down past h e
none_down (End k results said ∷ past) h e = none_down past h e
none_down (Leave c ∷ past) h e = none_down past h e

there_by : (past : List Entry) (serial : ℕ) (live down : Bool) (c d : ℕ) → is_live (journal past) serial ≡ live → list_any (runs_down serial) past ≡ down → (down ≡ false → d ≡ 0) → c ≡ 0 → c + d + (cond live 1 0) ≡ 1
    → (is_live (journal past) serial ≡ true) ⊎ (list_any (runs_down serial) past ≡ true)
there_by past serial true down c d l r none closed all = inl l
there_by past serial false true c d l r none closed all = inr r
there_by past serial false false c d l r none closed all = absurd (omega (arith, none refl, closed, all))

is_zero : (n : ℕ) → (n ≢ 0 → ⊥) → n ≡ 0
is_zero zero h = refl
is_zero (suc n) h = absurd (h (λ e. absurd (cc (e))))

stays_there : (table : TableForm) (w : World) (h : WireHandle) → OneMessage → WrittenIsStub → Facts table w → AllKeep table w h → is_null h ≡ false → IsIssued w.past h → IsThere w.past h
stays_there table w h one written f keep nn i =
    let fate_ = one_fate (journal w.past) i.serial f.legal i.issued_ in
    let closed : closings (journal w.past) i.serial ≡ 0 = is_zero (closings (journal w.past) i.serial) (λ ne. unclosed table w h i.serial one written f keep i.is nn (closings_are_ends (journal w.past) i.serial ne)) in
    record {
      serial = i.serial;
      is = i.is;
      there = there_by w.past i.serial (is_live (journal w.past) i.serial) (list_any (runs_down i.serial) w.past) (closings (journal w.past) i.serial) (rundowns w.past i.serial) refl refl (none_down w.past i.serial) closed fate_.1;
    }

-- ---- the law

kept_all : (table : TableForm) (w : World) → OneMessage → WrittenIsStub → Facts table w → HandlesAreKept table w
kept_all table w one written f i x q l r m h at row fate_is go wire nn keep =
    let d = knows_done table w.past l x r r.fate m fate_is ((f.lines i l at).told x r row) in
    let e = done_end table w i x l r m one written f go at row d in
    let asked_so : asked (journal w.past) d.number ≡ Some e.accepted.asked = accepted_now table w d.number r f e.accepted in
    let origin = came_from home e.accepted.asked.slots e.results q h (ap (λ (ws : List WireHandle). slice_get ws q) (sym e.wires) ∙ wire) nn in
    stays_there table w h one written f keep nn (by_origin table w d.number r m h f e asked_so origin)

pub handles_are_kept : OneMessage → WrittenIsStub → AllHandlesAreKept
handles_are_kept one written table played w fits whole p legal =
    let few : length table.ops ≤ 2 ^ 16 = omega (arith, whole.is.few) in
    let a = is_true table played w fits few p in
    kept_all table w one written (record {
      legal = legal;
      whole = whole;
      lines = a.lines;
      tells = tells_all table played w p;
      finished = all_finished table played w p;
      rows = calls_are_rows table played w fits few p;
      fates_are = fates_are_true table played w fits few p legal;
    })
