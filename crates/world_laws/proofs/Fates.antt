-- What a caller is told of its calls is true of the journal.
use Rattle.std.proofs.Common.{◌≡◌, ◌≢◌, ℕ, ◌≤◌, Bool, true, false, ◌||◌, cond, Option, Some, None, List, [], ◌∷◌, ◌++◌, length, refl, sym, ap, subst, ◌∙◌, append_assoc, arith}
use Rattle.std.specs.Prelude.{slice_get, filter, is_some, ◌==◌, if◌then◌else◌}
use Rattle.std.proofs.lemmas.Bool.{eq-eqb}
use Rattle.rpc_base.specs.declared.identifiers.Order.{Order}
use Rattle.rpc_base.specs.declared.identifiers.Order.TheVariants.{Little}
use Rattle.rpc_base.specs.declared.identifiers.Status.{Status}
use Rattle.handle_model.specs.declared.entry.Asked.{Asked}
use Rattle.handle_model.specs.declared.entry.Entry.{Entry}
use Rattle.handle_model.specs.declared.entry.Entry.TheVariants.{Join, Accept, Take, Deny, Cancel, Orphan, End, Leave, Shut}
use Rattle.handle_model.specs.declared.entry.Said.TheVariants.{Out}
use Rattle.handle_model.specs.declared.reply.Reply.{Reply}
use Rattle.handle_model.specs.declared.reply.Reply.TheVariants.{Never, Open}
use Rattle.handle_model.specs.Entries.{takes, ends}
use Rattle.handle_model.specs.Since.{any_since}
use Rattle.handle_model.specs.Calls.{asked, is_taken}
use Rattle.handle_model.specs.Bases.{empty_base}
use Rattle.handle_model.specs.History.{with_entry}
use Rattle.handle_model.specs.Rules.{Legal}
use Rattle.handle_model.specs.Replies.{replies}
use Rattle.handle_model.proofs.Stages.{takes_once, ends_once, ends_after_take, decided_once, taken_asked_since}
use Rattle.handle_model.proofs.Older.{older_legal}
use Rattle.handle_model.proofs.Accepted.{asked_stays}
use Rattle.handle_model.proofs.ReplyStays.{reply_stays}
use Rattle.handle_model.proofs.ReplyTruth.{ran_has_ended, never_is_untaken}
use Rattle.ndr_value.specs.Values.{Msg}
use Rattle.ndr_table.specs.Tables.{TableForm}
use Rattle.ndr_model.specs.declared.way.Way.TheVariants.{Response}
use Rattle.ndr_model.specs.Message.{IsStub}
use Rattle.world_laws.specs.Moves.{Fate}
use Rattle.world_laws.specs.Moves.{Fate as fates}
use Rattle.world_laws.specs.Journals.{home, journal}
use Rattle.world_laws.specs.Ends.{Row, Line, number_in, number_at}
use Rattle.world_laws.specs.Clauses.{takes_of, WasDone, WasNotTaken, WasTakenOnceAtMost, FateIsTrue, AllFatesAreTrue}
use Rattle.world_laws.proofs.Truths as truths
use Rattle.world_laws.proofs.Truths.{Replied, NeverRan, Knows}
use Rattle.world_laws.proofs.Truths.{NeverRan as never}
use Rattle.world_laws.proofs.Lists.{some_is}
use Rattle.world_laws.proofs.Quiet.{AllEnds}
use Rattle.world_laws.proofs.Worlds.{is_true}

-- ---- counting

pub counted : (p : Entry → Bool) (newer older : List Entry) (e : Entry) → p e ≡ true → 1 ≤ length (filter p (newer ++ e ∷ older))
counted p [] older e is = by (p e) is
  where
    by : (b : Bool) → b ≡ true → 1 ≤ length (cond b (e ∷ filter p older) (filter p older))
    by true h = omega arith
    by false h = absurd (cc (h))
counted p (x ∷ newer) older e is = by (p x) (counted p newer older e is)
  where
    by : (b : Bool) → 1 ≤ length (filter p (newer ++ e ∷ older)) → 1 ≤ length (cond b (x ∷ filter p (newer ++ e ∷ older)) (filter p (newer ++ e ∷ older)))
    by true h = omega arith
    by false h = h

pub more_counted : (p : Entry → Bool) (newer older : List Entry) → length (filter p older) ≤ length (filter p (newer ++ older))
more_counted p [] older = omega arith
more_counted p (x ∷ newer) older = by (p x) (more_counted p newer older)
  where
    by : (b : Bool) → length (filter p older) ≤ length (filter p (newer ++ older)) → length (filter p older) ≤ length (cond b (x ∷ filter p (newer ++ older)) (filter p (newer ++ older)))
    by true h = omega (arith, h)
    by false h = h

pub any_counted : (p : Entry → Bool) (past : List Entry) → any_since false p past ≡ true → 1 ≤ length (filter p past)
any_counted p [] h = absurd (cc (h))
any_counted p (x ∷ past) h = by (p x) h (any_counted p past)
  where
    by : (b : Bool) → (b || any_since false p past) ≡ true → (any_since false p past ≡ true → 1 ≤ length (filter p past)) → 1 ≤ length (cond b (x ∷ filter p past) (filter p past))
    by true e go = omega arith
    by false e go = go e

-- ---- what was asked

some_of : (o : Option Asked) → is_some o ≡ true → (a : Asked) × (o ≡ Some a)
some_of None h = absurd (cc (h))
some_of (Some a) h = (a, refl)

-- a call that was taken was asked so, then and later
pub was_asked : (older newer : List Entry) (k : ℕ) → Legal (journal (newer ++ older)) → Legal (journal older) → is_taken (journal older) k ≡ true → (a : Asked) × (asked (journal (newer ++ older)) k ≡ Some a)
was_asked older newer k legal before taken =
    let some = some_of (asked (journal older) k) (taken_asked_since home empty_base older k before taken) in
    (some.0, asked_stays (journal older) newer k some.0 legal some.1)

-- all calls are asked in one order
asked_little : (past : List Entry) (k : ℕ) (a : Asked) → AllEnds past → asked (journal past) k ≡ Some a → a.order ≡ Little
asked_little [] k a all h = absurd (cc (h))
asked_little (Accept n b ∷ past) k a all h = by (n == k) h (λ e. asked_little past k a all.1 e)
  where
    by : (is : Bool) → (if is then Some b else asked (journal past) k) ≡ Some a → (asked (journal past) k ≡ Some a → a.order ≡ Little) → a.order ≡ Little
    by true e go = subst (λ (x : Asked). x.order ≡ Little) (some_is b a e) all.0
    by false e go = go e
asked_little (End n results said ∷ past) k a all h = asked_little past k a all.1 h
asked_little (Join c ∷ past) k a all h = asked_little past k a all h
asked_little (Take n cookies ∷ past) k a all h = asked_little past k a all h
asked_little (Deny n slot ∷ past) k a all h = asked_little past k a all h
asked_little (Cancel n ∷ past) k a all h = asked_little past k a all h
asked_little (Orphan n ∷ past) k a all h = asked_little past k a all h
asked_little (Leave c ∷ past) k a all h = asked_little past k a all h
asked_little (Shut items ∷ past) k a all h = asked_little past k a all h

-- ---- fates

once : (past : List Entry) (k : ℕ) → Legal (journal past) → takes_of past k ≤ 1
once past k legal = omega (arith, takes_once (journal past) k legal)

was_done : (table : TableForm) (past : List Entry) (l : Line) (x : ℕ) (r : Row) (m : Msg) → Legal (journal past) → AllEnds past → truths.WasDone table past l x r m → WasDone table past (number_at l x) r m
was_done table past l x r m legal all h =
    let k = h.number in
    let e = ran_has_ended (journal h.replied.older) k (Out h.stub) h.replied.replies_are in
    let front = h.replied.newer ++ e.newer in
    let whole : past ≡ front ++ End k e.results (Out h.stub) ∷ e.older =
    h.replied.is ∙ (ap (λ (y : List Entry). h.replied.newer ++ y) e.is ∙ sym (append_assoc h.replied.newer e.newer (End k e.results (Out h.stub) ∷ e.older))) in
    let there : Legal (journal (front ++ End k e.results (Out h.stub) ∷ e.older)) = subst (λ (y : List Entry). Legal (journal y)) whole legal in
    let taken_before = ends_after_take (journal e.older) front k e.results (Out h.stub) there in
    let one_end = counted (ends k) front e.older (End k e.results (Out h.stub)) (eq-eqb k k refl) in
    let one_take = any_counted (takes k) e.older taken_before in
    let more_takes = more_counted (takes k) (front ++ End k e.results (Out h.stub) ∷ []) e.older in
    let same : (front ++ End k e.results (Out h.stub) ∷ []) ++ e.older ≡ past = append_assoc front (End k e.results (Out h.stub) ∷ []) e.older ∙ sym whole in
    let known = was_asked e.older (front ++ End k e.results (Out h.stub) ∷ []) k (subst (λ (y : List Entry). Legal (journal y)) (sym same) legal) (older_legal (with_entry (journal e.older) (End k e.results (Out h.stub))) front there).1 taken_before in
    let asks : asked (journal past) k ≡ Some known.0 = subst (λ (y : List Entry). asked (journal y) k ≡ Some known.0) same known.1 in
    record {
      call = k;
      is = h.number_is;
      taken = omega (arith, once past k legal, one_take, more_takes, ap (λ (y : List Entry). length (filter (takes k) y)) same);
      ended = omega (arith, ends_once (journal past) k legal, one_end, ap (λ (y : List Entry). length (filter (ends k) y)) whole);
      asks = known.0;
      as_asked = asks;
      stub = h.stub;
      says = record { newer = front; older = e.older; results = e.results; is = whole };
      response = record { operation = h.is.operation; found = h.is.found; is = subst (λ (o : Order). IsStub table.types h.is.operation Response o (Some r.message) m h.stub) (sym (asked_little past k known.0 all asks)) h.is.is };
    }

never_open : (reply : Reply) (status : Status) → reply ≡ Never status → reply ≢ Open
never_open reply status e o = absurd (cc (e, o))

untaken : (past : List Entry) (k : ℕ) (status : Status) → Legal (journal past) → Replied past k (Never status) → takes_of past k ≡ 0
untaken past k status legal r =
    let there : Legal (journal (r.newer ++ r.older)) = subst (λ (y : List Entry). Legal (journal y)) r.is legal in
    let stays = reply_stays (journal r.older) r.newer k there (never_open (replies (journal r.older) k) status r.replies_are) in
    let now_ : replies (journal past) k ≡ Never status = ap (λ (y : List Entry). replies (journal y) k) r.is ∙ (stays ∙ r.replies_are) in
    never_is_untaken decided_once (journal past) k status legal now_

number_none : (v : Option (Option ℕ)) → v ≡ Some None → number_in v ≡ None
number_none v e = ap number_in e

not_taken : (past : List Entry) (l : Line) (x : ℕ) → Legal (journal past) → NeverRan past l x → WasNotTaken past (number_at l x)
not_taken past l x legal (never.refused at) = subst (λ (n : Option ℕ). WasNotTaken past n) (sym (number_none (slice_get l.server.numbers x) at)) tt
not_taken past l x legal (never.spared k status at replied) = subst (λ (n : Option ℕ). WasNotTaken past n) (sym at) (untaken past k status legal replied)

at_most : (past : List Entry) (number : Option ℕ) → Legal (journal past) → WasTakenOnceAtMost past number
at_most past None legal = tt
at_most past (Some k) legal = once past k legal

fate_is : (table : TableForm) (past : List Entry) (l : Line) (x : ℕ) (r : Row) (fate : Fate) → Legal (journal past) → AllEnds past → Knows table past l x r fate → FateIsTrue table past (number_at l x) r fate
fate_is table past l x r (fates.Done m) legal all h = was_done table past l x r m legal all h
fate_is table past l x r (fates.Fault status true) legal all h = not_taken past l x legal h
fate_is table past l x r (fates.Fault status false) legal all h = tt
fate_is table past l x r fates.Lost legal all h = at_most past (number_at l x) legal
fate_is table past l x r fates.Open legal all h = tt

pub fates_are_true : AllFatesAreTrue
fates_are_true table played w fits few p legal i x l r at row =
    let a = is_true table played w fits few p in
    fate_is table w.past l x r r.fate legal a.ends ((a.lines i l at).told x r row)
