-- What a connection's entries had its manager do, behind one step more.
--     grown_then      what a pass entered in two steps;  quiet_call     one call that has nothing done;  quiet_then     two steps
--     had_quiet       a quiet step;  left_had     a Leave;  ended_had     the End of a call that ran beside
use Rattle.std.proofs.Common.{◌≡◌, ℕ, ◌<◌, suc, zero, Bool, true, false, ◌||◌, not, if◌then◌else◌, Option, Ok, Err, List, [], ◌∷◌, ◌++◌, map, refl, sym, ap, ◌∙◌, subst, ◌⊎◌, inl, inr, append-nil, append_assoc, arith, true≢false}
use Rattle.std.specs.List.{list_any, filter}
use Rattle.std.proofs.lemmas.List.{append_cancel_left, append_cancel_right, map-append}
use mathlib.Core.Option.{some, some-ne-none}
use lib.ListN.{get_elem?}
use Rattle.turn_lock.specs.Histories.{StartsWith}
use Rattle.turn_lock.proofs.HistoryLemmas.{starts_trans}
use Rattle.handle_model.specs.declared.entry.Home.{Home}
use Rattle.handle_model.specs.declared.entry.Asked.{Asked}
use Rattle.handle_model.specs.declared.entry.Slot.{Slot}
use Rattle.handle_model.specs.declared.entry.DueItem.{DueItem}
use Rattle.handle_model.specs.declared.entry.Entry.{Entry}
use Rattle.handle_model.specs.declared.entry.Entry.TheVariants.{Accept, Take, Deny, Cancel, Orphan, End, Leave, Shut}
use Rattle.handle_model.specs.Entries.{is_shut}
use Rattle.handle_model.specs.Calls.{runs}
use Rattle.handle_model.specs.History.{History, with_entry}
use Rattle.handle_model.proofs.Held.{runs_not_due}
use Rattle.group_core.specs.declared.answer.AcceptRefusal.{AcceptRefusal}
use Rattle.group_core.specs.declared.answer.AcceptRefusal.TheVariants as refusal
use Rattle.group_core.specs.declared.answer.Taking.{Taking}
use Rattle.group_core.specs.declared.answer.Taking.TheVariants as taking
use Rattle.group_core.specs.declared.answer.Cancelled.{Cancelled as CancelAnswer}
use Rattle.group_core.specs.declared.answer.Cancelled.TheVariants as cancels
use Rattle.group_core.specs.declared.answer.Orphaned.{Orphaned as OrphanAnswer}
use Rattle.group_core.specs.declared.answer.Orphaned.TheVariants as orphans
use Rattle.group_core.specs.Calls.{Accepts, Takes, Cancels, Orphans}
use Rattle.hub_story.specs.declared.item.Item.{Item}
use Rattle.hub_story.specs.declared.item.Item.TheVariants.{Listed}
use Rattle.hub_story.specs.declared.item.Mark.TheVariants.{Retired as MarkedRetired}
use Rattle.hub_story.specs.Histories.{home_of, past_in, items_of}
use Rattle.hub_story.specs.Passes.{Seen}
use Rattle.hub_story.specs.Calls.{Enters}
use Rattle.hub_story.proofs.ItemLemmas.{past-append, past_items}
use Rattle.group_hub.specs.declared.pass.Pass.{Pass}
use Rattle.group_hub.specs.Shards.{shard_of}
use Rattle.group_hub.specs.Passes.{at_shard, CallsAt, EntersAt}
use Rattle.group_hub.specs.ShardPasses.{Merges}
use Rattle.hub_shard.specs.declared.answer.Retired.{Retired}
use Rattle.hub_shard.specs.declared.answer.HubRest.{HubRest}
use Rattle.hub_shard.specs.declared.answer.HubRest.TheVariants as hub_rest
use Rattle.hub_shard.specs.Answers.{SettlesWith}
use Rattle.server_ends.specs.Owning.{Owns, Grown}
use Rattle.server_ends.proofs.PassLemmas.{grown_more, owns_more}
use Rattle.ndr_table.specs.Tables.{TableForm}
use Rattle.manager_api.specs.Answers.{Ans}
use Rattle.manager_api.specs.Calls.{Call}
use Rattle.pdu_stream.specs.declared.joined.Joined.{Joined}
use Rattle.conn_histories.specs.Ends.{Meets, call_with}
use Rattle.conn_histories.specs.declared.turn.Off.{Off}
use Rattle.conn_histories.specs.declared.turn.Fate.{Fate}
use Rattle.conn_histories.specs.declared.turn.Fate.TheVariants.{Running, LeftRunning}
use Rattle.conn_histories.specs.declared.turn.Deed.TheVariants.{Accepted}
use Rattle.conn_histories.specs.declared.turn.Turn.{Turn}
use Rattle.conn_histories.specs.Entries.{asked_as, marks, fate_entries, leave_behind, all_entries, turn_left}
use Rattle.conn_histories.specs.Stories.{Server, Made}
use Rattle.conn_histories.specs.Tales.{whole}
use Rattle.conn_turns.proofs.Stepping.{past_is}
use Rattle.server_calls.specs.Ready.{request_of}
use Rattle.server_calls.specs.Chains.{Deed, Chain}
use Rattle.server_calls.specs.Chains.Deed.{answered}
use Rattle.server_calls.specs.Chains.Chain.{stays, answers, goes_on, takes_back, downs as ran_one}
use Rattle.server_steps.specs.declared.working.Worked.{Worked}
use Rattle.server_steps.specs.Passes.{OwnsNone}
use Rattle.server_steps.specs.Held.{Held, Settles}
use Rattle.server_steps.specs.Calls.{request}
use Rattle.server_steps.specs.Deeds.{has_deeds, Quiet, Among, IsThat, downs, Tells, RunsDown, RunsAfter, Had, HasAnswered}
use Rattle.server_steps.specs.Deeds.Tells.{begins, passes, ends, shuts}
use Rattle.server_steps.proofs.Joining.{low_shard}

-- ---- what a pass entered

grown_none : (s : ℕ) (p : Pass) → Grown s p p []
grown_none s p = record {
  fronts = λ t low. ([], sym (append-nil (at_shard p t).log));
  owns = ([], sym (append-nil (at_shard p s).own), refl);
  others = λ t low apart. refl;
}

at_more : (log more : List Item) (p : ℕ) (a : Item) → get_elem? log p ≡ some a → get_elem? (log ++ more) p ≡ some a
at_more [] more p a h = absurd (some-ne-none a (sym h))
at_more (x ∷ log) more zero a h = h
at_more (x ∷ log) more (suc p) a h = at_more log more p a h

head_is : {A : Type 0} (x y : A) (xs ys : List A) → x ∷ xs ≡ y ∷ ys → x ≡ y
head_is x y xs ys h = cc

tail_is : {A : Type 0} (x y : A) (xs ys : List A) → x ∷ xs ≡ y ∷ ys → xs ≡ ys
tail_is x y xs ys h = cc

stand_more : (log more : List Item) (ps : List ℕ) (items : List Item) → map (λ p. get_elem? log p) ps ≡ map some items → map (λ p. get_elem? (log ++ more) p) ps ≡ map some items
stand_more log more [] items h = h
stand_more log more (p ∷ ps) [] h = absurd cc
stand_more log more (p ∷ ps) (a ∷ items) h = λ i. at_more log more p a (head_is _ _ _ _ h) i ∷ stand_more log more ps items (tail_is _ _ _ _ h) i

pub grown_then : (s : ℕ) (p q r : Pass) (xs ys : List Item) → s < 16 → Grown s p q xs → Grown s q r ys → Grown s p r (xs ++ ys)
grown_then s p q r xs ys low g h =
    let get : ℕ → mathlib.Core.Option.Option Item = λ n. get_elem? (at_shard r s).log n in
    let later = h.fronts s low in
    let old : map get g.owns.0 ≡ map some xs = subst (λ l. map (λ n. get_elem? l n) g.owns.0 ≡ map some xs) (sym later.1) (stand_more (at_shard q s).log later.0 g.owns.0 xs g.owns.2) in
    let new : map get h.owns.0 ≡ map some ys = h.owns.2 in record {
      fronts = λ t few. starts_trans (at_shard r t).log (at_shard q t).log (at_shard p t).log (h.fronts t few) (g.fronts t few);
      owns = (
        g.owns.0 ++ h.owns.0,
        h.owns.1 ∙ (ap (λ l. l ++ h.owns.0) g.owns.1 ∙ append_assoc (at_shard p s).own g.owns.0 h.owns.0),
        map-append get g.owns.0 h.owns.0 ∙ ((λ i. old i ++ new i) ∙ sym (map-append some xs ys)),
      );
      others = λ t few apart. h.others t few apart ∙ g.others t few apart;
    }

some_is : (x y : Item) → some x ≡ some y → x ≡ y
some_is x y h = cc

some_all : (xs ys : List Item) → map some xs ≡ map some ys → xs ≡ ys
some_all [] [] h = refl
some_all [] (y ∷ ys) h = absurd cc
some_all (x ∷ xs) [] h = absurd cc
some_all (x ∷ xs) (y ∷ ys) h = λ i. some_is x y (head_is _ _ _ _ h) i ∷ some_all xs ys (tail_is _ _ _ _ h) i

-- there is but one list of it
grown_once : (s : ℕ) (p q : Pass) (xs ys : List Item) → Grown s p q xs → Grown s p q ys → xs ≡ ys
grown_once s p q xs ys g h =
    let places : g.owns.0 ≡ h.owns.0 = append_cancel_left (at_shard p s).own g.owns.0 h.owns.0 (sym g.owns.1 ∙ h.owns.1) in
    some_all xs ys (sym g.owns.2 ∙ (ap (λ ps. map (λ n. get_elem? (at_shard q s).log n) ps) places ∙ h.owns.2))

-- ---- steps that have nothing done

or_left : (a b : Bool) → (a || b) ≡ false → a ≡ false
or_left true b h = absurd cc
or_left false b h = refl

or_right : (a b : Bool) → (a || b) ≡ false → b ≡ false
or_right true b h = absurd cc
or_right false b h = h

none_both : (es fs : List Entry) → list_any has_deeds es ≡ false → list_any has_deeds fs ≡ false → list_any has_deeds (es ++ fs) ≡ false
none_both [] fs h k = k
none_both (e ∷ es) fs h k = (λ i. or_left (has_deeds e) (list_any has_deeds es) h i || none_both es fs (or_right (has_deeds e) (list_any has_deeds es) h) k i)

pub quiet_call : (boot g : ℕ) (p q : Pass) (Answers : History → History → Type 0) (call : CallsAt boot g p q Answers) → list_any has_deeds call.here.1 ≡ false → Quiet g p q
quiet_call boot g p q Answers call h = (
  items_of g call.here.1,
  grown_more boot (shard_of g) p p q [] call.here.0 (items_of g call.here.1) (grown_none (shard_of g) p) call.here.2 call.others,
  ap (list_any has_deeds) (past_items g call.here.1) ∙ h,
)

pub quiet_then : (g : ℕ) (p q r : Pass) → Quiet g p q → Quiet g q r → Quiet g p r
quiet_then g p q r x y = (
  x.0 ++ y.0,
  grown_then (shard_of g) p q r x.0 y.0 (low_shard g) x.1 y.1,
  ap (list_any has_deeds) (past-append g x.0 y.0) ∙ none_both (past_in g y.0) (past_in g x.0) y.2 x.2,
)

pub quiet_same : (g : ℕ) (p q : Pass) → q ≡ p → Quiet g p q
quiet_same g p q same = subst (λ (z : Pass). Quiet g p z) (sym same) ([], grown_none (shard_of g) p, refl)

pub quiet_halved : (g : ℕ) (p q : Pass) → ((s : ℕ) → at_shard q s ≡ at_shard p s) → Quiet g p q
quiet_halved g p q same = (
  [],
  record {
    fronts = λ t low. subst (λ (v : Seen). StartsWith v.log (at_shard p t).log) (sym (same t)) ([], sym (append-nil (at_shard p t).log));
    owns = subst (λ (v : Seen). Owns (at_shard p (shard_of g)) v []) (sym (same (shard_of g))) (grown_none (shard_of g) p).owns;
    others = λ t low apart. ap (λ (v : Seen). v.own) (same t);
  },
  refl,
)

-- a pass is taken in that entered nothing
pub quiet_merged : (boot g : ℕ) (p o q : Pass) → OwnsNone o → ((s : ℕ) → s < 16 → Merges boot s (at_shard p s) (at_shard o s) (at_shard q s)) → Quiet g p q
quiet_merged boot g p o q none merges =
    let s : ℕ = shard_of g in
    let here = merges s (low_shard g) in
    let enters : Enters boot s (at_shard p s) (at_shard q s) here.between [] = here.enters (none s (low_shard g)) in (
      [],
      record {
        fronts = λ t low. let m = merges t low in (m.between, m.log);
        owns = owns_more boot s (at_shard p s) (at_shard p s) (at_shard q s) [] here.between [] (grown_none s p).owns enters;
        others = λ t low apart. let m = merges t low in m.own ∙ (ap (λ l. (at_shard p t).own ++ l) (none t low) ∙ append-nil (at_shard p t).own);
      },
      refl,
    )

-- what each call of the hub enters

none_comes : (es past : List Entry) → es ++ past ≡ past → list_any has_deeds es ≡ false
none_comes es past is = ap (list_any has_deeds) (append_cancel_right es [] past is)

one_comes : (es past : List Entry) (x : Entry) → es ++ past ≡ x ∷ past → has_deeds x ≡ false → list_any has_deeds es ≡ false
one_comes es past x is plain = ap (list_any has_deeds) (append_cancel_right es (x ∷ []) past is) ∙ ap (λ b. b || false) plain

module _ (home : Home) (before es : List Entry) where
  abbrev old : History
  old = whole home before

  abbrev new : History
  new = whole home (es ++ before)

  pub unaccepted_quiet : (a b : Asked) (why : AcceptRefusal) → Accepts old a (Err (b, why)) new → list_any has_deeds es ≡ false
  unaccepted_quiet a b refusal.Calls t = none_comes es before (past_is old new [] t.2)
  unaccepted_quiet a b refusal.Handles t = none_comes es before (past_is old new [] t.2)
  unaccepted_quiet a b refusal.Numbers t = none_comes es before (past_is old new [] t.2)
  unaccepted_quiet a b refusal.Memory t = none_comes es before (past_is old new [] t.1)

  pub accepted_quiet : (a : Asked) (k : ℕ) → Accepts old a (Ok k) new → list_any has_deeds es ≡ false
  accepted_quiet a k t = one_comes es before (Accept k _) (past_is old new (Accept k _ ∷ []) t.2) refl

  pub takes_quiet : (k : ℕ) (answer : Taking) → Takes old k answer new → list_any has_deeds es ≡ false
  takes_quiet k (taking.Run row serial) t = one_comes es before (Take k _) (past_is old new (Take k _ ∷ []) t.5) refl
  takes_quiet k (taking.Denied slot) t = one_comes es before (Deny k slot) (past_is old new (Deny k slot ∷ []) t.3) refl
  takes_quiet k taking.Dropped t = none_comes es before (past_is old new [] t.1)
  takes_quiet k (taking.Wait m) t = none_comes es before (past_is old new [] t.2)

  pub cancels_quiet : (k : ℕ) (answer : CancelAnswer) → Cancels old k answer new → list_any has_deeds es ≡ false
  cancels_quiet k cancels.Ended t = one_comes es before (Cancel k) (past_is old new (Cancel k ∷ []) t.1) refl
  cancels_quiet k cancels.Flagged t = one_comes es before (Cancel k) (past_is old new (Cancel k ∷ []) t.1) refl
  cancels_quiet k cancels.Late t = none_comes es before (past_is old new [] t.2)

  pub orphans_quiet : (k : ℕ) (answer : OrphanAnswer) → Orphans old k answer new → list_any has_deeds es ≡ false
  orphans_quiet k orphans.Dropped t = one_comes es before (Orphan k) (past_is old new (Orphan k ∷ []) t.1) refl
  orphans_quiet k orphans.Running t = one_comes es before (Orphan k) (past_is old new (Orphan k ∷ []) t.1) refl
  orphans_quiet k orphans.Late t = none_comes es before (past_is old new [] t.2)

  pub leaves_quiet : (g c : ℕ) → SettlesWith g (Leave c) hub_rest.Stays old new → list_any has_deeds es ≡ false
  leaves_quiet g c t = one_comes es before (Leave c) (past_is old new (Leave c ∷ []) t.1) refl

  -- while a call runs, no Shut is due
  pub none_shut_yet : (g c k : ℕ) (rest : HubRest) → runs old k ≡ true → SettlesWith g (Leave c) rest old new → rest ≡ hub_rest.Stays
  none_shut_yet g c k hub_rest.Stays running t = refl
  none_shut_yet g c k (hub_rest.Shut items key) running t = absurd (true≢false (sym t.1.0 ∙ runs_not_due (with_entry old (Leave c)) k running))

-- a call of the hub that has nothing done
module _ (boot g : ℕ) (p q : Pass) where
  pub quiet_unaccepted : (a b : Asked) (why : AcceptRefusal) (More : History → History → Type 0) → CallsAt boot g p q (λ j z. Accepts j a (Err (b, why)) z × More j z) → Quiet g p q
  quiet_unaccepted a b why More call =
      quiet_call boot g p q (λ j z. Accepts j a (Err (b, why)) z × More j z) call
      (unaccepted_quiet (home_of boot g) (past_in g ((at_shard p (shard_of g)).log ++ call.here.0)) call.here.1 a b why call.here.3.0)

  pub quiet_accepted : (a : Asked) (k : ℕ) (More : History → History → Type 0) → CallsAt boot g p q (λ j z. Accepts j a (Ok k) z × More j z) → Quiet g p q
  quiet_accepted a k More call =
      quiet_call boot g p q (λ j z. Accepts j a (Ok k) z × More j z) call (accepted_quiet (home_of boot g) (past_in g ((at_shard p (shard_of g)).log ++ call.here.0)) call.here.1 a k call.here.3.0)

  pub quiet_taken : (k : ℕ) (answer : Taking) → CallsAt boot g p q (λ j z. Takes j k answer z) → Quiet g p q
  quiet_taken k answer call = quiet_call boot g p q (λ j z. Takes j k answer z) call (takes_quiet (home_of boot g) (past_in g ((at_shard p (shard_of g)).log ++ call.here.0)) call.here.1 k answer call.here.3)

  pub quiet_cancelled : (k : ℕ) (answer : CancelAnswer) → CallsAt boot g p q (λ j z. Cancels j k answer z) → Quiet g p q
  quiet_cancelled k answer call = quiet_call boot g p q (λ j z. Cancels j k answer z) call (cancels_quiet (home_of boot g) (past_in g ((at_shard p (shard_of g)).log ++ call.here.0)) call.here.1 k answer call.here.3)

  pub quiet_orphaned : (k : ℕ) (answer : OrphanAnswer) → CallsAt boot g p q (λ j z. Orphans j k answer z) → Quiet g p q
  quiet_orphaned k answer call = quiet_call boot g p q (λ j z. Orphans j k answer z) call (orphans_quiet (home_of boot g) (past_in g ((at_shard p (shard_of g)).log ++ call.here.0)) call.here.1 k answer call.here.3)

  pub quiet_left : (c : ℕ) → CallsAt boot g p q (SettlesWith g (Leave c) hub_rest.Stays) → Quiet g p q
  quiet_left c call = quiet_call boot g p q (SettlesWith g (Leave c) hub_rest.Stays) call (leaves_quiet (home_of boot g) (past_in g ((at_shard p (shard_of g)).log ++ call.here.0)) call.here.1 g c call.here.3)

-- ---- the entries of a call that runs

among_front : (e : Entry) (xs ys : List Entry) → Among e xs → Among e (xs ++ ys)
among_front e [] ys h = absurd h
among_front e (x ∷ xs) ys (inl is) = inl is
among_front e (x ∷ xs) ys (inr h) = inr (among_front e xs ys h)

among_behind : (e : Entry) (xs ys : List Entry) → Among e ys → Among e (xs ++ ys)
among_behind e [] ys h = h
among_behind e (x ∷ xs) ys h = inr (among_behind e xs ys h)

among_filtered : (p : Entry → Bool) (e : Entry) (xs : List Entry) → Among e (filter p xs) → Among e xs
among_filtered p e [] h = absurd h
among_filtered p e (x ∷ xs) h = by_test (p x) (λ k. among_filtered p e xs k) h
  where
    by_test : (b : Bool) → (Among e (filter p xs) → Among e xs) → Among e (if b then x ∷ filter p xs else filter p xs) → (x ≡ e) ⊎ Among e xs
    by_test true r (inl is) = inl is
    by_test true r (inr h) = inr (r h)
    by_test false r h = inr (r h)

module _ (server : Server) (home : Home) (c k : ℕ) (past mine : List Entry) (gone : Bool) (j : Joined) (iface : ℕ) (offs : List Off) (slots : List Slot) (cookies : List (Option ℕ)) (turns : List Turn) where
  abbrev a : Asked
  a = asked_as c (request_of j iface) slots

  among_fate : (fate : Fate) (e : Entry) → Made server home c past gone (request j iface offs (Accepted k slots fate) ∷ turns) mine → Among e (fate_entries k a offs fate) → Among e mine
  among_fate fate e made h =
      let behind : List Turn = request j iface offs (Accepted k slots fate) ∷ turns in
      among_filtered (λ x. not (is_shut x)) e mine
      (subst (Among e) (sym made.entries)
      (among_behind e (leave_behind c gone (list_any turn_left behind)) (all_entries c behind) (among_front e (fate_entries k a offs fate) (all_entries c turns) h)))

  abbrev IsRun : Fate → Type 0
  IsRun fate = (fate ≡ Running cookies) ⊎ (fate ≡ LeftRunning cookies)

  taken_by : (fate : Fate) → IsRun fate → Among (Take k cookies) (fate_entries k a offs fate) × Among (Accept k a) (fate_entries k a offs fate)
  taken_by fate (inl is) =
      subst (λ (f : Fate). Among (Take k cookies) (fate_entries k a offs f) × Among (Accept k a) (fate_entries k a offs f)) (sym is)
      (among_behind (Take k cookies) (marks k offs) (Take k cookies ∷ Accept k a ∷ []) (inl refl), among_behind (Accept k a) (marks k offs) (Take k cookies ∷ Accept k a ∷ []) (inr (inl refl)))
  taken_by fate (inr is) =
      subst (λ (f : Fate). Among (Take k cookies) (fate_entries k a offs f) × Among (Accept k a) (fate_entries k a offs f)) (sym is)
      (inr (among_behind (Take k cookies) (marks k offs) (Take k cookies ∷ Accept k a ∷ []) (inl refl)), inr (among_behind (Accept k a) (marks k offs) (Take k cookies ∷ Accept k a ∷ []) (inr (inl refl))))

  pub taken_among : (fate : Fate) → IsRun fate → Made server home c past gone (request j iface offs (Accepted k slots fate) ∷ turns) mine → Among (Take k cookies) mine × Among (Accept k a) mine
  taken_among fate is made = let t = taken_by fate is in (among_fate fate (Take k cookies) made t.0, among_fate fate (Accept k a) made t.1)

-- ---- handles are run down one after another

module _ {P : Type 0} (enters : P → Call → Bool → Ans → P → Type 0) (runs_down : P → DueItem → P → Type 0) (splits joins : P → P → P → Type 0) where
  -- once the rest is, all are
  abbrev pub RunsOn : P → List DueItem → P → List DueItem → Type 0
  RunsOn first all now rest = (last : P) → RunsDown enters runs_down splits joins now rest last → RunsDown enters runs_down splits joins first all last

  pub runs_on : (first now next : P) (all rest : List DueItem) (item : DueItem) → RunsOn first all now (item ∷ rest) → runs_down now item next → RunsOn first all next rest
  runs_on first now next all rest item on step last h = on last (goes_on (ran_one step) h)

  pub ran_all : (first now : P) (all : List DueItem) → RunsOn first all now [] → RunsDown enters runs_down splits joins first all now
  ran_all first now all on = on now stays

-- ---- in a chain of passes

module _ {P : Type 0} (enters : P → Call → Bool → Ans → P → Type 0) (runs_down : P → DueItem → P → Type 0) (splits joins : P → P → P → Type 0) (tables : List TableForm) (boot g : ℕ) (began : Pass) (first : P) where
  abbrev home : Home
  home = home_of boot g

  abbrev Since : Pass → P → Type 0
  Since q last = Had enters runs_down splits joins tables boot g began first q last

  tells_more : (es older : List Entry) (ds : List Deed) → list_any has_deeds es ≡ false → Tells home tables older ds → Tells home tables (es ++ older) ds
  tells_more [] older ds h t = t
  tells_more (e ∷ es) older ds h t = passes (or_left (has_deeds e) (list_any has_deeds es) h) (tells_more es older ds (or_right (has_deeds e) (list_any has_deeds es) h) t)

  pub had_none : Since began first
  had_none = record { items = []; grown = grown_none (shard_of g) began; deeds = []; tells = begins; chain = stays }

  pub had_quiet : (p q : Pass) (last : P) → Quiet g p q → Since p last → Since q last
  had_quiet p q last y h = record {
    items = h.items ++ y.0;
    grown = grown_then (shard_of g) began p q h.items y.0 (low_shard g) h.grown y.1;
    deeds = h.deeds;
    tells = subst (λ es. Tells home tables es h.deeds) (sym (past-append g h.items y.0)) (tells_more (past_in g y.0) (past_in g h.items) h.deeds y.2 h.tells);
    chain = h.chain;
  }

  -- an entry comes, and the group's Shut where that is then due
  module _ (p q r : Pass) (last after : P) (e : Entry) (items : List Item) (ds : List Deed) (grown : Grown (shard_of g) began p items) (tell : Tells home tables (e ∷ past_in g items) ds) (led : Chain enters runs_down splits joins first ds last) where
    had_settled : (rest : HubRest) → CallsAt boot g p q (SettlesWith g e rest) → Settles boot rest q r → RunsAfter enters runs_down splits joins rest last after → Since r after
    had_settled hub_rest.Stays call settles done =
        let es = call.here.1 in
        let before = past_in g ((at_shard p (shard_of g)).log ++ call.here.0) in
        let is : es ≡ e ∷ [] = append_cancel_right es (e ∷ []) before (past_is (whole home before) (whole home (es ++ before)) (e ∷ []) call.here.3.1) in
        let come : past_in g (items ++ items_of g es) ≡ e ∷ past_in g items = past-append g items (items_of g es) ∙ ap (λ l. l ++ past_in g items) (past_items g es ∙ is) in
        record {
          items = items ++ items_of g es;
          grown = subst (λ (z : Pass). Grown (shard_of g) began z (items ++ items_of g es)) (sym settles)
              (grown_more boot (shard_of g) began p q items call.here.0 (items_of g es) grown call.here.2 call.others);
          deeds = ds;
          tells = subst (λ l. Tells home tables l ds) (sym come) tell;
          chain = subst (λ (z : P). Chain enters runs_down splits joins first ds z) (sym done) led;
        }
    had_settled (hub_rest.Shut due key) call settles done =
        let es = call.here.1 in
        let before = past_in g ((at_shard p (shard_of g)).log ++ call.here.0) in
        let is : es ≡ Shut due ∷ e ∷ [] = append_cancel_right es (Shut due ∷ e ∷ []) before (past_is (whole home before) (whole home (es ++ before)) (Shut due ∷ e ∷ []) call.here.3.1.2) in
        let x : EntersAt boot g q r (λ log more. more ≡ Listed (MarkedRetired g) ∷ []) = subst (λ (n : ℕ). EntersAt boot n q r (λ log more. more ≡ Listed (MarkedRetired n) ∷ [])) call.here.3.0 settles.0 in
        let come : past_in g (items ++ items_of g es) ≡ Shut due ∷ e ∷ past_in g items = past-append g items (items_of g es) ∙ ap (λ l. l ++ past_in g items) (past_items g es ∙ is) in
        let all : past_in g ((items ++ items_of g es) ++ x.here.1) ≡ Shut due ∷ e ∷ past_in g items = past-append g (items ++ items_of g es) x.here.1 ∙ (λ i. past_in g (x.here.3 i) ++ come i) in
        record {
          items = (items ++ items_of g es) ++ x.here.1;
          grown = grown_more boot (shard_of g) began q r (items ++ items_of g es) x.here.0 x.here.1
              (grown_more boot (shard_of g) began p q items call.here.0 (items_of g es) grown call.here.2 call.others) x.here.2 x.others;
          deeds = ds ++ downs due;
          tells = subst (λ l. Tells home tables l (ds ++ downs due)) (sym all) (shuts tell);
          chain = goes_on led done;
        }

  pub left_had : (p q r : Pass) (last after : P) (c : ℕ) (rest : HubRest) → CallsAt boot g p q (SettlesWith g (Leave c) rest) → Settles boot rest q r → RunsAfter enters runs_down splits joins rest last after → Since p last → Since r after
  left_had p q r last after c rest call settles done h = had_settled p q r last after (Leave c) h.items h.deeds h.grown (passes refl h.tells) h.chain rest call settles done

  that_met : (a : Asked) (cookies : List (Option ℕ)) (before : P) (w : Worked P) (m : HasAnswered enters tables home a cookies before w)
      → Meets home tables (IsThat (call_with a m.1.message cookies) m.1.told m.1.answer) a cookies m.1.told w.answered.results w.answered.said
  that_met a cookies before w m = record {
    message = m.1.message;
    asked = m.1.asked;
    told = m.1.told;
    cause = λ t. t;
    answer = m.1.answer;
    answers = (refl, refl, refl);
    blames = m.1.blames;
    results_are = m.1.results_are;
    says = m.1.says;
  }

  module _ (p o joined q r : Pass) (before kept other mid after : P) (k c : ℕ) (a : Asked) (w : Worked P) (none : OwnsNone o)
      (merges : (s : ℕ) → s < 16 → Merges boot s (at_shard p s) (at_shard o s) (at_shard joined s)) (rest : HubRest) where
    ended_by : (cookies : List (Option ℕ)) (h : Since p before) → Among (Take k cookies) (past_in g h.items) → Among (Accept k a) (past_in g h.items)
        → splits before kept other → HasAnswered enters tables home a cookies other w → joins kept w.desks mid
        → CallsAt boot g joined q (SettlesWith g (End k w.answered.results w.answered.said) rest) → Settles boot rest q r → RunsAfter enters runs_down splits joins rest mid after → Since r after
    unfolding quiet_merged
    ended_by cookies h taken accepted split m join call settles done =
        had_settled joined q r mid after (End k w.answered.results w.answered.said) h.items
        (h.deeds ++ answered (call_with a m.1.message cookies) m.1.told m.1.answer ∷ [])
        (subst (λ (l : List Item). Grown (shard_of g) began joined l) (append-nil h.items) (grown_then (shard_of g) began p joined h.items [] (low_shard g) h.grown (quiet_merged boot g p o joined none merges).1))
        (ends accepted taken (that_met a cookies other w m) h.tells)
        (goes_on h.chain (takes_back split stays (answers m.1.answers) join)) rest call settles done

    -- of a connection with its turns
    pub ended_had : (server : Server) (retired : Option Retired) (gone : Bool) (j : Joined) (iface : ℕ) (offs : List Off) (cookies : List (Option ℕ)) (fate : Fate) (turns : List Turn)
        → Held server boot began p g c retired gone (request j iface offs (Accepted k a.slots fate) ∷ turns) → (fate ≡ Running cookies) ⊎ (fate ≡ LeftRunning cookies) → a ≡ asked_as c (request_of j iface) a.slots
        → splits before kept other → HasAnswered enters tables home a cookies other w → joins kept w.desks mid
        → CallsAt boot g joined q (SettlesWith g (End k w.answered.results w.answered.said) rest) → Settles boot rest q r → RunsAfter enters runs_down splits joins rest mid after → Since p before → Since r after
    ended_had server retired gone j iface offs cookies fate turns held is asked split m join call settles done h =
        let t = taken_among server home c k _ held.mine gone j iface offs a.slots cookies turns fate is held.made in
        let mine : held.mine ≡ past_in g h.items = sym held.own ∙ ap (past_in g) (grown_once (shard_of g) began p held.items h.items held.grown h.grown) in
        ended_by cookies h (subst (Among (Take k cookies)) mine t.0)
        (subst (λ (z : Asked). Among (Accept k z) (past_in g h.items)) (sym asked) (subst (Among (Accept k (asked_as c (request_of j iface) a.slots))) mine t.1)) split m join call settles done
