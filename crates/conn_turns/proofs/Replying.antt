-- What the journal replies to the calls of turns.
use Rattle.std.proofs.Common.{◌≡◌, ℕ, Bool, true, false, ◌||◌, if◌then◌else◌, List, [], ◌∷◌, ◌++◌, Option, Some, None, refl, ap, ◌∙◌}
use Rattle.std.specs.List.{list_any, AllByRecursion}
use Rattle.handle_model.specs.declared.entry.Home.{Home}
use Rattle.handle_model.specs.declared.entry.Said.{Said}
use Rattle.handle_model.specs.declared.entry.Asked.{Asked}
use Rattle.handle_model.specs.declared.entry.Outcome.{Outcome}
use Rattle.handle_model.specs.declared.entry.Entry.{Entry}
use Rattle.handle_model.specs.declared.entry.Entry.TheVariants.{Join, Accept, Deny, Cancel, Orphan, End, Leave}
use Rattle.handle_model.specs.declared.reply.Reply.{Reply}
use Rattle.handle_model.specs.declared.reply.Reply.TheVariants.{Ran, Dropped, Open}
use Rattle.handle_model.specs.Journal.{takes, denies, cancels}
use Rattle.handle_model.specs.Replies.{is_lost, replies, reply_by}
use Rattle.conn_histories.specs.declared.turn.Off.{Off}
use Rattle.conn_histories.specs.declared.turn.Fate.{Fate}
use Rattle.conn_histories.specs.declared.turn.Fate.TheVariants.{Waiting, Denied, Cancelled, Orphaned, LeftWaiting, Running, LeftRunning, Ended, LeftEnded}
use Rattle.conn_histories.specs.declared.turn.Deed.{Deed}
use Rattle.conn_histories.specs.declared.turn.Deed.TheVariants.{Pending, Refused, Accepted}
use Rattle.conn_histories.specs.declared.turn.Request.{Request}
use Rattle.conn_histories.specs.declared.turn.Turn.{Turn}
use Rattle.conn_histories.specs.declared.turn.Turn.TheVariants.{Binding, Bound, NotBound, Answered, Called, Closed}
use Rattle.conn_histories.specs.Entries.{is_orphan, taken, asked_as, fate_entries, has_left as fate_left, is_open, deed_open, turn_open, leave_behind}
use Rattle.conn_histories.specs.Events.{fate_reply}
use Rattle.conn_histories.specs.Tales.{whole, tale, DeedStands, Stands, StandAll}
use Rattle.conn_turns.specs.Laws.{DeedReplied, IsReplied}
use Rattle.conn_turns.proofs.TaleFacts.{any_first, any_rest, same_number, or_false, or_true, ended_in, is_foreign, reply_from, reply_is, reply_tale}
use Rattle.conn_turns.proofs.MarkFacts.{ran, ran_is, ran_taken, ran_denied, ran_ended, ran_left, ran_orphaned, ran_theirs, ran_asked, lost_so, unended}

-- no Leave stands behind a call that the connection left
no_more : (c : ℕ) (gone : Bool) (es rest : List Entry) → leave_behind c gone true ++ es ++ rest ≡ es ++ rest
no_more c true es rest = refl
no_more c false es rest = refl

took_reply : (off lost : Bool) (said : Option Said) → reply_from false off true said lost ≡ reply_by said lost
took_reply true lost said = refl
took_reply false lost said = refl

ended_reply : (o lost : Bool) (said : Said) → (o ≡ true → lost ≡ true) → reply_by (if o then None else Some said) lost ≡ (if o then Dropped else Ran said)
ended_reply true lost said h = rw (h refl) refl
ended_reply false lost said h = refl

module _ (home : Home) (k : ℕ) (a : Asked) (past : List Entry) where
  -- the reply by a tale
  by_tale : (t : List Entry) → tale a.conn k past ≡ t → list_any (is_foreign a.conn k) t ≡ false → (r : Reply) → replies (whole home t) k ≡ r → replies (whole home past) k ≡ r
  by_tale t is own r h = reply_tale home a.conn k past t is own ∙ h

  -- of a taken call
  by_ran : (t : List Entry) (off lost : Bool) (said : Option Said) → list_any (denies k) t ≡ false → list_any (cancels k) t ≡ off → list_any (takes k) t ≡ true → ended_in home k t ≡ said
      → is_lost (whole home t) k ≡ lost → replies (whole home t) k ≡ reply_by said lost
  by_ran t off lost said d o t' e l = reply_is home t k false off true lost said d o t' e l ∙ took_reply off lost said

  end_said : (results : List Outcome) (said : Said) (xs : List Entry) (lost : Bool) → is_lost (whole home xs) k ≡ lost
      → ended_in home k (End k results said ∷ xs) ≡ (if lost then None else Some said)
  end_said results said xs lost l = rw (same_number k) (ap (λ x. if x then None else Some said) l)

  fate_replied : (gone : Bool) (offs : List Off) (fate : Fate) → tale a.conn k past ≡ leave_behind a.conn gone (fate_left fate) ++ fate_entries k a offs fate ++ Join a.conn ∷ []
      → (gone ≡ true → is_open fate ≡ false) → replies (whole home past) k ≡ fate_reply offs fate
  fate_replied false offs Waiting is unopened =
      let t : List Entry = Accept k a ∷ Join a.conn ∷ [] in
      by_tale t is (rw (same_number k, same_number a.conn) refl) Open (reply_is home t k false false false false None refl refl refl refl (rw (same_number k) refl))
  fate_replied true offs Waiting is unopened = absurd (cc (unopened refl))
  fate_replied false offs (Denied slot) is unopened =
      let t : List Entry = Deny k slot ∷ Accept k a ∷ Join a.conn ∷ [] in
      by_tale t is (rw (same_number k, same_number a.conn) refl) _ (reply_is home t k true false false _ None (rw (same_number k) refl) refl refl refl refl)
  fate_replied true offs (Denied slot) is unopened =
      let t : List Entry = Leave a.conn ∷ Deny k slot ∷ Accept k a ∷ Join a.conn ∷ [] in
      by_tale t is (rw (same_number k, same_number a.conn) refl) _ (reply_is home t k true false false _ None (rw (same_number k) refl) refl refl refl refl)
  fate_replied false offs Cancelled is unopened =
      let t : List Entry = Cancel k ∷ Accept k a ∷ Join a.conn ∷ [] in
      by_tale t is (rw (same_number k, same_number a.conn) refl) _ (reply_is home t k false true false _ None refl (rw (same_number k) refl) refl refl refl)
  fate_replied true offs Cancelled is unopened =
      let t : List Entry = Leave a.conn ∷ Cancel k ∷ Accept k a ∷ Join a.conn ∷ [] in
      by_tale t is (rw (same_number k, same_number a.conn) refl) _ (reply_is home t k false true false _ None refl (rw (same_number k) refl) refl refl refl)
  fate_replied false offs Orphaned is unopened =
      let t : List Entry = Orphan k ∷ Accept k a ∷ Join a.conn ∷ [] in
      by_tale t is (rw (same_number k, same_number a.conn) refl) _
      (reply_is home t k false false false true None refl refl refl refl (lost_so home k a t true false (rw (same_number k) refl) (rw (same_number k) refl) refl))
  fate_replied true offs Orphaned is unopened =
      let t : List Entry = Leave a.conn ∷ Orphan k ∷ Accept k a ∷ Join a.conn ∷ [] in
      by_tale t is (rw (same_number k, same_number a.conn) refl) _
      (reply_is home t k false false false true None refl refl refl refl (lost_so home k a t true true (rw (same_number k) refl) (rw (same_number k) refl) (rw (same_number a.conn) refl)))
  fate_replied gone offs LeftWaiting is unopened =
      let t : List Entry = Leave a.conn ∷ Accept k a ∷ Join a.conn ∷ [] in
      by_tale t (is ∙ no_more a.conn gone (Leave a.conn ∷ Accept k a ∷ []) (Join a.conn ∷ [])) (rw (same_number k, same_number a.conn) refl) _
      (reply_is home t k false false false true None refl refl refl refl (lost_so home k a t false true (rw (same_number k) refl) refl (rw (same_number a.conn) refl)))
  fate_replied false offs (Running cookies) is unopened =
      let t : List Entry = ran k a offs cookies in
      let o : Bool = list_any is_orphan offs in
      by_tale t (is ∙ ran_is k a offs cookies) (ran_theirs k a offs cookies) _
      (by_ran t _ (o || false) None (ran_denied k a offs cookies) refl (ran_taken k a offs cookies) (unended home k t (ran_ended k a offs cookies))
      (lost_so home k a t o false (ran_asked k a offs cookies) (ran_orphaned k a offs cookies) (ran_left k a offs cookies))
      ∙ ap (λ b. reply_by None b) (or_false o))
  fate_replied true offs (Running cookies) is unopened = absurd (cc (unopened refl))
  fate_replied gone offs (LeftRunning cookies) is unopened =
      let t : List Entry = Leave a.conn ∷ ran k a offs cookies in
      let o : Bool = list_any is_orphan offs in
      by_tale t (is ∙ (no_more a.conn gone (Leave a.conn ∷ taken k a offs cookies) (Join a.conn ∷ []) ∙ ap (λ l. Leave a.conn ∷ l) (ran_is k a offs cookies))) (ran_theirs k a offs cookies) _
      (by_ran t _ (o || true) None (ran_denied k a offs cookies) refl (ran_taken k a offs cookies) (unended home k t (ran_ended k a offs cookies))
      (lost_so home k a t o true (ran_asked k a offs cookies) (ran_orphaned k a offs cookies) (rw (same_number a.conn) refl))
      ∙ ap (λ b. reply_by None b) (or_true o))
  fate_replied false offs (Ended run) is unopened =
      let x : List Entry = ran k a offs run.cookies in
      let t : List Entry = End k run.results run.said ∷ x in
      let o : Bool = list_any is_orphan offs in
      let lost : is_lost (whole home x) k ≡ o =
      lost_so home k a x o false (ran_asked k a offs run.cookies) (ran_orphaned k a offs run.cookies) (ran_left k a offs run.cookies) ∙ or_false o in
      let lost' : is_lost (whole home t) k ≡ o =
      lost_so home k a t o false (ran_asked k a offs run.cookies) (ran_orphaned k a offs run.cookies) (ran_left k a offs run.cookies) ∙ or_false o in
      by_tale t (is ∙ ap (λ l. End k run.results run.said ∷ l) (ran_is k a offs run.cookies)) (ran_theirs k a offs run.cookies) _
      (by_ran t _ o (if o then None else Some run.said) (ran_denied k a offs run.cookies) refl (ran_taken k a offs run.cookies) (end_said run.results run.said x o lost) lost'
      ∙ ended_reply o o run.said (λ h. h))
  fate_replied true offs (Ended run) is unopened =
      let x : List Entry = ran k a offs run.cookies in
      let t : List Entry = Leave a.conn ∷ End k run.results run.said ∷ x in
      let o : Bool = list_any is_orphan offs in
      let lost : is_lost (whole home x) k ≡ o =
      lost_so home k a x o false (ran_asked k a offs run.cookies) (ran_orphaned k a offs run.cookies) (ran_left k a offs run.cookies) ∙ or_false o in
      let lost' : is_lost (whole home t) k ≡ true =
      lost_so home k a t o true (ran_asked k a offs run.cookies) (ran_orphaned k a offs run.cookies) (rw (same_number a.conn) refl) ∙ or_true o in
      by_tale t (is ∙ ap (λ l. Leave a.conn ∷ End k run.results run.said ∷ l) (ran_is k a offs run.cookies)) (ran_theirs k a offs run.cookies) _
      (by_ran t _ true (if o then None else Some run.said) (ran_denied k a offs run.cookies) refl (ran_taken k a offs run.cookies) (end_said run.results run.said x o lost) lost'
      ∙ ended_reply o true run.said (λ h. refl))
  fate_replied gone offs (LeftEnded run) is unopened =
      let x : List Entry = Leave a.conn ∷ ran k a offs run.cookies in
      let t : List Entry = End k run.results run.said ∷ x in
      let o : Bool = list_any is_orphan offs in
      let lost : is_lost (whole home x) k ≡ true =
      lost_so home k a x o true (ran_asked k a offs run.cookies) (ran_orphaned k a offs run.cookies) (rw (same_number a.conn) refl) ∙ or_true o in
      let lost' : is_lost (whole home t) k ≡ true =
      lost_so home k a t o true (ran_asked k a offs run.cookies) (ran_orphaned k a offs run.cookies) (rw (same_number a.conn) refl) ∙ or_true o in
      by_tale t (is ∙ (no_more a.conn gone (End k run.results run.said ∷ Leave a.conn ∷ taken k a offs run.cookies) (Join a.conn ∷ []) ∙ ap (λ l. End k run.results run.said ∷ Leave a.conn ∷ l) (ran_is k a offs run.cookies)))
      (ran_theirs k a offs run.cookies) _
      (by_ran t _ true None (ran_denied k a offs run.cookies) refl (ran_taken k a offs run.cookies) (end_said run.results run.said x true lost) lost')

-- ---- turns

module _ (home : Home) (c : ℕ) (gone : Bool) (past : List Entry) where
  deed_replied : (r : Request) (deed : Deed) → DeedStands c gone past r deed → (gone ≡ true → deed_open deed ≡ false) → DeedReplied home past r.offs deed
  deed_replied r Pending h unopened = tt
  deed_replied r (Refused status) h unopened = tt
  deed_replied r (Accepted k slots fate) h unopened = fate_replied home k (asked_as c r slots) past gone r.offs fate h unopened

  turn_replied : (t : Turn) → Stands c gone past t → (gone ≡ true → turn_open t ≡ false) → IsReplied home past t
  turn_replied (Binding asked) h unopened = tt
  turn_replied (Bound asked group octets) h unopened = tt
  turn_replied (NotBound asked reason octets) h unopened = tt
  turn_replied (Answered octets) h unopened = tt
  turn_replied (Called r) h unopened = deed_replied r r.deed h unopened
  turn_replied (Closed octets fault) h unopened = tt

  all_replied : (ts : List Turn) → AllByRecursion (Stands c gone past) ts → (gone ≡ true → list_any turn_open ts ≡ false) → AllByRecursion (IsReplied home past) ts
  all_replied [] h unopened = tt
  all_replied (t ∷ ts) h unopened =
      (turn_replied t h.0 (λ g. any_first (turn_open t) (list_any turn_open ts) (unopened g)), all_replied ts h.1 (λ g. any_rest (turn_open t) (list_any turn_open ts) (unopened g)))

pub turns_are_replied : (home : Home) (c : ℕ) (gone : Bool) (past : List Entry) (turns : List Turn) → StandAll c gone past turns → AllByRecursion (IsReplied home past) turns
turns_are_replied home c gone past turns s = all_replied home c gone past turns s.stand s.none_open
