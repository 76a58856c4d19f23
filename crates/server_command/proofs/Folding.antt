-- A fold in which a connection's Join still stands tells of the connection what the journal tells.
use Rattle.std.proofs.Common.{◌≡◌, ◌∙◌, ◌==◌, ℕ, Bool, true, false, ◌||◌, not, Option, List, [], ◌∷◌, ◌++◌, refl, sym, ap, subst, inl, inr, true≢false, filter, append-nil}
use Rattle.std.specs.List.{list_any, cons_option, AllByRecursion}
use Rattle.std.proofs.lemmas.Bool.{cases_Bool, eqb-true, false_from_ne_true}
use Rattle.std.proofs.lemmas.List.Elements.{filter-append, filter_map-append}
use Rattle.std.proofs.lemmas.List.Folds.{list_any-append}
use Rattle.std.proofs.lemmas.Map.Views.{any-filter_same}
use Rattle.handle_model.specs.declared.entry.Home.{Home}
use Rattle.handle_model.specs.declared.entry.Asked.{Asked}
use Rattle.handle_model.specs.declared.entry.Entry.{Entry}
use Rattle.handle_model.specs.declared.entry.Entry.TheVariants.{Join, Accept, Take, Deny, Cancel, Orphan, End, Leave, Shut}
use Rattle.handle_model.specs.History.{History}
use Rattle.handle_model.specs.Journal.{Legal, joins, leaves, has_joined}
use Rattle.handle_model.specs.Replies.{replies}
use Rattle.handle_model.proofs.Held.{and_left, or_right, or_cases}
use Rattle.handle_model.specs.CallLaws.{accepts}
use Rattle.journal_tables.specs.FoldOf.{IsFoldOf}
use Rattle.journal_tables.proofs.Told.{keeps_replies}
use Rattle.conn_histories.specs.declared.turn.Off.{Off}
use Rattle.conn_histories.specs.declared.turn.Off.TheVariants as off
use Rattle.conn_histories.specs.declared.turn.Fate.{Fate}
use Rattle.conn_histories.specs.declared.turn.Fate.TheVariants.{Waiting, Denied, Cancelled, Orphaned, LeftWaiting, Running, LeftRunning, Ended, LeftEnded}
use Rattle.conn_histories.specs.declared.turn.Deed.{Deed}
use Rattle.conn_histories.specs.declared.turn.Deed.TheVariants.{Pending, Refused, Accepted}
use Rattle.conn_histories.specs.declared.turn.Request.{Request}
use Rattle.conn_histories.specs.declared.turn.Turn.{Turn}
use Rattle.conn_histories.specs.declared.turn.Turn.TheVariants.{Binding, Bound, NotBound, Answered, Called, Closed}
use Rattle.conn_histories.specs.Entries.{entry_off, marks, taken, asked_as, fate_entries, has_left, leave_behind, deed_number, numbers_of}
use Rattle.conn_histories.specs.Tales.{whole, of_conn, is_about, tale, accepted_of, calls_of, DeedStands, Stands, StandAll}
use Rattle.conn_turns.specs.Laws.{DeedReplied, IsReplied}
use Rattle.conn_turns.proofs.TaleFacts.{same_number, any_first, any_rest, in_tale}
use Rattle.conn_turns.proofs.MarkFacts.{marks_none}
use Rattle.conn_turns.proofs.Replying.{turns_are_replied}
use Rattle.server_command.specs.Holds.{DeedIsTold, IsTold, TellsOfTurns}
use Rattle.server_command.proofs.Behind.{legal_older}

-- ---- lists with one item that passes a test, the last

head_is : (x y : Entry) (xs ys : List Entry) → x ∷ xs ≡ y ∷ ys → x ≡ y
head_is x y xs ys e = cc

tail_is : (x y : Entry) (xs ys : List Entry) → x ∷ xs ≡ y ∷ ys → xs ≡ ys
tail_is x y xs ys e = cc

none_behind : (xs ys : List Entry) → xs ++ ys ≡ [] → ys ≡ []
none_behind [] ys e = e
none_behind (x ∷ xs) ys e = absurd (cc)

-- a front that has it is the whole list
ends_there : (p : Entry → Bool) (e : Entry) (front xs ys : List Entry) → xs ++ ys ≡ front ++ e ∷ [] → list_any p xs ≡ true → list_any p front ≡ false → ys ≡ []
ends_there p e front [] ys is h none = absurd (true≢false (sym h))
ends_there p e [] (x ∷ xs) ys is h none = none_behind xs ys (tail_is x e (xs ++ ys) [] is)
ends_there p e (f ∷ front) (x ∷ xs) ys is h none =
    let same : x ≡ f = head_is x f (xs ++ ys) (front ++ e ∷ []) is in
    let off : p x ≡ false = ap p same ∙ any_first (p f) (list_any p front) none in
    ends_there p e front xs ys (tail_is x f (xs ++ ys) (front ++ e ∷ []) is) (rw off at h) (any_rest (p f) (list_any p front) none)

-- ---- the Join is the oldest entry of a connection

joins_conn : (c : ℕ) (e : Entry) → joins c e ≡ true → of_conn c e ≡ true
joins_conn c (Join d) h = h
joins_conn c (Accept m a) h = absurd (true≢false (sym h))
joins_conn c (Take m cookies) h = absurd (true≢false (sym h))
joins_conn c (Deny m slot) h = absurd (true≢false (sym h))
joins_conn c (Cancel m) h = absurd (true≢false (sym h))
joins_conn c (Orphan m) h = absurd (true≢false (sym h))
joins_conn c (End m results said) h = absurd (true≢false (sym h))
joins_conn c (Leave d) h = absurd (true≢false (sym h))
joins_conn c (Shut items) h = absurd (true≢false (sym h))

joins_about : (c k : ℕ) (e : Entry) → joins c e ≡ true → is_about c k e ≡ true
joins_about c k e h = rw (joins_conn c e h) refl

mark_joins : (c k : ℕ) (o : Off) → joins c (entry_off k o) ≡ false
mark_joins c k off.Cancel = refl
mark_joins c k off.Orphan = refl

taken_joins : (c k : ℕ) (a : Asked) (offs : List Off) (cookies : List (Option ℕ)) → list_any (joins c) (taken k a offs cookies) ≡ false
taken_joins c k a offs cookies =
    list_any-append (joins c) (marks k offs) (Take k cookies ∷ Accept k a ∷ []) ∙ rw (marks_none (joins c) k (mark_joins c k) offs) refl

fate_joins : (c k : ℕ) (a : Asked) (offs : List Off) (fate : Fate) → list_any (joins c) (leave_behind c true (has_left fate) ++ fate_entries k a offs fate) ≡ false
fate_joins c k a offs Waiting = refl
fate_joins c k a offs (Denied slot) = refl
fate_joins c k a offs Cancelled = refl
fate_joins c k a offs Orphaned = refl
fate_joins c k a offs LeftWaiting = refl
fate_joins c k a offs (Running cookies) = taken_joins c k a offs cookies
fate_joins c k a offs (LeftRunning cookies) = taken_joins c k a offs cookies
fate_joins c k a offs (Ended run) = taken_joins c k a offs run.cookies
fate_joins c k a offs (LeftEnded run) = taken_joins c k a offs run.cookies

-- no call of a connection is accepted before it joined
no_true : (x y : Bool) → (x || y) ≡ false → x ≡ true → ⊥
no_true x y h t = true≢false (sym t ∙ any_first x y h)

uncalled : (home : Home) (past : List Entry) (c : ℕ) → Legal (whole home past) → has_joined (whole home past) c ≡ false → calls_of c past ≡ []
uncalled home [] c l n = refl
uncalled home (Accept m a ∷ past) c l n =
    let others : (a.conn == c) ≡ false = false_from_ne_true (a.conn == c) (λ t.
    let here : has_joined (whole home past) a.conn ≡ true = and_left (has_joined (whole home past) a.conn) (not (list_any (leaves a.conn) past)) l.0.fits.1 in
    true≢false (sym (subst (λ d. has_joined (whole home past) d ≡ true) (eqb-true a.conn c t) here) ∙ n)) in
    rw others (uncalled home past c l.1 n)
uncalled home (Join d ∷ past) c l n = uncalled home past c l.1 (any_rest (d == c) (has_joined (whole home past) c) n)
uncalled home (Take m cookies ∷ past) c l n = uncalled home past c l.1 n
uncalled home (Deny m slot ∷ past) c l n = uncalled home past c l.1 n
uncalled home (Cancel m ∷ past) c l n = uncalled home past c l.1 n
uncalled home (Orphan m ∷ past) c l n = uncalled home past c l.1 n
uncalled home (End m results said ∷ past) c l n = uncalled home past c l.1 n
uncalled home (Leave d ∷ past) c l n = uncalled home past c l.1 n
uncalled home (Shut items ∷ past) c l n = uncalled home past c l.1 n

unjoined : (home : Home) (past : List Entry) (c : ℕ) → filter (of_conn c) past ≡ [] → has_joined (whole home past) c ≡ false
unjoined home [] c e = refl
unjoined home (Join d ∷ past) c e = elim (cases_Bool (d == c)) [
  | inl t ↦ absurd (some_none (Join d) (filter (of_conn c) past) (rw t at e))
  | inr f ↦ rw f (unjoined home past c (rw f at e))
]
  where
    some_none : (x : Entry) (xs : List Entry) → x ∷ xs ≡ [] → ⊥
    some_none x xs e = absurd (cc)
unjoined home (Leave d ∷ past) c e = elim (cases_Bool (d == c)) [
  | inl t ↦ absurd (some_none (Leave d) (filter (of_conn c) past) (rw t at e))
  | inr f ↦ unjoined home past c (rw f at e)
]
  where
    some_none : (x : Entry) (xs : List Entry) → x ∷ xs ≡ [] → ⊥
    some_none x xs e = absurd (cc)
unjoined home (Accept m a ∷ past) c e = unjoined home past c e
unjoined home (Take m cookies ∷ past) c e = unjoined home past c e
unjoined home (Deny m slot ∷ past) c e = unjoined home past c e
unjoined home (Cancel m ∷ past) c e = unjoined home past c e
unjoined home (Orphan m ∷ past) c e = unjoined home past c e
unjoined home (End m results said ∷ past) c e = unjoined home past c e
unjoined home (Shut items ∷ past) c e = unjoined home past c e

-- ---- what the entries behind the Join and with it say

only : (xs ys : List Entry) → ys ≡ [] → xs ≡ xs ++ ys
only xs ys none = sym (append-nil xs) ∙ ap (λ l. xs ++ l) (sym none)

module _ (c : ℕ) (newer older : List Entry) (joined : list_any (joins c) newer ≡ true) where
  abbrev AreConns : List Entry → Type 0
  AreConns past = filter (of_conn c) past ≡ Leave c ∷ Join c ∷ []

  none_older : AreConns (newer ++ older) → filter (of_conn c) older ≡ []
  none_older e =
      ends_there (joins c) (Join c) (Leave c ∷ []) (filter (of_conn c) newer) (filter (of_conn c) older) (sym (filter-append (of_conn c) newer older) ∙ e)
      (any-filter_same (joins c) (of_conn c) true (joins_conn c) newer ∙ joined) refl

  conns_newer : AreConns (newer ++ older) → AreConns newer
  conns_newer e = only (filter (of_conn c) newer) (filter (of_conn c) older) (none_older e) ∙ (sym (filter-append (of_conn c) newer older) ∙ e)

  tale_newer : (k : ℕ) (front : List Entry) → tale c k (newer ++ older) ≡ front ++ Join c ∷ [] → list_any (joins c) front ≡ false → tale c k newer ≡ tale c k (newer ++ older)
  tale_newer k front e none =
      let empty : tale c k older ≡ [] =
      ends_there (joins c) (Join c) front (tale c k newer) (tale c k older) (sym (filter-append (is_about c k) newer older) ∙ e)
      (in_tale c k (joins c) (joins_about c k) newer ∙ joined) none in
      only (tale c k newer) (tale c k older) empty ∙ sym (filter-append (is_about c k) newer older)

  deed_newer : (r : Request) (d : Deed) → DeedStands c true (newer ++ older) r d → DeedStands c true newer r d
  deed_newer r Pending h = h
  deed_newer r (Refused status) h = h
  deed_newer r (Accepted k slots fate) h =
      let a : Asked = asked_as c r slots in
      let leave : List Entry = leave_behind c true (has_left fate) in
      let entries : List Entry = fate_entries k a r.offs fate in
      tale_newer k (leave ++ entries) h (fate_joins c k a r.offs fate) ∙ h

  turns_newer : (turns : List Turn) → AllByRecursion (Stands c true (newer ++ older)) turns → AllByRecursion (Stands c true newer) turns
  turns_newer [] h = tt
  turns_newer (Called r ∷ ts) h = (deed_newer r r.deed h.0, turns_newer ts h.1)
  turns_newer (Binding asked ∷ ts) h = (tt, turns_newer ts h.1)
  turns_newer (Bound asked group octets ∷ ts) h = (tt, turns_newer ts h.1)
  turns_newer (NotBound asked reason octets ∷ ts) h = (tt, turns_newer ts h.1)
  turns_newer (Answered octets ∷ ts) h = (tt, turns_newer ts h.1)
  turns_newer (Closed octets why ∷ ts) h = (tt, turns_newer ts h.1)

  stand_newer : (home : Home) (turns : List Turn) → Legal (whole home (newer ++ older)) → AreConns (newer ++ older) → StandAll c true (newer ++ older) turns → StandAll c true newer turns
  stand_newer home turns l e s =
      let none : calls_of c older ≡ [] = uncalled home older c (legal_older home newer older l) (unjoined home older c (none_older e)) in record {
        calls = only_calls (calls_of c newer) (calls_of c older) none ∙ (sym (filter_map-append (accepted_of c) newer older) ∙ s.calls);
        stand = turns_newer turns s.stand;
        none_open = s.none_open;
        none_left = s.none_left;
      }
    where
      only_calls : (xs ys : List ℕ) → ys ≡ [] → xs ≡ xs ++ ys
      only_calls xs ys none = sym (append-nil xs) ∙ ap (λ l. xs ++ l) (sym none)

-- ---- and what is replied

abbrev Has : ℕ → List ℕ → Type 0
Has k ks = list_any (λ m. m == k) ks ≡ true

accept_there : (past : List Entry) (c k : ℕ) → Has k (calls_of c past) → list_any (accepts k) past ≡ true
accept_there [] c k h = absurd (true≢false (sym h))
accept_there (Accept m a ∷ past) c k h = elim (cases_Bool (a.conn == c)) [
  | inl t ↦ elim (or_cases (m == k) (list_any (λ n. n == k) (calls_of c past)) (rw t at h)) [
    | inl e ↦ rw e refl
    | inr r ↦ or_right (m == k) (list_any (accepts k) past) (accept_there past c k r)
  ]
  | inr f ↦ or_right (m == k) (list_any (accepts k) past) (accept_there past c k (rw f at h))
]
accept_there (Join d ∷ past) c k h = accept_there past c k h
accept_there (Take m cookies ∷ past) c k h = accept_there past c k h
accept_there (Deny m slot ∷ past) c k h = accept_there past c k h
accept_there (Cancel m ∷ past) c k h = accept_there past c k h
accept_there (Orphan m ∷ past) c k h = accept_there past c k h
accept_there (End m results said ∷ past) c k h = accept_there past c k h
accept_there (Leave d ∷ past) c k h = accept_there past c k h
accept_there (Shut items ∷ past) c k h = accept_there past c k h

module _ (x : History) (home : Home) (past : List Entry) (same : (k : ℕ) → list_any (accepts k) x.past ≡ true → replies x k ≡ replies (whole home past) k) where
  deed_told : (offs : List Off) (d : Deed) (ks : List ℕ) → DeedReplied home past offs d → ((k : ℕ) → Has k (cons_option (deed_number d) ks) → list_any (accepts k) x.past ≡ true) → DeedIsTold x offs d
  deed_told offs Pending ks h has = tt
  deed_told offs (Refused status) ks h has = tt
  deed_told offs (Accepted k slots fate) ks h has = same k (has k (rw (same_number k) refl)) ∙ h

  deed_rest : (d : Deed) (ks : List ℕ) → ((k : ℕ) → Has k (cons_option (deed_number d) ks) → list_any (accepts k) x.past ≡ true) → (k : ℕ) → Has k ks → list_any (accepts k) x.past ≡ true
  deed_rest Pending ks has k h = has k h
  deed_rest (Refused status) ks has k h = has k h
  deed_rest (Accepted n slots fate) ks has k h = has k (or_right (n == k) (list_any (λ m. m == k) ks) h)

  all_told : (turns : List Turn) → AllByRecursion (IsReplied home past) turns → ((k : ℕ) → Has k (numbers_of turns) → list_any (accepts k) x.past ≡ true) → AllByRecursion (IsTold x) turns
  all_told [] h has = tt
  all_told (Called r ∷ ts) h has = (deed_told r.offs r.deed (numbers_of ts) h.0 has, all_told ts h.1 (deed_rest r.deed (numbers_of ts) has))
  all_told (Binding asked ∷ ts) h has = (tt, all_told ts h.1 has)
  all_told (Bound asked group octets ∷ ts) h has = (tt, all_told ts h.1 has)
  all_told (NotBound asked reason octets ∷ ts) h has = (tt, all_told ts h.1 has)
  all_told (Answered octets ∷ ts) h has = (tt, all_told ts h.1 has)
  all_told (Closed octets why ∷ ts) h has = (tt, all_told ts h.1 has)

pub folds_tell : (x : History) (home : Home) (c : ℕ) (past : List Entry) (turns : List Turn) → Legal (whole home past) → IsFoldOf x (whole home past)
    → list_any (joins c) x.past ≡ true → StandAll c true past turns → filter (of_conn c) past ≡ Leave c ∷ Join c ∷ [] → TellsOfTurns x c turns
folds_tell x home c past turns l fold has stand conns =
    let p : x.past ≡ fold.newer = ap (λ (h : History). h.past) fold.fold_is in
    let here : past ≡ x.past ++ fold.older = fold.past_is ∙ ap (λ n. n ++ fold.older) (sym p) in
    let legal : Legal (whole home (x.past ++ fold.older)) = subst (λ q. Legal (whole home q)) here l in
    let those : filter (of_conn c) (x.past ++ fold.older) ≡ Leave c ∷ Join c ∷ [] = subst (λ q. filter (of_conn c) q ≡ Leave c ∷ Join c ∷ []) here conns in
    let s = stand_newer c x.past fold.older has home turns legal those (subst (λ q. StandAll c true q turns) here stand) in record {
      stand = s;
      conns = conns_newer c x.past fold.older has those;
      told = all_told x home past (λ k a. keeps_replies x (whole home past) k l (inr refl) fold a) turns (turns_are_replied home c true past turns stand)
          (λ k h. accept_there x.past c k (subst (Has k) (sym s.calls) h));
    }
