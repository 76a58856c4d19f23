-- All that comes behind a connection that is over is of others.
use Rattle.std.proofs.Common.{◌≡◌, ◌∙◌, ◌==◌, ℕ, Bool, true, false, ◌&&◌, ◌||◌, not, Some, None, is_some, List, [], ◌∷◌, ◌++◌, refl, sym, ap, subst, inl, inr, true≢false, filter}
use Rattle.std.specs.List.{list_any, cons_option, AllByRecursion}
use Rattle.std.proofs.lemmas.Bool.{cases_Bool, eqb-true, false_from_ne_true}
use Rattle.handle_model.specs.declared.entry.Home.{Home}
use Rattle.handle_model.specs.declared.entry.Asked.{Asked}
use Rattle.handle_model.specs.declared.entry.Entry.{Entry}
use Rattle.handle_model.specs.declared.entry.Entry.TheVariants.{Join, Accept, Take, Deny, Cancel, Orphan, End, Leave, Shut}
use Rattle.handle_model.specs.History.{History, with_entry}
use Rattle.handle_model.specs.Journal.{Legal, joins, leaves, takes, ends, has_joined, is_open, asked, has_left, is_decided, is_taken, is_cancelled, is_orphaned, waits, runs}
use Rattle.handle_model.proofs.Held.{and_right, or_right, or_cases}
use Rattle.handle_model.proofs.Accepted.{asked_kept, accepts_new}
use Rattle.handle_model.proofs.Joins.{joins_new}
use Rattle.conn_histories.specs.declared.turn.Deed.{Deed}
use Rattle.conn_histories.specs.declared.turn.Deed.TheVariants.{Pending, Refused, Accepted}
use Rattle.conn_histories.specs.declared.turn.Turn.{Turn}
use Rattle.conn_histories.specs.declared.turn.Turn.TheVariants.{Binding, Bound, NotBound, Answered, Called, Closed}
use Rattle.conn_histories.specs.Entries.{turn_runs, deed_number, numbers_of}
use Rattle.conn_histories.specs.Tales.{whole, of_call, of_conn, accepted_of, calls_of, StandAll}
use Rattle.conn_turns.specs.Laws.{AreOfOthers, DeedEnded, IsEnded}
use Rattle.conn_turns.proofs.TaleFacts.{same_number}
use Rattle.conn_turns.proofs.Ending.{turns_have_ended}

pub there : (p : Entry → Bool) (newer older : List Entry) → list_any p older ≡ true → list_any p (newer ++ older) ≡ true
there p [] older h = h
there p (e ∷ newer) older h = or_right (p e) (list_any p (newer ++ older)) (there p newer older h)

-- ---- a call that is over

-- its connection has left, and it doesn't run
record IsQuiet (j : History) (k : ℕ) : Type 0 where
  pub asks : Asked
  pub asked_is : asked j k ≡ Some asks
  pub left : list_any (leaves asks.conn) j.past ≡ true
  pub idle : runs j k ≡ false

no_wait : (asks left decided : Bool) → left ≡ true → (asks && not left && not decided) ≡ false
no_wait true left decided h = rw h refl
no_wait false left decided h = refl

quiet_waits : (j : History) (k : ℕ) → IsQuiet j k → waits j k ≡ false
quiet_waits j k q = no_wait (is_some (asked j k)) (has_left j (asked j k)) (is_decided j k) (ap (has_left j) q.asked_is ∙ q.left)

not_both : (b : Bool) → b ≡ false → b ≡ true → ⊥
not_both b f t = true≢false (sym t ∙ f)

not_either : (w r c : Bool) → w ≡ false → r ≡ false → (w || (r && not c)) ≡ true → ⊥
not_either true r c w n h = true≢false w
not_either false true c w n h = true≢false n
not_either false false c w n h = true≢false (sym h)

some_none : (a : Asked) → Some a ≡ None → ⊥
some_none a e = absurd (cc)

-- the next entry is none of it
silent : (j : History) (e : Entry) (k : ℕ) → Legal (with_entry j e) → IsQuiet j k → of_call k e ≡ false
silent j (Join d) k l q = refl
silent j (Leave d) k l q = refl
silent j (Shut items) k l q = refl
silent j (Accept m a) k l q =
    false_from_ne_true (m == k) (λ t. some_none q.asks (sym q.asked_is ∙ subst (λ n. asked j n ≡ None) (eqb-true m k t) (accepts_new j [] m a l)))
silent j (Take m cookies) k l q = false_from_ne_true (m == k) (λ t. not_both (waits j k) (quiet_waits j k q) (subst (λ n. waits j n ≡ true) (eqb-true m k t) l.0.fits.0))
silent j (Deny m slot) k l q = false_from_ne_true (m == k) (λ t. not_both (waits j k) (quiet_waits j k q) (subst (λ n. waits j n ≡ true) (eqb-true m k t) l.0.fits.0))
silent j (Cancel m) k l q =
    false_from_ne_true (m == k) (λ t. not_either (waits j k) (runs j k) (is_cancelled j k) (quiet_waits j k q) q.idle
    (subst (λ n. (waits j n || (runs j n && not (is_cancelled j n))) ≡ true) (eqb-true m k t) l.0.fits))
silent j (Orphan m) k l q =
    false_from_ne_true (m == k) (λ t. not_either (waits j k) (runs j k) (is_orphaned j k) (quiet_waits j k q) q.idle
    (subst (λ n. (waits j n || (runs j n && not (is_orphaned j n))) ≡ true) (eqb-true m k t) l.0.fits))
silent j (End m results said) k l q = false_from_ne_true (m == k) (λ t. not_both (runs j k) q.idle (subst (λ n. runs j n ≡ true) (eqb-true m k t) l.0.fits.0))

untaken : (k : ℕ) (e : Entry) → of_call k e ≡ false → takes k e ≡ false
untaken k (Take m cookies) h = h
untaken k (Join d) h = refl
untaken k (Accept m a) h = refl
untaken k (Deny m slot) h = refl
untaken k (Cancel m) h = refl
untaken k (Orphan m) h = refl
untaken k (End m results said) h = refl
untaken k (Leave d) h = refl
untaken k (Shut items) h = refl

no_run : (t x e : Bool) → (t && not e) ≡ false → (t && not (x || e)) ≡ false
no_run false x e h = refl
no_run true x true h = all x
  where
    all : (x : Bool) → (true && not (x || true)) ≡ false
    all true = refl
    all false = refl
no_run true x false h = absurd (true≢false h)

idle_more : (j : History) (e : Entry) (k : ℕ) → takes k e ≡ false → runs j k ≡ false → runs (with_entry j e) k ≡ false
idle_more j e k t none = rw t (no_run (is_taken j k) (ends k e) (list_any (ends k) j.past) none)

-- and so it stays
quiet_more : (j : History) (e : Entry) (k : ℕ) → Legal (with_entry j e) → IsQuiet j k → IsQuiet (with_entry j e) k
quiet_more j e k l q = record {
  asks = q.asks;
  asked_is = asked_kept j e k q.asks l q.asked_is;
  left = or_right (leaves q.asks.conn e) (list_any (leaves q.asks.conn) j.past) q.left;
  idle = idle_more j e k (untaken k e (silent j e k l q)) q.idle;
}

quiet_since : (home : Home) (newer past : List Entry) (k : ℕ) → Legal (whole home (newer ++ past)) → IsQuiet (whole home past) k → IsQuiet (whole home (newer ++ past)) k
quiet_since home [] past k l q = q
quiet_since home (e ∷ newer) past k l q = quiet_more (whole home (newer ++ past)) e k l (quiet_since home newer past k l.1 q)

silent_since : (home : Home) (newer past : List Entry) (k : ℕ) → Legal (whole home (newer ++ past)) → IsQuiet (whole home past) k → list_any (of_call k) newer ≡ false
silent_since home [] past k l q = refl
silent_since home (e ∷ newer) past k l q =
    rw (silent (whole home (newer ++ past)) e k l (quiet_since home newer past k l.1 q)) (silent_since home newer past k l.1 q)

-- ---- a connection that left

record IsGone (j : History) (c : ℕ) : Type 0 where
  pub joined : has_joined j c ≡ true
  pub left : list_any (leaves c) j.past ≡ true

gone_shut : (j : History) (c : ℕ) → IsGone j c → is_open j c ≡ true → ⊥
gone_shut j c g o = true≢false (sym (and_right (has_joined j c) (not (list_any (leaves c) j.past)) o) ∙ ap not g.left)

conn_silent : (j : History) (e : Entry) (c : ℕ) → Legal (with_entry j e) → IsGone j c → of_conn c e ≡ false
conn_silent j (Join d) c l g = false_from_ne_true (d == c) (λ t. not_both (has_joined j c) (subst (λ n. has_joined j n ≡ false) (eqb-true d c t) (joins_new j [] d l)) g.joined)
conn_silent j (Leave d) c l g = false_from_ne_true (d == c) (λ t. gone_shut j c g (subst (λ n. is_open j n ≡ true) (eqb-true d c t) l.0.fits))
conn_silent j (Accept m a) c l g = refl
conn_silent j (Take m cookies) c l g = refl
conn_silent j (Deny m slot) c l g = refl
conn_silent j (Cancel m) c l g = refl
conn_silent j (Orphan m) c l g = refl
conn_silent j (End m results said) c l g = refl
conn_silent j (Shut items) c l g = refl

-- no further call of it is accepted
none_accepted : (j : History) (e : Entry) (c : ℕ) → Legal (with_entry j e) → IsGone j c → accepted_of c e ≡ None
none_accepted j (Accept m a) c l g =
    let others : (a.conn == c) ≡ false = false_from_ne_true (a.conn == c) (λ t. gone_shut j c g (subst (λ n. is_open j n ≡ true) (eqb-true a.conn c t) l.0.fits.1)) in
    rw others refl
none_accepted j (Join d) c l g = refl
none_accepted j (Leave d) c l g = refl
none_accepted j (Take m cookies) c l g = refl
none_accepted j (Deny m slot) c l g = refl
none_accepted j (Cancel m) c l g = refl
none_accepted j (Orphan m) c l g = refl
none_accepted j (End m results said) c l g = refl
none_accepted j (Shut items) c l g = refl

gone_more : (j : History) (e : Entry) (c : ℕ) → IsGone j c → IsGone (with_entry j e) c
gone_more j e c g = record { joined = or_right (joins c e) (has_joined j c) g.joined; left = or_right (leaves c e) (list_any (leaves c) j.past) g.left }

gone_since : (home : Home) (newer past : List Entry) (c : ℕ) → IsGone (whole home past) c → IsGone (whole home (newer ++ past)) c
gone_since home [] past c g = g
gone_since home (e ∷ newer) past c g = gone_more (whole home (newer ++ past)) e c (gone_since home newer past c g)

no_conn_since : (home : Home) (newer past : List Entry) (c : ℕ) → Legal (whole home (newer ++ past)) → IsGone (whole home past) c → list_any (of_conn c) newer ≡ false
no_conn_since home [] past c l g = refl
no_conn_since home (e ∷ newer) past c l g = rw (conn_silent (whole home (newer ++ past)) e c l (gone_since home newer past c g)) (no_conn_since home newer past c l.1 g)

no_call_since : (home : Home) (newer past : List Entry) (c : ℕ) → Legal (whole home (newer ++ past)) → IsGone (whole home past) c → calls_of c newer ≡ []
no_call_since home [] past c l g = refl
no_call_since home (e ∷ newer) past c l g = rw (none_accepted (whole home (newer ++ past)) e c l (gone_since home newer past c g)) (no_call_since home newer past c l.1 g)

-- ---- by what is entered of it

has_gone : (home : Home) (past : List Entry) (c : ℕ) → list_any (joins c) past ≡ true → list_any (leaves c) past ≡ true → IsGone (whole home past) c
has_gone home past c j l = record { joined = joined_of past j; left = l }
  where
    joined_of : (past : List Entry) → list_any (joins c) past ≡ true → has_joined (whole home past) c ≡ true
    joined_of [] h = absurd (true≢false (sym h))
    joined_of (e ∷ past) h = elim (or_cases (joins c e) (list_any (joins c) past) h) [
      | inl t ↦ rw t refl
      | inr r ↦ or_right (joins c e) (has_joined (whole home past) c) (joined_of past r)
    ]

pub any_kept : (p q : Entry → Bool) (xs : List Entry) → list_any p (filter q xs) ≡ true → list_any p xs ≡ true
any_kept p q [] h = h
any_kept p q (x ∷ xs) h = elim (cases_Bool (q x)) [
  | inl t ↦ elim (or_cases (p x) (list_any p (filter q xs)) (rw t at h)) [
    | inl a ↦ rw a refl
    | inr b ↦ or_right (p x) (list_any p xs) (any_kept p q xs b)
  ]
  | inr f ↦ or_right (p x) (list_any p xs) (any_kept p q xs (rw f at h))
]

first_leaves : (c : ℕ) → list_any (leaves c) (Leave c ∷ Join c ∷ []) ≡ true
first_leaves c = rw (same_number c) refl

second_joins : (c : ℕ) → list_any (joins c) (Leave c ∷ Join c ∷ []) ≡ true
second_joins c = rw (same_number c) refl

gone_by : (home : Home) (past : List Entry) (c : ℕ) → filter (of_conn c) past ≡ Leave c ∷ Join c ∷ [] → IsGone (whole home past) c
gone_by home past c e =
    has_gone home past c (any_kept (joins c) (of_conn c) past (subst (λ l. list_any (joins c) l ≡ true) (sym e) (second_joins c)))
    (any_kept (leaves c) (of_conn c) past (subst (λ l. list_any (leaves c) l ≡ true) (sym e) (first_leaves c)))

-- ---- its calls

abbrev Has : ℕ → List ℕ → Type 0
Has k ks = list_any (λ m. m == k) ks ≡ true

-- what a call of the connection asked
record Asks (home : Home) (past : List Entry) (c k : ℕ) : Type 0 where
  pub asks : Asked
  pub asked_is : asked (whole home past) k ≡ Some asks
  pub theirs : asks.conn ≡ c

asks_more : (home : Home) (past : List Entry) (e : Entry) (c k : ℕ) → Legal (whole home (e ∷ past)) → Asks home past c k → Asks home (e ∷ past) c k
asks_more home past e c k l a = record { asks = a.asks; asked_is = asked_kept (whole home past) e k a.asks l a.asked_is; theirs = a.theirs }

call_asks : (home : Home) (past : List Entry) (c k : ℕ) → Legal (whole home past) → Has k (calls_of c past) → Asks home past c k
call_asks home [] c k l h = absurd (true≢false (sym h))
call_asks home (Accept m a ∷ past) c k l h = elim (cases_Bool (a.conn == c)) [
  | inl t ↦ elim (or_cases (m == k) (list_any (λ n. n == k) (calls_of c past)) (rw t at h)) [
    | inl e ↦ record { asks = a; asked_is = rw e refl; theirs = eqb-true a.conn c t }
    | inr r ↦ asks_more home past (Accept m a) c k l (call_asks home past c k l.1 r)
  ]
  | inr f ↦ asks_more home past (Accept m a) c k l (call_asks home past c k l.1 (rw f at h))
]
call_asks home (Join d ∷ past) c k l h = asks_more home past (Join d) c k l (call_asks home past c k l.1 h)
call_asks home (Take m cookies ∷ past) c k l h = asks_more home past (Take m cookies) c k l (call_asks home past c k l.1 h)
call_asks home (Deny m slot ∷ past) c k l h = asks_more home past (Deny m slot) c k l (call_asks home past c k l.1 h)
call_asks home (Cancel m ∷ past) c k l h = asks_more home past (Cancel m) c k l (call_asks home past c k l.1 h)
call_asks home (Orphan m ∷ past) c k l h = asks_more home past (Orphan m) c k l (call_asks home past c k l.1 h)
call_asks home (End m results said ∷ past) c k l h = asks_more home past (End m results said) c k l (call_asks home past c k l.1 h)
call_asks home (Leave d ∷ past) c k l h = asks_more home past (Leave d) c k l (call_asks home past c k l.1 h)
call_asks home (Shut items ∷ past) c k l h = asks_more home past (Shut items) c k l (call_asks home past c k l.1 h)

pub legal_older : (home : Home) (newer past : List Entry) → Legal (whole home (newer ++ past)) → Legal (whole home past)
legal_older home [] past l = l
legal_older home (e ∷ newer) past l = legal_older home newer past l.1

module _ (home : Home) (c : ℕ) (newer past : List Entry) (legal : Legal (whole home (newer ++ past))) (gone : IsGone (whole home past) c) where
  call_silent : (k : ℕ) → Has k (calls_of c past) → runs (whole home past) k ≡ false → list_any (of_call k) newer ≡ false
  call_silent k has idle =
      let a = call_asks home past c k (legal_older home newer past legal) has in
      silent_since home newer past k legal
      (record { asks = a.asks; asked_is = a.asked_is; left = subst (λ n. list_any (leaves n) past ≡ true) (sym a.theirs) gone.left; idle = idle })

  abbrev AllSilent : List ℕ → Type 0
  AllSilent ks = AllByRecursion (λ k. list_any (of_call k) newer ≡ false) ks

  deed_silent : (d : Deed) (ks : List ℕ) → DeedEnded home past d → ((k : ℕ) → Has k (cons_option (deed_number d) ks) → Has k (calls_of c past))
      → (((k : ℕ) → Has k ks → Has k (calls_of c past)) → AllSilent ks) → AllSilent (cons_option (deed_number d) ks)
  deed_silent Pending ks e has later = later has
  deed_silent (Refused status) ks e has later = later has
  deed_silent (Accepted k slots fate) ks e has later = (
    call_silent k (has k (rw (same_number k) refl)) e.1,
    later (λ n h. has n (or_right (k == n) (list_any (λ m. m == n) ks) h)),
  )

  turns_silent : (turns : List Turn) → AllByRecursion (IsEnded home past) turns → ((k : ℕ) → Has k (numbers_of turns) → Has k (calls_of c past)) → AllSilent (numbers_of turns)
  turns_silent [] e has = tt
  turns_silent (Called r ∷ ts) e has = deed_silent r.deed (numbers_of ts) e.0 has (λ h. turns_silent ts e.1 h)
  turns_silent (Binding asked ∷ ts) e has = turns_silent ts e.1 has
  turns_silent (Bound asked group octets ∷ ts) e has = turns_silent ts e.1 has
  turns_silent (NotBound asked reason octets ∷ ts) e has = turns_silent ts e.1 has
  turns_silent (Answered octets ∷ ts) e has = turns_silent ts e.1 has
  turns_silent (Closed octets why ∷ ts) e has = turns_silent ts e.1 has

pub others_follow : (home : Home) (c : ℕ) (newer past : List Entry) (turns : List Turn) → Legal (whole home (newer ++ past)) → StandAll c true past turns
    → filter (of_conn c) past ≡ Leave c ∷ Join c ∷ [] → list_any turn_runs turns ≡ false → AreOfOthers c turns newer
others_follow home c newer past turns legal stand conns none =
    let gone = gone_by home past c conns in record {
      no_conn = no_conn_since home newer past c legal gone;
      no_call = no_call_since home newer past c legal gone;
      none_of = turns_silent home c newer past legal gone turns (turns_have_ended home c past turns stand none) (λ k h. subst (Has k) (sym stand.calls) h);
    }
