-- Whose entries and calls are whose.
use Rattle.std.proofs.Common.{◌≡◌, ◌≢◌, ◌==◌, ℕ, ◌+◌, Bool, true, false, ◌&&◌, ◌||◌, not, if◌then◌else◌, is_some, Option, Some, None, List, [], ◌∷◌, ◌++◌, filter, refl, sym, ap, subst, ◌∙◌, inl, inr}
use Rattle.std.specs.Prelude.{⊤}
use Rattle.std.specs.List.{list_any, cons_option, AllByRecursion}
use Rattle.std.proofs.lemmas.Bool.Decides.{eqb_tells}
use Rattle.handle_model.specs.declared.entry.Home.{Home}
use Rattle.handle_model.specs.declared.entry.Asked.{Asked}
use Rattle.handle_model.specs.declared.entry.Entry.{Entry}
use Rattle.handle_model.specs.declared.entry.Entry.TheVariants.{Join, Accept, Take, Deny, Cancel, Orphan, End, Leave, Shut}
use Rattle.handle_model.specs.Bases.{empty_base}
use Rattle.conn_histories.specs.declared.turn.Off.{Off}
use Rattle.conn_histories.specs.declared.turn.Fate.{Fate}
use Rattle.conn_histories.specs.declared.turn.Deed.{Deed}
use Rattle.conn_histories.specs.declared.turn.Request.{Request}
use Rattle.conn_histories.specs.declared.turn.Turn.{Turn}
use Rattle.conn_histories.specs.Tales.{whole}
use Rattle.conn_histories.specs.declared.turn.Fate.TheVariants.{Waiting, Denied, Cancelled, Orphaned, LeftWaiting, Running, LeftRunning, Ended, LeftEnded}
use Rattle.conn_histories.specs.declared.turn.Deed.TheVariants.{Pending, Refused, Accepted}
use Rattle.conn_histories.specs.declared.turn.Turn.TheVariants.{Binding, Bound, NotBound, Answered, Called, Closed}
use Rattle.handle_model.specs.Journal.{Legal, asked, is_taken, accept_count, has_joined, leaves}
use Rattle.handle_model.proofs.Held.{left_joined}
use Rattle.handle_model.proofs.Accepted.{fresh_unasked}
use Rattle.handle_model.proofs.Stages.{decides_after_accept, ends_after_take, taken_asked_since}
use Rattle.conn_histories.specs.Entries.{asked_as, fate_entries, has_left, leave_behind, deed_number, number_of, numbers_of}
use Rattle.conn_histories.specs.Tales.{of_call, of_conn, accepted_of, calls_of, DeedStands, Stands}
use Rattle.conn_turns.specs.Laws.{AreOfOthers}
use Rattle.conn_turns.proofs.TaleFacts.{same_number, asked_in, asked_tale}
use Rattle.conn_turns.proofs.MarkFacts.{ran_is, ran_asked}

pub other_number : (n m : ℕ) → n ≢ m → (n == m) ≡ false
other_number n m d = elim (eqb_tells n m) [ inl e ↦ absurd (d e.1) | inr e ↦ e.0 ]

pub same_of : (n m : ℕ) → (n == m) ≡ true → n ≡ m
same_of n m h = elim (eqb_tells n m) [ inl e ↦ e.1 | inr e ↦ let f = e.0 in absurd (cc) ]

-- ---- entries of one connection and of one call of it

abbrev pub is_the : ℕ → Option ℕ → Bool
is_the m None = false
is_the m (Some k) = m == k

abbrev pub is_by : ℕ → Option ℕ → Entry → Bool
is_by n k (Join d) = d == n
is_by n k (Leave d) = d == n
is_by n k (Accept m a) = is_the m k && (a.conn == n)
is_by n k (Take m cookies) = is_the m k
is_by n k (Deny m slot) = is_the m k
is_by n k (Cancel m) = is_the m k
is_by n k (Orphan m) = is_the m k
is_by n k (End m results said) = is_the m k
is_by n k (Shut items) = true

abbrev pub AreBy : ℕ → Option ℕ → List Entry → Type 0
AreBy n k es = AllByRecursion (λ e. is_by n k e ≡ true) es

-- the call is none of these
abbrev pub ApartFrom : Option ℕ → List ℕ → Type 0
ApartFrom None ks = ⊤
ApartFrom (Some k) ks = AllByRecursion (λ m. (k == m) ≡ false) ks

and_first : (a b : Bool) → (a && b) ≡ true → a ≡ true
and_first true b h = refl
and_first false b h = absurd cc

and_second : (a b : Bool) → (a && b) ≡ true → b ≡ true
and_second true b h = h
and_second false b h = absurd cc

is_the_apart : (m : ℕ) (k : Option ℕ) (j : ℕ) (js : List ℕ) → is_the m k ≡ true → ApartFrom k (j ∷ js) → (m == j) ≡ false
is_the_apart m None j js h a = absurd cc
is_the_apart m (Some k) j js h a = subst (λ (x : ℕ). (x == j) ≡ false) (sym (same_of m k h)) a.0

rest_apart : (k : Option ℕ) (j : ℕ) (js : List ℕ) → ApartFrom k (j ∷ js) → ApartFrom k js
rest_apart None j js a = tt
rest_apart (Some k) j js a = a.1

module _ (n c : ℕ) (other : n ≢ c) (k : Option ℕ) where
  not_theirs : (d : ℕ) → (d == n) ≡ true → (d == c) ≡ false
  not_theirs d h = subst (λ (x : ℕ). (x == c) ≡ false) (sym (same_of d n h)) (other_number n c other)

  one_no_conn : (e : Entry) → is_by n k e ≡ true → of_conn c e ≡ false
  one_no_conn (Join d) h = not_theirs d h
  one_no_conn (Leave d) h = not_theirs d h
  one_no_conn (Accept m a) h = refl
  one_no_conn (Take m cookies) h = refl
  one_no_conn (Deny m slot) h = refl
  one_no_conn (Cancel m) h = refl
  one_no_conn (Orphan m) h = refl
  one_no_conn (End m results said) h = refl
  one_no_conn (Shut items) h = refl

  one_no_accept : (e : Entry) → is_by n k e ≡ true → accepted_of c e ≡ None
  one_no_accept (Accept m a) h = let off : (a.conn == c) ≡ false = not_theirs a.conn (and_second (is_the m k) (a.conn == n) h) in rw off refl
  one_no_accept (Join d) h = refl
  one_no_accept (Take m cookies) h = refl
  one_no_accept (Deny m slot) h = refl
  one_no_accept (Cancel m) h = refl
  one_no_accept (Orphan m) h = refl
  one_no_accept (End m results said) h = refl
  one_no_accept (Leave d) h = refl
  one_no_accept (Shut items) h = refl

  one_no_call : (j : ℕ) (js : List ℕ) → ApartFrom k (j ∷ js) → (e : Entry) → is_by n k e ≡ true → of_call j e ≡ false
  one_no_call j js a (Accept m x) h = is_the_apart m k j js (and_first (is_the m k) (x.conn == n) h) a
  one_no_call j js a (Join d) h = refl
  one_no_call j js a (Take m cookies) h = is_the_apart m k j js h a
  one_no_call j js a (Deny m slot) h = is_the_apart m k j js h a
  one_no_call j js a (Cancel m) h = is_the_apart m k j js h a
  one_no_call j js a (Orphan m) h = is_the_apart m k j js h a
  one_no_call j js a (End m results said) h = is_the_apart m k j js h a
  one_no_call j js a (Leave d) h = refl
  one_no_call j js a (Shut items) h = refl

  no_conns : (es : List Entry) → AreBy n k es → list_any (of_conn c) es ≡ false
  no_conns [] h = refl
  no_conns (e ∷ es) h = let here = one_no_conn e h.0 in let rest = no_conns es h.1 in rw (here, rest) refl

  no_accepts : (es : List Entry) → AreBy n k es → calls_of c es ≡ []
  no_accepts [] h = refl
  no_accepts (e ∷ es) h = λ i. cons_option (one_no_accept e h.0 i) (no_accepts es h.1 i)

  no_calls_of : (j : ℕ) (js : List ℕ) → ApartFrom k (j ∷ js) → (es : List Entry) → AreBy n k es → list_any (of_call j) es ≡ false
  no_calls_of j js a [] h = refl
  no_calls_of j js a (e ∷ es) h = let here = one_no_call j js a e h.0 in let rest = no_calls_of j js a es h.1 in rw (here, rest) refl

  no_calls : (js : List ℕ) → ApartFrom k js → (es : List Entry) → AreBy n k es → AllByRecursion (λ j. list_any (of_call j) es ≡ false) js
  no_calls [] a es h = tt
  no_calls (j ∷ js) a es h = (no_calls_of j js a es h, no_calls js (rest_apart k j js a) es h)

  pub are_others : (turns : List Turn) (es : List Entry) → ApartFrom k (numbers_of turns) → AreBy n k es → AreOfOthers c turns es
  are_others turns es a h = record { no_conn = no_conns es h; no_call = no_accepts es h; none_of = no_calls (numbers_of turns) a es h }

-- ---- the calls of turns were asked by their connection

pub record AskedOf (c : ℕ) (past : List Entry) (k : ℕ) : Type 0 where
  pub what : Asked
  pub asks : asked_in k past ≡ Some what
  pub theirs : what.conn ≡ c

fate_asked : (k : ℕ) (a : Asked) (offs : List Off) (fate : Fate) → asked_in k (fate_entries k a offs fate ++ Join a.conn ∷ []) ≡ Some a
fate_asked k a offs Waiting = rw (same_number k) refl
fate_asked k a offs (Denied slot) = rw (same_number k) refl
fate_asked k a offs Cancelled = rw (same_number k) refl
fate_asked k a offs Orphaned = rw (same_number k) refl
fate_asked k a offs LeftWaiting = rw (same_number k) refl
fate_asked k a offs (Running cookies) = ap (asked_in k) (ran_is k a offs cookies) ∙ ran_asked k a offs cookies
fate_asked k a offs (LeftRunning cookies) = ap (asked_in k) (ran_is k a offs cookies) ∙ ran_asked k a offs cookies
fate_asked k a offs (Ended run) = ap (asked_in k) (ran_is k a offs run.cookies) ∙ ran_asked k a offs run.cookies
fate_asked k a offs (LeftEnded run) = ap (asked_in k) (ran_is k a offs run.cookies) ∙ ran_asked k a offs run.cookies

behind_asked : (c k : ℕ) (gone left : Bool) (l m : List Entry) → asked_in k (leave_behind c gone left ++ l ++ m) ≡ asked_in k (l ++ m)
behind_asked c k false left l m = refl
behind_asked c k true true l m = refl
behind_asked c k true false l m = refl

module _ (c : ℕ) (gone : Bool) (past : List Entry) where
  deed_asked : (r : Request) (deed : Deed) (ks : List ℕ) → DeedStands c gone past r deed → AllByRecursion (AskedOf c past) ks → AllByRecursion (AskedOf c past) (cons_option (deed_number deed) ks)
  deed_asked r Pending ks h all = all
  deed_asked r (Refused status) ks h all = all
  deed_asked r (Accepted k slots fate) ks h all = (
    record {
      what = asked_as c r slots;
      asks =
          sym (asked_tale c k past) ∙ (ap (asked_in k) h
          ∙ (behind_asked c k gone (has_left fate) (fate_entries k (asked_as c r slots) r.offs fate) (Join c ∷ []) ∙ fate_asked k (asked_as c r slots) r.offs fate));
      theirs = refl;
    },
    all,
  )

  turn_asked : (t : Turn) (ks : List ℕ) → Stands c gone past t → AllByRecursion (AskedOf c past) ks → AllByRecursion (AskedOf c past) (cons_option (number_of t) ks)
  turn_asked (Binding asked) ks h all = all
  turn_asked (Bound asked group octets) ks h all = all
  turn_asked (NotBound asked reason octets) ks h all = all
  turn_asked (Answered octets) ks h all = all
  turn_asked (Called r) ks h all = deed_asked r r.deed ks h all
  turn_asked (Closed octets fault) ks h all = all

  pub all_asked : (ts : List Turn) → AllByRecursion (Stands c gone past) ts → AllByRecursion (AskedOf c past) (numbers_of ts)
  all_asked [] h = tt
  all_asked (t ∷ ts) h = turn_asked t (numbers_of ts) h.0 (all_asked ts h.1)

some_is : (a b : Asked) → Some a ≡ Some b → a ≡ b
some_is a b h = cc

-- a call that another asked is none of them
pub apart_asked : (c : ℕ) (past : List Entry) (k : ℕ) (b : Asked) (ks : List ℕ) → asked_in k past ≡ Some b → b.conn ≢ c → AllByRecursion (AskedOf c past) ks → AllByRecursion (λ m. (k == m) ≡ false) ks
apart_asked c past k b [] h d all = tt
apart_asked c past k b (m ∷ ks) h d all = (
  elim (eqb_tells k m) [
    | inl e ↦
        let there : asked_in k past ≡ Some (all.0.what) = ap (λ x. asked_in x past) e.1 ∙ all.0.asks in
        absurd (d (ap (λ (x : Asked). x.conn) (some_is b all.0.what (sym h ∙ there)) ∙ all.0.theirs))
    | inr e ↦ e.0
  ],
  apart_asked c past k b ks h d all.1,
)

-- nor is one that nobody asked
pub apart_unasked : (c : ℕ) (past : List Entry) (k : ℕ) (ks : List ℕ) → asked_in k past ≡ None → AllByRecursion (AskedOf c past) ks → AllByRecursion (λ m. (k == m) ≡ false) ks
apart_unasked c past k [] h all = tt
apart_unasked c past k (m ∷ ks) h all = (
  elim (eqb_tells k m) [
    | inl e ↦ let there : asked_in k past ≡ Some (all.0.what) = ap (λ x. asked_in x past) e.1 ∙ all.0.asks in absurd (cc (there, h))
    | inr e ↦ e.0
  ],
  apart_unasked c past k ks h all.1,
)

-- ---- new numbers

some_none : (o : Option Asked) → is_some o ≡ true → o ≡ None → ⊥
some_none None h e = absurd cc
some_none (Some a) h e = absurd cc

ended_asked : (home : Home) (past : List Entry) (k : ℕ) (e : Entry) → Legal (whole home (e ∷ past)) → is_taken (whole home past) k ≡ true → is_some (asked (whole home past) k) ≡ true
ended_asked home past k e l h = taken_asked_since home empty_base past k l.1 h

-- a call that nobody asked has no entry
pub unasked_none : (home : Home) (past : List Entry) (k : ℕ) → Legal (whole home past) → asked_in k past ≡ None → list_any (of_call k) past ≡ false
unasked_none home [] k l h = refl
unasked_none home (Join d ∷ past) k l h = unasked_none home past k l.1 h
unasked_none home (Leave d ∷ past) k l h = unasked_none home past k l.1 h
unasked_none home (Shut items ∷ past) k l h = unasked_none home past k l.1 h
unasked_none home (Accept m a ∷ past) k l h = by (m == k) (λ g. unasked_none home past k l.1 g) h
  where
    by : (b : Bool) → (asked_in k past ≡ None → list_any (of_call k) past ≡ false) → (if b then Some a else asked_in k past) ≡ None → (b || list_any (of_call k) past) ≡ false
    by true r h = absurd cc
    by false r h = r h
unasked_none home (Take m cookies ∷ past) k l h = by (m == k) refl (unasked_none home past k l.1 h)
  where
    by : (b : Bool) → (m == k) ≡ b → list_any (of_call k) past ≡ false → (b || list_any (of_call k) past) ≡ false
    by true is r = absurd (some_none (asked_in k past) (decides_after_accept (whole home past) [] (Take m cookies) k l is) h)
    by false is r = r
unasked_none home (Deny m slot ∷ past) k l h = by (m == k) refl (unasked_none home past k l.1 h)
  where
    by : (b : Bool) → (m == k) ≡ b → list_any (of_call k) past ≡ false → (b || list_any (of_call k) past) ≡ false
    by true is r = absurd (some_none (asked_in k past) (decides_after_accept (whole home past) [] (Deny m slot) k l is) h)
    by false is r = r
unasked_none home (Cancel m ∷ past) k l h = by (m == k) refl (unasked_none home past k l.1 h)
  where
    by : (b : Bool) → (m == k) ≡ b → list_any (of_call k) past ≡ false → (b || list_any (of_call k) past) ≡ false
    by true is r = absurd (some_none (asked_in k past) (decides_after_accept (whole home past) [] (Cancel m) k l is) h)
    by false is r = r
unasked_none home (Orphan m ∷ past) k l h = by (m == k) refl (unasked_none home past k l.1 h)
  where
    by : (b : Bool) → (m == k) ≡ b → list_any (of_call k) past ≡ false → (b || list_any (of_call k) past) ≡ false
    by true is r = absurd (some_none (asked_in k past) (decides_after_accept (whole home past) [] (Orphan m) k l is) h)
    by false is r = r
unasked_none home (End m results said ∷ past) k l h = by (m == k) refl (unasked_none home past k l.1 h)
  where
    by : (b : Bool) → (m == k) ≡ b → list_any (of_call k) past ≡ false → (b || list_any (of_call k) past) ≡ false
    by true is r =
        let one : m ≡ k = same_of m k is in
        let took : is_taken (whole home past) m ≡ true = ends_after_take (whole home past) [] m results said l in
        absurd (some_none (asked_in k past) (subst (λ (x : ℕ). is_some (asked_in x past) ≡ true) one (ended_asked home past m (End m results said) l took)) h)
    by false is r = r

pub fresh_none : (home : Home) (past : List Entry) (k : ℕ) → Legal (whole home past) → k ≡ accept_count (whole home past) + 1 → asked_in k past ≡ None
fresh_none home past k l is = fresh_unasked (whole home past) k (asked (whole home past) k) l is refl

-- ---- a new connection has no entry

is_true : (b : Bool) → b ≡ true → b ≡ false → ⊥
is_true b h i = absurd (cc (h, i))

open_joined : (a b : Bool) → (a && not b) ≡ true → a ≡ true
open_joined a b h = and_first a (not b) h

pub unjoined_conns : (home : Home) (past : List Entry) (c : ℕ) → Legal (whole home past) → has_joined (whole home past) c ≡ false → filter (of_conn c) past ≡ []
unjoined_conns home [] c l h = refl
unjoined_conns home (Join d ∷ past) c l h = by (d == c) (λ g. unjoined_conns home past c l.1 g) h
  where
    by : (b : Bool) → (has_joined (whole home past) c ≡ false → filter (of_conn c) past ≡ []) → (b || has_joined (whole home past) c) ≡ false → (if b then Join d ∷ filter (of_conn c) past else filter (of_conn c) past) ≡ []
    by true r h = absurd cc
    by false r h = r h
unjoined_conns home (Leave d ∷ past) c l h = by (d == c) refl (unjoined_conns home past c l.1 h)
  where
    by : (b : Bool) → (d == c) ≡ b → filter (of_conn c) past ≡ [] → (if b then Leave d ∷ filter (of_conn c) past else filter (of_conn c) past) ≡ []
    by true is r =
        let there : list_any (leaves c) (Leave d ∷ past) ≡ true = rw is refl in
        absurd (is_true (has_joined (whole home past) c) (left_joined home empty_base (Leave d ∷ past) c l there) h)
    by false is r = r
unjoined_conns home (Accept m a ∷ past) c l h = unjoined_conns home past c l.1 h
unjoined_conns home (Take m cookies ∷ past) c l h = unjoined_conns home past c l.1 h
unjoined_conns home (Deny m slot ∷ past) c l h = unjoined_conns home past c l.1 h
unjoined_conns home (Cancel m ∷ past) c l h = unjoined_conns home past c l.1 h
unjoined_conns home (Orphan m ∷ past) c l h = unjoined_conns home past c l.1 h
unjoined_conns home (End m results said ∷ past) c l h = unjoined_conns home past c l.1 h
unjoined_conns home (Shut items ∷ past) c l h = unjoined_conns home past c l.1 h

pub unjoined_calls : (home : Home) (past : List Entry) (c : ℕ) → Legal (whole home past) → has_joined (whole home past) c ≡ false → calls_of c past ≡ []
unjoined_calls home [] c l h = refl
unjoined_calls home (Join d ∷ past) c l h = by (d == c) (λ g. unjoined_calls home past c l.1 g) h
  where
    by : (b : Bool) → (has_joined (whole home past) c ≡ false → calls_of c past ≡ []) → (b || has_joined (whole home past) c) ≡ false → calls_of c past ≡ []
    by true r h = absurd cc
    by false r h = r h
unjoined_calls home (Accept m a ∷ past) c l h = by (a.conn == c) refl (unjoined_calls home past c l.1 h)
  where
    by : (b : Bool) → (a.conn == c) ≡ b → calls_of c past ≡ [] → cons_option (if b then Some m else None) (calls_of c past) ≡ []
    by true is r =
        let opens : has_joined (whole home past) a.conn ≡ true = open_joined (has_joined (whole home past) a.conn) (list_any (leaves a.conn) past) (l.0.fits.1) in
        absurd (is_true (has_joined (whole home past) c) (subst (λ (x : ℕ). has_joined (whole home past) x ≡ true) (same_of a.conn c is) opens) h)
    by false is r = r
unjoined_calls home (Take m cookies ∷ past) c l h = unjoined_calls home past c l.1 h
unjoined_calls home (Deny m slot ∷ past) c l h = unjoined_calls home past c l.1 h
unjoined_calls home (Cancel m ∷ past) c l h = unjoined_calls home past c l.1 h
unjoined_calls home (Orphan m ∷ past) c l h = unjoined_calls home past c l.1 h
unjoined_calls home (End m results said ∷ past) c l h = unjoined_calls home past c l.1 h
unjoined_calls home (Leave d ∷ past) c l h = unjoined_calls home past c l.1 h
unjoined_calls home (Shut items ∷ past) c l h = unjoined_calls home past c l.1 h
