-- What holds in every world: its journal is legal and settled, each connection that joined and stands is open in it, and the group
-- was begun by the first connection.
use Rattle.std.proofs.Common.{◌≡◌, ◌≢◌, ℕ, ◌<◌, ◌≤◌, ◌⊎◌, inl, inr, Bool, true, false, eqb, Option, Some, None, List, [], ◌∷◌, ◌++◌, length, length-append, refl, sym, ap, subst, ◌∙◌, arith}
use Rattle.std.specs.Prelude.{slice_get, slice_set}
use Rattle.std.specs.List.{list_any}
use Rattle.std.proofs.lemmas.Bool.{eq-eqb, eqb-true}
use Rattle.handle_model.specs.declared.entry.Entry.{Entry}
use Rattle.handle_model.specs.Entries.{is_shut}
use Rattle.handle_model.specs.History.{IsSound}
use Rattle.handle_model.specs.Journal.{is_open}
use Rattle.handle_model.specs.Limits.{join_limit}
use Rattle.ndr_table.specs.Tables.{TableForm}
use Rattle.conn_asks.specs.declared.events.Act.TheVariants as acts
use Rattle.conn_histories.specs.Histories.{Event}
use Rattle.conn_histories.specs.Histories.Event.{Did}
use Rattle.world_laws.specs.Journals.{journal, has_begun, bind_refusal, next_conn, joined}
use Rattle.world_laws.specs.Ends.{CallerEnd, ServerEnd, Line}
use Rattle.world_laws.specs.Ends.{Waiting as waiting}
use Rattle.world_laws.specs.Worlds.{World, with_line, entered}
use Rattle.world_laws.proofs.Lists.{some_is, set_same, set_other, within}
use Rattle.world_laws.proofs.Holds.{OfSet, of_set}
use Rattle.world_laws.proofs.Holds.OfSet.{here, there_still}
use Rattle.world_moves.proofs.legal.Groups.{groups, groups_append, binds_old}
use Rattle.world_moves.proofs.legal.Entering.{AllServed, Step, begun_before, join_cases, joined_sound, joins_open, join_stays, join_apart}
use Rattle.world_moves.proofs.legal.Meaning.{Effect}
use Rattle.world_moves.proofs.legal.Meaning.Effect.{stays, left, asks, joins}

-- the server asked for a group on it
abbrev pub HasAsked : Line → Type 0
HasAsked l = 1 ≤ length (groups l.server.events)

pub record Keeps (table : TableForm) (w : World) : Type 0 where
  pub sound : IsSound (journal w.past)
  pub served : AllServed table w.past
  pub open_ : (i c : ℕ) (l : Line) → slice_get w.lines i ≡ Some l → l.standing ≡ true → l.server.member ≡ Some c → is_open (journal w.past) c ≡ true
  pub apart : (i j c : ℕ) (l m : Line) → slice_get w.lines i ≡ Some l → slice_get w.lines j ≡ Some m → l.standing ≡ true → m.standing ≡ true → l.server.member ≡ Some c → m.server.member ≡ Some c → i ≡ j
  pub olds : (i : ℕ) (l : Line) → slice_get w.lines i ≡ Some l → i ≢ 0 → binds_old l.caller.events ≡ true
  pub first : (i : ℕ) (l : Line) → slice_get w.lines i ≡ Some l → l.standing ≡ true → l.server.waiting ≡ waiting.Bind 0 → (i ≡ 0) × (has_begun w.past ≡ false) × HasAsked l
  pub begun : has_begun w.past ≡ true → (l : Line) × (slice_get w.lines 0 ≡ Some l) × HasAsked l

-- m comes in l's place, and the journal goes on
pub record Change (table : TableForm) (w : World) (i : ℕ) (l m : Line) (new : List Entry) : Type 0 where
  pub sound : IsSound (journal new)
  pub served : AllServed table new
  pub others : (j d : ℕ) (n : Line) → j ≢ i → slice_get w.lines j ≡ Some n → n.standing ≡ true → n.server.member ≡ Some d
      → (is_open (journal new) d ≡ true) × (m.standing ≡ true → m.server.member ≢ Some d)
  pub mine : (c : ℕ) → m.standing ≡ true → m.server.member ≡ Some c → is_open (journal new) c ≡ true
  pub old : binds_old l.caller.events ≡ true → binds_old m.caller.events ≡ true
  pub first_here : m.standing ≡ true → m.server.waiting ≡ waiting.Bind 0 → (i ≡ 0) × (has_begun new ≡ false) × HasAsked m
  pub first_others : (j : ℕ) (n : Line) → j ≢ i → slice_get w.lines j ≡ Some n → n.standing ≡ true → n.server.waiting ≡ waiting.Bind 0 → has_begun new ≡ false
  pub begun : has_begun new ≡ true → (has_begun w.past ≡ true) ⊎ ((i ≡ 0) × HasAsked m)
  pub asked : HasAsked l → HasAsked m

same_or : (i j : ℕ) (b : Bool) → eqb i j ≡ b → (i ≡ j) ⊎ (i ≢ j)
same_or i j true e = inl (eqb-true i j e)
same_or i j false e = inr (λ is. absurd (cc (e, eq-eqb i j is)))

pub number_or : (i j : ℕ) → (i ≡ j) ⊎ (i ≢ j)
number_or i j = same_or i j (eqb i j) refl

pub changed : (table : TableForm) (w : World) (i : ℕ) (l m : Line) (new : List Entry) → slice_get w.lines i ≡ Some l → Change table w i l m new → Keeps table w → Keeps table (with_line w i m new)
changed table w i l m new at ch h = record {
  sound = ch.sound;
  served = ch.served;
  open_ = λ j c x found stands member. opens j c x (of_set w.lines i m j x lt found) stands member;
  apart = λ j k c x y fx fy sx sy mx my. apart j k c x y (of_set w.lines i m j x lt fx) (of_set w.lines i m k y lt fy) sx sy mx my;
  olds = λ j x found ne. olds j x (of_set w.lines i m j x lt found) ne;
  first = λ j x found stands waits. first j x (of_set w.lines i m j x lt found) stands waits;
  begun = λ b. begun (ch.begun b);
}
  where
    lt : i < length w.lines
    lt = within w.lines i l at

    opens : (j c : ℕ) (x : Line) → OfSet w.lines i m j x → x.standing ≡ true → x.server.member ≡ Some c → is_open (journal new) c ≡ true
    opens j c x (here same is) stands member = ch.mine c (ap (λ (y : Line). y.standing) (sym is) ∙ stands) (ap (λ (y : Line). y.server.member) (sym is) ∙ member)
    opens j c x (there_still other found) stands member = (ch.others j c x other found stands member).0

    apart : (j k c : ℕ) (x y : Line) → OfSet w.lines i m j x → OfSet w.lines i m k y → x.standing ≡ true → y.standing ≡ true → x.server.member ≡ Some c → y.server.member ≡ Some c → j ≡ k
    apart j k c x y (here ji xm) (here ki ym) sx sy mx my = ji ∙ sym ki
    apart j k c x y (here ji xm) (there_still other found) sx sy mx my =
        absurd ((ch.others k c y other found sy my).1 (ap (λ (z : Line). z.standing) (sym xm) ∙ sx) (ap (λ (z : Line). z.server.member) (sym xm) ∙ mx))
    apart j k c x y (there_still other found) (here ki ym) sx sy mx my =
        absurd ((ch.others j c x other found sx mx).1 (ap (λ (z : Line). z.standing) (sym ym) ∙ sy) (ap (λ (z : Line). z.server.member) (sym ym) ∙ my))
    apart j k c x y (there_still o1 f1) (there_still o2 f2) sx sy mx my = h.apart j k c x y f1 f2 sx sy mx my

    olds : (j : ℕ) (x : Line) → OfSet w.lines i m j x → j ≢ 0 → binds_old x.caller.events ≡ true
    olds j x (here same is) ne = ap (λ (y : Line). binds_old y.caller.events) is ∙ ch.old (h.olds i l at (λ e. ne (same ∙ e)))
    olds j x (there_still other found) ne = h.olds j x found ne

    first : (j : ℕ) (x : Line) → OfSet w.lines i m j x → x.standing ≡ true → x.server.waiting ≡ waiting.Bind 0 → (j ≡ 0) × (has_begun new ≡ false) × HasAsked x
    first j x (here same is) stands waits =
        let f = ch.first_here (ap (λ (y : Line). y.standing) (sym is) ∙ stands) (ap (λ (y : Line). y.server.waiting) (sym is) ∙ waits) in
        (same ∙ f.0, f.1, subst HasAsked (sym is) f.2)
    first j x (there_still other found) stands waits =
        let f = h.first j x found stands waits in (f.0, ch.first_others j x other found stands waits, f.2)

    set_first : i ≡ 0 → slice_get (slice_set w.lines i m) 0 ≡ Some m
    set_first zero_ = ap (λ (n : ℕ). slice_get (slice_set w.lines i m) n) (sym zero_) ∙ set_same w.lines i m lt

    still_first : (x : Line) → slice_get w.lines 0 ≡ Some x → HasAsked x → (0 ≡ i) ⊎ (0 ≢ i) → (y : Line) × (slice_get (slice_set w.lines i m) 0 ≡ Some y) × HasAsked y
    still_first x found asked (inl same) =
        let is : x ≡ l = sym (some_is l x (sym at ∙ (ap (λ (n : ℕ). slice_get w.lines n) (sym same) ∙ found))) in
        (m, set_first (sym same), ch.asked (subst HasAsked is asked))
    still_first x found asked (inr other) = (x, set_other w.lines i 0 m other ∙ found, asked)

    begun : (has_begun w.past ≡ true) ⊎ ((i ≡ 0) × HasAsked m) → (y : Line) × (slice_get (slice_set w.lines i m) 0 ≡ Some y) × HasAsked y
    begun (inl before) = (let b = h.begun before in still_first b.0 b.1 b.2 (number_or 0 i))
    begun (inr (zero_, asked)) = (m, set_first zero_, asked)

-- entries come that leave each connection open
pub entering : (table : TableForm) (w : World) (past : List Entry) → Step table w.past past None → Keeps table w → Keeps table (entered w past)
entering table w past step h = record {
  sound = step.sound;
  served = step.served;
  open_ = λ i c l at stands member. step.stays c (h.open_ i c l at stands member) (λ e. absurd (cc (e)));
  apart = h.apart;
  olds = h.olds;
  first = λ i l at stands waits. (let f = h.first i l at stands waits in (f.0, step.begins f.1, f.2));
  begun = λ b. h.begun (begun_before w.past past step.begins b);
}

none_gone : (d : ℕ) → (let o : Option ℕ = None in o) ≢ Some d
none_gone d e = absurd (cc (e))

-- ---- the caller's end alone changes

pub caller_changed : (table : TableForm) (w : World) (i : ℕ) (l m : Line) → slice_get w.lines i ≡ Some l → l.standing ≡ true → m.server ≡ l.server → (binds_old l.caller.events ≡ true → binds_old m.caller.events ≡ true) → Keeps table w
    → Keeps table (with_line w i m w.past)
caller_changed table w i l m at stood same old h =
    changed table w i l m w.past at
    (record {
      sound = h.sound;
      served = h.served;
      others = λ j d n other found stands member. (h.open_ j d n found stands member, λ s e. other (h.apart j i d n l found at stands stood member (ap (λ (t : ServerEnd). t.member) (sym same) ∙ e)));
      mine = λ c s e. h.open_ i c l at stood (ap (λ (t : ServerEnd). t.member) (sym same) ∙ e);
      old = old;
      first_here = λ s e. (let f = h.first i l at stood (ap (λ (t : ServerEnd). t.waiting) (sym same) ∙ e) in (f.0, f.1, subst (λ (t : ServerEnd). 1 ≤ length (groups t.events)) (sym same) f.2));
      first_others = λ j n other found stands waits. (h.first j n found stands waits).1;
      begun = λ b. inl b;
      asked = λ a. subst (λ (t : ServerEnd). 1 ≤ length (groups t.events)) (sym same) a;
    }) h

-- ---- the connection is lost

pub lost : (table : TableForm) (w : World) (i : ℕ) (l m : Line) (past : List Entry) → slice_get w.lines i ≡ Some l → l.standing ≡ true → m.standing ≡ false → m.server ≡ l.server
    → (binds_old l.caller.events ≡ true → binds_old m.caller.events ≡ true) → Step table w.past past l.server.member → Keeps table w → Keeps table (with_line w i m past)
lost table w i l m past at stood falls same old step h =
    changed table w i l m past at
    (record {
      sound = step.sound;
      served = step.served;
      others = λ j d n other found stands member. (step.stays d (h.open_ j d n found stands member) (λ e. other (h.apart j i d n l found at stands stood member e)), λ s. absurd (cc (s, falls)));
      mine = λ c s e. absurd (cc (s, falls));
      old = old;
      first_here = λ s e. absurd (cc (s, falls));
      first_others = λ j n other found stands waits. step.begins (h.first j n found stands waits).1;
      begun = λ b. inl (begun_before w.past past step.begins b);
      asked = λ a. subst (λ (t : ServerEnd). 1 ≤ length (groups t.events)) (sym same) a;
    }) h

-- ---- the server's end changes

more_asked : (events : List Event) (event : Event) → 1 ≤ length (groups events) → 1 ≤ length (groups (events ++ event ∷ []))
more_asked events event h = omega (arith, h, ap (λ (x : List ℕ). length x) (groups_append events (event ∷ [])), length-append (groups events) (groups (event ∷ [])))

bind_is : (a b : ℕ) → waiting.Bind a ≡ waiting.Bind b → a ≡ b
bind_is a b e = cc

module _ (table : TableForm) (w : World) (i : ℕ) (l m : Line) (new : List Entry) (event : Event) (at : slice_get w.lines i ≡ Some l) (stood : l.standing ≡ true) (h : Keeps table w)
    (caller : m.caller ≡ l.caller) (events : m.server.events ≡ l.server.events ++ event ∷ []) where
  still_asked : HasAsked l → HasAsked m
  still_asked a = subst (λ (x : List Event). 1 ≤ length (groups x)) (sym events) (more_asked l.server.events event a)

  still_old : binds_old l.caller.events ≡ true → binds_old m.caller.events ≡ true
  still_old e = ap (λ (c : CallerEnd). binds_old c.events) caller ∙ e

  stays_on : m.server.member ≡ l.server.member → (m.standing ≡ true → m.server.waiting ≡ waiting.Bind 0 → (i ≡ 0) × (has_begun new ≡ false) × HasAsked m) → Step table w.past new None → Keeps table (with_line w i m new)
  stays_on same first_ step =
      changed table w i l m new at
      (record {
        sound = step.sound;
        served = step.served;
        others = λ j d n other found stands member. (step.stays d (h.open_ j d n found stands member) (none_gone d), λ s e. other (h.apart j i d n l found at stands stood member (sym same ∙ e)));
        mine = λ c s e. step.stays c (h.open_ i c l at stood (sym same ∙ e)) (none_gone c);
        old = still_old;
        first_here = first_;
        first_others = λ j n other found stands waits. step.begins (h.first j n found stands waits).1;
        begun = λ b. inl (begun_before w.past new step.begins b);
        asked = still_asked;
      }) h

  leaves_on : m.server.member ≡ None → m.server.waiting ≡ waiting.Nothing → Step table w.past new l.server.member → Keeps table (with_line w i m new)
  leaves_on none wait step =
      changed table w i l m new at
      (record {
        sound = step.sound;
        served = step.served;
        others = λ j d n other found stands member. (step.stays d (h.open_ j d n found stands member) (λ e. other (h.apart j i d n l found at stands stood member e)), λ s e. absurd (cc (none, e)));
        mine = λ c s e. absurd (cc (none, e));
        old = still_old;
        first_here = λ s e. absurd (cc (wait, e));
        first_others = λ j n other found stands waits. step.begins (h.first j n found stands waits).1;
        begun = λ b. inl (begun_before w.past new step.begins b);
        asked = still_asked;
      }) h

  -- a group is asked for
  asks_on : (asked : ℕ) → event ≡ Did (acts.Group asked) → groups l.server.events ≡ [] → (asked ≡ 0 → binds_old l.caller.events ≡ false) → m.server.member ≡ l.server.member → m.server.waiting ≡ waiting.Bind asked
      → Step table w.past new None → Keeps table (with_line w i m new)
  asks_on asked is none new_ same wait step = stays_on same (λ s e. (at_first e, step.begins (not_begun (at_first e) (has_begun w.past) refl), asked_here)) step
    where
      at_first : m.server.waiting ≡ waiting.Bind 0 → i ≡ 0
      at_first e = by (number_or i 0)
        where
          by : (i ≡ 0) ⊎ (i ≢ 0) → i ≡ 0
          by (inl zero_) = zero_
          by (inr other) = absurd (cc (h.olds i l at other, new_ (bind_is asked 0 (sym wait ∙ e))))

      not_begun : i ≡ 0 → (b : Bool) → has_begun w.past ≡ b → has_begun w.past ≡ false
      not_begun zero_ false e = e
      not_begun zero_ true e =
          let b = h.begun e in
          let same_ : b.0 ≡ l = sym (some_is l b.0 (sym at ∙ (ap (λ (n : ℕ). slice_get w.lines n) zero_ ∙ b.1))) in
          let there : HasAsked l = subst HasAsked same_ b.2 in
          absurd (omega (arith, there, ap (λ (x : List ℕ). length x) none))

      asked_here : HasAsked m
      asked_here =
          let one : length (groups (event ∷ [])) ≡ 1 = ap (λ (x : Event). length (groups (x ∷ []))) is in
          let all : length (groups m.server.events) ≡ length (groups (l.server.events ++ event ∷ [])) = ap (λ (x : List Event). length (groups x)) events in
          omega (arith, all, one, ap (λ (x : List ℕ). length x) (groups_append l.server.events (event ∷ [])), length-append (groups l.server.events) (groups (event ∷ [])))

  -- it joins the group
  joins_on : (asked : ℕ) → l.server.waiting ≡ waiting.Bind asked → bind_refusal w.past asked ≡ None → m.server.member ≡ Some (next_conn w.past) → m.server.waiting ≡ waiting.Nothing → new ≡ joined w.past → Keeps table (with_line w i m new)
  joins_on asked waits free member wait is =
      subst (λ (x : List Entry). Keeps table (with_line w i m x)) (sym is)
      (changed table w i l m (joined w.past) at
      (record {
        sound = joined_sound w.past asked free (λ zero_. (at_first zero_).1) h.sound;
        served = h.served;
        others = λ j d n other found stands at_d.
            (let o = h.open_ j d n found stands at_d in (join_stays w.past d o, λ s e. join_apart w.past d h.sound o (sym member ∙ e)));
        mine = λ c s e. subst (λ (x : ℕ). is_open (journal (joined w.past)) x ≡ true) (some_is (next_conn w.past) c (sym member ∙ e)) (joins_open w.past h.sound);
        old = still_old;
        first_here = λ s e. absurd (cc (wait, e));
        first_others = λ j n other found stands at_bind. absurd (other (let f = h.first j n found stands at_bind in f.0 ∙ sym (at_first (zero_asked f.1)).0));
        begun = λ b. before (join_cases w.past asked free);
        asked = still_asked;
      }) h)
    where
      at_first : asked ≡ 0 → (i ≡ 0) × (has_begun w.past ≡ false) × HasAsked l
      at_first zero_ = h.first i l at stood (waits ∙ ap (λ (n : ℕ). waiting.Bind n) zero_)

      zero_asked : has_begun w.past ≡ false → asked ≡ 0
      zero_asked none = elim (join_cases w.past asked free) [ inl zero_ ↦ zero_ | inr old_ ↦ absurd (cc (none, old_.0)) ]

      before : (asked ≡ 0) ⊎ ((has_begun w.past ≡ true) × (list_any is_shut w.past ≡ false) × (join_limit (journal w.past) ≡ None)) → (has_begun w.past ≡ true) ⊎ ((i ≡ 0) × HasAsked m)
      before (inl zero_) = (let f = at_first zero_ in inr (f.0, still_asked f.2))
      before (inr old_) = inl old_.0

  -- what the event is
  pub server_changed : ((asked : ℕ) → event ≡ Did (acts.Group asked) → (groups l.server.events ≡ []) × (asked ≡ 0 → binds_old l.caller.events ≡ false)) → Effect table w.past new event l.server m.server → Keeps table (with_line w i m new)
  server_changed group (stays same waits step) = stays_on same (λ s e. (let f = h.first i l at stood (waits e) in (f.0, step.begins f.1, still_asked f.2))) step
  server_changed group (left none wait step) = leaves_on none wait step
  server_changed group (asks asked is same wait step) = (let g = group asked is in asks_on asked is g.0 g.1 same wait step)
  server_changed group (joins asked waits free member wait is) = joins_on asked waits free member wait is
