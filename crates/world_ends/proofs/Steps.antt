-- What happens at a server's end, one thing after the other.
use Rattle.std.proofs.Common.{◌≡◌, ℕ, Bool, true, false, Option, Some, None, Ok, List, [], ◌∷◌, ◌++◌, refl, sym, ap, subst, ◌∙◌}
use Rattle.std.proofs.lemmas.List.{append-nil}
use Rattle.handle_model.specs.declared.entry.Entry.{Entry}
use Rattle.ndr_table.specs.Tables.{TableForm}
use Rattle.conn_asks.specs.declared.events.Act.{Act}
use Rattle.conn_asks.specs.States.{ConnState, Goes, with_octets}
use Rattle.conn_core.specs.Fields.{ConnFields, IsAt}
use Rattle.conn_core.specs.Fields as fields
use Rattle.conn_histories.specs.Histories.{Decision, Event, Happens, put}
use Rattle.conn_histories.specs.Histories.Event.{Came, Paused, Did, Decided}
use Rattle.world_laws.specs.Ends.{Waiting, ServerEnd, Line}
use Rattle.world_laws.specs.Ends.Waiting.{Nothing}
use Rattle.world_laws.specs.Serving.{ServerDoes, ServerGoesOn, ServerGoesBy, ActMeans, Decides, is_word_due}
use Rattle.world_server.specs.Servers.{ServerView, IsWhole}
use Rattle.world_ends.specs.declared.serving.Serving.{Serving}
use Rattle.world_ends.specs.Servings.{waiting_of, HasPlace, IsServing, living, Lives, PutsSo, Puts, Means, Leads, Rests, Steps, event_of}

-- ---- an event of the connection

goes_happens : (m n : ConnState) (act : Option Act) → Goes m (Ok act) n → Happens m (event_of act) n
goes_happens m n None g = g
goes_happens m n (Some act) g = g

-- it happens, and these octets are put
pub lived : (s t : Serving) (l : Line) (event : Event) (state : ConnState) → IsServing s l → Happens l.server.state event state → IsAt t.conn state → t.member ≡ s.member → t.waiting ≡ s.waiting
    → t.numbers ≡ s.numbers → t.down.items ≡ s.down.items ++ put (event ∷ []) → Lives event t l
lived s t l event state is happens at member waiting numbers down = record {
  state = state;
  happens = happens;
  serves = record {
    at = at;
    place = record {
      member_is = member ∙ is.place.member_is;
      waiting_is = ap waiting_of waiting ∙ is.place.waiting_is;
      numbers_are = ap (λ z. z.items) numbers ∙ is.place.numbers_are;
    };
    down_is = down ∙ ap (λ (o : List ℕ). o ++ put (event ∷ [])) is.down_is;
  };
}

pub next_lives : (s t : Serving) (act : Option Act) → fields.Leads (λ m n. Goes m (Ok act) n) s.conn t.conn → t ≡ record s { conn = t.conn; down = t.down } → t.down.items ≡ s.down.items ++ put (event_of act ∷ [])
    → (l : Line) → IsServing s l → Lives (event_of act) t l
next_lives s t act leads same down l is =
    let r = leads l.server.state is.at in
    lived s t l (event_of act) r.0 is (goes_happens l.server.state r.0 act r.1) r.2 (ap (λ (z : Serving). z.member) same) (ap (λ (z : Serving). z.waiting) same) (ap (λ (z : Serving). z.numbers) same) down

pub comes : (s t : Serving) (octets : List ℕ) → fields.Leads (λ m n. n ≡ with_octets m octets) s.conn t.conn → t ≡ record s { conn = t.conn } → (l : Line) → IsServing s l → Lives (Came octets) t l
comes s t octets leads same l is =
    let r = leads l.server.state is.at in
    lived s t l (Came octets) r.0 is r.1 r.2 (ap (λ (z : Serving). z.member) same) (ap (λ (z : Serving). z.waiting) same) (ap (λ (z : Serving). z.numbers) same)
    (ap (λ (z : Serving). z.down.items) same ∙ sym (append-nil s.down.items))

-- ---- an act, with what it means

module _ (x y : ServerView) (s u t : Serving) (due : is_word_due x.past (waiting_of s.waiting) ≡ false) where
  no_word : (l : Line) → IsServing s l → is_word_due x.past l.server.waiting ≡ false
  no_word l is = ap (is_word_due x.past) (sym is.place.waiting_is) ∙ due

  pub acts : (act : Act) → ((l : Line) → IsServing s l → Lives (Did act) u l) → Means (λ past e f new. ActMeans x.tables past e act f new) x u y t → Leads x s y t
  acts act lives means = (
    means.0,
    means.1,
    λ l is.
        let v = lives l is in
        let p : HasPlace u l.server = record { member_is = v.serves.place.member_is; waiting_is = v.serves.place.waiting_is; numbers_are = v.serves.place.numbers_are } in
        let r = means.4 l.server p in
        let m : Line = record l { server = record r.0 { events = l.server.events ++ Did act ∷ []; state = v.state }; down = l.down ++ put (Did act ∷ []) } in
        let does : ServerDoes x.tables l x.past (Did act) m y.past = record { state = v.state; happens = v.happens; after = r.0; means = (no_word l is, r.1); then_ = refl } in (
          m,
          record {
            at = subst (λ (z : ConnFields). IsAt z v.state) (sym means.2) v.serves.at;
            place = record { member_is = r.2.member_is; waiting_is = r.2.waiting_is; numbers_are = r.2.numbers_are };
            down_is = ap (λ z. z.items) means.3 ∙ v.serves.down_is;
          },
          λ n new g. (Did act ∷ g.0, (m, y.past, does, g.1)),
        ),
  )

  -- nothing is to be done for now
  pub pauses : IsWhole x → ((l : Line) → IsServing s l → Lives Paused u l) → Rests x s x u
  pauses w lives = (
    w,
    refl,
    λ l is.
        let v = lives l is in
        let m : Line = living l Paused v.state in
        (m, v.serves, ([], record { state = v.state; happens = v.happens; after = l.server; means = (no_word l is, refl, refl); then_ = refl })),
  )

-- ---- a word

pub says : (x y : ServerView) (s t : Serving) (decision : Decision) (member : Option ℕ) → IsWhole y → y.tables ≡ x.tables → is_word_due x.past (waiting_of s.waiting) ≡ true → Puts decision member s t
    → ((e : ServerEnd) → HasPlace s e → Decides x.tables x.past e e.waiting decision (record e { waiting = Nothing; member = member }) y.past) → Leads x s y t
says x y s t decision member w same due puts decides = (
  w,
  same,
  λ l is.
      let v = puts l is in
      let f : ServerEnd = record l.server { waiting = Nothing; member = member } in
      let event : Event = Decided decision v.octets in
      let m : Line = record l { server = record f { events = l.server.events ++ event ∷ []; state = v.state }; down = l.down ++ put (event ∷ []) } in
      let told : is_word_due x.past l.server.waiting ≡ true = ap (is_word_due x.past) (sym is.place.waiting_is) ∙ due in
      let does : ServerDoes x.tables l x.past event m y.past = record { state = v.state; happens = v.happens; after = f; means = (told, decides l.server is.place); then_ = refl } in (
        m,
        record {
          at = v.at;
          place = record { member_is = v.member_is; waiting_is = v.waiting_is; numbers_are = ap (λ z. z.items) v.numbers_are ∙ is.place.numbers_are };
          down_is = v.down_is ∙ ap (λ (o : List ℕ). o ++ v.octets) is.down_is ∙ ap (λ (o : List ℕ). l.down ++ o) (sym (append-nil v.octets));
        },
        λ n new g. (event ∷ g.0, (m, y.past, does, g.1)),
      ),
)

-- ---- until nothing is to be done

pub itself : (x : ServerView) (s : Serving) → IsWhole x → Leads x s x s
itself x s w = (w, refl, λ l is. (l, is, λ n new g. g))

pub leads_on : (x y z : ServerView) (s t u : Serving) → Leads x s y t → Leads y t z u → Leads x s z u
leads_on x y z s t u far one = (
  one.0,
  one.1 ∙ far.1,
  λ l is.
      let f = far.2 l is in
      let o = one.2 f.0 f.1 in
      (o.0, o.1, λ n new g. f.2 n new (subst (λ (ts : List TableForm). ServerGoesOn ts f.0 y.past n new) far.1 (o.2 n new (subst (λ (ts : List TableForm). ServerGoesOn ts o.0 z.past n new) (sym far.1) g)))),
)

pub rests_at : (x y z : ServerView) (s t u : Serving) → Leads x s y t → Rests y t z u → Rests x s z u
rests_at x y z s t u far one = (
  one.0,
  one.1 ∙ far.1,
  λ l is.
      let f = far.2 l is in
      let o = one.2 f.0 f.1 in
      (o.0, o.1, f.2 o.0 z.past (subst (λ (ts : List TableForm). ServerGoesOn ts f.0 y.past o.0 z.past) far.1 o.2)),
)

pub stepped : (b c : Bool) (x y : ServerView) (s t : Serving) → b ≡ c → Steps b x s y t → Steps c x s y t
stepped b c x y s t e h = subst (λ (d : Bool). Steps d x s y t) e h
