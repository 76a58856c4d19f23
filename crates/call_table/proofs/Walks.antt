-- A walk along a queue.
use Rattle.std.proofs.Common.{◌≡◌, ℕ, zero, suc, ◌+◌, ◌<◌, true, false, Option, Some, None, IfSome, MatchOption, List, [], ◌∷◌, ◌++◌, length, map, take, drop, get_or, refl, sym, ◌∙◌, ap, subst, arith, inl, inr, ◌-◌}
use Rattle.std.specs.List.{remove}
use Rattle.std.proofs.lemmas.Bool.{cases_Bool}
use Rattle.std.proofs.lemmas.List.{get_or-drop, get_or-map, length-drop, length-map}
use Rattle.wait_list.specs.declared.node.Ticket.{Ticket}
use Rattle.wait_list.specs.Waiting.{Standing, StandsAt, StandsIn, AtTicket, TicketsDiffer, has, first_in}
use Rattle.call_table.specs.Queues.{TicketAt, QueuedCall, queued_at, after_place, IsIn, IsNext}

-- PLACES

pub cut_at : {X : Type 0} (xs : List X) (i : ℕ) (d : X) → i < length xs → xs ≡ take i xs ++ get_or xs i d ∷ drop (suc i) xs
cut_at [] i d lt = absurd (omega arith)
cut_at (x ∷ xs) zero d lt = refl
cut_at (x ∷ xs) (suc i) d lt = ap (λ ys. x ∷ ys) (cut_at xs i d (omega arith))

-- THE FIRST OF A QUEUE

none_after : (q : ℕ) (m : Standing) (ms : List Standing) (n : ℕ) (d : Standing) → has q m.queues ≡ false → ((k : ℕ) → k < length ms → has q (get_or ms k d).queues ≡ false) → n < length (m ∷ ms) → has q (get_or (m ∷ ms) n d).queues ≡ false
none_after q m ms zero d t h lt = t
none_after q m ms (suc n) d t h lt = h n (omega arith)

first_none : (q : ℕ) (ns : List Standing) (n : ℕ) (d : Standing) → first_in q ns ≡ None → n < length ns → has q (get_or ns n d).queues ≡ false
first_none q [] n d e lt = absurd (omega arith)
first_none q (m ∷ ms) n d e lt =
    elim (cases_Bool (has q m.queues)) [
      | inl t ↦ absurd (let f = rw t at e in cc)
      | inr t ↦ none_after q m ms n d t (λ k l. first_none q ms k d (rw t at e) l) lt
    ]

pub record FirstIn (q : ℕ) (ns : List Standing) (t : Ticket) (j : ℕ) : Type 0 where
  pub within : j < length ns
  pub ticket : (d : Standing) → (get_or ns j d).ticket ≡ t
  pub inside : (d : Standing) → has q (get_or ns j d).queues ≡ true
  pub before : (n : ℕ) (d : Standing) → n < j → has q (get_or ns n d).queues ≡ false

abbrev ticket_or : Ticket → Option Ticket → Ticket
ticket_or t None = t
ticket_or t (Some u) = u

before_more : (q : ℕ) (m : Standing) (ms : List Standing) (t : Ticket) (j : ℕ) → FirstIn q ms t j → has q m.queues ≡ false → (n : ℕ) (d : Standing) → n < suc j → has q (get_or (m ∷ ms) n d).queues ≡ false
before_more q m ms t j f h zero d lt = h
before_more q m ms t j f h (suc n) d lt = f.before n d (omega arith)

first_some : (q : ℕ) (ns : List Standing) (t : Ticket) → first_in q ns ≡ Some t → (j : ℕ) × FirstIn q ns t j
first_some q [] t e = absurd (cc)
first_some q (m ∷ ms) t e =
    elim (cases_Bool (has q m.queues)) [
      | inl h ↦
          let same : Some m.ticket ≡ Some t = rw h at e in
          (0, record { within = omega arith; ticket = λ d. ap (ticket_or t) same; inside = λ d. h; before = λ n d lt. absurd (omega arith) })
      | inr h ↦
          let more = first_some q ms t (rw h at e) in
          let w = more.1.within in
          (suc more.0, record { within = omega arith; ticket = more.1.ticket; inside = more.1.inside; before = before_more q m ms t more.0 more.1 h })
    ]

-- WHERE A WALK STANDS

-- the node at a place of a queue
at_place : (q : ℕ) (ns : List Standing) (k i : ℕ) (u : Ticket) → u ≡ get_or (map (λ (n : Standing). n.ticket) ns) i u → IsIn q (map queued_at ns) k i
    → (n : Standing) × (ns ≡ take i ns ++ n ∷ drop (suc i) ns) × (n.ticket ≡ u) × (has q n.queues ≡ true)
at_place q ns k i u e h =
    let d : Standing = record { ticket = u; call = 0; queues = [] } in
    let lt : i < length ns = (let w = h.within in let l = length-map ns queued_at in omega arith) in
    (get_or ns i d, cut_at ns i d lt, sym (get_or-map (λ (n : Standing). n.ticket) ns i d u lt) ∙ sym e, ap (λ (c : QueuedCall). has q c.queues) (sym (get_or-map queued_at ns i d (queued_at d) lt)) ∙ h.inside (queued_at d))

pub stands : (q : ℕ) (ns : List Standing) (tickets : List Ticket) (o : Option ℕ) (t : Option Ticket) → TicketAt tickets o t → tickets ≡ map (λ (n : Standing). n.ticket) ns → IfSome o (λ i. (k : ℕ) × IsIn q (map queued_at ns) k i) → IfSome t (λ u. StandsIn ns q u)
stands q ns tickets None t a e h = subst (λ x. IfSome x (λ u. StandsIn ns q u)) (sym a) tt
stands q ns tickets (Some i) t a e h =
    let p = at_place q ns h.0 i a.0 (a.2 ∙ ap (λ ts. get_or ts i a.0) e) h.1 in
    subst (λ x. IfSome x (λ u. StandsIn ns q u)) (sym a.1) (take i ns, p.0, drop (suc i) ns, p.1, p.2, p.3)

-- what comes next is the first from there on
pub goes_on : (q : ℕ) (ns : List Standing) (tickets : List Ticket) (o : Option ℕ) (t next : Option Ticket) → TicketAt tickets o t → tickets ≡ map (λ (n : Standing). n.ticket) ns → IfSome o (λ i. (k : ℕ) × IsIn q (map queued_at ns) k i)
    → MatchOption t (next ≡ first_in q ns) (λ u. AtTicket ns u (λ xs n ys. next ≡ first_in q ys)) → next ≡ first_in q (drop (after_place o) ns)
goes_on q ns tickets None t next a e h m = subst (λ x. MatchOption x (next ≡ first_in q ns) (λ u. AtTicket ns u (λ xs n ys. next ≡ first_in q ys))) a m
goes_on q ns tickets (Some i) t next a e h m =
    let p = at_place q ns h.0 i a.0 (a.2 ∙ ap (λ ts. get_or ts i a.0) e) h.1 in
    let here : AtTicket ns a.0 (λ xs n ys. next ≡ first_in q ys) = subst (λ x. MatchOption x (next ≡ first_in q ns) (λ u. AtTicket ns u (λ xs n ys. next ≡ first_in q ys))) a.1 m in
    let one : suc i ≡ i + 1 = omega arith in
    here (take i ns) p.0 (drop (suc i) ns) p.1 p.2 ∙ ap (λ n. first_in q (drop n ns)) one

-- WHAT IT FINDS

some_node : (ns : List Standing) → 0 < length ns → Standing
some_node [] lt = absurd (omega arith)
some_node (n ∷ ns) lt = n

-- what the call at a place says, by the nodes from place i on
call_from : (ns : List Standing) (i j : ℕ) (s : Standing) (d : QueuedCall) → i + j < length ns → get_or (map queued_at ns) (i + j) d ≡ queued_at (get_or (drop i ns) j s)
call_from ns i j s d lt = get_or-map queued_at ns (i + j) s d lt ∙ ap queued_at (sym (get_or-drop i ns j s))

pub finds_none : (q : ℕ) (ns : List Standing) (i : ℕ) → first_in q (drop i ns) ≡ None → IsNext q (map queued_at ns) i None
finds_none q ns i e n d le lt =
    let l = length-map ns queued_at in
    let size = length-drop i ns in
    let s = some_node ns (omega arith) in
    let off = first_none q (drop i ns) (n - i) s e (omega arith) in
    let at : i + (n - i) ≡ n = omega arith in
    ap (λ m. has q (get_or (map queued_at ns) m d).queues) (sym at) ∙ ap (λ (c : QueuedCall). has q c.queues) (call_from ns i (n - i) s d (omega arith)) ∙ off

-- the node of the ticket
there : (q : ℕ) (ns : List Standing) (i : ℕ) (t : Ticket) (f : (j : ℕ) × FirstIn q (drop i ns) t j) → (s : Standing)
    → (ns ≡ take (i + f.0) ns ++ get_or ns (i + f.0) s ∷ drop (suc (i + f.0)) ns) × ((get_or ns (i + f.0) s).ticket ≡ t)
there q ns i t f s =
    let size = length-drop i ns in
    let w = f.1.within in
    (cut_at ns (i + f.0) s (omega arith), ap (λ (n : Standing). n.ticket) (sym (get_or-drop i ns f.0 s)) ∙ f.1.ticket s)

pub found_stands : (q : ℕ) (ns : List Standing) (i : ℕ) (t : Ticket) → first_in q (drop i ns) ≡ Some t → StandsAt ns t
found_stands q ns i t e =
    let f = first_some q (drop i ns) t e in
    let size = length-drop i ns in
    let w = f.1.within in
    let s = some_node ns (omega arith) in
    let p = there q ns i t f s in
    (take (i + f.0) ns, get_or ns (i + f.0) s, drop (suc (i + f.0)) ns, p.0, p.1)

pub finds_some : (q : ℕ) (ns : List Standing) (i : ℕ) (t : Ticket) (k : ℕ) → first_in q (drop i ns) ≡ Some t → AtTicket ns t (λ xs n ys. k ≡ n.call) → IsNext q (map queued_at ns) i (Some k)
finds_some q ns i t k e a =
    let f = first_some q (drop i ns) t e in
    let l = length-map ns queued_at in
    let size = length-drop i ns in
    let w = f.1.within in
    let s = some_node ns (omega arith) in
    let p = there q ns i t f s in
    let call = a (take (i + f.0) ns) (get_or ns (i + f.0) s) (drop (suc (i + f.0)) ns) p.0 p.1 in (
      i + f.0,
      omega arith,
      record {
        within = omega arith;
        here = λ d. ap (λ (c : QueuedCall). c.call) (get_or-map queued_at ns (i + f.0) s d (omega arith)) ∙ sym call;
        inside = λ d. ap (λ (c : QueuedCall). has q c.queues) (call_from ns i f.0 s d (omega arith)) ∙ f.1.inside s;
      },
      λ n d le lt.
          let at : i + (n - i) ≡ n = omega arith in
          ap (λ m. has q (get_or (map queued_at ns) m d).queues) (sym at) ∙ ap (λ (c : QueuedCall). has q c.queues) (call_from ns i (n - i) s d (omega arith)) ∙ f.1.before (n - i) s (omega arith),
    )

-- A CALL GOES

pub gone : (ns news : List Standing) (tickets : List Ticket) (i : ℕ) (u : Ticket) → i < length ns → tickets ≡ map (λ (n : Standing). n.ticket) ns → u ≡ get_or tickets i u → AtTicket ns u (λ xs n ys. news ≡ xs ++ ys) → news ≡ remove ns i
gone ns news tickets i u lt e at h =
    let s : Standing = record { ticket = u; call = 0; queues = [] } in
    let here = sym (get_or-map (λ (n : Standing). n.ticket) ns i s u lt) ∙ sym (at ∙ ap (λ ts. get_or ts i u) e) in
    h (take i ns) (get_or ns i s) (drop (suc i) ns) (cut_at ns i s lt) here ∙ removed ns i lt
  where
    removed : (ns : List Standing) (i : ℕ) → i < length ns → take i ns ++ drop (suc i) ns ≡ remove ns i
    removed [] i lt = absurd (omega arith)
    removed (n ∷ ns) zero lt = refl
    removed (n ∷ ns) (suc i) lt = ap (λ ms. n ∷ ms) (removed ns i (omega arith))

pub stands_there : (ns : List Standing) (tickets : List Ticket) (i : ℕ) (u : Ticket) → i < length ns → tickets ≡ map (λ (n : Standing). n.ticket) ns → u ≡ get_or tickets i u → StandsAt ns u
stands_there ns tickets i u lt e at =
    let s : Standing = record { ticket = u; call = 0; queues = [] } in
    (take i ns, get_or ns i s, drop (suc i) ns, cut_at ns i s lt, sym (get_or-map (λ (n : Standing). n.ticket) ns i s u lt) ∙ sym (at ∙ ap (λ ts. get_or ts i u) e))

pub map_remove : {X : Type 0} {Y : Type 0} (f : X → Y) (xs : List X) (i : ℕ) → map f (remove xs i) ≡ remove (map f xs) i
map_remove f [] zero = refl
map_remove f [] (suc i) = refl
map_remove f (x ∷ xs) zero = refl
map_remove f (x ∷ xs) (suc i) = ap (λ ys. f x ∷ ys) (map_remove f xs i)

pub none_differ : TicketsDiffer []
none_differ xs m ys us n vs e = absurd (nothing xs m ys e)
  where
    nothing : (xs : List Standing) (m : Standing) (ys : List Standing) → [] ≡ xs ++ m ∷ ys → ⊥
    nothing [] m ys e = let f : [] ≡ m ∷ ys = e in cc
    nothing (x ∷ xs) m ys e = let f : [] ≡ x ∷ (xs ++ m ∷ ys) = e in cc
