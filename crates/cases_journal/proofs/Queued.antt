-- Walks along a queue.
use Rattle.std.proofs.Common.{◌≡◌, ℕ, Option, Some, None, IfSome, MatchOption, List, [], ◌∷◌, ◌++◌, refl, sym, ◌∙◌, ap, subst, append_assoc, inl, inr}
use Rattle.std.proofs.lemmas.Bool.{cases_Bool}
use Rattle.wait_list.specs.declared.node.Ticket.{Ticket}
use Rattle.wait_list.specs.Waiting.{Standing, StandsAt, StandsIn, AtTicket, has, front_of, first_in}

-- the first of a queue stands in it
pub first_in_stands : (q : ℕ) (ns : List Standing) (t : Ticket) → first_in q ns ≡ Some t → StandsIn ns q t
first_in_stands q [] t e = absurd (cc)
first_in_stands q (m ∷ ms) t e =
    elim (cases_Bool (has q m.queues)) [
      | inl h ↦ let same : Some m.ticket ≡ Some t = rw h at e in ([], m, ms, refl, ap (ticket_or t) same, h)
      | inr h ↦
          let more = first_in_stands q ms t (rw h at e) in
          (m ∷ more.0, more.1, more.2, ap (λ ys. m ∷ ys) more.3, more.4, more.5)
    ]
  where
    ticket_or : Ticket → Option Ticket → Ticket
    ticket_or t None = t
    ticket_or t (Some u) = u

first_opt : (q : ℕ) (ns : List Standing) (o : Option Ticket) → o ≡ first_in q ns → IfSome o (λ t. StandsIn ns q t)
first_opt q ns None e = tt
first_opt q ns (Some t) e = first_in_stands q ns t (sym e)

-- more nodes before it
after_more : (q : ℕ) (xs : List Standing) (n : Standing) (ys : List Standing) (t : Ticket) → StandsIn ys q t → StandsIn (xs ++ n ∷ ys) q t
after_more q xs n ys t s =
    (xs ++ n ∷ s.0, s.1, s.2, ap (λ zs. xs ++ n ∷ zs) s.3 ∙ sym (append_assoc xs (n ∷ s.0) (s.1 ∷ s.2)), s.4, s.5)

after_opt : (q : ℕ) (xs : List Standing) (n : Standing) (ys : List Standing) (o : Option Ticket) → IfSome o (λ t. StandsIn ys q t) → IfSome o (λ t. StandsIn (xs ++ n ∷ ys) q t)
after_opt q xs n ys None s = tt
after_opt q xs n ys (Some t) s = after_more q xs n ys t s

pub next_stands : (q : ℕ) (ns : List Standing) (after result : Option Ticket) → IfSome after (λ t. StandsIn ns q t)
    → MatchOption after (result ≡ first_in q ns) (λ t. AtTicket ns t (λ xs n ys. result ≡ first_in q ys)) → IfSome result (λ t. StandsIn ns q t)
next_stands q ns None result s m = first_opt q ns result m
next_stands q ns (Some a) result s m =
    let here = m s.0 s.1 s.2 s.3 s.4 in
    subst (λ ms. IfSome result (λ t. StandsIn ms q t)) (sym s.3) (after_opt q s.0 s.1 s.2 result (first_opt q s.2 result here))

pub stands_at : (q : ℕ) (ns : List Standing) (t : Ticket) → StandsIn ns q t → StandsAt ns t
stands_at q ns t s = (s.0, s.1, s.2, s.3, s.4)

pub first_stands : (ns : List Standing) (t : Ticket) → front_of ns ≡ Some t → StandsAt ns t
first_stands [] t e = absurd (cc)
first_stands (n ∷ ns) t e = ([], n, ns, refl, ap (ticket_or t) e)
  where
    ticket_or : Ticket → Option Ticket → Ticket
    ticket_or t None = t
    ticket_or t (Some u) = u

-- the one that a later one goes from
pub stays : (q : ℕ) (ns news : List Standing) (a t : Ticket) → StandsIn ns q a → AtTicket ns a (λ xs n ys. Some t ≡ first_in q ys)
    → AtTicket ns t (λ xs n ys. news ≡ xs ++ ys) → StandsIn news q a
stays q ns news a t s m r =
    let next = first_in_stands q s.2 t (sym (m s.0 s.1 s.2 s.3 s.4)) in
    let all : ns ≡ (s.0 ++ s.1 ∷ next.0) ++ next.1 ∷ next.2 = s.3 ∙ (ap (λ zs. s.0 ++ s.1 ∷ zs) next.3 ∙ sym (append_assoc s.0 (s.1 ∷ next.0) (next.1 ∷ next.2))) in
    let gone = r (s.0 ++ s.1 ∷ next.0) next.1 next.2 all next.4 in
    (s.0, s.1, next.0 ++ next.2, gone ∙ append_assoc s.0 (s.1 ∷ next.0) next.2, s.4, s.5)

pub next_at : (q : ℕ) (ns : List Standing) (a t : Ticket) → StandsIn ns q a → AtTicket ns a (λ xs n ys. Some t ≡ first_in q ys) → StandsAt ns t
next_at q ns a t s m =
    let next = first_in_stands q s.2 t (sym (m s.0 s.1 s.2 s.3 s.4)) in
    let all : ns ≡ (s.0 ++ s.1 ∷ next.0) ++ next.1 ∷ next.2 = s.3 ∙ (ap (λ zs. s.0 ++ s.1 ∷ zs) next.3 ∙ sym (append_assoc s.0 (s.1 ∷ next.0) (next.1 ∷ next.2))) in
    (s.0 ++ s.1 ∷ next.0, next.1, next.2, all, next.4)
