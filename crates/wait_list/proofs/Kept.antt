-- The nodes as callers see them, and as the rings have them.
use Rattle.std.proofs.Common.{◌≡◌, ℕ, ◌+◌, true, false, cond, Option, Some, None, IsSome, MatchOption, List, [], ◌∷◌, ◌++◌, length, map, refl, sym, ap, ◌∙◌, subst, append-nil, append_assoc, arith, length-append}
use Rattle.std.specs.List.{AllByRecursion}
use Rattle.std.proofs.lemmas.List.{map-append}
use denote.RawPtr.{Ptr}
use Rattle.lru.proofs.Splits.{nil_ne_cut, cons_head, cons_tail, all_left, all_right, all_both}
use Rattle.wait_list.specs.declared.node.Node.{Node}
use Rattle.wait_list.specs.declared.node.Membership.{Membership}
use Rattle.wait_list.specs.declared.node.Membership.TheVariants.{In, Idle}
use Rattle.wait_list.specs.declared.node.Ticket.{Ticket}
use Rattle.wait_list.specs.Linked.{Linked, linked, AreApart, IsAt, first_val}
use Rattle.wait_list.proofs.Apart.{same_link, apart_after}
use Rattle.wait_list.specs.Fronts.{ticket_of_first, IsFull}
use Rattle.wait_list.specs.Stands.{is_same, member_in, number_of, ticket_at}
use Rattle.wait_list.specs.Waiting.{Standing, Waiting, waiting_in, StandsAt, TicketsDiffer, has, front_of, first_in, some_of, numbers, links_of_node, links_in, links_of, standing_as, standing, IsNode}

abbrev pub Entry : Type 0
Entry = Linked (Option Node)

abbrev pub Links : Type 0
Links = List (Linked (Option Ticket))

node_some : (o : Option Node) (p : Ptr) → MatchOption o ⊥ (λ node. node.title.at ≡ p) → IsSome o
node_some None p h = absurd h
node_some (Some n) p h = refl

pub nodes_full : (ns : List Entry) → AllByRecursion IsNode ns → IsFull ns
nodes_full [] h = tt
nodes_full (n ∷ ns) h = (node_some n.val n.at h.0, nodes_full ns h.1)

ticket_as : (p : Ptr) (o : Option Node) → (standing_as p o).ticket ≡ ticket_at p
ticket_as p None = refl
ticket_as p (Some n) = refl

pub fronts : (ns : List Entry) → ticket_of_first ns ≡ front_of (map standing ns)
fronts [] = refl
fronts (n ∷ ns) = ap (λ t. Some t) (sym (ticket_as n.at n.val))

-- a cut of what callers see is one of the ring's nodes
pub record Cut (ns : List Entry) (xs : List Standing) (n : Standing) (ys : List Standing) : Type 0 where
  pub before : List Entry
  pub node : Entry
  pub after : List Entry
  pub cut : ns ≡ before ++ node ∷ after
  pub before_is : map standing before ≡ xs
  pub node_is : standing node ≡ n
  pub after_is : map standing after ≡ ys

pub cut_back : (ns : List Entry) (xs : List Standing) (n : Standing) (ys : List Standing) → map standing ns ≡ xs ++ n ∷ ys → Cut ns xs n ys
cut_back [] [] n ys e = absurd (let f : [] ≡ n ∷ ys = e in cc)
cut_back [] (x ∷ xs) n ys e = absurd (let f : [] ≡ x ∷ (xs ++ n ∷ ys) = e in cc)
cut_back (m ∷ ms) [] n ys e = record { before = []; node = m; after = ms; cut = refl; before_is = refl; node_is = cons_head (standing m) n (map standing ms) ys e; after_is = cons_tail (standing m) n (map standing ms) ys e }
cut_back (m ∷ ms) (x ∷ xs) n ys e =
    let on = cut_back ms xs n ys (cons_tail (standing m) x (map standing ms) (xs ++ n ∷ ys) e) in
    let first = cons_head (standing m) x (map standing ms) (xs ++ n ∷ ys) e in
    record { before = m ∷ on.before; node = on.node; after = on.after; cut = ap (λ l. m ∷ l) on.cut; before_is = λ i. first i ∷ on.before_is i; node_is = on.node_is; after_is = on.after_is }

pub place_is : (m : Entry) (n : Standing) (t : Ticket) → standing m ≡ n → n.ticket ≡ t → m.at ≡ t.at.ptr
place_is m n t e et = ap (λ (u : Ticket). u.at.ptr) (sym (ticket_as m.at m.val) ∙ ap (λ (s : Standing). s.ticket) e ∙ et)

pub there : (ns : List Entry) (t : Ticket) → StandsAt (map standing ns) t → IsAt ns t.at.ptr
there ns t h = let c = cut_back ns h.0 h.1 h.2 h.3 in (c.before, c.node, c.after, c.cut, place_is c.node h.1 t c.node_is h.4)

-- the links lie apart, so the tickets differ
pub differ : (stop : Entry) (ns : List Entry) (W : List Standing) → AreApart (stop ∷ ns) → map standing ns ≡ W → TicketsDiffer W
differ stop ns W d e xs m ys us n vs a b t =
    let k = cut_back ns xs m ys (e ∙ a) in let l = cut_back ns us n vs (e ∙ b) in
    let at = place_is k.node m m.ticket k.node_is refl ∙ ap (λ (u : Ticket). u.at.ptr) t ∙ sym (place_is l.node n n.ticket l.node_is refl) in
    let same = same_link ns k.before k.node k.after l.before l.node l.after (apart_after stop ns d) k.cut l.cut at in
    (sym k.before_is ∙ ap (map standing) same.0 ∙ l.before_is, sym k.node_is ∙ ap standing same.1 ∙ l.node_is, sym k.after_is ∙ ap (map standing) same.2 ∙ l.after_is)

pub call_is : (m : Entry) (n : Standing) (r : Node) → standing m ≡ n → m.val ≡ Some r → r.call ≡ n.call
call_is m n r e v = sym (ap (λ o. (standing_as m.at o).call) v) ∙ ap (λ (s : Standing). s.call) e

-- LINKS

pub links_of-append : (k : ℕ) (xs ys : List Entry) → links_of k (xs ++ ys) ≡ links_of k xs ++ links_of k ys
links_of-append k [] ys = refl
links_of-append k (x ∷ xs) ys = ap (λ l. links_in k x.at x.val ++ l) (links_of-append k xs ys) ∙ sym (append_assoc (links_in k x.at x.val) (links_of k xs) (links_of k ys))

-- what a queue has of some stands leads to their ticket, exactly where it is one of their numbers
abbrev Leads : ℕ → Ticket → Links → List ℕ → Type 0
Leads q t ls ks = (rest : Links) → first_val None (ls ++ rest) ≡ cond (has q ks) (Some t) (first_val None rest)

leads-stand : (q : ℕ) (t : Ticket) (s : Membership) → Leads q t (member_in q t s) (some_of (number_of s))
leads-stand q t (Idle r) rest = refl
leads-stand q t (In k p) rest = elim (is_same k q) as (λ b. first_val None (cond b (linked p.ptr (Some t) ∷ []) [] ++ rest) ≡ cond (cond b true false) (Some t) (first_val None rest)) [ true ↦ refl | false ↦ refl ]

has-append : (q : ℕ) (ks js : List ℕ) (x y : Option Ticket) → cond (has q (ks ++ js)) x y ≡ cond (has q ks) x (cond (has q js) x y)
has-append q [] js x y = refl
has-append q (k ∷ ks) js x y =
    elim (is_same k q) as (λ b. cond (cond b true (has q (ks ++ js))) x y ≡ cond (cond b true (has q ks)) x (cond (has q js) x y)) [ true ↦ refl | false ↦ has-append q ks js x y ]

leads-append : (q : ℕ) (t : Ticket) (ls ms : Links) (ks js : List ℕ) → Leads q t ls ks → Leads q t ms js → Leads q t (ls ++ ms) (ks ++ js)
leads-append q t ls ms ks js f g rest =
    ap (first_val None) (append_assoc ls ms rest) ∙ f (ms ++ rest) ∙ ap (cond (has q ks) (Some t)) (g rest) ∙ sym (has-append q ks js (Some t) (first_val None rest))

pub leads-node : (q : ℕ) (t : Ticket) (n : Node) → Leads q t (links_of_node q t n) (numbers (number_of n.a) (number_of n.b) (number_of n.c) (number_of n.d))
leads-node q t n =
    let s = member_in q t in let k = λ (d : Membership). some_of (number_of d) in
    leads-append q t (s n.a) (s n.b ++ (s n.c ++ s n.d)) (k n.a) (k n.b ++ (k n.c ++ k n.d)) (leads-stand q t n.a)
    (leads-append q t (s n.b) (s n.c ++ s n.d) (k n.b) (k n.c ++ k n.d) (leads-stand q t n.b)
    (leads-append q t (s n.c) (s n.d) (k n.c) (k n.d) (leads-stand q t n.c) (leads-stand q t n.d)))

leads-in : (q : ℕ) (p : Ptr) (o : Option Node) (rest : Links) → first_val None (links_in q p o ++ rest) ≡ cond (has q (standing_as p o).queues) (Some (standing_as p o).ticket) (first_val None rest)
leads-in q p None rest = refl
leads-in q p (Some n) rest = leads-node q (ticket_at p) n rest

pub first_links : (q : ℕ) (ns : List Entry) → first_val None (links_of q ns) ≡ first_in q (map standing ns)
first_links q [] = refl
first_links q (n ∷ ns) = leads-in q n.at n.val (links_of q ns) ∙ ap (cond (has q (standing n).queues) (Some (standing n).ticket)) (first_links q ns)

-- where the node's last link in a queue lies, with those before it and those after it
pub split_at : (q : ℕ) (before : List Entry) (m : Entry) (after : List Entry) (node : Node) (us : Links) (x : Linked (Option Ticket)) → m.val ≡ Some node → links_of_node q (ticket_at m.at) node ≡ us ++ x ∷ []
    → links_of q (before ++ m ∷ after) ≡ (links_of q before ++ us) ++ x ∷ links_of q after
split_at q before m after node us x v e =
    let L = links_of q before in let R = links_of q after in
    links_of-append q before (m ∷ after) ∙ ap (λ o. L ++ (links_in q m.at o ++ R)) v ∙ ap (λ l. L ++ (l ++ R)) e ∙ ap (λ l. L ++ l) (append_assoc us (x ∷ []) R) ∙ sym (append_assoc L us (x ∷ R))

pub no_links : (q : ℕ) (t : Ticket) (n : Node) → links_of_node q t n ≡ [] → has q (numbers (number_of n.a) (number_of n.b) (number_of n.c) (number_of n.d)) ≡ true → ⊥
no_links q t n e h =
    let f : None ≡ Some t = sym (ap (λ l. first_val None (l ++ [])) e) ∙ leads-node q t n [] ∙ ap (λ b. cond b (Some t) None) h in cc

pub has_numbers : (q : ℕ) (m : Entry) (n : Standing) (r : Node) → standing m ≡ n → m.val ≡ Some r → has q n.queues ≡ true → has q (numbers (number_of r.a) (number_of r.b) (number_of r.c) (number_of r.d)) ≡ true
has_numbers q m n r e v h = sym (ap (λ o. has q (standing_as m.at o).queues) v) ∙ ap (λ (s : Standing). has q s.queues) e ∙ h

-- A NODE MORE

pub more_nodes : (ns ns' : List Entry) (m : Entry) (W : List Standing) (s : Standing) → ns' ≡ ns ++ m ∷ [] → standing m ≡ s → map standing ns ≡ W → map standing ns' ≡ W ++ s ∷ []
more_nodes ns ns' m W s e f w = ap (map standing) e ∙ map-append standing ns (m ∷ []) ∙ (λ i. w i ++ f i ∷ [])

pub more_links : (k : ℕ) (ns ns' : List Entry) (p : Ptr) (t : Ticket) (node : Node) → ns' ≡ ns ++ linked p (Some node) ∷ [] → p ≡ t.at.ptr → links_of k ns ++ links_of_node k t node ≡ links_of k ns'
more_links k ns ns' p t node e at =
    ap (λ l. links_of k ns ++ l) (sym (append-nil (links_of_node k t node))) ∙ ap (λ u. links_of k ns ++ (links_of_node k u node ++ [])) (ap ticket_at (sym at))
    ∙ sym (links_of-append k ns (linked p (Some node) ∷ [])) ∙ ap (links_of k) (sym e)

pub more_are : (ns ns' : List Entry) (p : Ptr) (node : Node) → ns' ≡ ns ++ linked p (Some node) ∷ [] → node.title.at ≡ p → AllByRecursion IsNode ns → AllByRecursion IsNode ns'
more_are ns ns' p node e at h = subst (AllByRecursion IsNode) (sym e) (all_both IsNode ns (linked p (Some node) ∷ []) h (at, tt))

pub more_length : (ns ns' : List Entry) (m : Entry) → ns' ≡ ns ++ m ∷ [] → length ns' ≡ length ns + 1
more_length ns ns' m e = ap length e ∙ length-append ns (m ∷ [])

-- A NODE LESS

pub less_nodes : (xs ys ns' : List Entry) (U V : List Standing) → ns' ≡ xs ++ ys → map standing xs ≡ U → map standing ys ≡ V → map standing ns' ≡ U ++ V
less_nodes xs ys ns' U V e u v = ap (map standing) e ∙ map-append standing xs ys ∙ (λ i. u i ++ v i)

pub less_links : (k : ℕ) (xs : List Entry) (m : Entry) (ys : List Entry) (t : Ticket) (node : Node) → m.val ≡ Some node → m.at ≡ t.at.ptr → links_of k (xs ++ m ∷ ys) ≡ links_of k xs ++ (links_of_node k t node ++ links_of k ys)
less_links k xs m ys t node v at =
    links_of-append k xs (m ∷ ys) ∙ ap (λ o. links_of k xs ++ (links_in k m.at o ++ links_of k ys)) v ∙ ap (λ u. links_of k xs ++ (links_of_node k u node ++ links_of k ys)) (ap ticket_at at)

pub less_are : (ns xs : List Entry) (m : Entry) (ys ns' : List Entry) → ns ≡ xs ++ m ∷ ys → ns' ≡ xs ++ ys → AllByRecursion IsNode ns → AllByRecursion IsNode ns'
less_are ns xs m ys ns' cut e h =
    let all = subst (AllByRecursion IsNode) cut h in
    subst (AllByRecursion IsNode) (sym e) (all_both IsNode xs ys (all_left IsNode xs (m ∷ ys) all) (all_right IsNode xs (m ∷ ys) all).1)

pub node_at : (ns xs : List Entry) (m : Entry) (ys : List Entry) → ns ≡ xs ++ m ∷ ys → AllByRecursion IsNode ns → IsNode m
node_at ns xs m ys cut h = (all_right IsNode xs (m ∷ ys) (subst (AllByRecursion IsNode) cut h)).0

pub title_at : (m : Entry) (node : Node) → IsNode m → m.val ≡ Some node → node.title.at ≡ m.at
title_at m node h v = subst (λ o. MatchOption o ⊥ (λ (n : Node). n.title.at ≡ m.at)) v h

pub not_none : (m : Entry) → IsNode m → m.val ≡ None → ⊥
not_none m h v = subst (λ o. MatchOption o ⊥ (λ (n : Node). n.title.at ≡ m.at)) v h

pub less_length : (ns xs : List Entry) (m : Entry) (ys ns' : List Entry) → ns ≡ xs ++ m ∷ ys → ns' ≡ xs ++ ys → length ns ≡ length ns' + 1
less_length ns xs m ys ns' cut e =
    let a : length (xs ++ m ∷ ys) ≡ length xs + length (m ∷ ys) = length-append xs (m ∷ ys) in
    let b : length (xs ++ ys) ≡ length xs + length ys = length-append xs ys in
    let c : length ns ≡ length (xs ++ m ∷ ys) = ap length cut in
    let d : length ns' ≡ length (xs ++ ys) = ap length e in
    omega arith

pub front_stands : (ns : List Standing) (t : Ticket) → Some t ≡ front_of ns → StandsAt ns t
front_stands [] t e = absurd (let f : Some t ≡ None = e in cc)
front_stands (n ∷ ns) t e = ([], n, ns, refl, let f : Some t ≡ Some n.ticket = e in cc)

pub front_none : (ns : List Standing) → None ≡ front_of ns → ns ≡ []
front_none [] e = refl
front_none (n ∷ ns) e = absurd (let f : None ≡ Some n.ticket = e in cc)

pub fewer : (ns xs : List Standing) (n : Standing) (ys ns' : List Standing) → ns ≡ xs ++ n ∷ ys → ns' ≡ xs ++ ys → length ns ≡ length ns' + 1
fewer ns xs n ys ns' cut e =
    let a : length (xs ++ n ∷ ys) ≡ length xs + length (n ∷ ys) = length-append xs (n ∷ ys) in
    let b : length (xs ++ ys) ≡ length xs + length ys = length-append xs ys in
    let c : length ns ≡ length (xs ++ n ∷ ys) = ap length cut in
    let d : length ns' ≡ length (xs ++ ys) = ap length e in
    omega arith

pub nothing_stands : (o : Option Waiting) (w : Waiting) (t : Ticket) → o ≡ None → waiting_in o ≡ w → StandsAt w.nodes t → ⊥
nothing_stands o w t none e h = nil_ne_cut h.0 h.1 h.2 (ap (λ (v : Waiting). v.nodes) (ap waiting_in (sym none) ∙ e) ∙ h.3)
