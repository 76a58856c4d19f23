-- What a write to one of the queues leaves in each.
use Rattle.std.proofs.Common.{◌≡◌, ℕ, zero, suc, ◌<◌, true, cond, Option, Some, List, [], ◌∷◌, ◌++◌, length, refl, sym, ap, ◌∙◌, subst, append-nil, append_assoc, arith}
use lib.ListN.{set, get_or}
use mathlib.Core.Bool.{false}
use denote.RawPtr.{Ptr}
use Rattle.wait_list.specs.declared.node.Membership.{Membership}
use Rattle.wait_list.specs.declared.node.Membership.TheVariants.{In, Idle}
use Rattle.wait_list.specs.declared.node.Ticket.{Ticket}
use Rattle.wait_list.specs.declared.queue.Queue.{Queue}
use Rattle.wait_list.specs.Linked.{Linked, linked, AtLink}
use Rattle.wait_list.specs.Stands.{is_same, member_in, links_at, CanLeave}

abbrev Link : Type 0
Link = Linked (Option Ticket)

none_below : (k : ℕ) → k < 0 → ⊥
none_below k h = omega arith

pub links-get : (qs : List Queue) (k : ℕ) (d : Queue) → k < length qs → (get_or qs k d).ring.nodes ≡ links_at qs k
links-get [] k d h = absurd (none_below k h)
links-get (q ∷ qs) zero d h = refl
links-get (q ∷ qs) (suc k) d h = links-get qs k d (omega arith)

pub pushed : (qs : List Queue) (i : ℕ) (q d : Queue) (x : Link) → i < length qs → q.ring.nodes ≡ (get_or qs i d).ring.nodes ++ x ∷ [] → (k : ℕ) → links_at (set qs i q) k ≡ links_at qs k ++ cond (is_same i k) (x ∷ []) []
pushed [] i q d x h e k = absurd (none_below i h)
pushed (p ∷ qs) zero q d x h e zero = e
pushed (p ∷ qs) zero q d x h e (suc k) = sym (append-nil (links_at qs k))
pushed (p ∷ qs) (suc i) q d x h e zero = sym (append-nil p.ring.nodes)
pushed (p ∷ qs) (suc i) q d x h e (suc k) = pushed qs i q d x (omega arith) e k

pub removed : (qs : List Queue) (i : ℕ) (q d : Queue) (p : Ptr) (R : List Link → Link → List Link → Type 0) → i < length qs → AtLink (get_or qs i d).ring.nodes p (λ xs n ys. (q.ring.nodes ≡ xs ++ ys) × R xs n ys)
    → (k : ℕ) (t : Ticket) (us vs : List Link) → links_at qs k ≡ us ++ (cond (is_same i k) (linked p (Some t) ∷ []) [] ++ vs) → links_at (set qs i q) k ≡ us ++ vs
removed [] i q d p R h e k t us vs c = absurd (none_below i h)
removed (o ∷ qs) zero q d p R h e zero t us vs c = (e us (linked p (Some t)) vs c refl).0
removed (o ∷ qs) zero q d p R h e (suc k) t us vs c = c
removed (o ∷ qs) (suc i) q d p R h e zero t us vs c = c
removed (o ∷ qs) (suc i) q d p R h e (suc k) t us vs c = removed qs i q d p R (omega arith) e k t us vs c

in_range : (qs : List Queue) (k : ℕ) (us : List Link) (x : Link) (vs : List Link) → links_at qs k ≡ us ++ x ∷ vs → k < length qs
in_range [] k [] x vs e = cc
in_range [] k (u ∷ us) x vs e = cc
in_range (q ∷ qs) zero us x vs e = omega arith
in_range (q ∷ qs) (suc k) us x vs e = let h = in_range qs k us x vs e in omega arith

same : (b : ℕ) → is_same b b ≡ true
same zero = refl
same (suc b) = same b

-- a link that queue k has of a membership, the membership's queue has
pub can_leave : (qs : List Queue) (s : Membership) (t : Ticket) (us vs : ℕ → List Link) → ((k : ℕ) → links_at qs k ≡ us k ++ (member_in k t s ++ vs k)) → CanLeave qs s
can_leave qs (In q p) t us vs e =
    let x : Link = linked p.ptr (Some t) in
    let here : links_at qs q ≡ us q ++ x ∷ vs q = subst (λ b. links_at qs q ≡ us q ++ (cond b (x ∷ []) [] ++ vs q)) (same q) (e q) in
    (in_range qs q (us q) x (vs q) here, (us q, x, vs q, here, refl))
can_leave qs (Idle r) t us vs e = tt

pub is_same-refl : (b : ℕ) → is_same b b ≡ true
is_same-refl = same

pub is_same-differs : (m n : ℕ) → (m ≡ n → ⊥) → is_same m n ≡ false
is_same-differs zero zero h = absurd (h refl)
is_same-differs zero (suc n) h = refl
is_same-differs (suc m) zero h = refl
is_same-differs (suc m) (suc n) h = is_same-differs m n (λ e. h (ap suc e))

-- a node's links in a queue, from one on
pub peel : (us s r vs : List Link) → us ++ ((s ++ r) ++ vs) ≡ us ++ (s ++ (r ++ vs))
peel us s r vs = ap (λ l. us ++ l) (append_assoc s r vs)

pub last_d : (a b c d : List Link) (x : Link) → d ≡ x ∷ [] → a ++ (b ++ (c ++ d)) ≡ (a ++ (b ++ c)) ++ x ∷ []
last_d a b c d x e = ap (λ l. a ++ (b ++ (c ++ l))) e ∙ ap (λ l. a ++ l) (sym (append_assoc b c (x ∷ []))) ∙ sym (append_assoc a (b ++ c) (x ∷ []))

pub last_c : (a b c d : List Link) (x : Link) → d ≡ [] → c ≡ x ∷ [] → a ++ (b ++ (c ++ d)) ≡ (a ++ b) ++ x ∷ []
last_c a b c d x n e = (λ i. a ++ (b ++ (e i ++ n i))) ∙ sym (append_assoc a b (x ∷ []))

pub last_b : (a b c d : List Link) (x : Link) → d ≡ [] → c ≡ [] → b ≡ x ∷ [] → a ++ (b ++ (c ++ d)) ≡ a ++ x ∷ []
last_b a b c d x n m e = λ i. a ++ (e i ++ (m i ++ n i))

pub links-more : (qs : List Queue) (q : Queue) (k : ℕ) → q.ring.nodes ≡ [] → links_at (qs ++ q ∷ []) k ≡ links_at qs k
links-more [] q zero e = e
links-more [] q (suc k) e = refl
links-more (p ∷ qs) q zero e = refl
links-more (p ∷ qs) q (suc k) e = links-more qs q k e

pub links-last : (qs : List Queue) (q : Queue) → links_at (qs ++ q ∷ []) (length qs) ≡ q.ring.nodes
links-last [] q = refl
links-last (p ∷ qs) q = links-last qs q

pub links-init : (qs : List Queue) (q : Queue) (k : ℕ) → links_at (qs ++ q ∷ []) k ≡ [] → links_at qs k ≡ []
links-init [] q k e = refl
links-init (p ∷ qs) q zero e = e
links-init (p ∷ qs) q (suc k) e = links-init qs q k e
