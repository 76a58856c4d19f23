-- Pieces, one behind the other.
use Rattle.std.proofs.Common.{◌≡◌, ℕ, suc, ◌+◌, add-one, List, [], ◌∷◌, ◌++◌, length, length-append, append_assoc, refl, sym, ap, ◌∙◌}
use Rattle.std.proofs.lemmas.List.{append-nil}
use Rattle.rpc_base.specs.declared.identifiers.Order.{Order}
use Rattle.ndr_value.specs.Values.{count_of, bytes}
use Rattle.ndr_model.specs.Pieces.{Given, Behind, Piece, only, joined, then_piece, next_id, number}
use Rattle.ndr_write.specs.Views.{followed, octets_only}

abbrev pub piece : List ℕ → Given → List Behind → Piece
piece octets g b = record { octets = octets; given = g; behind = b }

pub followed_none : (p : Piece) → followed p (λ i g. only [] g) ≡ p
followed_none p = ap (λ xs. piece xs p.given (p.behind ++ [])) (append-nil p.octets) ∙ ap (λ b. piece p.octets p.given b) (append-nil p.behind)

joined_thrice : (p a b : Piece) → joined (joined p a) b ≡ joined p (joined a b)
joined_thrice p a b =
    ap (λ xs. piece xs b.given ((p.behind ++ a.behind) ++ b.behind)) (append_assoc p.octets a.octets b.octets)
    ∙ ap (λ c. piece (p.octets ++ (a.octets ++ b.octets)) b.given c) (append_assoc p.behind a.behind b.behind)

pub followed_then : (p : Piece) (f g : ℕ → Given → Piece) → followed (followed p f) g ≡ followed p (λ i y. then_piece (f i y) i g)
followed_then p f g =
    let a = f (length p.octets) p.given in
    ap (λ n. joined (joined p a) (g n a.given)) (length-append p.octets a.octets)
    ∙ joined_thrice p a (g (length p.octets + length a.octets) a.given)

-- octets alone, at the end of those so far
pub octets_more : (xs ys zs : List ℕ) (g : Given) (b : List Behind) → ys ≡ xs ++ zs → piece ys g b ≡ piece (xs ++ zs) g (b ++ [])
octets_more xs ys zs g b e = ap (λ ws. piece ws g b) e ∙ ap (λ c. piece (xs ++ zs) g c) (sym (append-nil b))

-- one more pointer, whose referent stands at the end of those to come
pub pointer_more : (xs ys zs : List ℕ) (n : ℕ) (items items' more : List ℕ) (bs cs b : List Behind) → ys ≡ xs ++ zs → items' ≡ items ++ more → cs ≡ bs ++ b
    → piece ys (record { count = n + 1; items = items' }) cs ≡ piece (xs ++ zs) (record { count = suc n; items = items ++ more }) (bs ++ b)
pointer_more xs ys zs n items items' more bs cs b is kept more_is =
    ap (λ ws. piece ws (record { count = n + 1; items = items' }) cs) is
    ∙ ap (λ k. piece (xs ++ zs) (record { count = k; items = items' }) cs) (add-one n)
    ∙ ap (λ ws. piece (xs ++ zs) (record { count = suc n; items = ws }) cs) kept
    ∙ ap (λ c. piece (xs ++ zs) (record { count = suc n; items = items ++ more }) c) more_is

pub pointed_more : (order : Order) (xs ys : List ℕ) (n id : ℕ) (items : List ℕ) (bs cs : List Behind) (b : Behind) → id ≡ next_id (record { count = n; items = items }) → ys ≡ xs ++ number order 4 id (length xs) → cs ≡ bs ++ b ∷ []
    → piece ys (record { count = n + 1; items = items }) cs ≡ piece (xs ++ number order 4 (next_id (record { count = n; items = items })) (length xs)) (record { count = suc n; items = items }) (bs ++ b ∷ [])
pointed_more order xs ys n id items bs cs b e is more_is =
    let zs = number order 4 (next_id (record { count = n; items = items })) (length xs) in
    ap (λ ws. piece ws (record { count = n + 1; items = items }) cs) (is ∙ ap (λ k. xs ++ number order 4 k (length xs)) e)
    ∙ ap (λ k. piece (xs ++ zs) (record { count = k; items = items }) cs) (add-one n)
    ∙ ap (λ c. piece (xs ++ zs) (record { count = suc n; items = items }) c) more_is

pub item_more : (order : Order) (xs ys : List ℕ) (n id : ℕ) (items items' : List ℕ) (bs cs b : List Behind) → id ≡ next_id (record { count = n; items = items }) → ys ≡ xs ++ number order 4 id (length xs)
    → items' ≡ items ++ id ∷ [] → cs ≡ bs ++ b
    → piece ys (record { count = n + 1; items = items' }) cs
    ≡ piece (xs ++ number order 4 (next_id (record { count = n; items = items })) (length xs)) (record { count = suc n; items = items ++ next_id (record { count = n; items = items }) ∷ [] }) (bs ++ b)
item_more order xs ys n id items items' bs cs b e is kept more_is =
    pointer_more xs ys (number order 4 (next_id (record { count = n; items = items })) (length xs)) n items items' (next_id (record { count = n; items = items }) ∷ []) bs cs b
    (is ∙ ap (λ k. xs ++ number order 4 k (length xs)) e) (kept ∙ ap (λ k. items ++ k ∷ []) e) more_is

pub count-bytes : (ns : List ℕ) → count_of (bytes ns) ≡ length ns
count-bytes [] = refl
count-bytes (n ∷ ns) = ap suc (count-bytes ns)
