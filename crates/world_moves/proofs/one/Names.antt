-- In every world each connection has a name of its own.
use Rattle.std.proofs.Common.{◌≡◌, ℕ, List, [], ◌∷◌, Some, refl, sym, ap, subst, ◌∙◌}
use Rattle.std.specs.Prelude.{slice_get}
use Rattle.ndr_value.specs.Values.{Msg}
use Rattle.ndr_table.specs.Tables.{TableForm}
use Rattle.world_laws.specs.Moves.{Move}
use Rattle.world_laws.specs.Moves.{Move as moves}
use Rattle.world_laws.specs.Ends.{Line}
use Rattle.world_laws.specs.Worlds.{World, OfLine, empty, opened, starting, Opens, Starts, Plays, PlaysAll, Played}
use Rattle.world_laws.proofs.Lists.{some_is, within, OfMore, of_more}
use Rattle.world_laws.proofs.Lists.OfMore.{before, last}
use Rattle.world_laws.proofs.Holds.{OfSet, of_set}
use Rattle.world_laws.proofs.Holds.OfSet.{here, there_still}
use Rattle.world_laws.proofs.Walking.{Stays, OnLines, plays_on}

abbrev pub Apart : World → Type 0
Apart w = (i j : ℕ) (l m : Line) → slice_get w.lines i ≡ Some l → slice_get w.lines j ≡ Some m → l.name ≡ m.name → i ≡ j

abbrev Named : ℕ → Line → Type 0
Named n l = l.name ≡ n

stays_named : (table : TableForm) (n : ℕ) → Stays table (Named n)
stays_named table n = record {
  cancels = λ l octets state stands out cancels e. e;
  comes = λ l m past new front left stands way d e. ap (λ (x : Line). x.name) d.then_ ∙ e;
  does = λ l m past new event stands none d e. ap (λ (x : Line). x.name) d.then_ ∙ e;
  hears = λ l d front left stands way h e. e;
  breaks = λ l d front left stands way h e. e;
  loses = λ l stands e. e;
}

-- each connection has the name of the one that was at its place
abbrev SameNames : World → World → Type 0
SameNames w v = (i : ℕ) (m : Line) → slice_get v.lines i ≡ Some m → (l : Line) × (slice_get w.lines i ≡ Some l) × (m.name ≡ l.name)

apart_by : (w v : World) → SameNames w v → Apart w → Apart v
apart_by w v same apart i j l m at found e =
    let (k, was, name) = same i l at in
    let (x, were, called) = same j m found in
    apart i j k x was were (sym name ∙ (e ∙ called))

same_by : (w v : World) → ((n : ℕ) → OnLines (Named n) w v) → SameNames w v
same_by w v on i m at =
    let (l, found, f) = (on 0).lines i m at in
    let (k, was, g) = (on l.name).lines i m at in
    (l, found, g (ap (λ (x : Line). x.name) (some_is k l (sym was ∙ found))))

others : (w v : World) → ((n : ℕ) → OnLines (Named n) w v) → Apart w → Apart v
others w v on apart = apart_by w v (same_by w v on) apart

opens : (table : TableForm) (w v : World) (c group : ℕ) → Opens table w c group v → Apart w → Apart v
opens table w v c group o apart =
    subst (λ (x : World). Apart x) (sym o.after) (λ i j l m at found e. by i j l m (of_more w.lines new i l at) (of_more w.lines new j m found) e)
  where
    new : Line
    new = opened table c group o.octets o.state

    by : (i j : ℕ) (l m : Line) → OfMore w.lines new i l → OfMore w.lines new j m → l.name ≡ m.name → i ≡ j
    by i j l m (before at) (before found) e = apart i j l m at found e
    by i j l m (before at) (last place is) e = absurd (o.fresh i l at (e ∙ ap (λ (x : Line). x.name) is))
    by i j l m (last place is) (before found) e = absurd (o.fresh j m found (sym e ∙ ap (λ (x : Line). x.name) is))
    by i j l m (last place is) (last other are) e = place ∙ sym other

starts : (table : TableForm) (w v : World) (op : ℕ) (m : Msg) (i : ℕ) (l : Line) → slice_get w.lines i ≡ Some l → Starts table w op m i l v → Apart w → Apart v
starts table w v op m i l at s apart = apart_by w v (subst (λ (x : World). SameNames w x) (sym s.after) (λ j x found. by j x (of_set w.lines i new j x (within w.lines i l at) found))) apart
  where
    new : Line
    new = starting table l op m s.octets s.state

    by : (j : ℕ) (x : Line) → OfSet w.lines i new j x → (k : Line) × (slice_get w.lines j ≡ Some k) × (x.name ≡ k.name)
    by j x (here same is) = (l, ap (λ (n : ℕ). slice_get w.lines n) same ∙ at, ap (λ (y : Line). y.name) is)
    by j x (there_still other found) = (x, found, refl)

pub then_apart : (table : TableForm) (move : Move) (w v : World) → Plays table w move v → Apart w → Apart v
then_apart table (moves.Open c group) w v p apart = opens table w v c group p apart
then_apart table (moves.Start c op m) w v (i, l, at, named, stands, p) apart = starts table w v op m i l at p apart
then_apart table (moves.ToServer c n) w v p apart = others w v (λ k. plays_on table (Named k) (moves.ToServer c n) w v (stays_named table k) p) apart
then_apart table (moves.ToCaller c n) w v p apart = others w v (λ k. plays_on table (Named k) (moves.ToCaller c n) w v (stays_named table k) p) apart
then_apart table (moves.Cancel c) w v p apart = others w v (λ k. plays_on table (Named k) (moves.Cancel c) w v (stays_named table k) p) apart
then_apart table (moves.Lose c) w v p apart = others w v (λ k. plays_on table (Named k) (moves.Lose c) w v (stays_named table k) p) apart
then_apart table moves.Restart w v p apart = others w v (λ k. plays_on table (Named k) moves.Restart w v (stays_named table k) p) apart
then_apart table (moves.Take n) w v p apart = others w v (λ k. plays_on table (Named k) (moves.Take n) w v (stays_named table k) p) apart
then_apart table (moves.Finish n kepts m) w v p apart = others w v (λ k. plays_on table (Named k) (moves.Finish n kepts m) w v (stays_named table k) p) apart

all_apart : (table : TableForm) (played : List Move) (w v : World) → PlaysAll table w played v → Apart w → Apart v
all_apart table [] w v is apart = subst (λ (x : World). Apart x) (sym is) apart
all_apart table (move ∷ more) w v (u, p, later) apart = all_apart table more u v later (then_apart table move w u p apart)

none_there : (i : ℕ) (l : Line) → (let ls : List Line = [] in slice_get ls i) ≡ Some l → ⊥
none_there i l e = absurd (cc (e))

pub apart : (table : TableForm) (played : List Move) (w : World) → Played table played w → Apart w
apart table played w p = all_apart table played empty w p (λ i j l m at found e. absurd (none_there i l at))

-- two things of the connection of one name are of one connection
pub one_line : (w : World) (c : ℕ) (P Q : ℕ → Line → Type 0) (R : Type 0) → Apart w → OfLine w c P → OfLine w c Q → ((i : ℕ) (l : Line) → P i l → Q i l → R) → R
one_line w c P Q R apart (i, l, at, named, stands, p) (j, m, found, called, up, q) go =
    let same : j ≡ i = apart j i m l found at (called ∙ sym named) in
    let is : m ≡ l = some_is m l (sym found ∙ (ap (λ (n : ℕ). slice_get w.lines n) same ∙ at)) in
    go i l p (subst (λ (x : ℕ). Q x l) same (subst (λ (y : Line). Q j y) is q))
