-- In every world what waits for the server's word is what its connection waits for.
use Rattle.std.proofs.Common.{◌≡◌, ℕ, List, [], ◌∷◌, Some, refl, sym, subst}
use Rattle.std.specs.Prelude.{slice_get}
use Rattle.ndr_value.specs.Values.{Msg}
use Rattle.ndr_table.specs.Tables.{TableForm}
use Rattle.conn_histories.specs.Histories.Event.{Came}
use Rattle.world_laws.specs.Moves.{Move}
use Rattle.world_laws.specs.Moves.{Move as moves}
use Rattle.world_laws.specs.Ends.{Line, new_server}
use Rattle.world_laws.specs.Worlds.{World, empty, opened, starting, Opens, Starts, Plays, PlaysAll, Played}
use Rattle.world_laws.proofs.Lists.{within, OfMore, of_more}
use Rattle.world_laws.proofs.Lists.OfMore.{before, last}
use Rattle.world_laws.proofs.Holds.{OfSet, of_set}
use Rattle.world_laws.proofs.Holds.OfSet.{here, there_still}
use Rattle.world_laws.proofs.Walking.{Stays, OnLines, plays_on}
use Rattle.world_moves.proofs.leads.Fits.{Fit, fit_on}
use Rattle.world_moves.proofs.leads.Fits.Linked.{free}

abbrev FitLine : Line → Type 0
FitLine l = Fit l.server

stays_fit : (table : TableForm) → Stays table FitLine
stays_fit table = record {
  cancels = λ l octets state stands out cancels f. f;
  comes = λ l m past new front left stands way d f. subst (λ (x : Line). FitLine x) (sym d.then_) (fit_on table past new l.server d.after (Came front) d.state d.happens d.means f);
  does = λ l m past new event stands none d f. subst (λ (x : Line). FitLine x) (sym d.then_) (fit_on table past new l.server d.after event d.state d.happens d.means f);
  hears = λ l d front left stands way h f. f;
  breaks = λ l d front left stands way h f. f;
  loses = λ l stands f. f;
}

abbrev AllFit : World → Type 0
AllFit w = (i : ℕ) (l : Line) → slice_get w.lines i ≡ Some l → FitLine l

others : (w v : World) → OnLines FitLine w v → AllFit w → AllFit v
others w v on h i m at = let (l, found, f) = on.lines i m at in f (h i l found)

opens : (table : TableForm) (w v : World) (c group : ℕ) → Opens table w c group v → AllFit w → AllFit v
opens table w v c group o h = subst (λ (x : World). AllFit x) (sym o.after) (λ i l at. by i l (of_more w.lines (opened table c group o.octets o.state) i l at))
  where
    new : Fit (new_server (table.id ∷ []))
    new = record { linked = free refl refl; member = λ any live. absurd (cc (any)) }

    by : (i : ℕ) (l : Line) → OfMore w.lines (opened table c group o.octets o.state) i l → FitLine l
    by i l (before found) = h i l found
    by i l (last place is) = subst (λ (x : Line). FitLine x) (sym is) new

starts : (table : TableForm) (w v : World) (op : ℕ) (m : Msg) (i : ℕ) (l : Line) → slice_get w.lines i ≡ Some l → Starts table w op m i l v → AllFit w → AllFit v
starts table w v op m i l at s h = subst (λ (x : World). AllFit x) (sym s.after) (λ j k found. by j k (of_set w.lines i (starting table l op m s.octets s.state) j k (within w.lines i l at) found))
  where
    by : (j : ℕ) (k : Line) → OfSet w.lines i (starting table l op m s.octets s.state) j k → FitLine k
    by j k (here same is) = subst (λ (x : Line). FitLine x) (sym is) (h i l at)
    by j k (there_still other found) = h j k found

plays : (table : TableForm) (move : Move) (w v : World) → Plays table w move v → AllFit w → AllFit v
plays table (moves.Open c group) w v p h = opens table w v c group p h
plays table (moves.Start c op m) w v (i, l, at, named, stands, p) h = starts table w v op m i l at p h
plays table (moves.ToServer c n) w v p h = others w v (plays_on table FitLine (moves.ToServer c n) w v (stays_fit table) p) h
plays table (moves.ToCaller c n) w v p h = others w v (plays_on table FitLine (moves.ToCaller c n) w v (stays_fit table) p) h
plays table (moves.Cancel c) w v p h = others w v (plays_on table FitLine (moves.Cancel c) w v (stays_fit table) p) h
plays table (moves.Lose c) w v p h = others w v (plays_on table FitLine (moves.Lose c) w v (stays_fit table) p) h
plays table moves.Restart w v p h = others w v (plays_on table FitLine moves.Restart w v (stays_fit table) p) h
plays table (moves.Take k) w v p h = others w v (plays_on table FitLine (moves.Take k) w v (stays_fit table) p) h
plays table (moves.Finish k kepts m) w v p h = others w v (plays_on table FitLine (moves.Finish k kepts m) w v (stays_fit table) p) h

all_fit_on : (played : List Move) (table : TableForm) (w v : World) → PlaysAll table w played v → AllFit w → AllFit v
all_fit_on [] table w v is h = subst (λ (x : World). AllFit x) (sym is) h
all_fit_on (move ∷ more) table w v (u, first, later) h = all_fit_on more table u v later (plays table move w u first h)

nothing : (i : ℕ) (l : Line) → (let xs : List Line = [] in slice_get xs i) ≡ Some l → ⊥
nothing i l e = absurd (cc (e))

pub all_fit : (table : TableForm) (played : List Move) (w : World) → Played table played w → (i : ℕ) (l : Line) → slice_get w.lines i ≡ Some l → Fit l.server
all_fit table played w p = all_fit_on played table empty w p (λ i l at. absurd (nothing i l at))
