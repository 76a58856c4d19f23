-- In every world a caller is told of its calls what happened at its end, in order.
use Rattle.std.proofs.Common.{◌≡◌, ℕ, true, false, Some, List, [], ◌∷◌, refl, sym, subst}
use Rattle.std.specs.Prelude.{slice_get}
use Rattle.ndr_value.specs.Values.{Msg}
use Rattle.ndr_table.specs.Tables.{TableForm}
use Rattle.client_core.specs.States.{is_calling}
use Rattle.client_core.specs.Histories.ClientEvent.{DidCall, DidCancel}
use Rattle.world_laws.specs.Moves.{Move}
use Rattle.world_laws.specs.Moves.{Move as moves}
use Rattle.world_laws.specs.Moves.{Fate as fates}
use Rattle.world_laws.specs.Ends.{Row, Line, told_if}
use Rattle.world_laws.specs.Worlds.{World, empty, opened, starting, cancelling, Opens, Starts, Plays, PlaysAll, Played}
use Rattle.world_laws.specs.Telling.{ComesInOrder, EndsByLoss, AllFatesAreTold}
use Rattle.world_laws.proofs.Lists.{within, OfMore, of_more}
use Rattle.world_laws.proofs.Lists.OfMore.{before, last}
use Rattle.world_laws.proofs.Holds.{OfSet, of_set}
use Rattle.world_laws.proofs.Holds.OfSet.{here, there_still}
use Rattle.world_laws.proofs.Moving.{holds}
use Rattle.world_laws.proofs.Walking.{Stays, OnLines, plays_on}
use Rattle.world_laws.proofs.SameRows.{if_told, heard_octets, then_rows}
use Rattle.world_laws.proofs.AskedRows.{AllAsked, asked_on, asked_start}
use Rattle.world_laws.proofs.Ways.{opens_ways, starts_ways, cancels_ways, does_ways, comes_ways, hears_ways, breaks_ways, loses_ways}
use Rattle.world_laws.proofs.Standing.{goes_with, does_more, hears_more, is_lost}
use Rattle.world_laws.proofs.RowFates.{CallerIs, opens_rows, starts_rows, cancels_rows, hears_rows, lost_rows, is_told}

pub record TellsLine (table : TableForm) (l : Line) : Type 0 where
  pub ways : ComesInOrder l
  pub ends : EndsByLoss l
  pub caller : CallerIs table l.caller
  pub asked : AllAsked table l.caller.rows

-- what the server does leaves the caller's end
pub stays_told : (table : TableForm) → Stays table (TellsLine table)
stays_told table = record {
  cancels = λ l octets state stands out cancels t. record { ways = cancels_ways table l octets state stands t.ways; ends = does_more l (cancelling table l octets state) (DidCancel octets) stands refl refl refl t.ends; caller = cancels_rows table l.caller octets state cancels t.caller; asked = t.asked };
  comes = λ l m past new front left stands way d t.
      record { ways = comes_ways table l m past new front left stands way d t.ways; ends = subst (λ (x : Line). EndsByLoss x) (sym d.then_) (goes_with _ stands (t.ends.stands stands)); caller = subst (λ (x : Line). CallerIs table x.caller) (sym d.then_) t.caller; asked = subst (λ (x : Line). AllAsked table x.caller.rows) (sym d.then_) t.asked };
  does = λ l m past new event stands none d t. record { ways = does_ways table l m past new event stands none d t.ways; ends = subst (λ (x : Line). EndsByLoss x) (sym d.then_) (goes_with _ stands (t.ends.stands stands)); caller = subst (λ (x : Line). CallerIs table x.caller) (sym d.then_) t.caller; asked = subst (λ (x : Line). AllAsked table x.caller.rows) (sym d.then_) t.asked };
  hears = λ l d front left stands way h t.
      record { ways = hears_ways l d front left stands way h t.ways; ends = hears_more l d front left stands h t.ends; caller = hears_rows table l.caller d front false h t.caller; asked = asked_on table l.caller.rows d.rows (heard_octets l.caller d front false h) t.asked };
  breaks = λ l d front left stands way h t.
      record {
        ways = breaks_ways l d front left stands way h t.ways;
        ends = is_lost (record l { caller = d; down = left });
        caller = lost_rows table d (hears_rows table l.caller d front true h t.caller);
        asked = asked_on table l.caller.rows (told_if (is_calling d.state) fates.Lost d.rows)
            (then_rows l.caller.rows d.rows (told_if (is_calling d.state) fates.Lost d.rows) (heard_octets l.caller d front true h) (if_told (is_calling d.state) fates.Lost d.rows)) t.asked;
      };
  loses = λ l stands t. record { ways = loses_ways l t.ways; ends = is_lost l; caller = lost_rows table l.caller t.caller; asked = asked_on table l.caller.rows (told_if (is_calling l.caller.state) fates.Lost l.caller.rows) (if_told (is_calling l.caller.state) fates.Lost l.caller.rows) t.asked };
}

abbrev pub AllTell : TableForm → World → Type 0
AllTell table w = (i : ℕ) (l : Line) → slice_get w.lines i ≡ Some l → TellsLine table l

others : (table : TableForm) (w v : World) → OnLines (TellsLine table) w v → AllTell table w → AllTell table v
others table w v on h i m at = let (l, found, f) = on.lines i m at in f (h i l found)

opens : (table : TableForm) (w v : World) (c group : ℕ) → Opens table w c group v → AllTell table w → AllTell table v
opens table w v c group o h = subst (λ (x : World). AllTell table x) (sym o.after) (λ i l at. by i l (of_more w.lines (opened table c group o.octets o.state) i l at))
  where
    by : (i : ℕ) (l : Line) → OfMore w.lines (opened table c group o.octets o.state) i l → TellsLine table l
    by i l (before found) = h i l found
    by i l (last place is) = subst (λ (x : Line). TellsLine table x) (sym is) (record { ways = opens_ways table c group o.octets o.state; ends = goes_with (opened table c group o.octets o.state) refl refl; caller = opens_rows table group o.octets o.state o.binds; asked = λ x r at. absurd (none x r at) })
      where
        none : (x : ℕ) (r : Row) → (let rs : List Row = [] in slice_get rs x) ≡ Some r → ⊥
        none x r at = absurd (cc (at))

starts : (table : TableForm) (w v : World) (op : ℕ) (m : Msg) (i : ℕ) (l : Line) → slice_get w.lines i ≡ Some l → l.standing ≡ true → Starts table w op m i l v → AllTell table w → AllTell table v
starts table w v op m i l at stands s h = subst (λ (x : World). AllTell table x) (sym s.after) (λ j k found. by j k (of_set w.lines i (starting table l op m s.octets s.state) j k (within w.lines i l at) found))
  where
    by : (j : ℕ) (k : Line) → OfSet w.lines i (starting table l op m s.octets s.state) j k → TellsLine table k
    by j k (here same is) = subst (λ (x : Line). TellsLine table x) (sym is)
        (record { ways = starts_ways table l op m s.octets s.state stands (h i l at).ways; ends = does_more l (starting table l op m s.octets s.state) (DidCall op m s.octets) stands refl refl refl (h i l at).ends; caller = starts_rows table l.caller op m s.octets s.state s.bound s.free s.calls (h i l at).caller; asked = asked_start table l.caller.state s.state op m s.octets l.caller.rows (h i l at).caller.interface s.message s.calls (h i l at).asked })
    by j k (there_still other found) = h j k found

plays : (table : TableForm) (move : Move) (w v : World) → Plays table w move v → AllTell table w → AllTell table v
plays table (moves.Open c group) w v p h = opens table w v c group p h
plays table (moves.Start c op m) w v (i, l, at, named, stands, p) h = starts table w v op m i l at stands p h
plays table (moves.ToServer c n) w v p h = others table w v (plays_on table (TellsLine table) (moves.ToServer c n) w v (stays_told table) p) h
plays table (moves.ToCaller c n) w v p h = others table w v (plays_on table (TellsLine table) (moves.ToCaller c n) w v (stays_told table) p) h
plays table (moves.Cancel c) w v p h = others table w v (plays_on table (TellsLine table) (moves.Cancel c) w v (stays_told table) p) h
plays table (moves.Lose c) w v p h = others table w v (plays_on table (TellsLine table) (moves.Lose c) w v (stays_told table) p) h
plays table moves.Restart w v p h = others table w v (plays_on table (TellsLine table) moves.Restart w v (stays_told table) p) h
plays table (moves.Take k) w v p h = others table w v (plays_on table (TellsLine table) (moves.Take k) w v (stays_told table) p) h
plays table (moves.Finish k kepts m) w v p h = others table w v (plays_on table (TellsLine table) (moves.Finish k kepts m) w v (stays_told table) p) h

all_tell : (played : List Move) (table : TableForm) (w v : World) → PlaysAll table w played v → AllTell table w → AllTell table v
all_tell [] table w v is h = subst (λ (x : World). AllTell table x) (sym is) h
all_tell (move ∷ more) table w v (u, first, later) h = all_tell more table u v later (plays table move w u first h)

nothing : (i : ℕ) (l : Line) → (let xs : List Line = [] in slice_get xs i) ≡ Some l → ⊥
nothing i l e = absurd (cc (e))

pub tells_all : (table : TableForm) (played : List Move) (w : World) → Played table played w → AllTell table w
tells_all table played w p = all_tell played table empty w p (λ i l at. absurd (nothing i l at))

pub fates_are_told : AllFatesAreTold
fates_are_told table played w fits few p i l at =
    let t = tells_all table played w p i l at in
    record {
      lives = ((holds table played w fits few p).lines i l at).began;
      ways = t.ways;
      ends = t.ends;
      count = t.caller.count;
      told = λ x r row. is_told table l.caller x r t.caller row;
    }
