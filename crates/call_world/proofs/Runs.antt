-- One move more is played.
use Rattle.std.proofs.Common.{◌≡◌, ℕ, ◌+◌, ◌^◌, ◌<◌, ◌≤◌, true, false, Some, List, [], ◌∷◌, ◌++◌, take, length, reverse, refl, sym, ap, subst, ◌∙◌, arith}
use Rattle.std.proofs.lemmas.List.{length-append, append-nil, reverse-append}
use Rattle.rpc_base.specs.Fields.{FitsSyntax}
use Rattle.handle_model.specs.declared.entry.Entry.{Entry}
use Rattle.handle_model.specs.Rules.{Legal}
use Rattle.world_laws.specs.Journals.{journal}
use Rattle.world_laws.specs.Clauses.{AllCallsAreRows, AllFatesAreTrue}
use Rattle.world_laws.specs.Keeping.{IsWholeTable, AllHandlesAreKept}
use Rattle.world_laws.specs.Starts.{AllStartsAreRows}
use Rattle.world_laws.specs.Telling.{AllFatesAreTold}
use Rattle.world_laws.specs.Leading.{MayCome, OnlyWhereItMay}
use Rattle.call_world.specs.declared.play.WorldFault.{WorldFault}
use Rattle.call_world.specs.declared.play.WorldFault.TheVariants.{NotNow, Memory}
use Rattle.call_world.specs.Played.{IsPlayed, Leads, StopsHere, Stops, LeadsNowhere}
use Rattle.std.specs.Prelude.{slice_get}
use Rattle.ndr_table.specs.Shown.{shown}
use Rattle.ndr_table.specs.Tables.{TableForm}
use Rattle.world_laws.specs.Moves.{Move}
use Rattle.world_laws.specs.Worlds.{World, empty, Plays, PlaysAll, Played}
use Rattle.call_world.specs.declared.moves.Move.{Move as Step}
use Rattle.call_world.specs.declared.world.World.{World as Machine}
use Rattle.call_world.specs.Moves.{move_of, moves_of}
use Rattle.world_laws.proofs.Lists.{length_more}
use Rattle.call_world.specs.Worlds.{IsWorld, Tries}

plays_more : (table : TableForm) (moves : List Move) (w u v : World) (m : Move) → PlaysAll table w moves u → Plays table u m v → PlaysAll table w (moves ++ m ∷ []) v
plays_more table [] w u v m t p = (v, subst (λ (x : World). Plays table x m v) t p, refl)
plays_more table (n ∷ moves) w u v m t p = (t.0, t.1, plays_more table moves t.0 u v m t.2 p)

moves_append : (a b : List Step) → moves_of (a ++ b) ≡ moves_of a ++ moves_of b
moves_append [] b = refl
moves_append (s ∷ a) b = ap (λ (ms : List Move). move_of s ∷ ms) (moves_append a b)

assoc : {A : Type 0} (a : List A) (x : A) (b : List A) → (a ++ x ∷ []) ++ b ≡ a ++ x ∷ b
assoc [] x b = refl
assoc (y ∷ a) x b = ap (λ (l : List _). y ∷ l) (assoc a x b)

take_front : {A : Type 0} (a b : List A) → take (length a) (a ++ b) ≡ a
take_front [] b = refl
take_front (x ∷ a) b = ap (λ (l : List _). x ∷ l) (take_front a b)

get_behind : {A : Type 0} (a : List A) (x : A) (b : List A) → slice_get (a ++ x ∷ b) (length a) ≡ Some x
get_behind [] x b = refl
get_behind (y ∷ a) x b = get_behind a x b

moves_length : (a : List Step) → length (moves_of a) ≡ length a
moves_length [] = refl
moves_length (s ∷ a) = omega (arith, moves_length a)

-- the moves before what is left are played, and there are so many
pub record Midway (table : TableForm) (all left : List Step) (place : ℕ) (x : Machine) : Type 0 where
  pub before : List Step
  pub parts : all ≡ before ++ left
  pub count : place ≡ length before
  pub table_is : shown x.table ≡ table
  pub world : World
  pub played : Played table (moves_of before) world
  pub is : IsWorld x world

pub begun : (table : TableForm) (all : List Step) (x : Machine) → shown x.table ≡ table → IsWorld x empty → Midway table all all 0 x
begun table all x t is = record { before = []; parts = refl; count = refl; table_is = t; world = empty; played = refl; is = is }

pub goes_on : (table : TableForm) (all left : List Step) (place : ℕ) (x y : Machine) (s : Step) → Midway table all (s ∷ left) place x → Tries (move_of s) true x y → Midway table all left (place + 1) y
goes_on table all left place x y s m tried =
    let r = tried.1 m.world m.is in
    let p : Plays table m.world (move_of s) r.0 = subst (λ (t : TableForm). Plays t m.world (move_of s) r.0) m.table_is r.1 in
    record {
      before = m.before ++ s ∷ [];
      parts = m.parts ∙ sym (assoc m.before s left);
      count = ap (λ (n : ℕ). n + 1) m.count ∙ sym (length_more m.before s);
      table_is = tried.0 ∙ m.table_is;
      world = r.0;
      played = subst (λ (ms : List Move). PlaysAll table empty ms r.0) (sym (moves_append m.before (s ∷ []))) (plays_more table (moves_of m.before) empty m.world r.0 (move_of s) m.played p);
      is = r.2;
    }

pub stops : (table : TableForm) (all left : List Step) (place : ℕ) (x y : Machine) (s : Step) → Midway table all (s ∷ left) place x → Tries (move_of s) false x y → StopsHere table (moves_of all) place
stops table all left place x y s m tried =
    let parts : moves_of all ≡ moves_of m.before ++ move_of s ∷ moves_of left = ap moves_of m.parts ∙ moves_append m.before (s ∷ left) in
    let count : place ≡ length (moves_of m.before) = m.count ∙ sym (moves_length m.before) in
    record {
      before = m.world;
      plays =
          subst (λ (ms : List Move). Played table ms m.world)
          (sym (ap (take place) parts ∙ ap (λ (n : ℕ). take n (moves_of m.before ++ move_of s ∷ moves_of left)) count ∙ take_front (moves_of m.before) (move_of s ∷ moves_of left))) m.played;
      move = move_of s;
      there = ap (λ (ms : List Move). slice_get ms place) parts ∙ ap (slice_get (moves_of m.before ++ move_of s ∷ moves_of left)) count ∙ get_behind (moves_of m.before) (move_of s) (moves_of left);
      cannot = λ may. tried m.world m.is (subst (λ (t : TableForm). MayCome t m.world (move_of s)) (sym m.table_is) may);
    }

-- where its condition doesn't hold a move leads to no world
pub leads_nowhere : (table : TableForm) (moves : List Move) (e : WorldFault) → OnlyWhereItMay → Stops table moves e → LeadsNowhere table moves e
leads_nowhere table moves (NotNow i) only s = record { before = s.before; plays = s.plays; move = s.move; there = s.there; not_now = λ v p. s.cannot (only table s.move s.before v p) }
leads_nowhere table moves Memory only s = tt

-- the next move is the last of those that are left, which come the last one first
pub next_left : (left rest : List Step) (s : Step) → left ≡ rest ++ s ∷ [] → reverse left ≡ s ∷ reverse rest
next_left left rest s e = ap reverse e ∙ reverse-append rest (s ∷ [])

-- what was played was among all
pub few_played : (table : TableForm) (all left : List Step) (place : ℕ) (x : Machine) (s : Step) → Midway table all (s ∷ left) place x → place < length all
few_played table all left place x s m = omega (arith, m.count, ap length m.parts, length-append m.before (s ∷ left))

-- nothing is left
pub none_left : (left : List Step) → length left ≡ 0 → reverse left ≡ []
none_left [] e = refl
none_left (s ∷ left) e = absurd (omega (arith, e))

pub all_played : (table : TableForm) (all : List Step) (place : ℕ) (x : Machine) → Midway table all [] place x → IsPlayed table (moves_of all) x
all_played table all place x m =
    (m.table_is, m.world, subst (λ (ms : List Step). Played table (moves_of ms) m.world) (sym (m.parts ∙ append-nil m.before)) m.played, m.is)

-- what is known of every played world holds of this one
pub record Laws : Type 0 where
  pub rows : AllCallsAreRows
  pub fates : AllFatesAreTrue
  pub told : AllFatesAreTold
  pub starts : AllStartsAreRows
  pub handles : AllHandlesAreKept

pub leads_so : (table : TableForm) (moves : List Move) (x : Machine) → FitsSyntax table.id → IsWholeTable table → Laws → IsPlayed table moves x → Leads table moves x
leads_so table moves x fits whole laws (same, w, played, is) =
    let small : length table.ops ≤ 2 ^ 16 = omega (arith, whole.is.few) in
    let legal : Legal (journal w.past) = subst (λ (p : List Entry). Legal (journal p)) is.past is.is_whole.sound.legal in
    record {
      world = w;
      played = played;
      is_world = is;
      rows = laws.rows table moves w fits small played;
      fates = laws.fates table moves w fits small played legal;
      told = laws.told table moves w fits small played;
      starts = laws.starts table moves w played;
      handles = laws.handles table moves w fits whole played legal;
    }
