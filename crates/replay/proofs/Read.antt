-- What was read and played of a text, and where it departs.
use Rattle.std.proofs.Common.{◌≡◌, ◌≢◌, ◌==◌, true, false, ℕ, suc, ◌+◌, ◌^◌, ◌<◌, inl, inr, Option, List, [], ◌∷◌, ◌++◌, length, refl, ap, sym, ◌∙◌, subst, arith, append_assoc, length-append, append-nil}
use Rattle.std.proofs.lemmas.Bool.{false≢true}
use Rattle.ndr_table.specs.Tables.{TableForm}
use Rattle.desk_service.specs.State.{Services}
use Rattle.replay_script.specs.declared.line.Line.{Line}
use Rattle.replay_script.specs.declared.line.Line.TheVariants as lines
use Rattle.replay_script.specs.Lines.{FitLines, FitsLine, line_text, text_of_lines, BeginsWith, BeginsWithNoLine}
use Rattle.replay_script.specs.Scripts.{DepartsAt, IsFront}
use Rattle.replay_script.proofs.Fronts.{first_line_unique, not_empty}
use Rattle.replay_script.proofs.Departures.{text-more, shorter, fit-push, departs}
use Rattle.replay_world.proofs.Coming.{only_these}
use Rattle.replay_world.specs.declared.fault.ReplayFault.{ReplayFault}
use Rattle.replay_world.specs.declared.fault.ReplayFault.TheVariants as faults
use Rattle.replay_world.specs.Services.{Service}
use Rattle.replay_world.specs.Worlds.{World, booted}
use Rattle.replay_world.specs.Plays.{MayCome}
use Rattle.replay_world.specs.Replays.{Leads, PlaysTo, IsReplay, IsCause}
use Rattle.replay_groups.specs.Service.{service_of, IsEcho}
use Rattle.replay_groups.proofs.Determined.{determined}
use Rattle.replay_events.specs.declared.player.Player.{Player}
use Rattle.replay_events.specs.Standing.{Stands}
use Rattle.replay.specs.Lines.{HasWorld, PlaysLine}
use Rattle.replay.specs.Reading.{HasNoBoot, Continues, Stops, LeadsTo, Reads, Played, GoesNowhere, Halts}
use Rattle.replay.specs.Departures.{BeginsWithNoBoot, HaltsBehind, StopsAt}
use Rattle.replay.proofs.Once.{leads_more, leads_rest}

-- ---- lines in a row

-- where the player stands for a world, and so for one behind lines
pub still_world : (old new : Player) (ls : List Line) → LeadsTo old ls new → HasWorld old → HasWorld new
still_world old new ls l h = let t = l h.0 h.1 h.2 in (h.0, t.0, t.2)

-- so many lines were read, and so many octets are left at most
pub record IsRead (old : Player) (text rest : List ℕ) (count : ℕ) (new : Player) : Type 0 where
  pub reads : Reads old text rest count new
  pub world : HasWorld new
  pub within : count + length rest < length text + 1

pub nothing_read : (p : Player) (text : List ℕ) → HasWorld p → IsRead p text text 0 p
unfolding text_of_lines
nothing_read p text h = record {
  reads = record { lines = []; fit = tt; counted = refl; written = refl; leads = λ echo w s. (w, refl, s) };
  world = h;
  within = omega arith;
}

one_more : (p q r : Player) (ls : List Line) (line : Line) → LeadsTo p ls q → PlaysLine q line r → LeadsTo p (ls ++ line ∷ []) r
one_more p q r ls line l d echo w s =
    let t = l echo w s in
    let u = d echo t.0 t.2 in
    (u.0, leads_more (service_of echo) w ls t.0 (line ∷ []) u.0 t.1 (u.0, u.1, refl), u.2)

pub continued : (p q r : Player) (text rest after : List ℕ) (n : ℕ) → IsRead p text rest n q → Continues q rest after r → IsRead p text after (n + 1) r
continued p q r text rest after n h c =
    let less = shorter c.line rest after c.begins in
    let before = h.within in
    let ls = h.reads.lines in
    let leads = one_more p q r ls c.line h.reads.leads c.plays in
    record {
      reads = record {
        lines = ls ++ c.line ∷ [];
        fit = fit-push ls c.line h.reads.fit c.begins.0;
        counted = length-append ls (c.line ∷ []) ∙ ap (λ x. x + 1) h.reads.counted;
        written = text-more ls c.line text rest after h.reads.written c.begins;
        leads = leads;
      };
      world = let t = c.plays h.world.0 h.world.1 h.world.2 in (h.world.0, t.0, t.2);
      within = omega arith;
    }

pub continued_shorter : (q r : Player) (rest after : List ℕ) → Continues q rest after r → length after < length rest
continued_shorter q r rest after c = shorter c.line rest after c.begins

-- ---- where it ends

pub all_played : (p q : Player) (text rest : List ℕ) (n : ℕ) → IsRead p text rest n q → rest ≡ [] → Played p text q
all_played p q text rest n h e = (n, subst (λ (r : List ℕ). Reads p text r n q) e h.reads)

pub halted : (p q : Player) (text rest : List ℕ) (n : ℕ) → IsRead p text rest n q → BeginsWithNoLine rest → (rest ≢ []) → Halts p text (faults.Line (n + 2))
halted p q text rest n h none some = (n, refl, record { rest = rest; player = q; reads = h.reads; nowhere = inl (none, some) })

pub stopped : (p q : Player) (text rest : List ℕ) (n : ℕ) (e : ReplayFault) → IsRead p text rest n q → Stops q rest (n + 2) e → Halts p text e
stopped p q text rest n (faults.Line m) h s = (n, s.0, record { rest = rest; player = q; reads = h.reads; nowhere = inr s.1 })
stopped p q text rest n faults.Memory h s = tt

-- ---- where the text departs

front_of : (service : Service) (word : ℕ) (ls : List Line) (v : World service.State) → FitsLine (lines.Boot word) → FitLines ls → Leads service (booted word service.start) ls v → IsFront (IsReplay service) (lines.Boot word ∷ ls)
front_of service word ls v f fits l = record {
  more = [];
  fits = subst FitLines (sym (append-nil (lines.Boot word ∷ ls))) (f, fits);
  script = (v, subst (λ (x : List Line). PlaysTo service x v) (sym (append-nil (lines.Boot word ∷ ls))) l);
}

boot_alone : (service : Service) (line : Line) (more : List Line) (last : World service.State) → PlaysTo service (line ∷ more) last → (word : ℕ) × (line ≡ lines.Boot word)
boot_alone service (lines.Boot word) more last h = (word, refl)
boot_alone service (lines.Open c) more last h = absurd h
boot_alone service (lines.Send c octets) more last h = absurd h
boot_alone service (lines.Run c) more last h = absurd h
boot_alone service (lines.Finish c) more last h = absurd h
boot_alone service (lines.Lose c) more last h = absurd h

nothing_written : (text : List ℕ) → text ≡ text_of_lines [] ++ text
unfolding text_of_lines
nothing_written text = refl

-- the first line is none with a boot word
pub departs_first : (service : Service) (text : List ℕ) → BeginsWithNoBoot text → DepartsAt (IsReplay service) 1 text
departs_first service text none =
    departs (IsReplay service) [] text text
    (record { more = lines.Boot 0 ∷ []; fits = (let e : 0 < 2 ^ 64 = omega arith in e, tt); script = (booted 0 service.start, refl) }) (nothing_written text)
    (λ line after b front. let t = boot_alone service line front.more front.script.0 front.script.1 in none t.0 after (subst (λ (l : Line). BeginsWith l after text) t.1 b)) (λ h e. absurd h.1)

pub stops_first : (service : Service) (text : List ℕ) → BeginsWithNoBoot text → StopsAt service text (faults.Line 1)
stops_first service text none = inl (refl, none)

module _ (echo : Option TableForm) (is_echo : IsEcho echo) (word : ℕ) (text first : List ℕ) (boot : BeginsWith (lines.Boot word) first text) (p : Player) (stands : Stands echo p (booted word (service_of echo).start)) where
  written_with : (ls : List Line) (rest : List ℕ) → first ≡ text_of_lines ls ++ rest → text ≡ text_of_lines (lines.Boot word ∷ ls) ++ rest
  unfolding text_of_lines
  written_with ls rest e = boot.1 ∙ ap (λ (x : List ℕ). line_text (lines.Boot word) ++ x) e ∙ sym (append_assoc (line_text (lines.Boot word)) (text_of_lines ls) rest)

  -- what further lines lead to, leads on from there
  further : (ls : List Line) (v : World Services) (line : Line) (front : IsFront (IsReplay (service_of echo)) ((lines.Boot word ∷ ls) ++ line ∷ [])) → Leads (service_of echo) (booted word (service_of echo).start) ls v → MayCome (service_of echo) v line
  further ls v line front l =
      let service = service_of echo in
      let whole : Leads service (booted word service.start) (ls ++ (line ∷ front.more)) front.script.0 =
      subst (λ (x : List Line). Leads service (booted word service.start) x front.script.0) (append_assoc ls (line ∷ []) front.more) front.script.1 in
      let left = leads_rest service (determined echo is_echo) (booted word service.start) ls v (line ∷ front.more) front.script.0 l whole in
      only_these service v left.0 line left.1

  at_count : (n m : ℕ) → n ≡ m → DepartsAt (IsReplay (service_of echo)) (suc n + 1) text → DepartsAt (IsReplay (service_of echo)) (m + 2) text
  at_count n m e d = subst (λ (x : ℕ). DepartsAt (IsReplay (service_of echo)) x text) (omega (arith, e)) d

  departs_nowhere : (count : ℕ) (rest : List ℕ) (q : Player) (r : Reads p first rest count q) → GoesNowhere q rest → DepartsAt (IsReplay (service_of echo)) (count + 2) text
  departs_nowhere count rest q r g =
      let service = service_of echo in
      let t = r.leads echo (booted word service.start) stands in
      let front = front_of service word r.lines t.0 boot.0 r.fit t.1 in
      at_count (length r.lines) count r.counted
      (elim g [
        | inl none ↦ departs (IsReplay service) (lines.Boot word ∷ r.lines) text rest front (written_with r.lines rest r.written)
            (λ line after b f. none.0 line after b.0 b.1) (λ h e. none.1 e)
        | inr bar ↦ departs (IsReplay service) (lines.Boot word ∷ r.lines) text rest front (written_with r.lines rest r.written)
            (λ line after b f.
            let same = first_line_unique line bar.line after bar.rest b.0 bar.begins.0 (sym b.1 ∙ bar.begins.1) in
            bar.bars echo t.0 t.2 (subst (λ (l : Line). MayCome service t.0 l) same.0 (further r.lines t.0 line f t.1)))
            (λ h e. not_empty bar.line bar.rest (sym bar.begins.1 ∙ e))
      ])

  pub departs_there : (e : ReplayFault) → Halts p first e → IsCause (service_of echo) text e
  departs_there (faults.Line n) h =
      subst (λ (x : ℕ). DepartsAt (IsReplay (service_of echo)) x text) (sym h.1) (departs_nowhere h.0 h.2.rest h.2.player h.2.reads h.2.nowhere)
  departs_there faults.Memory h = tt

  halts_behind : (count n : ℕ) (rest : List ℕ) (q : Player) (r : Reads p first rest count q) → n ≡ count + 2 → GoesNowhere q rest → HaltsBehind (service_of echo) text n
  halts_behind count n rest q r e g =
      let t = r.leads echo (booted word (service_of echo).start) stands in
      record {
        lines = lines.Boot word ∷ r.lines;
        fit = (boot.0, r.fit);
        counted = e ∙ ap (λ (x : ℕ). x + 2) (sym r.counted) ∙ omega arith;
        rest = rest;
        written = written_with r.lines rest r.written;
        world = t.0;
        plays = t.1;
        nowhere = elim g [
          | inl none ↦ inl none
          | inr bar ↦ inr (record { line = bar.line; rest = bar.rest; begins = bar.begins; bars = bar.bars echo t.0 t.2 })
        ];
      }

  pub stops_there : (e : ReplayFault) → Halts p first e → StopsAt (service_of echo) text e
  stops_there (faults.Line n) h = inr (halts_behind h.0 n h.2.rest h.2.player h.2.reads h.1 h.2.nowhere)
  stops_there faults.Memory h = tt

-- ---- the first line

pub no_line_no_boot : (text : List ℕ) → BeginsWithNoLine text → BeginsWithNoBoot text
no_line_no_boot text none word rest b = none (lines.Boot word) rest b.0 b.1

pub no_boot : (text rest : List ℕ) (line : Line) → BeginsWith line rest text → HasNoBoot line → BeginsWithNoBoot text
no_boot text rest line b other word after k =
    other word (first_line_unique line (lines.Boot word) rest after b.0 k.0 (sym b.1 ∙ k.1)).0

pub still_played : (p q : Player) (text : List ℕ) → HasWorld p → Played p text q → HasWorld q
still_played p q text h t = still_world p q t.1.lines t.1.leads h

-- what was tested isn't empty
pub some_left : (rest : List ℕ) → false ≡ (length rest == 0) → rest ≢ []
some_left rest f e = let none : (length rest == 0) ≡ true = ap (λ t. length t == 0) e in false≢true (f ∙ none)
