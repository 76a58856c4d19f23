-- What a whole text leaves.
use Rattle.std.proofs.Common.{◌≡◌, ℕ, Option, List, [], ◌∷◌, ◌++◌, ap, ◌∙◌, append-nil}
use Rattle.ndr_table.specs.Tables.{TableForm}
use Rattle.replay_script.specs.declared.line.Line.{Line}
use Rattle.replay_script.specs.declared.line.Line.TheVariants as lines
use Rattle.replay_script.specs.Lines.{line_text, text_of_lines, BeginsWith}
use Rattle.replay_world.specs.Worlds.{booted}
use Rattle.replay_world.specs.Replays.{Replays}
use Rattle.replay_groups.specs.Service.{service_of}
use Rattle.replay_events.specs.declared.player.Player.{Player}
use Rattle.replay_events.specs.Standing.{Stands}
use Rattle.replay.specs.Laws.{ReplaysServeAll, ServesAll}
use Rattle.replay.specs.Closing.{IsLeft}
use Rattle.replay.specs.Reading.{Played}

whole_text : (word : ℕ) (text first : List ℕ) (ls : List Line) → BeginsWith (lines.Boot word) first text → first ≡ text_of_lines ls ++ [] → text ≡ text_of_lines (lines.Boot word ∷ ls)
unfolding text_of_lines
whole_text word text first ls b e = b.1 ∙ ap (λ (x : List ℕ). line_text (lines.Boot word) ++ x) (e ∙ append-nil (text_of_lines ls))

-- and each of its connections is served
pub served : (echo : Option TableForm) (word : ℕ) (text first : List ℕ) (p q : Player) (out log : List ℕ) → BeginsWith (lines.Boot word) first text → Stands echo p (booted word (service_of echo).start)
    → Played p first q → IsLeft q out log → ReplaysServeAll (service_of echo) → ServesAll (service_of echo) text out log
served echo word text first p q out log b s h l all =
    let r = h.1 in
    let t = r.leads echo (booted word (service_of echo).start) s in
    let e = l echo t.0 t.2 in
    all text out log (record {
      lines = lines.Boot word ∷ r.lines;
      fits = (b.0, r.fit);
      written = whole_text word text first r.lines b r.written;
      end = e.end;
      ends = record { last = t.0; plays = t.1; closes = e.closes };
      printed = e.printed;
      logged = e.logged;
      sound = e.sound;
    }) e.whole

pub replayed : (echo : Option TableForm) (word : ℕ) (text first : List ℕ) (p q : Player) (out log : List ℕ) → BeginsWith (lines.Boot word) first text → Stands echo p (booted word (service_of echo).start)
    → Played p first q → IsLeft q out log → Replays (service_of echo) text out log
replayed echo word text first p q out log b s h l =
    let r = h.1 in
    let t = r.leads echo (booted word (service_of echo).start) s in
    let e = l echo t.0 t.2 in
    record {
      lines = lines.Boot word ∷ r.lines;
      fits = (b.0, r.fit);
      written = whole_text word text first r.lines b r.written;
      end = e.end;
      ends = record { last = t.0; plays = t.1; closes = e.closes };
      printed = e.printed;
      logged = e.logged;
      sound = e.sound;
    }
