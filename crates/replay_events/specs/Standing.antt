-- Of which worlds a player has the groups, the desks, the connections, the counts and the text on out. What is printed can be
-- read again.
use Rattle.std.specs.Prelude.{◌≡◌, ◌≢◌, ℕ, Option, Some, None, List, ⊤}
use Rattle.std.specs.List.{find, AllByRecursion}
use Rattle.ndr_table.specs.Tables.{TableForm}
use Rattle.handle_model.specs.declared.entry.Slot.{Slot}
use Rattle.handle_model.specs.declared.reply.Reply.{Reply}
use Rattle.handle_model.specs.History.{History}
use Rattle.handle_model.specs.Journal as journals
use Rattle.handle_model.specs.Replies.{replies}
use Rattle.desk_service.specs.State.{Services}
use Rattle.replay_groups.specs.Rows.{AreIn}
use Rattle.replay_world.specs.declared.peer.Member.{Member}
use Rattle.replay_world.specs.declared.peer.Unanswered.TheVariants.{Call}
use Rattle.replay_world.specs.Worlds.{Peer, World, peer_at, journal}
use Rattle.replay_world.specs.Groups.{taken_with}
use Rattle.replay_world.specs.Printing.{out_text}
use Rattle.replay_world.specs.Counting.{CountAll}
use Rattle.replay_world.specs.Answered.{FitsPrinted}
use Rattle.replay_world.specs.Moments.{Coheres}
use Rattle.replay_events.specs.declared.played.Kept.{Kept}
use Rattle.replay_events.specs.declared.played.Played.{Played}
use Rattle.replay_events.specs.Showing.{Shows}
use Rattle.replay_events.specs.Tables.{has_name, ShowAll, ShowOthers}
pub use Rattle.replay_groups.specs.Holding.{Holds}
use Rattle.replay_groups.specs.Requests.{IsRequest}
use Rattle.replay_events.specs.declared.player.Player.{Player}

-- WHAT IS KEPT OF A CALL

-- a row has the cookies of the call's Take
abbrev pub KeepsRow : Option (List (Option ℕ)) → List Slot → Option (List (Option ℕ)) → Type 0
KeepsRow None slots taken = ⊤
KeepsRow (Some row) slots taken = (cookies : List (Option ℕ)) × (taken ≡ Some cookies) × AreIn row slots cookies

-- what the journal has of the call: what was asked, as a request of the interfaces; the cookies that it was taken with; and
-- whether it was orphaned
pub record KeepsCall (echo : Option TableForm) (j : History) (k : ℕ) (kept : Kept) : Type 0 where
  pub asked : journals.asked j k ≡ Some kept.asked
  pub is_request : IsRequest echo kept.asked
  pub cookies : KeepsRow kept.cookies kept.asked.slots (taken_with j.past k)
  pub orphaned : kept.orphaned ≡ journals.is_orphaned j k

-- what is kept beside a connection is of its call
abbrev pub Minds : Option TableForm → World Services → Peer → Option Kept → Type 0
Minds echo w p call =
    (m : Member) (k : ℕ) (kept : Kept) → p.member ≡ Some m → p.unanswered ≡ Call k → call ≡ Some kept → KeepsCall echo (journal w m.group) k kept

-- ALL CONNECTIONS ARE IN THEIR PLACE

pub record Stands (echo : Option TableForm) (x : Player) (w : World Services) : Type 0 where
  pub holds : Holds echo x.realm w
  pub coheres : Coheres w
  pub shown : ShowAll x.peers w.peers
  pub minds : (c : ℕ) (p : Peer) (t : Played) → peer_at w c ≡ Some p → find (has_name c) x.peers ≡ Some t → Minds echo w p t.call
  pub totals : CountAll w.peers x.totals
  pub printed : x.out.items ≡ out_text w.out
  pub fit : AllByRecursion FitsPrinted w.out

-- ONE CONNECTION IS IN HAND

-- what the player knows to be replied to its call
abbrev pub IsTold : World Services → Peer → Option Reply → Type 0
IsTold w p told =
    (reply : Reply) (m : Member) (k : ℕ) → told ≡ Some reply → p.member ≡ Some m → p.unanswered ≡ Call k → replies (journal w m.group) k ≡ reply

-- It was taken out, and is that connection of the world.
pub record Handles (echo : Option TableForm) (x : Player) (t : Played) (w : World Services) : Type 0 where
  pub holds : Holds echo x.realm w
  pub coheres : Coheres w
  pub peer : Peer
  pub there : peer_at w t.name ≡ Some peer
  pub shows : Shows t peer
  pub minds : Minds echo w peer t.call
  pub told : IsTold w peer x.told
  pub others : ShowOthers t.name x.peers w.peers
  pub minds_others : (d : ℕ) (p : Peer) (s : Played) → d ≢ t.name → peer_at w d ≡ Some p → find (has_name d) x.peers ≡ Some s → Minds echo w p s.call
  pub totals : CountAll w.peers x.totals
  pub printed : x.out.items ≡ out_text w.out
  pub fit : AllByRecursion FitsPrinted w.out
