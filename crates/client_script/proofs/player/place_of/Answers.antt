use Rattle.std.proofs.Common.{sym}
use Rattle.client_script.proofs.Index.{no_place, none_at, not_bound, bound_at}
use Rattle.client_script.proofs.player.place_of.Goals as goal

pub returns-in_default : goal.returns-in_default
returns-in_default g c = no_place c.args.places.now c.args.channels.now c.args.name c.requires (sym (rw c.in_default.is at c.get.ensures.value))

pub returns-in_default-channel_at : goal.returns-in_default-channel_at
returns-in_default-channel_at g c =
    none_at c.args.places.now c.args.channels.now c.args.name c.in-Some.at.now c.requires (sym (rw c.in-Some.is at c.get.ensures.value)) (sym (rw c.in_default-channel_at.is at c.channel_at.ensures))

pub returns-then-is_bound_as : goal.returns-then-is_bound_as
returns-then-is_bound_as g c = bound_at c.args.channels.now c.args.name c.in-Some.at.now c.in-Some-channel_at.channel.now (sym (rw c.in-Some-channel_at.is at c.channel_at.ensures)) c.if-is_bound_as.ensures

pub returns-else-is_bound_as : goal.returns-else-is_bound_as
returns-else-is_bound_as g c =
    not_bound c.args.places.now c.args.channels.now c.args.name c.in-Some.at.now c.requires (sym (rw c.in-Some.is at c.get.ensures.value)) c.in-Some-channel_at.channel.now (sym (rw c.in-Some-channel_at.is at c.channel_at.ensures))
    c.if-is_bound_as.ensures
