use Rattle.std.proofs.Common.{length, refl}
use Rattle.std.proofs.lemmas.Option.{slice_get_past, slice_get_read}
use Rattle.ndr_agree.proofs.Items.{none_at, some_at}
use Rattle.ndr_write.proofs.pointers.value_at.Goals as goal

pub returns-in-None : goal.returns-in-None
returns-in-None c = none_at c.args.values.now c.args.index (slice_get_past c.args.values.now c.args.index c.in-None.ensures.lookup.3)

pub returns-in-Some : goal.returns-in-Some
returns-in-Some c =
    some_at c.args.values.now c.args.index c.in-Some.value.now
    (slice_get_read c.args.values.now (length c.args.values.now) c.args.index c.in-Some.value.now refl c.in-Some.ensures.lookup.3.0 c.in-Some.ensures.lookup.1)
