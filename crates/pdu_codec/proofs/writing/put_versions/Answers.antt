use Rattle.std.proofs.Common.{take}
use Rattle.std.specs.List.{flat_map}
use Rattle.std.proofs.lemmas.Result.{err_from_is_err_and}
use Rattle.pdu_codec.specs.Pdus.{version_octets}
use Rattle.pdu_codec.proofs.WritingLaws.{keeps_then}
use Rattle.pdu_codec.proofs.writing.put_versions.Goals as goal

pub returns-in_err-put_version-clause-err : goal.returns-in_err-put_version-clause-err
returns-in_err-put_version-clause-err c =
    let r = err_from_is_err_and c.from_residual.result c.from_residual.ensures.1 in
    let written = flat_map version_octets (take c.loop-version.version-index c.args.versions.now) in
    rw r.1 (keeps_then c.args.into.now.items written c.loop-version.into.items c.put_version.new.into.items c.loop-version.invariant c.in_err-put_version.ensures.err)
