use Rattle.replay.proofs.Read.{no_boot}
use Rattle.replay.proofs.reading.first_boot.Goals as goal

pub returns-in_default-boot_in-clause-boot : goal.returns-in_default-boot_in-clause-boot
returns-in_default-boot_in-clause-boot c =
    no_boot c.args.text.now c.in-Some.rest.now c.in-Some.line (rw c.in-Some.is at c.in_ok-line.ensures.line) (rw c.in_default-boot_in.is at c.boot_in.ensures)
