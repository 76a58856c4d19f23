use Rattle.std.proofs.Common.{◌∙◌, map, string_bytes}
use Rattle.clap.specs.Simple.{app_of}
use Rattle.app_words.proofs.Answered.{refused, taken}
use Rattle.app_words.proofs.Found.{all_utf8}
use Rattle.app_words.proofs.words.asked.Goals as goal

pub returns-in-Ok-clause-asked : goal.returns-in-Ok-clause-asked
returns-in-Ok-clause-asked c =
    let found = c.found.ensures in
    (taken c.in-Ok.matches c.found.result (record { replays = found.replay; idls = found.idl; audits = found.audit; loads = found.load; serves = found.serve; calls = found.call }) (map string_bytes c.args.words.now)
    (app_of c.in_ok-program.field-0) (all_utf8 c.args.words.now) c.in_ok-program.ensures.app c.in-Ok.ensures.matches c.in-Ok.ensures.kinds).asked

pub returns-in-Ok-clause-alone : goal.returns-in-Ok-clause-alone
returns-in-Ok-clause-alone c =
    let found = c.found.ensures in
    (taken c.in-Ok.matches c.found.result (record { replays = found.replay; idls = found.idl; audits = found.audit; loads = found.load; serves = found.serve; calls = found.call }) (map string_bytes c.args.words.now)
    (app_of c.in_ok-program.field-0) (all_utf8 c.args.words.now) c.in_ok-program.ensures.app c.in-Ok.ensures.matches c.in-Ok.ensures.kinds).alone

pub returns-in-Ok-clause-nothing : goal.returns-in-Ok-clause-nothing
returns-in-Ok-clause-nothing c =
    let found = c.found.ensures in
    (taken c.in-Ok.matches c.found.result (record { replays = found.replay; idls = found.idl; audits = found.audit; loads = found.load; serves = found.serve; calls = found.call }) (map string_bytes c.args.words.now)
    (app_of c.in_ok-program.field-0) (all_utf8 c.args.words.now) c.in_ok-program.ensures.app c.in-Ok.ensures.matches c.in-Ok.ensures.kinds).nothing

pub returns : goal.returns
returns c = record {
  asked = tt;
  alone = tt;
  nothing = refused (map string_bytes c.args.words.now) (app_of c.in_ok-program.field-0) c.in-Err.error (all_utf8 c.args.words.now)
      c.in_ok-program.ensures.app c.in-Err.ensures.kinds (λ e. c.in_default.not-OutOfMemory (c.kind.ensures ∙ e));
}
