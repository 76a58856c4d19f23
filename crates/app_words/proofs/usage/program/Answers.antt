use Rattle.std.proofs.lemmas.Result.{IfOk-weaker}
use Rattle.app_words.proofs.Told.{no_program, no_help_flag, no_help_command, wants_command, one_more}
use Rattle.app_words.proofs.usage.program.Goals as goal

pub returns : goal.returns
returns c =
    let bare = wants_command c.disable_help_subcommand.result c.subcommand_required.result _ c.subcommand_required.ensures
    (no_help_command c.disable_help_flag.result c.disable_help_subcommand.result _ c.disable_help_subcommand.ensures
    (no_help_flag c.no_binary_name.result c.disable_help_flag.result _ c.disable_help_flag.ensures
    (no_program c.new.result c.no_binary_name.result _ c.no_binary_name.ensures c.new.ensures.app))) in
    let one = one_more c.subcommand_required.result c.in_ok-replay.field-0 c.in_ok-subcommand.field-0 _ _ c.in_ok-subcommand.ensures c.in_ok-replay.ensures.local bare c.in_ok-replay.ensures.shape in
    let two = one_more c.in_ok-subcommand.field-0 c.in_ok-of_file.field-0 c.in_ok-subcommand-2.field-0 _ _ c.in_ok-subcommand-2.ensures c.in_ok-of_file.ensures.local one c.in_ok-of_file.ensures.shape in
    let three = one_more c.in_ok-subcommand-2.field-0 c.in_ok-of_file-2.field-0 c.in_ok-subcommand-3.field-0 _ _ c.in_ok-subcommand-3.ensures c.in_ok-of_file-2.ensures.local two c.in_ok-of_file-2.ensures.shape in
    let four = one_more c.in_ok-subcommand-3.field-0 c.in_ok-load.field-0 c.in_ok-subcommand-4.field-0 _ _ c.in_ok-subcommand-4.ensures c.in_ok-load.ensures.local three c.in_ok-load.ensures.shape in
    let five = one_more c.in_ok-subcommand-4.field-0 c.in_ok-serve.field-0 c.in_ok-subcommand-5.field-0 _ _ c.in_ok-subcommand-5.ensures c.in_ok-serve.ensures.local four c.in_ok-serve.ensures.shape in
    record { app = IfOk-weaker c.subcommand-6.result _ _ (λ d added. one_more c.in_ok-subcommand-5.field-0 c.in_ok-call.field-0 d _ _ added c.in_ok-call.ensures.local five c.in_ok-call.ensures.shape) c.subcommand-6.ensures }
