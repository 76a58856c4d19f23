-- What `clap` is told, step by step.
use Rattle.std.proofs.Common.{◌≡◌, ◌∙◌, true, false, ap, ap₂}
use Rattle.clap.specs.Built.{AddsSubcommand}
use Rattle.clap.specs.Simple.{App, Shape, app_of, app_of_fields, on_top, shape_of, with_subcommand}
use Rattle.clap.specs.declared.builder.command.Command.{Command}
use Rattle.clap.specs.declared.builder.command.Command.TheViews.{out-Command}

abbrev without_program : Shape → Shape
without_program s = record s { no_binary_name = true }

abbrev without_help_flag : Shape → Shape
without_help_flag s = record s { disable_help_flag = true }

abbrev without_help_command : Shape → Shape
without_help_command s = record s { disable_help_subcommand = true }

abbrev with_command : Shape → Shape
with_command s = record s { subcommand_required = true }

pub no_program : (c d : Command) (a : App) → out-Command d ≡ record (out-Command c) { no_binary_name = true } → app_of c ≡ a → app_of d ≡ on_top without_program a
no_program c d a e p = ap app_of_fields e ∙ ap (on_top without_program) p

pub no_help_flag : (c d : Command) (a : App) → out-Command d ≡ record (out-Command c) { disable_help_flag = true } → app_of c ≡ a → app_of d ≡ on_top without_help_flag a
no_help_flag c d a e p = ap app_of_fields e ∙ ap (on_top without_help_flag) p

pub no_help_command : (c d : Command) (a : App) → out-Command d ≡ record (out-Command c) { disable_help_subcommand = true } → app_of c ≡ a → app_of d ≡ on_top without_help_command a
no_help_command c d a e p = ap app_of_fields e ∙ ap (on_top without_help_command) p

pub wants_command : (c d : Command) (a : App) → out-Command d ≡ record (out-Command c) { subcommand_required = true } → app_of c ≡ a → app_of d ≡ on_top with_command a
wants_command c d a e p = ap app_of_fields e ∙ ap (on_top with_command) p

pub one_more : (old sub new : Command) (a : App) (s : Shape) → AddsSubcommand old sub new → (out-Command sub).has_globals ≡ false → app_of old ≡ a → shape_of sub ≡ s → app_of new ≡ with_subcommand a s
one_more old sub new a s added local p q = added.shape local ∙ ap₂ with_subcommand p q
