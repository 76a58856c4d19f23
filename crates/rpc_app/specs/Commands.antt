-- What the program makes of a file.
use Rattle.std.specs.Prelude.{◌≡◌, ◌⊎◌, ℕ, ◌++◌, List, [], Option, codes, decimal}
use Rattle.replay.specs.Meaning.{IsScript, DepartsAt}
use Rattle.idl_tree.specs.Idl.{IsIdl}
use Rattle.idl_tree.specs.declared.declaration.Ast.{Ast}
use Rattle.idl_reader.specs.declared.fault.IdlFault.{IdlFault}
use Rattle.idl_reader.specs.declared.fault.IdlFault.TheVariants as faults
use Rattle.idl_reader.specs.Causes.{IsCause}
use Rattle.idl_rules.specs.Broken.{NoneBroken, IsLeastBreach}
use Rattle.idl_print.specs.Canonical.{canonical_text}
use Rattle.ndr_table.specs.Tables.{TableForm}
use Rattle.marshal_table.specs.Interfaces.{tabled}
use Rattle.rpc_app.specs.declared.command.Command.{Command}
use Rattle.rpc_app.specs.declared.command.Command.TheVariants.{Replay, Idl, Audit}
use Rattle.rpc_app.specs.Audits.{AreGood, IsAudited, HasBreach, DepartsAtJournalLine}
use Rattle.replay.specs.Meaning.{IsReplay}
use Rattle.replay_world.specs.declared.fault.ReplayFault.TheVariants as script_faults
use Rattle.replay.specs.Departures.{StopsAt, ServesAll}
use Rattle.replay.specs.Meaning.{service_of}

-- the longest file that it takes: 64 MiB of a script or of journals, 1 MiB of an interface text
abbrev pub limit : Command → ℕ
limit Replay = 67108864
limit Idl = 1048576
limit Audit = 67108864

-- and the longest script of calls
abbrev pub call_limit : ℕ
call_limit = 67108864

-- The text has a tree that breaks no rule, whose canonical text this is.
pub record IsPrinted (text printed : List ℕ) : Type 0 where
  pub tree : Ast
  pub idl : IsIdl text tree
  pub checked : NoneBroken tree
  pub printed_is : printed ≡ canonical_text tree

-- The text has a tree that breaks no rule, and this is the table of its interface.
pub record IsInterface (text : List ℕ) (table : TableForm) : Type 0 where
  pub tree : Ast
  pub idl : IsIdl text tree
  pub checked : NoneBroken tree
  pub table_is : table ≡ tabled tree

-- what a command makes of a file: a script is replayed and each of its connections served, with the built-in interfaces and
-- that of an echo, if there is one; of an interface text the canonical text is put on out, of journals that are legal and
-- settled the verdicts
abbrev pub Makes : Option TableForm → Command → List ℕ → List ℕ → List ℕ → Type 0
Makes echo Replay text out log = ServesAll (service_of echo) text out log
Makes echo Idl text out log = IsPrinted text out × (log ≡ [])
Makes echo Audit text out log = IsAudited text out × (log ≡ [])

-- the files of which it makes something
abbrev pub IsTextFor : Option TableForm → Command → List ℕ → Type 0
IsTextFor echo Replay text = IsScript (IsReplay (service_of echo)) text
IsTextFor echo Idl text = (tree : Ast) × IsIdl text tree × NoneBroken tree
IsTextFor echo Audit text = AreGood text

unfoldable pub line_refusal : ℕ → List ℕ
line_refusal n = codes "refused: script line " ++ decimal n ++ codes "\n"

unfoldable pub place_refusal : ℕ → ℕ → List ℕ
place_refusal number at = codes "refused: idl fault " ++ decimal number ++ codes " at " ++ decimal at ++ codes "\n"

unfoldable pub rule_refusal : ℕ → ℕ → List ℕ
rule_refusal number at = codes "refused: check fault " ++ decimal number ++ codes " at " ++ decimal at ++ codes "\n"

-- how a fault of an interface text is said, where it is one of the text
abbrev pub Says : IdlFault → List ℕ → Type 0
Says (faults.BadToken at) said = said ≡ place_refusal 1 at
Says (faults.Expected at) said = said ≡ place_refusal 2 at
Says (faults.TooLarge at) said = said ≡ place_refusal 3 at
Says (faults.TooDeep at) said = said ≡ place_refusal 4 at
Says faults.Memory said = ⊥

-- The script departs at a line, the first that does: what stands before it is played, and none that may come follows there.
pub record DepartsAtLine (echo : Option TableForm) (text said : List ℕ) : Type 0 where
  pub line : ℕ
  pub departs : DepartsAt (IsReplay (service_of echo)) line text
  pub stops : StopsAt (service_of echo) text (script_faults.Line line)
  pub said_is : said ≡ line_refusal line

-- The interface text departs from the grammar, and has no tree.
pub record DepartsAtPlace (text said : List ℕ) : Type 0 where
  pub fault : IdlFault
  pub cause : IsCause text fault
  pub treeless : (tree : Ast) → IsIdl text tree → ⊥
  pub said_is : Says fault said

-- The interface text has a tree that breaks a rule, first there.
pub record BreaksRule (text said : List ℕ) : Type 0 where
  pub tree : Ast
  pub idl : IsIdl text tree
  pub number : ℕ
  pub at : ℕ
  pub least : IsLeastBreach tree number at
  pub said_is : said ≡ rule_refusal number at

-- why an interface text is refused, and why journals are; and how that is said
abbrev pub RefusesInterface : List ℕ → List ℕ → Type 0
RefusesInterface text said = DepartsAtPlace text said ⊎ BreaksRule text said

abbrev pub RefusesJournals : List ℕ → List ℕ → Type 0
RefusesJournals text said = DepartsAtJournalLine text said ⊎ HasBreach text said

-- why a command refuses a file, and how that is said
abbrev pub Refuses : Option TableForm → Command → List ℕ → List ℕ → Type 0
Refuses echo Replay text said = DepartsAtLine echo text said
Refuses echo Idl text said = RefusesInterface text said
Refuses echo Audit text said = RefusesJournals text said
