-- What is made of a file, and why nothing is.
use Rattle.std.proofs.Common.{◌≡◌, ℕ, List, [], inl, inr, ◌⊎◌, sym, subst, ap, ◌∙◌, Option, Result, Ok, Err, IfOk}
use Rattle.idl_tree.specs.Idl.{IsIdl}
use Rattle.idl_tree.specs.declared.declaration.Ast.{Ast}
use Rattle.idl_reader.specs.declared.fault.IdlFault.{IdlFault}
use Rattle.idl_reader.specs.declared.fault.IdlFault.TheVariants as faults
use Rattle.idl_reader.specs.Causes.{IsCause}
use Rattle.idl_forms.specs.Forms.{TreeForm, tree_form, Same}
use Rattle.idl_forms.proofs.Top.{text_one}
use Rattle.idl_rules.specs.Broken.{NoneBroken}
use Rattle.idl_rules.proofs.Twins.{broken_too}
use Rattle.idl_check.specs.declared.fault.CheckFault.{CheckFault}
use Rattle.idl_check.specs.declared.fault.CheckFault.TheVariants.{Rule}
use Rattle.idl_check.specs.Firsts.{IsCause as IsBreach}
use Rattle.idl_print.specs.Canonical.{canonical_text}
use Rattle.ndr_table.specs.Tables.{TableForm}
use Rattle.marshal_table.specs.Interfaces.{table_of, tabled}
use Rattle.rpc_app.specs.declared.command.Command.{Command}
use Rattle.rpc_app.specs.declared.command.Command.TheVariants.{Replay, Idl, Audit}
use Rattle.rpc_app.specs.Audits.{IsAudited}
use Rattle.replay.specs.declared.replaying.Replayed.{Replayed}
use Rattle.rpc_app.specs.declared.make.MakeFault.{MakeFault}
use Rattle.rpc_app.specs.Commands.{Makes, IsTextFor, RefusesInterface, Refuses, Says, rule_refusal, IsPrinted, IsInterface}
use Rattle.rpc_app.proofs.Audited.{good_text, no_journals, no_breach}

-- a fault of the reader, as it is said
pub departs : (text said : List ℕ) (fault : IdlFault) → IsCause text fault → (fault ≡ faults.Memory) ⊎ ((tree : Ast) → IsIdl text tree → ⊥) → Says fault said → RefusesInterface text said
departs text said fault cause (inl e) says = absurd (subst (λ f. Says f said) e says)
departs text said fault cause (inr none) says = inl (record { fault = fault; cause = cause; treeless = none; said_is = says })

-- a breach, as it is said
pub breaks : (text said : List ℕ) (tree : Ast) (fault : CheckFault) (number at : ℕ) → fault ≡ Rule number at → IsIdl text tree → IsBreach tree fault → said ≡ rule_refusal number at
    → RefusesInterface text said
breaks text said tree fault number at is idl cause e =
    inr (record { tree = tree; idl = idl; number = number; at = at; least = subst (IsBreach tree) is cause; said_is = e })

-- a tree, as it is printed
pub prints : (text printed : List ℕ) (tree : Ast) → IsIdl text tree → NoneBroken tree → printed ≡ canonical_text tree → IsPrinted text printed
prints text printed tree idl checked e = record { tree = tree; idl = idl; checked = checked; printed_is = e }

-- the table of a tree that is the same
pub tables : (text : List ℕ) (tree checked : Ast) (table : TableForm) → IsIdl text tree → NoneBroken tree → Same checked tree → table ≡ tabled checked → IsInterface text table
tables text tree checked table idl none same e = record { tree = tree; idl = idl; checked = none; table_is = e ∙ ap table_of same }

-- a text has one interface
pub one_interface : (text : List ℕ) (a b : TableForm) → IsInterface text a → IsInterface text b → a ≡ b
one_interface text a b i j = i.table_is ∙ ap table_of (text_one text i.tree j.tree i.idl j.idl) ∙ sym j.table_is

-- the file of which something is made is one that the command takes
pub made_of_its_texts : (echo : Option TableForm) (command : Command) (text out log : List ℕ) → Makes echo command text out log → IsTextFor echo command text
made_of_its_texts echo Replay text out log m = record { lines = m.replays.lines; fits = m.replays.fits; script = (m.replays.ends.last, m.replays.ends.plays); text = m.replays.written }
made_of_its_texts echo Idl text out log m = (m.0.tree, m.0.idl, m.0.checked)
made_of_its_texts echo Audit text out log m = good_text text out m.0

-- and one that it refuses is none
pub not_both : (echo : Option TableForm) (command : Command) (text said : List ℕ) → Refuses echo command text said → IsTextFor echo command text → ⊥
not_both echo Replay text said d w = d.departs.whole w
not_both echo Idl text said (inl d) w = d.treeless w.0 w.1
not_both echo Idl text said (inr b) w = w.2.none b.number b.at (broken_too b.tree w.0 (text_one text b.tree w.0 b.idl w.1) b.number b.at b.least.broken)
not_both echo Audit text said (inl d) w = no_journals text said d w
not_both echo Audit text said (inr b) w = no_breach text said b w

-- what the commands on one file make, whatever is served

printed_of : (echo : Option TableForm) (text : List ℕ) (result : Result Replayed MakeFault) → IfOk result (λ r. IsPrinted text r.out) → IfOk result (λ r. r.log ≡ []) → IfOk result (λ r. Makes echo Idl text r.out r.log)
printed_of echo text (Ok r) p l = (p, l)
printed_of echo text (Err e) p l = tt

pub printed_made : (echo : Option TableForm) (command : Command) (text : List ℕ) (result : Result Replayed MakeFault) → command ≡ Idl → IfOk result (λ r. IsPrinted text r.out) → IfOk result (λ r. r.log ≡ [])
    → IfOk result (λ r. Makes echo command text r.out r.log)
printed_made echo command text result e p l = subst (λ (c : Command). IfOk result (λ r. Makes echo c text r.out r.log)) (sym e) (printed_of echo text result p l)

audited_of : (echo : Option TableForm) (text : List ℕ) (result : Result Replayed MakeFault) → IfOk result (λ r. IsAudited text r.out) → IfOk result (λ r. r.log ≡ []) → IfOk result (λ r. Makes echo Audit text r.out r.log)
audited_of echo text (Ok r) p l = (p, l)
audited_of echo text (Err e) p l = tt

pub audited_made : (echo : Option TableForm) (command : Command) (text : List ℕ) (result : Result Replayed MakeFault) → command ≡ Audit → IfOk result (λ r. IsAudited text r.out) → IfOk result (λ r. r.log ≡ [])
    → IfOk result (λ r. Makes echo command text r.out r.log)
audited_made echo command text result e p l = subst (λ (c : Command). IfOk result (λ r. Makes echo c text r.out r.log)) (sym e) (audited_of echo text result p l)
