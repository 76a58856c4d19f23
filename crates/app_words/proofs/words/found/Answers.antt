use Rattle.std.proofs.Common.{◌∙◌, ap, ap₂, subst, subst₂, codes, option_map}
use Rattle.app_words.specs.Asks.{ReadsLine, call_line, file_line, load_line, replay_line, serve_line}
use Rattle.app_words.proofs.Found.{none_met, same_text, value_met}
use Rattle.app_words.proofs.words.found.Goals as goal

pub returns-in_err-file-in-replay-clause-replay : goal.returns-in_err-file-in-replay-clause-replay
returns-in_err-file-in-replay-clause-replay c = λ file rows met row.
    absurd (none_met file (c.in_err-file-in-replay.ensures ∙ value_met c.in_ok-name.arguments.now rows (codes "FILE") (c.in_ok-name.ensures.rows ∙ ap (option_map (λ p. p.1)) met) ∙ row))

pub returns-in_err-file-in-idl-clause-idl : goal.returns-in_err-file-in-idl-clause-idl
returns-in_err-file-in-idl-clause-idl c = λ file rows met row.
    absurd (none_met file (c.in_err-file-in-idl.ensures ∙ value_met c.in_ok-name.arguments.now rows (codes "FILE") (c.in_ok-name.ensures.rows ∙ ap (option_map (λ p. p.1)) met) ∙ row))

pub returns-in_err-file-in-audit-clause-audit : goal.returns-in_err-file-in-audit-clause-audit
returns-in_err-file-in-audit-clause-audit c = λ file rows met row.
    absurd (none_met file (c.in_err-file-in-audit.ensures ∙ value_met c.in_ok-name.arguments.now rows (codes "FILE") (c.in_ok-name.ensures.rows ∙ ap (option_map (λ p. p.1)) met) ∙ row))

pub returns-in_err-number-in-load-clause-load : goal.returns-in_err-number-in-load-clause-load
returns-in_err-number-in-load-clause-load c = λ number steps rows met row also.
    absurd (none_met number (c.in_err-number-in-load.ensures ∙ value_met c.in_ok-name.arguments.now rows (codes "NUMBER") (c.in_ok-name.ensures.rows ∙ ap (option_map (λ p. p.1)) met) ∙ row))

pub returns-in_err-steps-in-load-clause-load : goal.returns-in_err-steps-in-load-clause-load
returns-in_err-steps-in-load-clause-load c = λ number steps rows met row also.
    absurd (none_met steps (c.in_err-steps-in-load.ensures ∙ value_met c.in_ok-name.arguments.now rows (codes "N") (c.in_ok-name.ensures.rows ∙ ap (option_map (λ p. p.1)) met) ∙ also))

pub returns-in_ok-file-in-replay-clause-replay : goal.returns-in_ok-file-in-replay-clause-replay
returns-in_ok-file-in-replay-clause-replay c = λ file rows met row.
    let rows_are = c.in_ok-name.ensures.rows ∙ ap (option_map (λ p. p.1)) met in (
      ap₂ replay_line
          (same_text c.in_ok-file-in-replay.file.now file (c.in_ok-file-in-replay.ensures ∙ value_met c.in_ok-name.arguments.now rows (codes "FILE") rows_are ∙ row))
          (c.get_str-idl.ensures ∙ value_met c.in_ok-name.arguments.now rows (codes "idl") rows_are),
      tt,
    )

pub returns-in_ok-file-in-idl-clause-idl : goal.returns-in_ok-file-in-idl-clause-idl
returns-in_ok-file-in-idl-clause-idl c = λ file rows met row.
    (ap (file_line (codes "idl")) (same_text c.in_ok-file-in-idl.file.now file (c.in_ok-file-in-idl.ensures ∙ value_met c.in_ok-name.arguments.now rows (codes "FILE") (c.in_ok-name.ensures.rows ∙ ap (option_map (λ p. p.1)) met) ∙ row)), tt)

pub returns-in_ok-file-in-audit-clause-audit : goal.returns-in_ok-file-in-audit-clause-audit
returns-in_ok-file-in-audit-clause-audit c = λ file rows met row.
    (ap (file_line (codes "audit")) (same_text c.in_ok-file-in-audit.file.now file (c.in_ok-file-in-audit.ensures ∙ value_met c.in_ok-name.arguments.now rows (codes "FILE") (c.in_ok-name.ensures.rows ∙ ap (option_map (λ p. p.1)) met) ∙ row)), tt)

pub returns-in_ok-steps-in-load-clause-load : goal.returns-in_ok-steps-in-load-clause-load
returns-in_ok-steps-in-load-clause-load c = λ number steps rows met row also.
    let rows_are = c.in_ok-name.ensures.rows ∙ ap (option_map (λ p. p.1)) met in
    subst₂ (λ a b. ReadsLine (load_line a b) c.load_of.result)
    (same_text c.in_ok-number-in-load.number.now number (c.in_ok-number-in-load.ensures ∙ value_met c.in_ok-name.arguments.now rows (codes "NUMBER") rows_are ∙ row))
    (same_text c.in_ok-steps-in-load.steps.now steps (c.in_ok-steps-in-load.ensures ∙ value_met c.in_ok-name.arguments.now rows (codes "N") rows_are ∙ also)) c.load_of.ensures

pub returns-in_err-address-in-serve-clause-serve : goal.returns-in_err-address-in-serve-clause-serve
returns-in_err-address-in-serve-clause-serve c = λ address connections rows met first second.
    absurd (none_met address (c.in_err-address-in-serve.ensures ∙ value_met c.in_ok-name.arguments.now rows (codes "ADDRESS") (c.in_ok-name.ensures.rows ∙ ap (option_map (λ p. p.1)) met) ∙ first))

pub returns-in_err-connections-in-serve-clause-serve : goal.returns-in_err-connections-in-serve-clause-serve
returns-in_err-connections-in-serve-clause-serve c = λ address connections rows met first second.
    absurd (none_met connections (c.in_err-connections-in-serve.ensures ∙ value_met c.in_ok-name.arguments.now rows (codes "connections") (c.in_ok-name.ensures.rows ∙ ap (option_map (λ p. p.1)) met) ∙ second))

pub returns-in_err-address-in-call-clause-call : goal.returns-in_err-address-in-call-clause-call
returns-in_err-address-in-call-clause-call c = λ address idl script rows met first second third.
    absurd (none_met address (c.in_err-address-in-call.ensures ∙ value_met c.in_ok-name.arguments.now rows (codes "ADDRESS") (c.in_ok-name.ensures.rows ∙ ap (option_map (λ p. p.1)) met) ∙ first))

pub returns-in_err-idl-in-call-clause-call : goal.returns-in_err-idl-in-call-clause-call
returns-in_err-idl-in-call-clause-call c = λ address idl script rows met first second third.
    absurd (none_met idl (c.in_err-idl-in-call.ensures ∙ value_met c.in_ok-name.arguments.now rows (codes "IDL") (c.in_ok-name.ensures.rows ∙ ap (option_map (λ p. p.1)) met) ∙ second))

pub returns-in_err-script-in-call-clause-call : goal.returns-in_err-script-in-call-clause-call
returns-in_err-script-in-call-clause-call c = λ address idl script rows met first second third.
    absurd (none_met script (c.in_err-script-in-call.ensures ∙ value_met c.in_ok-name.arguments.now rows (codes "SCRIPT") (c.in_ok-name.ensures.rows ∙ ap (option_map (λ p. p.1)) met) ∙ third))

pub returns-in_ok-connections-in-serve-clause-serve : goal.returns-in_ok-connections-in-serve-clause-serve
returns-in_ok-connections-in-serve-clause-serve c = λ address connections rows met first second.
    let rows_are = c.in_ok-name.ensures.rows ∙ ap (option_map (λ p. p.1)) met in
    subst (λ i. ReadsLine (serve_line address connections i) c.serve_of.result) (c.get_str-in-serve-3.ensures ∙ value_met c.in_ok-name.arguments.now rows (codes "idl") rows_are)
    (subst₂ (λ a b. ReadsLine (serve_line a b (option_map (λ text. text.now) c.get_str-in-serve-3.result)) c.serve_of.result)
    (same_text c.in_ok-address-in-serve.address.now address (c.in_ok-address-in-serve.ensures ∙ value_met c.in_ok-name.arguments.now rows (codes "ADDRESS") rows_are ∙ first))
    (same_text c.in_ok-connections-in-serve.connections.now connections (c.in_ok-connections-in-serve.ensures ∙ value_met c.in_ok-name.arguments.now rows (codes "connections") rows_are ∙ second)) c.serve_of.ensures)

pub returns-in_ok-script-in-call-clause-call : goal.returns-in_ok-script-in-call-clause-call
returns-in_ok-script-in-call-clause-call c = λ address idl script rows met first second third.
    let rows_are = c.in_ok-name.ensures.rows ∙ ap (option_map (λ p. p.1)) met in
    subst (λ s. ReadsLine (call_line address idl s) c.call_of.result)
    (same_text c.in_ok-script-in-call.script.now script (c.in_ok-script-in-call.ensures ∙ value_met c.in_ok-name.arguments.now rows (codes "SCRIPT") rows_are ∙ third))
    (subst₂ (λ a b. ReadsLine (call_line a b c.in_ok-script-in-call.script.now) c.call_of.result)
    (same_text c.in_ok-address-in-call.address.now address (c.in_ok-address-in-call.ensures ∙ value_met c.in_ok-name.arguments.now rows (codes "ADDRESS") rows_are ∙ first))
    (same_text c.in_ok-idl-in-call.idl.now idl (c.in_ok-idl-in-call.ensures ∙ value_met c.in_ok-name.arguments.now rows (codes "IDL") rows_are ∙ second)) c.call_of.ensures)
