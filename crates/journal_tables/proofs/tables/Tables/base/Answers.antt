use Rattle.std.proofs.Common.{◌≡◌, ◌+◌, ℕ, List, length, map, ◌∙◌, ap, arith, rules}
use Rattle.handle_model.specs.declared.entry.DueItem.{DueItem}
use Rattle.handle_model.specs.declared.base.BaseCall.{BaseCall}
use Rattle.handle_model.specs.declared.base.Base.{Base}
use Rattle.call_table.specs.Based.{stored_calls}
use Rattle.journal_tables.specs.declared.conns.OpenConn.{OpenConn}
use Rattle.journal_tables.proofs.Made.{read_off, made_is}
use Rattle.journal_tables.proofs.tables.Tables.base.Goals as goal

pub returns : goal.returns
returns c =
    let base : Base = c.args.base.now in
    let made : ℕ → List ℕ → List BaseCall → List DueItem → Base =
    λ n ns ks is. record { count = n; joins = c.self.inside.joins; accepts = c.self.inside.accepts; opens = c.self.inside.opens; conns = ns; calls = ks; handles = is } in
    let all : ℕ = base.count + length c.args.entries.now in
    let count : c.in-Some.count ≡ all = search rules in
    ap (λ n. made n c.in_ok-numbers.field-0 c.in_ok-calls.field-0 c.in_ok-copy.field-0) count
    ∙ (ap (λ ns. made all ns c.in_ok-calls.field-0 c.in_ok-copy.field-0) c.in_ok-numbers.ensures
    ∙ (ap (λ ks. made all (map (λ (o : OpenConn). o.conn) c.self.inside.conns.conns) ks c.in_ok-copy.field-0) c.in_ok-calls.ensures
    ∙ (ap (made all (map (λ (o : OpenConn). o.conn) c.self.inside.conns.conns) (stored_calls base c.args.entries.now c.self.inside.calls.rows)) c.in_ok-copy.ensures
    ∙ (ap (λ v. read_off v.tables base c.args.entries.now) c.self.view_is
    ∙ made_is c.args.self.now.tables base c.args.entries.now c.requires.shows c.requires.legal))))
