-- The base that is read off the tables.
use Rattle.std.proofs.Common.{◌≡◌, ℕ, ◌+◌, List, [], ◌∷◌, length, map, reverse, refl, sym, ◌∙◌, ap, arith}
use Rattle.std.proofs.lemmas.List.{length-reverse}
use Rattle.handle_model.specs.declared.entry.DueItem.{DueItem}
use Rattle.handle_model.specs.declared.entry.Entry.{Entry}
use Rattle.handle_model.specs.declared.base.BaseCall.{BaseCall}
use Rattle.handle_model.specs.declared.base.Base.{Base}
use Rattle.handle_model.specs.Folds.{open_calls, base_of}
use Rattle.handle_model.specs.History.{History, history_of, size}
use Rattle.handle_model.specs.Journal.{Legal, conns, due_items}
use Rattle.call_table.specs.Based.{stored_calls}
use Rattle.call_table.proofs.Stored.{calls_shown}
use Rattle.journal_tables.specs.declared.conns.OpenConn.{OpenConn}
use Rattle.journal_tables.specs.Tables.{Tables}
use Rattle.journal_tables.specs.Shown.{open_conn, conns_of, tables_of}

-- what is read off
abbrev pub read_off : Tables → Base → List Entry → Base
read_off t base entries =
    record {
      count = base.count + length entries;
      joins = t.joins;
      accepts = t.accepts;
      opens = t.opens;
      conns = map (λ (o : OpenConn). o.conn) t.conns;
      calls = stored_calls base entries t.rows;
      handles = t.items;
    }

numbers_back : (j : History) (ns : List ℕ) → map (λ (o : OpenConn). o.conn) (map (open_conn j) ns) ≡ ns
numbers_back j [] = refl
numbers_back j (n ∷ ns) = ap (λ ms. n ∷ ms) (numbers_back j ns)

pub made_is : (t : Tables) (base : Base) (entries : List Entry) → t ≡ tables_of (history_of t.home base entries) → Legal (history_of t.home base entries) → read_off t base entries ≡ base_of (history_of t.home base entries)
made_is t base entries e l =
    let j : History = history_of t.home base entries in
    let made : ℕ → List ℕ → List BaseCall → Base =
    λ n c k. record { count = n; joins = (tables_of j).joins; accepts = (tables_of j).accepts; opens = (tables_of j).opens; conns = c; calls = k; handles = due_items j } in
    let count : base.count + length entries ≡ size j = ap (λ n. base.count + n) (sym (length-reverse entries)) in
    ap (λ x. read_off x base entries) e ∙ (ap (λ n. made n (map (λ (o : OpenConn). o.conn) (conns_of j)) (stored_calls base entries (tables_of j).rows)) count ∙ (ap (λ c. made (size j) c (stored_calls base entries (tables_of j).rows)) (numbers_back j (reverse (conns j))) ∙ ap (made (size j) (reverse (conns j))) (calls_shown t.home base entries l)))
