use Rattle.std.proofs.Common.{◌≡◌, ℕ, ◌+◌, ◌<◌, List, [], length, Some, refl, sym, ap, subst, ◌∙◌, arith}
use Rattle.std.specs.Prelude.{None, bytes_eq, if◌then◌else◌}
use Rattle.std.proofs.lemmas.Grind.{common_steps}
use Rattle.rpc_base.specs.Named.{at_name}
use Rattle.store_manager.specs.declared.file.File.{File}
use Rattle.store_manager.specs.Files.{Store, number_named, most_files}
use Rattle.store_manager.specs.Wholes.{IsWhole}
use Rattle.store_manager.proofs.Whole.{whole_more}
use Rattle.store_manager.proofs.desk.StoreDesk.open_new.Goals as goal

pub invariant_of-self-2 : goal.invariant_of-self-2
invariant_of-self-2 c =
    let files = c.self.inside.files.items in
    let names = c.self.inside.names in
    let name = c.args.name.now in
    let added = c.in_ok-add_file.ensures.ok in
    let f : File = record { name = name; octets = [] } in
    let count : c.len-count.result ≡ length files = grind (arith, common_steps) in
    let put : (other : List ℕ) → at_name c.add_file.new.names other ≡ (if bytes_eq name other then Some (length files + 1) else at_name names other) =
    λ other. added.1 other ∙ ap (λ (n : ℕ). if bytes_eq name other then Some (n + 1) else at_name names other) count in
    let same : files ≡ c.args.self.now.files = ap (λ (s : Store). s.files) c.self.view_is in
    let none : number_named name files ≡ None = subst (λ (fs : List File). number_named name fs ≡ None) (sym same) c.requires in
    let few : length files < most_files = subst (λ (n : ℕ). n < most_files) count c.if-count-ge-MOST_FILES.false in
    subst (λ (fs : List File). IsWhole fs c.add_file.new.names) (sym added.0) (whole_more files names c.add_file.new.names name f c.self.invariant refl none few put)
