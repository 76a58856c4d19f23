-- One answer follows from what the desks keep and are asked.
use Rattle.std.proofs.Common.{◌≡◌, ℕ, ◌<◌, Option, Some, None, length, slice_get, refl, sym, ap, subst, ◌∙◌, arith}
use Rattle.std.specs.List.{AllByRecursion}
use Rattle.std.proofs.lemmas.Option.{slice_get_within}
use Rattle.ndr_table.specs.Tables.{OpForm, TableForm}
use Rattle.echo_manager.specs.Table.{probe_table}
use Rattle.store_manager.specs.Table.{store_table}
use Rattle.epm_manager.specs.Table.{epm_table}
use Rattle.mgmt_manager.specs.Table.{mgmt_table}
use Rattle.manager_api.specs.Calls.{Call}
use Rattle.conn_histories.specs.Requests.{op_in}
use Rattle.manager_api.specs.ServedCalls.{IsNumbered}
use Rattle.desk_service.specs.State.{tables_with}
use Rattle.desk_service.proofs.Once.{one_answer}
use Rattle.replay_world.specs.Services.{IsWhole, IsDetermined}
use Rattle.replay_groups.specs.Service.{service_of, IsEcho}

probe_whole : IsWhole probe_table
probe_whole = (record { few = omega arith; of_each = refl; few_uses = refl; types_are = refl; ops_are = refl }, record { types_are = refl; types_reach = refl; ops_are = refl })

store_whole : IsWhole store_table
store_whole = (record { few = omega arith; of_each = refl; few_uses = refl; types_are = refl; ops_are = refl }, record { types_are = refl; types_reach = refl; ops_are = refl })

epm_whole : IsWhole epm_table
epm_whole = (record { few = omega arith; of_each = refl; few_uses = refl; types_are = refl; ops_are = refl }, record { types_are = refl; types_reach = refl; ops_are = refl })

mgmt_whole : IsWhole mgmt_table
mgmt_whole = (record { few = omega arith; of_each = refl; few_uses = refl; types_are = refl; ops_are = refl }, record { types_are = refl; types_reach = refl; ops_are = refl })

all_whole : (echo : Option TableForm) → IsEcho echo → AllByRecursion IsWhole (tables_with echo)
all_whole None e = (probe_whole, (store_whole, (epm_whole, (mgmt_whole, tt))))
all_whole (Some t) e = (probe_whole, (store_whole, (epm_whole, (mgmt_whole, (e, tt)))))

numbered_in : (found : Option TableForm) (op : ℕ) (o : OpForm) → op_in found op ≡ Some o → (t : TableForm) × (found ≡ Some t) × (op < length t.ops)
numbered_in None op o e = absurd (cc)
numbered_in (Some t) op o e = (t, refl, slice_get_within t.ops op o e)

numbered : (echo : Option TableForm) (call : Call) (o : OpForm) → op_in (slice_get (tables_with echo) call.iface) call.op ≡ Some o → IsNumbered (tables_with echo) call
numbered echo call o e = let n = numbered_in (slice_get (tables_with echo) call.iface) call.op o e in record { table = n.0; served = n.1; number = n.2 }

pub determined : (echo : Option TableForm) → IsEcho echo → IsDetermined (service_of echo)
determined echo e = record {
  tables = all_whole echo e;
  answers = λ old new new' numbers call o cancelled a b op m m' na nb.
      one_answer old new new' numbers call cancelled a b (subst (λ (x : Option TableForm). IsNumbered (tables_with x) call) (sym m.0) (numbered echo call o op)) m.1 m'.1 na nb;
  downs = λ old new new' item d d'. d ∙ sym d';
}
