use Rattle.std.proofs.lemmas.Result.{IfOk-weaker}
use Rattle.record_bodies.proofs.FormLaws.{exact}
use Rattle.record_bodies.proofs.partitions.read_partition.Goals as goal

pub returns : goal.returns
returns c = record {
  exact = c.partition_in.ensures;
  form = IfOk-weaker _ _ _ (λ values is. exact c.args.schema.now.columns c.args.body.now values (λ i. (c.type_inv.body i).fits) is) c.partition_in.ensures;
}
