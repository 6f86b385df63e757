use Rattle.std.proofs.Common.{rules, ◌≡◌, ◌+◌, ◌<◌, ◌∷◌, [], ◌++◌, ◌∙◌, ap₂, drop, get_or, length, take, true, Some}
use Rattle.row_model.specs.Schemas.{is_partition}
use Rattle.record_bodies.specs.Bodies.{partition_in, partition_value, partition_width}
use Rattle.record_bodies.specs.inner.InTurn.{behind_items}
use Rattle.record_bodies.proofs.TurnLaws.{partition_more}
use Rattle.record_bodies.proofs.partitions.partition_in.Goals as goal

pub loop-column-preserved : goal.loop-column-preserved
loop-column-preserved c =
    let columns = c.args.schema.now.columns in
    let i = c.loop-column.column-index in
    let column = c.column-item.result in
    let rest = c.loop-column.rest.now in
    let lt : i < length columns = search rules in
    let at : column ≡ get_or columns i column = search rules in
    let is : is_partition column.kind ≡ true = search rules in
    let value : partition_value column.kind (take (partition_width column.kind rest) rest) ≡ Some c.in-Some.value = search rules in
    let pushed : c.push.new.self ≡ c.loop-column.values ++ c.in-Some.value ∷ [] = search rules in
    let left : c.behind-rest.result.now ≡ drop (partition_width column.kind rest) rest = search rules in
    ap₂ (λ values rest. behind_items values (partition_in (drop (i + 1) columns) rest)) pushed left
    ∙ partition_more columns i column rest c.loop-column.values c.in-Some.value lt at is value
    ∙ c.loop-column.invariant
