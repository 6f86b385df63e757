use Rattle.std.proofs.Common.{rules, ◌≡◌, ◌<◌, get_or, length}
use Rattle.shelf_attach.proofs.GroupLaws.{all_more}
use Rattle.shelf_attach.proofs.attach.group_len.Goals as goal

pub loop-at-preserved : goal.loop-at-preserved
loop-at-preserved c =
    let records = c.args.records.now in
    let within : c.loop-at.at < length records = search rules in
    let is : get_or records c.loop-at.at c.index-records-at.result ≡ c.index-records-at.result = search rules in
    let own : c.index-records-at.result.0.table ≡ c.args.number = search rules in
    all_more (λ of. of ≡ c.args.number) records c.loop-at.at c.index-records-at.result within is c.loop-at.invariant own
