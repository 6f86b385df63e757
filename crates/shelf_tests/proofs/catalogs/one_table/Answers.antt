use Rattle.std.proofs.Common.{ap, length}
use Rattle.shelf_tests.proofs.PutLaws.{put_there}
use Rattle.shelf_tests.proofs.catalogs.one_table.Goals as goal

pub returns : goal.returns
returns c =
    put_there _ c.put_from.new.self c.none-none.result.places c.in_ok-held.held.places c.in-Some.number c.in_ok-version.version c.in-Some.ensures.low c.in-Some.ensures.high
    (ap length c.none-none.ensures) c.in_ok-held.ensures.on c.in_ok-held.ensures.shown c.in_ok-version.ensures
