use Rattle.std.proofs.Common.{subst}
use Rattle.txn_reads.specs.inner.Passing.{IsPassed}
use Rattle.txn_sessions.specs.Seen.{Versions}
use Rattle.txn_sessions.specs.declared.session.Origin.TheVariants.{Kept}
use Rattle.txn_sessions.proofs.ExchangeLaws.{exchanges-twice}
use Rattle.txn_reads.proofs.pages.pass_at.Goals as goal

pub returns : goal.returns
returns c = record {
  given = c.exchange_cursor-cursor.result;
  passed = c.pass.new.cursor;
  exchanges = exchanges-twice c.args.machine.now c.exchange_cursor-cursor.new.self c.exchange_cursor.new.self c.args.at c.args.place (record { number = 0; cursor = c.open_scan.result; origin = Kept }) c.pass.new.cursor c.exchange_cursor-cursor.result c.exchange_cursor.result c.requires.at c.exchange_cursor-cursor.ensures c.exchange_cursor.ensures;
  is = subst (λ (shelf : Versions). IsPassed shelf c.args.count c.exchange_cursor-cursor.result c.pass.new.cursor) c.exchange_cursor-cursor.ensures.shelf c.pass.ensures;
}
