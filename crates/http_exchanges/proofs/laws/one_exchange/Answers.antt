use Rattle.http_exchanges.proofs.OneLaws.{one}
use Rattle.http_exchanges.proofs.laws.one_exchange.Goals as goal

pub returns : goal.returns
returns c = one
