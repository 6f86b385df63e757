use Rattle.http_replies.proofs.EscapeLaws.{quote_escape, backslash_escape}
use Rattle.http_replies.proofs.escape.escape_of.Goals as goal

pub returns-in-34 : goal.returns-in-34
returns-in-34 c = quote_escape c.args.byte c.in-34.is

pub returns-in-92 : goal.returns-in-92
returns-in-92 c = backslash_escape c.args.byte c.in-92.is
