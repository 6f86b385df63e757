use Rattle.std.proofs.Common.{sym, ◌∙◌}
use Rattle.grammar.proofs.reader.Reader.name.Goals as goal

pub lowered-requires : goal.lowered-requires
lowered-requires c = sym c.at_name.ensures ∙ c.if-not-at_name.false
