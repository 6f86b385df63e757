use Rattle.std.proofs.Common.{rules}
use Rattle.std.proofs.lemmas.Str.{is_utf8-from_IsUtf8}
use Rattle.vec_base.proofs.value.Value.representable.Goals as goal

pub returns-in-Text : goal.returns-in-Text
returns-in-Text c = rw c.in-Text.is (is_utf8-from_IsUtf8 c.in-Text.text (rw c.as_text-text.ensures at c.as_text-text.utf8))
