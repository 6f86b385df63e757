use Rattle.std.proofs.Common.{codes, arith}
use Rattle.http_replies.proofs.LengthLaws.{one_number, one_signed, unsupported_short}
use Rattle.http_replies.proofs.short.text_short.Goals as goal

pub returns-in-Syntax : goal.returns-in-Syntax
returns-in-Syntax c = rw c.in-Syntax.is (one_number (codes "syntax at ") c.in-Syntax.place (omega arith) c.number_fits.ensures)

pub returns-in-Parameter : goal.returns-in-Parameter
returns-in-Parameter c = rw c.in-Parameter.is (one_number (codes "parameter ") c.in-Parameter.index (omega arith) (rw c.from.ensures at c.number_fits-in-Parameter.ensures))

pub returns-in-BadSchema : goal.returns-in-BadSchema
returns-in-BadSchema c = rw c.in-BadSchema.is (one_number (codes "schema rule ") c.in-BadSchema.rule (omega arith) (rw c.from-in-BadSchema.ensures at c.number_fits-in-BadSchema.ensures))

pub returns-in-NoColumn : goal.returns-in-NoColumn
returns-in-NoColumn c = rw c.in-NoColumn.is (one_number (codes "no column at ") c.in-NoColumn.index (omega arith) (rw c.from-in-NoColumn.ensures at c.number_fits-in-NoColumn.ensures))

pub returns-in-WrongType : goal.returns-in-WrongType
returns-in-WrongType c = rw c.in-WrongType.is (one_number (codes "type of column ") c.in-WrongType.column (omega arith) (rw c.from-in-WrongType.ensures at c.number_fits-in-WrongType.ensures))

pub returns-in-NotNull : goal.returns-in-NotNull
returns-in-NotNull c = rw c.in-NotNull.is (one_number (codes "null in column ") c.in-NotNull.column (omega arith) (rw c.from-in-NotNull.ensures at c.number_fits-in-NotNull.ensures))

pub returns-in-FixedColumn : goal.returns-in-FixedColumn
returns-in-FixedColumn c = rw c.in-FixedColumn.is (one_number (codes "fixed column ") c.in-FixedColumn.column (omega arith) (rw c.from-in-FixedColumn.ensures at c.number_fits-in-FixedColumn.ensures))

pub returns-in-KnnForm : goal.returns-in-KnnForm
returns-in-KnnForm c = rw c.in-KnnForm.is (one_number (codes "nearest rule ") c.in-KnnForm.rule (omega arith) (rw c.from-in-KnnForm.ensures at c.number_fits-in-KnnForm.ensures))

pub returns-in-Busy : goal.returns-in-Busy
returns-in-Busy c = rw c.in-Busy.is (one_number (codes "busy session ") c.in-Busy.session (omega arith) (rw c.from-in-Busy.ensures at c.number_fits-in-Busy.ensures))

pub returns-in-TooManyRows : goal.returns-in-TooManyRows
returns-in-TooManyRows c = rw c.in-TooManyRows.is (one_number (codes "too many rows ") c.in-TooManyRows.count (omega arith) c.number_fits-in-TooManyRows.ensures)

pub returns-in-KRange : goal.returns-in-KRange
returns-in-KRange c = rw c.in-KRange.is (one_signed (codes "k out of range ") c.in-KRange.k (omega arith) c.signed_fits.ensures)

pub returns-in-Duplicate : goal.returns-in-Duplicate
returns-in-Duplicate c = rw c.in-Duplicate.is (one_signed (codes "duplicate rowid ") c.in-Duplicate.rowid (omega arith) c.signed_fits-in-Duplicate.ensures)

pub returns-in-Unsupported : goal.returns-in-Unsupported
returns-in-Unsupported c = rw c.in-Unsupported.is (unsupported_short c.in-Unsupported.field-0)
