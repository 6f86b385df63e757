-- The arms where the search stops at its limits.
use Rattle.vec_text.proofs.refusal.put_refusal.Goals as goal

pub returns-in-NoColumn-clause-added : goal.returns-in-NoColumn-clause-added
returns-in-NoColumn-clause-added g c = rw c.in-NoColumn.is (rw c.from-in-NoColumn.ensures at c.put_counted-in-NoColumn.ensures.added)

pub returns-in-WrongType-clause-added : goal.returns-in-WrongType-clause-added
returns-in-WrongType-clause-added g c = rw c.in-WrongType.is (rw c.from-in-WrongType.ensures at c.put_counted-in-WrongType.ensures.added)

pub returns-in-FixedColumn-clause-added : goal.returns-in-FixedColumn-clause-added
returns-in-FixedColumn-clause-added g c = rw c.in-FixedColumn.is (rw c.from-in-FixedColumn.ensures at c.put_counted-in-FixedColumn.ensures.added)

pub returns-in-KRange-clause-added : goal.returns-in-KRange-clause-added
returns-in-KRange-clause-added g c = rw c.in-KRange.is c.put_signed_counted.ensures.added

pub returns-in-KnnForm-clause-added : goal.returns-in-KnnForm-clause-added
returns-in-KnnForm-clause-added g c = rw c.in-KnnForm.is (rw c.from-in-KnnForm.ensures at c.put_counted-in-KnnForm.ensures.added)

pub returns-in-Busy-clause-added : goal.returns-in-Busy-clause-added
returns-in-Busy-clause-added g c = rw c.in-Busy.is (rw c.from-in-Busy.ensures at c.put_counted-in-Busy.ensures.added)

pub returns-in-Duplicate-clause-added : goal.returns-in-Duplicate-clause-added
returns-in-Duplicate-clause-added g c = rw c.in-Duplicate.is c.put_signed_counted-in-Duplicate.ensures.added

pub returns-in-RowidsSpent-clause-added : goal.returns-in-RowidsSpent-clause-added
returns-in-RowidsSpent-clause-added g c = rw c.in-RowidsSpent.is c.put-in-RowidsSpent.ensures.added
