-- The status of each answer, and the phrase of each status.
use Rattle.std.specs.Prelude.{◌≡◌, ℕ, ◌==◌, if◌then◌else◌, ◌⊎◌, List, [], codes}
use Rattle.vec_base.specs.declared.refusal.Refusal.{Refusal}
use Rattle.vec_base.specs.declared.refusal.Refusal.TheVariants.{Syntax, Unsupported, Parameter, TxnState, NoTable, TableExists, BadSchema, NoColumn, WrongType, VectorShape, NotNull, FixedColumn, KRange, KnnForm, Busy, OldSnapshot, Duplicate, RowidsSpent, Full, NoSavepoint, NoSession, NoCursor, TooManyRows, StoreFault, WantOfMemory}
use Rattle.row_model.specs.declared.request.Reply.{Reply}
use Rattle.row_model.specs.declared.request.Reply.TheVariants.{Done, Inserted, Changed, Rows, Planned, Session, Cursor, Page, Refused}

abbrev pub phrase : ℕ → List ℕ
phrase status =
    if status == 200 then codes "OK" else (
    if status == 400 then codes "Bad Request" else (
    if status == 404 then codes "Not Found" else (
    if status == 405 then codes "Method Not Allowed" else (
    if status == 409 then codes "Conflict" else (
    if status == 411 then codes "Length Required" else (
    if status == 413 then codes "Payload Too Large" else (
    if status == 422 then codes "Unprocessable Entity" else (
    if status == 500 then codes "Internal Server Error" else (
    if status == 503 then codes "Service Unavailable" else (
    if status == 507 then codes "Insufficient Storage" else []))))))))))

abbrev pub refusal_status : Refusal → ℕ
refusal_status (Syntax place) = 422
refusal_status (Unsupported word) = 422
refusal_status (Parameter index) = 422
refusal_status TxnState = 422
refusal_status NoTable = 404
refusal_status TableExists = 409
refusal_status (BadSchema rule) = 422
refusal_status (NoColumn index) = 422
refusal_status (WrongType column) = 422
refusal_status (VectorShape column wanted got) = 422
refusal_status (NotNull column) = 422
refusal_status (FixedColumn column) = 422
refusal_status (KRange k) = 422
refusal_status (KnnForm rule) = 422
refusal_status (Busy session) = 409
refusal_status (OldSnapshot at latest) = 409
refusal_status (Duplicate rowid) = 409
refusal_status RowidsSpent = 507
refusal_status (Full limit count) = 507
refusal_status NoSavepoint = 422
refusal_status NoSession = 404
refusal_status NoCursor = 404
refusal_status (TooManyRows count) = 422
refusal_status StoreFault = 503
refusal_status WantOfMemory = 500

abbrev pub reply_status : Reply → ℕ
reply_status Done = 200
reply_status (Inserted count last) = 200
reply_status (Changed count) = 200
reply_status (Rows rows) = 200
reply_status (Planned shape) = 200
reply_status (Session id) = 200
reply_status (Cursor number) = 200
reply_status (Page rows done) = 200
reply_status (Refused refusal) = refusal_status refusal

-- the statuses of what is no request
abbrev pub IsBadStatus : ℕ → Type 0
IsBadStatus status = (status ≡ 400) ⊎ (status ≡ 404) ⊎ (status ≡ 405) ⊎ (status ≡ 411) ⊎ (status ≡ 413)
