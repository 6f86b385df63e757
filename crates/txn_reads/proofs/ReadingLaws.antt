-- What SELECT and EXPLAIN answer of the table that is seen.
use Rattle.std.proofs.Common.{◌≡◌, ◌⊎◌, ◌++◌, List, length, Some, None, inl, inr, sym, ap, ◌∙◌, true, false}
use Rattle.std.proofs.lemmas.Bool.{false≢true}
use Rattle.vec_base.specs.declared.refusal.Refusal.{Refusal}
use Rattle.vec_base.specs.declared.refusal.Refusal.TheVariants.{WantOfMemory}
use Rattle.vec_base.specs.declared.value.Value.{Value}
use Rattle.knn_plan.specs.Plans.{IsPlanFor, Planned}
use Rattle.row_model.specs.Answer.{answer, shape_of}
use Rattle.row_model.specs.Check.{check_select, is_nearest}
use Rattle.row_model.specs.RefusalOrder.{first, listed}
use Rattle.row_model.specs.Machine.{unless}
use Rattle.row_model.specs.Step.{explained, found, selected, too_many}
use Rattle.row_model.specs.declared.request.Reply.TheVariants.{Planned as PlannedReply, Refused, Rows}
use Rattle.row_model.specs.declared.request.Shape.TheVariants.{Nearest}
use Rattle.row_model.specs.declared.row.Table.{Table}
use Rattle.row_model.specs.declared.schema.Column.{Column}
use Rattle.row_model.specs.declared.statement.Select.{Select}
use Rattle.row_model.proofs.ShapeLaws.{nearest_shape}
use Rattle.shadow_records.specs.PlacedTables.{plain}
use Rattle.table_answers.proofs.ShapeFacts.{with_match}
use Rattle.table_version.specs.Versions.{VersionState}
use Rattle.txn_reads.specs.SeenTables.{IsSeen}
use Rattle.txn_sessions.specs.Seen.{session_at, state_of}
use Rattle.txn_sessions.specs.declared.machine.Machine.{Machine}
use Rattle.txn_sessions.proofs.TurnLaws.{unless-none, unless-some}
use Rattle.std.specs.Prelude.{ℕ}

-- ---- SELECT

selected-is : (machine : Machine) (at : ℕ) (select : Select) (number : ℕ) (version : VersionState) → IsSeen machine at select.table number version →
    selected select (state_of machine) (found select.table (state_of machine) (session_at machine at))
    ≡ unless (listed (check_select version.table.schema.columns select) ++ too_many select (length (answer (plain version.table) select))) (state_of machine) (Rows (answer (plain version.table) select), state_of machine)
selected-is machine at select number version seen =
    ap (selected select (state_of machine)) seen.is
    ∙ ap (λ (t : Table). unless (listed (check_select t.schema.columns select) ++ too_many select (length (answer t select))) (state_of machine) (Rows (answer t select), state_of machine)) seen.same

pub selected-rows : (machine : Machine) (at : ℕ) (select : Select) (number : ℕ) (version : VersionState) (rows : List (List Value)) → IsSeen machine at select.table number version →
    first (listed (check_select version.table.schema.columns select) ++ too_many select (length (answer (plain version.table) select))) ≡ None → rows ≡ answer (plain version.table) select →
    selected select (state_of machine) (found select.table (state_of machine) (session_at machine at)) ≡ (Rows rows, state_of machine)
selected-rows machine at select number version rows seen welcome is =
    let refusals = listed (check_select version.table.schema.columns select) ++ too_many select (length (answer (plain version.table) select)) in
    selected-is machine at select number version seen
    ∙ unless-none refusals (state_of machine) (Rows (answer (plain version.table) select), state_of machine) (sym welcome)
    ∙ ap (λ (l : List (List Value)). (Rows l, state_of machine)) (sym is)

pub selected-refused : (machine : Machine) (at : ℕ) (select : Select) (number : ℕ) (version : VersionState) (refusal : Refusal) → IsSeen machine at select.table number version →
    (first (listed (check_select version.table.schema.columns select) ++ too_many select (length (answer (plain version.table) select))) ≡ Some refusal) ⊎ (refusal ≡ WantOfMemory) →
    (selected select (state_of machine) (found select.table (state_of machine) (session_at machine at)) ≡ (Refused refusal, state_of machine)) ⊎ (Refused refusal ≡ Refused WantOfMemory)
selected-refused machine at select number version refusal seen (inl refused) =
    let refusals = listed (check_select version.table.schema.columns select) ++ too_many select (length (answer (plain version.table) select)) in
    inl (selected-is machine at select number version seen ∙ unless-some refusals (state_of machine) (Rows (answer (plain version.table) select), state_of machine) refusal (sym refused))
selected-refused machine at select number version refusal seen (inr starved) = inr (ap (λ r. Refused r) starved)

-- ---- EXPLAIN

explained-is : (machine : Machine) (at : ℕ) (select : Select) (number : ℕ) (version : VersionState) → IsSeen machine at select.table number version →
    explained select (state_of machine) (found select.table (state_of machine) (session_at machine at))
    ≡ unless (listed (check_select version.table.schema.columns select)) (state_of machine) (PlannedReply (shape_of version.table.schema.columns select), state_of machine)
explained-is machine at select number version seen =
    ap (explained select (state_of machine)) seen.is
    ∙ ap (λ (t : Table). unless (listed (check_select t.schema.columns select)) (state_of machine) (PlannedReply (shape_of t.schema.columns select), state_of machine)) seen.same

pub explained-plan : (machine : Machine) (at : ℕ) (select : Select) (number : ℕ) (version : VersionState) (plan : Planned) → IsSeen machine at select.table number version → IsPlanFor version.table.schema.columns plan → plan.select ≡ select →
    explained select (state_of machine) (found select.table (state_of machine) (session_at machine at)) ≡ (PlannedReply plan.shape, state_of machine)
explained-plan machine at select number version plan seen planned same =
    let columns = version.table.schema.columns in
    let checked : check_select columns select ≡ None = ap (check_select columns) (sym same) ∙ planned.checked in
    let shape : plan.shape ≡ shape_of columns select = planned.shape ∙ ap (shape_of columns) same in
    explained-is machine at select number version seen
    ∙ ap (λ o. unless (listed o) (state_of machine) (PlannedReply (shape_of columns select), state_of machine)) checked
    ∙ ap (λ s. (PlannedReply s, state_of machine)) (sym shape)

pub explained-refused : (machine : Machine) (at : ℕ) (select : Select) (number : ℕ) (version : VersionState) (refusal : Refusal) → IsSeen machine at select.table number version →
    check_select version.table.schema.columns select ≡ Some refusal → explained select (state_of machine) (found select.table (state_of machine) (session_at machine at)) ≡ (Refused refusal, state_of machine)
explained-refused machine at select number version refusal seen refused =
    explained-is machine at select number version seen
    ∙ ap (λ o. unless (listed o) (state_of machine) (PlannedReply (shape_of version.table.schema.columns select), state_of machine)) refused

-- ---- the shape

pub match-shape : (columns : List Column) (select : Select) → is_nearest select.where_terms ≡ true → shape_of columns select ≡ Nearest
match-shape columns select is = nearest_shape columns select.where_terms is

pub match-planned : (columns : List Column) (plan : Planned) → IsPlanFor columns plan → is_nearest plan.select.where_terms ≡ true → plan.shape ≡ Nearest
match-planned columns plan is nearest = is.shape ∙ match-shape columns plan.select nearest

pub plain-planned : (columns : List Column) (plan : Planned) → IsPlanFor columns plan → is_nearest plan.select.where_terms ≡ false → plan.shape ≡ Nearest → ⊥
plain-planned columns plan is other nearest = false≢true (sym other ∙ with_match columns plan is nearest)
