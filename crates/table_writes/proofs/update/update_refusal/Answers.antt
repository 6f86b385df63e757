use Rattle.std.proofs.Common.{ℕ, List, ◌≡◌, ◌+◌, ◌∙◌, None, ap, ap₂, length, map, subst, sym, [], if◌then◌else◌}
use Rattle.std.specs.Prelude.{nat_lt}
use Rattle.std.specs.List.{AllByRecursion}
use Rattle.std.specs.Option.{option_or}
use Rattle.row_model.specs.Change.{long_values}
use Rattle.row_model.specs.RefusalOrder.{first}
use Rattle.row_model.specs.RepresentableStatements.{IsRepresentableAssign}
use Rattle.row_model.specs.declared.statement.Assign.{Assign}
use Rattle.shadow_records.specs.PlacedTables.{plain}
use Rattle.table_writes.specs.Writing.{elsewhere_of}
use Rattle.table_writes.specs.inner.Capped.{capped}
use Rattle.table_writes.proofs.UpdateLaws.{long_is, long_of, not_some, refused_long, refused_room, updatable}
use Rattle.table_writes.proofs.update.update_refusal.Goals as goal

pub returns-then-is_some : goal.returns-then-is_some
returns-then-is_some c = λ update of.
    let table = c.args.table.now.table in
    let rowids = c.args.rowids.now in
    let is = updatable table update rowids c.args.sets.now c.known.ensures of in
    let long : c.long_refusal-long.result ≡ first (long_of (plain table) update) =
    c.long_refusal-long.ensures ∙ ap (λ (ss : List Assign). first (if nat_lt 0 (length rowids) then long_values (map (λ set. set.value) ss) else [])) (sym of.sets_are) ∙ ap first (long_is table update rowids is) in
    refused_long (elsewhere_of c.args.beside) table update c.long_refusal-long.result long (sym c.is_some.ensures ∙ c.if-is_some.true)

pub returns : goal.returns
returns c = λ update of.
    let table = c.args.table.now.table in
    let rowids = c.args.rowids.now in
    let is = updatable table update rowids c.args.sets.now c.known.ensures of in
    let held = subst (λ (ss : List Assign). AllByRecursion IsRepresentableAssign ss) (sym of.sets_are) c.sets_representable.ensures in
    let long : c.long_refusal-long.result ≡ first (long_of (plain table) update) =
    c.long_refusal-long.ensures ∙ ap (λ (ss : List Assign). first (if nat_lt 0 (length rowids) then long_values (map (λ set. set.value) ss) else [])) (sym of.sets_are) ∙ ap first (long_is table update rowids is) in
    let none : first (long_of (plain table) update) ≡ None = sym long ∙ not_some c.long_refusal-long.result (sym c.is_some.ensures ∙ c.if-is_some.false) in
    c.or.ensures
    ∙ ap₂ option_or c.over_vectors.ensures c.over_sides.ensures
    ∙ refused_room (elsewhere_of c.args.beside) table update rowids c.saturating_add-vectors.result c.side_total.result is held none
    (c.saturating_add-vectors.ensures ∙ ap (λ (n : ℕ). capped (c.args.beside.vectors + n)) c.vector_bytes.ensures) (c.side_total.ensures update of)
