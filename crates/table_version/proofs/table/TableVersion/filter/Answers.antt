use Rattle.std.proofs.Common.{rules, ◌∙◌, ◌≡◌, ◌-◌, ℕ, true, false, sym, ap, subst, Some}
use Rattle.std.specs.Prelude.{is_some, slice_index_or}
use Rattle.std.specs.List.{slice_get}
use Rattle.row_chunks.specs.Cells.{is_cell, kinds_of, takes_test}
use Rattle.row_model.specs.Groups.{before_in}
use Rattle.shadow_records.specs.PlacedTables.{first_in, row_at}
use Rattle.table_version.specs.Versions.{VersionState}
use Rattle.table_version.specs.Viewed.{kind_numbered}
use Rattle.table_version.proofs.FilterLaws.{passed_there, tested}
use Rattle.table_version.proofs.ReaderLaws.{there_first}
use Rattle.table_version.proofs.UpdateLaws.{cell_taken}
use Rattle.table_version.proofs.table.TableVersion.filter.Goals as goal

pub filter-requires-clause-test : goal.filter-requires-clause-test
filter-requires-clause-test c =
    let columns = c.self.inside.schema.columns in
    let test = subst (λ (w : VersionState). takes_test (kind_numbered w.table.schema.columns c.args.column) c.args.test.now ≡ true) (sym c.self.view_is) c.requires.test in
    let at = tested columns c.args.column c.args.test.now test in
    let index : c.before-index.result ≡ before_in is_cell columns (c.args.column - 1) = search rules in
    ap (λ kinds. takes_test (slice_get kinds c.before-index.result) c.args.test.now) (c.in-Some.ensures.kinds ∙ c.self.invariant.kinds)
    ∙ ap (λ (n : ℕ). takes_test (slice_get (kinds_of columns) n) c.args.test.now) index
    ∙ ap (λ kind. takes_test kind c.args.test.now) (cell_taken columns (c.args.column - 1) at.kind at.there at.cell)
    ∙ at.taken

pub unreachable-requires : goal.unreachable-requires
unreachable-requires c =
    let there = subst (λ (w : VersionState). is_some (first_in w.table.rows c.args.chunk) ≡ true) (sym c.self.view_is) c.requires.there in
    let none : is_some c.slots.result ≡ false = ap is_some c.in-None.is in
    let some : is_some c.slots.result ≡ true = c.slots.ensures.there ∙ there_first c.self.inside.schema.columns c.self.inside.rows.rows c.args.chunk ∙ there in
    absurd cc

pub returns-clause-passed : goal.returns-clause-passed
returns-clause-passed c =
    let v = c.self.inside in
    let columns = v.schema.columns in
    let test = subst (λ (w : VersionState). takes_test (kind_numbered w.table.schema.columns c.args.column) c.args.test.now ≡ true) (sym c.self.view_is) c.requires.test in
    let at = tested columns c.args.column c.args.test.now test in
    let index : c.before-index.result ≡ before_in is_cell columns (c.args.column - 1) = search rules in
    λ slot placed there.
    passed_there columns v.rows.rows c.in-Some.rows.now c.args.chunk slot c.args.column c.before-index.result c.args.test.now placed (slice_index_or c.args.keep.now slot false) (slice_index_or c.filter.new.keep slot false)
    at index (c.in-Some.ensures.slots slot) (subst (λ (w : VersionState). row_at w.table.rows c.args.chunk slot ≡ Some placed) (sym c.self.view_is) there) (λ used is. c.filter.ensures.passed slot used is)
