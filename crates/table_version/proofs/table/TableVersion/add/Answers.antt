use Rattle.std.proofs.Common.{rules, ◌≡◌, ◌+◌, ◌<◌, ◌^◌, ℕ, ℤ, None, sym, subst, ◌∙◌, w64, SFits, FitsSigned}
use Rattle.std.specs.Prelude.{sum_by}
use Rattle.std.proofs.lemmas.Int.{to_z-of_z}
use Rattle.row_model.specs.Change.{larger}
use Rattle.row_model.specs.Values.{side_bytes}
use Rattle.row_store.specs.StoredRows.{row_of}
use Rattle.table_version.specs.inner.StoredTables.{IsSound}
use Rattle.table_version.proofs.PutLaws.{IsDone, made_of, made_sound, made_inserted, made_origin, put_cells, put_fresh, put_own, put_widths, put_few, values_short}
use Rattle.table_version.proofs.SoundLaws.{sides_fit}
use Rattle.table_version.proofs.table.TableVersion.add.Goals as goal

pub put_values-requires-clause-fresh : goal.put_values-requires-clause-fresh
put_values-requires-clause-fresh c =
    let v = c.self.inside in
    let number : FitsSigned w64 c.args.made.now = search rules in
    let m = made_of c.args.self.now v.name v.schema v.top v.rows v.side_bytes c.args.made.now c.args.rowid.now c.args.values.now c.self.view_is c.self.invariant c.requires.made c.requires.fits c.requires.none c.list_representable.ensures number in
    subst (λ (n : ℤ). row_of n v.rows.rows ≡ None) (sym m.is) (put_fresh v.name v.schema v.top v.rows v.side_bytes c.args.rowid.now c.args.values.now m.given)

pub put_values-requires-clause-own_id : goal.put_values-requires-clause-own_id
put_values-requires-clause-own_id c =
    let v = c.self.inside in
    let number : FitsSigned w64 c.args.made.now = search rules in
    let m = made_of c.args.self.now v.name v.schema v.top v.rows v.side_bytes c.args.made.now c.args.rowid.now c.args.values.now c.self.view_is c.self.invariant c.requires.made c.requires.fits c.requires.none c.list_representable.ensures number in
    λ text is. put_own v.name v.schema v.top v.rows v.side_bytes c.args.rowid.now c.args.values.now text m.given is

pub put_values-requires-clause-widths : goal.put_values-requires-clause-widths
put_values-requires-clause-widths c =
    let v = c.self.inside in
    let number : FitsSigned w64 c.args.made.now = search rules in
    let m = made_of c.args.self.now v.name v.schema v.top v.rows v.side_bytes c.args.made.now c.args.rowid.now c.args.values.now c.self.view_is c.self.invariant c.requires.made c.requires.fits c.requires.none c.list_representable.ensures number in
    put_widths v.name v.schema v.top v.rows v.side_bytes c.args.values.now c.self.invariant m.given.fits

pub put_values-requires-clause-cells : goal.put_values-requires-clause-cells
put_values-requires-clause-cells c =
    let v = c.self.inside in
    let number : FitsSigned w64 c.args.made.now = search rules in
    let m = made_of c.args.self.now v.name v.schema v.top v.rows v.side_bytes c.args.made.now c.args.rowid.now c.args.values.now c.self.view_is c.self.invariant c.requires.made c.requires.fits c.requires.none c.list_representable.ensures number in
    put_cells v.name v.schema v.top v.rows v.side_bytes c.args.values.now c.self.invariant m.given.fits

pub put_values-requires-clause-few : goal.put_values-requires-clause-few
put_values-requires-clause-few c = let v = c.self.inside in put_few v.name v.schema v.top v.rows v.side_bytes c.self.invariant

pub put_values-requires-clause-short : goal.put_values-requires-clause-short
put_values-requires-clause-short c =
    let v = c.self.inside in
    let number : FitsSigned w64 c.args.made.now = search rules in
    let m = made_of c.args.self.now v.name v.schema v.top v.rows v.side_bytes c.args.made.now c.args.rowid.now c.args.values.now c.self.view_is c.self.invariant c.requires.made c.requires.fits c.requires.none c.list_representable.ensures number in
    values_short v.name v.schema v.top v.rows v.side_bytes c.args.values.now c.self.invariant m.given.fits

pub returns-in_err-bytes-clause-origin : goal.returns-in_err-bytes-clause-origin
returns-in_err-bytes-clause-origin c =
    let v = c.self.inside in
    made_origin c.args.self.now v.name v.schema v.top v.top v.rows c.put_values.new.rows v.side_bytes c.self.view_is c.self.invariant c.put_values.ensures.origin

pub overflow_add-self : goal.overflow_add-self
overflow_add-self c =
    let v = c.self.inside in
    let number : FitsSigned w64 c.args.made.now = search rules in
    let m = made_of c.args.self.now v.name v.schema v.top v.rows v.side_bytes c.args.made.now c.args.rowid.now c.args.values.now c.self.view_is c.self.invariant c.requires.made c.requires.fits c.requires.none c.list_representable.ensures number in
    let done : IsDone v.schema v.rows c.put_values.new.rows c.args.made.now c.args.values.now = record { put = c.in_ok-bytes.ensures.put; shape = c.put_values.ensures.shape } in
    let sound = made_sound v.name v.schema v.top v.rows c.put_values.new.rows v.side_bytes c.args.made.now c.args.rowid.now c.args.values.now m done in
    let fits = sides_fit v.name v.schema (larger v.top c.args.made.now) c.put_values.new.rows (v.side_bytes + sum_by side_bytes c.args.values.now) sound in
    let less : v.side_bytes + c.in_ok-bytes.bytes < 2 ^ 64 = subst (λ (n : ℕ). v.side_bytes + n < 2 ^ 64) (sym c.in_ok-bytes.ensures.sides) fits in
    search rules

pub invariant_of-self-2 : goal.invariant_of-self-2
invariant_of-self-2 c =
    let v = c.self.inside in
    let number : FitsSigned w64 c.args.made.now = search rules in
    let m = made_of c.args.self.now v.name v.schema v.top v.rows v.side_bytes c.args.made.now c.args.rowid.now c.args.values.now c.self.view_is c.self.invariant c.requires.made c.requires.fits c.requires.none c.list_representable.ensures number in
    let done : IsDone v.schema v.rows c.put_values.new.rows c.args.made.now c.args.values.now = record { put = c.in_ok-bytes.ensures.put; shape = c.put_values.ensures.shape } in
    let sound = made_sound v.name v.schema v.top v.rows c.put_values.new.rows v.side_bytes c.args.made.now c.args.rowid.now c.args.values.now m done in
    let top : SFits w64 c.larger-top.result = search rules in
    let same = to_z-of_z w64 c.larger-top.result top ∙ c.larger-top.ensures in
    let sides = subst (λ (n : ℕ). IsSound v.name v.schema (larger v.top c.args.made.now) c.put_values.new.rows (v.side_bytes + n)) (sym c.in_ok-bytes.ensures.sides) sound in
    subst (λ (t : ℤ). IsSound v.name v.schema t c.put_values.new.rows (v.side_bytes + c.in_ok-bytes.bytes)) (sym same) sides

pub returns-clause-inserted : goal.returns-clause-inserted
returns-clause-inserted c =
    let v = c.self.inside in
    let number : FitsSigned w64 c.args.made.now = search rules in
    let m = made_of c.args.self.now v.name v.schema v.top v.rows v.side_bytes c.args.made.now c.args.rowid.now c.args.values.now c.self.view_is c.self.invariant c.requires.made c.requires.fits c.requires.none c.list_representable.ensures number in
    let done : IsDone v.schema v.rows c.put_values.new.rows c.args.made.now c.args.values.now = record { put = c.in_ok-bytes.ensures.put; shape = c.put_values.ensures.shape } in
    let top : SFits w64 c.larger-top.result = search rules in
    let same = to_z-of_z w64 c.larger-top.result top ∙ c.larger-top.ensures in
    made_inserted c.args.self.now v.name v.schema v.top v.rows c.put_values.new.rows v.side_bytes c.args.made.now _ c.args.rowid.now c.args.values.now c.self.view_is m done same

pub returns-clause-origin : goal.returns-clause-origin
returns-clause-origin c =
    let v = c.self.inside in
    made_origin c.args.self.now v.name v.schema v.top _ v.rows c.put_values.new.rows v.side_bytes c.self.view_is c.self.invariant c.put_values.ensures.origin
