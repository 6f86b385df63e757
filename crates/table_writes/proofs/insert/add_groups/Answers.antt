use Rattle.std.proofs.Common.{rules, ◌≡◌, ◌∷◌, ◌+◌, ◌∙◌, ℤ, List, None, ap, ap₂, drop, sym, w64, SFits, of_z, to_z}
use Rattle.std.proofs.lemmas.Int.{to_z-of_z}
use Rattle.vec_base.specs.declared.value.Value.{Value}
use Rattle.row_model.specs.Change.{group_refusals, grown, last_rowid, new_row, with_new_row}
use Rattle.row_model.specs.RefusalOrder.{first}
use Rattle.row_model.specs.declared.row.Table.{Table}
use Rattle.shadow_records.specs.PlacedTables.{plain}
use Rattle.table_writes.specs.Writing.{elsewhere_of}
use Rattle.table_writes.proofs.InsertLaws.{grown_next, last_next}
use Rattle.table_writes.proofs.OneByOneLaws.{drop_next}
use Rattle.table_writes.proofs.insert.add_groups.Goals as goal

pub loop-given-preserved : goal.loop-given-preserved
loop-given-preserved c =
    let made = c.in_ok-last.ensures {u = tt} in
    let other = elsewhere_of c.args.beside in
    let places = c.args.places.now in
    let all = c.args.rows.now in
    let k = c.loop-given.given-index in
    let given = c.given-item.result in
    let more = drop (k + 1) all in
    let now = plain c.loop-given.table.table in
    let next : drop k all ≡ given ∷ more = drop_next all k given given (search rules) (search rules) in
    let slice : c.as_slice.result.now ≡ given = search rules in
    let none : first (group_refusals other now places given) ≡ None = ap (λ (vs : List Value). first (group_refusals other now places vs)) (sym slice) ∙ made.welcome in
    let new : plain c.add_group.new.table.table ≡ with_new_row now (new_row now places given) = made.added ∙ ap (λ (vs : List Value). with_new_row now (new_row now places vs)) slice in
    let fits : SFits w64 c.in_ok-last.last = search rules in
    let rowid : to_z w64 (of_z w64 c.in_ok-last.last) ≡ (new_row now places given).rowid = to_z-of_z w64 c.in_ok-last.last fits ∙ made.rowid ∙ ap (λ (vs : List Value). (new_row now places vs).rowid) slice in
    record {
      grown = c.loop-given.invariant.grown ∙ ap (grown other places now) next ∙ grown_next other places now given more none ∙ ap (λ (t : Table). grown other places t more) (sym new);
      last = c.loop-given.invariant.last ∙ ap (last_rowid (to_z w64 c.loop-given.last-bits) places now) next ∙ last_next (to_z w64 c.loop-given.last-bits) places now given more
          ∙ ap₂ (λ (n : ℤ) (t : Table). last_rowid n places t more) (sym rowid) (sym new);
      name = made.name ∙ c.loop-given.invariant.name;
      schema = made.schema ∙ c.loop-given.invariant.schema;
      origin = λ base follows. made.origin base (c.loop-given.invariant.origin base follows);
    }
