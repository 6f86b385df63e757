use Rattle.std.proofs.Common.{◌≡◌, ap, ◌∙◌, rules, SFits, w64, if◌then◌else◌}
use Rattle.std.specs.Prelude.{is_ok}
use Rattle.std.specs.Option.{option_copied}
use Rattle.std.proofs.lemmas.Int.{to_z-of_z}
use Rattle.row_index.specs.Entries.{with_entry, has_rowid}
use Rattle.row_store.proofs.TieLaws.{none-has_rowid, put-tied, put-rows, put-entry, entry_at}
use Rattle.row_store.proofs.claims.enter.Goals as goal

pub put-requires-clause-rowid : goal.put-requires-clause-rowid
put-requires-clause-rowid c =
    let fits : SFits w64 c.args.place.now.rowid = search rules in
    let same = to_z-of_z w64 c.args.place.now.rowid fits in
    ap (λ i. has_rowid i c.args.index.now) same ∙ none-has_rowid c.args.place.now.rowid c.args.index.now c.requires.none

now : (c : goal.After-put) → c.put.new.self ≡ (if is_ok c.put.result then with_entry (entry_at c.args.place.now (option_copied c.args.id)) c.args.index.now else c.args.index.now)
now c =
    let fits : SFits w64 c.args.place.now.rowid = search rules in
    let same = to_z-of_z w64 c.args.place.now.rowid fits in
    rw same at c.put.ensures

pub returns-clause-tied : goal.returns-clause-tied
returns-clause-tied c = put-tied c.args.parts.now c.args.places.now c.args.index.now c.args.place.now (option_copied c.args.id) c.requires.tied c.requires.none (is_ok c.put.result) c.put.new.self (now c)

pub returns-clause-rows : goal.returns-clause-rows
returns-clause-rows c = put-rows c.args.parts.now c.args.places.now c.args.index.now c.args.place.now (option_copied c.args.id) c.requires.tied c.requires.none (is_ok c.put.result) c.put.new.self (now c)

pub returns-clause-entry : goal.returns-clause-entry
returns-clause-entry c = put-entry c.args.parts.now c.args.places.now c.args.index.now c.args.place.now (option_copied c.args.id) c.requires.tied c.requires.none c.put.result c.put.new.self (now c)
