use Rattle.std.proofs.Common.{rules, ◌≡◌, ℕ, List, ap, sym, ◌∙◌, length}
use Rattle.std.specs.BTreeMap.{is_at}
use Rattle.std.specs.FinMap.{insert}
use Rattle.std.specs.Map.{set_value}
use Rattle.shadow_records.specs.Batches.{patched_in}
use Rattle.shadow_records.specs.Keys.{key_cmp}
use Rattle.shadow_keeper.specs.Keeping.{tables_of}
use Rattle.journal_format.specs.Fitting.{lies_in}
use Rattle.journal_tables.proofs.MapLaws.{found, written_back}
use Rattle.journal_tables.proofs.change.patch.Goals as goal

pub returns-in-None-clause-inside : goal.returns-in-None-clause-inside
returns-in-None-clause-inside c = ap (lies_in c.args.at (length c.args.bytes.now)) (c.in-None.ensures.value ∙ sym (found c.args.tables.now.entries c.args.key.now))

pub returns-in-Some-clause-inside : goal.returns-in-Some-clause-inside
returns-in-Some-clause-inside c = c.write_over.ensures.inside ∙ ap (lies_in c.args.at (length c.args.bytes.now)) (c.in-Some.ensures.value ∙ sym (found c.args.tables.now.entries c.args.key.now))

pub returns-in-Some-clause-patched : goal.returns-in-Some-clause-patched
returns-in-Some-clause-patched c ok =
    let entries = c.args.tables.now.entries in
    let there = c.in-Some.ensures.value in
    let back : (c.get_mut.follows.lender c.write_over.new.body).entries ≡ set_value (is_at (key_cmp c.args.key.now)) entries c.write_over.new.body = search rules in
    ap tables_of back ∙ written_back entries c.args.key.now c.in-Some.body.now c.write_over.new.body there
    ∙ ap (λ (x : List ℕ). insert (tables_of entries) c.args.key.now x) (c.write_over.ensures.written ok)
    ∙ ap (patched_in (tables_of entries) c.args.key.now c.args.at c.args.bytes.now) (there ∙ sym (found entries c.args.key.now))
