-- Rows by their places, by what slots hold.
use Rattle.std.proofs.Common.{◌≡◌, ℕ, zero, suc, ◌≤◌, ℤ, int_lt, List, [], ◌∷◌, length, get_or, cond, Bool, true, false, ◌&&◌, ◌==◌, refl, sym, ap, ◌∙◌, arith}
use Rattle.std.specs.Prelude.{is_some}
use Rattle.std.specs.List.{list_all, find}
use Rattle.std.specs.Option.{option_map}
use Rattle.std.specs.Ordering.{int_eq}
use Rattle.std.specs.declared.option.Option.{Option}
use Rattle.std.specs.declared.option.Option.TheVariants.{Some, None}
use Rattle.std.proofs.lemmas.Bool.{and_parts}
use Rattle.std.proofs.lemmas.Int.{ints}
use Rattle.chunk_slots.specs.Slots.{Slots, UsedSlot, rowid_of, slot_at}
use Rattle.row_model.specs.Rows.{is_rising}
use Rattle.shadow_records.specs.PlacedTables.{IsPlaced, PlacedRow, PlacedTable, first_in, is_at, plain_rows, row_at, row_of}
use Rattle.table_version.specs.Versions.{rowid_in, slot_of_row}

some_is : {X : Type 0} {x y : X} → Some x ≡ Some y → x ≡ y
some_is e = cc

int_same : (a : ℤ) → int_eq a a ≡ true
int_same a = grind (arith, ints)

int_less : (a b : ℤ) → int_lt a b ≡ true → int_eq a b ≡ false
int_less a b h = grind (arith, ints)

-- ---- a row that is found is the one of its rowid

above : (rowid : ℤ) (test : PlacedRow → Bool) (rows : List PlacedRow) (p : PlacedRow) → list_all (λ row. int_lt rowid row.rowid) (plain_rows rows) ≡ true → find test rows ≡ Some p →
    int_lt rowid p.row.rowid ≡ true
above rowid test [] p all e = absurd cc
above rowid test (q ∷ rows) p all e = by (above rowid test rows p (and_parts _ _ all).1) (test q) e where
  by : (find test rows ≡ Some p → int_lt rowid p.row.rowid ≡ true) → (b : Bool) → cond b (Some q) (find test rows) ≡ Some p → int_lt rowid p.row.rowid ≡ true
  by rest true f = ap (λ (x : PlacedRow). int_lt rowid x.row.rowid) (sym (some_is f)) ∙ (and_parts (int_lt rowid q.row.rowid) (list_all (λ row. int_lt rowid row.rowid) (plain_rows rows)) all).0
  by rest false f = rest f

pub of_found : (test : PlacedRow → Bool) (rows : List PlacedRow) (p : PlacedRow) → is_rising (plain_rows rows) ≡ true → find test rows ≡ Some p → row_of rows p.row.rowid ≡ Some p
of_found test [] p rising e = absurd cc
of_found test (q ∷ rows) p rising e = by (of_found test rows p (and_parts _ _ rising).1) (test q) e where
  by : (find test rows ≡ Some p → row_of rows p.row.rowid ≡ Some p) → (b : Bool) → cond b (Some q) (find test rows) ≡ Some p → cond (int_eq q.row.rowid p.row.rowid) (Some q) (row_of rows p.row.rowid) ≡ Some p
  by rest true f =
      ap (λ b. cond b (Some q) (row_of rows p.row.rowid)) (ap (λ (x : PlacedRow). int_eq q.row.rowid x.row.rowid) (sym (some_is f)) ∙ int_same q.row.rowid) ∙ f
  by rest false f =
      ap (λ b. cond b (Some q) (row_of rows p.row.rowid))
      (int_less q.row.rowid p.row.rowid (above q.row.rowid test rows p (and_parts (list_all (λ row. int_lt q.row.rowid row.rowid) (plain_rows rows)) (is_rising (plain_rows rows)) rising).0 f))
      ∙ rest f

-- ---- what slots tell

pub none_at : (o : Option PlacedRow) → None ≡ option_map rowid_in o → o ≡ None
none_at None e = refl
none_at (Some p) e = absurd cc

pub some_at : (o : Option PlacedRow) (i : ℤ) → Some i ≡ option_map rowid_in o → (p : PlacedRow) × ((o ≡ Some p) × (p.row.rowid ≡ i))
some_at None i e = absurd cc
some_at (Some p) i e = (p, (refl, sym (some_is e)))

-- the row at a place is the row of its rowid
pub row_there : (table : PlacedTable) (chunk slot : ℕ) (i : ℤ) → IsPlaced table → Some i ≡ option_map rowid_in (row_at table.rows chunk slot) → row_at table.rows chunk slot ≡ row_of table.rows i
row_there table chunk slot i placed e =
    let found = some_at (row_at table.rows chunk slot) i e in
    found.1.0 ∙ sym (of_found (is_at chunk slot) table.rows found.0 placed.valid.rising found.1.0) ∙ ap (row_of table.rows) found.1.1

pub rowid_there : (o : Option PlacedRow) → rowid_of (option_map slot_of_row o) ≡ option_map rowid_in o
rowid_there None = refl
rowid_there (Some p) = refl

none_slot : (o : Option PlacedRow) → None ≡ option_map slot_of_row o → None ≡ option_map rowid_in o
none_slot None e = refl
none_slot (Some p) e = absurd cc

past_none : (slots : List (Option UsedSlot)) (k : ℕ) → length slots ≤ k → get_or slots k None ≡ None
past_none [] k few = refl
past_none (x ∷ xs) zero few = absurd (omega arith)
past_none (x ∷ xs) (suc k) few = past_none xs k (omega arith)

pub past_slots : (chunk : Slots) (k : ℕ) (o : Option PlacedRow) → length chunk.slots ≤ k → slot_at chunk k ≡ option_map slot_of_row o → None ≡ option_map rowid_in o
past_slots chunk k o few e = none_slot o (sym (past_none chunk.slots k few) ∙ e)

pub no_chunk : (rows : List PlacedRow) (chunk slot : ℕ) → is_some (first_in rows chunk) ≡ false → None ≡ option_map rowid_in (row_at rows chunk slot)
no_chunk [] chunk slot e = refl
no_chunk (q ∷ rows) chunk slot e = by (no_chunk rows chunk slot) (q.chunk == chunk) e where
  by : (is_some (first_in rows chunk) ≡ false → None ≡ option_map rowid_in (row_at rows chunk slot)) → (b : Bool) → is_some (cond b (Some q) (first_in rows chunk)) ≡ false → None ≡ option_map rowid_in (cond (b && q.slot == slot) (Some q) (row_at rows chunk slot))
  by rest true f = absurd cc
  by rest false f = rest f
