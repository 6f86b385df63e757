-- The records of one kind of a chunk or a row.
use Rattle.std.proofs.Common.{◌≡◌, ℕ, ℤ, pos, negsuc, List, true, false, ◌||◌, Option, Some, None, ⊎_elim, refl, sym, ap, ◌∙◌, subst, arith}
use Rattle.std.specs.Ordering.{int_eq}
use Rattle.std.proofs.lemmas.Bool.{or_cases}
use Rattle.row_model.specs.declared.schema.Schema.{Schema}
use Rattle.vec_base.specs.declared.shadow.Change.{Change}
use Rattle.vec_base.specs.declared.shadow.ShadowKey.{ShadowKey}
use Rattle.shadow_records.specs.PlacedTables.{PlacedTable}
use Rattle.shadow_records.specs.Records.{body_at}
use Rattle.shadow_records.specs.StandsFor.{record_in}
use Rattle.table_changes.specs.declared.turn.Turn.{Turn}
use Rattle.table_changes.specs.inner.Groups.{group_count}
use Rattle.table_changes.specs.inner.KeySets.{AreSame, is_below, is_chunk_kind, is_in_group, is_row_kind, is_within}
use Rattle.table_changes.specs.inner.Steps.{TurnsKeys}
use Rattle.table_changes.specs.inner.Turns.{AreSound, HaveSchema, HasSchema, IsSameChunk, IsSound, newer_in, older_in}
use Rattle.table_changes.proofs.KeySetLaws.{group_below, group_whole, three_groups}
use Rattle.table_changes.proofs.SameLaws.{no_chunk, no_chunk_zero, no_more_of_chunk, no_more_of_row, no_negative}

none_past : (o : Option PlacedTable) (schema : Schema) (kind : ℕ) (key : ShadowKey) → HasSchema o schema → (is_chunk_kind kind || is_row_kind kind) ≡ true → key.kind ≡ kind → is_below (group_count schema.columns kind) key.b ≡ false → record_in o key ≡ None
none_past None schema kind key same is at past = refl
none_past (Some table) schema kind key same is at past =
    let here : is_below (group_count table.schema.columns kind) key.b ≡ false = ap (λ (s : Schema). is_below (group_count s.columns kind) key.b) same ∙ past in
    ap (λ k. body_at table k key.a key.b) at
    ∙ ⊎_elim (λ chunk. no_more_of_chunk table kind key.a key.b chunk here) (λ row. no_more_of_row table kind key.a key.b row here) (or_cases (is_chunk_kind kind) (is_row_kind kind) is)

-- a group is written whole where as many records are as it may have
pub group_end : (turn : Turn) (schema : Schema) (number kind : ℕ) (a : ℤ) (count : ℕ) (old new : List Change) → HaveSchema turn schema → (is_chunk_kind kind || is_row_kind kind) ≡ true → count ≡ group_count schema.columns kind
    → TurnsKeys (group_below number kind a count) (older_in turn) (newer_in turn) old new → TurnsKeys (is_in_group number kind a) (older_in turn) (newer_in turn) old new
group_end turn schema number kind a count old new same is counted done =
    group_whole number kind a count (older_in turn) (newer_in turn) old new done
    (λ key at first past.
    let here : is_below (group_count schema.columns kind) key.b ≡ false = ap (λ n. is_below n key.b) (sym counted) ∙ past in
    none_past (older_in turn) schema kind key same.0 is at here ∙ sym (none_past (newer_in turn) schema kind key same.1 is at here))

-- ---- all groups of a chunk, and of a row

two_four : (◌≡◌ {A = ℕ} 2 4) → ⊥
two_four e = absurd (omega arith)

two_five : (◌≡◌ {A = ℕ} 2 5) → ⊥
two_five e = absurd (omega arith)

four_five : (◌≡◌ {A = ℕ} 4 5) → ⊥
four_five e = absurd (omega arith)

three_six : (◌≡◌ {A = ℕ} 3 6) → ⊥
three_six e = absurd (omega arith)

three_seven : (◌≡◌ {A = ℕ} 3 7) → ⊥
three_seven e = absurd (omega arith)

six_seven : (◌≡◌ {A = ℕ} 6 7) → ⊥
six_seven e = absurd (omega arith)

pub chunk_whole : (number chunk : ℕ) (a : ℤ) (older newer : Option PlacedTable) (one two three four : List Change) → a ≡ pos chunk
    → TurnsKeys (is_in_group number 2 a) older newer one two → TurnsKeys (is_in_group number 4 a) older newer two three → TurnsKeys (is_in_group number 5 a) older newer three four
    → TurnsKeys (is_within is_chunk_kind number (λ i. int_eq i (pos chunk))) older newer one four
chunk_whole number chunk a older newer one two three four at first second third =
    let P : ℤ → Type 0 = λ n. TurnsKeys (is_within is_chunk_kind number (λ i. int_eq i n)) older newer one four in
    subst P at (three_groups number 2 4 5 a older newer one two three four two_four two_five four_five first second third)

pub row_whole : (number : ℕ) (rowid : ℤ) (older newer : Option PlacedTable) (one two three four : List Change)
    → TurnsKeys (is_in_group number 3 rowid) older newer one two → TurnsKeys (is_in_group number 6 rowid) older newer two three → TurnsKeys (is_in_group number 7 rowid) older newer three four
    → TurnsKeys (is_within is_row_kind number (λ i. int_eq i rowid)) older newer one four
row_whole number rowid older newer one two three four first second third = three_groups number 3 6 7 rowid older newer one two three four three_six three_seven six_seven first second third

-- ---- the chunk 0, and negative numbers

zero_none : (o : Option PlacedTable) (key : ShadowKey) → IsSound o → is_chunk_kind key.kind ≡ true → key.a ≡ pos 0 → record_in o key ≡ None
zero_none None key sound is at = refl
zero_none (Some table) key sound is at = ap (λ a. body_at table key.kind a key.b) at ∙ no_chunk table key.kind 0 key.b is (no_chunk_zero table sound)

pub zero_same : (turn : Turn) → AreSound turn → IsSameChunk turn 0
zero_same turn sound key is at = zero_none (older_in turn) key sound.0 is at ∙ sym (zero_none (newer_in turn) key sound.1 is at)

negative_none : (o : Option PlacedTable) (n : ℕ) (key : ShadowKey) → is_chunk_kind key.kind ≡ true → key.a ≡ negsuc n → record_in o key ≡ None
negative_none None n key is at = refl
negative_none (Some table) n key is at = ap (λ a. body_at table key.kind a key.b) at ∙ no_negative table key.kind n key.b is

pub negative_same : (older newer : Option PlacedTable) (n : ℕ) → AreSame is_chunk_kind older newer (negsuc n)
negative_same older newer n key is at = negative_none older n key is at ∙ sym (negative_none newer n key is at)
