-- Each key of a table whose rows are shown by records has a record.
use Rattle.std.proofs.Common.{◌≡◌, ℕ, zero, suc, ◌≤◌, ℤ, pos, negsuc, Bool, true, false, cond, List, [], ◌∷◌, length, get_or, take, drop, refl, sym, ap, ap₂, ◌∙◌, arith, Some, None}
use Rattle.std.specs.Prelude.{◌==◌, is_some, nat_lt}
use Rattle.std.specs.Option.{option_and_then, option_map}
use Rattle.std.specs.Str.{is_utf8}
use Rattle.std.specs.declared.option.Option.{Option}
use Rattle.std.proofs.lemmas.Bool.{and_parts, eqb-true, ltb-false}
use Rattle.vec_base.specs.declared.shadow.ShadowKey.{ShadowKey}
use Rattle.vec_base.specs.declared.value.Value.{Value}
use Rattle.vec_base.specs.declared.value.Value.TheVariants.{Null, Int, Text, Int8, Bits}
use Rattle.record_bodies.specs.Bodies.{bit_in, bool_in, bool_of, int_in, length_in, number_in, side_value, text_in, viewed_text}
use Rattle.record_bodies.specs.ReadRows.{RowSource, chunk_record, decoded, row_cell, row_record, value_of, values_of}
use Rattle.record_bodies.proofs.FindLaws.{found_passes, some_is}
use Rattle.row_model.specs.Schemas.{count_of, has_role, is_auxiliary, is_metadata, is_vector, role_of}
use Rattle.row_model.specs.declared.schema.Kind.{Kind}
use Rattle.row_model.specs.declared.schema.Kind.TheVariants.{IntKey, TextKey, Int8Vector, BitVector, IntPartition, TextPartition, IntMeta, TextMeta, BoolMeta, IntAux, TextAux, BlobAux}
use Rattle.shadow_records.specs.Cells.{long_text, side_body}
use Rattle.shadow_records.specs.Keys.{key_of}
use Rattle.shadow_records.specs.PlacedTables.{PlacedRow, PlacedTable, first_in, row_of, value_in}
use Rattle.shadow_records.specs.Records.{ColumnAt, at_zero, body_at, body_of, cells_body, chunk_body, column_at, info_body, nth_column, of_chunk, of_first, place_body, value_body}
use Rattle.shadow_records.specs.declared.kinds.TheConstants.{INFO_RECORDS, CHUNK_RECORDS, ROW_RECORDS, VECTOR_RECORDS, METADATA_RECORDS, LONG_TEXT_RECORDS, AUXILIARY_RECORDS, TEXT_VIEW_BYTES}
use Rattle.table_attach.proofs.RowFacts.{Rising, found-own}
use Rattle.table_attach.proofs.ShownLaws.{IsShown, column-split, shown-from, value-shown}

-- ---- where a value is shown, its record is there

mapped : {X Y : Type 0} (f : X → Y) (o : Option X) (y : Y) → option_map f o ≡ Some y → is_some o ≡ true
mapped f None y e = absurd cc
mapped f (Some x) y e = refl

said : {X : Type 0} (says : List ℕ → Option X) (o : Option (List ℕ)) (x : X) → option_and_then says o ≡ Some x → is_some o ≡ true
said says None x e = absurd cc
said says (Some body) x e = refl

is_cell : {X : Type 0} (o : Option X) (x : X) → o ≡ Some x → is_some o ≡ true
is_cell o x e = ap is_some e

some_of : {X : Type 0} (o : Option X) → is_some o ≡ true → (x : X) × (o ≡ Some x)
some_of None h = absurd cc
some_of (Some x) h = (x, refl)

-- a cell is that of a record
cell_record : (row : RowSource) (kind count : ℕ) (column : Kind) → is_some (row_cell row kind count column) ≡ true → is_some (chunk_record row kind count) ≡ true
cell_record row kind count column there = let cell = some_of (row_cell row kind count column) there in said _ (chunk_record row kind count) cell.0 cell.1

vector_record : (kind : Kind) → is_vector kind ≡ true → (row : RowSource) (count : ℕ) (x : Value) → value_of row count kind ≡ Some x → is_some (chunk_record row VECTOR_RECORDS count) ≡ true
vector_record (Int8Vector w m) s row count x e = cell_record row VECTOR_RECORDS count (Int8Vector w m) (mapped Int8 _ x e)
vector_record (BitVector w) s row count x e = cell_record row VECTOR_RECORDS count (BitVector w) (mapped Bits _ x e)
vector_record IntKey s row count x e = absurd cc
vector_record TextKey s row count x e = absurd cc
vector_record IntPartition s row count x e = absurd cc
vector_record TextPartition s row count x e = absurd cc
vector_record IntMeta s row count x e = absurd cc
vector_record TextMeta s row count x e = absurd cc
vector_record BoolMeta s row count x e = absurd cc
vector_record IntAux s row count x e = absurd cc
vector_record TextAux s row count x e = absurd cc
vector_record BlobAux s row count x e = absurd cc

metadata_record : (kind : Kind) → is_metadata kind ≡ true → (row : RowSource) (count : ℕ) (x : Value) → value_of row count kind ≡ Some x → is_some (chunk_record row METADATA_RECORDS count) ≡ true
metadata_record IntMeta s row count x e = cell_record row METADATA_RECORDS count IntMeta (said int_in _ x e)
metadata_record TextMeta s row count x e = cell_record row METADATA_RECORDS count TextMeta (said (viewed_text (row_record row LONG_TEXT_RECORDS count)) _ x e)
metadata_record BoolMeta s row count x e = said (bool_in row.slot) (chunk_record row METADATA_RECORDS count) x e
metadata_record (Int8Vector w m) s row count x e = absurd cc
metadata_record (BitVector w) s row count x e = absurd cc
metadata_record IntKey s row count x e = absurd cc
metadata_record TextKey s row count x e = absurd cc
metadata_record IntPartition s row count x e = absurd cc
metadata_record TextPartition s row count x e = absurd cc
metadata_record IntAux s row count x e = absurd cc
metadata_record TextAux s row count x e = absurd cc
metadata_record BlobAux s row count x e = absurd cc

side_record : (says : List ℕ → Option Value) (o : Option (List ℕ)) (x : Value) (body : List ℕ) → side_value says o ≡ Some x → side_body x ≡ Some body → is_some o ≡ true
side_record says None x body e b = let same : Null ≡ x = cc in let never : None ≡ Some body = ap side_body same ∙ b in absurd cc
side_record says (Some kept) x body e b = refl

auxiliary_record : (kind : Kind) → is_auxiliary kind ≡ true → (row : RowSource) (count : ℕ) (x : Value) (body : List ℕ) → value_of row count kind ≡ Some x → side_body x ≡ Some body → is_some (row_record row AUXILIARY_RECORDS count) ≡ true
auxiliary_record IntAux s row count x body e b = side_record _ (row_record row AUXILIARY_RECORDS count) x body e b
auxiliary_record TextAux s row count x body e b = side_record _ (row_record row AUXILIARY_RECORDS count) x body e b
auxiliary_record BlobAux s row count x body e b = side_record _ (row_record row AUXILIARY_RECORDS count) x body e b
auxiliary_record (Int8Vector w m) s row count x body e b = absurd cc
auxiliary_record (BitVector w) s row count x body e b = absurd cc
auxiliary_record IntKey s row count x body e b = absurd cc
auxiliary_record TextKey s row count x body e b = absurd cc
auxiliary_record IntPartition s row count x body e b = absurd cc
auxiliary_record TextPartition s row count x body e b = absurd cc
auxiliary_record IntMeta s row count x body e b = absurd cc
auxiliary_record TextMeta s row count x body e b = absurd cc
auxiliary_record BoolMeta s row count x body e b = absurd cc

-- ---- long texts

short_take : (k : ℕ) (xs : List ℕ) → length (take k xs) ≤ k
short_take zero xs = omega arith
short_take (suc k) [] = omega arith
short_take (suc k) (x ∷ xs) = let rest = short_take k xs in omega (arith, rest)

text_says : (bytes : List ℕ) (x : Value) → text_in bytes ≡ Some x → x ≡ Text bytes
text_says bytes x e = by_test (is_utf8 bytes) e where
  by_test : (b : Bool) → cond b (Some (Text bytes)) None ≡ Some x → x ≡ Text bytes
  by_test true e = sym (some_is e)
  by_test false e = absurd cc

viewed_record : (long : Option (List ℕ)) (view : List ℕ) (x : Value) (body : List ℕ) → viewed_text long view ≡ Some x → long_text x ≡ Some body → is_some long ≡ true
viewed_record long view x body e b = by_test (nat_lt TEXT_VIEW_BYTES (length_in view)) refl e where
  by_test : (t : Bool) → nat_lt TEXT_VIEW_BYTES (length_in view) ≡ t → cond t (option_and_then text_in long) (text_in (take (length_in view) (drop 4 view))) ≡ Some x → is_some long ≡ true
  by_test true h e = said text_in long x e
  by_test false h e =
      let text = take (length_in view) (drop 4 view) in
      let most = short_take (length_in view) (drop 4 view) in
      let few = ltb-false TEXT_VIEW_BYTES (length_in view) h in
      let short : nat_lt TEXT_VIEW_BYTES (length text) ≡ false = grind (arith, most, few) in
      let none : long_text x ≡ None = ap long_text (text_says text x e) ∙ ap (λ t. cond t (Some text) None) short in
      let never : None ≡ Some body = sym none ∙ b in
      absurd cc

viewed_cell : (long : Option (List ℕ)) (cell : Option (List ℕ)) (x : Value) (body : List ℕ) → option_and_then (viewed_text long) cell ≡ Some x → long_text x ≡ Some body → is_some long ≡ true
viewed_cell long None x body e b = absurd cc
viewed_cell long (Some view) x body e b = viewed_record long view x body e b

never_long : (o : Option Value) (x : Value) (body : List ℕ) → ((y : Value) → o ≡ Some y → long_text y ≡ None) → o ≡ Some x → long_text x ≡ Some body → ⊥
never_long o x body none e b = let never : None ≡ Some body = sym (none x e) ∙ b in absurd cc

no_text_int : (o : Option (List ℕ)) (y : Value) → option_and_then int_in o ≡ Some y → long_text y ≡ None
no_text_int None y e = absurd cc
no_text_int (Some bytes) y e = by_test (length bytes == 8) e where
  by_test : (t : Bool) → cond t (Some (Int (number_in bytes))) None ≡ Some y → long_text y ≡ None
  by_test true e = ap long_text (sym (some_is e))
  by_test false e = absurd cc

no_text_bool : (slot : ℕ) (o : Option (List ℕ)) (y : Value) → option_and_then (bool_in slot) o ≡ Some y → long_text y ≡ None
no_text_bool slot None y e = absurd cc
no_text_bool slot (Some bytes) y e = by_bit (bit_in slot bytes) e where
  by_bit : (o : Option Bool) → option_map bool_of o ≡ Some y → long_text y ≡ None
  by_bit None e = absurd cc
  by_bit (Some true) e = ap long_text (sym (some_is e))
  by_bit (Some false) e = ap long_text (sym (some_is e))

long_record : (kind : Kind) → is_metadata kind ≡ true → (row : RowSource) (count : ℕ) (x : Value) (body : List ℕ) → value_of row count kind ≡ Some x → long_text x ≡ Some body → is_some (row_record row LONG_TEXT_RECORDS count) ≡ true
long_record TextMeta s row count x body e b = viewed_cell (row_record row LONG_TEXT_RECORDS count) (row_cell row METADATA_RECORDS count TextMeta) x body e b
long_record IntMeta s row count x body e b = absurd (never_long (value_of row count IntMeta) x body (λ y is. no_text_int (row_cell row METADATA_RECORDS count IntMeta) y is) e b)
long_record BoolMeta s row count x body e b = absurd (never_long (value_of row count BoolMeta) x body (λ y is. no_text_bool row.slot (chunk_record row METADATA_RECORDS count) y is) e b)
long_record (Int8Vector w m) s row count x body e b = absurd cc
long_record (BitVector w) s row count x body e b = absurd cc
long_record IntKey s row count x body e b = absurd cc
long_record TextKey s row count x body e b = absurd cc
long_record IntPartition s row count x body e b = absurd cc
long_record TextPartition s row count x body e b = absurd cc
long_record IntAux s row count x body e b = absurd cc
long_record TextAux s row count x body e b = absurd cc
long_record BlobAux s row count x body e b = absurd cc

-- ---- the keys of a table

-- the columns of a kind's role are those of the role that the kind has
abbrev same_role : (sort : Kind → Bool) → Type 0
same_role sort = (kind : Kind) → sort kind ≡ true → has_role (role_of kind) ≡ sort

vector_role : same_role is_vector
vector_role (Int8Vector w m) s = refl
vector_role (BitVector w) s = refl
vector_role IntKey s = absurd cc
vector_role TextKey s = absurd cc
vector_role IntPartition s = absurd cc
vector_role TextPartition s = absurd cc
vector_role IntMeta s = absurd cc
vector_role TextMeta s = absurd cc
vector_role BoolMeta s = absurd cc
vector_role IntAux s = absurd cc
vector_role TextAux s = absurd cc
vector_role BlobAux s = absurd cc

metadata_role : same_role is_metadata
metadata_role IntMeta s = refl
metadata_role TextMeta s = refl
metadata_role BoolMeta s = refl
metadata_role (Int8Vector w m) s = absurd cc
metadata_role (BitVector w) s = absurd cc
metadata_role IntKey s = absurd cc
metadata_role TextKey s = absurd cc
metadata_role IntPartition s = absurd cc
metadata_role TextPartition s = absurd cc
metadata_role IntAux s = absurd cc
metadata_role TextAux s = absurd cc
metadata_role BlobAux s = absurd cc

auxiliary_role : same_role is_auxiliary
auxiliary_role IntAux s = refl
auxiliary_role TextAux s = refl
auxiliary_role BlobAux s = refl
auxiliary_role (Int8Vector w m) s = absurd cc
auxiliary_role (BitVector w) s = absurd cc
auxiliary_role IntKey s = absurd cc
auxiliary_role TextKey s = absurd cc
auxiliary_role IntPartition s = absurd cc
auxiliary_role TextPartition s = absurd cc
auxiliary_role IntMeta s = absurd cc
auxiliary_role TextMeta s = absurd cc
auxiliary_role BoolMeta s = absurd cc

module _ (n : ℕ) (read : ShadowKey → Option (List ℕ)) (t : PlacedTable) (rising : Rising t.rows)
    (each : (i : ℤ) (p : PlacedRow) → row_of t.rows i ≡ Some p → decoded read n t.schema.columns i ≡ Some p)
    (info : is_some (read (key_of n INFO_RECORDS (pos 0) (pos 0))) ≡ true) (top : is_some (read (key_of n INFO_RECORDS (pos 1) (pos 0))) ≡ true) where
  shown : (i : ℤ) (p : PlacedRow) → row_of t.rows i ≡ Some p → IsShown read n t.schema.columns i p
  shown i p e = shown-from read n t.schema.columns i p (each i p e)

  first_shown : (c : ℕ) (first : PlacedRow) → first_in t.rows c ≡ Some first → IsShown read n t.schema.columns first.row.rowid first
  first_shown c first is = shown first.row.rowid first (found-own (λ x. x.chunk == c) t.rows first rising is)

  first_chunk : (c : ℕ) (first : PlacedRow) → first_in t.rows c ≡ Some first → first.chunk ≡ c
  first_chunk c first is = eqb-true first.chunk c (found_passes (λ x. x.chunk == c) t.rows first is)

  -- the value in a column of a role is shown
  value : (i : ℤ) (p : PlacedRow) (s : IsShown read n t.schema.columns i p) (sort : Kind → Bool) → same_role sort → (count : ℕ) (column : ColumnAt) → nth_column sort 0 t.schema.columns count ≡ Some column →
      (sort column.kind ≡ true) × (value_of s.source count column.kind ≡ Some (value_in column.place p))
  value i p s sort role count column e =
      let g = column-split sort 0 t.schema.columns count column e in
      let is : sort column.kind ≡ true = ap sort (sym g.kind_is) ∙ g.sorted in
      let back : length g.before ≡ column.place = let place = g.place in omega (arith, place) in
      let v = value-shown s.source [] g.before g.after g.column p.row.values (ap (values_of s.source []) (sym g.whole) ∙ s.values) in (
        is,
        ap₂ (λ (k : ℕ) (kind : Kind). value_of s.source k kind) (g.count ∙ ap (λ r. count_of r g.before) (sym (role g.column.kind g.sorted))) (sym g.kind_is)
            ∙ v ∙ ap (λ k. Some (get_or p.row.values k Null)) back,
      )

  abbrev Is : ℕ → ℤ → ℤ → Type 0
  Is kind a b = (body : List ℕ) → body_at t kind a b ≡ Some body → is_some (read (key_of n kind a b)) ≡ true

  infos : (a b : ℤ) → Is INFO_RECORDS a b
  infos (pos zero) (pos zero) body e = info
  infos (pos (suc zero)) (pos zero) body e = top
  infos (pos (suc (suc k))) (pos zero) body e = absurd cc
  infos (negsuc k) (pos zero) body e = absurd cc
  infos a (pos (suc j)) body e = absurd cc
  infos a (negsuc j) body e = absurd cc

  chunks : (a b : ℤ) → Is CHUNK_RECORDS a b
  chunks (negsuc c) b body e = absurd cc
  chunks (pos c) b body e = by_first (first_in t.rows c) refl b e where
    by_first : (o : Option PlacedRow) → first_in t.rows c ≡ o → (b : ℤ) → of_first (chunk_body t c b) o ≡ Some body → is_some (read (key_of n CHUNK_RECORDS (pos c) b)) ≡ true
    by_first None is b never = absurd cc
    by_first (Some first) is b e = by_b b e (first_shown c first is) (first_chunk c first is) where
      by_b : (b : ℤ) → chunk_body t c b first ≡ Some body → IsShown read n t.schema.columns first.row.rowid first → first.chunk ≡ c → is_some (read (key_of n CHUNK_RECORDS (pos c) b)) ≡ true
      by_b (pos zero) e s same = ap (λ c. is_some (read (key_of n CHUNK_RECORDS (pos c) (pos 0)))) (sym same) ∙ s.part
      by_b (pos (suc zero)) e s same = ap (λ c. is_some (read (key_of n CHUNK_RECORDS (pos c) (pos 1)))) (sym same) ∙ (and_parts _ _ s.both).0
      by_b (pos (suc (suc zero))) e s same = ap (λ c. is_some (read (key_of n CHUNK_RECORDS (pos c) (pos 2)))) (sym same) ∙ (and_parts _ _ s.both).1
      by_b (pos (suc (suc (suc k)))) e s same = absurd cc
      by_b (negsuc k) e s same = absurd cc

  places : (a b : ℤ) → Is ROW_RECORDS a b
  places a (pos (suc j)) body e = absurd cc
  places a (negsuc j) body e = absurd cc
  places a (pos zero) body e = by_row (row_of t.rows a) refl e where
    by_row : (o : Option PlacedRow) → row_of t.rows a ≡ o → place_body t.schema.columns o ≡ Some body → is_some (read (key_of n ROW_RECORDS a (pos 0))) ≡ true
    by_row None is never = absurd cc
    by_row (Some p) is e = (shown a p is).placed

  cells : (kind : ℕ) (sort : Kind → Bool) → same_role sort → ((k : Kind) → sort k ≡ true → (row : RowSource) (count : ℕ) (x : Value) → value_of row count k ≡ Some x → is_some (chunk_record row kind count) ≡ true) →
      (a b : ℤ) (body : List ℕ) → of_chunk t (λ c first. option_map (cells_body t c) (column_at sort t b)) a ≡ Some body → is_some (read (key_of n kind a b)) ≡ true
  cells kind sort role there (negsuc c) b body e = absurd cc
  cells kind sort role there (pos c) b body e = by_first (first_in t.rows c) refl b e where
    by_first : (o : Option PlacedRow) → first_in t.rows c ≡ o → (b : ℤ) → of_first (λ first. option_map (cells_body t c) (column_at sort t b)) o ≡ Some body → is_some (read (key_of n kind (pos c) b)) ≡ true
    by_first None is b never = absurd cc
    by_first (Some first) is (negsuc k) never = absurd cc
    by_first (Some first) is (pos count) e = by_column (nth_column sort 0 t.schema.columns count) refl e where
      by_column : (column : Option ColumnAt) → nth_column sort 0 t.schema.columns count ≡ column → option_map (cells_body t c) column ≡ Some body → is_some (read (key_of n kind (pos c) (pos count))) ≡ true
      by_column None at never = absurd cc
      by_column (Some column) at e =
          let s = first_shown c first is in
          let v = value first.row.rowid first s sort role count column at in
          let record_there = there column.kind v.0 s.source count (value_in column.place first) v.1 in
          ap (λ c. is_some (read (key_of n kind (pos c) (pos count)))) (sym (s.chunk ∙ first_chunk c first is))
          ∙ ap₂ (λ (r : ShadowKey → Option (List ℕ)) (m : ℕ). is_some (r (key_of m kind (pos s.source.chunk) (pos count)))) (sym s.reads) (sym s.under) ∙ record_there

  values : (kind : ℕ) (sort : Kind → Bool) (body_in : Value → Option (List ℕ)) → same_role sort →
      ((k : Kind) → sort k ≡ true → (row : RowSource) (count : ℕ) (x : Value) (body : List ℕ) → value_of row count k ≡ Some x → body_in x ≡ Some body → is_some (row_record row kind count) ≡ true) →
      (a b : ℤ) (body : List ℕ) → value_body body_in (row_of t.rows a) (column_at sort t b) ≡ Some body → is_some (read (key_of n kind a b)) ≡ true
  values kind sort body_in role there a b body e = by_row (row_of t.rows a) refl b e where
    by_row : (o : Option PlacedRow) → row_of t.rows a ≡ o → (b : ℤ) → value_body body_in o (column_at sort t b) ≡ Some body → is_some (read (key_of n kind a b)) ≡ true
    by_row None is b never = absurd cc
    by_row (Some p) is (negsuc k) never = absurd cc
    by_row (Some p) is (pos count) e = by_column (nth_column sort 0 t.schema.columns count) refl e where
      by_column : (column : Option ColumnAt) → nth_column sort 0 t.schema.columns count ≡ column → value_body body_in (Some p) column ≡ Some body → is_some (read (key_of n kind a (pos count))) ≡ true
      by_column None at never = absurd cc
      by_column (Some column) at e =
          let s = shown a p is in
          let v = value a p s sort role count column at in
          let record_there = there column.kind v.0 s.source count (value_in column.place p) body v.1 e in
          ap (λ i. is_some (read (key_of n kind i (pos count)))) (sym s.row)
          ∙ ap₂ (λ (r : ShadowKey → Option (List ℕ)) (m : ℕ). is_some (r (key_of m kind s.source.rowid (pos count)))) (sym s.reads) (sym s.under) ∙ record_there

  -- where the table has a body, there is a record
  pub complete : (q : ShadowKey) → q.table ≡ n → (body : List ℕ) → body_of t q ≡ Some body → is_some (read q) ≡ true
  complete q same body e =
      ap (λ m. is_some (read (key_of m q.kind q.a q.b))) same
      ∙ by_kind (q.kind == INFO_RECORDS) (q.kind == CHUNK_RECORDS) (q.kind == ROW_RECORDS) (q.kind == VECTOR_RECORDS) (q.kind == METADATA_RECORDS) (q.kind == LONG_TEXT_RECORDS) (q.kind == AUXILIARY_RECORDS) refl refl refl refl refl refl refl e
    where
      by_kind : (a b c d f g h : Bool) → (q.kind == INFO_RECORDS) ≡ a → (q.kind == CHUNK_RECORDS) ≡ b → (q.kind == ROW_RECORDS) ≡ c → (q.kind == VECTOR_RECORDS) ≡ d → (q.kind == METADATA_RECORDS) ≡ f → (q.kind == LONG_TEXT_RECORDS) ≡ g →
          (q.kind == AUXILIARY_RECORDS) ≡ h →
          cond a (at_zero q.b (info_body t q.a)) (cond b (of_chunk t (λ c. chunk_body t c q.b) q.a) (cond c (at_zero q.b (place_body t.schema.columns (row_of t.rows q.a)))
          (cond d (of_chunk t (λ c first. option_map (cells_body t c) (column_at is_vector t q.b)) q.a) (cond f (of_chunk t (λ c first. option_map (cells_body t c) (column_at is_metadata t q.b)) q.a)
          (cond g (value_body long_text (row_of t.rows q.a) (column_at is_metadata t q.b)) (cond h (value_body side_body (row_of t.rows q.a) (column_at is_auxiliary t q.b)) None)))))) ≡ Some body → is_some (read (key_of n q.kind q.a q.b)) ≡ true
      by_kind true b c d f g h x y z u w r s e = ap (λ k. is_some (read (key_of n k q.a q.b))) (eqb-true q.kind INFO_RECORDS x) ∙ infos q.a q.b body e
      by_kind false true c d f g h x y z u w r s e = ap (λ k. is_some (read (key_of n k q.a q.b))) (eqb-true q.kind CHUNK_RECORDS y) ∙ chunks q.a q.b body e
      by_kind false false true d f g h x y z u w r s e = ap (λ k. is_some (read (key_of n k q.a q.b))) (eqb-true q.kind ROW_RECORDS z) ∙ places q.a q.b body e
      by_kind false false false true f g h x y z u w r s e = ap (λ k. is_some (read (key_of n k q.a q.b))) (eqb-true q.kind VECTOR_RECORDS u) ∙ cells VECTOR_RECORDS is_vector vector_role vector_record q.a q.b body e
      by_kind false false false false true g h x y z u w r s e = ap (λ k. is_some (read (key_of n k q.a q.b))) (eqb-true q.kind METADATA_RECORDS w) ∙ cells METADATA_RECORDS is_metadata metadata_role metadata_record q.a q.b body e
      by_kind false false false false false true h x y z u w r s e = ap (λ k. is_some (read (key_of n k q.a q.b))) (eqb-true q.kind LONG_TEXT_RECORDS r) ∙ values LONG_TEXT_RECORDS is_metadata long_text metadata_role long_record q.a q.b body e
      by_kind false false false false false false true x y z u w r s e = ap (λ k. is_some (read (key_of n k q.a q.b))) (eqb-true q.kind AUXILIARY_RECORDS s) ∙ values AUXILIARY_RECORDS is_auxiliary side_body auxiliary_role auxiliary_record q.a q.b body e
      by_kind false false false false false false false x y z u w r s e = absurd cc
