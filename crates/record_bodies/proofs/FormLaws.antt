-- Reading partition values gives those whose bytes the body is, where there are such.
use Rattle.std.proofs.Common.{◌≡◌, ℕ, zero, suc, ◌+◌, ◌<◌, ◌^◌, ◌==◌, List, [], ◌∷◌, ◌++◌, length, take, drop, cond, Bool, true, false, ◌&&◌, refl, sym, ap, ap₂, ◌∙◌, subst, arith, flat_map, take-append-drop, w32, w64, slice_index, MatchOption, length-drop, length-take}
use Rattle.std.specs.declared.option.Option.{Option}
use Rattle.std.specs.declared.option.Option.TheVariants.{Some, None}
use Rattle.std.specs.Int.{from_le_bytes, to_le_bytes, cast_unsigned}
use Rattle.std.specs.Str.{is_utf8}
use Rattle.std.proofs.lemmas.Bool.{and_parts, false≢true, eqb-true}
use Rattle.std.proofs.lemmas.Int.{of_z-to_z}
use Rattle.std.proofs.lemmas.Nat.{le_bytes_4, le_bytes_8}
use mir.ValLaws.{to_z-Fits}
use Rattle.vec_base.specs.Representable.{AreBytes}
use Rattle.vec_base.specs.declared.value.Value.{Value}
use Rattle.vec_base.specs.declared.value.Value.TheVariants.{Null, Int, Text, Blob, Int8, Bits}
use Rattle.row_model.specs.declared.schema.Column.{Column}
use Rattle.row_model.specs.declared.schema.Kind.{Kind}
use Rattle.row_model.specs.declared.schema.Kind.TheVariants.{IntKey, TextKey, Int8Vector, BitVector, IntPartition, TextPartition, IntMeta, TextMeta, BoolMeta, IntAux, TextAux, BlobAux}
use Rattle.row_model.specs.Schemas.{is_partition}
use Rattle.shadow_records.specs.Cells.{number_bytes, partition_value_bytes}
use Rattle.record_bodies.specs.Bodies.{int_in, length_in, number_in, text_in, joined, partition_in, partition_value, partition_width}
use Rattle.record_bodies.specs.Partitions.{FitsPartition, FitPartitions, IsPartition, IsNoPartition, partition_kinds}
use Rattle.record_bodies.proofs.PartitionLaws.{ReadsBack, int_reads_back, text_reads_back, one_back}

-- ---- each values in the form are read

fit_reads_back : (kind : Kind) (x : Value) → FitsPartition kind x → ReadsBack kind x
fit_reads_back IntPartition (Int n) fits = int_reads_back (Int n) (n, refl) fits
fit_reads_back TextPartition (Text text) fits = text_reads_back (Text text) (text, (refl, fits.1)) fits.0
fit_reads_back IntKey _ fits = elim fits [ ]
fit_reads_back TextKey _ fits = elim fits [ ]
fit_reads_back (Int8Vector _ _) _ fits = elim fits [ ]
fit_reads_back (BitVector _) _ fits = elim fits [ ]
fit_reads_back IntPartition Null fits = elim fits [ ]
fit_reads_back IntPartition (Text text) fits = elim fits [ ]
fit_reads_back IntPartition (Blob _) fits = elim fits [ ]
fit_reads_back IntPartition (Int8 _) fits = elim fits [ ]
fit_reads_back IntPartition (Bits _) fits = elim fits [ ]
fit_reads_back TextPartition Null fits = elim fits [ ]
fit_reads_back TextPartition (Int n) fits = elim fits [ ]
fit_reads_back TextPartition (Blob _) fits = elim fits [ ]
fit_reads_back TextPartition (Int8 _) fits = elim fits [ ]
fit_reads_back TextPartition (Bits _) fits = elim fits [ ]
fit_reads_back IntMeta _ fits = elim fits [ ]
fit_reads_back TextMeta _ fits = elim fits [ ]
fit_reads_back BoolMeta _ fits = elim fits [ ]
fit_reads_back IntAux _ fits = elim fits [ ]
fit_reads_back TextAux _ fits = elim fits [ ]
fit_reads_back BlobAux _ fits = elim fits [ ]

pub complete : (columns : List Column) (values : List Value) → FitPartitions (partition_kinds columns) values → partition_in columns (flat_map partition_value_bytes values) ≡ Some values
complete [] [] fit = refl
complete [] (_ ∷ _) fit = elim fit [ ]
complete (c ∷ columns) values fit = by (is_partition c.kind) refl (complete columns) where
  by : (t : Bool) → is_partition c.kind ≡ t →
      ((values : List Value) → FitPartitions (partition_kinds columns) values → partition_in columns (flat_map partition_value_bytes values) ≡ Some values) →
      partition_in (c ∷ columns) (flat_map partition_value_bytes values) ≡ Some values
  by true e rest = one values (subst (λ (b : Bool). FitPartitions (cond b (c.kind ∷ partition_kinds columns) (partition_kinds columns)) values) e fit) where
    one : (values : List Value) → FitPartitions (c.kind ∷ partition_kinds columns) values → partition_in (c ∷ columns) (flat_map partition_value_bytes values) ≡ Some values
    one [] f = elim f [ ]
    one (x ∷ values) f =
        let back = one_back c.kind x columns values (fit_reads_back c.kind x f.0) (rest values f.1) in
        rw e back
  by false e rest =
      let back = rest values (subst (λ (b : Bool). FitPartitions (cond b (c.kind ∷ partition_kinds columns) (partition_kinds columns)) values) e fit) in
      rw e back

-- ---- what is read is in the form

some_joined : (o : Option Value) (r : Option (List Value)) (values : List Value) → joined o r ≡ Some values → (x : Value) × ((xs : List Value) × ((o ≡ Some x) × ((r ≡ Some xs) × (values ≡ x ∷ xs))))
some_joined None r values e = absurd cc
some_joined (Some x) None values e = absurd cc
some_joined (Some x) (Some xs) values e = (x, (xs, (refl, (refl, cc))))

over : {X : Type 0} (b : Bool) (o : Option X) (x : X) → cond b o None ≡ Some x → (b ≡ true) × (o ≡ Some x)
over true o x e = (refl, e)
over false o x e = absurd cc

drop_bytes : (k : ℕ) (bytes : List ℕ) → AreBytes bytes → AreBytes (drop k bytes)
drop_bytes zero bytes all = all
drop_bytes (suc k) [] all = all
drop_bytes (suc k) (x ∷ bytes) all = drop_bytes k bytes (λ i. all (suc i))

take_bytes : (k : ℕ) (bytes : List ℕ) → AreBytes bytes → AreBytes (take k bytes)
take_bytes zero bytes all = λ i. empty i where
  empty : (i : ℕ) → slice_index [] i < 2 ^ 8
  empty zero = omega arith
  empty (suc i) = omega arith
take_bytes (suc k) [] all = all
take_bytes (suc k) (x ∷ bytes) all = λ i. at i (take_bytes k bytes (λ j. all (suc j))) where
  at : (i : ℕ) → AreBytes (take k bytes) → slice_index (x ∷ take k bytes) i < 2 ^ 8
  at zero rest = all 0
  at (suc i) rest = rest i

-- the first byte and those behind it
first_rest : (bytes : List ℕ) (x : ℕ) → slice_index bytes 0 ≡ suc x → bytes ≡ suc x ∷ drop 1 bytes
first_rest [] x e = absurd (omega (arith, e))
first_rest (y ∷ bytes) x e = ap (λ z. z ∷ bytes) e

number_small : (bytes : List ℕ) → AreBytes bytes → length bytes ≡ 8 → from_le_bytes w64 bytes < 2 ^ 64
number_small bytes all long =
    let a = all 0 in let b = all 1 in let c = all 2 in let d = all 3 in let e = all 4 in let f = all 5 in let g = all 6 in let h = all 7 in
    omega (arith, a, b, c, d, e, f, g, h)

number_spelled : (bytes : List ℕ) → AreBytes bytes → length bytes ≡ 8 → number_bytes (number_in bytes) ≡ bytes
number_spelled bytes all long = le_bytes_8 bytes (cast_unsigned w64 (number_in bytes)) long all (of_z-to_z w64 (from_le_bytes w64 bytes) (number_small bytes all long))

-- what is read of one piece is a value whose bytes it is
pub record IsPiece (kind : Kind) (piece : List ℕ) (x : Value) : Type 0 where
  pub fits : FitsPartition kind x
  pub spelled : partition_value_bytes x ≡ piece

number_piece : (piece : List ℕ) (x : Value) → AreBytes piece → partition_value IntPartition piece ≡ Some x → IsPiece IntPartition piece x
number_piece piece x all e =
    let tagged = over (slice_index piece 0 == 1) (int_in (drop 1 piece)) x e in
    let eight = over (length (drop 1 piece) == 8) (Some (Int (number_in (drop 1 piece)))) x tagged.1 in
    let rest : AreBytes (drop 1 piece) = drop_bytes 1 piece all in
    let long : length (drop 1 piece) ≡ 8 = eqb-true (length (drop 1 piece)) 8 eight.0 in
    let is : Int (number_in (drop 1 piece)) ≡ x = value_is eight.1 in
    let first : piece ≡ 1 ∷ drop 1 piece = first_rest piece 0 (eqb-true (slice_index piece 0) 1 tagged.0) in
    subst (IsPiece IntPartition piece) is (record {
      fits = to_z-Fits w64 (from_le_bytes w64 (drop 1 piece)) (record { fits = number_small (drop 1 piece) rest long });
      spelled = ap (λ l. 1 ∷ l) (number_spelled (drop 1 piece) rest long) ∙ sym first;
    })
  where
    value_is : {a b : Value} → Some a ≡ Some b → a ≡ b
    value_is f = cc

text_piece : (piece : List ℕ) (x : Value) → AreBytes piece → partition_value TextPartition piece ≡ Some x → IsPiece TextPartition piece x
text_piece piece x all e =
    let tagged = over (slice_index piece 0 == 2 && length piece == 5 + length_in (drop 1 piece)) (text_in (drop 5 piece)) x e in
    let tests = and_parts (slice_index piece 0 == 2) (length piece == 5 + length_in (drop 1 piece)) tagged.0 in
    let utf8 = over (is_utf8 (drop 5 piece)) (Some (Text (drop 5 piece))) x tagged.1 in
    let long : length piece ≡ 5 + length_in (drop 1 piece) = eqb-true (length piece) (5 + length_in (drop 1 piece)) tests.1 in
    let first : piece ≡ 2 ∷ drop 1 piece = first_rest piece 1 (eqb-true (slice_index piece 0) 2 tests.0) in
    let is : Text (drop 5 piece) ≡ x = value_is utf8.1 in
    let text_long : length_in (drop 1 piece) ≡ length (drop 5 piece) = omega (arith, length-drop 5 piece, long) in
    let four : length (take 4 (drop 1 piece)) ≡ 4 = omega (arith, length-take 4 (drop 1 piece), length-drop 1 piece, long) in
    let small : AreBytes (take 4 (drop 1 piece)) = take_bytes 4 (drop 1 piece) (drop_bytes 1 piece all) in
    let length_spelled : to_le_bytes w32 (length (drop 5 piece)) ≡ take 4 (drop 1 piece) = le_bytes_4 (take 4 (drop 1 piece)) (length (drop 5 piece)) four small (sym text_long) in
    subst (IsPiece TextPartition piece) is (record {
      fits = (utf8.0, length_small (take 4 (drop 1 piece)) (length (drop 5 piece)) small four (sym text_long));
      spelled = ap (λ l. 2 ∷ (l ++ drop 5 piece)) length_spelled ∙ ap (λ l. 2 ∷ (take 4 (drop 1 piece) ++ l)) (behind piece) ∙ ap (λ l. 2 ∷ l) (take-append-drop 4 (drop 1 piece)) ∙ sym first;
    })
  where
    value_is : {a b : Value} → Some a ≡ Some b → a ≡ b
    value_is f = cc

    behind : (bytes : List ℕ) → drop 5 bytes ≡ drop 4 (drop 1 bytes)
    behind [] = refl
    behind (y ∷ bytes) = refl

    length_small : (bytes : List ℕ) (n : ℕ) → AreBytes bytes → length bytes ≡ 4 → n ≡ from_le_bytes w32 bytes → n < 2 ^ 32
    length_small bytes n all long e = (let a = all 0 in let b = all 1 in let c = all 2 in let d = all 3 in omega (arith, a, b, c, d, e))

is_piece : (kind : Kind) (piece : List ℕ) (x : Value) → AreBytes piece → is_partition kind ≡ true → partition_value kind piece ≡ Some x → IsPiece kind piece x
is_piece IntKey piece x all p e = absurd (false≢true p)
is_piece TextKey piece x all p e = absurd (false≢true p)
is_piece (Int8Vector w m) piece x all p e = absurd (false≢true p)
is_piece (BitVector w) piece x all p e = absurd (false≢true p)
is_piece IntPartition piece x all p e = number_piece piece x all e
is_piece TextPartition piece x all p e = text_piece piece x all e
is_piece IntMeta piece x all p e = absurd (false≢true p)
is_piece TextMeta piece x all p e = absurd (false≢true p)
is_piece BoolMeta piece x all p e = absurd (false≢true p)
is_piece IntAux piece x all p e = absurd (false≢true p)
is_piece TextAux piece x all p e = absurd (false≢true p)
is_piece BlobAux piece x all p e = absurd (false≢true p)

pub sound : (columns : List Column) (body : List ℕ) (values : List Value) → AreBytes body → partition_in columns body ≡ Some values → IsPartition columns body values
sound [] body values all e =
    let empty = over (length body == 0) (Some []) values e in
    let none : values ≡ [] = cc in
    subst (IsPartition [] body) (sym none) (record { fitting = tt; spelled = sym (nothing body (eqb-true (length body) 0 empty.0)) })
  where
    nothing : (bytes : List ℕ) → length bytes ≡ 0 → bytes ≡ []
    nothing [] f = refl
    nothing (y ∷ bytes) f = absurd (omega arith)
sound (c ∷ columns) body values all e = by (is_partition c.kind) refl e (sound columns) where
  width : ℕ
  width = partition_width c.kind body

  by : (t : Bool) → is_partition c.kind ≡ t →
      cond t (joined (partition_value c.kind (take (partition_width c.kind body) body)) (partition_in columns (drop (partition_width c.kind body) body))) (partition_in columns body) ≡ Some values →
      ((body : List ℕ) (values : List Value) → AreBytes body → partition_in columns body ≡ Some values → IsPartition columns body values) →
      IsPartition (c ∷ columns) body values
  by true p f rest =
      let parts = some_joined (partition_value c.kind (take (partition_width c.kind body) body)) (partition_in columns (drop (partition_width c.kind body) body)) values f in
      let piece = is_piece c.kind (take (partition_width c.kind body) body) parts.0 (take_bytes (partition_width c.kind body) body all) p parts.1.1.0 in
      let more = rest (drop (partition_width c.kind body) body) parts.1.0 (drop_bytes (partition_width c.kind body) body all) parts.1.1.1.0 in
      subst (IsPartition (c ∷ columns) body) (sym parts.1.1.1.1) (record {
        fitting = subst (λ (b : Bool). FitPartitions (cond b (c.kind ∷ partition_kinds columns) (partition_kinds columns)) (parts.0 ∷ parts.1.0)) (sym p) (piece.fits, more.fitting);
        spelled = ap₂ ◌++◌ piece.spelled more.spelled ∙ take-append-drop (partition_width c.kind body) body;
      })
  by false p f rest =
      let more = rest body values all f in
      record { fitting = subst (λ (b : Bool). FitPartitions (cond b (c.kind ∷ partition_kinds columns) (partition_kinds columns)) values) (sym p) more.fitting; spelled = more.spelled }

-- what is read is all that is in the form
pub exact : (columns : List Column) (body : List ℕ) (read : Option (List Value)) → AreBytes body → read ≡ partition_in columns body → MatchOption read (IsNoPartition columns body) (IsPartition columns body)
exact columns body None all e = λ values is. none (e ∙ ap (partition_in columns) (sym is.spelled) ∙ complete columns values is.fitting) where
  none : {values : List Value} → None ≡ Some values → ⊥
  none f = cc
exact columns body (Some values) all e = sound columns body values all (sym e)
