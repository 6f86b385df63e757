-- The values that cells take, and the kinds of columns by their places.
use Rattle.std.proofs.Common.{◌≡◌, ◌<◌, ℕ, zero, suc, Bool, true, List, [], ◌∷◌, length, get_or, slice_get, Option, Some, None, sym, ◌∙◌, arith, true≢false, false}
use Rattle.std.proofs.lemmas.Bool.{and_parts}
use Rattle.vec_base.specs.declared.value.Value.{Value}
use Rattle.vec_base.specs.declared.value.Value.TheVariants.{Null, Int, Text, Blob, Int8, Bits}
use Rattle.row_model.specs.declared.schema.Kind.{Kind}
use Rattle.row_model.specs.declared.schema.Kind.TheVariants.{BoolMeta}
use Rattle.row_model.specs.Values.{is_bool}
use Rattle.row_chunks.specs.Cells.{is_cell_value}
use Rattle.row_chunks.specs.inner.CellColumns.{CellList, kinds_in}

pub cell_bool : (v : Value) → is_cell_value BoolMeta v ≡ true → is_bool v ≡ true
cell_bool Null fits = absurd cc
cell_bool (Int n) fits = (and_parts (is_bool (Int n)) _ fits).0
cell_bool (Text text) fits = fits
cell_bool (Blob bytes) fits = fits
cell_bool (Int8 vector) fits = fits
cell_bool (Bits vector) fits = fits

-- what is said of a kind at a place, if one is there
module _ (takes : Option Kind → Bool) (none : takes None ≡ false) where
  pub kind_within : (kinds : List Kind) (i : ℕ) → takes (slice_get kinds i) ≡ true → i < length kinds
  kind_within [] i is = absurd (true≢false (sym is ∙ none))
  kind_within (kind ∷ kinds) zero is = omega arith
  kind_within (kind ∷ kinds) (suc i) is = omega (arith, kind_within kinds i is)

  pub kind_takes : (columns : List CellList) (i : ℕ) (d : CellList) → takes (slice_get (kinds_in columns) i) ≡ true → takes (Some (get_or columns i d).kind) ≡ true
  kind_takes [] i d is = absurd (true≢false (sym is ∙ none))
  kind_takes (column ∷ columns) zero d is = is
  kind_takes (column ∷ columns) (suc i) d is = kind_takes columns i d is
