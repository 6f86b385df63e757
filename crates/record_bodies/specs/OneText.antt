-- A text that is written for at most one schema.
use Rattle.std.specs.Prelude.{◌≡◌}
use Rattle.row_model.specs.CanonicalColumns.{canonical_columns}
use Rattle.row_model.specs.Schemas.{IsValidSchema}
use Rattle.row_model.specs.declared.schema.Schema.{Schema}

-- two valid schemas with one canonical text are one
abbrev pub OneText : Type 0
OneText = (s t : Schema) → IsValidSchema s → IsValidSchema t → canonical_columns s ≡ canonical_columns t → s ≡ t
