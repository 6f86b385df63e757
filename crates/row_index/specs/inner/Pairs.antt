-- Ids paired with rowids, some of which may be those of entries that are gone.
use Rattle.std.specs.Prelude.{◌≡◌, ℕ, ℤ, List, Some, ⊤}
use Rattle.std.specs.declared.option.Option.{Option}
use Rattle.std.specs.Cmp.Lexicographic.{slice_cmp}
use Rattle.std.specs.List.{AllByRecursion}
use Rattle.std.specs.Option.{option_map, MatchOption}
use Rattle.std.specs.Ordering.{nat_cmp, int_cmp}
use Rattle.row_index.specs.declared.entry.Entry.{Entry}
use Rattle.row_index.specs.declared.entry.IdPair.{IdPair}
use Rattle.row_index.specs.inner.Keys.{Rises, item_of}

abbrev pub RowidsRise : List Entry → Type 0
RowidsRise entries = Rises int_cmp (λ entry. entry.rowid) entries

abbrev pub IdsRise : List IdPair → Type 0
IdsRise pairs = Rises (slice_cmp nat_cmp) (λ pair. pair.id) pairs

-- the rowid that is paired with an id
abbrev pub paired : List ℕ → List IdPair → Option ℤ
paired id pairs = option_map (λ pair. pair.rowid) (item_of (slice_cmp nat_cmp) (λ pair. pair.id) id pairs)

-- the id of the entry, if it has one, is paired with its rowid
abbrev pub IsPaired : List IdPair → Entry → Type 0
IsPaired pairs entry = MatchOption entry.id ⊤ (λ id. paired id pairs ≡ Some entry.rowid)

pub record IsIndexed (es : List Entry) (ps : List IdPair) : Type 0 where
  pub rowids : RowidsRise es
  pub ids : IdsRise ps
  pub paired_ids : AllByRecursion (IsPaired ps) es
