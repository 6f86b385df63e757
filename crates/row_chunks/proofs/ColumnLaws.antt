-- The cells of one slot changed in one column after another.
use Rattle.std.proofs.Common.{◌≡◌, ◌<◌, ◌+◌, ◌++◌, ◌∷◌, ℕ, List, [], take, arith, length, get_or, set, refl, sym, ap, ◌∙◌, subst, length-set}
use Rattle.std.specs.List.{All}
use Rattle.std.proofs.Math.Seq.{map-set_same}
use Rattle.std.proofs.lemmas.List.{length-map, map-set, get_or-map, get_or-set_same, get_or-set_other}
use Rattle.std.proofs.lemmas.Grind.{take-set_at}
use Rattle.vec_base.specs.declared.value.Value.{Value}
use Rattle.vec_base.specs.declared.value.Value.TheVariants.{Null}
use Rattle.row_chunks.specs.inner.CellColumns.{CellList, column_with, kinds_in, cells_at, HaveSlot, KeepsOthers}

pub keeps-itself : (slot : ℕ) (columns : List CellList) → KeepsOthers slot columns columns
keeps-itself slot columns = record { kinds = refl; sizes = refl; others = λ other apart. refl }

keeps-more : (slot : ℕ) (a b c : List CellList) → KeepsOthers slot a b → KeepsOthers slot b c → KeepsOthers slot a c
keeps-more slot a b c first then_ = record {
  kinds = then_.kinds ∙ first.kinds;
  sizes = then_.sizes ∙ first.sizes;
  others = λ other apart. then_.others other apart ∙ first.others other apart;
}

-- one column with another value for the slot
pub keeps-set : (slot i : ℕ) (v : Value) (columns : List CellList) (d : CellList) → KeepsOthers slot columns (set columns i (column_with slot v (get_or columns i d)))
keeps-set slot i v columns d = record {
  kinds = map-set_same (λ column. column.kind) columns i (column_with slot v (get_or columns i d)) d refl;
  sizes = map-set_same (λ column. length column.cells) columns i (column_with slot v (get_or columns i d)) d (length-set (get_or columns i d).cells slot v);
  others = λ other apart. map-set_same (λ column. get_or column.cells other Null) columns i (column_with slot v (get_or columns i d)) d (get_or-set_other (get_or columns i d).cells slot other v Null apart);
}

pub cells_set : (slot i : ℕ) (v : Value) (columns : List CellList) (d : CellList) → slot < length (get_or columns i d).cells →
    cells_at (set columns i (column_with slot v (get_or columns i d))) slot ≡ set (cells_at columns slot) i v
cells_set slot i v columns d within =
    map-set (λ column. get_or column.cells slot Null) columns i (column_with slot v (get_or columns i d))
    ∙ ap (set (cells_at columns slot) i) (get_or-set_same (get_or columns i d).cells slot v Null within)

-- a column of some has a value for the slot
pub slot_there : (slot i : ℕ) (columns : List CellList) (d : CellList) → HaveSlot slot columns → i < length columns → slot < length (get_or columns i d).cells
slot_there slot i columns d have lt =
    subst (λ n. slot < n) (get_or-map (λ column. length column.cells) columns i d 0 lt) (have i 0 (subst (λ n. i < n) (sym (length-map columns (λ column. length column.cells))) lt))

-- one column more has its new value for the slot
pub kept_more : (slot i : ℕ) (v : Value) (before after : List CellList) (d new : CellList) → new ≡ column_with slot v (get_or after i d) → KeepsOthers slot before after → KeepsOthers slot before (set after i new)
kept_more slot i v before after d new is kept =
    subst (λ c. KeepsOthers slot before (set after i c)) (sym is) (keeps-more slot before after (set after i (column_with slot v (get_or after i d))) kept (keeps-set slot i v after d))

have_kept : (slot : ℕ) (before after : List CellList) → HaveSlot slot before → KeepsOthers slot before after → HaveSlot slot after
have_kept slot before after have kept = subst (All (λ size. slot < size)) (sym kept.sizes) have

pub there_kept : (slot i : ℕ) (before after : List CellList) (d : CellList) → HaveSlot slot before → KeepsOthers slot before after → i < length after → slot < length (get_or after i d).cells
there_kept slot i before after d have kept lt = slot_there slot i after d (have_kept slot before after have kept) lt

pub cells_more : (slot i : ℕ) (v : Value) (before after : List CellList) (d new : CellList) → HaveSlot slot before → KeepsOthers slot before after → i < length after → new ≡ column_with slot v (get_or after i d) →
    take (i + 1) (cells_at (set after i new) slot) ≡ take i (cells_at after slot) ++ v ∷ []
cells_more slot i v before after d new have kept lt is =
    ap (λ c. take (i + 1) (cells_at (set after i c) slot)) is
    ∙ ap (take (i + 1)) (cells_set slot i v after d (there_kept slot i before after d have kept lt))
    ∙ take-set_at (cells_at after slot) i (i + 1) v refl (omega (arith, lt, length-map after (λ column. get_or column.cells slot Null)))

pub count_kept : (slot : ℕ) (before after : List CellList) → KeepsOthers slot before after → length after ≡ length (kinds_in before)
count_kept slot before after kept = sym (length-map after (λ column. column.kind)) ∙ ap length kept.kinds
