-- The vectors of one slot changed in one column after another.
use Rattle.std.proofs.Common.{◌≡◌, ◌<◌, ◌+◌, ◌++◌, ◌∷◌, ℕ, List, [], take, replicate, arith, length, get_or, set, refl, sym, ap, ◌∙◌, subst, length-set}
use Rattle.std.specs.List.{All}
use Rattle.std.proofs.Math.Seq.{map-set_same}
use Rattle.std.proofs.lemmas.List.{length-map, take_more, map-set, get_or-map, get_or-set_same, get_or-set_other}
use Rattle.std.proofs.lemmas.Grind.{take-set_at}
use Rattle.chunk_slots.specs.Slots.{zero_vectors}
use Rattle.chunk_slots.specs.inner.Blocks.{VectorColumn, column_with}
use Rattle.chunk_slots.specs.inner.Columns.{widths_of, vectors_at, HaveSlot, KeepsOthers}

pub keeps-itself : (slot : ℕ) (columns : List VectorColumn) → KeepsOthers slot columns columns
keeps-itself slot columns = record { widths = refl; sizes = refl; others = λ other apart. refl }

pub keeps-more : (slot : ℕ) (a b c : List VectorColumn) → KeepsOthers slot a b → KeepsOthers slot b c → KeepsOthers slot a c
keeps-more slot a b c first then_ = record {
  widths = then_.widths ∙ first.widths;
  sizes = then_.sizes ∙ first.sizes;
  others = λ other apart. then_.others other apart ∙ first.others other apart;
}

-- one column with another vector for the slot
pub keeps-set : (slot i : ℕ) (v : List ℕ) (columns : List VectorColumn) (d : VectorColumn) → KeepsOthers slot columns (set columns i (column_with slot v (get_or columns i d)))
keeps-set slot i v columns d = record {
  widths = map-set_same (λ column. column.width) columns i (column_with slot v (get_or columns i d)) d refl;
  sizes = map-set_same (λ column. length column.vectors) columns i (column_with slot v (get_or columns i d)) d (length-set (get_or columns i d).vectors slot v);
  others = λ other apart. map-set_same (λ column. get_or column.vectors other []) columns i (column_with slot v (get_or columns i d)) d (get_or-set_other (get_or columns i d).vectors slot other v [] apart);
}

pub row_set : (slot i : ℕ) (v : List ℕ) (columns : List VectorColumn) (d : VectorColumn) → slot < length (get_or columns i d).vectors →
    vectors_at (set columns i (column_with slot v (get_or columns i d))) slot ≡ set (vectors_at columns slot) i v
row_set slot i v columns d within =
    map-set (λ column. get_or column.vectors slot []) columns i (column_with slot v (get_or columns i d))
    ∙ ap (set (vectors_at columns slot) i) (get_or-set_same (get_or columns i d).vectors slot v [] within)

-- a column of some has a vector for the slot, and its width
pub slot_there : (slot i : ℕ) (columns : List VectorColumn) (d : VectorColumn) → HaveSlot slot columns → i < length columns → slot < length (get_or columns i d).vectors
slot_there slot i columns d have lt =
    subst (λ n. slot < n) (get_or-map (λ column. length column.vectors) columns i d 0 lt) (have i 0 (subst (λ n. i < n) (sym (length-map columns (λ column. length column.vectors))) lt))

-- one column more has its new vector for the slot
pub kept_more : (slot i : ℕ) (v : List ℕ) (before after : List VectorColumn) (d new : VectorColumn) → new ≡ column_with slot v (get_or after i d) → KeepsOthers slot before after → KeepsOthers slot before (set after i new)
kept_more slot i v before after d new is kept =
    subst (λ c. KeepsOthers slot before (set after i c)) (sym is) (keeps-more slot before after (set after i (column_with slot v (get_or after i d))) kept (keeps-set slot i v after d))

pub have_kept : (slot : ℕ) (before after : List VectorColumn) → HaveSlot slot before → KeepsOthers slot before after → HaveSlot slot after
have_kept slot before after have kept = subst (All (λ size. slot < size)) (sym kept.sizes) have

pub there_kept : (slot i : ℕ) (before after : List VectorColumn) (d : VectorColumn) → HaveSlot slot before → KeepsOthers slot before after → i < length after → slot < length (get_or after i d).vectors
there_kept slot i before after d have kept lt = slot_there slot i after d (have_kept slot before after have kept) lt

pub row_more : (slot i : ℕ) (v : List ℕ) (before after : List VectorColumn) (d new : VectorColumn) → HaveSlot slot before → KeepsOthers slot before after → i < length after → new ≡ column_with slot v (get_or after i d) →
    take (i + 1) (vectors_at (set after i new) slot) ≡ take i (vectors_at after slot) ++ v ∷ []
row_more slot i v before after d new have kept lt is =
    ap (λ c. take (i + 1) (vectors_at (set after i c) slot)) is
    ∙ ap (take (i + 1)) (row_set slot i v after d (there_kept slot i before after d have kept lt))
    ∙ take-set_at (vectors_at after slot) i (i + 1) v refl (omega (arith, lt, length-map after (λ column. get_or column.vectors slot [])))

pub width_kept : (slot i : ℕ) (before after : List VectorColumn) (d : VectorColumn) → KeepsOthers slot before after → i < length after → (get_or after i d).width ≡ get_or (widths_of before) i 0
width_kept slot i before after d kept lt = sym (get_or-map (λ column. column.width) after i d 0 lt) ∙ ap (λ widths. get_or widths i 0) kept.widths

pub count_kept : (slot : ℕ) (before after : List VectorColumn) → KeepsOthers slot before after → length after ≡ length (widths_of before)
count_kept slot before after kept = sym (length-map after (λ column. column.width)) ∙ ap length kept.widths

abbrev pub zeros : ℕ → List ℕ
zeros width = replicate width 0

-- the zeros up to one column more
pub zeros_more : (i : ℕ) (widths : List ℕ) (w : ℕ) → i < length widths → w ≡ get_or widths i 0 → take (i + 1) (zero_vectors widths) ≡ take i (zero_vectors widths) ++ zeros w ∷ []
zeros_more i widths w lt is =
    take_more (zero_vectors widths) i [] (omega (arith, lt, length-map widths zeros))
    ∙ ap (λ v. take i (zero_vectors widths) ++ v ∷ []) (get_or-map zeros widths i 0 [] lt ∙ ap zeros (sym is))
