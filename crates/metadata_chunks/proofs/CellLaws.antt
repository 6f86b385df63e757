-- Cells of texts: what is made of a text is its cell, and how a cell compares.
use Rattle.std.proofs.Common.{◌≡◌, ◌≤◌, ℕ, Bool, true, false, cond, nat_lt, List, length, Option, Some, None, refl, sym, ap, ap₂, ◌∙◌}
use Rattle.std.specs.Str.{is_utf8}
use Rattle.std.proofs.lemmas.Bool.{ltb-false}
use Rattle.vec_base.specs.declared.value.Value.TheVariants.{Text}
use Rattle.shadow_records.specs.declared.kinds.TheConstants.{TEXT_VIEW_BYTES}
use Rattle.shadow_records.specs.Cells.{long_text}
use Rattle.metadata_chunks.specs.inner.Fronts.{front_of, text_in, IsTextCell}
use Rattle.metadata_chunks.proofs.FrontLaws.{read_back}

-- a text that is put into a cell is read back
made_of : (b : Bool) (text : List ℕ) → nat_lt TEXT_VIEW_BYTES (length text) ≡ b → text_in (length text) (front_of TEXT_VIEW_BYTES text) (cond b (Some text) None) ≡ text
made_of true text test = refl
made_of false text test = read_back TEXT_VIEW_BYTES text (ltb-false TEXT_VIEW_BYTES (length text) test)

pub text_made : (text front : List ℕ) (whole : Option (List ℕ)) → front ≡ front_of TEXT_VIEW_BYTES text → whole ≡ long_text (Text text) → text_in (length text) front whole ≡ text
text_made text front whole is long = ap₂ (text_in (length text)) is long ∙ made_of (nat_lt TEXT_VIEW_BYTES (length text)) text refl

short_of : (b : Bool) (text : List ℕ) → nat_lt TEXT_VIEW_BYTES (length text) ≡ b → cond b (Some text) None ≡ None → length text ≤ TEXT_VIEW_BYTES
short_of true text test none = absurd cc
short_of false text test none = ltb-false TEXT_VIEW_BYTES (length text) test

pub cell_made : (text front : List ℕ) (whole : Option (List ℕ)) → front ≡ front_of TEXT_VIEW_BYTES text → whole ≡ long_text (Text text) → is_utf8 text ≡ true → IsTextCell (length text) front whole
cell_made text front whole is long utf8 =
    let made = text_made text front whole is long in
    record {
      first_bytes = is ∙ ap (front_of TEXT_VIEW_BYTES) (sym made);
      count = ap length (sym made);
      utf8 = ap is_utf8 made ∙ utf8;
      short = λ none. short_of (nat_lt TEXT_VIEW_BYTES (length text)) text refl (sym long ∙ none);
    }
