-- What the cutter keeps of a piece.
use Rattle.std.specs.Prelude.{◌≡◌, ◌≢◌, ◌-◌, ℕ, Bool, true, false, not, ◌&&◌, ◌||◌, ◌==◌, if◌then◌else◌, List, [], ◌++◌, length, take}
use Rattle.vec_shell.specs.declared.cutter.Cutter.{Cutter}
use Rattle.vec_shell.specs.declared.cutter.TheConstants.{MOST_KEPT}
use Rattle.vec_shell.specs.Pieces.{is_quoted, trim, ended_from, rest_from}

-- the cutter keeps the first bytes of the piece without its white space, or has lost them for want of memory
pub record KeepsText (cutter : Cutter) (piece : List ℕ) : Type 0 where
  pub text : cutter.lost ≡ false → cutter.text ≡ take MOST_KEPT (trim piece)
  pub lost : cutter.lost ≡ true → trim piece ≢ []

-- the cutter has read so much of a piece
pub record CutterHolds (cutter : Cutter) (piece : List ℕ) : Type 0 where
  pub quoted : cutter.quoted ≡ is_quoted piece
  pub kept : KeepsText cutter piece

-- of bytes behind a text those that go into it: none beyond the limit, and no white space at its beginning
abbrev pub wanted_of : List ℕ → List ℕ → List ℕ
wanted_of text bytes = take (MOST_KEPT - length text) (if length text == 0 then trim bytes else bytes)

-- the byte is a quote, or ends a piece that has an even number of quotes
abbrev pub may_end : Bool → ℕ → Bool
may_end quoted b = b == 39 || (b == 59 && not quoted)

-- the piece goes on by the bytes
abbrev pub GoesOn : List ℕ → List ℕ → Type 0
GoesOn piece bytes = (ended_from piece bytes ≡ []) × (rest_from piece bytes ≡ piece ++ bytes)
