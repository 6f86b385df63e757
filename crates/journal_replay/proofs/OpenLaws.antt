-- Files without the header, files without commits, and what the empty journal gives.
use Rattle.std.proofs.Common.{rules, ◌≡◌, ◌≢◌, ℕ, ◌+◌, ◌≤◌, ◌<◌, true, false, cond, List, [], ◌∷◌, ◌++◌, length, get_or, take, drop, Ok, Err, refl, sym, ap, subst, ◌∙◌, append_assoc, arith}
use Rattle.std.specs.Prelude.{bytes_eq}
use Rattle.std.specs.FinMap.{empty}
use Rattle.std.proofs.lemmas.Bool.{lt-leb, le-leb}
use Rattle.std.proofs.lemmas.Slice.Eq.{bytes_eq-Decides}
use Rattle.journal_disk.specs.Disk.{Only, Within}
use Rattle.journal_disk.specs.History.{put}
use Rattle.journal_writes.specs.Moments.{TornFrom}
use Rattle.journal_format.specs.Format.{header}
use Rattle.journal_format.specs.Fronts.{Leads}
use Rattle.journal_format.specs.Reading.{commits_of, batches_from, tables_of, replay}
use Rattle.journal_format.proofs.GateLaws.{leads_header}

pub commits_other : (file : List ℕ) → 17 < length file → bytes_eq (take 16 file) header ≡ false → commits_of file ≡ Err 0
unfolding commits_of
commits_other file long other =
    ap (λ b. cond b (Ok []) (cond (bytes_eq (take 16 file) header) (batches_from 16 (drop 16 file) 1 empty) (Err 0))) (lt-leb (length file) 17 long)
    ∙ ap (λ b. cond b (batches_from 16 (drop 16 file) 1 empty) (Err 0)) other

pub commits_short : (file : List ℕ) → length file ≤ 17 → commits_of file ≡ Ok []
unfolding commits_of
commits_short file short = ap (λ b. cond b (Ok []) (cond (bytes_eq (take 16 file) header) (batches_from 16 (drop 16 file) 1 empty) (Err 0))) (le-leb (length file) 17 short)

pub tables_short : (file : List ℕ) → length file ≤ 17 → tables_of file ≡ Ok empty
tables_short file short = ap replay (commits_short file short)

-- the empty journal, torn over a file without commits
pub torn_short : (images : List ℕ → Type 0) (reads : List ℕ) → Only reads images → length reads ≤ 17 → (c : List ℕ) → TornFrom images 0 17 c → commits_of c ≡ commits_of reads
torn_short images reads only short c from =
    let torn = from.2 in
    let same = only from.0 from.1 in
    commits_short c (omega (arith, torn.no_longer, ap length same)) ∙ sym (commits_short reads short)

pub only_within : (old new : List ℕ → Type 0) (file : List ℕ) → Within new old → Only file old → Only file new
only_within old new file within only c now = only c (within c now)

pub header_is : (bytes : List ℕ) → bytes_eq bytes header ≡ true → bytes ≡ header
header_is bytes e = let same = bytes_eq-Decides bytes header in search rules

abbrev pub empty_journal : List ℕ
empty_journal = 86 ∷ 69 ∷ 67 ∷ 48 ∷ 74 ∷ 82 ∷ 78 ∷ 76 ∷ 1 ∷ 0 ∷ 0 ∷ 0 ∷ 0 ∷ 0 ∷ 0 ∷ 0 ∷ 0 ∷ []

pub empty_front : (file : List ℕ) → take 16 (put file 0 empty_journal) ≡ header
unfolding header
empty_front file = refl
