use Rattle.std.proofs.Common.{arith, ◌≡◌, ◌<◌, IsTrue, ℕ, List, length, take, drop, sym, ap, ◌∙◌}
use Rattle.std.specs.Prelude.{bytes_eq}
use Rattle.std.proofs.lemmas.List.{take-take}
use Rattle.journal_format.specs.Format.{header}
use Rattle.journal_replay.proofs.OpenLaws.{commits_other, header_is}
use Rattle.journal_replay.proofs.opening.read_journal.Goals as goal

pub returns-then-not-has_header-clause-read : goal.returns-then-not-has_header-clause-read
returns-then-not-has_header-clause-read g c told =
    let R = g.D.Disk.reads c.args.disk.now in
    let front : take 16 c.fill.new.room ≡ take 16 R = ap (λ (l : List ℕ). take 16 l) (c.in-Whole.ensures.bytes told) ∙ take-take 16 16 R (omega arith) in
    commits_other R (omega (arith, c.requires.long, c.requires.length told)) (ap (λ (l : List ℕ). bytes_eq l header) (sym front) ∙ sym c.has_header.ensures ∙ c.if-not-has_header.true)

pub follow-requires-clause-begins : goal.follow-requires-clause-begins
follow-requires-clause-begins g c told1 =
    let R = g.D.Disk.reads c.args.disk.now in
    let told : IsTrue (g.D.Disk.tells c.args.disk.now) = sym c.in-Whole.ensures.tells ∙ told1 in
    let front : take 16 c.fill.new.room ≡ take 16 R = ap (λ (l : List ℕ). take 16 l) (c.in-Whole.ensures.bytes told) ∙ take-take 16 16 R (omega arith) in
    ap (λ (l : List ℕ). take 16 l) c.in-Whole.ensures.reads ∙ sym front ∙ header_is (take 16 c.fill.new.room) (sym c.has_header.ensures ∙ c.if-not-has_header.false)
