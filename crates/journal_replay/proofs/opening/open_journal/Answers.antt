use Rattle.std.proofs.Common.{rules, arith, ◌≡◌, ◌≤◌, ℕ, List, true, length, take, Ok, sym, ap, subst, ◌∙◌}
use Rattle.vec_base.specs.declared.shadow.ShadowKey.{ShadowKey}
use Rattle.shadow_keeper.specs.Keeping.{tables_of}
use Rattle.journal_format.specs.Format.{header}
use Rattle.journal_format.specs.Fronts.{Leads}
use Rattle.journal_format.specs.Reading.{commits_of}
use Rattle.journal_format.proofs.GateLaws.{leads_header}
use Rattle.journal_disk.specs.Disk.{Only}
use Rattle.journal_writes.specs.Moments.{TornFrom}
use Rattle.journal_writes.proofs.Steps.{started, goes_on, joined}
use Rattle.journal_replay.proofs.OpenLaws.{tables_short, torn_short, only_within, empty_front}
use Rattle.journal_replay.proofs.opening.open_journal.Goals as goal

pub returns-then-not-write_synced-clause-during : goal.returns-then-not-write_synced-clause-during
returns-then-not-write_synced-clause-during g c told quiet =
    let R = g.D.Disk.reads c.args.disk.now in
    let P : List ℕ → Type 0 = λ f. commits_of f ≡ commits_of R in
    let told1 = c.sync.ensures.tells ∙ told in
    let told2 = c.length.ensures.tells ∙ told1 in
    let only1 : Only R (g.D.Disk.may_leave c.sync.new.self) = only_within (g.D.Disk.may_leave c.args.disk.now) (g.D.Disk.may_leave c.sync.new.self) R c.sync.ensures.kept quiet in
    let only2 : Only R (g.D.Disk.may_leave c.length.new.self) = only_within (g.D.Disk.may_leave c.sync.new.self) (g.D.Disk.may_leave c.length.new.self) R c.length.ensures.kept only1 in
    let short : length R ≤ 17 = omega (arith, c.in-Is.ensures.is.1 told1, ap length c.sync.ensures.reads, c.if-len.false) in
    let one = goes_on g.D.Disk.moment g.D.Disk.left_since c.args.disk.now c.args.disk.now c.sync.new.self P (g.D.Disk.may_leave c.sync.new.self) (started g.D.Disk.moment g.D.Disk.left_since c.args.disk.now P) c.sync.ensures.time (λ f now. ap commits_of (only1 f now)) in
    let two = goes_on g.D.Disk.moment g.D.Disk.left_since c.args.disk.now c.sync.new.self c.length.new.self P (g.D.Disk.may_leave c.length.new.self) one c.length.ensures.time (λ f now. ap commits_of (only2 f now)) in
    joined g.D.Disk.moment g.D.Disk.left_since c.args.disk.now c.length.new.self c.write_synced.new.disk P (TornFrom (g.D.Disk.may_leave c.length.new.self) 0 17) two (c.write_synced.ensures.time told2) (torn_short (g.D.Disk.may_leave c.length.new.self) R only2 short)

pub returns-clause-read : goal.returns-clause-read
returns-clause-read g c told =
    let R = g.D.Disk.reads c.args.disk.now in
    let told1 = c.sync.ensures.tells ∙ told in
    let short : length R ≤ 17 = omega (arith, c.in-Is.ensures.is.1 told1, ap length c.sync.ensures.reads, c.if-len.false) in
    tables_short R short ∙ ap (λ (es : List (ShadowKey × List ℕ)). Ok (tables_of es)) (sym c.new.ensures.empty)

pub returns-clause-leads : goal.returns-clause-leads
returns-clause-leads g c told =
    let told2 = c.length.ensures.tells ∙ (c.sync.ensures.tells ∙ told) in
    let wrote : c.write_synced.result ≡ true = search rules in
    let front : take 16 (g.D.Disk.reads c.write_synced.new.disk) ≡ header = ap (λ (l : List ℕ). take 16 l) (c.write_synced.ensures.written told2 wrote) ∙ empty_front (g.D.Disk.reads c.length.new.self) in
    let P : List ℕ → Type 0 = λ l. Leads l 1 (tables_of c.new.result.entries) in
    let Q : List (ShadowKey × List ℕ) → Type 0 = λ es. Leads header 1 (tables_of es) in
    subst P (sym front) (subst Q (sym c.new.ensures.empty) leads_header)

pub returns-clause-during : goal.returns-clause-during
returns-clause-during g c told quiet =
    let R = g.D.Disk.reads c.args.disk.now in
    let P : List ℕ → Type 0 = λ f. commits_of f ≡ commits_of R in
    let told1 = c.sync.ensures.tells ∙ told in
    let told2 = c.length.ensures.tells ∙ told1 in
    let only1 : Only R (g.D.Disk.may_leave c.sync.new.self) = only_within (g.D.Disk.may_leave c.args.disk.now) (g.D.Disk.may_leave c.sync.new.self) R c.sync.ensures.kept quiet in
    let only2 : Only R (g.D.Disk.may_leave c.length.new.self) = only_within (g.D.Disk.may_leave c.sync.new.self) (g.D.Disk.may_leave c.length.new.self) R c.length.ensures.kept only1 in
    let short : length R ≤ 17 = omega (arith, c.in-Is.ensures.is.1 told1, ap length c.sync.ensures.reads, c.if-len.false) in
    let one = goes_on g.D.Disk.moment g.D.Disk.left_since c.args.disk.now c.args.disk.now c.sync.new.self P (g.D.Disk.may_leave c.sync.new.self) (started g.D.Disk.moment g.D.Disk.left_since c.args.disk.now P) c.sync.ensures.time (λ f now. ap commits_of (only1 f now)) in
    let two = goes_on g.D.Disk.moment g.D.Disk.left_since c.args.disk.now c.sync.new.self c.length.new.self P (g.D.Disk.may_leave c.length.new.self) one c.length.ensures.time (λ f now. ap commits_of (only2 f now)) in
    joined g.D.Disk.moment g.D.Disk.left_since c.args.disk.now c.length.new.self c.write_synced.new.disk P (TornFrom (g.D.Disk.may_leave c.length.new.self) 0 17) two (c.write_synced.ensures.time told2) (torn_short (g.D.Disk.may_leave c.length.new.self) R only2 short)
