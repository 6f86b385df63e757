use Rattle.std.proofs.Common.{◌≡◌, ⊎_elim, arith, List, ℕ, false, Some, refl, sym, ap, ◌∙◌}
use Rattle.shadow_records.specs.Keys.{Tables}
use Rattle.journal_format.specs.Reading.{some_tables, shown, replay}
use Rattle.journal_batches.specs.Stopping.{tables_up_to}
use Rattle.journal_batches.proofs.ShowingLaws.{closed_shows, kept_is}
use Rattle.journal_keeper.proofs.keeper.JournalKeeper.start.Goals as goal

pub returns-in-Ready-clause-alone : goal.returns-in-Ready-clause-alone
returns-in-Ready-clause-alone g c told left shows =
    let made = c.in-Ready.ensures.stands told in
    let k = made.0 in
    let told1 = c.open_kept.ensures.tells ∙ told in
    let files = g.D.Disk.may_leave c.open_kept.new.disk in
    let file = g.D.Disk.reads c.open_kept.new.disk in
    closed_shows files file k.front c.in-Ready.gate c.in-Ready.number false k.tables left refl k.leads k.rests shows
    ∙ ap (λ (x : Tables). Some x) (sym (kept_is files file c.in-Ready.gate c.in-Ready.number false k (g.met.D.Disk.reads_now c.open_kept.new.disk told1)))

pub returns-in-Ready-clause-since : goal.returns-in-Ready-clause-since
returns-in-Ready-clause-since g c told quiet left shows =
    let made = c.in-Ready.ensures.stands told in
    let k = made.0 in
    let told1 = c.open_kept.ensures.tells ∙ told in
    let files = g.D.Disk.may_leave c.open_kept.new.disk in
    let file = g.D.Disk.reads c.open_kept.new.disk in
    let first = g.D.Disk.reads c.args.disk in
    let here = kept_is files file c.in-Ready.gate c.in-Ready.number false k (g.met.D.Disk.reads_now c.open_kept.new.disk told1) in
    let gave : shown first ≡ Some (tables_up_to file c.in-Ready.gate) = ap some_tables (c.in-Ready.ensures.read told) ∙ ap (λ (x : Tables). Some x) (sym made.1 ∙ sym here) in
    let during = c.open_kept.ensures.during told quiet in
    ⊎_elim
    (λ (h : (f : List ℕ) × g.D.Disk.left_since c.open_kept.new.disk (g.D.Disk.moment c.args.disk) f × (shown f ≡ left)).
    sym h.2 ∙ ⊎_elim (λ old. ap shown (quiet h.0 (g.met.D.Disk.only_now c.args.disk h.0 old))) (λ same. ap some_tables (ap replay same)) (during.before (g.D.Disk.moment c.args.disk) h.0 (omega arith) h.1) ∙ gave)
    (λ now. closed_shows files file k.front c.in-Ready.gate c.in-Ready.number false k.tables left refl k.leads k.rests now ∙ ap (λ (x : Tables). Some x) (sym here))
    shows
