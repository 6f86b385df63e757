use Rattle.std.proofs.Common.{rules, arith, ◌≡◌, ◌⊎◌, inl, inr, ◌+◌, ◌≤◌, ◌<◌, ◌^◌, ◌++◌, ◌∷◌, [], ℕ, List, true, IsTrue, length, Option, Some, sym, ap, subst, ◌∙◌, length-append}
use Rattle.vec_base.specs.Streams.{Rose}
use Rattle.vec_base.specs.declared.shadow.Change.{Change}
use Rattle.shadow_keeper.specs.Keeping.{Makes, LeftAfter}
use Rattle.shadow_keeper.specs.declared.keeper.Kept.{Kept}
use Rattle.shadow_records.specs.Batches.{applied}
use Rattle.shadow_records.specs.Keys.{Tables}
use Rattle.journal_format.specs.Format.{block}
use Rattle.journal_writes.specs.declared.adding.Added.{Added}
use Rattle.journal_batches.specs.Places.{place_after, kept_after}
use Rattle.journal_batches.specs.Stopping.{tables_up_to, Shows, ShowsSince, IsKept}
use Rattle.journal_batches.specs.declared.places.Place.{Place}
use Rattle.journal_batches.proofs.BatchLaws.{adds_of, after_stands, after_makes, after_left, after_during, after_gate, after_number, after_failed}
use Rattle.journal_batches.proofs.ShowingLaws.{kept_long}
use Rattle.journal_batches.proofs.places.add_batch.Goals as goal

pub returns-clause-stands : goal.returns-clause-stands
returns-clause-stands g c told =
    let spelled : c.spell.result ≡ true = search rules in
    let staged = c.as_slice-staged.result.now in
    let here : staged ≡ c.spell.new.room.items = search rules in
    let made = here ∙ c.spell.ensures.spelled spelled in
    let files = g.D.Disk.may_leave c.args.disk.now in
    let reads = g.D.Disk.reads c.args.disk.now in
    let files2 = g.D.Disk.may_leave c.add-added.new.disk in
    let reads2 = g.D.Disk.reads c.add-added.new.disk in
    let place = c.args.place.now in
    let cs = c.args.changes.now in
    let a = adds_of files reads place.gate place.number place.uncertain cs staged (c.requires.stands told) (g.met.D.Disk.reads_now c.args.disk.now told) made (c.spell.ensures.small spelled) (omega (arith, c.requires.gate, c.requires.number)) (c.spell.ensures.whole spelled) (c.requires.fits told) in
    let now2 = g.met.D.Disk.reads_now c.add-added.new.disk (c.add-added.ensures.tells ∙ told) in
    let all = c.add-added.ensures.now told a.stands.front a.stands.tail (block place.number cs) a.stands.place a.made a.stands.rests in
    let whole : c.after.result ≡ place_after place (length staged) c.add-added.result = c.after.ensures in
    let P : Place → Type 0 = λ p. IsKept files2 p.gate p.number p.uncertain in
    subst P (sym whole) (after_stands files reads place cs staged a files2 reads2 now2 c.add-added.result all)

pub returns-clause-made : goal.returns-clause-made
returns-clause-made g c told =
    let spelled : c.spell.result ≡ true = search rules in
    let staged = c.as_slice-staged.result.now in
    let here : staged ≡ c.spell.new.room.items = search rules in
    let made = here ∙ c.spell.ensures.spelled spelled in
    let files = g.D.Disk.may_leave c.args.disk.now in
    let reads = g.D.Disk.reads c.args.disk.now in
    let files2 = g.D.Disk.may_leave c.add-added.new.disk in
    let reads2 = g.D.Disk.reads c.add-added.new.disk in
    let place = c.args.place.now in
    let cs = c.args.changes.now in
    let a = adds_of files reads place.gate place.number place.uncertain cs staged (c.requires.stands told) (g.met.D.Disk.reads_now c.args.disk.now told) made (c.spell.ensures.small spelled) (omega (arith, c.requires.gate, c.requires.number)) (c.spell.ensures.whole spelled) (c.requires.fits told) in
    let now2 = g.met.D.Disk.reads_now c.add-added.new.disk (c.add-added.ensures.tells ∙ told) in
    let all = c.add-added.ensures.now told a.stands.front a.stands.tail (block place.number cs) a.stands.place a.made a.stands.rests in
    let whole : c.after.result ≡ place_after place (length staged) c.add-added.result = c.after.ensures in
    let P : Place → Type 0 = λ p. Makes (tables_up_to reads place.gate) (applied cs (tables_up_to reads place.gate)) (tables_up_to reads2 p.gate) (kept_after c.add-added.result) in
    let K : Kept → Type 0 = λ k. Makes (tables_up_to reads place.gate) (applied cs (tables_up_to reads place.gate)) (tables_up_to reads2 c.after.result.gate) k in
    subst K (sym c.kept_after.ensures) (subst P (sym whole) (after_makes files reads place cs staged a files2 reads2 now2 c.add-added.result all))

pub returns-clause-stopped : goal.returns-clause-stopped
returns-clause-stopped g c told =
    let spelled : c.spell.result ≡ true = search rules in
    let staged = c.as_slice-staged.result.now in
    let here : staged ≡ c.spell.new.room.items = search rules in
    let made = here ∙ c.spell.ensures.spelled spelled in
    let files = g.D.Disk.may_leave c.args.disk.now in
    let reads = g.D.Disk.reads c.args.disk.now in
    let files2 = g.D.Disk.may_leave c.add-added.new.disk in
    let reads2 = g.D.Disk.reads c.add-added.new.disk in
    let place = c.args.place.now in
    let cs = c.args.changes.now in
    let a = adds_of files reads place.gate place.number place.uncertain cs staged (c.requires.stands told) (g.met.D.Disk.reads_now c.args.disk.now told) made (c.spell.ensures.small spelled) (omega (arith, c.requires.gate, c.requires.number)) (c.spell.ensures.whole spelled) (c.requires.fits told) in
    let now2 = g.met.D.Disk.reads_now c.add-added.new.disk (c.add-added.ensures.tells ∙ told) in
    let all = c.add-added.ensures.now told a.stands.front a.stands.tail (block place.number cs) a.stands.place a.made a.stands.rests in
    let whole : c.after.result ≡ place_after place (length staged) c.add-added.result = c.after.ensures in
    let L : Place → Kept → Type 0 = λ p k. LeftAfter (Shows files reads place.gate place.uncertain) (tables_up_to reads place.gate) (applied cs (tables_up_to reads place.gate)) (Shows files2 reads2 p.gate p.uncertain) k in
    let P : Place → Type 0 = λ p. L p (kept_after c.add-added.result) in
    let K : Kept → Type 0 = λ k. L c.after.result k in
    subst K (sym c.kept_after.ensures) (subst P (sym whole) (after_left files reads place cs staged a files2 reads2 now2 c.add-added.result all))

pub returns-clause-during : goal.returns-clause-during
returns-clause-during g c told moment left le =
    let spelled : c.spell.result ≡ true = search rules in
    let staged = c.as_slice-staged.result.now in
    let here : staged ≡ c.spell.new.room.items = search rules in
    let made = here ∙ c.spell.ensures.spelled spelled in
    let files = g.D.Disk.may_leave c.args.disk.now in
    let reads = g.D.Disk.reads c.args.disk.now in
    let files2 = g.D.Disk.may_leave c.add-added.new.disk in
    let reads2 = g.D.Disk.reads c.add-added.new.disk in
    let place = c.args.place.now in
    let cs = c.args.changes.now in
    let a = adds_of files reads place.gate place.number place.uncertain cs staged (c.requires.stands told) (g.met.D.Disk.reads_now c.args.disk.now told) made (c.spell.ensures.small spelled) (omega (arith, c.requires.gate, c.requires.number)) (c.spell.ensures.whole spelled) (c.requires.fits told) in
    let now2 = g.met.D.Disk.reads_now c.add-added.new.disk (c.add-added.ensures.tells ∙ told) in
    let all = c.add-added.ensures.now told a.stands.front a.stands.tail (block place.number cs) a.stands.place a.made a.stands.rests in
    let whole : c.after.result ≡ place_after place (length staged) c.add-added.result = c.after.ensures in
    let P : Place → Type 0 = λ p. ShowsSince (g.D.Disk.left_since c.add-added.new.disk) files2 reads2 p.gate p.uncertain moment left
    → ShowsSince (g.D.Disk.left_since c.args.disk.now) files reads place.gate place.uncertain moment left ⊎ (Shows files reads place.gate place.uncertain left ⊎ (left ≡ Some (applied cs (tables_up_to reads place.gate)))) in
    subst P (sym whole) (after_during files reads place cs staged a files2 reads2 now2 g.D.Disk.moment g.D.Disk.left_since c.args.disk.now c.add-added.new.disk c.add-added.result all (c.add-added.ensures.during told a.stands.front a.stands.tail a.stands.place a.stands.rests) moment left le)

pub returns-clause-gate : goal.returns-clause-gate
returns-clause-gate g c =
    let staged = c.as_slice-staged.result.now in
    let place = c.args.place.now in
    let whole : c.after.result ≡ place_after place (length staged) c.add-added.result = c.after.ensures in
    let P : Place → Type 0 = λ p. p.gate ≤ 2 ^ 40 in
    subst P (sym whole) (after_gate place (length staged) c.add-added.result c.requires.gate c.add-added.ensures.end)

pub returns-clause-number : goal.returns-clause-number
returns-clause-number g c =
    let spelled : c.spell.result ≡ true = search rules in
    let staged = c.as_slice-staged.result.now in
    let here : staged ≡ c.spell.new.room.items = search rules in
    let made = here ∙ c.spell.ensures.spelled spelled in
    let place = c.args.place.now in
    let whole : c.after.result ≡ place_after place (length staged) c.add-added.result = c.after.ensures in
    let some : 0 < length staged = omega (arith, ap length made, length-append (block place.number c.args.changes.now) (0 ∷ [])) in
    let P : Place → Type 0 = λ p. p.number ≤ p.gate in
    subst P (sym whole) (after_number place (length staged) c.add-added.result some c.requires.number)

pub returns-clause-failed : goal.returns-clause-failed
returns-clause-failed g c failed =
    after_failed c.add-added.result (Rose (g.D.Disk.faults c.args.disk.now) (g.D.Disk.faults c.add-added.new.disk)) c.add-added.ensures.cause (sym c.kept_after.ensures ∙ failed)
