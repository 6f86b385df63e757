use Rattle.std.proofs.Common.{rules, arith, refl, ◌≡◌, ◌<◌, ◌≤◌, ◌+◌, ◌-◌, ◌++◌, ℕ, List, IsTrue, length, take, drop, sym, ap, subst, ◌∙◌}
use Rattle.vec_base.specs.declared.shadow.ShadowKey.{ShadowKey}
use Rattle.shadow_keeper.specs.Keeping.{tables_of}
use Rattle.journal_format.specs.Format.{header}
use Rattle.journal_format.specs.Fronts.{Leads}
use Rattle.journal_format.proofs.GateLaws.{leads_header}
use Rattle.journal_tables.specs.Making.{StopsAt}
use Rattle.journal_tables.specs.declared.blocks.Stop.{Stop}
use Rattle.journal_tables.specs.declared.blocks.Stop.TheVariants as stop
use Rattle.journal_writes.proofs.Steps.{started, joined}
use Rattle.journal_replay.proofs.PieceLaws.{refilled, closed_leads, closed_tables, damaged, short_leads, short}
use Rattle.journal_replay.proofs.follow.follow.Goals as goal

pub loop-wanted-init : goal.loop-wanted-init
loop-wanted-init g c =
    let P : List ℕ → Type 0 = λ l. Leads l 1 (tables_of c.new-tables.result.entries) in
    let Q : List (ShadowKey × List ℕ) → Type 0 = λ es. Leads header 1 (tables_of es) in
    record {
      within = omega (arith, c.requires.long);
      number = omega arith;
      wanted = omega arith;
      leads = λ told. subst P (sym (c.requires.begins told)) (subst Q (sym c.new-tables.ensures.empty) leads_header);
      short = λ told few. absurd (omega (arith, few, c.requires.long));
      tells = refl;
      reads = refl;
      kept = λ f now. now;
      time = started g.D.Disk.moment g.D.Disk.left_since c.args.disk.now (g.D.Disk.may_leave c.args.disk.now);
      count = omega arith;
    }

pub returns-in-Closed-clause-read : goal.returns-in-Closed-clause-read
returns-in-Closed-clause-read g c told =
    let inv = c.loop-wanted.invariant in
    let gate = c.loop-wanted.gate in
    let room = c.deref.result.now in
    let old = tables_of c.loop-wanted.tables.entries in
    let new = tables_of c.make_blocks.new.tables.entries in
    let at = c.in-Ok.step.at in
    let n = c.in-Ok.step.number in
    let items = c.set_length.new.room.items in
    let long : c.set_length.new.room.len ≡ length items = search rules in
    let same : length c.fill.new.room ≡ length items = omega (arith, c.fill.auto.room, ap length c.deref_mut.ensures.value) in
    let filled : room ≡ c.fill.new.room = c.deref.ensures.value ∙ refilled items c.fill.new.room c.set_length.new.room.len long same in
    let size : length items ≡ c.min-size.result = search rules in
    let few : length room ≤ c.args.len - gate = omega (arith, ap length filled, same, size, c.min-size.ensures) in
    let lt : at < length room = c.in-Ok.ensures.within in
    let P : Stop → Type 0 = λ s. StopsAt room c.loop-wanted.number old at n new s in
    let R = g.D.Disk.reads c.args.disk.now in
    let told1 : IsTrue (g.D.Disk.tells c.loop-wanted.disk) = inv.tells ∙ told in
    let whole : length c.deref_mut.result.now ≡ length room = omega (arith, ap length c.deref_mut.ensures.value, same, ap length filled) in
    let is : room ≡ take (length room) (drop gate R) = filled ∙ c.in-Whole.ensures.bytes told1 ∙ ap (λ (k : ℕ). take k (drop gate (g.D.Disk.reads c.loop-wanted.disk))) whole ∙ ap (λ (l : List ℕ). take (length room) (drop gate l)) inv.reads in
    let within : gate + length room ≤ length R = omega (arith, few, inv.within, c.requires.length told) in
    closed_tables R room gate within is c.loop-wanted.number old (inv.leads told) at n new lt (subst P c.in-Closed.is c.in-Ok.ensures.stops)

pub returns-in-Closed-clause-leads : goal.returns-in-Closed-clause-leads
returns-in-Closed-clause-leads g c told =
    let inv = c.loop-wanted.invariant in
    let gate = c.loop-wanted.gate in
    let room = c.deref.result.now in
    let old = tables_of c.loop-wanted.tables.entries in
    let new = tables_of c.make_blocks.new.tables.entries in
    let at = c.in-Ok.step.at in
    let n = c.in-Ok.step.number in
    let items = c.set_length.new.room.items in
    let long : c.set_length.new.room.len ≡ length items = search rules in
    let same : length c.fill.new.room ≡ length items = omega (arith, c.fill.auto.room, ap length c.deref_mut.ensures.value) in
    let filled : room ≡ c.fill.new.room = c.deref.ensures.value ∙ refilled items c.fill.new.room c.set_length.new.room.len long same in
    let size : length items ≡ c.min-size.result = search rules in
    let few : length room ≤ c.args.len - gate = omega (arith, ap length filled, same, size, c.min-size.ensures) in
    let lt : at < length room = c.in-Ok.ensures.within in
    let P : Stop → Type 0 = λ s. StopsAt room c.loop-wanted.number old at n new s in
    let R = g.D.Disk.reads c.args.disk.now in
    let told1 : IsTrue (g.D.Disk.tells c.loop-wanted.disk) = inv.tells ∙ told in
    let whole : length c.deref_mut.result.now ≡ length room = omega (arith, ap length c.deref_mut.ensures.value, same, ap length filled) in
    let is : room ≡ take (length room) (drop gate R) = filled ∙ c.in-Whole.ensures.bytes told1 ∙ ap (λ (k : ℕ). take k (drop gate (g.D.Disk.reads c.loop-wanted.disk))) whole ∙ ap (λ (l : List ℕ). take (length room) (drop gate l)) inv.reads in
    let within : gate + length room ≤ length R = omega (arith, few, inv.within, c.requires.length told) in
    closed_leads R room gate within is c.loop-wanted.number old (inv.leads told) at n new lt (subst P c.in-Closed.is c.in-Ok.ensures.stops)

pub returns-in-Damaged-clause-read : goal.returns-in-Damaged-clause-read
returns-in-Damaged-clause-read g c told =
    let inv = c.loop-wanted.invariant in
    let gate = c.loop-wanted.gate in
    let room = c.deref.result.now in
    let old = tables_of c.loop-wanted.tables.entries in
    let new = tables_of c.make_blocks.new.tables.entries in
    let at = c.in-Ok.step.at in
    let n = c.in-Ok.step.number in
    let items = c.set_length.new.room.items in
    let long : c.set_length.new.room.len ≡ length items = search rules in
    let same : length c.fill.new.room ≡ length items = omega (arith, c.fill.auto.room, ap length c.deref_mut.ensures.value) in
    let filled : room ≡ c.fill.new.room = c.deref.ensures.value ∙ refilled items c.fill.new.room c.set_length.new.room.len long same in
    let size : length items ≡ c.min-size.result = search rules in
    let few : length room ≤ c.args.len - gate = omega (arith, ap length filled, same, size, c.min-size.ensures) in
    let lt : at < length room = c.in-Ok.ensures.within in
    let P : Stop → Type 0 = λ s. StopsAt room c.loop-wanted.number old at n new s in
    let R = g.D.Disk.reads c.args.disk.now in
    let told1 : IsTrue (g.D.Disk.tells c.loop-wanted.disk) = inv.tells ∙ told in
    let whole : length c.deref_mut.result.now ≡ length room = omega (arith, ap length c.deref_mut.ensures.value, same, ap length filled) in
    let is : room ≡ take (length room) (drop gate R) = filled ∙ c.in-Whole.ensures.bytes told1 ∙ ap (λ (k : ℕ). take k (drop gate (g.D.Disk.reads c.loop-wanted.disk))) whole ∙ ap (λ (l : List ℕ). take (length room) (drop gate l)) inv.reads in
    let within : gate + length room ≤ length R = omega (arith, few, inv.within, c.requires.length told) in
    damaged R room gate within is c.loop-wanted.number old (inv.leads told) at n new lt (omega (arith, c.requires.long, c.requires.length told)) (subst P c.in-Damaged.is c.in-Ok.ensures.stops)

pub loop-wanted-preserved : goal.loop-wanted-preserved
loop-wanted-preserved g c =
    let inv = c.loop-wanted.invariant in
    let gate = c.loop-wanted.gate in
    let room = c.deref.result.now in
    let old = tables_of c.loop-wanted.tables.entries in
    let new = tables_of c.make_blocks.new.tables.entries in
    let at = c.in-Ok.step.at in
    let n = c.in-Ok.step.number in
    let items = c.set_length.new.room.items in
    let long : c.set_length.new.room.len ≡ length items = search rules in
    let same : length c.fill.new.room ≡ length items = omega (arith, c.fill.auto.room, ap length c.deref_mut.ensures.value) in
    let filled : room ≡ c.fill.new.room = c.deref.ensures.value ∙ refilled items c.fill.new.room c.set_length.new.room.len long same in
    let size : length items ≡ c.min-size.result = search rules in
    let few : length room ≤ c.args.len - gate = omega (arith, ap length filled, same, size, c.min-size.ensures) in
    let lt : at < length room = c.in-Ok.ensures.within in
    let P : Stop → Type 0 = λ s. StopsAt room c.loop-wanted.number old at n new s in
    let stops = subst P c.in-Short-stop.is c.in-Ok.ensures.stops in
    let needed = c.in-Short-stop.needed in
    record {
      within = omega (arith, lt, few, inv.within);
      number = omega (arith, c.in-Ok.ensures.count, inv.number);
      wanted = omega (arith, c.saturating_add-wanted.ensures);
      leads = λ told.
          let R = g.D.Disk.reads c.args.disk.now in
          let told1 : IsTrue (g.D.Disk.tells c.loop-wanted.disk) = inv.tells ∙ told in
          let whole : length c.deref_mut.result.now ≡ length room = omega (arith, ap length c.deref_mut.ensures.value, same, ap length filled) in
          let is : room ≡ take (length room) (drop gate R) = filled ∙ c.in-Whole.ensures.bytes told1 ∙ ap (λ (k : ℕ). take k (drop gate (g.D.Disk.reads c.loop-wanted.disk))) whole ∙ ap (λ (l : List ℕ). take (length room) (drop gate l)) inv.reads in
          let within : gate + length room ≤ length R = omega (arith, few, inv.within, c.requires.length told) in
          short_leads R room gate within is c.loop-wanted.number old (inv.leads told) at n new lt needed stops;
      short = λ told less.
          let R = g.D.Disk.reads c.args.disk.now in
          let told1 : IsTrue (g.D.Disk.tells c.loop-wanted.disk) = inv.tells ∙ told in
          let whole : length c.deref_mut.result.now ≡ length room = omega (arith, ap length c.deref_mut.ensures.value, same, ap length filled) in
          let is : room ≡ take (length room) (drop gate R) = filled ∙ c.in-Whole.ensures.bytes told1 ∙ ap (λ (k : ℕ). take k (drop gate (g.D.Disk.reads c.loop-wanted.disk))) whole ∙ ap (λ (l : List ℕ). take (length room) (drop gate l)) inv.reads in
          let within : gate + length room ≤ length R = omega (arith, few, inv.within, c.requires.length told) in
          short R room gate within is c.loop-wanted.number old (inv.leads told) at n new lt needed (omega (arith, c.requires.long, c.requires.length told)) stops (omega (arith, less, c.saturating_add-wanted.ensures, c.requires.length told));
      tells = c.in-Whole.ensures.tells ∙ inv.tells;
      reads = c.in-Whole.ensures.reads ∙ inv.reads;
      kept = λ f now. inv.kept f (c.in-Whole.ensures.kept f now);
      time = joined g.D.Disk.moment g.D.Disk.left_since c.args.disk.now c.loop-wanted.disk c.fill.new.disk (g.D.Disk.may_leave c.args.disk.now) (g.D.Disk.may_leave c.loop-wanted.disk) inv.time c.in-Whole.ensures.time inv.kept;
      count = omega (arith, inv.count, c.in-Whole.ensures.count);
    }
