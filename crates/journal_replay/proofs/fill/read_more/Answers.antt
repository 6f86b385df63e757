use Rattle.std.proofs.Common.{◌≡◌, ◌<◌, ◌≤◌, ◌-◌, ◌+◌, IsTrue, List, ℕ, length, take, drop, sym, subst, arith, ◌∙◌, length-drop}
use Rattle.std.specs.Prelude.{⊤}
use Rattle.std.proofs.lemmas.List.{length-take-le, drop-drop}
use Rattle.journal_disk.specs.Disk.{GotWell}
use Rattle.journal_replay.proofs.ReadLaws.{took_more}
use Rattle.journal_replay.proofs.fill.read_more.Goals as goal

pub returns-clause-took : goal.returns-clause-took
returns-clause-took g c =
    let Told = IsTrue (g.D.Disk.tells c.args.disk.now) in
    let reads = g.D.Disk.reads c.args.disk.now in
    let done = c.args.done in
    let old = c.args.room.now in
    let room = c.read.new.room in
    let lt : done < length old = omega arith in
    let len : length room ≡ length old - done = c.read.auto.room ∙ length-take-le (length old - done) (drop done old) (omega (arith, length-drop done old)) in
    let P : List ℕ → Type 0 = λ l. GotWell (λ n. (0 < n) × (n ≤ length room) × (Told → take n room ≡ take n l)) (Told → length reads ≤ c.args.place + done) ⊤ c.read.result in
    took_more done Told (Told → length reads ≤ c.args.place + done) old room (drop c.args.place reads) lt len c.read.result (subst P (sym (drop-drop done c.args.place reads)) c.read.ensures.took)
