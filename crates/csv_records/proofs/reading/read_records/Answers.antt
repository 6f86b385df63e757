use Rattle.std.proofs.Common.{Bor, List, ℕ, ◌∙◌, ◌++◌, ◌∷◌, [], sym, refl, ap, inl, inr, Some}
use Rattle.csv.specs.Reading.{Reached, default_config, strip_bom}
use Rattle.csv.specs.Records.{fields_of}
use Rattle.csv.specs.declared.parser.State.TheVariants as st
use Rattle.csv.proofs.ReadFacts.{rows-end, rows-more}
use Rattle.csv_records.specs.Records.{is_good_behind}
use Rattle.csv_records.proofs.GoodLaws.{good_all, good_more, good_then_refused, not_taken, taken}
use Rattle.csv_records.proofs.Reaching.{read_all, read_first}
use Rattle.csv_records.proofs.reading.read_records.Goals as goal

pub loop-row-init : goal.loop-row-init
unfolding Reached
loop-row-init c =
    let fr = c.from_reader-reader.ensures in
    let e = c.flexible.ensures in
    let h = c.has_headers.ensures in
    let start = c.into_iter-row-iterator.ensures.into_iter_gives ∙ refl in
    let rdr = c.into_byte_records-row-items.ensures.rdr in
    let left = c.into_byte_records-row-items.ensures.left in
    rw (start, rdr, c.new-good.ensures) (
      rw (e, h) at fr.trim ∙ c.new.ensures.trim,
      inr (inr (rw (e, h) at fr.has_headers, fr.headers)),
      left,
      rw (e, h) at fr.config ∙ c.new.ensures.config,
      strip_bom c.args.text.now,
      fr.source,
      (sym fr.state, refl),
      refl,
    )

pub returns-in-None-2-clause-good : goal.returns-in-None-2-clause-good
returns-in-None-2-clause-good c =
    let inv = c.loop-row.invariant in
    let s = rw (c.in-Some.is, c.in-Ok.is) at ((c.next.ensures.steps inv.2 inv.0).0 inv.1) in
    let m = rows-more (λ (s : Bor (List ℕ)). Some s.now) c.loop-row.row-iterator.rdr c.next.new.self.rdr (fields_of c.in-Ok.row) default_config st.StartRecord (strip_bom c.args.text.now) inv.4 c.loop-row.good inv.3 inv.5 inv.6 s.0 in
    let first = read_first (strip_bom c.args.text.now) (c.loop-row.good ++ fields_of c.in-Ok.row ∷ []) c.next.new.self.rdr.state m.0 m.2 in
    let bad = not_taken (is_good_behind c.loop-row.good (fields_of c.in-Ok.row)) (fields_of c.in-Ok.row) (rw (c.in-None-2.is, c.as_slice.ensures) at c.in_ok-fields.ensures) in
    (good_then_refused c.args.text.now c.loop-row.good (fields_of c.in-Ok.row) first.0 inv.7 bad first.1).0

pub returns-in-None-2-clause-refused : goal.returns-in-None-2-clause-refused
returns-in-None-2-clause-refused c =
    let inv = c.loop-row.invariant in
    let s = rw (c.in-Some.is, c.in-Ok.is) at ((c.next.ensures.steps inv.2 inv.0).0 inv.1) in
    let m = rows-more (λ (s : Bor (List ℕ)). Some s.now) c.loop-row.row-iterator.rdr c.next.new.self.rdr (fields_of c.in-Ok.row) default_config st.StartRecord (strip_bom c.args.text.now) inv.4 c.loop-row.good inv.3 inv.5 inv.6 s.0 in
    let first = read_first (strip_bom c.args.text.now) (c.loop-row.good ++ fields_of c.in-Ok.row ∷ []) c.next.new.self.rdr.state m.0 m.2 in
    let bad = not_taken (is_good_behind c.loop-row.good (fields_of c.in-Ok.row)) (fields_of c.in-Ok.row) (rw (c.in-None-2.is, c.as_slice.ensures) at c.in_ok-fields.ensures) in
    (good_then_refused c.args.text.now c.loop-row.good (fields_of c.in-Ok.row) first.0 inv.7 bad first.1).1

pub loop-row-preserved : goal.loop-row-preserved
loop-row-preserved c =
    let inv = c.loop-row.invariant in
    let s = rw (c.in-Some.is, c.in-Ok.is) at ((c.next.ensures.steps inv.2 inv.0).0 inv.1) in
    let m = rows-more (λ (s : Bor (List ℕ)). Some s.now) c.loop-row.row-iterator.rdr c.next.new.self.rdr (fields_of c.in-Ok.row) default_config st.StartRecord (strip_bom c.args.text.now) inv.4 c.loop-row.good inv.3 inv.5 inv.6 s.0 in
    let t = taken (is_good_behind c.loop-row.good (fields_of c.in-Ok.row)) (fields_of c.in-Ok.row) c.in-Some-2.fields (rw (c.in-Some-2.is, c.as_slice.ensures) at c.in_ok-fields.ensures) in
    let items = c.in_ok-push-in-Some-2.ensures.ok ∙ ap (λ f. c.loop-row.good ++ f ∷ []) t.1 in
    (s.0.3 ∙ inv.0, inl s.1, s.2, s.0.2 ∙ inv.3, m.0, m.1, rw items m.2, rw items (good_more c.loop-row.good (fields_of c.in-Ok.row) inv.7 t.0))

pub returns-clause-good : goal.returns-clause-good
returns-clause-good c =
    let inv = c.loop-row.invariant in
    let s = rw c.in-None.is at ((c.next.ensures.steps inv.2 inv.0).0 inv.1) in
    let ended = rows-end (λ (s : Bor (List ℕ)). Some s.now) c.loop-row.row-iterator.rdr c.next.new.self.rdr [] default_config inv.4 inv.3 inv.5 s in
    (good_all c.args.text.now c.loop-row.good inv.7 (read_all (strip_bom c.args.text.now) c.loop-row.good c.loop-row.row-iterator.rdr.state inv.4 inv.6 ended)).0

pub returns-clause-refused : goal.returns-clause-refused
returns-clause-refused c =
    let inv = c.loop-row.invariant in
    let s = rw c.in-None.is at ((c.next.ensures.steps inv.2 inv.0).0 inv.1) in
    let ended = rows-end (λ (s : Bor (List ℕ)). Some s.now) c.loop-row.row-iterator.rdr c.next.new.self.rdr [] default_config inv.4 inv.3 inv.5 s in
    c.is_empty-refused.ensures ∙ (good_all c.args.text.now c.loop-row.good inv.7 (read_all (strip_bom c.args.text.now) c.loop-row.good c.loop-row.row-iterator.rdr.state inv.4 inv.6 ended)).1
