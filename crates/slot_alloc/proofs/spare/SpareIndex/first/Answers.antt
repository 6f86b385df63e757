use Rattle.std.proofs.Common.{◌≡◌, ◌<◌, ◌≤◌, length, sym, ap, ◌∙◌, arith}
use Rattle.std.proofs.lemmas.Bool.{iff_false}
use Rattle.std.proofs.lemmas.List.{get_or_default}
use Rattle.slot_alloc.proofs.SpareLaws.{entry, before_split, no_entry_at_end, no_entry_of_others, first_is_least}
use Rattle.slot_alloc.proofs.spare.SpareIndex.first.Goals as goal

pub front_len-at-requires : goal.front_len-at-requires
front_len-at-requires c = before_split c.self.inside.entries (entry c.args.partition.now 0) c.self.invariant

pub returns-then-at-len : goal.returns-then-at-len
returns-then-at-len c =
    let end : length c.self.inside.entries ≤ c.front_len-at.result = omega (arith, c.if-at-len.true, c.len.ensures) in
    rw (← c.self.view_is) (no_entry_at_end c.self.inside.entries c.args.partition.now c.front_len-at.result c.self.invariant c.front_len-at.ensures end)

pub returns-then-same_values : goal.returns-then-same_values
returns-then-same_values c =
    let es = c.self.inside.entries in
    let at = c.front_len-at.result in
    let e = c.get-entry.result.now in
    let le = c.front_len-at.ensures.within in
    let within : at < length es = omega (arith, c.if-at-len.false, c.len.ensures, le) in
    let same : e.partition ≡ c.args.partition.now = sym (c.values.ensures ∙ c.get.ensures) ∙ c.same_values.ensures.0 c.if-same_values.true in
    rw (← c.self.view_is) (
      within,
      (λ d. get_or_default es at d e within ∙ sym c.get-entry.ensures ∙ ap (λ p. entry p e.number) same),
      first_is_least es c.args.partition.now at c.self.invariant c.front_len-at.ensures e within c.get-entry.ensures same,
    )

pub returns-else-same_values : goal.returns-else-same_values
returns-else-same_values c =
    let es = c.self.inside.entries in
    let at = c.front_len-at.result in
    let e = c.get-entry.result.now in
    let le = c.front_len-at.ensures.within in
    let within : at < length es = omega (arith, c.if-at-len.false, c.len.ensures, le) in
    rw (← c.self.view_is) (
    no_entry_of_others es c.args.partition.now at c.self.invariant c.front_len-at.ensures e within c.get-entry.ensures
    (λ same. iff_false c.same_values.ensures c.if-same_values.false (c.values.ensures ∙ c.get.ensures ∙ same)))
