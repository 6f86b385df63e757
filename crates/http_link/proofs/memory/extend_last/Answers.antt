use Rattle.std.proofs.Common.{rules, ◌≡◌, ◌∙◌, ◌-◌, ◌++◌, ap, length, slice_index_or, if◌then◌else◌, arith}
use Rattle.http_link.proofs.LastLaws.{last_extended}
use Rattle.http_link.proofs.memory.extend_last.Goals as goal

pub returns : goal.returns
returns c =
    let same : c.into_vec-items.result.items ≡ c.args.lists.now = c.into_vec-items.ensures ∙ c.replace.ensures.value in
    let counted : c.len-count.result ≡ length c.into_vec-items.result.items = search rules in
    let last : c.index_mut.result.now ≡ slice_index_or c.args.lists.now (c.len-count.result - 1) c.index_mut.result.now =
    c.index_mut.ensures.value ∙ ap (λ lists. slice_index_or lists (c.len-count.result - 1) c.index_mut.result.now) same in
    c.from_vec.ensures
    ∙ rw same
    (last_extended c.extend-extended.result c.args.lists.now c.args.more.now _ _ c.index_mut.result.now
    (omega (arith, c.if-count-eq0.false, counted, ap length same))
    (c.extend-extended.ensures ∙ ap (λ bytes. if c.extend-extended.result then bytes ++ c.args.more.now else bytes) last))
