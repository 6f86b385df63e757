use Rattle.std.proofs.Common.{rules, arith, refl, ◌≡◌, ◌++◌, ◌∷◌, ◌-◌, ◌+◌, ◌^◌, ◌<◌, List, ℕ, [], ap, ◌∙◌, take, drop, length, length-append}
use Rattle.std.specs.List.{flat_map}
use Rattle.std.specs.Int.{w64, to_le_bytes}
use Rattle.journal_format.specs.Format.{change_bytes, block, body_bytes}
use Rattle.journal_format.proofs.PieceLaws.{three, lengthened}
use Rattle.journal_format.proofs.encode.put_batch.Goals as goal

pub returns-clause-ok : goal.returns-clause-ok
unfolding block body_bytes
returns-clause-ok c =
    let old = c.args.out.now.items in
    let made = c.put_changes.new.out.items in
    let body = body_bytes c.args.number c.args.changes.now in
    let n = c.put_changes.new.out.len in
    let start = c.len-start.result in
    let eight : List ℕ = 0 ∷ 0 ∷ 0 ∷ 0 ∷ 0 ∷ 0 ∷ 0 ∷ 0 ∷ [] in
    let long : n ≡ length made = search rules in
    let begins : start ≡ length old = search rules in
    let parts : made ≡ old ++ (eight ++ body) = three old eight (to_le_bytes w64 c.args.number) (flat_map change_bytes c.args.changes.now) c.extend_from_slice.new.self.items c.extend_from_slice-2.new.self.items made
    c.in_ok-extend_from_slice.ensures.items
    (c.in_ok-extend_from_slice-2.ensures.items ∙ ap (λ (l : List ℕ). c.extend_from_slice.new.self.items ++ l) c.to_le_bytes.ensures)
    c.in_ok-put_changes.ensures.ok in
    let same : length c.write_number.new.out ≡ length made = omega (arith, c.write_number.auto.out, ap length c.deref_mut.ensures.value) in
    let written : c.write_number.new.out ≡ take start made ++ (to_le_bytes w64 (n - start - 8) ++ drop (start + 8) made) =
    c.write_number.ensures ∙ ap (λ (k : ℕ). take start c.deref_mut.result.now ++ (to_le_bytes w64 (k - start - 8) ++ drop (start + 8) c.deref_mut.result.now)) c.len.ensures
    ∙ ap (λ (l : List ℕ). take start l ++ (to_le_bytes w64 (n - start - 8) ++ drop (start + 8) l)) c.deref_mut.ensures.value in
    c.in_ok-push.ensures.items ∙ lengthened old made c.write_number.new.out eight body start n begins long same written parts refl

pub returns-clause-small : goal.returns-clause-small
unfolding body_bytes
returns-clause-small c =
    let old = c.args.out.now.items in
    let made = c.put_changes.new.out.items in
    let body = body_bytes c.args.number c.args.changes.now in
    let eight : List ℕ = 0 ∷ 0 ∷ 0 ∷ 0 ∷ 0 ∷ 0 ∷ 0 ∷ 0 ∷ [] in
    let long : c.put_changes.new.out.len ≡ length made = search rules in
    let fits : c.put_changes.new.out.len < 2 ^ 64 = search rules in
    let parts : made ≡ old ++ (eight ++ body) = three old eight (to_le_bytes w64 c.args.number) (flat_map change_bytes c.args.changes.now) c.extend_from_slice.new.self.items c.extend_from_slice-2.new.self.items made
    c.in_ok-extend_from_slice.ensures.items
    (c.in_ok-extend_from_slice-2.ensures.items ∙ ap (λ (l : List ℕ). c.extend_from_slice.new.self.items ++ l) c.to_le_bytes.ensures)
    c.in_ok-put_changes.ensures.ok in
    omega (arith, ap length parts, length-append old (eight ++ body), length-append eight body, long, fits)
