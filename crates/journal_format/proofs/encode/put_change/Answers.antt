use Rattle.std.proofs.Common.{◌++◌, ◌∷◌, List, ℕ, [], ap, sym, ◌∙◌}
use Rattle.std.specs.Int.{w32, to_le_bytes}
use Rattle.std.proofs.lemmas.Result.{on_ok_weaker}
use Rattle.vec_base.specs.declared.shadow.Change.{Change}
use Rattle.journal_format.specs.Format.{key_bytes, counted, change_bytes}
use Rattle.journal_format.proofs.PieceLaws.{two, three, four}
use Rattle.journal_format.proofs.encode.put_change.Goals as goal

pub returns-in_ok-put_key-in-Put-clause-ok : goal.returns-in_ok-put_key-in-Put-clause-ok
returns-in_ok-put_key-in-Put-clause-ok c = on_ok_weaker c.put_counted.result (λ e.
    three c.args.out.now.items (1 ∷ []) (key_bytes c.in-Put.key) (counted c.in-Put.body) c.push.new.self.items c.put_key.new.out.items c.put_counted.new.out.items
    c.in_ok-push-in-Put.ensures.items c.in_ok-put_key-in-Put.ensures.ok (e ∙ ap (λ (l : List ℕ). c.put_key.new.out.items ++ counted l) c.as_slice.ensures)
    ∙ ap (λ (x : Change). c.args.out.now.items ++ change_bytes x) (sym c.in-Put.is)) c.put_counted.ensures

pub returns-in_ok-extend_from_slice-in-Fill-clause-ok : goal.returns-in_ok-extend_from_slice-in-Fill-clause-ok
returns-in_ok-extend_from_slice-in-Fill-clause-ok c =
    three c.args.out.now.items (2 ∷ []) (key_bytes c.in-Fill.key) _ c.push-in-Fill.new.self.items c.put_key-in-Fill.new.out.items c.extend_from_slice.new.self.items
    c.in_ok-push-in-Fill.ensures.items c.in_ok-put_key-in-Fill.ensures.ok
    (c.in_ok-extend_from_slice-in-Fill.ensures.items ∙ ap (λ (l : List ℕ). c.put_key-in-Fill.new.out.items ++ l) c.to_le_bytes.ensures)
    ∙ ap (λ (x : Change). c.args.out.now.items ++ change_bytes x) (sym c.in-Fill.is)

pub returns-in_ok-push-in-Remove-clause-ok : goal.returns-in_ok-push-in-Remove-clause-ok
returns-in_ok-push-in-Remove-clause-ok c = on_ok_weaker c.put_key-in-Remove.result (λ e.
    two c.args.out.now.items (3 ∷ []) (key_bytes c.in-Remove.key) c.push-in-Remove.new.self.items c.put_key-in-Remove.new.out.items
    c.in_ok-push-in-Remove.ensures.items e
    ∙ ap (λ (x : Change). c.args.out.now.items ++ change_bytes x) (sym c.in-Remove.is)) c.put_key-in-Remove.ensures.ok

pub returns-in_ok-extend_from_slice-in-Patch-clause-ok : goal.returns-in_ok-extend_from_slice-in-Patch-clause-ok
returns-in_ok-extend_from_slice-in-Patch-clause-ok c = on_ok_weaker c.put_counted-in-Patch.result (λ e.
    four c.args.out.now.items (4 ∷ []) (key_bytes c.in-Patch.key) (to_le_bytes w32 c.in-Patch.at) (counted c.in-Patch.bytes) c.push-in-Patch.new.self.items c.put_key-in-Patch.new.out.items c.extend_from_slice-in-Patch.new.self.items c.put_counted-in-Patch.new.out.items
    c.in_ok-push-in-Patch.ensures.items c.in_ok-put_key-in-Patch.ensures.ok
    (c.in_ok-extend_from_slice-in-Patch.ensures.items ∙ ap (λ (l : List ℕ). c.put_key-in-Patch.new.out.items ++ l) c.to_le_bytes-in-Patch.ensures)
    (e ∙ ap (λ (l : List ℕ). c.extend_from_slice-in-Patch.new.self.items ++ counted l) c.as_slice-in-Patch.ensures)
    ∙ ap (λ (x : Change). c.args.out.now.items ++ change_bytes x) (sym c.in-Patch.is)) c.put_counted-in-Patch.ensures
