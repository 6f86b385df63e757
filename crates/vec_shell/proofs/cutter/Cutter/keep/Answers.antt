use Rattle.std.proofs.Common.{◌∙◌, ap, ◌++◌, List, ℕ}
use Rattle.vec_shell.specs.inner.Cutting.{wanted_of}
use Rattle.vec_shell.proofs.CutterLaws.{keeps_same, keeps_lost, keeps_more, keeps_none, wanted_none, wanted_some}
use Rattle.vec_shell.proofs.cutter.Cutter.keep.Goals as goal

pub returns-then-self-clause-text : goal.returns-then-self-clause-text
returns-then-self-clause-text c piece kept = keeps_lost c.args.self.now piece c.args.bytes.now c.if-self.true kept

pub returns-then-is_empty-clause-text : goal.returns-then-is_empty-clause-text
returns-then-is_empty-clause-text c piece kept =
    keeps_same c.args.self.now piece c.args.bytes.now
    (wanted_none c.args.self.now.text c.as_slice.result.now c.args.bytes.now c.wanted_of-wanted.result.now c.is_empty.result c.as_slice.ensures c.wanted_of-wanted.ensures c.is_empty.ensures c.if-is_empty.true) kept

pub returns-in-Err-clause-text : goal.returns-in-Err-clause-text
returns-in-Err-clause-text c piece kept =
    keeps_none c.args.self.now piece c.args.bytes.now _ c.if-self.false
    (wanted_some c.args.self.now.text c.as_slice.result.now c.args.bytes.now c.wanted_of-wanted.result.now c.is_empty.result c.as_slice.ensures c.wanted_of-wanted.ensures c.is_empty.ensures c.if-is_empty.false) kept

pub returns-in-Ok-clause-text : goal.returns-in-Ok-clause-text
returns-in-Ok-clause-text c piece kept =
    keeps_more c.args.self.now piece c.args.bytes.now _ c.if-self.false
    (c.in-Ok.ensures.ok ∙ ap (λ (z : List ℕ). c.args.self.now.text ++ z) (c.wanted_of-wanted.ensures ∙ ap (λ (t : List ℕ). wanted_of t c.args.bytes.now) c.as_slice.ensures)) kept
