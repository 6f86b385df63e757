-- Changes as they lie in bytes.
use Rattle.vec_base.specs.declared.shadow.Change.{Change}
use Rattle.vec_base.specs.declared.shadow.Change.TheVariants.{Put, Fill, Remove, Patch}
use Rattle.journal_format.specs.declared.view.ChangeView.{ChangeView}
use Rattle.journal_format.specs.declared.view.ChangeView.TheVariants as view

-- the change without where it lies
abbrev pub change_of : ChangeView → Change
change_of (view.Put key body) = Put key body.now
change_of (view.Fill key count) = Fill key count
change_of (view.Remove key) = Remove key
change_of (view.Patch key at bytes) = Patch key at bytes.now
