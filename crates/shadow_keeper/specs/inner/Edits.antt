-- Changes whose bodies are made already.
use Rattle.std.specs.Prelude.{replicate}
use Rattle.vec_base.specs.declared.shadow.Change.{Change}
use Rattle.vec_base.specs.declared.shadow.Change.TheVariants.{Put, Fill, Remove, Patch}
use Rattle.vec_base.specs.declared.shadow.ShadowKey.{ShadowKey}
use Rattle.shadow_keeper.specs.declared.edit.Edit.{Edit}
use Rattle.shadow_keeper.specs.declared.edit.Edit.TheVariants as edit

abbrev pub edit_of : Change → Edit
edit_of (Put key bytes) = edit.Put key bytes
edit_of (Fill key count) = edit.Put key (replicate count 0)
edit_of (Remove key) = edit.Remove key
edit_of (Patch key at bytes) = edit.Patch key at bytes

abbrev pub change_of : Edit → Change
change_of (edit.Put key bytes) = Put key bytes
change_of (edit.Remove key) = Remove key
change_of (edit.Patch key at bytes) = Patch key at bytes

abbrev pub key_of_change : Change → ShadowKey
key_of_change (Put key bytes) = key
key_of_change (Fill key count) = key
key_of_change (Remove key) = key
key_of_change (Patch key at bytes) = key

abbrev pub key_of_edit : Edit → ShadowKey
key_of_edit (edit.Put key bytes) = key
key_of_edit (edit.Remove key) = key
key_of_edit (edit.Patch key at bytes) = key
