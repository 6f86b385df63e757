-- Changes with their memory, one after another.
use Rattle.std.proofs.Common.{◌≡◌, ℕ, ◌+◌, ◌<◌, length, take, get_or, List, [], ◌∷◌, ◌++◌, cond, Bool, true, false, map, Option, Some, None, refl, sym, ap, ◌∙◌, subst}
use Rattle.std.specs.FinMap.{get, insert, remove, get-insert, get-remove, same_map}
use Rattle.vec_base.specs.declared.shadow.Change.{Change}
use Rattle.vec_base.specs.declared.shadow.Change.TheVariants.{Put, Fill, Remove, Patch}
use Rattle.vec_base.specs.declared.shadow.ShadowKey.{ShadowKey}
use Rattle.shadow_records.specs.Batches.{changed, applied, Applies, AllApply}
use Rattle.shadow_records.specs.Keys.{Tables, is_key}
use Rattle.shadow_records.proofs.KeyLaws.{key_total, key_same}
use Rattle.shadow_keeper.specs.declared.edit.Edit.{Edit}
use Rattle.shadow_keeper.specs.inner.Edits.{edit_of, change_of, key_of_edit, key_of_change}
use Rattle.std.proofs.lemmas.List.{take_more}
use Rattle.shadow_keeper.specs.inner.Slots.{tables_in, IsHeld, AllHeld, KeepsSlots}

twice : (b : Bool) (body : Option (List ℕ)) (other : Option (List ℕ)) → cond b body (cond b None other) ≡ cond b body other
twice true body other = refl
twice false body other = refl

-- a body that was taken out and is put back
pub insert-remove : (tables : Tables) (key : ShadowKey) (body : List ℕ) → insert (remove tables key) key body ≡ insert tables key body
insert-remove tables key body = same_map key_total key_same (insert (remove tables key) key body) (insert tables key body) (λ q.
    get-insert key_total (remove tables key) key body q
    ∙ ap (cond (is_key q key) (Some body)) (get-remove key_total tables key q)
    ∙ twice (is_key q key) (Some body) (get tables q)
    ∙ sym (get-insert key_total tables key body q))

pub same_changed : (c : Change) (tables : Tables) → changed (change_of (edit_of c)) tables ≡ changed c tables
same_changed (Put key bytes) tables = refl
same_changed (Fill key count) tables = refl
same_changed (Remove key) tables = refl
same_changed (Patch key at bytes) tables = refl

same_applies : (c : Change) (tables : Tables) → Applies c tables → Applies (change_of (edit_of c)) tables
same_applies (Put key bytes) tables applies = applies
same_applies (Fill key count) tables applies = tt
same_applies (Remove key) tables applies = applies
same_applies (Patch key at bytes) tables applies = applies

pub same_key : (c : Change) → key_of_edit (edit_of c) ≡ key_of_change c
same_key (Put key bytes) = refl
same_key (Fill key count) = refl
same_key (Remove key) = refl
same_key (Patch key at bytes) = refl

pub all_applied : (cs : List Change) (tables : Tables) → applied (map change_of (map edit_of cs)) tables ≡ applied cs tables
all_applied [] tables = refl
all_applied (c ∷ cs) tables = ap (λ t. applied (map change_of (map edit_of cs)) t) (same_changed c tables) ∙ all_applied cs (changed c tables)

pub all_made : (cs : List Change) (tables : Tables) → AllApply cs tables → AllApply (map change_of (map edit_of cs)) tables
all_made [] tables applies = tt
all_made (c ∷ cs) tables applies = (
  same_applies c tables applies.0,
  let P : Tables → Type 0 = λ t. AllApply (map change_of (map edit_of cs)) t in
      subst P (sym (same_changed c tables)) (all_made cs (changed c tables) applies.1),
)

pub all_held : (old new : List (ShadowKey × Option (List ℕ))) (edits : List Edit) → KeepsSlots old new → AllHeld old edits → AllHeld new edits
all_held old new [] keeps held = tt
all_held old new (edit ∷ edits) keeps held = (keeps (key_of_edit edit) held.0, all_held old new edits keeps held.1)

held_more : (slots : List (ShadowKey × Option (List ℕ))) (edits : List Edit) (edit : Edit) → AllHeld slots edits → IsHeld slots (key_of_edit edit) → AllHeld slots (edits ++ edit ∷ [])
held_more slots [] edit held one = (one, tt)
held_more slots (first ∷ edits) edit held one = (held.0, held_more slots edits edit held.1 one)

map-more : (cs : List Change) (c : Change) → map edit_of (cs ++ c ∷ []) ≡ map edit_of cs ++ edit_of c ∷ []
map-more [] c = refl
map-more (first ∷ cs) c = ap (λ es. edit_of first ∷ es) (map-more cs c)

-- one change more has its memory
pub prepared_more : (changes : List Change) (i : ℕ) (change : Change) (old new : List (ShadowKey × Option (List ℕ))) (edits : List Edit) (edit : Edit) (start : Tables)
    → i < length changes → change ≡ get_or changes i change → edit ≡ edit_of change
    → tables_in new ≡ tables_in old → KeepsSlots old new → IsHeld new (key_of_change change)
    → (tables_in old ≡ start) × (edits ≡ map edit_of (take i changes)) × AllHeld old edits
    → (tables_in new ≡ start) × (edits ++ edit ∷ [] ≡ map edit_of (take (i + 1) changes)) × AllHeld new (edits ++ edit ∷ [])
prepared_more changes i change old new edits edit start within at made same keeps held before = (
  same ∙ before.0,
  ap (λ es. es ++ edit ∷ []) before.1 ∙ ap (λ e. map edit_of (take i changes) ++ e ∷ []) made
      ∙ sym (map-more (take i changes) change)
      ∙ ap (λ c. map edit_of (take i changes ++ c ∷ [])) at
      ∙ ap (map edit_of) (sym (take_more changes i change within)),
  held_more new edits edit (all_held old new edits keeps before.2)
      (let P : ShadowKey → Type 0 = λ key. IsHeld new key in subst P (sym (ap key_of_edit made ∙ same_key change)) held),
)

-- one change is made, and those behind it are left
pub made_more : (rest more : List Edit) (edit : Edit) (old new : List (ShadowKey × Option (List ℕ))) (end : Tables)
    → rest ≡ edit ∷ more → tables_in new ≡ changed (change_of edit) (tables_in old) → KeepsSlots old new
    → (applied (map change_of rest) (tables_in old) ≡ end) × AllApply (map change_of rest) (tables_in old) × AllHeld old rest
    → (applied (map change_of more) (tables_in new) ≡ end) × AllApply (map change_of more) (tables_in new) × AllHeld new more
made_more rest more edit old new end splits made keeps before =
    let P : List Edit → Type 0 = λ es. (applied (map change_of es) (tables_in old) ≡ end) × AllApply (map change_of es) (tables_in old) × AllHeld old es in
    let now : P (edit ∷ more) = subst P splits before in
    let Q : Tables → Type 0 = λ t. AllApply (map change_of more) t in (
      ap (applied (map change_of more)) made ∙ now.0,
      subst Q (sym made) now.1.1,
      all_held old new more keeps now.2.1,
    )
