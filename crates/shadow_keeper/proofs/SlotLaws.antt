-- What slots hold, key by key, and what becomes of it when one slot is another.
use Rattle.std.proofs.Common.{◌≡◌, ℕ, List, [], ◌∷◌, Bool, true, false, cond, Option, Some, None, IsSome, refl, sym, ap, ◌∙◌, subst}
use Rattle.std.specs.BTreeMap.{is_at}
use Rattle.std.specs.Cmp.{eq_by_cmp_equiv}
use Rattle.std.specs.FinMap.{get, get-empty, get-insert, get-remove, same_map}
use Rattle.vec_base.specs.declared.shadow.ShadowKey.{ShadowKey}
use Rattle.shadow_records.specs.Keys.{Tables, key_cmp, is_key}
use Rattle.shadow_records.proofs.KeyLaws.{key_total, key_same, key_is}
use Rattle.shadow_keeper.specs.inner.Slots.{with_slot, tables_in, slot_of, IsHeld, KeepsSlots}

-- the body in a slot, if there is a slot and it has one
abbrev pub body_in : Option (Option (List ℕ)) → Option (List ℕ)
body_in None = None
body_in (Some body) = body

body_in-cond : (b : Bool) (body : Option (List ℕ)) (other : Option (Option (List ℕ))) → body_in (cond b (Some body) other) ≡ cond b body (body_in other)
body_in-cond true body other = refl
body_in-cond false body other = refl

get-with_slot : (key : ShadowKey) (body : Option (List ℕ)) (tables : Tables) (q : ShadowKey) → get (with_slot key body tables) q ≡ cond (is_key q key) body (get tables q)
get-with_slot key None tables q = get-remove key_total tables key q
get-with_slot key (Some body) tables q = get-insert key_total tables key body q

pub get-tables_in : (slots : List (ShadowKey × Option (List ℕ))) (q : ShadowKey) → get (tables_in slots) q ≡ body_in (slot_of slots q)
get-tables_in [] q = get-empty key_cmp q
get-tables_in (slot ∷ slots) q =
    get-with_slot slot.0 slot.1 (tables_in slots) q
    ∙ ap (cond (is_key q slot.0) slot.1) (get-tables_in slots q)
    ∙ sym (body_in-cond (is_key q slot.0) slot.1 (slot_of slots q))

-- the slot of the key is another, and the others are the same
abbrev pub ChangesSlot : List (ShadowKey × Option (List ℕ)) → List (ShadowKey × Option (List ℕ)) → ShadowKey → Option (Option (List ℕ)) → Type 0
ChangesSlot old new key slot = (q : ShadowKey) → slot_of new q ≡ cond (is_at (key_cmp key) q) slot (slot_of old q)

-- a slot gets a body, or loses it
pub slot_changed : (old new : List (ShadowKey × Option (List ℕ))) (key : ShadowKey) (body : Option (List ℕ)) → ChangesSlot old new key (Some body) → tables_in new ≡ with_slot key body (tables_in old)
slot_changed old new key body changes = same_map key_total key_same (tables_in new) (with_slot key body (tables_in old)) (λ q.
    get-tables_in new q ∙ ap body_in (changes q)
    ∙ body_in-cond (is_key key q) body (slot_of old q)
    ∙ ap (λ b. cond b body (body_in (slot_of old q))) ((eq_by_cmp_equiv key_total).symm key q)
    ∙ ap (cond (is_key q key) body) (sym (get-tables_in old q))
    ∙ sym (get-with_slot key body (tables_in old) q))

-- a slot comes or goes, and has no body
pub slot_unseen : (old new : List (ShadowKey × Option (List ℕ))) (key : ShadowKey) (slot : Option (Option (List ℕ))) → ChangesSlot old new key slot → body_in slot ≡ body_in (slot_of old key) → tables_in new ≡ tables_in old
slot_unseen old new key slot changes same = same_map key_total key_same (tables_in new) (tables_in old) (λ q.
    get-tables_in new q ∙ ap body_in (changes q) ∙ at q (is_key key q) refl ∙ sym (get-tables_in old q)) where
      at : (q : ShadowKey) (b : Bool) → is_key key q ≡ b → body_in (cond b slot (slot_of old q)) ≡ body_in (slot_of old q)
      at q true e = same ∙ ap (λ k. body_in (slot_of old k)) (key_is key q e)
      at q false e = refl

pub slots_kept : (old new : List (ShadowKey × Option (List ℕ))) (key : ShadowKey) (body : Option (List ℕ)) → ChangesSlot old new key (Some body) → KeepsSlots old new
slots_kept old new key body changes q held =
    let P : Option (Option (List ℕ)) → Type 0 = λ slot. IsSome slot in
    subst P (sym (changes q)) (either (is_at (key_cmp key) q)) where
      either : (b : Bool) → IsSome (cond b (Some body) (slot_of old q))
      either true = refl
      either false = held

pub slot_held : (old new : List (ShadowKey × Option (List ℕ))) (key : ShadowKey) (body : Option (List ℕ)) → ChangesSlot old new key (Some body) → IsHeld new key
slot_held old new key body changes =
    let P : Option (Option (List ℕ)) → Type 0 = λ slot. IsSome slot in
    let Q : Bool → Type 0 = λ b. IsSome (cond b (Some body) (slot_of old key)) in
    subst P (sym (changes key)) (subst Q (sym ((eq_by_cmp_equiv key_total).refl key)) refl)
