-- Entries with different keys as kept records: what a map's inserts, removals and values that are written back do to them.
use Rattle.std.proofs.Common.{◌≡◌, ℕ, List, [], ◌∷◌, cond, Option, Some, None, refl, sym, ap, subst, ◌∙◌}
use Rattle.std.specs.Prelude.{IsSome}
use Rattle.std.specs.Ordering.{eq_by_cmp}
use Rattle.std.specs.Cmp.{eq_by_cmp_equiv}
use Rattle.std.specs.FinMap.{get, insert, remove, find, get-from_entries, get-insert, get-remove, same_map}
use Rattle.std.specs.Map.{lookup, set_value}
use Rattle.std.specs.BTreeMap.{is_at}
use Rattle.std.proofs.lemmas.Map.{lookup-set_value}
use Rattle.vec_base.specs.declared.shadow.ShadowKey.{ShadowKey}
use Rattle.shadow_records.specs.Keys.{key_cmp}
use Rattle.shadow_records.proofs.KeyLaws.{key_total, key_same, key_is}
use Rattle.shadow_keeper.specs.Keeping.{tables_of}

abbrev Entries : Type 0
Entries = List (ShadowKey × List ℕ)

find_lookup : (q : ShadowKey) (es : Entries) → find key_cmp q es ≡ lookup (is_at (key_cmp q)) es
find_lookup q [] = refl
find_lookup q (e ∷ es) = ap (cond (eq_by_cmp key_cmp q e.0) (Some e.1)) (find_lookup q es)

-- a lookup reads the kept records
pub found : (es : Entries) (q : ShadowKey) → get (tables_of es) q ≡ lookup (is_at (key_cmp q)) es
found es q = get-from_entries key_total es q ∙ find_lookup q es

pub inserted : (old new : Entries) (key : ShadowKey) (v : List ℕ) → ((q : ShadowKey) → lookup (is_at (key_cmp q)) new ≡ cond (eq_by_cmp key_cmp key q) (Some v) (lookup (is_at (key_cmp q)) old))
    → tables_of new ≡ insert (tables_of old) key v
inserted old new key v updates = same_map key_total key_same (tables_of new) (insert (tables_of old) key v) (λ q.
    found new q ∙ updates q
    ∙ ap (λ b. cond b (Some v) (lookup (is_at (key_cmp q)) old)) ((eq_by_cmp_equiv key_total).symm key q)
    ∙ ap (cond (eq_by_cmp key_cmp q key) (Some v)) (sym (found old q))
    ∙ sym (get-insert key_total (tables_of old) key v q))

pub removed : (old new : Entries) (key : ShadowKey) → ((q : ShadowKey) → lookup (is_at (key_cmp q)) new ≡ cond (eq_by_cmp key_cmp key q) None (lookup (is_at (key_cmp q)) old))
    → tables_of new ≡ remove (tables_of old) key
removed old new key updates = same_map key_total key_same (tables_of new) (remove (tables_of old) key) (λ q.
    found new q ∙ updates q
    ∙ ap (λ b. cond b None (lookup (is_at (key_cmp q)) old)) ((eq_by_cmp_equiv key_total).symm key q)
    ∙ ap (cond (eq_by_cmp key_cmp q key) None) (sym (found old q))
    ∙ sym (get-remove key_total (tables_of old) key q))

some_there : (o : Option (List ℕ)) (old : List ℕ) → o ≡ Some old → IsSome o
some_there o old e = let P : Option (List ℕ) → Type 0 = λ x. IsSome x in subst P (sym e) refl

-- a value that is written back
pub written_back : (es : Entries) (key : ShadowKey) (old v : List ℕ) → Some old ≡ lookup (is_at (key_cmp key)) es → tables_of (set_value (is_at (key_cmp key)) es v) ≡ insert (tables_of es) key v
written_back es key old v there =
    let laws = eq_by_cmp_equiv key_total in
    same_map key_total key_same (tables_of (set_value (is_at (key_cmp key)) es v)) (insert (tables_of es) key v) (λ q.
    found (set_value (is_at (key_cmp key)) es v) q
    ∙ lookup-set_value laws (is_at (key_cmp key)) (λ x y at. ap (λ k. eq_by_cmp key_cmp k y) (key_is key x at)) q v es (some_there _ old (sym there))
    ∙ ap (λ b. cond b (Some v) (lookup (is_at (key_cmp q)) es)) (laws.symm key q)
    ∙ ap (cond (eq_by_cmp key_cmp q key) (Some v)) (sym (found es q))
    ∙ sym (get-insert key_total (tables_of es) key v q))
