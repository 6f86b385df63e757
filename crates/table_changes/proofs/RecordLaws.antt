-- A record that is written whole or taken away, and keys that have none.
use Rattle.std.proofs.Common.{◌≡◌, ℕ, zero, suc, ◌≤◌, ◌==◌, ℤ, pos, negsuc, List, [], ◌∷◌, ◌++◌, length, Bool, true, false, ◌||◌, Option, Some, None, is_some, Result, OnOk, ⊎_elim, refl, sym, ap, ap₂, ◌∙◌, subst}
use Rattle.std.specs.Prelude.{IsSome}
use Rattle.std.specs.declared.result.Result.TheVariants.{Ok, Err}
use Rattle.std.proofs.lemmas.Bool.{false≢true, and_parts, and_from, or_parts, or_cases, or_left, or_right, or_from, eqb-true, eq-eqb, false_from_ne_true}
use Rattle.row_model.specs.CanonicalColumns.{canonical_columns}
use Rattle.row_model.specs.declared.schema.Schema.{Schema}
use Rattle.vec_base.specs.declared.shadow.Change.{Change}
use Rattle.vec_base.specs.declared.shadow.Change.TheVariants.{Put, Remove}
use Rattle.vec_base.specs.declared.shadow.ShadowKey.{ShadowKey}
use Rattle.shadow_keeper.specs.declared.keeper.TheConstants.{MOST_CHANGE_BYTES}
use Rattle.shadow_records.specs.Keys.{is_key, key_of}
use Rattle.shadow_records.specs.PlacedTables.{PlacedTable}
use Rattle.shadow_records.specs.Records.{at_zero, body_at, body_of}
use Rattle.shadow_records.specs.StandsFor.{record_in}
use Rattle.shadow_records.proofs.KeyLaws.{is_key-same, key_is}
use Rattle.table_changes.specs.inner.KeySets.{is_chunk_kind, is_info_kind, is_of, is_row_kind}
use Rattle.table_changes.specs.inner.Steps.{TurnsKeys}
use Rattle.table_changes.proofs.SameLaws.{by_chunk_kind}
use Rattle.table_changes.proofs.Steps.{one_put, one_remove, rewrites-one, rewrites-same, rewrites-then}

never : {A : Type 0} (b : Bool) → b ≡ true → b ≡ false → A
never b t f = absurd (false≢true (sym f ∙ t))

-- what follows from a success holds of one
pub on_ok : {T E : Type 0} (result : Result T E) (P Q : Type 0) → OnOk result P → (P → Q) → OnOk result Q
on_ok (Ok x) P Q holds more = more holds
on_ok (Err e) P Q holds more = tt

-- ---- one record

pub put_newer : (key : ShadowKey) (older newer : Option PlacedTable) (bytes : List ℕ) (old new : List Change) → Some bytes ≡ record_in newer key → length bytes ≤ MOST_CHANGE_BYTES → new ≡ old ++ Put key bytes ∷ []
    → TurnsKeys (λ k. is_key k key) older newer old new
put_newer key older newer bytes old new is short made =
    let P : List Change → Type 0 = λ cs. TurnsKeys (λ k. is_key k key) older newer old cs in
    subst P (sym made) (rewrites-one key (record_in older) (record_in newer) (record_in older key) (Some bytes) old (old ++ Put key bytes ∷ []) refl is (one_put key bytes (record_in older key) old short))

some_there : (o : Option (List ℕ)) → is_some o ≡ true → IsSome o
some_there None e = absurd (false≢true e)
some_there (Some body) e = refl

none_there : (o : Option (List ℕ)) → is_some o ≡ false → o ≡ None
none_there None e = refl
none_there (Some body) e = absurd (false≢true (sym e))

pub remove_older : (key : ShadowKey) (older newer : Option PlacedTable) (old new : List Change) → None ≡ record_in newer key → is_some (record_in older key) ≡ true → new ≡ old ++ Remove key ∷ []
    → TurnsKeys (λ k. is_key k key) older newer old new
remove_older key older newer old new is there made =
    let P : List Change → Type 0 = λ cs. TurnsKeys (λ k. is_key k key) older newer old cs in
    subst P (sym made) (rewrites-one key (record_in older) (record_in newer) (record_in older key) None old (old ++ Remove key ∷ []) refl is (one_remove key (record_in older key) old (some_there (record_in older key) there)))

-- a key with the same record in both tables
pub same_record : (key : ShadowKey) (older newer : Option PlacedTable) (old : List Change) → record_in older key ≡ record_in newer key → TurnsKeys (λ k. is_key k key) older newer old old
same_record key older newer old same = rewrites-same (λ k. is_key k key) (record_in older) (record_in newer) old
    (λ k is. ap (record_in older) (key_is k key is) ∙ same ∙ ap (record_in newer) (sym (key_is k key is)))

pub no_record : (key : ShadowKey) (older newer : Option PlacedTable) (old : List Change) → None ≡ record_in newer key → is_some (record_in older key) ≡ false → TurnsKeys (λ k. is_key k key) older newer old old
no_record key older newer old is none = same_record key older newer old (none_there (record_in older key) none ∙ is)

-- no keys yet
pub no_keys : (keys : ShadowKey → Bool) (older newer : Option PlacedTable) (old : List Change) → ((key : ShadowKey) → keys key ≡ false) → TurnsKeys keys older newer old old
no_keys keys older newer old none = rewrites-same keys (record_in older) (record_in newer) old (λ key is. never (keys key) is (none key))

-- ---- what a table is called and made of, and its top

pub same_name : (number : ℕ) (older newer : PlacedTable) → older.name ≡ newer.name → older.schema ≡ newer.schema → body_of older (key_of number 1 (pos 0) (pos 0)) ≡ body_of newer (key_of number 1 (pos 0) (pos 0))
same_name number older newer name schema = ap₂ (λ n (s : Schema). Some (length n ∷ (n ++ canonical_columns s))) name schema

at_zero_none : (b : ℤ) → at_zero b None ≡ None
at_zero_none (pos zero) = refl
at_zero_none (pos (suc n)) = refl
at_zero_none (negsuc n) = refl

-- another key of its kind has no record
no_info : (table : PlacedTable) (a b : ℤ) → (a ≡ pos 0 → b ≡ pos 0 → ⊥) → (a ≡ pos 1 → b ≡ pos 0 → ⊥) → body_at table 1 a b ≡ None
no_info table (pos zero) (pos zero) one two = absurd (one refl refl)
no_info table (pos zero) (pos (suc n)) one two = refl
no_info table (pos zero) (negsuc n) one two = refl
no_info table (pos (suc zero)) (pos zero) one two = absurd (two refl refl)
no_info table (pos (suc zero)) (pos (suc n)) one two = refl
no_info table (pos (suc zero)) (negsuc n) one two = refl
no_info table (pos (suc (suc m))) b one two = at_zero_none b
no_info table (negsuc m) b one two = at_zero_none b

key_from : (q : ShadowKey) (n k : ℕ) (a b : ℤ) → q.table ≡ n → q.kind ≡ k → q.a ≡ a → q.b ≡ b → q ≡ key_of n k a b
key_from q n k a b t u v w = λ i. record { table = t i; kind = u i; a = v i; b = w i }

zero_one : pos 0 ≡ pos 1 → ⊥
zero_one e = absurd cc

pub info_whole : (number : ℕ) (older newer : Option PlacedTable) (old mid new : List Change)
    → TurnsKeys (λ k. is_key k (key_of number 1 (pos 0) (pos 0))) older newer old mid → TurnsKeys (λ k. is_key k (key_of number 1 (pos 1) (pos 0))) older newer mid new
    → TurnsKeys (is_of is_info_kind number) older newer old new
info_whole number older newer old mid new one two =
    rewrites-then (λ k. is_key k (key_of number 1 (pos 0) (pos 0))) (λ k. is_key k (key_of number 1 (pos 1) (pos 0))) (is_of is_info_kind number) (record_in older) (record_in newer) old mid new one two
    (λ key is. false_from_ne_true (is_key key (key_of number 1 (pos 0) (pos 0))) (λ e. zero_one (ap (λ (k : ShadowKey). k.a) (sym (key_is key _ e) ∙ key_is key _ is))))
    (λ key is. ap (is_of is_info_kind number) (key_is key _ is) ∙ eq-eqb number number refl)
    (λ key is. ap (is_of is_info_kind number) (key_is key _ is) ∙ eq-eqb number number refl)
    (λ key is e f.
    let parts = and_parts (key.kind == 1) (key.table == number) is in
    let kind = eqb-true key.kind 1 parts.0 in
    let table = eqb-true key.table number parts.1 in
    none older key kind (out key table kind (pos 0) e) (out key table kind (pos 1) f) ∙ sym (none newer key kind (out key table kind (pos 0) e) (out key table kind (pos 1) f)))
  where
    out : (key : ShadowKey) → key.table ≡ number → key.kind ≡ 1 → (a : ℤ) → is_key key (key_of number 1 a (pos 0)) ≡ false → key.a ≡ a → key.b ≡ pos 0 → ⊥
    out key table kind a e first second = never (is_key key (key_of number 1 a (pos 0))) (ap (λ k. is_key k (key_of number 1 a (pos 0))) (key_from key number 1 a (pos 0) table kind first second) ∙ is_key-same (key_of number 1 a (pos 0))) e

    none : (o : Option PlacedTable) (key : ShadowKey) → key.kind ≡ 1 → (key.a ≡ pos 0 → key.b ≡ pos 0 → ⊥) → (key.a ≡ pos 1 → key.b ≡ pos 0 → ⊥) → record_in o key ≡ None
    none None key kind first second = refl
    none (Some table) key kind first second = ap (λ k. body_at table k key.a key.b) kind ∙ no_info table key.a key.b first second

-- ---- all kinds

other_kind : (table : PlacedTable) (kind : ℕ) (a b : ℤ) → is_info_kind kind ≡ false → is_chunk_kind kind ≡ false → is_row_kind kind ≡ false → body_at table kind a b ≡ None
other_kind table kind a b info chunk row =
    let two = or_parts (kind == 2) (kind == 4 || kind == 5) chunk in
    let four = or_parts (kind == 4) (kind == 5) two.1 in
    let three = or_parts (kind == 3) (kind == 6 || kind == 7) row in
    let six = or_parts (kind == 6) (kind == 7) three.1 in
    rw (info, two.0, three.0, four.0, four.1, six.0, six.1) refl

other_record : (o : Option PlacedTable) (key : ShadowKey) → is_info_kind key.kind ≡ false → is_chunk_kind key.kind ≡ false → is_row_kind key.kind ≡ false → record_in o key ≡ None
other_record None key info chunk row = refl
other_record (Some table) key info chunk row = other_kind table key.kind key.a key.b info chunk row

-- the kinds have no key in common
info_apart : (kind : ℕ) → is_info_kind kind ≡ true → (is_chunk_kind kind ≡ false) × (is_row_kind kind ≡ false)
info_apart kind is = let e = eqb-true kind 1 is in (ap is_chunk_kind e, ap is_row_kind e)

pub all_kinds : (number : ℕ) (older newer : Option PlacedTable) (one two three four : List Change)
    → TurnsKeys (is_of is_info_kind number) older newer one two → TurnsKeys (is_of is_chunk_kind number) older newer two three → TurnsKeys (is_of is_row_kind number) older newer three four
    → TurnsKeys (λ key. key.table == number) older newer one four
all_kinds number older newer one two three four info chunk row =
    rewrites-then both (is_of is_row_kind number) all (record_in older) (record_in newer) one three four pair row
    (λ key is. false_from_ne_true (both key) (λ e. never (is_row_kind key.kind) (and_parts (is_row_kind key.kind) (key.table == number) is).0 (not_row key.kind (and_parts (kinds key.kind) (key.table == number) e).0)))
    (λ key is. (and_parts (kinds key.kind) (key.table == number) is).1)
    (λ key is. (and_parts (is_row_kind key.kind) (key.table == number) is).1)
    (λ key is e f. rest key (out kinds key is e) (out is_row_kind key is f))
  where
    kinds : ℕ → Bool
    kinds kind = is_info_kind kind || is_chunk_kind kind

    both : ShadowKey → Bool
    both key = is_of kinds number key

    all : ShadowKey → Bool
    all key = key.table == number

    out : (sort : ℕ → Bool) (key : ShadowKey) → all key ≡ true → is_of sort number key ≡ false → sort key.kind ≡ false
    out sort key is e = false_from_ne_true (sort key.kind) (λ f. never (is_of sort number key) (and_from _ _ f is) e)

    not_row : (kind : ℕ) → kinds kind ≡ true → is_row_kind kind ≡ false
    not_row kind is = ⊎_elim (λ e. (info_apart kind e).1) (λ e. by_chunk_kind (λ k. is_row_kind k ≡ false) kind e refl refl refl) (or_cases (is_info_kind kind) (is_chunk_kind kind) is)

    pair : TurnsKeys both older newer one three
    pair = rewrites-then (is_of is_info_kind number) (is_of is_chunk_kind number) both (record_in older) (record_in newer) one two three info chunk
        (λ key is. false_from_ne_true (is_of is_info_kind number key) (λ e. never (is_chunk_kind key.kind) (and_parts _ _ is).0 (info_apart key.kind (and_parts (is_info_kind key.kind) (key.table == number) e).0).0))
        (λ key is. let parts = and_parts (is_info_kind key.kind) (key.table == number) is in and_from _ _ (or_left _ _ parts.0) parts.1)
        (λ key is. let parts = and_parts (is_chunk_kind key.kind) (key.table == number) is in and_from _ _ (or_right (is_info_kind key.kind) _ parts.0) parts.1)
        (λ key is e f.
        let parts = and_parts (kinds key.kind) (key.table == number) is in
        never (kinds key.kind) parts.0 (or_from _ _ (out is_info_kind key parts.1 e) (out is_chunk_kind key parts.1 f)))

    rest : (key : ShadowKey) → kinds key.kind ≡ false → is_row_kind key.kind ≡ false → record_in older key ≡ record_in newer key
    rest key e f =
        let parts = or_parts (is_info_kind key.kind) (is_chunk_kind key.kind) e in
        other_record older key parts.0 parts.1 f ∙ sym (other_record newer key parts.0 parts.1 f)
