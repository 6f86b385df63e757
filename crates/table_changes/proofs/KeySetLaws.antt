-- Steps over sets of keys make one over a larger set.
use Rattle.std.proofs.Common.{◌≡◌, ℕ, ℤ, pos, negsuc, ◌+◌, ◌<◌, ◌≤◌, ◌==◌, int_lt, List, Bool, true, false, ◌&&◌, ◌||◌, Option, Some, None, ◌⊎◌, ⊎_elim, inl, inr, refl, sym, ap, ◌∙◌, subst, arith, nat_lt, nat_le}
use Rattle.std.specs.Ordering.{int_eq}
use Rattle.std.proofs.lemmas.Bool.{false≢true, and_parts, and_from, and_right, or_cases, or_left, or_right, or_from, or_parts, false_from_ne_true, eqb-true, eq-eqb, cases_Bool, cases_eq, ltb-true, ltb-false, lt-ltb, le-ltb, leb-true, le-leb, not-true, not-false, not_from_true, not_from_false}
use Rattle.std.proofs.lemmas.Bool.Decides.{Decides-int_eq}
use Rattle.std.proofs.lemmas.Int.{ints}
use Rattle.vec_base.specs.declared.shadow.Change.{Change}
use Rattle.vec_base.specs.declared.shadow.ShadowKey.{ShadowKey}
use Rattle.row_index.specs.Entries.{is_behind}
use Rattle.shadow_records.specs.Keys.{is_key, key_of}
use Rattle.shadow_records.specs.PlacedTables.{PlacedTable}
use Rattle.shadow_records.specs.StandsFor.{record_in}
use Rattle.shadow_records.proofs.KeyLaws.{key_is, is_key-same}
use Rattle.table_changes.specs.inner.KeySets.{AreSame, is_below, is_in_group, is_not_behind, is_of, is_up_to, is_within}
use Rattle.table_changes.specs.inner.Steps.{TurnsKeys}
use Rattle.table_changes.proofs.Steps.{rewrites-then, rewrites-wider}

never : {A : Type 0} (b : Bool) → b ≡ true → b ≡ false → A
never b t f = absurd (false≢true (sym f ∙ t))

int_is : (x y : ℤ) → int_eq x y ≡ true → x ≡ y
int_is x y e = (Decides-int_eq x y).0 e

int_same : (x : ℤ) → int_eq x x ≡ true
int_same x = (Decides-int_eq x x).1 refl

-- ---- one group, key by key

in_group : (number kind : ℕ) (a : ℤ) (key : ShadowKey) → is_in_group number kind a key ≡ true → (key.kind ≡ kind) × (key.table ≡ number) × (key.a ≡ a)
in_group number kind a key e =
    let two = and_parts (key.kind == kind && key.table == number) (int_eq key.a a) e in
    let one = and_parts (key.kind == kind) (key.table == number) two.0 in
    (eqb-true key.kind kind one.0, eqb-true key.table number one.1, int_is key.a a two.1)

of_group : (number kind : ℕ) (a b : ℤ) → is_in_group number kind a (key_of number kind a b) ≡ true
of_group number kind a b = and_from _ _ (and_from _ _ (eq-eqb kind kind refl) (eq-eqb number number refl)) (int_same a)

key_from : (q : ShadowKey) (n k : ℕ) (a b : ℤ) → q.table ≡ n → q.kind ≡ k → q.a ≡ a → q.b ≡ b → q ≡ key_of n k a b
key_from q n k a b t u v w = λ i. record { table = t i; kind = u i; a = v i; b = w i }

below_more : (n : ℕ) (b : ℤ) → is_below n b ≡ true → is_below (n + 1) b ≡ true
below_more n (pos m) e = let less = ltb-true m n e in lt-ltb m (n + 1) (omega (arith, less))
below_more n (negsuc m) e = absurd (false≢true e)

below_last : (n : ℕ) (b : ℤ) → is_below (n + 1) b ≡ true → is_below n b ≡ false → b ≡ pos n
below_last n (pos m) e f = let less = ltb-true m (n + 1) e in let more = ltb-false m n f in let same : m ≡ n = omega (arith, less, more) in ap pos same
below_last n (negsuc m) e f = absurd (false≢true e)

below_own : (n : ℕ) → is_below n (pos n) ≡ false
below_own n = le-ltb n n (omega arith)

below_next : (n : ℕ) → is_below (n + 1) (pos n) ≡ true
below_next n = lt-ltb n (n + 1) (omega arith)

-- the keys of a group whose second number is below another
abbrev pub group_below : ℕ → ℕ → ℤ → ℕ → ShadowKey → Bool
group_below number kind a count key = is_in_group number kind a key && is_below count key.b

pub group_more : (number kind : ℕ) (a : ℤ) (count : ℕ) (older newer : Option PlacedTable) (old mid new : List Change)
    → TurnsKeys (group_below number kind a count) older newer old mid → TurnsKeys (λ k. is_key k (key_of number kind a (pos count))) older newer mid new
    → TurnsKeys (group_below number kind a (count + 1)) older newer old new
group_more number kind a count older newer old mid new one two =
    rewrites-then (group_below number kind a count) (λ k. is_key k (key_of number kind a (pos count))) (group_below number kind a (count + 1)) (record_in older) (record_in newer) old mid new one two
    (λ key is. ap (group_below number kind a count) (key_is key _ is) ∙ and_right _ _ (below_own count))
    (λ key is. let parts = and_parts (is_in_group number kind a key) (is_below count key.b) is in and_from _ _ parts.0 (below_more count key.b parts.1))
    (λ key is. ap (group_below number kind a (count + 1)) (key_is key _ is) ∙ and_from _ _ (of_group number kind a (pos count)) (below_next count))
    (λ key is before other. let parts = and_parts (is_in_group number kind a key) (is_below (count + 1) key.b) is in last key parts.0 parts.1 before other)
  where
    last : (key : ShadowKey) → is_in_group number kind a key ≡ true → is_below (count + 1) key.b ≡ true → group_below number kind a count key ≡ false → is_key key (key_of number kind a (pos count)) ≡ false → record_in older key ≡ record_in newer key
    last key group below before other =
        let not_below : is_below count key.b ≡ false = false_from_ne_true (is_below count key.b) (λ e. never (group_below number kind a count key) (and_from _ _ group e) before) in
        let facts = in_group number kind a key group in
        let same = key_from key number kind a (pos count) facts.1 facts.0 facts.2 (below_last count key.b below not_below) in
        never (is_key key (key_of number kind a (pos count))) (ap (λ k. is_key k (key_of number kind a (pos count))) same ∙ is_key-same (key_of number kind a (pos count))) other

pub group_none : (number kind : ℕ) (a : ℤ) (key : ShadowKey) → group_below number kind a 0 key ≡ false
group_none number kind a key = and_right (is_in_group number kind a key) (is_below 0 key.b) (none key.b) where
  none : (b : ℤ) → is_below 0 b ≡ false
  none (pos n) = le-ltb n 0 (omega arith)
  none (negsuc n) = refl

-- all others of the group have no record
pub group_whole : (number kind : ℕ) (a : ℤ) (count : ℕ) (older newer : Option PlacedTable) (old new : List Change)
    → TurnsKeys (group_below number kind a count) older newer old new
    → ((key : ShadowKey) → key.kind ≡ kind → key.a ≡ a → is_below count key.b ≡ false → record_in older key ≡ record_in newer key)
    → TurnsKeys (is_in_group number kind a) older newer old new
group_whole number kind a count older newer old new one same =
    rewrites-wider (group_below number kind a count) (is_in_group number kind a) (record_in older) (record_in newer) old new one
    (λ key is. (and_parts (is_in_group number kind a key) (is_below count key.b) is).0)
    (λ key is out.
    let facts = in_group number kind a key is in
    same key facts.0 facts.2 (false_from_ne_true (is_below count key.b) (λ e. never (group_below number kind a count key) (and_from _ _ is e) out)))

-- ---- three groups of one first number

abbrev one_of : ℕ → ℕ → ℕ → ℕ → Bool
one_of x y z kind = kind == x || (kind == y || kind == z)

pub three_groups : (number x y z : ℕ) (a : ℤ) (older newer : Option PlacedTable) (one two three four : List Change) → (x ≡ y → ⊥) → (x ≡ z → ⊥) → (y ≡ z → ⊥)
    → TurnsKeys (is_in_group number x a) older newer one two → TurnsKeys (is_in_group number y a) older newer two three → TurnsKeys (is_in_group number z a) older newer three four
    → TurnsKeys (is_within (λ kind. kind == x || (kind == y || kind == z)) number (λ i. int_eq i a)) older newer one four
three_groups number x y z a older newer one two three four xy xz yz first second third =
    rewrites-then both (is_in_group number z a) all (record_in older) (record_in newer) one three four pair third
    (λ key is. or_from _ _ (apart x z key xz is) (apart y z key yz is))
    (λ key is. ⊎_elim (in_all x (λ k e. or_left _ _ e) key) (in_all y (λ k e. or_right (k == x) _ (or_left _ _ e)) key) (or_cases _ _ is))
    (in_all z (λ k e. or_right (k == x) _ (or_right (k == y) _ e)))
    (λ key is other more. rest key is (or_parts _ _ other).0 (or_parts _ _ other).1 more)
  where
    both : ShadowKey → Bool
    both key = is_in_group number x a key || is_in_group number y a key

    all : ShadowKey → Bool
    all key = is_within (one_of x y z) number (λ i. int_eq i a) key

    apart : (k l : ℕ) (key : ShadowKey) → (k ≡ l → ⊥) → is_in_group number l a key ≡ true → is_in_group number k a key ≡ false
    apart k l key other is = false_from_ne_true (is_in_group number k a key) (λ e. other (sym (in_group number k a key e).0 ∙ (in_group number l a key is).0))

    pair : TurnsKeys both older newer one three
    pair = rewrites-then (is_in_group number x a) (is_in_group number y a) both (record_in older) (record_in newer) one two three first second
        (λ key is. apart x y key xy is) (λ key is. or_left _ _ is) (λ key is. or_right (is_in_group number x a key) _ is) (λ key is e f. never (both key) is (or_from _ _ e f))

    in_all : (k : ℕ) → ((kind : ℕ) → (kind == k) ≡ true → one_of x y z kind ≡ true) → (key : ShadowKey) → is_in_group number k a key ≡ true → all key ≡ true
    in_all k within key is =
        let two = and_parts (key.kind == k && key.table == number) (int_eq key.a a) is in
        let first = and_parts (key.kind == k) (key.table == number) two.0 in
        and_from _ _ (and_from _ _ (within key.kind first.0) first.1) two.1

    rest : (key : ShadowKey) → all key ≡ true → is_in_group number x a key ≡ false → is_in_group number y a key ≡ false → is_in_group number z a key ≡ false → record_in older key ≡ record_in newer key
    rest key is not_x not_y not_z =
        let two = and_parts (one_of x y z key.kind && key.table == number) (int_eq key.a a) is in
        let first = and_parts (one_of x y z key.kind) (key.table == number) two.0 in
        ⊎_elim (λ e. never (is_in_group number x a key) (and_from _ _ (and_from _ _ e first.1) two.1) not_x)
        (λ e. ⊎_elim (λ f. never (is_in_group number y a key) (and_from _ _ (and_from _ _ f first.1) two.1) not_y)
        (λ f. never (is_in_group number z a key) (and_from _ _ (and_from _ _ f first.1) two.1) not_z) (or_cases _ _ e)) (or_cases _ _ first.0)

-- ---- first numbers, one after another

within_parts : (kinds : ℕ → Bool) (number : ℕ) (firsts : ℤ → Bool) (key : ShadowKey) → is_within kinds number firsts key ≡ true → (is_of kinds number key ≡ true) × (firsts key.a ≡ true)
within_parts kinds number firsts key is = and_parts (is_of kinds number key) (firsts key.a) is

firsts_more : (kinds : ℕ → Bool) (number : ℕ) (before at after : ℤ → Bool) (older newer : Option PlacedTable) (old mid new : List Change)
    → TurnsKeys (is_within kinds number before) older newer old mid → TurnsKeys (is_within kinds number at) older newer mid new
    → ((i : ℤ) → at i ≡ true → before i ≡ false) → ((i : ℤ) → before i ≡ true → after i ≡ true) → ((i : ℤ) → at i ≡ true → after i ≡ true)
    → ((i : ℤ) → after i ≡ true → before i ≡ false → at i ≡ false → AreSame kinds older newer i)
    → TurnsKeys (is_within kinds number after) older newer old new
firsts_more kinds number before at after older newer old mid new one two apart first_in more_in same =
    rewrites-then (is_within kinds number before) (is_within kinds number at) (is_within kinds number after) (record_in older) (record_in newer) old mid new one two
    (λ key is. and_right (is_of kinds number key) _ (apart key.a (within_parts kinds number at key is).1))
    (λ key is. let parts = within_parts kinds number before key is in and_from _ _ parts.0 (first_in key.a parts.1))
    (λ key is. let parts = within_parts kinds number at key is in and_from _ _ parts.0 (more_in key.a parts.1))
    (λ key is e f.
    let parts = within_parts kinds number after key is in
    let kind = (and_parts (kinds key.kind) (key.table == number) parts.0).0 in
    same key.a parts.1 (out before key parts.0 e) (out at key parts.0 f) key kind refl)
  where
    out : (firsts : ℤ → Bool) (key : ShadowKey) → is_of kinds number key ≡ true → is_within kinds number firsts key ≡ false → firsts key.a ≡ false
    out firsts key is e = false_from_ne_true (firsts key.a) (λ f. never (is_within kinds number firsts key) (and_from _ _ is f) e)

firsts_end : (kinds : ℕ → Bool) (number : ℕ) (before : ℤ → Bool) (older newer : Option PlacedTable) (old new : List Change)
    → TurnsKeys (is_within kinds number before) older newer old new → ((i : ℤ) → before i ≡ false → AreSame kinds older newer i)
    → TurnsKeys (is_of kinds number) older newer old new
firsts_end kinds number before older newer old new one same =
    rewrites-wider (is_within kinds number before) (is_of kinds number) (record_in older) (record_in newer) old new one
    (λ key is. (within_parts kinds number before key is).0)
    (λ key is e. same key.a (false_from_ne_true (before key.a) (λ f. never (is_within kinds number before key) (and_from _ _ is f) e)) key (and_parts (kinds key.kind) (key.table == number) is).0 refl)

pub firsts_none : (kinds : ℕ → Bool) (number : ℕ) (firsts : ℤ → Bool) → ((i : ℤ) → firsts i ≡ false) → (key : ShadowKey) → is_within kinds number firsts key ≡ false
firsts_none kinds number firsts none key = and_right (is_of kinds number key) (firsts key.a) (none key.a)

-- ---- chunks

up_parts : (last n : ℕ) → is_up_to last (pos n) ≡ true → (0 < n) × (n ≤ last)
up_parts last n e = let parts = and_parts (nat_lt 0 n) (nat_le n last) e in (ltb-true 0 n parts.0, leb-true n last parts.1)

up_from : (last n : ℕ) → 0 < n → n ≤ last → is_up_to last (pos n) ≡ true
up_from last n low high = and_from _ _ (lt-ltb 0 n low) (le-leb n last high)

pub up_to_none : (i : ℤ) → is_up_to 0 i ≡ false
up_to_none (pos n) = false_from_ne_true (is_up_to 0 (pos n)) (λ e. let parts = up_parts 0 n e in let low = parts.0 in let high = parts.1 in absurd (omega (arith, low, high)))
up_to_none (negsuc n) = refl

-- the next chunk, where those between have the same records
pub chunk_more : (kinds : ℕ → Bool) (number last chunk : ℕ) (older newer : Option PlacedTable) (old mid new : List Change)
    → TurnsKeys (is_within kinds number (is_up_to last)) older newer old mid → TurnsKeys (is_within kinds number (λ i. int_eq i (pos chunk))) older newer mid new
    → last < chunk → ((d : ℕ) → last < d → d < chunk → AreSame kinds older newer (pos d))
    → TurnsKeys (is_within kinds number (is_up_to chunk)) older newer old new
chunk_more kinds number last chunk older newer old mid new one two less same =
    firsts_more kinds number (is_up_to last) (λ i. int_eq i (pos chunk)) (is_up_to chunk) older newer old mid new one two
    (λ i is. ap (is_up_to last) (int_is i (pos chunk) is) ∙ false_from_ne_true (is_up_to last (pos chunk)) (λ e. let high = (up_parts last chunk e).1 in absurd (omega (arith, high, less))))
    up
    (λ i is. ap (is_up_to chunk) (int_is i (pos chunk) is) ∙ up_from chunk chunk (omega (arith, less)) (omega arith))
    between
  where
    up : (i : ℤ) → is_up_to last i ≡ true → is_up_to chunk i ≡ true
    up (pos n) e = let parts = up_parts last n e in let high = parts.1 in up_from chunk n parts.0 (omega (arith, high, less))
    up (negsuc n) e = absurd (false≢true e)

    between : (i : ℤ) → is_up_to chunk i ≡ true → is_up_to last i ≡ false → int_eq i (pos chunk) ≡ false → AreSame kinds older newer i
    between (pos n) e f g =
        let parts = up_parts chunk n e in
        ⊎_elim (λ (same_chunk : n ≡ chunk). never (int_eq (pos n) (pos chunk)) (ap (λ m. int_eq (pos m) (pos chunk)) same_chunk ∙ int_same (pos chunk)) g)
        (λ (other : n ≡ chunk → ⊥).
        let high = parts.1 in
        let below : n < chunk = omega (arith, high, other) in
        ⊎_elim (λ (above : last < n). same n above below) (λ (low : n ≤ last). never (is_up_to last (pos n)) (up_from last n parts.0 low) f) (cases_le last n)) (cases_eq n chunk)
      where
        cases_le : (m n : ℕ) → (m < n) ⊎ (n ≤ m)
        cases_le m n = ⊎_elim (λ e. inl (ltb-true m n e)) (λ e. inr (ltb-false m n e)) (cases_Bool (nat_lt m n))
    between (negsuc n) e f g = absurd (false≢true e)

pub chunks_end : (kinds : ℕ → Bool) (number last : ℕ) (older newer : Option PlacedTable) (old new : List Change)
    → TurnsKeys (is_within kinds number (is_up_to last)) older newer old new
    → ((d : ℕ) → last < d → AreSame kinds older newer (pos d)) → AreSame kinds older newer (pos 0) → ((n : ℕ) → AreSame kinds older newer (negsuc n))
    → TurnsKeys (is_of kinds number) older newer old new
chunks_end kinds number last older newer old new one above zero_same negative = firsts_end kinds number (is_up_to last) older newer old new one same where
  same : (i : ℤ) → is_up_to last i ≡ false → AreSame kinds older newer i
  same (pos n) e =
      ⊎_elim (λ (none : n ≡ 0). (let P : ℕ → Type 0 = λ m. AreSame kinds older newer (pos m) in subst P (sym none) zero_same))
      (λ (some : n ≡ 0 → ⊥). above n (out some)) (cases_eq n 0)
    where
      out : (n ≡ 0 → ⊥) → last < n
      out some = ⊎_elim (λ f. ltb-true last n f) (λ f. let low = ltb-false last n f in never (is_up_to last (pos n)) (up_from last n (omega (arith, some)) low) e) (cases_Bool (nat_lt last n))
  same (negsuc n) e = negative n

-- ---- rows

pub not_behind_none : (i : ℤ) → is_not_behind None i ≡ false
not_behind_none i = refl

behind_next : (last : Option ℤ) (rowid i : ℤ) → is_behind last rowid ≡ true → is_not_behind last i ≡ true → is_not_behind (Some rowid) i ≡ true
behind_next None rowid i e f = absurd (false≢true f)
behind_next (Some l) rowid i e f = not_from_false (int_lt rowid i) (let g : int_lt l i ≡ false = not-true (int_lt l i) f in above l rowid i e g) where
  above : (a b c : ℤ) → int_lt a b ≡ true → int_lt a c ≡ false → int_lt b c ≡ false
  above a b c e f = grind (arith, ints)

own_not_behind : (rowid : ℤ) → int_lt rowid rowid ≡ false
own_not_behind rowid = grind (arith, ints)

lt_from : (i rowid : ℤ) → int_lt rowid i ≡ false → int_eq i rowid ≡ false → int_lt i rowid ≡ true
lt_from i rowid e f = grind (arith, ints)

-- the next rowid, where those between have the same records
pub rowid_more : (kinds : ℕ → Bool) (number : ℕ) (last : Option ℤ) (rowid : ℤ) (older newer : Option PlacedTable) (old mid new : List Change)
    → TurnsKeys (is_within kinds number (is_not_behind last)) older newer old mid → TurnsKeys (is_within kinds number (λ i. int_eq i rowid)) older newer mid new
    → is_behind last rowid ≡ true → ((i : ℤ) → is_behind last i ≡ true → int_lt i rowid ≡ true → AreSame kinds older newer i)
    → TurnsKeys (is_within kinds number (is_not_behind (Some rowid))) older newer old new
rowid_more kinds number last rowid older newer old mid new one two behind same =
    firsts_more kinds number (is_not_behind last) (λ i. int_eq i rowid) (is_not_behind (Some rowid)) older newer old mid new one two
    (λ i is. ap (is_not_behind last) (int_is i rowid is) ∙ not_from_true (is_behind last rowid) behind)
    (λ i is. behind_next last rowid i behind is)
    (λ i is. ap (is_not_behind (Some rowid)) (int_is i rowid is) ∙ not_from_false (int_lt rowid rowid) (own_not_behind rowid))
    (λ i is e f. same i (not-false (is_behind last i) e) (lt_from i rowid (not-true (int_lt rowid i) is) f))

pub rowids_end : (kinds : ℕ → Bool) (number : ℕ) (last : Option ℤ) (older newer : Option PlacedTable) (old new : List Change)
    → TurnsKeys (is_within kinds number (is_not_behind last)) older newer old new
    → ((i : ℤ) → is_behind last i ≡ true → AreSame kinds older newer i)
    → TurnsKeys (is_of kinds number) older newer old new
rowids_end kinds number last older newer old new one same = firsts_end kinds number (is_not_behind last) older newer old new one (λ i e. same i (not-false (is_behind last i) e))
