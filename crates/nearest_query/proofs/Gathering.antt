-- The rows that pass, found place by place, are the rows that pass, in another order.
use Rattle.std.proofs.Common.{◌≡◌, ℕ, zero, suc, ◌≤◌, ◌<◌, Bool, true, false, cond, List, [], ◌∷◌, ◌++◌, length, refl, sym, ap, ap₂, ◌∙◌, arith, inl, inr, subst, Some, None, Option}
use Rattle.std.specs.Prelude.{⊤, filter, map, ◌==◌, ◌&&◌}
use Rattle.std.specs.List.{AllByRecursion}
use Rattle.std.proofs.lemmas.Bool.{cases_Bool, cases_lt}
use Rattle.std.proofs.lemmas.List.{append-nil, length-append}
use Rattle.shadow_records.specs.PlacedTables.{PlacedRow, is_at, row_at}
use Rattle.nearest_query.specs.Gathered.{up_to, found, found_in, gathered}

-- ys is xs with one more element somewhere
abbrev pub IsWith : {A : Type 0} → A → List A → List A → Type 0
IsWith {A = A} x xs ys = (front : List A) × (back : List A) × (xs ≡ front ++ back) × (ys ≡ front ++ x ∷ back)

-- ys has the elements of xs, each as often
abbrev pub IsShuffle : {A : Type 0} → List A → List A → Type 0
IsShuffle [] ys = ys ≡ []
IsShuffle {A = A} (x ∷ xs) ys = (rest : List A) × IsWith x rest ys × IsShuffle xs rest

-- no row stands at the place of an earlier one
abbrev pub AreFree : List PlacedRow → Type 0
AreFree [] = ⊤
AreFree (p ∷ ps) = (row_at ps p.chunk p.slot ≡ None) × AreFree ps

-- ---- lists of what a function gives of numbers

pub up_to-same : {A : Type 0} (f g : ℕ → List A) (n : ℕ) → ((j : ℕ) → j < n → f j ≡ g j) → up_to f n ≡ up_to g n
up_to-same f g zero same = refl
up_to-same f g (suc n) same = ap₂ (λ xs ys. xs ++ ys) (up_to-same f g n (λ j less. same j (omega arith))) (same n (omega arith))

pub up_to-none : {A : Type 0} (f : ℕ → List A) (n : ℕ) → ((j : ℕ) → j < n → f j ≡ []) → up_to f n ≡ []
up_to-none f zero none = refl
up_to-none f (suc n) none = rw (none n (omega arith), up_to-none f n (λ j less. none j (omega arith))) refl

append-append : {A : Type 0} (xs ys zs : List A) → (xs ++ ys) ++ zs ≡ xs ++ (ys ++ zs)
append-append [] ys zs = refl
append-append (x ∷ xs) ys zs = ap (λ l. x ∷ l) (append-append xs ys zs)

-- one more element among those of one number
pub up_to-with : {A : Type 0} (x : A) (f g : ℕ → List A) (i n : ℕ) → i < n → IsWith x (f i) (g i) → ((j : ℕ) → j < n → (j ≡ i → ⊥) → f j ≡ g j) → IsWith x (up_to f n) (up_to g n)
up_to-with x f g i zero less here same = absurd (omega arith)
up_to-with x f g i (suc n) less here same =
    elim (cases_lt i n) [
      | inl below ↦
          let rest = up_to-with x f g i n below here (λ j lt differ. same j (omega arith) differ) in
          let last : f n ≡ g n = same n (omega arith) (λ e. absurd (omega arith)) in (
            rest.0,
            rest.1 ++ f n,
            ap (λ l. l ++ f n) rest.2 ∙ append-append rest.0 rest.1 (f n),
            ap₂ (λ l r. l ++ r) rest.3 (sym last) ∙ append-append rest.0 (x ∷ rest.1) (f n),
          )
      | inr above ↦
          let is : i ≡ n = omega arith in
          let at : IsWith x (f n) (g n) = subst (λ k. IsWith x (f k) (g k)) is here in
          let before : up_to f n ≡ up_to g n = up_to-same f g n (λ j lt. same j (omega arith) (λ e. absurd (omega arith))) in (
            up_to f n ++ at.0,
            at.1,
            ap (λ l. up_to f n ++ l) at.2 ∙ sym (append-append (up_to f n) at.0 at.1),
            ap₂ (λ l r. l ++ r) (sym before) at.3 ∙ sym (append-append (up_to f n) at.0 (x ∷ at.1)),
          )
    ]

-- numbers that give nothing may be left out
pub up_to-skip : {A : Type 0} (f : ℕ → List A) (m n : ℕ) → m ≤ n → ((j : ℕ) → m ≤ j → j < n → f j ≡ []) → up_to f n ≡ up_to f m
up_to-skip f m zero le none = ap (up_to f) (let e : 0 ≡ m = omega arith in e)
up_to-skip f m (suc n) le none =
    elim (cases_lt n m) [
      | inl less ↦ ap (up_to f) (let e : suc n ≡ m = omega arith in e)
      | inr above ↦ rw (none n above (omega arith)) (append-nil (up_to f n) ∙ up_to-skip f m n above (λ j low high. none j low (omega arith)))
    ]

-- ---- a row is found at its place alone

at-other : (p : PlacedRow) (rows : List PlacedRow) (c s : ℕ) → is_at c s p ≡ false → row_at (p ∷ rows) c s ≡ row_at rows c s
at-other p rows c s other = rw other refl

at-itself : (n m : ℕ) → (n == n) && (m == m) ≡ true
at-itself n m = grind arith

not-there : (p : PlacedRow) (c s : ℕ) → ((p.chunk ≡ c) × (p.slot ≡ s) → ⊥) → is_at c s p ≡ false
not-there p c s differ =
    elim (cases_Bool (is_at c s p)) [
      | inl there ↦ absurd (differ (grind (arith, there)))
      | inr away ↦ away
    ]

found-more : {A : Type 0} (test : PlacedRow → Bool) (f : PlacedRow → A) (p : PlacedRow) (rows : List PlacedRow) (size n : ℕ) → test p ≡ true → row_at rows p.chunk p.slot ≡ None → p.chunk < n → p.slot < size → IsWith (f p) (gathered test f rows size n) (gathered test f (p ∷ rows) size n)
found-more test f p rows size n passes free chunk slot =
    up_to-with (f p) (found_in test f rows size) (found_in test f (p ∷ rows) size) p.chunk n chunk
    (up_to-with (f p) (λ s. found test f (row_at rows p.chunk s)) (λ s. found test f (row_at (p ∷ rows) p.chunk s)) p.slot size slot (
      [],
      [],
      ap (found test f) free,
      ap (λ b. found test f (cond b (Some p) (row_at rows p.chunk p.slot))) (at-itself p.chunk p.slot) ∙ ap (λ b. cond b (f p ∷ []) []) passes,
    )
    (λ s lt differ. ap (found test f) (sym (at-other p rows p.chunk s (not-there p p.chunk s (λ same. differ (sym same.1)))))))
    (λ c lt differ. up_to-same (λ s. found test f (row_at rows c s)) (λ s. found test f (row_at (p ∷ rows) c s)) size
    (λ s lt2. ap (found test f) (sym (at-other p rows c s (not-there p c s (λ same. differ (sym same.0)))))))

found-as_before : {A : Type 0} (test : PlacedRow → Bool) (f : PlacedRow → A) (p : PlacedRow) (rows : List PlacedRow) (size n : ℕ) → test p ≡ false → row_at rows p.chunk p.slot ≡ None → gathered test f rows size n ≡ gathered test f (p ∷ rows) size n
found-as_before test f p rows size n fails free =
    up_to-same (found_in test f rows size) (found_in test f (p ∷ rows) size) n
    (λ c lt. up_to-same (λ s. found test f (row_at rows c s)) (λ s. found test f (row_at (p ∷ rows) c s)) size
    (λ s lt2. elim (cases_Bool (is_at c s p)) [
      | inr away ↦ ap (found test f) (sym (at-other p rows c s away))
      | inl there ↦
          let chunk : p.chunk ≡ c = grind (arith, there) in
          let slot : p.slot ≡ s = grind (arith, there) in
          let none : row_at rows c s ≡ None = subst (λ d. row_at rows d s ≡ None) chunk (subst (λ t. row_at rows p.chunk t ≡ None) slot free) in
          ap (found test f) none ∙ sym (ap (λ b. found test f (cond b (Some p) (row_at rows c s))) there ∙ ap (λ b. cond b (f p ∷ []) []) fails)
    ]))

-- The law of the search: place by place the same rows are found.
pub gathered-shuffle : {A : Type 0} (test : PlacedRow → Bool) (f : PlacedRow → A) (rows : List PlacedRow) (size n : ℕ) → AreFree rows → AllByRecursion (λ p. (p.chunk < n) × (p.slot < size)) rows → IsShuffle (map f (filter test rows)) (gathered test f rows size n)
gathered-shuffle test f [] size n apart range = up_to-none (found_in test f [] size) n (λ c lt. up_to-none (λ s. found test f None) size (λ s lt2. refl))
gathered-shuffle test f (p ∷ rows) size n apart range =
    let rest = gathered-shuffle test f rows size n apart.1 range.1 in
    elim (cases_Bool (test p)) [
      | inl passes ↦ rw passes (gathered test f rows size n, found-more test f p rows size n passes apart.0 range.0.0 range.0.1, rest)
      | inr fails ↦ rw fails (subst (λ ys. IsShuffle (map f (filter test rows)) ys) (found-as_before test f p rows size n fails apart.0) rest)
    ]

-- as many
pub length-shuffle : {A : Type 0} (xs ys : List A) → IsShuffle xs ys → length ys ≡ length xs
length-shuffle [] ys is = ap length is
length-shuffle (x ∷ xs) ys is =
    let rest = length-shuffle xs is.0 is.2 in
    let at = is.1 in
    let more = ap length at.3 ∙ length-append at.0 (x ∷ at.1) in
    let fewer = ap length at.2 ∙ length-append at.0 at.1 in
    omega (arith, rest, more, fewer)

-- what passes a further test on its image
filter-found : {A : Type 0} (test : PlacedRow → Bool) (more : A → Bool) (f : PlacedRow → A) (o : Option PlacedRow) → filter more (found test f o) ≡ found (λ p. test p && more (f p)) f o
filter-found test more f None = refl
filter-found test more f (Some p) =
    elim (cases_Bool (test p)) [
      | inl passes ↦ rw passes refl
      | inr fails ↦ rw fails refl
    ]

pub filter-append : {A : Type 0} (test : A → Bool) (xs ys : List A) → filter test (xs ++ ys) ≡ filter test xs ++ filter test ys
filter-append test [] ys = refl
filter-append test (x ∷ xs) ys =
    elim (cases_Bool (test x)) [
      | inl passes ↦ rw passes (ap (λ l. x ∷ l) (filter-append test xs ys))
      | inr fails ↦ rw fails (filter-append test xs ys)
    ]

filter-up_to : {A : Type 0} (test : A → Bool) (f g : ℕ → List A) (n : ℕ) → ((j : ℕ) → filter test (f j) ≡ g j) → filter test (up_to f n) ≡ up_to g n
filter-up_to test f g zero same = refl
filter-up_to test f g (suc n) same = filter-append test (up_to f n) (f n) ∙ ap₂ (λ l r. l ++ r) (filter-up_to test f g n same) (same n)

pub filter-gathered : {A : Type 0} (test : PlacedRow → Bool) (more : A → Bool) (f : PlacedRow → A) (rows : List PlacedRow) (size n : ℕ) → filter more (gathered test f rows size n) ≡ gathered (λ p. test p && more (f p)) f rows size n
filter-gathered test more f rows size n =
    filter-up_to more (found_in test f rows size) (found_in (λ p. test p && more (f p)) f rows size) n
    (λ c. filter-up_to more (λ s. found test f (row_at rows c s)) (λ s. found (λ p. test p && more (f p)) f (row_at rows c s)) size
    (λ s. filter-found test more f (row_at rows c s)))
