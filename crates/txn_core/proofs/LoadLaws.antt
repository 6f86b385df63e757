-- Records that are read one after another.
use Rattle.std.proofs.Common.{◌≡◌, ℕ, ◌≤◌, Bool, true, List, [], ◌∷◌, ◌++◌, refl, sym, ap, ◌∙◌, subst, arith, Option, Some, None, inl, inr, append_assoc, IsTrue, ⊎_elim}
use Rattle.std.proofs.lemmas.Bool.{and_from, and_parts}
use Rattle.std.specs.Cmp.{IsTotalOrder}
use Rattle.std.specs.FinMap.{is_sorted}
use Rattle.std.specs.FinMap.Entries.{below_all}
use Rattle.std.specs.Ordering.{is_lt}
use Rattle.std.specs.declared.cmp.Ordering.{Ordering}
use Rattle.std.specs.declared.cmp.Ordering.TheVariants.{Less, Equal, Greater}
use Rattle.vec_base.specs.Streams.{Rose}
use Rattle.vec_base.specs.declared.shadow.ShadowKey.{ShadowKey}
use Rattle.shadow_keeper.specs.Keeping.{Adds, GivesFirst, GivesKey, IsAbove, Within}
use Rattle.shadow_keeper.specs.declared.keeper.Loaded.{Loaded}
use Rattle.shadow_keeper.specs.declared.keeper.Loaded.TheVariants as loaded
use Rattle.shadow_records.proofs.KeyLaws.{key_total}
use Rattle.shadow_records.specs.Keys.{key_cmp}
use Rattle.txn_commits.specs.Keeping.{Meanings}
use Rattle.txn_core.specs.Loads.{Loads}
use Rattle.txn_core.specs.inner.Reading.{MayFollow, Reads}

-- ---- rising keys

less_is : (o : Ordering) → is_lt o ≡ true → o ≡ Less
less_is Less h = refl
less_is Equal h = absurd cc
less_is Greater h = absurd cc

below_more : (x : ShadowKey) (records : List (ShadowKey × List ℕ)) (key next : ShadowKey) (body other : List ℕ) → key_cmp key next ≡ Less → below_all key_cmp x (records ++ (key, body) ∷ []) ≡ true →
    below_all key_cmp x ((records ++ (key, body) ∷ []) ++ (next, other) ∷ []) ≡ true
below_more x [] key next body other less below =
    let parts = and_parts (is_lt (key_cmp x key)) true below in
    let far : is_lt (key_cmp x next) ≡ true = ap is_lt (key_total.trans x key next (less_is (key_cmp x key) parts.0) less) in
    and_from (is_lt (key_cmp x key)) (below_all key_cmp x ((next, other) ∷ [])) parts.0 (and_from (is_lt (key_cmp x next)) true far refl)
below_more x (r ∷ records) key next body other less below =
    let parts = and_parts (is_lt (key_cmp x r.0)) (below_all key_cmp x (records ++ (key, body) ∷ [])) below in
    and_from (is_lt (key_cmp x r.0)) (below_all key_cmp x ((records ++ (key, body) ∷ []) ++ (next, other) ∷ [])) parts.0 (below_more x records key next body other less parts.1)

rises_more : (records : List (ShadowKey × List ℕ)) (key next : ShadowKey) (body other : List ℕ) → key_cmp key next ≡ Less → is_sorted key_cmp (records ++ (key, body) ∷ []) ≡ true →
    is_sorted key_cmp ((records ++ (key, body) ∷ []) ++ (next, other) ∷ []) ≡ true
rises_more [] key next body other less rise = and_from (below_all key_cmp key ((next, other) ∷ [])) true (and_from (is_lt (key_cmp key next)) true (ap is_lt less) refl) refl
rises_more (r ∷ records) key next body other less rise =
    let parts = and_parts (below_all key_cmp r.0 (records ++ (key, body) ∷ [])) (is_sorted key_cmp (records ++ (key, body) ∷ [])) rise in
    and_from (below_all key_cmp r.0 ((records ++ (key, body) ∷ []) ++ (next, other) ∷ [])) (is_sorted key_cmp ((records ++ (key, body) ∷ []) ++ (next, other) ∷ []))
    (below_more r.0 records key next body other less parts.0) (rises_more records key next body other less parts.1)

-- ---- one call after others

module _ {K : Type 0} (M : Meanings K) where
  pub loads_none : (keeper : K) → Loads M keeper keeper
  loads_none keeper = record {
    told = refl;
    tables = λ told. refl;
    within = λ left is. is;
    during = λ moment left low is. inl is;
    later = omega arith;
    count = omega arith;
  }

  pub loads_more : (old mid new : K) → Loads M old mid → M.tells new ≡ M.tells mid → (IsTrue (M.tells mid) → M.tables new ≡ M.tables mid) → Within (M.stops.now new) (M.stops.now mid) →
      Adds M.stops mid new (M.stops.now mid) → M.stops.clock mid ≤ M.stops.clock new → M.faults mid ≤ M.faults new → Loads M old new
  loads_more old mid new first told tables within during later count = record {
    told = told ∙ first.told;
    tables = λ t. tables (subst IsTrue (sym first.told) t) ∙ first.tables t;
    within = λ left is. first.within left (within left is);
    during = λ moment left low is. ⊎_elim (first.during moment left low) (λ was. inr (first.within left was)) (during moment left (let one = first.later in omega (arith, low, one)) is);
    later = (let one = first.later in omega (arith, one, later));
    count = (let one = first.count in omega (arith, one, count));
  }

-- a count that rises later has risen since
pub rose_since : (old mid new : ℕ) → old ≤ mid → Rose mid new → Rose old new
rose_since old mid new low rose = grind (arith, low, rose)

module _ {K : Type 0} (M : Meanings K) (left : K → List (ShadowKey × List ℕ)) (last : K → Option ShadowKey) where
  pub reads_none : (keeper : K) → Reads M left last keeper [] keeper
  reads_none keeper = record { loads = loads_none M keeper; sorted = refl; follows = λ key body above. refl; splits = λ told. refl }

  pub reads_more : (old mid new : K) (records : List (ShadowKey × List ℕ)) (key : ShadowKey) (body : List ℕ) → Reads M left last old records mid → Loads M old new →
      GivesKey (last mid) (last new) (loaded.One key body) → (IsTrue (M.tells mid) → GivesFirst (left mid) (left new) (loaded.One key body)) → Reads M left last old (records ++ (key, body) ∷ []) new
  reads_more old mid new records key body reads loads gives first = record {
    loads = loads;
    sorted = reads.follows key body gives.0;
    follows = λ next other above. rises_more records key next body other (subst (λ (l : Option ShadowKey). IsAbove l next) gives.1 above) (reads.follows key body gives.0);
    splits = λ told. reads.splits told ∙ ap (λ l. records ++ l) (first (subst IsTrue (sym reads.loads.told) told)) ∙ sym (append_assoc records ((key, body) ∷ []) (left new));
  }

  -- at the end all are read
  pub reads_all : (old mid new : K) (records : List (ShadowKey × List ℕ)) → Reads M left last old records mid → (IsTrue (M.tells mid) → GivesFirst (left mid) (left new) loaded.End) → IsTrue (M.tells old) → left old ≡ records
  reads_all old mid new records reads first told = reads.splits told ∙ ap (λ l. records ++ l) (first (subst IsTrue (sym reads.loads.told) told)).0 ∙ append_none records where
    append_none : (records : List (ShadowKey × List ℕ)) → records ++ [] ≡ records
    append_none [] = refl
    append_none (r ∷ records) = ap (λ l. r ∷ l) (append_none records)
