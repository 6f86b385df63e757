-- Entries whose ids are paired with their rowids: the entry of an id, and that they stay paired.
use Rattle.std.proofs.Common.{◌≡◌, ℕ, ℤ, int_lt, ◌<◌, Bool, true, false, not, cond, if◌then◌else◌, Result, Ok, Err, is_ok, Bor, subst, ◌||◌, List, [], ◌∷◌, length, get_or, Less, Equal, refl, sym, ap, ◌∙◌, Some, None}
use Rattle.std.specs.Prelude.{⊤}
use Rattle.std.specs.List.{AllByRecursion, HoldsAt, find, list_any}
use Rattle.std.specs.List.Sorted.{IsStrictlySortedBy}
use Rattle.std.specs.Option.{IfSome, MatchOption, option_copied, option_map}
use Rattle.std.specs.Ordering.{int_cmp, int_eq, is_eq}
use Rattle.std.specs.declared.option.Option.{Option}
use Rattle.std.proofs.lemmas.Bool.{and_from, false≢true}
use Rattle.std.proofs.lemmas.Cmp.{int_cmp_total, int_ranked, tied_itself}
use Rattle.std.proofs.lemmas.List.Kept.{IsStrictlySortedBy-filter}
use Rattle.std.proofs.lemmas.Option.{MatchOption-at_some, same_Some, none-some}
use Rattle.std.proofs.lemmas.Slice.Eq.{bytes_eq-Decides}
use Rattle.row_index.specs.declared.entry.Entry.{Entry}
use Rattle.row_index.specs.declared.entry.IdPair.{IdPair}
use Rattle.row_index.specs.Entries.{entry_of, has_id, have_own_ids, is_same_id, is_text, rowid_of, with_entry, without}
use Rattle.row_index.specs.inner.Pairs.{IdsRise, IsIndexed, IsPaired, RowidsRise, paired}
use Rattle.row_index.proofs.FindLaws.{all-filter, all_turned, all_at, find_fails, find_none}
use Rattle.row_index.proofs.KeyLaws.{found}

same_rowid : (a b : ℤ) → a ≡ b → int_cmp a b ≡ Equal
same_rowid a b same = ap (λ x. int_cmp x b) same ∙ tied_itself int_cmp_total b

-- an id that an entry has is paired with its rowid
id_paired : (id : List ℕ) (held : Option (List ℕ)) (rowid : ℤ) (pairs : List IdPair) → MatchOption held ⊤ (λ text. paired text pairs ≡ Some rowid) → is_text id held ≡ true → paired id pairs ≡ Some rowid
id_paired id None rowid pairs own is = absurd cc
id_paired id (Some text) rowid pairs own is = ap (λ t. paired t pairs) (sym ((bytes_eq-Decides text id).0 is)) ∙ own

-- ---- the entry of an id

-- a test that cannot hold fails
false_from : (b : Bool) → (b ≡ true → ⊥) → b ≡ false
false_from true never = absurd (never refl)
false_from false never = refl

-- an entry that has an id has the rowid that is paired with it
rowid_is : (id : List ℕ) (pairs : List IdPair) (x : Entry) (rowid : ℤ) → IsPaired pairs x → paired id pairs ≡ Some rowid → has_id id x ≡ true → x.rowid ≡ rowid
rowid_is id pairs x rowid own pair has = same_Some x.rowid rowid (sym (id_paired id x.id x.rowid pairs own has) ∙ pair)

pub id_unpaired : (id : List ℕ) (entries : List Entry) (pairs : List IdPair) → IsIndexed entries pairs → paired id pairs ≡ None → rowid_of id entries ≡ None
id_unpaired id entries pairs indexed none =
    ap (λ r. option_map (λ (e : Entry). e.rowid) r)
    (find_fails (has_id id) entries
    (all_turned (IsPaired pairs) (λ x. has_id id x ≡ false) entries
    (λ x own. false_from (has_id id x) (λ has. none-some x.rowid (sym none ∙ id_paired id x.id x.rowid pairs own has)))
    indexed.paired_ids))

-- an entry that has the id is the one of the paired rowid
entry_is : (id : List ℕ) (entries : List Entry) (pairs : List IdPair) (rowid : ℤ) (k : ℕ) (d : Entry) → IsIndexed entries pairs → paired id pairs ≡ Some rowid → k < length entries → has_id id (get_or entries k d) ≡ true → entry_of rowid entries ≡ Some (get_or entries k d)
entry_is id entries pairs rowid k d indexed pair within has =
    found int_cmp int_cmp_total (λ (e : Entry). e.rowid) rowid entries k d indexed.rowids within
    (same_rowid (get_or entries k d).rowid rowid (rowid_is id pairs (get_or entries k d) rowid (all_at (IsPaired pairs) entries k d indexed.paired_ids within) pair has))

pub id_gone : (id : List ℕ) (entries : List Entry) (pairs : List IdPair) (rowid : ℤ) → IsIndexed entries pairs → paired id pairs ≡ Some rowid → entry_of rowid entries ≡ None → rowid_of id entries ≡ None
id_gone id entries pairs rowid indexed pair gone =
    ap (λ r. option_map (λ (e : Entry). e.rowid) r)
    (find_none (has_id id) entries
    (λ k d within. false_from (has_id id (get_or entries k d)) (λ has. none-some (get_or entries k d) (sym gone ∙ entry_is id entries pairs rowid k d indexed pair within has))))

pub id_left : (id : List ℕ) (entries : List Entry) (pairs : List IdPair) (rowid : ℤ) (entry : Entry) → IsIndexed entries pairs → paired id pairs ≡ Some rowid → entry_of rowid entries ≡ Some entry → has_id id entry ≡ false → rowid_of id entries ≡ None
id_left id entries pairs rowid entry indexed pair there other =
    ap (λ r. option_map (λ (e : Entry). e.rowid) r)
    (find_none (has_id id) entries
    (λ k d within.
    false_from (has_id id (get_or entries k d))
    (λ has.
    let is = same_Some entry (get_or entries k d) (sym there ∙ entry_is id entries pairs rowid k d indexed pair within has) in
    false≢true (sym other ∙ ap (has_id id) is ∙ has))))

-- the first entry of the id has the rowid that all of the id have
abbrev rowid_in : Option Entry → Option ℤ
rowid_in found = option_map (λ (e : Entry). e.rowid) found

first_step : (id : List ℕ) (rowid : ℤ) (x entry : Entry) (later first : Option Entry) (has passes : Bool) → has_id id x ≡ has → (has ≡ true → x.rowid ≡ rowid) → has_id id entry ≡ true → (later ≡ Some entry → rowid_in first ≡ Some rowid) → cond passes (Some x) later ≡ Some entry → rowid_in (cond has (Some x) first) ≡ Some rowid
first_step id rowid x entry later first true passes is own has rest there = ap Some (own refl)
first_step id rowid x entry later first false true is own has rest there = absurd (false≢true (sym is ∙ ap (has_id id) (same_Some x entry there) ∙ has))
first_step id rowid x entry later first false false is own has rest there = rest there

first_of_id : (id : List ℕ) (rowid : ℤ) (p : Entry → Bool) (entry : Entry) (xs : List Entry) → AllByRecursion (λ x. has_id id x ≡ true → x.rowid ≡ rowid) xs → find p xs ≡ Some entry → has_id id entry ≡ true → rowid_of id xs ≡ Some rowid
first_of_id id rowid p entry [] all there has = absurd cc
first_of_id id rowid p entry (x ∷ xs) all there has =
    first_step id rowid x entry (find p xs) (find (has_id id) xs) (has_id id x) (p x) refl all.0 has (λ later. first_of_id id rowid p entry xs all.1 later has) there

pub id_found : (id : List ℕ) (entries : List Entry) (pairs : List IdPair) (rowid : ℤ) (entry : Entry) → IsIndexed entries pairs → paired id pairs ≡ Some rowid → entry_of rowid entries ≡ Some entry → has_id id entry ≡ true → rowid_of id entries ≡ Some rowid
id_found id entries pairs rowid entry indexed pair there has =
    first_of_id id rowid (λ e. int_eq e.rowid rowid) entry entries
    (all_turned (IsPaired pairs) (λ x. has_id id x ≡ true → x.rowid ≡ rowid) entries (λ x own. rowid_is id pairs x rowid own pair) indexed.paired_ids)
    there has

-- ---- entries and pairs that belong together

pub none_indexed : (entries : List Entry) (pairs : List IdPair) → entries ≡ [] → pairs ≡ [] → IsIndexed entries pairs
unfolding IsStrictlySortedBy
none_indexed entries pairs none empty = rw (none, empty) (record { rowids = tt; ids = tt; paired_ids = tt })

-- no two entries have one id
all_others : (pairs : List IdPair) (x : Entry) (xs : List Entry) → IsPaired pairs x → AllByRecursion (λ y. int_cmp x.rowid y.rowid ≡ Less) xs → AllByRecursion (IsPaired pairs) xs → list_any (is_same_id x.id) xs ≡ false
all_others pairs x [] own above all = refl
all_others pairs x (y ∷ ys) own above all =
    ap (λ b. b || list_any (is_same_id x.id) ys) (differ x.id x.rowid y own above.0 all.0) ∙ all_others pairs x ys own above.1 all.1
  where
    differ : (held : Option (List ℕ)) (rowid : ℤ) (z : Entry) → MatchOption held ⊤ (λ id. paired id pairs ≡ Some rowid) → int_cmp rowid z.rowid ≡ Less → IsPaired pairs z → is_same_id held z ≡ false
    differ None rowid z own less other = refl
    differ (Some id) rowid z own less other =
        false_from (has_id id z)
        (λ has.
        let same = same_Some rowid z.rowid (sym own ∙ id_paired id z.id z.rowid pairs other has) in
        let equal : Less ≡ Equal = sym less ∙ same_rowid rowid z.rowid same in
        absurd cc)

pub own_ids : (entries : List Entry) (pairs : List IdPair) → RowidsRise entries → AllByRecursion (IsPaired pairs) entries → have_own_ids entries ≡ true
unfolding IsStrictlySortedBy
own_ids [] pairs rise all = refl
own_ids (x ∷ xs) pairs rise all = and_from _ _ (ap not (all_others pairs x xs all.0 rise.0 all.1)) (own_ids xs pairs rise.1 all.1)

-- ---- changes

all_either : {A : Type 0} (P : A → Type 0) (b : Bool) (xs ys : List A) → AllByRecursion P xs → AllByRecursion P ys → AllByRecursion P (cond b xs ys)
all_either P true xs ys left right = left
all_either P false xs ys left right = right

all-with_entry : (P : Entry → Type 0) (entry : Entry) (xs : List Entry) → AllByRecursion P xs → P entry → AllByRecursion P (with_entry entry xs)
all-with_entry P entry [] all here = (here, tt)
all-with_entry P entry (x ∷ xs) all here =
    all_either P (int_lt entry.rowid x.rowid) (entry ∷ x ∷ xs) (x ∷ with_entry entry xs) (here, all) (all.0, all-with_entry P entry xs all.1 here)

-- the ids but for one that is given have what they had
abbrev pub AgreeBeside : Option (List ℕ) → List IdPair → List IdPair → Type 0
AgreeBeside given old new = (other : List ℕ) → (given ≡ Some other → ⊥) → paired other new ≡ paired other old

-- the entry does not have the id that is given
abbrev Differs : Option (List ℕ) → Entry → Type 0
Differs given entry = (id : List ℕ) → entry.id ≡ Some id → given ≡ Some id → ⊥

stays_paired : (given held : Option (List ℕ)) (rowid : ℤ) (old new : List IdPair) → AgreeBeside given old new → ((id : List ℕ) → held ≡ Some id → given ≡ Some id → ⊥) → MatchOption held ⊤ (λ id. paired id old ≡ Some rowid) → MatchOption held ⊤ (λ id. paired id new ≡ Some rowid)
stays_paired given None rowid old new agree differs own = tt
stays_paired given (Some id) rowid old new agree differs own = agree id (differs id refl) ∙ own

stay_paired : (given : Option (List ℕ)) (old new : List IdPair) (entries : List Entry) → AgreeBeside given old new → AllByRecursion (Differs given) entries → AllByRecursion (IsPaired old) entries → AllByRecursion (IsPaired new) entries
stay_paired given old new [] agree differ own = tt
stay_paired given old new (x ∷ xs) agree differ own = (stays_paired given x.id x.rowid old new agree differ.0 own.0, stay_paired given old new xs agree differ.1 own.1)

-- an id that no entry has
fresh_step : (id : List ℕ) (x : Entry) (first : Option Entry) (has : Bool) → has_id id x ≡ has → rowid_in (cond has (Some x) first) ≡ None → (has_id id x ≡ false) × (rowid_in first ≡ None)
fresh_step id x first true is fresh = absurd cc
fresh_step id x first false is fresh = (is, fresh)

differ_fresh : (id : List ℕ) (xs : List Entry) → rowid_of id xs ≡ None → AllByRecursion (Differs (Some id)) xs
differ_fresh id [] fresh = tt
differ_fresh id (x ∷ xs) fresh =
    let parts = fresh_step id x (find (has_id id) xs) (has_id id x) refl fresh in (
      (λ other held given. false≢true (sym parts.0 ∙ ap (is_text id) held ∙ (bytes_eq-Decides other id).1 (sym (same_Some id other given)))),
      differ_fresh id xs parts.1,
    )

differ_none : (xs : List Entry) → AllByRecursion (Differs None) xs
differ_none [] = tt
differ_none (x ∷ xs) = ((λ other held given. none-some other given), differ_none xs)

differ_given : (given : Option (Bor (List ℕ))) (entries : List Entry) → IfSome given (λ id. rowid_of id.now entries ≡ None) → AllByRecursion (Differs (option_copied given)) entries
differ_given None entries fresh = differ_none entries
differ_given (Some id) entries fresh = differ_fresh id.now entries fresh

-- a pair of an id that no entry has
pub pair_put : (given : Option (Bor (List ℕ))) (entries : List Entry) (old new : List IdPair) → IsIndexed entries old → IfSome given (λ id. rowid_of id.now entries ≡ None) → IdsRise new → AgreeBeside (option_copied given) old new → IsIndexed entries new
pair_put given entries old new indexed fresh rise agree = record {
  rowids = indexed.rowids;
  ids = rise;
  paired_ids = stay_paired (option_copied given) old new entries agree (differ_given given entries fresh) indexed.paired_ids;
}

own_paired : (held : Option (List ℕ)) (rowid : ℤ) (pairs : List IdPair) → ((id : List ℕ) → held ≡ Some id → paired id pairs ≡ Some rowid) → MatchOption held ⊤ (λ id. paired id pairs ≡ Some rowid)
own_paired None rowid pairs own = tt
own_paired (Some id) rowid pairs own = own id refl

-- an entry whose id is paired with its rowid
pub entry_put : {R E : Type 0} (result : Result R E) (entries new : List Entry) (entry : Entry) (pairs : List IdPair) → IsIndexed entries pairs → ((id : List ℕ) → entry.id ≡ Some id → paired id pairs ≡ Some entry.rowid) → RowidsRise new → new ≡ (if is_ok result then with_entry entry entries else entries) → IsIndexed new pairs
entry_put (Ok u) entries new entry pairs indexed own rise is = record {
  rowids = rise;
  ids = indexed.ids;
  paired_ids = rw is (all-with_entry (IsPaired pairs) entry entries indexed.paired_ids (own_paired entry.id entry.rowid pairs own));
}
entry_put (Err e) entries new entry pairs indexed own rise is = rw is indexed

-- the id of an entry that is at a place, by another name
pub held_paired : (given : Option (List ℕ)) (rowid : ℤ) (entry : Entry) (entries : List Entry) (at : ℕ) (pairs : List IdPair) → AllByRecursion (IsPaired pairs) entries → at < length entries → entry ≡ get_or entries at entry → HoldsAt (λ e. int_cmp e.rowid rowid ≡ Equal) entries at → given ≡ entry.id → MatchOption given ⊤ (λ id. paired id pairs ≡ Some rowid)
held_paired given rowid entry entries at pairs all within is equal same =
    let P : Entry → Type 0 = IsPaired pairs in
    let own : IsPaired pairs entry = subst P (sym is) (all_at P entries at entry all within) in
    let rowid_same : entry.rowid ≡ rowid = int_ranked entry.rowid rowid Equal (sym (ap (λ (e : Entry). int_cmp e.rowid rowid) is ∙ equal entry)) in
    let Q : ℤ → Type 0 = λ r. MatchOption entry.id ⊤ (λ id. paired id pairs ≡ Some r) in
    rw same (subst Q rowid_same own)

-- an entry less, and maybe its pair
pub entry_removed : (given : Option (List ℕ)) (rowid : ℤ) (entries left : List Entry) (old new : List IdPair) → IsIndexed entries old → left ≡ without rowid entries → MatchOption given ⊤ (λ id. paired id old ≡ Some rowid) → IdsRise new → AgreeBeside given old new → IsIndexed left new
entry_removed given rowid entries left old new indexed is own rise agree =
    let stays = all-filter (IsPaired old) (IsPaired old) (λ (e : Entry). not (int_eq e.rowid rowid)) entries (λ x pair passes. pair) indexed.paired_ids in
    let differ = all-filter (IsPaired old) (Differs given) (λ (e : Entry). not (int_eq e.rowid rowid)) entries
    (λ x pair passes other held is_given.
    let one = MatchOption-at_some ⊤ (λ id. paired id old ≡ Some x.rowid) other held pair in
    let two = MatchOption-at_some ⊤ (λ id. paired id old ≡ Some rowid) other is_given own in
    let equal = same_rowid x.rowid rowid (same_Some x.rowid rowid (sym one ∙ two)) in
    false≢true (sym (ap (λ o. not (is_eq o)) equal) ∙ passes))
    indexed.paired_ids
    in rw is (record {
      rowids = IsStrictlySortedBy-filter (λ (a b : Entry). int_cmp a.rowid b.rowid) (λ (e : Entry). not (int_eq e.rowid rowid)) entries indexed.rowids;
      ids = rise;
      paired_ids = stay_paired given old new (without rowid entries) agree differ stays;
    })
