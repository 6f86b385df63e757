-- Where tables stand in a catalog.
use Rattle.std.proofs.Common.{◌≡◌, ℕ, ◌<◌, Bool, true, false, cond, Option, Some, find, subst, not, ◌||◌, List, [], ◌∷◌, length, bytes_eq, refl, sym, ap, ◌∙◌, arith, add-one, ◌+◌}
use Rattle.std.proofs.lemmas.Bool.{and_parts}
use Rattle.std.proofs.lemmas.Slice.Eq.{bytes_eq-Decides}
use Rattle.std.specs.List.{AllByRecursion}
use Rattle.row_model.specs.declared.row.Catalog.{Catalog}
use Rattle.row_model.specs.declared.row.Named.{Named}
use Rattle.row_model.specs.declared.row.Table.{Table}
use Rattle.row_model.specs.Change.{other_tables, table_named}
use Rattle.plain_engine.specs.inner.TablePlaces.{IsTable, IsTableAt}
use Rattle.row_model.specs.Valid.{has_table, have_own_names, IsValidCatalog, IsValidTable}

negated : (b : Bool) → not b ≡ true → b ≡ false
negated true h = absurd cc
negated false h = refl

neither : (a b : Bool) → (a || b) ≡ false → (a ≡ false) × (b ≡ false)
neither true b h = absurd cc
neither false b h = (refl, h)

-- all tables stay where none has the name
others_stay : (name : List ℕ) (tables : List Named) → has_table name tables ≡ false → other_tables name tables ≡ tables
others_stay name [] h = refl
others_stay name (n ∷ ns) h =
    let parts = neither (bytes_eq n.name name) (has_table name ns) h in
    rw parts.0 (ap (λ z. n ∷ z) (others_stay name ns parts.1))

-- the first table has the name
pub table_first : (name : List ℕ) (n : Named) (ns : List Named) → bytes_eq n.name name ≡ true → IsTableAt name (n ∷ ns) 0
table_first name n ns h = record {
  named = n;
  within = omega arith;
  is = rw h refl;
  there = λ d. refl;
  put = λ table. rw h refl;
  gone = λ own. (
      let same : n.name ≡ name = (bytes_eq-Decides n.name name).0 h in
      rw h (others_stay name ns (ap (λ z. has_table z ns) (sym same) ∙ negated (has_table n.name ns) (and_parts (not (has_table n.name ns)) (have_own_names ns) own).0)));
}

-- a table behind the first has it
pub table_later : (name : List ℕ) (n : Named) (ns : List Named) (at : ℕ) → bytes_eq n.name name ≡ false → IsTableAt name ns at → IsTableAt name (n ∷ ns) (at + 1)
table_later name n ns at other a = record {
  named = a.named;
  within = let h : at < length ns = a.within in omega arith;
  is = rw other a.is;
  there = λ d. rw (add-one at) (a.there d);
  put = λ table. rw (other, add-one at) (ap (λ xs. n ∷ xs) (a.put table));
  gone = λ own. rw (other, add-one at) (ap (λ xs. n ∷ xs) (a.gone (and_parts (not (has_table n.name ns)) (have_own_names ns) own).1));
}

-- ---- tables of a valid catalog

all_step : (P : Named → Type 0) (b : Bool) (n named : Named) (later : Option Named) → P n → (later ≡ Some named → P named) → cond b (Some n) later ≡ Some named → P named
all_step P true n named later here rest h = (let is : n ≡ named = cc in subst (λ (z : Named). P z) is here)
all_step P false n named later here rest h = rest h

all_at : (P : Named → Type 0) (name : List ℕ) (tables : List Named) (named : Named) → AllByRecursion P tables → table_named name tables ≡ Some named → P named
all_at P name [] named all f = absurd cc
all_at P name (n ∷ ns) named all f = all_step P (bytes_eq n.name name) n named (find (λ t. bytes_eq t.name name) ns) all.0 (λ later. all_at P name ns named all.1 later) f

-- a table that is found in a valid catalog is valid
pub found_valid : (name : List ℕ) (catalog : Catalog) (named : Named) → IsValidCatalog catalog → table_named name catalog.tables ≡ Some named → IsValidTable named.table
found_valid name catalog named valid f = all_at (λ (n : Named). IsValidTable n.table) name catalog.tables named valid.tables f

pub table_valid : (name : List ℕ) (catalog : Catalog) (table : Table) → IsValidCatalog catalog → IsTable name catalog.tables table → IsValidTable table
table_valid name catalog table valid found = subst (λ (z : Table). IsValidTable z) (sym found.same) (found_valid name catalog found.named valid found.is)
