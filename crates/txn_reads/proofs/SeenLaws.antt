-- The table of a name that a session sees.
use Rattle.std.proofs.Common.{◌≡◌, ◌≤◌, ◌-◌, ℕ, zero, suc, List, get_or, Some, None, option_map, sym, ap, ◌∙◌, subst, arith}
use Rattle.std.proofs.Math.ListN.{get_or-map}
use Rattle.row_model.specs.Change.{table_named}
use Rattle.row_model.specs.Step.{found}
use Rattle.row_model.specs.declared.row.Catalog.{Catalog}
use Rattle.row_model.specs.declared.row.Named.{Named}
use Rattle.row_model.specs.declared.row.Table.{Table}
use Rattle.row_model.specs.declared.schema.Schema.{Schema}
use Rattle.shadow_records.specs.PlacedTables.{plain}
use Rattle.table_version.specs.Versions.{VersionState}
use Rattle.txn_reads.specs.SeenSchemas.{schema_found}
use Rattle.txn_reads.specs.SeenTables.{IsSeen}
use Rattle.txn_sessions.specs.Seen.{Versions, held_seen, session_at, state_of, version_at}
use Rattle.txn_sessions.specs.declared.machine.Machine.{Machine}
use Rattle.txn_sessions.proofs.ChangeLaws.{seen-is, version-is}
use Rattle.vec_base.specs.declared.limits.TheConstants.{MOST_TABLES}
use Rattle.version_shelf.specs.Numbers.{IsNumber, catalog_of, under}
use Rattle.version_shelf.specs.OnShelf.{at_place, shown}
use Rattle.version_shelf.specs.declared.held.Held.{Held}

-- what is found is found among the tables that are shown
found-shown : (machine : Machine) (at : ℕ) (name : List ℕ) → found name (state_of machine) (session_at machine at) ≡ table_named name (catalog_of (shown machine.shelf (held_seen machine at).places)).tables
found-shown machine at name = ap (λ (catalog : Catalog). table_named name catalog.tables) (seen-is machine at)

pub none_seen : (machine : Machine) (at : ℕ) (name : List ℕ) (held : Held) → held ≡ held_seen machine at → table_named name (catalog_of (shown machine.shelf held.places)).tables ≡ None →
    found name (state_of machine) (session_at machine at) ≡ None
none_seen machine at name held is none = found-shown machine at name ∙ ap (λ (h : Held). table_named name (catalog_of (shown machine.shelf h.places)).tables) (sym is) ∙ none

under-is : (versions : Versions) (number : ℕ) → 1 ≤ number → under number versions ≡ get_or versions (number - 1) None
under-is versions zero low = absurd (omega (arith, low))
under-is versions (suc n) low = (let same : n ≡ suc n - 1 = omega arith in ap (λ i. get_or versions i None) same)

pub seen_table : (machine : Machine) (at : ℕ) (name : List ℕ) (held : Held) (number : ℕ) (version : VersionState) → held ≡ held_seen machine at → 1 ≤ number → number ≤ MOST_TABLES →
    IsNumber name (shown machine.shelf held.places) number → Some version ≡ at_place machine.shelf (get_or held.places (number - 1) None) → IsSeen machine at name number version
seen_table machine at name held number version is low high found_is lent =
    subst (λ (h : Held). IsNumber name (shown machine.shelf h.places) number → Some version ≡ at_place machine.shelf (get_or h.places (number - 1) None) → IsSeen machine at name number version) (sym is)
    (λ here given. seen_in here given) found_is lent where
      seen_in : IsNumber name (shown machine.shelf (held_seen machine at).places) number → Some version ≡ at_place machine.shelf (get_or (held_seen machine at).places (number - 1) None) → IsSeen machine at name number version
      seen_in here given = record {
        low = low;
        high = high;
        there = under-is (shown machine.shelf (held_seen machine at).places) number low ∙ get_or-map (at_place machine.shelf) (held_seen machine at).places (number - 1) None ∙ sym given;
        named = here.from.found;
        is = found-shown machine at name ∙ here.from.is;
        same = here.from.same ∙ ap (λ (v : VersionState). plain v.table) (version-is name machine.shelf (held_seen machine at).places number version here given);
      }

-- ---- its schema

pub schema_of_seen : (machine : Machine) (at : ℕ) (name : List ℕ) (number : ℕ) (version : VersionState) (schema : Schema) → IsSeen machine at name number version → schema ≡ version.table.schema →
    schema_found name (state_of machine) (session_at machine at) ≡ Some schema
schema_of_seen machine at name number version schema seen is =
    ap (option_map (λ (n : Named). n.table.schema)) seen.is ∙ ap (λ (t : Table). Some t.schema) seen.same ∙ ap (λ (s : Schema). Some s) (sym is)

pub schema_nowhere : (machine : Machine) (at : ℕ) (name : List ℕ) → found name (state_of machine) (session_at machine at) ≡ None → schema_found name (state_of machine) (session_at machine at) ≡ None
schema_nowhere machine at name none = ap (option_map (λ (n : Named). n.table.schema)) none

-- ---- the version that the shelf lends

pub version-lent : (shelf : Versions) (held : Held) (number : ℕ) → 1 ≤ number → version_at shelf held number ≡ at_place shelf (get_or held.places (number - 1) None)
version-lent shelf held number low = under-is (shown shelf held.places) number low ∙ get_or-map (at_place shelf) held.places (number - 1) None

pub some-is : {A : Type 0} (a b : A) → Some a ≡ Some b → a ≡ b
some-is a b h = cc

none-is : {A B : Type 0} (a : A) → Some a ≡ None → B
none-is a h = absurd cc

-- it is the one under the number
pub lent-is : (shelf : Versions) (held : Held) (number : ℕ) (version lent : VersionState) → 1 ≤ number → version_at shelf held number ≡ Some version → Some lent ≡ at_place shelf (get_or held.places (number - 1) None) → lent ≡ version
lent-is shelf held number version lent low there given = some-is lent version (given ∙ sym (version-lent shelf held number low) ∙ there)

-- and it is there
pub never-missing : {A : Type 0} (shelf : Versions) (held : Held) (number : ℕ) (version : VersionState) → 1 ≤ number → version_at shelf held number ≡ Some version → None ≡ at_place shelf (get_or held.places (number - 1) None) → A
never-missing shelf held number version low there missing = none-is version (sym there ∙ version-lent shelf held number low ∙ sym missing)
