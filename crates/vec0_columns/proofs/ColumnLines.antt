-- The grammar's lines of the column text and their factored forms are the same.
use Rattle.std.proofs.Common.{List, ◌∷◌}
use Rattle.std.specs.Prelude.{codes}
use Rattle.grammar.specs.Grammar.{Part, one, seq, alt, opt, many, means, sign, ◌▸◌, a_mark, a_name, or_default}
use Rattle.grammar.proofs.Factoring.{Within, Same, within_refl, within_trans, within_left, within_right, within_later, within_either, within_means, within_seq, within_behind, within_many, spread, without_option, with_option, option_parts}
use Rattle.row_model.specs.declared.schema.Kind.{Kind}
use Rattle.row_model.specs.declared.schema.Kind.TheVariants as kinds
use Rattle.vec0_columns.specs.declared.text.Spelled.{Spelled}
use Rattle.vec0_columns.specs.declared.text.Spelled.TheVariants.{Plain}
use Rattle.vec0_columns.specs.declared.text.Arg.{Arg}
use Rattle.vec0_columns.specs.declared.text.Arg.TheVariants as args
use Rattle.vec0_columns.specs.ColumnGrammar.{integer_word, boolean_word, text_word, blob_word, stands_for, primary_key, partition_key, int8, bits, column, auxiliary, chunk_size, arg, columns, enclosed}
use Rattle.vec0_columns.specs.inner.FactoredColumns.{key, integer_kind, text_kind, text_or_boolean, scalar_kind, kind, auxiliary_kind, factored_arg, factored_columns, factored_enclosed}

-- what holds of a column of each kind of a choice holds of the choice
either_column : (p q : Part Spelled) (r : Part Arg) → Within (column p) r → Within (column q) r → Within (column (alt p q)) r
either_column p q r a b = spread (λ x. args.Column x.0 x.1) a_name p q r a b

column_within : (p q : Part Spelled) → Within p q → Within (column p) (column q)
column_within p q a = within_means (λ x. args.Column x.0 x.1) (seq a_name p) (seq a_name q) (within_seq a_name a_name p q (within_refl a_name) a)

auxiliary_within : (p q : Part Spelled) → Within p q → Within (auxiliary p) (auxiliary q)
auxiliary_within p q a = within_behind (a_mark (codes "+")) (column p) (column q) (column_within p q a)

either_auxiliary : (p q : Part Spelled) (r : Part Arg) → Within (auxiliary p) r → Within (auxiliary q) r → Within (auxiliary (alt p q)) r
either_auxiliary p q r a b =
    within_trans (auxiliary (alt p q)) (a_mark (codes "+") ▸ alt (column p) (column q)) r
    (within_behind (a_mark (codes "+")) (column (alt p q)) (alt (column p) (column q)) (either_column p q (alt (column p) (column q)) (within_left (column p) (column q)) (within_right (column p) (column q))))
    (spread (λ x. x.1) (a_mark (codes "+")) (column p) (column q) r a b)

-- a word alone, or with a key behind it
abbrev keyed : Kind → Kind → Kind → Part (Unit {0}) → Part Spelled
keyed alone primary partition p = means (or_default (Plain alone)) (p ▸ opt (alt (primary_key primary) (partition_key partition)))

keyed_alone : (a b c : Kind) (p : Part (Unit {0})) → Within (stands_for a p) (keyed a b c p)
keyed_alone a b c p = without_option (Plain a) p (alt (primary_key b) (partition_key c))

keyed_primary : (a b c : Kind) (p : Part (Unit {0})) → Within (p ▸ primary_key b) (keyed a b c p)
keyed_primary a b c p =
    within_trans (p ▸ primary_key b) (p ▸ alt (primary_key b) (partition_key c)) (keyed a b c p)
    (within_behind p (primary_key b) (alt (primary_key b) (partition_key c)) (within_left (primary_key b) (partition_key c)))
    (with_option (Plain a) p (alt (primary_key b) (partition_key c)))

keyed_partition : (a b c : Kind) (p : Part (Unit {0})) → Within (p ▸ partition_key c) (keyed a b c p)
keyed_partition a b c p =
    within_trans (p ▸ partition_key c) (p ▸ alt (primary_key b) (partition_key c)) (keyed a b c p)
    (within_behind p (partition_key c) (alt (primary_key b) (partition_key c)) (within_right (primary_key b) (partition_key c)))
    (with_option (Plain a) p (alt (primary_key b) (partition_key c)))

-- the three of them
abbrev three : Kind → Kind → Kind → Part (Unit {0}) → Part Spelled
three a b c p = alt (stands_for a p) (alt (p ▸ primary_key b) (p ▸ partition_key c))

keyed_three : (a b c : Kind) (p : Part (Unit {0})) → Within (keyed a b c p) (three a b c p)
keyed_three a b c p =
    option_parts (Plain a) p (alt (primary_key b) (partition_key c)) (three a b c p)
    (within_left (stands_for a p) (alt (p ▸ primary_key b) (p ▸ partition_key c)))
    (within_later (p ▸ alt (primary_key b) (partition_key c)) (stands_for a p) (alt (p ▸ primary_key b) (p ▸ partition_key c))
    (spread (λ x. x.1) p (primary_key b) (partition_key c) (alt (p ▸ primary_key b) (p ▸ partition_key c)) (within_left (p ▸ primary_key b) (p ▸ partition_key c)) (within_right (p ▸ primary_key b) (p ▸ partition_key c))))

keyed_column : (a b c : Kind) (p : Part (Unit {0})) (r : Part Arg) → Within (column (stands_for a p)) r → Within (column (p ▸ primary_key b)) r → Within (column (p ▸ partition_key c)) r → Within (column (keyed a b c p)) r
keyed_column a b c p r x y z =
    within_trans (column (keyed a b c p)) (column (three a b c p)) r (column_within (keyed a b c p) (three a b c p) (keyed_three a b c p))
    (either_column (stands_for a p) (alt (p ▸ primary_key b) (p ▸ partition_key c)) r x (either_column (p ▸ primary_key b) (p ▸ partition_key c) r y z))

-- each line of the grammar is one of its choices

integer_primary : Within (column (integer_word ▸ primary_key kinds.IntKey)) arg
unfolding arg
integer_primary = within_left _ _

text_primary : Within (column (text_word ▸ primary_key kinds.TextKey)) arg
unfolding arg
text_primary = within_later _ _ _ (within_left _ _)

int8_line : Within (column int8) arg
unfolding arg
int8_line = within_later _ _ _ (within_later _ _ _ (within_left _ _))

bits_line : Within (column bits) arg
unfolding arg
bits_line = within_later _ _ _ (within_later _ _ _ (within_later _ _ _ (within_left _ _)))

integer_partition : Within (column (integer_word ▸ partition_key kinds.IntPartition)) arg
unfolding arg
integer_partition = within_later _ _ _ (within_later _ _ _ (within_later _ _ _ (within_later _ _ _ (within_left _ _))))

text_partition : Within (column (text_word ▸ partition_key kinds.TextPartition)) arg
unfolding arg
text_partition = within_later _ _ _ (within_later _ _ _ (within_later _ _ _ (within_later _ _ _ (within_later _ _ _ (within_left _ _)))))

integer_alone : Within (column (stands_for kinds.IntMeta integer_word)) arg
unfolding arg
integer_alone = within_later _ _ _ (within_later _ _ _ (within_later _ _ _ (within_later _ _ _ (within_later _ _ _ (within_later _ _ _ (within_left _ _))))))

text_alone : Within (column (stands_for kinds.TextMeta text_word)) arg
unfolding arg
text_alone = within_later _ _ _ (within_later _ _ _ (within_later _ _ _ (within_later _ _ _ (within_later _ _ _ (within_later _ _ _ (within_later _ _ _ (within_left _ _)))))))

boolean_alone : Within (column (stands_for kinds.BoolMeta boolean_word)) arg
unfolding arg
boolean_alone = within_later _ _ _ (within_later _ _ _ (within_later _ _ _ (within_later _ _ _ (within_later _ _ _ (within_later _ _ _ (within_later _ _ _ (within_later _ _ _ (within_left _ _))))))))

integer_auxiliary : Within (auxiliary (stands_for kinds.IntAux integer_word)) arg
unfolding arg
integer_auxiliary = within_later _ _ _ (within_later _ _ _ (within_later _ _ _ (within_later _ _ _ (within_later _ _ _ (within_later _ _ _ (within_later _ _ _ (within_later _ _ _ (within_later _ _ _ (within_left _ _)))))))))

text_auxiliary : Within (auxiliary (stands_for kinds.TextAux text_word)) arg
unfolding arg
text_auxiliary = within_later _ _ _ (within_later _ _ _ (within_later _ _ _ (within_later _ _ _ (within_later _ _ _ (within_later _ _ _ (within_later _ _ _ (within_later _ _ _ (within_later _ _ _ (within_later _ _ _ (within_left _ _))))))))))

blob_auxiliary : Within (auxiliary (stands_for kinds.BlobAux blob_word)) arg
unfolding arg
blob_auxiliary = within_later _ _ _ (within_later _ _ _ (within_later _ _ _ (within_later _ _ _ (within_later _ _ _ (within_later _ _ _ (within_later _ _ _ (within_later _ _ _ (within_later _ _ _ (within_later _ _ _ (within_later _ _ _ (within_left _ _)))))))))))

chunk_line : Within (chunk_size) arg
unfolding arg
chunk_line = within_later _ _ _ (within_later _ _ _ (within_later _ _ _ (within_later _ _ _ (within_later _ _ _ (within_later _ _ _ (within_later _ _ _ (within_later _ _ _ (within_later _ _ _ (within_later _ _ _ (within_later _ _ _ (within_later _ _ _ (within_refl _))))))))))))

integer_columns : Within (column integer_kind) arg
unfolding integer_kind key
integer_columns = keyed_column kinds.IntMeta kinds.IntKey kinds.IntPartition integer_word arg integer_alone integer_primary integer_partition

text_columns : Within (column text_kind) arg
unfolding text_kind key
text_columns = keyed_column kinds.TextMeta kinds.TextKey kinds.TextPartition text_word arg text_alone text_primary text_partition

scalar_columns : Within (column scalar_kind) arg
unfolding scalar_kind text_or_boolean
scalar_columns = either_column integer_kind text_or_boolean arg integer_columns (either_column text_kind (stands_for kinds.BoolMeta boolean_word) arg text_columns boolean_alone)

all_columns : Within (column kind) arg
unfolding kind
all_columns = either_column int8 (alt bits scalar_kind) arg int8_line (either_column bits scalar_kind arg bits_line scalar_columns)

auxiliary_columns : Within (auxiliary auxiliary_kind) arg
unfolding auxiliary_kind
auxiliary_columns = either_auxiliary _ _ arg integer_auxiliary (either_auxiliary _ _ arg text_auxiliary blob_auxiliary)

factored_within : Within factored_arg arg
unfolding factored_arg
factored_within = within_either chunk_size (alt (auxiliary auxiliary_kind) (column kind)) arg chunk_line (within_either (auxiliary auxiliary_kind) (column kind) arg auxiliary_columns all_columns)

-- and each choice is taken by the factored line

in_scalar : Within scalar_kind kind
unfolding kind
in_scalar = within_later _ _ _ (within_right _ _)

in_integer : Within integer_kind kind
unfolding scalar_kind
in_integer = within_trans integer_kind scalar_kind kind (within_left _ _) in_scalar

in_text : Within text_kind kind
unfolding scalar_kind text_or_boolean
in_text = within_trans text_kind scalar_kind kind (within_later _ _ _ (within_left _ _)) in_scalar

in_boolean : Within (stands_for kinds.BoolMeta boolean_word) kind
unfolding scalar_kind text_or_boolean
in_boolean = within_trans (stands_for kinds.BoolMeta boolean_word) scalar_kind kind (within_later _ _ _ (within_right _ _)) in_scalar

in_int8 : Within int8 kind
unfolding kind
in_int8 = within_left _ _

in_bits : Within bits kind
unfolding kind
in_bits = within_later _ _ _ (within_left _ _)

column_factored : (p : Part Spelled) → Within p kind → Within (column p) factored_arg
unfolding factored_arg
column_factored p a = within_trans (column p) (column kind) factored_arg (column_within p kind a) (within_later _ _ _ (within_right _ _))

auxiliary_factored : (p : Part Spelled) → Within p auxiliary_kind → Within (auxiliary p) factored_arg
unfolding factored_arg
auxiliary_factored p a = within_trans (auxiliary p) (auxiliary auxiliary_kind) factored_arg (auxiliary_within p auxiliary_kind a) (within_later _ _ _ (within_left _ _))

chunk_factored : Within chunk_size factored_arg
unfolding factored_arg
chunk_factored = within_left _ _

integer_any : (p : Part Spelled) → Within p (keyed kinds.IntMeta kinds.IntKey kinds.IntPartition integer_word) → Within (column p) factored_arg
unfolding integer_kind key
integer_any p a = column_factored p (within_trans p integer_kind kind a in_integer)

text_any : (p : Part Spelled) → Within p (keyed kinds.TextMeta kinds.TextKey kinds.TextPartition text_word) → Within (column p) factored_arg
unfolding text_kind key
text_any p a = column_factored p (within_trans p text_kind kind a in_text)

in_integer_auxiliary : Within (stands_for kinds.IntAux integer_word) auxiliary_kind
unfolding auxiliary_kind
in_integer_auxiliary = within_left _ _

in_text_auxiliary : Within (stands_for kinds.TextAux text_word) auxiliary_kind
unfolding auxiliary_kind
in_text_auxiliary = within_later _ _ _ (within_left _ _)

in_blob_auxiliary : Within (stands_for kinds.BlobAux blob_word) auxiliary_kind
unfolding auxiliary_kind
in_blob_auxiliary = within_later _ _ _ (within_right _ _)

arg_within : Within arg factored_arg
unfolding arg
arg_within =
    within_either _ _ factored_arg (integer_any _ (keyed_primary kinds.IntMeta kinds.IntKey kinds.IntPartition integer_word))
    (within_either _ _ factored_arg (text_any _ (keyed_primary kinds.TextMeta kinds.TextKey kinds.TextPartition text_word))
    (within_either _ _ factored_arg (column_factored int8 in_int8)
    (within_either _ _ factored_arg (column_factored bits in_bits)
    (within_either _ _ factored_arg (integer_any _ (keyed_partition kinds.IntMeta kinds.IntKey kinds.IntPartition integer_word))
    (within_either _ _ factored_arg (text_any _ (keyed_partition kinds.TextMeta kinds.TextKey kinds.TextPartition text_word))
    (within_either _ _ factored_arg (integer_any _ (keyed_alone kinds.IntMeta kinds.IntKey kinds.IntPartition integer_word))
    (within_either _ _ factored_arg (text_any _ (keyed_alone kinds.TextMeta kinds.TextKey kinds.TextPartition text_word))
    (within_either _ _ factored_arg (column_factored _ in_boolean)
    (within_either _ _ factored_arg (auxiliary_factored _ in_integer_auxiliary)
    (within_either _ _ factored_arg (auxiliary_factored _ in_text_auxiliary)
    (within_either _ _ factored_arg (auxiliary_factored _ in_blob_auxiliary) chunk_factored)))))))))))

-- the whole list

columns_line : (p q : Part Arg) → Within p q → Within (means (λ (x : Arg × List Arg). x.0 ∷ x.1) (seq p (many (a_mark (codes ",") ▸ p)))) (means (λ (x : Arg × List Arg). x.0 ∷ x.1) (seq q (many (a_mark (codes ",") ▸ q))))
columns_line p q a =
    within_means (λ (x : Arg × List Arg). x.0 ∷ x.1) (seq p (many (a_mark (codes ",") ▸ p))) (seq q (many (a_mark (codes ",") ▸ q)))
    (within_seq p q (many (a_mark (codes ",") ▸ p)) (many (a_mark (codes ",") ▸ q)) a
    (within_many (a_mark (codes ",") ▸ p) (a_mark (codes ",") ▸ q) (within_behind (a_mark (codes ",")) p q a)))

pub columns_same : Same factored_columns columns
unfolding factored_columns columns
columns_same = record { there = columns_line factored_arg arg factored_within; back = columns_line arg factored_arg arg_within }

pub enclosed_same : Same factored_enclosed enclosed
unfolding factored_enclosed enclosed
enclosed_same = record {
  there = within_seq factored_columns columns (one (sign (codes ")"))) (one (sign (codes ")"))) columns_same.there (within_refl (one (sign (codes ")"))));
  back = within_seq columns factored_columns (one (sign (codes ")"))) (one (sign (codes ")"))) columns_same.back (within_refl (one (sign (codes ")"))));
}
