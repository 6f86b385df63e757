-- The lexemes of terms, assignments and rows spell them.
use Rattle.std.proofs.Common.{◌≡◌, ℕ, true, List, [], ◌∷◌, ◌++◌, codes, refl, sym, ◌∙◌, ap, subst}
use Rattle.std.proofs.lemmas.Bool.{and_parts}
use Rattle.std.proofs.lemmas.Grind.{flat_map-append}
use Rattle.std.specs.List.{list_all, flat_map, AllByRecursion}
use Rattle.vec_base.proofs.RankLaws.{each-map}
use Rattle.vec_base.specs.Words.{is_name}
use Rattle.vec_base.specs.declared.value.Op.{Op}
use Rattle.vec_base.specs.declared.value.Op.TheVariants as ops
use Rattle.vec_base.specs.declared.value.Value.{Value}
use Rattle.vec_base.specs.Representable.{IsRepresentable}
use Rattle.vec_literal.specs.Lexemes.{word_lexeme, mark_lexeme}
use Rattle.vec_literal.proofs.ValuesBefore.{value_lexemes}
use Rattle.grammar.specs.Grammar.{Part, list_of, a_word, a_mark, or_default}
use Rattle.grammar.proofs.Lexemes.{LexemesSpell, of_means, of_left, of_right, of_word, of_mark}
use Rattle.grammar.proofs.LexemesGive.{LexemesGive, give_known, give_seq, give_means, give_second, give_left, give_right, give_none, give_some}
use Rattle.grammar.proofs.LiteralLexemes.{give_placed_mark}
use Rattle.row_model.specs.declared.statement.Assign.{Assign}
use Rattle.row_model.specs.declared.statement.Constraint.{Constraint}
use Rattle.row_model.specs.declared.statement.Test.{Test}
use Rattle.row_model.specs.declared.statement.Test.TheVariants as asked
use Rattle.row_model.specs.WellFormed.{is_filled, is_whole_test, is_term}
use Rattle.vec0_columns.proofs.RoundTrip.{name_spelled}
use Rattle.sql_reader.specs.declared.given.Given.{Given}
use Rattle.sql_reader.specs.declared.given.Group.{Group}
use Rattle.sql_reader.specs.declared.given.GivenAssign.{GivenAssign}
use Rattle.sql_reader.specs.declared.given.GivenTest.{GivenTest}
use Rattle.sql_reader.specs.declared.given.GivenTest.TheVariants as tests
use Rattle.sql_reader.specs.declared.given.GivenTerm.{GivenTerm}
use Rattle.vec_sql.specs.CanonicalStatements.{op_text}
use Rattle.sql_reader.specs.GivenStatements.{checks_of, uses_of, in_test, in_terms, in_sets}
use Rattle.row_model.specs.RepresentableStatements.{AreRepresentable, IsRepresentableTest, IsRepresentableTerm, IsRepresentableAssign}
use Rattle.sql_reader.specs.StatementReading.{Passes, Each, MeansValue, MeansTest, MeansTerm, MeansAssign}
use Rattle.sql_reader.specs.StatementGrammar.{or_none, value, group, op, term_of, comparison, member, match_of, term, where_part, assignment}
use Rattle.vec_sql.proofs.TextLexemes.{listed_lexemes, group_lexemes, test_lexemes, term_lexemes, where_lexemes, assign_lexemes}
use Rattle.vec_sql.proofs.TextParts.{each_more, AllGive, separated_given, list_given, parentheses_given, ArePlain, StandsFor, value_given}

-- ---- what is plain

-- elements of two lists, where each is good
pub both_good : {A : Type 0} (P : A → Type 0) (xs ys : List A) → AllByRecursion P xs → AllByRecursion P ys → AllByRecursion P (xs ++ ys)
both_good P [] ys h k = k
both_good P (x ∷ xs) ys h k = (h.0, both_good P xs ys h.1 k)

pub none_plain : ArePlain []
none_plain = record { passed = tt; unused = refl }

pub both_plain : (xs ys : List Given) → ArePlain xs → ArePlain ys → ArePlain (xs ++ ys)
both_plain xs ys a b = record {
  passed = subst (λ zs. AllByRecursion Passes zs) (sym (flat_map-append checks_of xs ys)) (both_good Passes (flat_map checks_of xs) (flat_map checks_of ys) a.passed b.passed);
  unused = flat_map-append uses_of xs ys ∙ ap (λ zs. zs ++ flat_map uses_of ys) a.unused ∙ b.unused;
}

-- what stands for values is plain
pub values_plain : (gs : List Given) (vs : List Value) → Each StandsFor gs vs → ArePlain gs
values_plain [] [] h = none_plain
values_plain (g ∷ gs) (v ∷ vs) h = both_plain (g ∷ []) gs h.0.plain (values_plain gs vs h.1)
values_plain [] (v ∷ vs) h = absurd h
values_plain (g ∷ gs) [] h = absurd h

pub values_mean : (gs : List Given) (vs : List Value) → Each StandsFor gs vs → Each (MeansValue []) gs vs
values_mean gs vs h = each_more StandsFor (MeansValue []) (λ g v s. s.means) gs vs h

pub values_given : (vs : List Value) → is_filled vs ≡ true → AreRepresentable vs → LexemesGive (list_of value) (listed_lexemes value_lexemes vs) (λ gs. Each StandsFor gs vs)
values_given vs some held = list_given value value_lexemes StandsFor vs some (each-map IsRepresentable (λ v. LexemesGive value (value_lexemes v) (λ g. StandsFor g v)) value_given vs held)

-- ---- tests

op_spelled : (o : Op) → LexemesSpell op (mark_lexeme (op_text o) ∷ []) o
unfolding op
op_spelled ops.Eq = of_left (of_means (λ x. ops.Eq) (a_mark (codes "=")) (mark_lexeme (codes "=") ∷ []) tt (of_mark (codes "=") refl))
op_spelled ops.Ne = of_right (of_right (of_left (of_means (λ x. ops.Ne) (a_mark (codes "!=")) (mark_lexeme (codes "!=") ∷ []) tt (of_mark (codes "!=") refl))))
op_spelled ops.Lt = of_right (of_right (of_right (of_right (of_left (of_means (λ x. ops.Lt) (a_mark (codes "<")) (mark_lexeme (codes "<") ∷ []) tt (of_mark (codes "<") refl))))))
op_spelled ops.Le = of_right (of_right (of_right (of_right (of_right (of_left (of_means (λ x. ops.Le) (a_mark (codes "<=")) (mark_lexeme (codes "<=") ∷ []) tt (of_mark (codes "<=") refl)))))))
op_spelled ops.Gt = of_right (of_right (of_right (of_right (of_right (of_right (of_left (of_means (λ x. ops.Gt) (a_mark (codes ">")) (mark_lexeme (codes ">") ∷ []) tt (of_mark (codes ">") refl))))))))
op_spelled ops.Ge = of_right (of_right (of_right (of_right (of_right (of_right (of_right (of_means (λ x. ops.Ge) (a_mark (codes ">=")) (mark_lexeme (codes ">=") ∷ []) tt (of_mark (codes ">=") refl))))))))

-- what is given asks the test
pub record Asks (given : GivenTest) (test : Test) : Type 0 where
  pub means : MeansTest [] given test
  pub plain : ArePlain (in_test given)

compared : (o : Op) (v : Value) → IsRepresentable v → LexemesGive comparison (test_lexemes (asked.Compare o v)) (λ g. Asks g (asked.Compare o v))
unfolding comparison
compared o v held =
    give_means (λ x. tests.Compare x.0 x.1) (λ g. Asks g (asked.Compare o v))
    (λ x h. record { means = (v, h.1.means, ap (λ (z : Op). asked.Compare z v) (sym h.0)); plain = h.1.plain })
    (give_seq (give_known (λ (z : Op). z ≡ o) refl (op_spelled o)) (value_given v held))

members_given : (vs : List Value) → is_filled vs ≡ true → AreRepresentable vs → LexemesGive member (test_lexemes (asked.Member vs)) (λ g. Asks g (asked.Member vs))
unfolding member
members_given vs some held =
    give_means (λ gs. tests.Member gs) (λ g. Asks g (asked.Member vs))
    (λ gs h. record { means = (vs, values_mean gs vs h, refl); plain = values_plain gs vs h })
    (give_second (of_word (codes "IN") (codes "IN") refl) (parentheses_given (values_given vs some held)))

matched : (v : Value) → IsRepresentable v → LexemesGive match_of (test_lexemes (asked.Match v)) (λ g. Asks g (asked.Match v))
unfolding match_of
matched v held =
    give_means (λ g. tests.Match g) (λ g. Asks g (asked.Match v)) (λ g h. record { means = (v, h.means, refl); plain = h.plain })
    (give_second (of_word (codes "MATCH") (codes "MATCH") refl) (value_given v held))

-- ---- terms

pub record IsTerm (given : GivenTerm) (t : Constraint) : Type 0 where
  pub means : MeansTerm [] given t
  pub plain : ArePlain (in_test given.test)

-- a name and a test
with_test : (t : Constraint) (p : Part GivenTest) → is_name t.column ≡ true → LexemesGive p (test_lexemes t.test) (λ g. Asks g t.test) → LexemesGive (term_of p) (term_lexemes t) (λ g. IsTerm g t)
with_test t p n g =
    give_means (λ x. record { column = x.0; test = x.1 }) (λ given. IsTerm given t)
    (λ x h. record { means = (sym h.0, h.1.means); plain = h.1.plain })
    (give_seq (give_known (λ (z : List ℕ). z ≡ t.column) refl (name_spelled t.column n)) g)

term_by : (column : List ℕ) (test : Test) → is_name column ≡ true → is_whole_test test ≡ true → IsRepresentableTest test →
    LexemesGive term (word_lexeme column ∷ test_lexemes test) (λ g. IsTerm g (record { column = column; test = test }))
unfolding term
term_by column (asked.Compare o v) n w held = give_left (with_test (record { column = column; test = asked.Compare o v }) comparison n (compared o v held))
term_by column (asked.Member vs) n w held = give_right (give_left (with_test (record { column = column; test = asked.Member vs }) member n (members_given vs w held)))
term_by column (asked.Match v) n w held = give_right (give_right (with_test (record { column = column; test = asked.Match v }) match_of n (matched v held)))

term_given : (t : Constraint) → is_term t ≡ true → IsRepresentableTerm t → LexemesGive term (term_lexemes t) (λ g. IsTerm g t)
term_given t formed held = let p = and_parts (is_name t.column) (is_whole_test t.test) formed in term_by t.column t.test p.0 p.1 held

terms_given : (ts : List Constraint) → list_all is_term ts ≡ true → AllByRecursion IsRepresentableTerm ts → AllGive term term_lexemes IsTerm ts
terms_given [] formed held = tt
terms_given (t ∷ ts) formed held = let p = and_parts (is_term t) (list_all is_term ts) formed in (term_given t p.0 held.0, terms_given ts p.1 held.1)

where_filled : (t : Constraint) (ts : List Constraint) → AllGive term term_lexemes IsTerm (t ∷ ts) → LexemesGive where_part (where_lexemes (t ∷ ts)) (λ gs. Each IsTerm gs (t ∷ ts))
unfolding where_part
where_filled t ts all =
    give_second (of_word (codes "WHERE") (codes "WHERE") refl)
    (separated_given term (a_word (codes "AND")) (word_lexeme (codes "AND")) term_lexemes IsTerm t ts (of_word (codes "AND") (codes "AND") refl) all)

pub where_given : (ts : List Constraint) → list_all is_term ts ≡ true → AllByRecursion IsRepresentableTerm ts → LexemesGive (or_none where_part) (where_lexemes ts) (λ gs. Each IsTerm gs ts)
where_given [] formed held = give_means (or_default []) (λ gs. Each IsTerm gs []) (λ o h. h) (give_none where_part (λ o. Each IsTerm (or_default [] o) []) tt)
where_given (t ∷ ts) formed held =
    give_means (or_default []) (λ gs. Each IsTerm gs (t ∷ ts)) (λ o h. h)
    (give_some (λ o. Each IsTerm (or_default [] o) (t ∷ ts)) (λ gs h. h) (where_filled t ts (terms_given (t ∷ ts) formed held)))

pub terms_plain : (gs : List GivenTerm) (ts : List Constraint) → Each IsTerm gs ts → ArePlain (in_terms gs)
terms_plain [] [] h = none_plain
terms_plain (g ∷ gs) (t ∷ ts) h = both_plain (in_test g.test) (in_terms gs) h.0.plain (terms_plain gs ts h.1)
terms_plain [] (t ∷ ts) h = absurd h
terms_plain (g ∷ gs) [] h = absurd h

-- ---- assignments

pub record IsAssign (given : GivenAssign) (set : Assign) : Type 0 where
  pub means : MeansAssign [] given set
  pub plain : ArePlain (given.value ∷ [])

assign_given : (set : Assign) → is_name set.column ≡ true → IsRepresentableAssign set → LexemesGive assignment (assign_lexemes set) (λ g. IsAssign g set)
unfolding assignment
assign_given set n held =
    give_means (λ x. record { column = x.0; value = x.1 }) (λ given. IsAssign given set)
    (λ x h. record { means = (sym h.0, h.1.means); plain = h.1.plain })
    (give_seq (give_known (λ (z : List ℕ). z ≡ set.column) refl (name_spelled set.column n)) (give_second (of_mark (codes "=") refl) (value_given set.value held)))

assigns_given : (sets : List Assign) → list_all (λ set. is_name set.column) sets ≡ true → AllByRecursion IsRepresentableAssign sets → AllGive assignment assign_lexemes IsAssign sets
assigns_given [] n held = tt
assigns_given (s ∷ ss) n held = let p = and_parts (is_name s.column) (list_all (λ set. is_name set.column) ss) n in (assign_given s p.0 held.0, assigns_given ss p.1 held.1)

pub sets_given : (sets : List Assign) → is_filled sets ≡ true → list_all (λ set. is_name set.column) sets ≡ true → AllByRecursion IsRepresentableAssign sets →
    LexemesGive (list_of assignment) (listed_lexemes assign_lexemes sets) (λ gs. Each IsAssign gs sets)
sets_given sets some n held = list_given assignment assign_lexemes IsAssign sets some (assigns_given sets n held)

pub sets_plain : (gs : List GivenAssign) (sets : List Assign) → Each IsAssign gs sets → ArePlain (in_sets gs)
sets_plain [] [] h = none_plain
sets_plain (g ∷ gs) (s ∷ ss) h = both_plain (g.value ∷ []) (in_sets gs) h.0.plain (sets_plain gs ss h.1)
sets_plain [] (s ∷ ss) h = absurd h
sets_plain (g ∷ gs) [] h = absurd h

-- ---- rows

abbrev pub IsRow : Group → List Value → Type 0
IsRow g row = Each StandsFor g.values row

pub row_given : (row : List Value) → is_filled row ≡ true → AreRepresentable row → LexemesGive group (group_lexemes row) (λ g. IsRow g row)
unfolding group
row_given row some held =
    give_means (λ x. record { values = x.0; close = x.1 }) (λ g. IsRow g row) (λ x h. h.0)
    (give_second (of_mark (codes "(") refl) (give_seq (values_given row some held) (give_placed_mark (codes ")") refl)))
