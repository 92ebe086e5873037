-- What reading the parts of an `assign` item is to the machine of the grammar.
use Rattle.std.proofs.Common.{List, [], ◌∷◌, ◌++◌, refl}
use Rattle.sv_token.specs.declared.keywords.WordKind.TheVariants as words
use Rattle.sv_token.specs.declared.signs.SignKind.TheVariants as signs
use Rattle.sv_token.specs.Lexemes.{Placed}
use Rattle.sv_ast.specs.GrammarForms.{a_sign, a_word}
use Rattle.sv_parse_machine.specs.Symbols.{punctuation, plain_name, expression, more_names, items}
use Rattle.sv_parse_machine.specs.Symbols.{assigned, value_or_release, later_assigned, more_assigned}
use Rattle.sv_parse_machine.specs.Symbols.{outer, State}
use Rattle.sv_parse_machine.specs.Reads.{Reads, NextIsNotSign, NextIsNotWord}
use Rattle.sv_parse_machine.proofs.ReadSteps.{reads_then, reads_before}
use Rattle.sv_parse_machine.proofs.ReadRows.{sign_taken, word_taken}
use Rattle.sv_parse_machine.proofs.ReadLists.{ends_joined, ends_more_assigned}
use Rattle.sv_parse_expr.proofs.ReadingRuns.{then_read}
use Rattle.sv_parse_stmt.specs.ReadingAssignments.{behind_targets, behind_release}
use Rattle.sv_parse_stmt.proofs.SymbolsAlike.{then_on, first_is_named, first_is_joined, value_first}

-- ---- targets in braces

abbrev pub joined_names : State
joined_names = outer plain_name ∷ outer (more_names signs.CloseBrace) ∷ []

pub joined_begun : (ts a : List Placed) → a_sign signs.OpenBrace ts a →
    Reads (outer later_assigned ∷ []) (joined_names ++ behind_targets) ts a
joined_begun ts a opens =
    sign_taken later_assigned signs.OpenBrace
    (plain_name ∷ more_names signs.CloseBrace ∷ punctuation signs.Equals ∷ expression 0 ∷ []) ts
    a refl opens

pub joined_closing :
    (ts a b : List Placed) → a_sign signs.OpenBrace ts a →
    Reads joined_names (outer (more_names signs.CloseBrace) ∷ []) a b →
    NextIsNotSign signs.Comma b →
    Reads (outer later_assigned ∷ []) (outer (punctuation signs.CloseBrace) ∷ behind_targets) ts b
joined_closing ts a b opens names over =
    then_on (outer later_assigned ∷ []) joined_names (outer (punctuation signs.CloseBrace) ∷ [])
    behind_targets ts a b (joined_begun ts a opens)
    (reads_then joined_names (outer (more_names signs.CloseBrace) ∷ [])
    (outer (punctuation signs.CloseBrace) ∷ []) a b b names (ends_joined b over))

-- ---- a release

abbrev pub behind_value : State
behind_value = outer plain_name ∷ outer (punctuation signs.CloseParenthesis) ∷ []

pub release_opened : (ts a : List Placed) →
    Reads (outer (punctuation signs.OpenParenthesis) ∷ []) [] ts a →
    Reads behind_release (outer (expression 0) ∷ outer (punctuation signs.Comma) ∷ behind_value)
    ts a
release_opened ts a opens =
    reads_before (outer (punctuation signs.OpenParenthesis) ∷ []) []
    (outer (expression 0) ∷ outer (punctuation signs.Comma) ∷ behind_value) ts a opens

pub release_value :
    (ts a b : List Placed) → Reads (outer (punctuation signs.OpenParenthesis) ∷ []) [] ts a →
    Reads (outer (expression 0) ∷ outer (punctuation signs.Comma) ∷ []) [] a b →
    Reads behind_release behind_value ts b
release_value ts a b opens value =
    then_read behind_release (outer (expression 0) ∷ outer (punctuation signs.Comma) ∷ [])
    behind_value ts a b (release_opened ts a opens) value

-- ---- behind `assign`, where the first target is a name

pub first_target :
    (ts a : List Placed) → NextIsNotSign signs.OpenBrace ts →
    Reads (outer plain_name ∷ []) [] ts a →
    Reads (outer assigned ∷ [])
    (outer (punctuation signs.Equals) ∷ outer value_or_release ∷ []) ts a
first_target ts a none name =
    then_read (outer assigned ∷ []) (outer plain_name ∷ [])
    (outer (punctuation signs.Equals) ∷ outer value_or_release ∷ []) ts ts a
    (first_is_named ts none) name

pub first_equals :
    (ts a b : List Placed) → NextIsNotSign signs.OpenBrace ts →
    Reads (outer plain_name ∷ []) [] ts a →
    Reads (outer (punctuation signs.Equals) ∷ []) [] a b →
    Reads (outer assigned ∷ []) (outer value_or_release ∷ []) ts b
first_equals ts a b none name equals =
    then_read (outer assigned ∷ []) (outer (punctuation signs.Equals) ∷ [])
    (outer value_or_release ∷ []) ts a b (first_target ts a none name) equals

pub released_first :
    (ts a b d : List Placed) → NextIsNotSign signs.OpenBrace ts →
    Reads (outer plain_name ∷ []) [] ts a →
    Reads (outer (punctuation signs.Equals) ∷ []) [] a b →
    a_word words.Release b d →
    Reads (outer assigned ∷ [])
    (behind_release ++ (outer (punctuation signs.Semicolon) ∷ [])) ts d
released_first ts a b d none name equals word =
    reads_then (outer assigned ∷ []) (outer value_or_release ∷ [])
    (behind_release ++ (outer (punctuation signs.Semicolon) ∷ [])) ts b d
    (first_equals ts a b none name equals)
    (word_taken value_or_release words.Release
    (punctuation signs.OpenParenthesis
    ∷ expression 0
    ∷ punctuation signs.Comma
    ∷ plain_name
    ∷ punctuation signs.CloseParenthesis
    ∷ punctuation signs.Semicolon
    ∷ [])
    b d refl word)

pub valued_first :
    (ts a b : List Placed) → NextIsNotSign signs.OpenBrace ts →
    Reads (outer plain_name ∷ []) [] ts a →
    Reads (outer (punctuation signs.Equals) ∷ []) [] a b →
    NextIsNotWord words.Release b →
    Reads (outer assigned ∷ []) (outer (expression 0) ∷ outer more_assigned ∷ []) ts b
valued_first ts a b none name equals other =
    reads_then (outer assigned ∷ []) (outer value_or_release ∷ [])
    (outer (expression 0) ∷ outer more_assigned ∷ []) ts b b
    (first_equals ts a b none name equals) (value_first b other)

-- further assignments, behind which the `;` has to come
pub assigned_closing :
    (ts a b : List Placed) → Reads (outer assigned ∷ []) (outer more_assigned ∷ []) ts a →
    Reads (outer more_assigned ∷ []) (outer more_assigned ∷ []) a b →
    NextIsNotSign signs.Comma b →
    Reads (outer assigned ∷ []) (outer (punctuation signs.Semicolon) ∷ []) ts b
assigned_closing ts a b first more over =
    reads_then (outer assigned ∷ []) (outer more_assigned ∷ [])
    (outer (punctuation signs.Semicolon) ∷ []) ts a b first
    (reads_then (outer more_assigned ∷ []) (outer more_assigned ∷ [])
    (outer (punctuation signs.Semicolon) ∷ []) a b b more (ends_more_assigned b over))

-- ---- the whole item

pub assign_taken : (ts a : List Placed) → a_word words.Assign ts a →
    Reads (outer items ∷ []) (outer assigned ∷ outer items ∷ []) ts a
assign_taken ts a word = word_taken items words.Assign (assigned ∷ items ∷ []) ts a refl word

pub assign_joined :
    (ts a b : List Placed) → a_word words.Assign ts a → a_sign signs.OpenBrace a b →
    Reads (outer items ∷ []) (outer later_assigned ∷ outer more_assigned ∷ outer items ∷ []) ts a
assign_joined ts a b word opens =
    then_on (outer items ∷ []) (outer assigned ∷ [])
    (outer later_assigned ∷ outer more_assigned ∷ []) (outer items ∷ []) ts a a
    (assign_taken ts a word) (first_is_joined a b opens)

pub joined_assignments :
    (ts a b d : List Placed) → a_word words.Assign ts a → a_sign signs.OpenBrace a b →
    Reads (outer later_assigned ∷ outer more_assigned ∷ []) (outer more_assigned ∷ []) a d →
    NextIsNotSign signs.Comma d →
    Reads (outer items ∷ []) (outer (punctuation signs.Semicolon) ∷ outer items ∷ []) ts d
joined_assignments ts a b d word opens are over =
    then_on (outer items ∷ []) (outer later_assigned ∷ outer more_assigned ∷ [])
    (outer (punctuation signs.Semicolon) ∷ []) (outer items ∷ []) ts a d
    (assign_joined ts a b word opens)
    (reads_then (outer later_assigned ∷ outer more_assigned ∷ []) (outer more_assigned ∷ [])
    (outer (punctuation signs.Semicolon) ∷ []) a d d are (ends_more_assigned d over))
