-- What reading the parts of a statement is to the machine of the grammar.
use Rattle.std.proofs.Common.{◌≡◌, ℕ, ◌+◌, ◌<◌, ◌≤◌, Bool, false, List, [], ◌∷◌, ◌++◌, length}
use Rattle.std.proofs.Common.{get_or, refl, sym, ap, ◌∙◌, subst, arith}
use Rattle.std.proofs.lemmas.List.{map_push, length-map}
use Rattle.sv_token.specs.declared.keywords.WordKind.{WordKind}
use Rattle.sv_token.specs.declared.keywords.WordKind.TheVariants as words
use Rattle.sv_token.specs.declared.signs.SignKind.TheVariants as signs
use Rattle.sv_token.specs.declared.signs.SignKind.{SignKind}
use Rattle.sv_token.specs.declared.tokens.Token.{Token}
use Rattle.sv_token.specs.declared.tokens.TokenKind.{TokenKind}
use Rattle.sv_token.specs.declared.tokens.TokenKind.TheVariants as token_kind
use Rattle.sv_token.specs.Lexemes.{word, sign, lexeme_of, Placed, placed_of, placed_tokens}
use Rattle.sv_ast.specs.declared.statements.Arm.{Arm}
use Rattle.sv_ast.specs.declared.statements.Stmt.{Stmt}
use Rattle.sv_ast.specs.Views.{statement_tree, statement_trees, arm_tree, arm_trees}
use Rattle.sv_ast.specs.GrammarForms.{a_word}
use Rattle.sv_parse_expr.specs.declared.stop.GrammarBreach.TheVariants.{TooDeep}
use Rattle.sv_parse_expr.specs.declared.stop.Stop.{Stop}
use Rattle.sv_parse_expr.specs.declared.stop.Stop.TheVariants as stops
use Rattle.sv_parse_expr.specs.Expectations.{HaltsAs}
use Rattle.sv_parse_machine.specs.Symbols.{Outer, punctuation, expression, statement, statements}
use Rattle.sv_parse_machine.specs.Symbols.{perhaps_block_name, perhaps_else, arms, outer, State, takes}
use Rattle.sv_parse_machine.specs.StatementTable.{condition}
use Rattle.sv_parse_machine.specs.Machine.{outer_on, outside_on}
use Rattle.sv_parse_machine.specs.Reads.{Reads, NextIsSign}
use Rattle.sv_parse_machine.proofs.ReadSteps.{reads_then}
use Rattle.sv_parse_machine.proofs.ReadRows.{level_taken, level_too_deep}
use Rattle.sv_parse_expr.proofs.Halting.{stops_here}
use Rattle.sv_parse_expr.proofs.ReadingRuns.{then_read}
use Rattle.sv_parse_stmt.proofs.ReadingStatements.{AreOpenStatements, AreOpenArms}

-- ---- levels

-- the symbols behind the word of a statement that opens a level, this many then being open
abbrev pub Opens : WordKind → (ℕ → List Outer) → Type 0
Opens w behind = (n : ℕ) → outer_on (statement n) (word w) ≡ takes (n + 1) 0 (behind (n + 1))

pub level_opens :
    (w : WordKind) (behind : ℕ → List Outer) (n m : ℕ) (ts rest : List Placed) → Opens w behind →
    m ≡ n + 1 → m ≤ 64 → a_word w ts rest →
    Reads (outer (statement n) ∷ []) (outside_on (behind m)) ts rest
level_opens w behind n m ts rest row opens deep is =
    level_taken (statement n) w m (behind m) ts rest deep (row n
    ∙ ap (λ (k : ℕ). takes k 0 (behind k)) (sym opens)) is

pub level_stops :
    (bytes : List ℕ) (tokens : List Token) (w : WordKind) (behind : ℕ →
    List Outer) (n : ℕ) (rest : List Placed) (stop : Stop) → Opens w behind → 64 < n + 1 →
    a_word w (placed_tokens bytes tokens) rest → stop ≡ stops.Broken TooDeep (length tokens) →
    HaltsAs (outer (statement n) ∷ []) (placed_tokens bytes tokens) stop
level_stops bytes tokens w behind n rest stop row deep is at =
    stops_here bytes tokens (outer (statement n) ∷ []) TooDeep stop
    (level_too_deep (statement n) w (n + 1) (behind (n + 1)) (placed_tokens bytes tokens) rest
    deep (row n) is) at

abbrev pub block_behind : ℕ → List Outer
block_behind n = perhaps_block_name ∷ statements n ∷ []

abbrev pub if_behind : ℕ → List Outer
if_behind n = condition n (statement n ∷ perhaps_else n ∷ [])

abbrev pub case_behind : ℕ → List Outer
case_behind n = condition n (arms n 0 false ∷ [])

-- ---- what stands behind the word

abbrev pub in_brackets : ℕ → State
in_brackets n =
    outer (punctuation signs.OpenParenthesis) ∷ outer (expression n) ∷
    outer (punctuation signs.CloseParenthesis) ∷ []

pub if_condition :
    (n m : ℕ) (ts a b : List Placed) → m ≡ n + 1 → m ≤ 64 → a_word words.If ts a →
    Reads (in_brackets m) [] a b →
    Reads (outer (statement n) ∷ []) (outer (statement m) ∷ outer (perhaps_else m) ∷ []) ts b
if_condition n m ts a b opens deep is condition =
    then_read (outer (statement n) ∷ []) (in_brackets m)
    (outer (statement m) ∷ outer (perhaps_else m) ∷ []) ts a b
    (level_opens words.If if_behind n m ts a (λ k. refl) opens deep is) condition

pub if_first :
    (n m : ℕ) (ts a b d : List Placed) → m ≡ n + 1 → m ≤ 64 → a_word words.If ts a →
    Reads (in_brackets m) [] a b → Reads (outer (statement m) ∷ []) [] b d →
    Reads (outer (statement n) ∷ []) (outer (perhaps_else m) ∷ []) ts d
if_first n m ts a b d opens deep is condition first =
    then_read (outer (statement n) ∷ []) (outer (statement m) ∷ []) (outer (perhaps_else m) ∷ []) ts
    b d (if_condition n m ts a b opens deep is condition) first

pub case_selector :
    (n m : ℕ) (ts a b : List Placed) → m ≡ n + 1 → m ≤ 64 → a_word words.Case ts a →
    Reads (in_brackets m) [] a b →
    Reads (outer (statement n) ∷ []) (outer (arms m 0 false) ∷ []) ts b
case_selector n m ts a b opens deep is selector =
    then_read (outer (statement n) ∷ []) (in_brackets m) (outer (arms m 0 false) ∷ []) ts a b
    (level_opens words.Case case_behind n m ts a (λ k. refl) opens deep is) selector

-- ---- behind a push

pub pushed_statements :
    (n : ℕ) (all items : List Stmt) (s : Stmt) (ts here : List Placed) → all ≡ items ++ s ∷ [] →
    AreOpenStatements n (statement_trees items ++ statement_tree s ∷ []) ts here →
    AreOpenStatements n (statement_trees all) ts here
pushed_statements n all items s ts here is are =
    subst (λ ss. AreOpenStatements n ss ts here)
    (sym (ap statement_trees is ∙ map_push statement_tree items s)) are

pub pushed_arms :
    (n : ℕ) (all items : List Arm) (a : Arm) (default : Bool) (ts here : List Placed) →
    all ≡ items ++ a ∷ [] →
    AreOpenArms n (arm_trees items ++ arm_tree a ∷ []) default ts here →
    AreOpenArms n (arm_trees all) default ts here
pushed_arms n all items a default ts here is are =
    subst (λ xs. AreOpenArms n xs default ts here)
    (sym (ap arm_trees is ∙ map_push arm_tree items a)) are

-- ---- the arms so far

pub some_trees : (items : List Arm) (k : ℕ) → k ≡ length items → 0 < k →
    0 < length (arm_trees items)
some_trees [] k is some = absurd (omega arith)
some_trees (a ∷ items) k is some = omega arith

pub few_trees : (items : List Arm) (k : ℕ) → k ≡ length items → k + 1 ≤ 256 →
    length (arm_trees items) + 1 ≤ 256
few_trees items k is few = rw (length-map items arm_tree) (omega arith)

pub one_more_arm :
    (n before k l : ℕ) (default now other : Bool) (ts a b : List Placed) → before ≡ k → l ≡ k + 1 →
    now ≡ other →
    Reads (outer (arms n 0 false) ∷ []) (outer (arms n k default) ∷ []) ts a →
    Reads (outer (arms n before default) ∷ []) (outer (arms n (before + 1) other) ∷ []) a b →
    Reads (outer (arms n 0 false) ∷ []) (outer (arms n l now) ∷ []) ts b
one_more_arm n before k l default now other ts a b same more is first second =
    subst (λ (d : Bool). Reads (outer (arms n 0 false) ∷ []) (outer (arms n l d) ∷ []) ts b)
    (sym is)
    (subst (λ (m : ℕ). Reads (outer (arms n 0 false) ∷ []) (outer (arms n m other) ∷ []) ts b)
    (sym more)
    (reads_then (outer (arms n 0 false) ∷ []) (outer (arms n k default) ∷ [])
    (outer (arms n (k + 1) other) ∷ []) ts a b first
    (subst (λ (m : ℕ). Reads (outer (arms n m default) ∷ []) (outer (arms n (m + 1) other) ∷ []) a
    b) same second)))

-- ---- the first token

pub next_sign :
    (bytes : List ℕ) (tokens : List Token) (first : Token) (k : SignKind) → 1 ≤ length tokens →
    first ≡ get_or tokens 0 first → first.kind ≡ token_kind.Sign k →
    NextIsSign k (placed_tokens bytes tokens)
next_sign bytes [] first k some is kind = absurd (omega arith)
next_sign bytes (t ∷ ts) first k some is kind =
    subst (λ (u : Token).
    (placed_of bytes u).lexeme ≡
    sign k) is (ap (λ (x : TokenKind). lexeme_of bytes x first.start first.«end») kind)
