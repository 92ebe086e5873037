-- Where texts break the grammar, by examples; and that an `if` without `else` stands before no
-- `else`.
use Rattle.std.proofs.Common.{◌≡◌, ℕ, Bool, true, false, List, [], ◌∷◌, ◌++◌, Option, Some, None}
use Rattle.std.proofs.Common.{inl, inr, refl, sym, subst, ◌∙◌}
use Rattle.std.specs.Prelude.{codes, IsTrue, is_some, replicate, flat_map}
use Rattle.std.proofs.lemmas.Bool.{false≢true}
use Rattle.sv_num.specs.declared.faults.Place.{Place}
use Rattle.sv_token.specs.declared.keywords.WordKind.{WordKind}
use Rattle.sv_token.specs.declared.keywords.WordKind.TheVariants as words
use Rattle.sv_token.specs.Lexemes.{Lexeme, word, identifier, Placed}
use Rattle.sv_token.specs.Words.{is_refused_word}
use Rattle.sv_token.specs.Lexed.{Lexed, lexed, tokens, refused}
use Rattle.sv_ast.specs.Tree.{ExpressionTree, StatementTree, if_only, if_else, LatticeTree, MapTree}
use Rattle.sv_ast.specs.Tree.{ModuleTree, TextTree}
use Rattle.sv_ast.specs.GrammarForms.{◌⨾◌, perhaps, each, some, lexeme_at}
use Rattle.sv_ast.specs.GrammarExpressions.{Limits}
use Rattle.sv_ast.specs.GrammarStatements.{IsStatement, IsNext}
use Rattle.sv_ast.specs.GrammarModules.{IsModule, IsLattice, IsMap, IsText}
use Rattle.sv_ast.specs.GrammarRules.{no_limits, all_limits, BeginText, IsStuck, BreaksGrammar}
use Rattle.sv_ast.specs.GrammarRules.{header, body, outside, last_part, last_word, StopAtDeclared}
use Rattle.sv_ast.specs.GrammarRules.{StopAtTarget}
use Rattle.sv_ast.proofs.GrammarComputed.{read}
use Rattle.sv_ast.proofs.GrammarReadsModules.{read_begin}

-- ---- an `else` belongs to the nearest `if`

pub token_is_next : (w : WordKind) (p : Place) (ts rest : List Placed) →
    lexeme_at (word w) p ts rest → IsNext w ts
token_is_next w p ts rest same = subst (IsNext w) (sym same) refl

-- the outer of two `if` has no `else` that the inner one could take
pub else_is_not_for_the_outer_if :
    (l : Limits) (n : ℕ) (p q : Place) (a b : ExpressionTree) (s t : StatementTree)
    (ts rest : List Placed)
    → IsStatement l n (if_else p a (if_only q b s) t) ts rest → ⊥
else_is_not_for_the_outer_if l n p q a b s t ts rest is =
    let inner = is.1.2.2.1 in
    let not_else = inner.1.2.2.2 in
    let word_else = is.1.2.2.2.1 in
    not_else.0 (subst (IsNext words.Else) (sym not_else.1)
    (token_is_next words.Else word_else.0 _ _ word_else.1))

-- ---- texts begin with one of three words

abbrev pub begins_text : Lexeme → Bool
begins_text (word words.Lattice) = true
begins_text (word words.Labelmap) = true
begins_text (word words.Module) = true
begins_text x = false

abbrev pub BeginsText : List Placed → Type 0
BeginsText [] = ⊥
BeginsText (t ∷ ts) = IsTrue (begins_text t.lexeme)

first_of_modules : (l : Limits) (us : List ModuleTree) (ts rest : List Placed) →
    some (IsModule l) us ts rest → BeginsText ts
unfolding IsModule
first_of_modules l [] ts rest is = absurd is
first_of_modules l (u ∷ us) ts rest is = subst BeginsText (sym is.1.1.1.1) refl

first_of_maps : (l : Limits) (ms : List MapTree) (us : List ModuleTree) (ts rest : List Placed)
    → (each IsMap ms ⨾ some (IsModule l) us) ts rest → BeginsText ts
unfolding IsMap
first_of_maps l [] us ts rest is =
    subst BeginsText (sym is.1) (first_of_modules l us is.0 rest is.2)
first_of_maps l (m ∷ ms) us ts rest is = subst BeginsText (sym is.1.1.1.1) refl

first_of_text : (l : Limits) (o : Option LatticeTree) (ms : List MapTree) (us : List ModuleTree)
    (ts rest : List Placed)
    → (perhaps IsLattice o ⨾ each IsMap ms ⨾ some (IsModule l) us) ts rest → BeginsText ts
unfolding IsLattice
first_of_text l None ms us ts rest is =
    subst BeginsText (sym is.1) (first_of_maps l ms us is.0 rest is.2)
first_of_text l (Some o) ms us ts rest is = subst BeginsText (sym is.1.3.1) refl

pub texts_begin_with_a_word : (l : Limits) (t : TextTree) (ts : List Placed) → IsText l t ts →
    BeginsText ts
unfolding IsText
texts_begin_with_a_word l t ts is = first_of_text l t.lattice t.maps t.modules ts [] is

-- ---- refusals

abbrev tokens_of : Lexed → List Placed
tokens_of (tokens ts) = ts
tokens_of (refused number names place) = []

-- the tokens of a text
abbrev pub in_text : List ℕ → List Placed
in_text text = tokens_of (lexed text)

abbrev found : {A : Type 0} → (o : Option A) → is_some o ≡ true → A
found (Some a) some = a
found None some = absurd (false≢true some)

-- a text begins with no token at all
pub a_text_may_begin : BeginText no_limits []
unfolding read
a_text_may_begin = found (read_begin no_limits [] (in_text (codes "module m; endmodule"))) refl

pub a_text_may_begin_within_limits : BeginText all_limits []
unfolding read
a_text_may_begin_within_limits =
    found (read_begin all_limits [] (in_text (codes "module m; endmodule"))) refl

pub begins_with_a_word : (l : Limits) (t : Placed) (ts : List Placed) → BeginText l (t ∷ ts) →
    IsTrue (begins_text t.lexeme)
unfolding BeginText
begins_with_a_word l t ts is = texts_begin_with_a_word _ is.1 (t ∷ ts ++ is.0) is.2

-- a text without tokens ends too early
pub no_tokens : (stop : Place) → BreaksGrammar 201 [] stop stop []
unfolding BreaksGrammar
no_tokens stop =
    inr (
      refl,
      refl,
      refl,
      a_text_may_begin_within_limits,
      (
        a_text_may_begin,
        λ t is.
            texts_begin_with_a_word no_limits t [] is,
      ),
    )

abbrev the_token : Lexeme → Place → Placed
the_token x p = record { lexeme = x; place = p }

stuck_at_first : (t : Placed) → begins_text t.lexeme ≡ false → IsStuck [] t
stuck_at_first t no_word =
    (a_text_may_begin, λ is. false≢true (sym no_word ∙ begins_with_a_word no_limits t [] is))

-- no text begins with `wire`
pub wire_first : (p stop : Place) (after : List Placed) →
    BreaksGrammar 201 [] p stop (the_token (word words.Wire) p ∷ after)
unfolding BreaksGrammar
wire_first p stop after =
    inl (
      [],
      the_token (word words.Wire) p,
      after,
      refl,
      refl,
      a_text_may_begin_within_limits,
      inl (refl, refl, (stuck_at_first (the_token (word words.Wire) p) refl, λ name is. is)),
    )

-- a refused word is refused as such
pub initial_first : (p stop : Place) (after : List Placed)
    → BreaksGrammar 202 (codes "initial" ∷ []) p stop
    (the_token (identifier (codes "initial")) p ∷ after)
unfolding BreaksGrammar is_refused_word
initial_first p stop after =
    inl (
      [],
      the_token (identifier (codes "initial")) p,
      after,
      refl,
      refl,
      a_text_may_begin_within_limits,
      inr (inl (
        refl,
        (
          codes "initial",
          refl,
          (stuck_at_first (the_token (identifier (codes "initial")) p) refl, inl (refl, refl)),
        ),
      )),
    )

-- ---- how far texts may go

-- whether a text begins with the first bytes, as the others show
abbrev goes_on : Limits → (first others : List ℕ) → Bool
goes_on l first others = is_some (read_begin l (in_text first) (in_text others))

abbrev times : ℕ → List ℕ → List ℕ
times n text = flat_map (λ t. t) (replicate n text)

abbrev first_half : ℕ → List ℕ
first_half n = codes "module m; assign y = " ++ times n (codes "(")

abbrev second_half : ℕ → List ℕ
second_half n = codes "a" ++ times n (codes ")") ++ codes "; endmodule"

-- 64 levels keep within the limits, and a text goes on from 65
pub levels_of_a_text : goes_on all_limits (first_half 64) (second_half 64) ≡ true
unfolding read
levels_of_a_text = refl

pub levels_are_no_grammar : goes_on no_limits (first_half 65) (second_half 65) ≡ true
unfolding read
levels_are_no_grammar = refl

-- tokens that were not read yet count for no expression
abbrev few_tokens : Limits
few_tokens = record no_limits { tokens = Some 3 }

pub unread_tokens_do_not_count :
    goes_on few_tokens (codes "module m; assign y = a + b") (codes "+ c; endmodule") ≡ true
unfolding read
unread_tokens_do_not_count = refl

pub read_tokens_count :
    goes_on few_tokens (codes "module m; assign y = a + b +") (codes "c; endmodule") ≡ false
unfolding read
read_tokens_count = refl

-- ---- where tokens stop

pub a_statement_may_begin :
    goes_on no_limits (codes "module m; always @(*) begin") (codes "end endmodule") ≡ true
unfolding read
a_statement_may_begin = refl

-- an item may begin behind an `if` without `else`
pub an_item_may_begin :
    goes_on no_limits (codes "module m; always @* if (a) b = c; always")
    (codes "@* ; endmodule") ≡ true
unfolding read
an_item_may_begin = refl

pub in_the_header : last_part (in_text (codes "lattice endlattice module m (input a")) ≡ header
unfolding read
in_the_header = refl

pub in_the_body : last_part (in_text (codes "module m; wire a; assign")) ≡ body
unfolding read
in_the_body = refl

pub behind_a_module : last_part (in_text (codes "module m; wire a; endmodule")) ≡ outside
unfolding read
behind_a_module = refl

-- where a value would be one of a `reg`
pub at_a_register : StopAtDeclared words.Reg (in_text (codes "module m; reg signed [1:0] {M(#)} r"))
unfolding read
at_a_register = (refl, refl)

pub at_a_later_port : StopAtDeclared words.Reg (in_text (codes "module m(input a, output reg b, c"))
unfolding read
at_a_later_port = (refl, refl)

-- the label's name is no declared one
pub in_a_label : StopAtDeclared words.Reg (in_text (codes "module m; reg {M(r")) → ⊥
unfolding read
in_a_label is = false≢true is.1

-- `wire` is no word behind its `;`
pub behind_a_declaration : last_word (in_text (codes "module m; wire a; n u")) ≡ None
unfolding read
behind_a_declaration = refl

pub at_a_target : StopAtTarget (in_text (codes "module m; assign {a, b"))
unfolding read
at_a_target = (refl, refl)
