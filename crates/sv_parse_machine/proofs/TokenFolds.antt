-- Folds over the tokens that a loop has passed.
use Rattle.std.proofs.Common.{◌≡◌, ℕ, zero, suc, ◌+◌, ◌<◌, Bool, false, ◌&&◌, List, [], ◌∷◌, length}
use Rattle.std.proofs.Common.{take, get_or, refl, sym, ap, ◌∙◌, arith}
use Rattle.std.specs.List.{fold}
use Rattle.std.proofs.lemmas.List.{map_more}
use Rattle.std.proofs.lemmas.List.Sums.{fold-append}
use Rattle.sv_token.specs.declared.tokens.Token.{Token}
use Rattle.sv_token.specs.Lexemes.{Placed, placed_of, placed_tokens}
use Rattle.sv_ast.specs.GrammarRules.{is_name}
use Rattle.sv_parse_machine.specs.Verdict.{is_posedge, stop_at_clock}

-- one more token
pub fold_placed : {B : Type 0} (f : B → Placed
    → B) (a : B) (bytes : List ℕ) (tokens : List Token) (i : ℕ) (d : Token) → i < length tokens
    → fold f a (placed_tokens bytes (take (i + 1) tokens)) ≡
    f (fold f a (placed_tokens bytes (take i tokens))) (placed_of bytes (get_or tokens i d))
fold_placed f a bytes tokens i d within =
    ap (fold f a) (map_more (placed_of bytes) tokens i d within)
    ∙ fold-append f a (placed_tokens bytes (take i tokens))
    (placed_of bytes (get_or tokens i d) ∷ [])

-- the last token
pub name_last : (bytes : List ℕ) (b : Bool) (tokens : List Token) (i : ℕ) (d last : Token)
    → suc i ≡ length tokens → last ≡ get_or tokens i d
    → fold (λ _ t. is_name t.lexeme) b (placed_tokens bytes tokens) ≡
    is_name (placed_of bytes last).lexeme
name_last bytes b [] i d last many is = absurd (omega (arith, many))
name_last bytes b (t ∷ []) zero d last many is =
    ap (λ u. is_name (placed_of bytes u).lexeme) (sym is)
name_last bytes b (t ∷ []) (suc i) d last many is = absurd (omega (arith, many))
name_last bytes b (t ∷ u ∷ ts) zero d last many is = absurd (omega (arith, many))
name_last bytes b (t ∷ u ∷ ts) (suc i) d last many is =
    name_last bytes (is_name (placed_of bytes t).lexeme) (u ∷ ts) i d last (omega (arith, many)) is

-- the last two
pub clock_last : (bytes : List ℕ) (tokens : List Token) (i : ℕ) (d edge e name : Token)
    → suc (suc i) ≡ length tokens
    → edge ≡ get_or tokens i d → name ≡ get_or tokens (suc i) e
    → stop_at_clock (placed_tokens bytes tokens) ≡
    (is_posedge (placed_of bytes edge).lexeme && is_name (placed_of bytes name).lexeme)
clock_last bytes [] i d edge e name many first second = absurd (omega (arith, many))
clock_last bytes (t ∷ []) i d edge e name many first second = absurd (omega (arith, many))
clock_last bytes (t ∷ u ∷ []) zero d edge e name many first second =
    ap (λ x. is_posedge (placed_of bytes x).lexeme && is_name (placed_of bytes u).lexeme)
    (sym first)
    ∙ ap (λ x. is_posedge (placed_of bytes edge).lexeme && is_name (placed_of bytes x).lexeme)
    (sym second)
clock_last bytes (t ∷ u ∷ []) (suc i) d edge e name many first second = absurd (omega (arith, many))
clock_last bytes (t ∷ u ∷ v ∷ ts) zero d edge e name many first second =
    absurd (omega (arith, many))
clock_last bytes (t ∷ u ∷ v ∷ ts) (suc i) d edge e name many first second =
    clock_last bytes (u ∷ v ∷ ts) i d edge e name (omega (arith, many)) first second

-- fewer than two
pub clock_few : (bytes : List ℕ) (tokens : List Token) → length tokens < 2 →
    stop_at_clock (placed_tokens bytes tokens) ≡ false
clock_few bytes [] few = refl
clock_few bytes (t ∷ []) few = refl
clock_few bytes (t ∷ u ∷ ts) few = absurd (omega (arith, few))
