use Rattle.std.proofs.Common.{◌≡◌, ℕ, suc, ◌-◌, ◌≤◌, ◌&&◌, Bool, true, false, List, length, get_or}
use Rattle.std.proofs.Common.{sym, ap, ◌∙◌, arith}
use Rattle.sv_token.specs.declared.tokens.Token.{Token}
use Rattle.sv_token.specs.Lexemes.{placed_tokens, placed_of}
use Rattle.sv_ast.specs.GrammarRules.{is_name}
use Rattle.sv_parse_machine.specs.Verdict.{is_posedge, stop_at_clock}
use Rattle.sv_parse_machine.proofs.TokenFolds.{clock_last, clock_few}
use Rattle.sv_parse_expr.proofs.forms.stop_at_clock.Goals as goal

clock_of : (bytes : List ℕ) (tokens : List Token) (edge name : Token) (is_edge : Bool)
    → 2 ≤ length tokens
    → edge ≡ get_or tokens (length tokens - 2) edge → name ≡ get_or tokens (length tokens - 1) name
    → is_edge ≡ is_posedge (placed_of bytes edge).lexeme
    → stop_at_clock (placed_tokens bytes tokens) ≡
    (is_edge && is_name (placed_of bytes name).lexeme)
clock_of bytes tokens edge name is_edge many first second edge_is =
    let count : suc (suc (length tokens - 2)) ≡ length tokens = omega (arith, many) in
    let place : length tokens - 1 ≡ suc (length tokens - 2) = omega (arith, many) in
    let there : name ≡ get_or tokens (suc (length tokens - 2)) name =
    second ∙ ap (λ i. get_or tokens i name) place in
    clock_last bytes tokens (length tokens - 2) edge edge name name count first there
    ∙ ap (λ b. b && is_name (placed_of bytes name).lexeme) (sym edge_is)

pub returns-in_default : goal.returns-in_default
returns-in_default c = λ bytes. sym (clock_few bytes c.args.tokens.now c.in_default.len_below)

pub returns-then-is_posedge : goal.returns-then-is_posedge
returns-then-is_posedge c = λ bytes.
    let edge = c.edge-item.result in
    let name = c.name-item.result in
    let is_edge = sym c.if-is_posedge.true ∙ c.is_posedge.ensures bytes edge.start edge.«end» in
    let all = clock_of bytes c.args.tokens.now edge name true c.in-len2-up.len_at_least
    c.edge-item.is c.name-item.is is_edge in
    c.is_name.ensures bytes name.start name.«end» ∙ sym all

pub returns-else-is_posedge : goal.returns-else-is_posedge
returns-else-is_posedge c = λ bytes.
    let edge = c.edge-item.result in
    let is_edge = sym c.if-is_posedge.false ∙ c.is_posedge.ensures bytes edge.start edge.«end» in
    let all = clock_of bytes c.args.tokens.now edge c.name-item.result false
    c.in-len2-up.len_at_least c.edge-item.is c.name-item.is is_edge in
    c.if-is_posedge.false ∙ sym all
