-- Lengths, signs and values of some expressions, with the answers of the standard.
use Rattle.std.proofs.Common.{◌≡◌, ℕ, true, false, Bool, List, Some, refl, cond}
use Rattle.std.specs.Prelude.{codes}
use Rattle.std.specs.Str.{bytes_eq}
use Rattle.sv_num.specs.declared.faults.Place.{Place}
use Rattle.sv_num.specs.declared.operators.UnOp.TheVariants as unop
use Rattle.sv_num.specs.declared.operators.BinOp.TheVariants as binop
use Rattle.sv_system.specs.System.{Environment}
use Rattle.sv_ast.specs.Scopes.{Scope, signal}
use Rattle.sv_ast.specs.Tree.{ExpressionTree, literal, named, bit_of, unary, binary, join}
use Rattle.sv_ast.specs.Tree.{no_expressions, more_expressions}
use Rattle.sv_ast.specs.Values.{value, own_value, signed_of, assigned_value}

abbrev somewhere : Place
somewhere = record { line = 1; column = 1 }

-- the plain decimal n
abbrev decimal_of : ℕ → ExpressionTree
decimal_of n = literal (record { width = 32; signed = true; value = n; sized = false }) somewhere

-- a number of so many bits
abbrev sized_of : ℕ → Bool → ℕ → ExpressionTree
sized_of width signed n =
    literal (record { width = width; signed = signed; value = n; sized = true }) somewhere

-- a, b and v have 8, 8 and 4 bits
abbrev bytes_scope : Scope
bytes_scope n = cond (bytes_eq n (codes "v")) (Some (signal 4 false)) (Some (signal 8 false))

abbrev a : ExpressionTree
a = named (codes "a") somewhere

abbrev b : ExpressionTree
b = named (codes "b") somewhere

-- a is ff, all else 1
abbrev values : Environment (List ℕ)
values n = cond (bytes_eq n (codes "a")) 255 1

-- 9 bits of a + b keep the carry
pub carry_is_kept : assigned_value bytes_scope values 9 (binary binop.Add somewhere a b) ≡ 256
unfolding value signed_of
carry_is_kept = refl

-- (a + b) >> 1 at 8 bits has lost it
pub carry_is_lost : assigned_value bytes_scope values 8
    (binary binop.Shr somewhere (binary binop.Add somewhere a b) (decimal_of 1)) ≡ 0
unfolding value signed_of
carry_is_lost = refl

-- 8'sh80 >>> 1 at 16 bits is ffc0, and {8'sh80} >>> 1 at 8 bits is 40
pub sign_fills : assigned_value bytes_scope values 16
    (binary binop.SignShr somewhere (sized_of 8 true 0x80) (decimal_of 1)) ≡ 0xffc0
unfolding value signed_of
sign_fills = refl

pub join_has_no_sign : assigned_value bytes_scope values 8
    (binary binop.SignShr somewhere
    (join somewhere (more_expressions (sized_of 8 true 0x80) no_expressions))
    (decimal_of 1)) ≡ 0x40
unfolding value signed_of
join_has_no_sign = refl

-- ~4'h0 == 8'hff is 1
pub operands_grow_before_the_operator : assigned_value bytes_scope values 1
    (binary binop.Eq somewhere (unary unop.Invert somewhere (sized_of 4 false 0))
    (sized_of 8 false 0xff)) ≡ 1
unfolding value signed_of
operands_grow_before_the_operator = refl

-- -7 / 2 and -7 % 2 have 32 bits and are fffffffd and ffffffff
pub quotient : own_value bytes_scope values
    (binary binop.Div somewhere (unary unop.Minus somewhere (decimal_of 7)) (decimal_of 2)) ≡
    0xfffffffd
unfolding value signed_of
quotient = refl

pub remainder : own_value bytes_scope values
    (binary binop.Rem somewhere (unary unop.Minus somewhere (decimal_of 7)) (decimal_of 2)) ≡
    0xffffffff
unfolding value signed_of
remainder = refl

-- v[i] of 4 bits at i = 5 is 0
pub no_bit_outside : own_value bytes_scope (λ n.
    15) (bit_of (codes "v") somewhere (decimal_of 5)) ≡ 0
unfolding value signed_of
no_bit_outside = refl

-- -1 < 0 is signed, 8'd255 < -1 is not
pub signed_comparison :
    own_value bytes_scope values
    (binary binop.Lt somewhere (unary unop.Minus somewhere (decimal_of 1)) (decimal_of 0)) ≡ 1
unfolding value signed_of
signed_comparison = refl

pub unsigned_comparison :
    own_value bytes_scope values
    (binary binop.Lt somewhere (sized_of 8 false 255) (unary unop.Minus somewhere (decimal_of 1))) ≡
    1
unfolding value signed_of
unsigned_comparison = refl
