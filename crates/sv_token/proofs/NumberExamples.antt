-- Numbers: what the plain program finds.
use Rattle.std.proofs.Common.{◌≡◌, true, false, [], ◌∷◌, map, Some, refl}
use Rattle.std.specs.Prelude.{codes}
use Rattle.sv_token.specs.declared.signs.SignKind.TheVariants.{Dot}
use Rattle.sv_token.specs.Lexed.{lexed, tokens}
use Rattle.sv_token.proofs.Computed.{computed, the_name, the_sign, the_operator, sized, unsized}
use Rattle.sv_token.proofs.Computed.{refused_at, left_out_at, EachGives}

-- a plain decimal has 32 bits and is signed
pub plain_decimals :
    lexed (codes "12 1_000 007 4294967295") ≡
    tokens
    (unsized true 12 1 1 ∷ unsized true 1000 1 4 ∷ unsized true 7 1 10 ∷
    unsized true 4294967295 1 14
    ∷ [])
unfolding computed
plain_decimals = refl

-- the sign before a number is an operator
pub minus_one : lexed (codes "-1") ≡
    tokens (the_operator (Some 4) (Some 1) 1 1 ∷ unsized true 1 1 2 ∷ [])
unfolding computed
minus_one = refl

-- 2^32 is too large, and no letter and no `$` stands directly behind
pub wrong_decimals : EachGives (refused_at 102 1 1)
    (codes "4294967296" ∷ codes "12a" ∷ codes "12$" ∷ codes "1e5" ∷ codes "0x1F" ∷ [])
unfolding computed
wrong_decimals = refl

-- high bits over the length are lost, and missing ones are zeros
pub cut_and_extended : lexed (codes "8'h1FF 8'hf") ≡
    tokens (sized 8 false 255 1 1 ∷ sized 8 false 15 1 8 ∷ [])
unfolding computed
cut_and_extended = refl

-- each base in either case
pub bases :
    lexed (codes "4'b1010 4'B1 6'o17 6'O7 8'd200 8'D9 12'hAbC 12'H1") ≡
    tokens
    (sized 4 false 10 1 1 ∷ sized 4 false 1 1 9 ∷ sized 6 false 15 1 14 ∷ sized 6 false 7 1 20
    ∷ sized 8 false 200 1 25 ∷ sized 8 false 9 1 32 ∷ sized 12 false 2748 1 37
    ∷ sized 12 false 1 1 45 ∷ [])
unfolding computed
bases = refl

-- only `s` and `S` make a number signed
pub signed_literals :
    lexed (codes "4'sb1111 4'Sd9 'so7 4'd9") ≡
    tokens
    (sized 4 true 15 1 1 ∷ sized 4 true 9 1 10 ∷ unsized true 7 1 16 ∷ sized 4 false 9 1 21 ∷ [])
unfolding computed
signed_literals = refl

-- a literal without a size has 32 bits
pub unsized_literals : lexed (codes "'hFFFF_FFFF 'd5") ≡
    tokens (unsized false 4294967295 1 1 ∷ unsized false 5 1 13 ∷ [])
unfolding computed
unsized_literals = refl

-- `_` parts digits and counts for none
pub underscores : lexed (codes "8'b1__0_ 4_2'd7_") ≡
    tokens (sized 8 false 2 1 1 ∷ sized 42 false 7 1 10 ∷ [])
unfolding computed
underscores = refl

-- whose value is not cut
pub too_large_without_a_size : EachGives (refused_at 102 1 1)
    (codes "'h100000000" ∷ codes "'d4294967296" ∷ [])
unfolding computed
too_large_without_a_size = refl

-- a size is spelled as a plain decimal
pub sizes : lexed (codes "064'h1 6_4'h1 1'b1") ≡
    tokens (sized 64 false 1 1 1 ∷ sized 64 false 1 1 8 ∷ sized 1 false 1 1 15 ∷ [])
unfolding computed
sizes = refl

-- it is 1 to 64
pub wrong_sizes : EachGives (refused_at 102 1 1)
    (codes "65'h0" ∷ codes "0'h0" ∷ codes "4294967304'h0" ∷ [])
unfolding computed
wrong_sizes = refl

-- values below 2^128 are cut
pub widest_value : lexed (codes "64'hFFFFFFFFFFFFFFFFFFFFFFFFFFFFFFFF") ≡
    tokens (sized 64 false 18446744073709551615 1 1 ∷ [])
unfolding computed
widest_value = refl

-- and 2^128 is too large, in each base
pub too_wide_values : EachGives (refused_at 102 1 1)
    (codes "64'h100000000000000000000000000000000"
    ∷ codes "8'd340282366920938463463374607431768211456"
    ∷ codes "8'o4000000000000000000000000000000000000000000" ∷ [])
unfolding computed
too_wide_values = refl

-- digits of another base, none at all, and `_` as the first
pub wrong_digits : EachGives (refused_at 102 1 1)
    (codes "8'b2" ∷ codes "8'o8" ∷ codes "8'dA" ∷ codes "8'hG" ∷ codes "1'b1e" ∷ codes "8'h"
    ∷ codes "8'h F" ∷ codes "'d" ∷ codes "8'h_1" ∷ [])
unfolding computed
wrong_digits = refl

-- digits of four values are left out, among wrong digits too
pub four_values : EachGives (left_out_at (codes "four-state") 1 1)
    (codes "4'bx" ∷ codes "8'hZ1" ∷ codes "4'b1?" ∷ codes "8'd?" ∷ codes "'bz" ∷ codes "8'hXg"
    ∷ codes "8'bx2" ∷ [])
unfolding computed
four_values = refl

-- a wrong size and a leading `_` come before them
pub wrong_before_four_values : EachGives (refused_at 102 1 1) (codes "65'bx" ∷ codes "8'h_x" ∷ [])
unfolding computed
wrong_before_four_values = refl

-- `'` without a base directly behind it begins no token
pub lone_quotes : EachGives (refused_at 101 1 2)
    (codes "8'" ∷ codes "8'q1" ∷ codes "8' hF" ∷ codes "8's1" ∷ codes "a'" ∷ [])
unfolding computed
lone_quotes = refl

-- reals are left out, whatever their digits
pub reals : EachGives (left_out_at (codes "real") 1 1)
    (codes "1.5" ∷ codes "1_0.5" ∷ codes "4294967296.5" ∷ codes "1.5a" ∷ codes "8.5'h1" ∷ [])
unfolding computed
reals = refl

-- without a digit directly on both sides `.` is a sign
pub no_reals :
    lexed (codes "1. 5.a") ≡
    tokens
    (unsized true 1 1 1 ∷ the_sign Dot 1 2 ∷ unsized true 5 1 4 ∷ the_sign Dot 1 5
    ∷ the_name (codes "a") 1 6 ∷ [])
unfolding computed
no_reals = refl

-- `$` goes on with no literal
pub dollar_behind_literal : map lexed (codes "1'b1$" ∷ codes "1'b1$a" ∷ []) ≡
    refused_at 101 1 5 ∷ left_out_at (codes "system-name") 1 5 ∷ []
unfolding computed
dollar_behind_literal = refl
