-- What a target's bits become: the same by the source's words and by the pieces of the flat form.
use Rattle.std.proofs.Common.{◌≡◌, ℕ, ◌+◌, ◌-◌, ◌*◌, ◌/◌, ◌%◌, ◌^◌, ◌<◌, ◌≤◌, sym, ap, ◌∙◌, arith}
use Rattle.std.proofs.lemmas.Nat.{pow_pos, mod_below, mod-pow-add, field_of, mod_low}
use Rattle.std.proofs.Math.Nat.{mod-eq_of_lt, div-eq_of_lt}
use Rattle.sv_num.specs.Parts.{span_of, replaced_bits}
use Rattle.sv_ast.specs.Runs.{with_bits}

-- the low bits of the low bits
pub low_of_low : (x j k : ℕ) → x % 2 ^ (j + k) % 2 ^ k ≡ x % 2 ^ k
low_of_low x j k =
    ap (λ y. y % 2 ^ k) (mod-pow-add x j k)
    ∙ mod_low (x / 2 ^ k % 2 ^ j) k (x % 2 ^ k) (mod_below x (2 ^ k) (pow_pos k))

-- values that have the same low bits have the same low bits still lower
pub same_lower : (x y j k : ℕ) → x % 2 ^ (j + k) ≡ y % 2 ^ (j + k) → x % 2 ^ k ≡ y % 2 ^ k
same_lower x y j k same = sym (low_of_low x j k) ∙ ap (λ z. z % 2 ^ k) same ∙ low_of_low y j k

-- and the same piece of them
pub same_piece : (x y j k : ℕ) → x % 2 ^ (j + k) ≡ y % 2 ^ (j + k) →
    x / 2 ^ k % 2 ^ j ≡ y / 2 ^ k % 2 ^ j
same_piece x y j k same = sym (field_of x j k) ∙ ap (λ z. z / 2 ^ k) same ∙ field_of y j k

-- all bits are replaced
pub whole_replaced : (width old piece : ℕ) → 1 ≤ width →
    replaced_bits width (width - 1) 0 old piece ≡ piece % 2 ^ width
whole_replaced width old piece some =
    let above : width - 1 + 1 ≡ width = omega arith in
    let low : old % 2 ^ width < 2 ^ width = mod_below old (2 ^ width) (pow_pos width) in
    let head : old % 2 ^ width / 2 ^ width ≡ 0 = div-eq_of_lt low in
    let tail : old % 2 ^ 0 < 1 = mod_below old (2 ^ 0) (pow_pos 0) in
    ap (λ k. old % 2 ^ width / 2 ^ k * 2 ^ k + (piece % 2 ^ (k - 0) * 2 ^ 0 + old % 2 ^ 0)) above
    ∙ ap (λ h. h * 2 ^ width + (piece % 2 ^ (width - 0) * 2 ^ 0 + old % 2 ^ 0)) head
    ∙ ap (λ k. 0 * 2 ^ width + (piece % 2 ^ k * 2 ^ 0 + old % 2 ^ 0))
    (let k : width - 0 ≡ width = omega arith in k)
    ∙ omega (arith, tail)

-- some bits are replaced
pub part_replaced : (width high low old piece : ℕ) → low ≤ high → old < 2 ^ width
    → replaced_bits width high low old piece ≡
    with_bits low (span_of high low) old (piece % 2 ^ span_of high low)
part_replaced width high low old piece ordered fits =
    let top : low + (high + 1 - low) ≡ high + 1 = omega arith in
    ap (λ x. x / 2 ^ (high + 1) * 2 ^ (high + 1)
    + (piece % 2 ^ (high + 1 - low) * 2 ^ low + old % 2 ^ low)) (mod-eq_of_lt fits)
    ∙ ap (λ k. old / 2 ^ k * 2 ^ k + (piece % 2 ^ (high + 1 - low) * 2 ^ low + old % 2 ^ low))
    (sym top)
    ∙ omega arith
