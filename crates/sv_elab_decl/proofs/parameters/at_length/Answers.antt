use Rattle.std.proofs.Common.{◌≡◌, ℕ, ◌+◌, ◌-◌, ◌/◌, ◌%◌, ◌^◌, ◌≤◌, ap, ◌∙◌, arith}
use Rattle.sv_width.proofs.Wholes.{cut_number}
use Rattle.sv_elab_decl.proofs.parameters.at_length.Goals as goal

pub returns-then-width : goal.returns-then-width
returns-then-width c =
    let v : ℕ = c.args.value.value in
    let w : ℕ = c.args.width in
    let less : w ≤ c.args.value.width = omega (arith, c.if-width.true, c.width.ensures.width) in
    let whole : v / 2 ^ 0 ≡ v = omega arith in
    let size : w - 1 - 0 + 1 ≡ w = omega (arith, c.requires.some) in
    c.value.ensures.value ∙ c.slice.ensures.value
    ∙ ap (λ (x : ℕ). x % 2 ^ (w - 1 - 0 + 1)) whole
    ∙ ap (λ (n : ℕ). v % 2 ^ n) size
    ∙ cut_number c.args.value.width w c.args.value.signed v less
