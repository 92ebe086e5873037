-- Parts that are written one after the other.
use Rattle.std.proofs.Common.{◌≡◌, ℕ, ◌+◌, List, ◌++◌, ap, ◌∙◌, append_assoc, add-one}
use Rattle.sv_gen.specs.Sample.{lines_below}

-- two parts
pub two_parts : (t0 t1 t2 a b : List ℕ) → t1 ≡ t0 ++ a → t2 ≡ t1 ++ b → t2 ≡ t0 ++ (a ++ b)
two_parts t0 t1 t2 a b one two = two ∙ ap (λ t. t ++ b) one ∙ append_assoc t0 a b

-- what was written was these parts
pub two_written : (t0 t1 t2 p q a b : List ℕ) → t1 ≡ t0 ++ p → t2 ≡ t1 ++ q → p ≡ a → q ≡ b
    → t2 ≡ t0 ++ (a ++ b)
two_written t0 t1 t2 p q a b one two first second =
    two_parts t0 t1 t2 a b (one ∙ ap (λ t. t0 ++ t) first) (two ∙ ap (λ t. t1 ++ t) second)

-- the two parts of a line of ports, and of a line of an instance, with the number i
pub port_parts : (i a b c d e f : List ℕ) → (a ++ i ++ b ++ i) ++ (c ++ i ++ d ++ i ++ e ++ i ++ f)
    ≡ a ++ i ++ b ++ i ++ c ++ i ++ d ++ i ++ e ++ i ++ f
port_parts i a b c d e f = simp append_assoc

pub lane_parts : (i a b c bin d e f g h k : List ℕ)
    → (a ++ i ++ b ++ i ++ c) ++ (bin ++ (d ++ i ++ e ++ i ++ f ++ i ++ g ++ i ++ h ++ i ++ k))
    ≡ a ++ i ++ b ++ i ++ c ++ bin ++ d ++ i ++ e ++ i ++ f ++ i ++ g ++ i ++ h ++ i ++ k
lane_parts i a b c bin d e f g h k = simp append_assoc

-- the line of one lane more
pub line_more : (line : ℕ → List ℕ) (t0 t1 t2 : List ℕ) (i : ℕ)
    → t1 ≡ t0 ++ lines_below line i → t2 ≡ t1 ++ line i → t2 ≡ t0 ++ lines_below line (i + 1)
line_more line t0 t1 t2 i one two =
    rw add-one (two_parts t0 t1 t2 (lines_below line i) (line i) one two)
