-- Parts of a text that are written one after the other, of a design as the code holds it.
use Rattle.std.proofs.Common.{◌≡◌, ℕ, List, [], ◌++◌, ap, ap₂, ◌∙◌, append_assoc}
use Rattle.sv_flat.specs.declared.signals.Signal.{Signal}
use Rattle.sv_flat.specs.ByNumber.{signal_forms}
use Rattle.sv_report.specs.FlowText.{value_lines, flow_line}

-- four parts
pub whole : (a b c d t0 t1 t2 t3 t4 : List ℕ) → t0 ≡ [] → t1 ≡ t0 ++ a → t2 ≡ t1 ++ b
    → t3 ≡ t2 ++ c → t4 ≡ t3 ++ d → t4 ≡ a ++ b ++ c ++ d
whole a b c d t0 t1 t2 t3 t4 none first second third fourth =
    fourth
    ∙ ap (λ t. t ++ d) (third
    ∙ ap (λ t. t ++ c) (second
    ∙ ap (λ t. t ++ b) (first
    ∙ ap (λ t. t ++ a) none)))

pub same_line : (number s read : ℕ) (signals others : List Signal) → signals ≡ others
    → flow_line (signal_forms signals) number s read ≡ flow_line (signal_forms others) number s read
same_line number s read signals others is =
    ap (λ (zs : List Signal). flow_line (signal_forms zs) number s read) is

pub same_lines : (word : List ℕ) (signals others : List Signal) (listed those values those_values : List ℕ)
    → signals ≡ others → listed ≡ those → values ≡ those_values
    → value_lines (signal_forms signals) word listed values
    ≡ value_lines (signal_forms others) word those those_values
same_lines word signals others listed those values those_values is are given =
    ap (λ (zs : List Signal). value_lines (signal_forms zs) word listed values) is
    ∙ ap₂ (value_lines (signal_forms others) word) are given

-- the parts of the first line
pub line_parts : (b first between second end before t0 t1 t2 t3 : List ℕ)
    → before ≡ b → t1 ≡ t0 ++ before ++ first → t2 ≡ t1 ++ between ++ second
    → t3 ≡ t2 ++ end → t3 ≡ t0 ++ (b ++ first ++ between ++ second ++ end)
line_parts b first between second end before t0 t1 t2 t3 is one two three =
    three
    ∙ ap (λ t. t ++ end)
    (two ∙ ap (λ t. t ++ between ++ second) (one ∙ ap (λ t. t0 ++ t ++ first) is))
    ∙ ap (λ t. t ++ between ++ second ++ end) (append_assoc t0 b first)
    ∙ ap (λ t. t ++ second ++ end) (append_assoc t0 (b ++ first) between)
    ∙ ap (λ t. t ++ end) (append_assoc t0 (b ++ first ++ between) second)
    ∙ append_assoc t0 (b ++ first ++ between ++ second) end
