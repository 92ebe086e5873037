-- Private: how the code goes. What ranges give.
use Rattle.std.specs.Prelude.{◌≡◌, ℕ, ◌+◌, ◌≤◌, Bool, true, Option, Some, None, option_map}
use Rattle.std.specs.Prelude.{unwrap_or, ℤ, Ok}
use Rattle.sv_num.specs.Parts.{extended}
use Rattle.sv_ast.specs.Scopes.{Number}
use Rattle.sv_ast.specs.Tree.{SpanTree}
use Rattle.sv_ast.specs.Values.{natural}
use Rattle.sv_ast.specs.Instances.{span_width}
use Rattle.sv_elab_rules.specs.Names.{Names}
use Rattle.sv_elab_rules.specs.Declarations.{is_range, range_steps}

-- the width of the range between two bounds
abbrev pub IsWidthOf : (high low : ℤ) → (width : ℕ) → Type 0
IsWidthOf high low width = (is_range 64 high low ≡ true) × (width ≡ natural high + 1) × (width ≤ 64)

-- a range that breaks no rule, with its width
abbrev pub IsWidth : Names → SpanTree → (width : ℕ) → Type 0
IsWidth names span width = ((range_steps names (Some span)).end ≡ Ok tt)
    × (width ≡ span_width names.scope (Some span)) × (1 ≤ width) × (width ≤ 64)

-- likewise where there may be none
abbrev pub IsRange : Names → Option SpanTree → Option ℕ → Type 0
IsRange names span width = ((range_steps names span).end ≡ Ok tt)
    × (width ≡ option_map (λ s. span_width names.scope (Some s)) span)
    × (1 ≤ unwrap_or width 1) × (unwrap_or width 1 ≤ 64)

-- a parameter's value at the width of its range, or as it is
abbrev pub ranged : (signed : Bool) → (width : Option ℕ) → Number → Number
ranged signed None final = final
ranged signed (Some width) final =
    record {
      width = width;
      signed = signed;
      value = extended final.signed final.width width final.value;
    }
