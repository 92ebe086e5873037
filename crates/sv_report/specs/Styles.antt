-- The text of a verdict, as lines or as JSON.
use Rattle.std.specs.Prelude.{ℕ, List}
use Rattle.sv_num.specs.declared.faults.Place.{Place}
use Rattle.sv_flat.specs.Design.{FlatDesign}
use Rattle.sv_obl.specs.declared.valuations.Valuation.{Valuation}
use Rattle.sv_obl.specs.Obligations.{Obligation}
use Rattle.sv_report.specs.declared.styles.Style.{Style}
use Rattle.sv_report.specs.declared.styles.Style.TheVariants.{Lines, Json}
use Rattle.sv_report.specs.FlowText.{IsFlowText}
use Rattle.sv_report.specs.JsonTexts.{accepted_json, refusal_json, limit_json, unknown_json}
use Rattle.sv_report.specs.JsonTexts.{IsFlowJson}
use Rattle.sv_report.specs.Text.{accepted_text, unknown_text}
use Rattle.sv_texts.specs.Texts.{refusal_text, limit_text}

-- so many obligations hold
abbrev pub accepted_in : Style → (count : ℕ) → List ℕ
accepted_in Lines count = accepted_text count
accepted_in Json count = accepted_json count

-- a broken rule, where it is broken, and the names that go with it
abbrev pub refusal_in : Style → (number : ℕ) → Place → (names : List (List ℕ)) → List ℕ
refusal_in Lines number place names = refusal_text number place names
refusal_in Json number place names = refusal_json number place names

-- a limit that is exceeded
abbrev pub limit_in : Style → (number : ℕ) → (names : List (List ℕ)) → List ℕ
limit_in Lines number names = limit_text number names
limit_in Json number names = limit_json number names

-- an obligation on which the budget was spent
abbrev pub unknown_in : Style → (obligation budget : ℕ) → List ℕ
unknown_in Lines obligation budget = unknown_text obligation budget
unknown_in Json obligation budget = unknown_json obligation budget

-- the text is that of the obligation with this number, which fails at these values
abbrev pub IsFlowTextIn : Style → FlatDesign → (number : ℕ) → Obligation → Valuation →
    (text : List ℕ) → Type 0
IsFlowTextIn Lines design number o v text = IsFlowText design number o v text
IsFlowTextIn Json design number o v text = IsFlowJson design number o v text
