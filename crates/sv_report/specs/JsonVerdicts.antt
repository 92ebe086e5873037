-- The text of a verdict for machines (this project's profile).
use Rattle.std.specs.Prelude.{◌≡◌, ℕ, List, Option}
use Rattle.sv_flat.specs.declared.designs.Flat.{Flat}
use Rattle.sv_obl.specs.declared.queries.Query.{Query}
use Rattle.sv_obl.specs.declared.valuations.Valuation.{Valuation}
use Rattle.sv_report.specs.declared.verdicts.Broken.{Broken}
use Rattle.sv_report.specs.declared.verdicts.Broken.TheVariants as broken
use Rattle.sv_report.specs.declared.verdicts.Verdict.{Verdict}
use Rattle.sv_report.specs.declared.verdicts.Verdict.TheVariants as verdict
use Rattle.sv_report.specs.JsonTexts.{accepted_json, refusal_json, limit_json, unknown_json}
use Rattle.sv_report.specs.JsonTexts.{IsFlowJson}
use Rattle.sv_report.specs.Verdicts.{IsGiven}

-- it is of a text, and not of a certificate or of runs
abbrev pub IsOfText : Broken → Type 0
IsOfText (broken.Rule r) = Unit {0}
IsOfText (broken.Limit number names) = Unit {0}
IsOfText (broken.Fails number v) = Unit {0}
IsOfText other = ⊥

-- the verdict has a text for machines
abbrev pub HasJson : Verdict → Type 0
HasJson (verdict.Refused cause) = IsOfText cause
HasJson other = Unit {0}

-- the text is that of the obligation that is given with its design
abbrev pub IsGivenFlowJson : Option Flat → Option Query → (number : ℕ) → Valuation →
    (text : List ℕ) → Type 0
IsGivenFlowJson design query number v text =
    IsGiven (λ d o. IsFlowJson d number o v text) design query

-- the text tells why something is refused
abbrev pub IsRefusalJson : Option Flat → Option Query → Broken → (text : List ℕ) → Type 0
IsRefusalJson design query (broken.Rule r) text =
    text ≡ refusal_json r.number r.place r.names.items
IsRefusalJson design query (broken.Limit number names) text = text ≡ limit_json number names.items
IsRefusalJson design query (broken.Fails number v) text = IsGivenFlowJson design query number v text
IsRefusalJson design query other text = ⊥

-- the text tells the verdict
abbrev pub IsVerdictJson : Option Flat → Option Query → Verdict → (text : List ℕ) → Type 0
IsVerdictJson design query (verdict.Accepted count) text = text ≡ accepted_json count
IsVerdictJson design query (verdict.Refused cause) text = IsRefusalJson design query cause text
IsVerdictJson design query (verdict.Unknown obligation budget) text =
    text ≡ unknown_json obligation budget
