-- The text of a verdict (this project's profile).
use Rattle.std.specs.Prelude.{◌≡◌, ℕ, ◌<◌, List, [], length, Option, Some, None}
use Rattle.sv_flat.specs.declared.designs.Flat.{Flat}
use Rattle.sv_flat.specs.Design.{FlatDesign}
use Rattle.sv_flat.specs.Views.{design_of}
use Rattle.sv_obl.specs.declared.queries.Query.{Query}
use Rattle.sv_obl.specs.declared.valuations.Valuation.{Valuation}
use Rattle.sv_obl.specs.DesignQueries.{IsQueryOf}
use Rattle.sv_obl.specs.SignalNames.{name_of}
use Rattle.sv_obl.specs.Obligations.{Obligation}
use Rattle.sv_obl.specs.Validity.{Falsifies}
use Rattle.sv_obl.specs.Valuations.{FitsDesign, valuation_of}
use Rattle.sv_obl.specs.Views.{obligation_of}
use Rattle.sv_report.specs.declared.verdicts.Broken.{Broken}
use Rattle.sv_report.specs.declared.verdicts.Broken.TheVariants as broken
use Rattle.sv_report.specs.declared.verdicts.Verdict.{Verdict}
use Rattle.sv_report.specs.declared.verdicts.Verdict.TheVariants as verdict
use Rattle.sv_report.specs.FlowText.{AsksFlow, IsFlowText}
use Rattle.sv_report.specs.Text.{accepted_text, fault_text}
use Rattle.sv_texts.specs.Texts.{refusal_text, limit_text}
use Rattle.sv_report.specs.Text.{input_text, lengths_text, unknown_text}
use Rattle.sv_texts.specs.Texts.{stimulus_text}
use Rattle.sv_report.specs.Text.{view_text}

-- the obligation is one of the design's, asks of labels, and fails at the values
pub record FailsAt (design : FlatDesign) (o : Obligation) (v : Valuation) : Type 0 where
  pub query : IsQueryOf design o
  pub flow : AsksFlow o.goal
  pub fits : FitsDesign design v
  pub fails : Falsifies design (valuation_of design v) o

-- a design is given with an obligation, and this holds of the two
abbrev pub IsGiven : (FlatDesign → Obligation → Type 0) → Option Flat → Option Query → Type 0
IsGiven holds (Some design) (Some query) = holds (design_of design) (obligation_of query)
IsGiven holds (Some design) None = ⊥
IsGiven holds None query = ⊥

-- what is given is such a design with such an obligation
abbrev pub IsGivenFailing : Option Flat → Option Query → Valuation → Type 0
IsGivenFailing design query v = IsGiven (λ d o. FailsAt d o v) design query

-- a design is given, and the signal is one of it
abbrev pub IsGivenSignal : Option Flat → (signal : ℕ) → Type 0
IsGivenSignal (Some design) s = s < length design.signals.items
IsGivenSignal None s = ⊥

-- an obligation that fails is given with its design, and so is a signal
abbrev pub HasCause : Option Flat → Option Query → Broken → Type 0
HasCause design query (broken.Fails number v) = IsGivenFailing design query v
HasCause design query (broken.Input cycle s) = IsGivenSignal design s.0
HasCause design query (broken.View cycle s) = IsGivenSignal design s.0
HasCause design query other = Unit {0}

abbrev pub IsTellable : Option Flat → Option Query → Verdict → Type 0
IsTellable design query (verdict.Refused cause) = HasCause design query cause
IsTellable design query other = Unit {0}

-- the text is that of the obligation that is given with its design
abbrev pub IsGivenFlowText : Option Flat → Option Query → (number : ℕ) → Valuation →
    (text : List ℕ) → Type 0
IsGivenFlowText design query number v text =
    IsGiven (λ d o. IsFlowText d number o v text) design query

-- the name of a signal of the given design; nothing where none is given
abbrev pub given_name : Option Flat → (signal : ℕ) → List ℕ
given_name (Some design) s = name_of (design_of design).signals s
given_name None s = []

-- the text tells why something is refused
abbrev pub IsRefusalText : Option Flat → Option Query → Broken → (text : List ℕ) →
    Type 0
IsRefusalText design query (broken.Fails number v) text = IsGivenFlowText design query number v text
IsRefusalText design query (broken.Rule r) text =
    text ≡ refusal_text r.number r.place r.names.items
IsRefusalText design query (broken.Limit number names) text = text ≡ limit_text number names.items
IsRefusalText design query (broken.Proof line) text = text ≡ fault_text line
IsRefusalText design query (broken.Stimulus source line kind) text =
    text ≡ stimulus_text source line kind
IsRefusalText design query (broken.Input cycle s) text =
    text ≡ input_text cycle (given_name design s.0)
IsRefusalText design query (broken.View cycle s) text =
    text ≡ view_text cycle (given_name design s.0)
IsRefusalText design query (broken.Lengths cycles) text = text ≡ lengths_text cycles

-- the text tells the verdict
abbrev pub IsVerdictText : Option Flat → Option Query → Verdict → (text : List ℕ) →
    Type 0
IsVerdictText design query (verdict.Accepted count) text = text ≡ accepted_text count
IsVerdictText design query (verdict.Refused cause) text = IsRefusalText design query cause text
IsVerdictText design query (verdict.Unknown obligation budget) text =
    text ≡ unknown_text obligation budget
