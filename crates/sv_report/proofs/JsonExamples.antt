-- Lines of JSON that tell verdicts, by computation.
use Rattle.std.proofs.Common.{◌≡◌, ℕ, List, [], ◌∷◌, ◌++◌, codes, refl, ap, ◌∙◌}
use Rattle.std.specs.Fmt.{digits}
use Rattle.std.specs.Str.{chars, is_utf8}
use Rattle.std.specs.Str.Lossy.{utf8_lossy, utf8_valid_len}
use Rattle.serde_json.specs.Data.{Data, string}
use Rattle.serde_json.proofs.OnLiterals.{serde_json_on_literals}
use Rattle.sv_flat.specs.declared.signals.SigKind.TheVariants.{TopInput}
use Rattle.sv_flat.specs.Design.{FlatDesign}
use Rattle.sv_flat.specs.SignalLists.{registers, inputs}
use Rattle.sv_flat.proofs.Forms.{at}
use Rattle.sv_obl.specs.declared.frames.Frame.TheVariants.{Now, Next}
use Rattle.sv_obl.specs.declared.valuations.Valuation.{Valuation as Listed}
use Rattle.sv_obl.specs.SignalNames.{name_of}
use Rattle.sv_obl.specs.Obligations.{flow}
use Rattle.sv_obl.proofs.ExampleDesigns.{high, signal, turns, held_register}
use Rattle.sv_report.specs.JsonTexts.{object_of, number_data, name_data, values_data, flow_data}
use Rattle.sv_report.specs.JsonTexts.{json_line, accepted_json, refusal_json, limit_json}
use Rattle.sv_report.specs.JsonTexts.{unknown_json}

pub one_holds : accepted_json 1 ≡ codes "{\"obligations\":1,\"verdict\":\"accepted\"}\n"
unfolding digits serde_json_on_literals
one_holds = refl

pub a_rule_without_names : refusal_json 201 (at 1 1) []
    ≡ codes "{\"column\":1,\"line\":1,\"names\":[],\"rule\":201,\"verdict\":\"refused\"}\n"
unfolding digits serde_json_on_literals
a_rule_without_names = refl

pub a_rule_of_two_names : refusal_json 303 (at 1 1) (codes "A" ∷ codes "B" ∷ [])
    ≡ codes "{\"column\":1,\"line\":1,\"names\":[\"A\",\"B\"],\"rule\":303,"
    ++ codes "\"verdict\":\"refused\"}\n"
unfolding digits serde_json_on_literals chars is_utf8 utf8_lossy utf8_valid_len
a_rule_of_two_names = refl

pub a_place_in_line_3 : refusal_json 604 (at 3 9) (codes "u.y" ∷ [])
    ≡ codes "{\"column\":9,\"line\":3,\"names\":[\"u.y\"],\"rule\":604,"
    ++ codes "\"verdict\":\"refused\"}\n"
unfolding digits serde_json_on_literals chars is_utf8 utf8_lossy utf8_valid_len
a_place_in_line_3 = refl

pub a_limit_of_a_name : limit_json 702 (codes "y" ∷ [])
    ≡ codes "{\"names\":[\"y\"],\"rule\":702,\"verdict\":\"refused\"}\n"
unfolding digits serde_json_on_literals chars is_utf8 utf8_lossy utf8_valid_len
a_limit_of_a_name = refl

pub a_spent_budget : unknown_json 2 1
    ≡ codes "{\"budget\":1,\"obligation\":2,\"verdict\":\"unknown\"}\n"
unfolding digits serde_json_on_literals
a_spent_budget = refl

-- names stand in byte order, whatever the order of the signals
pub names_in_order : json_line (values_data
    (signal (codes "z") 1 TopInput high ∷ signal (codes "Z") 1 TopInput high
    ∷ signal (codes "_a") 1 TopInput high ∷ signal (codes "a10") 64 TopInput high
    ∷ signal (codes "a9") 8 TopInput high ∷ [])
    (0 ∷ 1 ∷ 2 ∷ 3 ∷ 4 ∷ []) (0 ∷ 0 ∷ 1 ∷ 0xfedcba9876543210 ∷ 171 ∷ []))
    ≡ codes "{\"Z\":\"0\",\"_a\":\"1\",\"a10\":\"fedcba9876543210\",\"a9\":\"ab\","
    ++ codes "\"z\":\"0\"}\n"
unfolding digits serde_json_on_literals chars is_utf8 utf8_lossy utf8_valid_len
names_in_order = refl

-- ---- flows, with these values of the registers and the inputs

abbrev shown : FlatDesign → (number target read : ℕ) → (regs given : List ℕ) → (next : Data) →
    List ℕ
shown design number target read regs given next = json_line (object_of (
    (codes "from", name_data (name_of design.signals read)) ∷
    (codes "in", values_data design.signals (inputs design) given) ∷
    (codes "next", next) ∷
    (codes "obligation", number_data number) ∷
    (codes "reg", values_data design.signals (registers design) regs) ∷
    (codes "target", name_data (name_of design.signals target)) ∷
    (codes "verdict", string (codes "refused")) ∷ []))

abbrev given_next : FlatDesign → List ℕ → Data
given_next design next = values_data design.signals (inputs design) next

held_shown : shown held_register 3 4 4 (1 ∷ 0 ∷ []) (0 ∷ 0 ∷ [])
    (given_next held_register (0 ∷ 0 ∷ []))
    ≡ codes "{\"from\":\"r\",\"in\":{\"k\":\"0\",\"nxt\":\"0\"},"
    ++ codes "\"next\":{\"k\":\"0\",\"nxt\":\"0\"},\"obligation\":3,"
    ++ codes "\"reg\":{\"owner\":\"1\",\"r\":\"0\"},\"target\":\"r\",\"verdict\":\"refused\"}\n"
unfolding digits serde_json_on_literals chars is_utf8 utf8_lossy utf8_valid_len
held_shown = refl

turns_shown : shown turns 2 3 2 [] (0 ∷ 0 ∷ 0 ∷ []) (object_of [])
    ≡ codes "{\"from\":\"b\",\"in\":{\"a\":\"0\",\"b\":\"0\",\"turn\":\"0\"},\"next\":{},"
    ++ codes "\"obligation\":2,\"reg\":{},\"target\":\"y\",\"verdict\":\"refused\"}\n"
unfolding digits serde_json_on_literals chars is_utf8 utf8_lossy utf8_valid_len
turns_shown = refl

-- a register that is held while its label changes
pub a_flow_of_a_register : (v : Listed) → v.regs.items ≡ 1 ∷ 0 ∷ []
    → v.inputs.items ≡ 0 ∷ 0 ∷ [] → v.next_inputs.items ≡ 0 ∷ 0 ∷ []
    → json_line (flow_data held_register 3 (flow 4 Next) 4 v)
    ≡ codes "{\"from\":\"r\",\"in\":{\"k\":\"0\",\"nxt\":\"0\"},"
    ++ codes "\"next\":{\"k\":\"0\",\"nxt\":\"0\"},\"obligation\":3,"
    ++ codes "\"reg\":{\"owner\":\"1\",\"r\":\"0\"},\"target\":\"r\",\"verdict\":\"refused\"}\n"
a_flow_of_a_register v regs given next =
    ap (λ rs. shown held_register 3 4 4 rs v.inputs.items
    (given_next held_register v.next_inputs.items)) regs
    ∙ ap (λ gs. shown held_register 3 4 4 (1 ∷ 0 ∷ []) gs
    (given_next held_register v.next_inputs.items)) given
    ∙ ap (λ ns. shown held_register 3 4 4 (1 ∷ 0 ∷ []) (0 ∷ 0 ∷ [])
    (given_next held_register ns)) next
    ∙ held_shown

-- a combinational target has no next inputs
pub a_flow_of_an_output : (v : Listed) → v.regs.items ≡ [] → v.inputs.items ≡ 0 ∷ 0 ∷ 0 ∷ []
    → json_line (flow_data turns 2 (flow 3 Now) 2 v)
    ≡ codes "{\"from\":\"b\",\"in\":{\"a\":\"0\",\"b\":\"0\",\"turn\":\"0\"},\"next\":{},"
    ++ codes "\"obligation\":2,\"reg\":{},\"target\":\"y\",\"verdict\":\"refused\"}\n"
a_flow_of_an_output v regs given =
    ap (λ rs. shown turns 2 3 2 rs v.inputs.items (object_of [])) regs
    ∙ ap (λ gs. shown turns 2 3 2 [] gs (object_of [])) given
    ∙ turns_shown
