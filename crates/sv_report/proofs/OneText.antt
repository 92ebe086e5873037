-- An obligation that fails at some values has one text in each style.
use Rattle.std.proofs.Common.{◌≡◌, ℕ, Bool, List, [], ◌∷◌, cond, Some, refl, sym, ap, ap₂, ◌∙◌}
use Rattle.std.specs.Prelude.{Contains, find}
use Rattle.std.proofs.lemmas.List.Elements.{All-contains}
use Rattle.sv_system.proofs.Lists.{Contains-head, Contains-later}
use Rattle.sv_flat.specs.Design.{FlatDesign}
use Rattle.sv_design.specs.Designs.{IsDesign}
use Rattle.sv_obl.specs.declared.valuations.Valuation.{Valuation}
use Rattle.sv_obl.specs.DesignQueries.{IsQueryOf}
use Rattle.sv_obl.specs.Obligations.{Obligation}
use Rattle.sv_obl.specs.Validity.{goal_frame, Valuation as Values}
use Rattle.sv_obl.specs.Valuations.{valuation_of}
use Rattle.sv_report.specs.declared.styles.Style.{Style}
use Rattle.sv_report.specs.declared.styles.Style.TheVariants.{Lines, Json}
use Rattle.sv_report.specs.FlowText.{AsksFlow, asked_signal, stays, flow_text, IsFirstToStay}
use Rattle.sv_report.specs.JsonTexts.{json_line, flow_data}
use Rattle.sv_report.specs.Styles.{IsFlowTextIn}
use Rattle.sv_report.proofs.StayFacts.{IsSeen, same_number, stays_same, asked_seen, agree_now}
use Rattle.sv_report.proofs.StayFacts.{agree_there}

-- tests that agree find the same
find_same : (p q : ℕ → Bool) (xs : List ℕ) → ((x : ℕ) → Contains xs x → p x ≡ q x) →
    find p xs ≡ find q xs
find_same p q [] same = refl
find_same p q (x ∷ xs) same =
    ap₂ (λ b rest. cond b (Some x) rest) (same x (Contains-head x xs))
    (find_same p q xs (λ y at. same y (Contains-later x xs y at)))

module _ (design : FlatDesign) (is : IsDesign design) (o : Obligation) (asks : AsksFlow o.goal)
    (query : IsQueryOf design o) where
  one_read : (v : Values) (read other : ℕ) → IsFirstToStay design o v read
      → IsFirstToStay design o v other → read ≡ other
  one_read v read other a b =
      same_number read other (sym a.first
      ∙ find_same (stays design a.now a.there (asked_signal o.goal))
      (stays design b.now b.there (asked_signal o.goal)) o.reads
      (λ t at. stays_same design is a.now a.there b.now b.there (asked_signal o.goal) t
      (asked_seen design is o o.goal asks query.goal)
      (All-contains (IsSeen design is) o.reads t query.reads at)
      (agree_now design is v a.now b.now a.settled b.settled)
      (agree_there design is v (goal_frame o.goal) a.now b.now a.there b.there a.settled
      b.settled a.in_frame b.in_frame))
      ∙ b.first)

-- in each style
pub one_text : (style : Style) (design : FlatDesign) → IsDesign design → (number : ℕ)
    (o : Obligation) (v : Valuation) → AsksFlow o.goal → IsQueryOf design o
    → (one other : List ℕ) → IsFlowTextIn style design number o v one
    → IsFlowTextIn style design number o v other → one ≡ other
one_text Lines design is number o v asks query one other first second =
    first.prints
    ∙ ap (λ read. flow_text design number o.goal read v)
    (one_read design is o asks query (valuation_of design v) first.read second.read first.first
    second.first)
    ∙ sym second.prints
one_text Json design is number o v asks query one other first second =
    first.prints
    ∙ ap (λ read. json_line (flow_data design number o.goal read v))
    (one_read design is o asks query (valuation_of design v) first.read second.read first.first
    second.first)
    ∙ sym second.prints
