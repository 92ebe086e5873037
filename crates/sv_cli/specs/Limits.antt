-- What is answered where a design exceeds a limit on its obligations.
use Rattle.std.specs.Prelude.{◌≡◌, ℕ, List, [], ◌∷◌, Some}
use Rattle.sv_flat.specs.Design.{SignalForm, FlatDesign}
use Rattle.sv_paths.specs.Limits.{Excess, many_paths, large_path, many_obligations, excess}
use Rattle.sv_obl.specs.SignalNames.{name_of}
use Rattle.sv_report.specs.Styles.{limit_in}
use Rattle.sv_report.specs.declared.styles.Style.{Style}
use Rattle.sv_cli.specs.Answer.{Answer, limit_exceeded}

-- this limit is told, with these names
pub record TellsLimit (style : Style) (number : ℕ) (names : List (List ℕ)) (answer : Answer)
    (printed : List ℕ) : Type 0 where
  pub answers : answer ≡ limit_exceeded number names
  pub prints : printed ≡ limit_in style number names

-- the number of a limit on obligations, and what is named with it: the target, where one is told
abbrev pub limit_number : Excess → ℕ
limit_number (many_paths target) = 702
limit_number (large_path target) = 712
limit_number many_obligations = 703

abbrev pub limit_names : List SignalForm → Excess → List (List ℕ)
limit_names signals (many_paths target) = name_of signals target ∷ []
limit_names signals (large_path target) = name_of signals target ∷ []
limit_names signals many_obligations = []

-- the first limit on obligations that the design exceeds is told
pub record ExceedsLimit (style : Style) (design : FlatDesign) (answer : Answer)
    (printed : List ℕ) : Type 0 where
  pub exceeded : Excess
  pub first : excess design ≡ Some exceeded
  pub tells : TellsLimit style (limit_number exceeded) (limit_names design.signals exceeded)
      answer printed
