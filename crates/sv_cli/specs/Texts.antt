-- Which rule a text breaks first, and what a text keeps that is accepted.
use Rattle.std.specs.Prelude.{◌≡◌, ℕ, ◌⊎◌, Bool, true, false, IsTrue, IsFalse, List, [], Option, Some}
use Rattle.std.specs.List.{list_any}
use Rattle.sv_num.specs.declared.faults.Place.{Place}
use Rattle.sv_system.specs.System.{Noninterferent, HasOneTrace}
use Rattle.sv_ast.specs.Tree.{ItemTree, memory_item, released, invariant_item, TextTree, ModuleTree}
use Rattle.sv_ast.specs.GrammarMeaning.{Means, BreaksSyntax}
use Rattle.sv_ast.specs.TextSystem.{text_system}
use Rattle.sv_flat.specs.Design.{FlatDesign}
use Rattle.sv_flat.specs.Admission.{IsAdmitted, IsRefused}
use Rattle.sv_elab_rules.specs.Texts.{flat_of, BreaksRule}
use Rattle.sv_obl.specs.Asked.{AskedHold}
use Rattle.sv_report.specs.Styles.{refusal_in}
use Rattle.sv_report.specs.declared.styles.Style.{Style}
use Rattle.sv_cli.specs.Answer.{Answer, rule_broken}

-- the bytes of the largest source file
abbrev pub largest_file : ℕ
largest_file = 1048576

-- ---- which rule a text breaks first

-- an item that is read and not built yet: a memory, an invariant, a released value
abbrev pub is_unbuilt_item : ItemTree → Bool
is_unbuilt_item (memory_item m) = true
is_unbuilt_item (released t e to) = true
is_unbuilt_item (invariant_item p e) = true
is_unbuilt_item _ = false

abbrev pub has_unbuilt_item : TextTree → Bool
has_unbuilt_item tree =
    list_any (λ (m : ModuleTree). list_any is_unbuilt_item m.items) tree.modules

-- the text means a tree with such an item
abbrev pub HasUnbuiltItem : List ℕ → Type 0
HasUnbuiltItem text = (tree : TextTree) × Means text tree × IsTrue (has_unbuilt_item tree)

-- what is not built is told at the first place of the text, whatever it is
pub record IsNotBuilt (number : ℕ) (place : Place) (names : List (List ℕ)) : Type 0 where
  pub numbered : number ≡ 199
  pub placed : place ≡ record { line = 1; column = 1 }
  pub nameless : names ≡ []

-- The text means a tree without such items, and this is the first rule that its walk from the top
-- asked for breaks.
pub record BreaksElaboration (top : Option (List ℕ)) (text : List ℕ) (number : ℕ) (place : Place)
    (names : List (List ℕ)) : Type 0 where
  pub tree : TextTree
  pub means : Means text tree
  pub built : IsFalse (has_unbuilt_item tree)
  pub broken : BreaksRule number place names tree top

-- The text means a tree without such items, whose walk breaks no rule and ends in this flat design.
pub record StandsFor (top : Option (List ℕ)) (text : List ℕ) (design : FlatDesign) : Type 0 where
  pub tree : TextTree
  pub means : Means text tree
  pub built : IsFalse (has_unbuilt_item tree)
  pub flat : flat_of tree top ≡ Some design

-- The text stands for a flat design, and this is the first rule of admission that it breaks.
pub record BreaksAdmission (top : Option (List ℕ)) (text : List ℕ) (number : ℕ) (place : Place)
    (names : List (List ℕ)) : Type 0 where
  pub design : FlatDesign
  pub stands : StandsFor top text design
  pub refused : IsRefused design number place names

-- The first rule that a text breaks, in the order in which rules are asked: those on tokens and on
-- the grammar, at the first place that breaks one; 199 for an item that is not built; those of
-- elaboration, in the order of its walk; those of admission, by number, place and signal.
abbrev pub BreaksFirst : (top : Option (List ℕ)) → (text : List ℕ) → (number : ℕ) → Place →
    (names : List (List ℕ)) → Type 0
BreaksFirst top text number place names =
    BreaksSyntax number names place text
    ⊎ ((HasUnbuiltItem text × IsNotBuilt number place names)
    ⊎ (BreaksElaboration top text number place names
    ⊎ BreaksAdmission top text number place names))

-- the first rule that the text breaks is told, with its place and its names
pub record RefusesText (style : Style) (top : Option (List ℕ)) (text : List ℕ) (answer : Answer)
    (printed : List ℕ) : Type 0 where
  pub number : ℕ
  pub place : Place
  pub names : List (List ℕ)
  pub broken : BreaksFirst top text number place names
  pub answers : answer ≡ rule_broken number place names
  pub prints : printed ≡ refusal_in style number place names

-- the text breaks none of them
pub record Passes (top : Option (List ℕ)) (text : List ℕ) : Type 0 where
  pub design : FlatDesign
  pub stands : StandsFor top text design
  pub admitted : IsAdmitted design

-- each obligation of the flat design that the text stands for is valid: no values of registers and
-- inputs falsify it
pub record HasValidObligations (top : Option (List ℕ)) (text : List ℕ) : Type 0 where
  pub passes : Passes top text
  pub valid : AskedHold passes.design

-- ---- the headline

-- The text means exactly one tree. Any two traces of its own cycle meaning, from the module asked
-- for as the top, that look alike to a level have equal views for it at every cycle; each start and
-- list of inputs that fit have exactly one trace.
pub record KeepsSecrets (top : Option (List ℕ)) (text : List ℕ) : Type 0 where
  pub tree : TextTree
  pub means : Means text tree
  pub only : (other : TextTree) → Means text other → other ≡ tree
  pub noninterferent : Noninterferent (text_system tree top)
  pub one_trace : HasOneTrace (text_system tree top)
