-- A valuation that falsifies an obligation of a text's design does so for the text.
use Rattle.std.proofs.Common.{ℕ, List, [], Option, subst}
use Rattle.std.specs.Prelude.{Contains}
use Rattle.std.proofs.lemmas.List.Elements.{Contains-get_or}
use Rattle.std.proofs.lemmas.Option.{slice_get_within, get_or_from_slice_get}
use Rattle.sv_obl.specs.Obligations.{Obligation, obligations}
use Rattle.sv_obl.specs.declared.valuations.Valuation.{Valuation as Listed}
use Rattle.sv_judge.specs.Verdicts.{IsNumbered, IsFalsified}
use Rattle.sv_flat.specs.Design.{FlatDesign}
use Rattle.sv_run_laws.specs.FalsifiedTexts.{ListsFalsifyText}
use Rattle.sv_run_laws.proofs.ListedValues.{listed_alike}
use Rattle.sv_run_laws.proofs.TextLaws.{read_flattened}
use Rattle.sv_cli.specs.Texts.{Passes}
use Rattle.sv_cli.proofs.TreeAnswers.{releases_nothing}

-- what has a number is one of the obligations
numbered_among : (design : FlatDesign) (number before : ℕ) (o : Obligation)
    → IsNumbered design number before o → Contains (obligations [] design) o
numbered_among design number before o is =
    let os = obligations [] design in
    subst (Contains os) (get_or_from_slice_get os before o o is.among)
    (Contains-get_or os before o (slice_get_within os before o is.among))

module _ (top : Option (List ℕ)) (text : List ℕ) (passes : Passes top text) where
  pub printed_falsify : (budget number : ℕ) (v : Listed)
      → (falsified : IsFalsified passes.design budget number v)
      → ListsFalsifyText passes.stands.tree top passes.design v falsified.obligation
  printed_falsify budget number v falsified =
      (listed_alike passes.stands.tree top passes.design
      (read_flattened text passes.stands.tree passes.stands.means
      (releases_nothing passes.stands.tree passes.stands.built))
      passes.stands.flat passes.admitted [] v falsified.obligation falsified.fits
      (numbered_among passes.design number falsified.before falsified.obligation
      falsified.numbered)).0 falsified.falsifies
