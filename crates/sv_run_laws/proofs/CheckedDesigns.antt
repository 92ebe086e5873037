-- What holds of every flat design that a text stands for.
use Rattle.std.proofs.Common.{◌≡◌, ℕ, List, [], Option, Some, subst}
use Rattle.std.specs.Prelude.{All}
use Rattle.std.proofs.lemmas.List.Elements.{All-map, All-nil}
use Rattle.sv_lattice.specs.Maps.{MapRows}
use Rattle.sv_lattice.specs.Tables.{IsLatticeTable}
use Rattle.sv_ast.specs.Tree.{TextTree}
use Rattle.sv_flat.specs.Admission.{IsAdmitted}
use Rattle.sv_flat.specs.Design.{FlatDesign}
use Rattle.sv_elab_rules.specs.Texts.{flat_of}
use Rattle.sv_elab_laws.specs.FlattenedTexts.{CanBeFlattened}
use Rattle.sv_elab_laws.proofs.PartsShapes.{flattened}
use Rattle.sv_elab_laws.proofs.PartsWalked.{walked_text}
use Rattle.sv_elab_laws.proofs.SoundDesigns.{design_sound}
use Rattle.sv_obl.specs.Noninterference.{IsChecked}
use Rattle.sv_run_laws.proofs.LatticesAsked.{walked_lattice}
use Rattle.sv_run_laws.proofs.MapsAsked.{AreRows, walked_maps}

pub walked_design : (text : TextTree) (asked : Option (List ℕ)) (design : FlatDesign)
    → flat_of text asked ≡ Some design
    → IsLatticeTable design.lattice × All AreRows design.maps
walked_design text asked design h =
    let w = walked_text text asked design h in
    subst (λ (d : FlatDesign). IsLatticeTable d.lattice × All AreRows d.maps) w.is (
      walked_lattice text w.order w.lattice,
      All-map AreRows (λ (m : List ℕ × MapRows). m.1) w.maps
          (walked_maps w.order.points text.maps [] w.maps w.maps_walked
          (All-nil (λ (m : List ℕ × MapRows). AreRows m.1))),
    )

-- so nothing but admission is left to ask of it
pub admitted_checked : (text : TextTree) (asked : Option (List ℕ)) (design : FlatDesign)
    → CanBeFlattened text → flat_of text asked ≡ Some design → IsAdmitted design
    → IsChecked design
admitted_checked text asked design can flat admitted =
    let tables = walked_design text asked design flat in
    record {
      is_sound =
          design_sound text asked design can.shaped (flattened text can) can.lengths flat;
      admitted = admitted;
      lattice = tables.0;
      maps = tables.1;
    }
