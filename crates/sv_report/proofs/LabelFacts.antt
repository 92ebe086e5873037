-- The label that a list of values gives is that of their environment.
use Rattle.std.proofs.Common.{◌≡◌, ℕ, ◌<◌, List, length, get_or, None, Some, refl, sym, ap, ◌∙◌}
use Rattle.sv_lattice.specs.declared.labels.Label.{Label}
use Rattle.sv_lattice.specs.declared.labels.Label.TheVariants.{Point as Declared, Table}
use Rattle.sv_lattice.specs.Labels.{label_of}
use Rattle.sv_lattice.specs.Maps.{MapRows}
use Rattle.sv_flat.specs.declared.designs.Flat.{Flat}
use Rattle.sv_flat.specs.declared.signals.Signal.{Signal}
use Rattle.sv_flat.specs.ByNumber.{by_number}
use Rattle.sv_flat.specs.FlatSystem.{flat_system, label_in}
use Rattle.sv_flat.specs.Views.{design_of}
use Rattle.sv_flat.proofs.SelectorBounds.{label_here}

same_label : (maps : List MapRows) (label : Label) (values : List ℕ) →
    label_of maps label values ≡ label_in maps label (by_number values)
same_label maps (Declared point) values = refl
same_label maps (Table map first None) values = refl
same_label maps (Table map first (Some second)) values = refl

-- of a design as the code holds it
pub label_seen : (flat : Flat) (signals : List Signal) (maps : List MapRows) (s : ℕ) (x : Signal)
    (values : List ℕ) → signals ≡ flat.signals.items → maps ≡ flat.maps.items
    → s < length flat.signals.items
    → label_of maps (get_or signals s x).label values
    ≡ (flat_system (design_of flat)).label s (by_number values)
label_seen flat signals maps s x values signals_are maps_are inside =
    ap (λ (ms : List MapRows). label_of ms (get_or signals s x).label values) maps_are
    ∙ ap (λ (zs : List Signal). label_of flat.maps.items (get_or zs s x).label values) signals_are
    ∙ same_label flat.maps.items (get_or flat.signals.items s x).label values
    ∙ ap (λ (label : Label). label_in flat.maps.items label (by_number values))
    (sym (label_here flat.signals.items s x inside))
