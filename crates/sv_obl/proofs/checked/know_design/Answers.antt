use Rattle.std.proofs.Common.{All, subst}
use Rattle.sv_lattice.specs.Maps.{MapRows, IsMap}
use Rattle.sv_lattice.specs.Tables.{IsLatticeTable}
use Rattle.sv_obl.proofs.checked.know_design.Goals as goal

pub returns-clause-checked : goal.returns-clause-checked
returns-clause-checked c =
    let Keep : MapRows → Type 0 = λ m. IsMap m.first m.second m.rows in
    record {
      is_sound = c.lattice.ensures.design.is_sound;
      admitted = c.lattice.ensures.design.is_admitted;
      lattice = subst IsLatticeTable c.lattice.ensures.lattice c.size-size.ensures.lattice;
      maps = subst (All Keep) c.maps.ensures.maps c.know_maps.ensures;
    }
