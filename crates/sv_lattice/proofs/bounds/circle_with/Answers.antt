use Rattle.std.proofs.Common.{ℕ, length, rules}
use Rattle.std.proofs.lemmas.Iterator.{first_from_Range}
use Rattle.sv_lattice.specs.Tables.{AreApart}
use Rattle.sv_lattice.proofs.SearchLemmas.{found_number}
use Rattle.sv_lattice.proofs.bounds.circle_with.Goals as goal

pub returns : goal.returns
returns c =
    let P : ℕ → Type 0 = AreApart c.args.table.now c.args.first in
    found_number (length c.args.table.now) P c.find.result
    (first_from_Range _ _ _ c.find.result (λ k. P k → ⊥) P c.find.ensures.ran
    (λ k q called. search rules) (λ k q called. search rules))
