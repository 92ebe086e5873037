use Rattle.std.proofs.Common.{ℕ, true, false, length, rules}
use Rattle.std.proofs.lemmas.Iterator.{first_from_Range}
use Rattle.sv_lattice.specs.Tables.{HaveJoin}
use Rattle.sv_lattice.proofs.SearchLemmas.{found_number, Denies, fails_if, holds_unless}
use Rattle.sv_lattice.proofs.bounds.unjoined_with.Goals as goal

pub returns : goal.returns
returns c =
    let P : ℕ → Type 0 = HaveJoin c.args.table.now c.args.first in
    found_number (length c.args.table.now) P c.find.result
    (first_from_Range _ _ _ c.find.result (λ k. P k → ⊥) P c.find.ensures.ran
    (λ k q called. let denied : Denies (P k) true = search rules in fails_if (P k) denied)
    (λ k q called.
    let denied : Denies (P k) false = search rules in
    (search rules, holds_unless (P k) denied)))
