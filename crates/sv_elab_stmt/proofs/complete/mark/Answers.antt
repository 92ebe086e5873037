use Rattle.sv_elab_stmt.proofs.CompleteFacts.{marked}
use Rattle.sv_elab_stmt.proofs.complete.mark.Goals as goal

pub returns-in-Some-clause-held : goal.returns-in-Some-clause-held
returns-in-Some-clause-held c = λ v low.
    let there = rw c.in-Some.is at c.held_value.ensures in
    marked c.args.to.signed c.args.own c.args.to.width c.args.value c.in-Some.place c.requires.fits
    there.0 there.1
    c.args.held.now.items c.requires.size v low
