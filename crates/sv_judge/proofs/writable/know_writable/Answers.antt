use Rattle.std.proofs.Common.{◌<◌, ◌^◌, map, sym, subst}
use Rattle.std.specs.Prelude.{All}
use Rattle.sv_clause.specs.Logs.{plain_step, plain_log}
use Rattle.sv_obl.proofs.FormLists.{length_mapped}
use Rattle.sv_judge.specs.Writable.{IsTyped}
use Rattle.sv_judge.proofs.WritableFacts.{writable_steps}
use Rattle.sv_judge.proofs.writable.know_writable.Goals as goal

pub returns : goal.returns
returns c = λ clauses derived.
    let steps = c.args.log.now.steps.items in
    record {
      count = subst (λ n. n < 2 ^ 32) (sym (length_mapped plain_step steps)) c.requires;
      each =
          writable_steps clauses (plain_log c.args.log.now)
          (subst (λ ds. All IsTyped (map plain_step ds)) c.deref.ensures.value
          c.know_steps.ensures) derived;
    }
