use Rattle.std.proofs.Common.{◌==◌, ◌∙◌, ap, arith, if◌then◌else◌}
use Rattle.std.specs.Global.{Vec}
use Rattle.std.specs.Prelude.{ℤ}
use mathlib.Core.Path.{fun_ext}
use Rattle.sv_blast.proofs.Rows.{words_put}
use Rattle.sv_blast.proofs.tables.WordTable.put.Goals as goal

pub returns : goal.returns
returns c =
    fun_ext (λ s.
    words_put (λ (row : Vec ℤ). row.items) c.rows.self.rows.items c.args.word c.args.signal.0 s
    (omega arith)
    ∙ ap (λ z. if s == c.args.signal.0 then c.args.word.items else z) (c.rows.invariant s))
