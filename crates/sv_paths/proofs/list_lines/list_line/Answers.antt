use Rattle.std.proofs.Common.{length, ap, sym, subst, ◌∙◌}
use Rattle.sv_flat.specs.Views.{design_of, signal_form}
use Rattle.sv_obl.specs.Views.{obligation_of, IsAmong}
use Rattle.sv_obl.proofs.AmongFacts.{query_among}
use Rattle.sv_obl.proofs.FormLists.{length_mapped}
use Rattle.sv_paths.proofs.list_lines.list_line.Goals as goal

pub push_line-requires : goal.push_line-requires
push_line-requires c =
    let flat = c.args.design.now in
    let o = obligation_of c.args.query.now in
    record {
      among = subst (λ n. IsAmong n o)
          (length_mapped signal_form flat.signals.items ∙ ap length (sym c.signals.ensures.signals))
          (query_among (design_of flat) o c.requires.query);
    }
