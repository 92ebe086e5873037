use Rattle.std.proofs.Common.{◌≡◌, ◌+◌, ◌-◌, ◌<◌, [], Option, sym, ap, subst, ◌∙◌}
use Rattle.std.specs.Prelude.{slice_get, option_map, IfSome}
use Rattle.sv_flat.specs.Views.{design_of, signal_form}
use Rattle.sv_flat.specs.declared.signals.SigId.{SigId}
use Rattle.sv_obl.specs.DesignQueries.{IsQueryOf}
use Rattle.sv_paths.specs.ListParts.{obligations_on}
use Rattle.sv_obl.specs.Obligations.{target_obligations}
use Rattle.sv_obl.specs.Views.{obligation_of}
use Rattle.sv_obl.specs.declared.queries.Query.{Query}
use Rattle.sv_obl.proofs.FormLists.{length_mapped}
use Rattle.sv_cli.specs.Clauses.{IsFoundOrNext}
use Rattle.sv_cli.proofs.Numbered.{found_or_next, both_ok}
use Rattle.sv_cli.proofs.clauses.next_query.Goals as goal

pub returns-in-Ok : goal.returns-in-Ok
returns-in-Ok c =
    let design = design_of c.args.design.now in
    let i = c.args.target.0 in
    let k = c.args.before - c.args.listing.now.count in
    record {
      found =
          both_ok c.path_query.result
          (λ (found : Option Query).
          option_map obligation_of found ≡ slice_get (obligations_on design c.in-Ok.paths) k)
          (λ (found : Option Query). IfSome found (λ query. IsQueryOf design (obligation_of query)))
          (IsFoundOrNext design (i + 1) c.args.before c.target_paths.new.self)
          c.path_query.ensures.found c.path_query.ensures.query
          (λ found is of_design.
          found_or_next design c.args.before i c.args.listing.now c.target_paths.new.self found
          (subst (λ n. i < n) (sym (length_mapped signal_form c.args.design.now.signals.items))
          c.requires.known)
          c.requires.at c.in-Ok.ensures.next c.requires.behind
          (is ∙ ap (λ (target : SigId). slice_get (target_obligations [] design target.0) k)
          c.in-Ok.ensures.target)
          of_design);
    }
