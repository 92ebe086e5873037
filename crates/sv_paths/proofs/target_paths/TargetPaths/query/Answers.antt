use Rattle.std.proofs.Common.{◌≡◌, ◌<◌, List, [], length, Some, sym, ap, subst, arith}
use Rattle.std.specs.Prelude.{slice_get}
use Rattle.std.proofs.lemmas.Result.{IfOk-weaker}
use Rattle.sv_flat.specs.ByNumber.{signal_forms}
use Rattle.sv_flat.specs.Views.{design_of, signal_form}
use Rattle.sv_rules.proofs.TableFacts.{few_signals}
use Rattle.sv_obl.specs.DesignQueries.{IsQueryOf, IsPlaced}
use Rattle.sv_paths.specs.Driven.{IsDriven}
use Rattle.sv_obl.specs.Obligations.{Obligation, target_obligations}
use Rattle.sv_obl.specs.Views.{obligation_of}
use Rattle.sv_paths.proofs.DesignQueryFacts.{target_are, target_are_placed}
use Rattle.sv_paths.proofs.DrivenTrails.{paths_walked}
use Rattle.sv_obl.proofs.FormLists.{length_mapped, get_all}
use Rattle.sv_paths.proofs.WrittenFacts.{as_many}
use Rattle.sv_paths.proofs.target_paths.TargetPaths.query.Goals as goal

pub query_at-requires : goal.query_at-requires
query_at-requires c =
    let design = design_of c.args.design.now in
    let s = c.args.self.now.target.0 in
    let mapped = length_mapped signal_form c.args.design.now.signals.items in
    let same = ap length c.signals.ensures.signals in
    let inside = c.requires.paths.inside in
    let most = few_signals design c.signals.ensures.design.is_sound in
    let has =
    subst (IsDriven design s c.requires.paths.total) c.in-Some.is c.requires.paths.driven in
    record {
      known = omega arith;
      few = omega arith;
      walks = paths_walked design s c.in-Some.driven.process.now c.in-Some.driven.paths has.are;
      there = subst (λ n. c.args.place < n)
          (sym (as_many design s c.in-Some.driven.process.now c.in-Some.driven.paths has.are))
          c.requires.there;
    }

pub unreachable-requires : goal.unreachable-requires
unreachable-requires c =
    let design = design_of c.args.design.now in
    let none = subst (IsDriven design c.args.self.now.target.0 c.requires.paths.total) c.in-None.is
    c.requires.paths.driven in
    let there = subst (λ (os : List Obligation). c.args.place < length os) none c.requires.there in
    omega arith

pub returns-clause-listed : goal.returns-clause-listed
returns-clause-listed c =
    let design = design_of c.args.design.now in
    c.query_at.ensures design c.requires.paths.total (ap signal_forms c.signals.ensures.signals)
    (subst (IsDriven design c.args.self.now.target.0 c.requires.paths.total) c.in-Some.is
    c.requires.paths.driven)

pub returns-clause-query : goal.returns-clause-query
returns-clause-query c =
    let design = design_of c.args.design.now in
    let d = c.signals.ensures.design in
    let s = c.args.self.now.target.0 in
    let os = target_obligations [] design s in
    IfOk-weaker c.query_at.result
    (λ query. slice_get os c.args.place ≡ Some (obligation_of query))
    (λ query. IsQueryOf design (obligation_of query))
    (λ query at. get_all (IsQueryOf design) os c.args.place (obligation_of query)
    (target_are design d.is_sound d.is_admitted s) at)
    (c.query_at.ensures design c.requires.paths.total (ap signal_forms c.signals.ensures.signals)
    (subst (IsDriven design s c.requires.paths.total) c.in-Some.is c.requires.paths.driven))

pub returns-clause-placed : goal.returns-clause-placed
returns-clause-placed c =
    let design = design_of c.args.design.now in
    let s = c.args.self.now.target.0 in
    let os = target_obligations [] design s in
    IfOk-weaker c.query_at.result
    (λ query. slice_get os c.args.place ≡ Some (obligation_of query))
    (λ query. IsPlaced (obligation_of query))
    (λ query at. get_all IsPlaced os c.args.place (obligation_of query)
    (target_are_placed design s) at)
    (c.query_at.ensures design c.requires.paths.total (ap signal_forms c.signals.ensures.signals)
    (subst (IsDriven design s c.requires.paths.total) c.in-Some.is c.requires.paths.driven))
