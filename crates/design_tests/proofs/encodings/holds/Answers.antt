use Rattle.std.proofs.Common.{map, sym, subst}
use Rattle.std.specs.Prelude.{All, Contains}
use Rattle.std.proofs.lemmas.List.Elements.{All-nil}
use Rattle.sv_flat.specs.Views.{design_of}
use Rattle.sv_flat.specs.SignalLists.{system_signals}
use Rattle.sv_obl.specs.DesignQueries.{IsStepOf, IsExpressionOf, Ascends}
use Rattle.sv_obl.specs.Views.{step_form, number_of}
use Rattle.design_tests.proofs.QueryFacts.{three_conditions, two_facts}
use Rattle.design_tests.proofs.encodings.holds.Goals as goal

pub returns : goal.returns
returns c =
    let design = design_of c.args.design.now in
    let all = subst (λ steps. All (IsStepOf design) (map step_form steps))
    (sym c.as_slice.ensures.value) c.requires.path in
    let asked = three_conditions design c.as_slice.result.now c.first-item.result
    c.second-item.result c.goal-item.result all c.in-len3.len_at_least c.first-item.is
    c.second-item.is c.goal-item.is in
    record {
      facts = two_facts design c.in_ok-facts.facts.items c.push.new.self.items
          c.push-2.new.self.items c.in_ok-copy.field-0 c.in_ok-copy-2.field-0
          c.in_ok-facts.ensures.items c.in_ok-push.ensures.items c.in_ok-push-2.ensures.items
          (subst (IsExpressionOf design) (sym c.in_ok-copy.ensures) asked.0)
          (subst (IsExpressionOf design) (sym c.in_ok-copy-2.ensures) asked.1);
      path = subst (λ steps. All (IsStepOf design) (map step_form steps))
          (sym c.new.ensures.items) (All-nil (IsStepOf design));
      reads = subst (λ ss. All (Contains (system_signals design)) (map number_of ss))
          (sym c.new-2.ensures.items) (All-nil (Contains (system_signals design)));
      ascending = subst (λ ss. Ascends (map number_of ss)) (sym c.new-2.ensures.items) tt;
      goal = subst (IsExpressionOf design) (sym c.in_ok-expr.ensures) asked.2;
    }
